-- What the log shows at its marks is what the record says.
use Rattle.std.proofs.Common.{◌≡◌, ℕ, ◌+◌, ◌-◌, ◌<◌, ◌≤◌, max, Bool, true, false, cond, ltb, leb, List, [], ◌∷◌, ◌++◌, length, get_or, take, drop, set, Some, None, Option, sym, refl, ap, ◌∙◌, subst, ⊎_elim, arith, length-drop, length-set, get_or-drop}
use Rattle.std.specs.List.{AllByRecursion}
use Rattle.std.proofs.lemmas.Bool.{lt-leb, le-leb, lt-ltb, le-ltb, cases_lt}
use Rattle.std.proofs.lemmas.List.{drop_all, same_lists, get_or_default}
use Rattle.disk.specs.Meaning.{Blocks, block, is_live, block_size}
use Rattle.card.specs.declared.Update.{Update}
use Rattle.card.specs.Layout.{homes_from, latest, Area}
use Rattle.model.specs.declared.Round.{Round}
use Rattle.model.specs.Outcomes.{Outcome}
use Rattle.model.specs.Log.{Log, last}
use Rattle.model.specs.Steps.{frozen_at, log_step, install_step}
use Rattle.model.specs.Operations.{among}
use Rattle.law.specs.Record.{Commit, lay_all, up_to, blocks_of, changed_above}
use Rattle.law.specs.Law.{ByWrote}
use Rattle.law.proofs.Invariant.{absent, Logs, IfSome, Kept}
use Rattle.law.proofs.Absorb.{homes_of}
use Rattle.law.proofs.Areas.{AtMost, Rising}
use Rattle.law.proofs.Rounds.{if_some_map, LogDone, log_done, Moves, round_of, working, LogGoes, log_goes, InstallDone, install_done}

-- up to position q the log shows the first area with the commits up to q laid on
abbrev pub Shows : Log → Blocks → Area → List Commit → ℕ → Type 0
Shows l d first commits q = (b : ℕ) → homes_from ≤ b → b < length d → latest (take (q - l.start) l.updates) b (block d b) ≡ lay_all (up_to q commits) first b

-- the homes that may still absorb
abbrev pub open_homes : Log → List ℕ
open_homes l = homes_of (drop (l.frozen - l.start) l.updates)

pub record LogTold (l : Log) (d : Blocks) (first : Area) (commits : List Commit) (ended reached flushed settled : ℕ) : Type 0 where
  pub at_ended : l.end ≡ ended
  pub at_settled : l.frozen ≡ settled
  pub at_reached : last l ≡ reached
  pub below : flushed ≤ settled
  pub rising : Rising commits
  pub bounded : AllByRecursion (AtMost reached) commits
  pub changed : (b : ℕ) → among b (open_homes l) ≡ among b (changed_above settled commits)
  pub end : Shows l d first commits l.end
  pub target : IfSome l.logging (λ r. Shows l d first commits r.target)
  pub frozen : Shows l d first commits l.frozen
  pub reach : Shows l d first commits (last l)

-- commits up to the settled position changed nothing above it
pub changed_none : (q : ℕ) (cs : List Commit) → AllByRecursion (AtMost q) cs → changed_above q cs ≡ []
changed_none q [] h = refl
changed_none q (c ∷ cs) h = ap (λ t. cond t (changed_above q cs) (blocks_of c.objects ++ changed_above q cs)) (le-leb c.position q h.0) ∙ changed_none q cs h.1

-- with all settled, nothing is open
pub settled_none : (l : Log) → last l ≤ l.frozen → open_homes l ≡ []
settled_none l h = ap homes_of (drop_all (l.frozen - l.start) l.updates (omega arith))

-- a step leaves as many blocks as there were, and which of them live
pub wrote_length : (ws : List ℕ) (d e : Blocks) → ByWrote ws (e ≡ d) (λ b. (bs : List ℕ) × (e ≡ set d b (Some bs)) × (length bs ≡ block_size) × (is_live (block d b) ≡ true)) → length e ≡ length d
wrote_length [] d e h = ap length h
wrote_length (b ∷ []) d e h = ap length h.1 ∙ length-set d b (Some h.0)
wrote_length (b ∷ c ∷ ws) d e h = absurd h

module _ (first : Area) (commits : List Commit) where
  -- ## Flush

  pub flush_told : (l : Log) (d : Blocks) (ended reached flushed settled : ℕ) → LogTold l d first commits ended reached flushed settled → LogTold (frozen_at l (last l)) d first commits ended reached (last l) (last l)
  flush_told l d ended reached flushed settled t = record {
    at_ended = t.at_ended;
    at_settled = refl;
    at_reached = t.at_reached;
    below = omega arith;
    rising = t.rising;
    bounded = t.bounded;
    changed = λ b. ap (among b) (settled_none (frozen_at l (last l)) (omega arith) ∙ sym (changed_none (last l) commits (subst (λ (n : ℕ). AllByRecursion (AtMost n) commits) (sym t.at_reached) t.bounded)));
    end = t.end;
    target = t.target;
    frozen = t.reach;
    reach = t.reach;
  }

  -- ## A logger step

  module _ (l : Log) (d : Blocks) (k : Kept l d) (ended reached flushed settled : ℕ) (t : LogTold l d first commits ended reached flushed settled) where
    abbrev o : Outcome Log
    o = log_step l d

    abbrev m : Log
    m = o.state

    done : LogDone l d o
    done = log_done l d k

    same_length : length o.disk ≡ length d
    same_length = wrote_length o.wrote d o.disk done.writes

    -- what was shown is shown
    still : (q : ℕ) → Shows l d first commits q → Shows m o.disk first commits q
    still q h b a lt =
        ap (λ n. latest (take (q - n) m.updates) b (block o.disk b)) done.start ∙
        ap (λ (us : List Update). latest (take (q - l.start) us) b (block o.disk b)) done.updates ∙
        ap (latest (take (q - l.start) l.updates) b) (done.home_blocks b a) ∙
        h b a (subst (λ (n : ℕ). b < n) same_length lt)

    work_end : (q : Bool) → (cond q l (frozen_at l (last l))).end ≡ l.end
    work_end true = refl
    work_end false = refl

    work_frozen : (P : ℕ → Type 0) (q : Bool) → P l.frozen → P (last l) → P (cond q l (frozen_at l (last l))).frozen
    work_frozen P true a b = a
    work_frozen P false a b = b

    either_mark : (P : ℕ → Type 0) (q : Bool) (x y : ℕ) → P x → P y → P (cond q x y)
    either_mark P true x y a b = a
    either_mark P false x y a b = b

    -- the marks move only onto marks
    moves : (P : ℕ → Type 0) → (r : Round) (w : Log) → w.end ≡ l.end → Moves r w m → P l.end → P r.target → P w.frozen → P m.end × IfSome m.logging (λ s. P s.target) × P m.frozen
    moves P r w e mv pe pt pf =
        let f = subst P (sym mv.frozen) pf in
        ⊎_elim
        (λ a. (subst P (sym (a.2 ∙ e)) pe, subst (λ (x : Option Round). IfSome x (λ s. P s.target)) (sym a.1) pt, f))
        (λ a. (subst P (sym a.2) pt, subst (λ (x : Option Round). IfSome x (λ s. P s.target)) (sym a.1) tt, f))
        mv.moved

    by_round : (P : ℕ → Type 0) (x : Option Round) → l.logging ≡ x → LogGoes l x m → P l.end → IfSome x (λ s. P s.target) → P l.frozen → P (last l) → P m.end × IfSome m.logging (λ s. P s.target) × P m.frozen
    by_round P (Some r) e g pe pt pf pl = ⊎_elim
        (λ a. let z : ◌≡◌ {A = ℕ} 0 1 = cc in absurd (omega arith))
        (λ mv. moves P r l refl mv pe pt pf)
        g.goes
    by_round P None e g pe pt pf pl = ⊎_elim
        (λ a. let z = a.1 in
        (subst (λ (y : Log). P y.end) (sym z) pe, subst (λ (y : Log). IfSome y.logging (λ s. P s.target)) (sym z) (subst (λ (x : Option Round). IfSome x (λ s. P s.target)) (sym e) tt), subst (λ (y : Log). P y.frozen) (sym z) pf))
        (λ mv. moves P (round_of l None) (working l None) (work_end (ltb l.end l.frozen)) mv pe (either_mark P (ltb l.end l.frozen) l.frozen (last l) pf pl) (work_frozen P (ltb l.end l.frozen) pf pl))
        g.goes

    marks : (P : ℕ → Type 0) → P l.end → IfSome l.logging (λ s. P s.target) → P l.frozen → P (last l) → P m.end × IfSome m.logging (λ s. P s.target) × P m.frozen
    marks P = by_round P l.logging refl (log_goes l d k)

    -- where frozen comes to
    frozen_by : (x : Option Round) → IfSome x (Logs l.start l.end l.frozen l.updates d) → LogGoes l x m → m.frozen ≡ cond (leb l.frozen l.end) (last l) l.frozen
    frozen_by (Some r) h g = ⊎_elim
        (λ a. let z : ◌≡◌ {A = ℕ} 0 1 = cc in absurd (omega arith))
        (λ mv. mv.frozen ∙ sym (ap (λ q. cond q (last l) l.frozen) (lt-leb l.frozen l.end (omega (arith, h.some, h.below)))))
        g.goes
    frozen_by None h g = ⊎_elim
        (λ a. ap (λ (y : Log). y.frozen) a.1 ∙ (let z : l.frozen ≡ last l = omega (arith, a.2, k.order.end_frozen, k.order.frozen_last) in z) ∙
        sym (ap (λ q. cond q (last l) l.frozen) (le-leb l.frozen l.end (omega (arith, a.2, k.order.frozen_last)))))
        (λ mv. mv.frozen ∙ ⊎_elim
        (λ (b : l.end < l.frozen). ap (λ q. (cond q l (frozen_at l (last l))).frozen) (lt-ltb l.end l.frozen b) ∙ sym (ap (λ q. cond q (last l) l.frozen) (lt-leb l.frozen l.end b)))
        (λ (b : l.frozen ≤ l.end). ap (λ q. (cond q l (frozen_at l (last l))).frozen) (le-ltb l.end l.frozen b) ∙ sym (ap (λ q. cond q (last l) l.frozen) (le-leb l.frozen l.end b)))
        (cases_lt l.end l.frozen))
        g.goes

    abbrev settled' : ℕ
    settled' = cond (leb settled ended) reached settled

    pub frozen_is : m.frozen ≡ settled'
    frozen_is =
        frozen_by l.logging k.logging (log_goes l d k) ∙ ap (λ n. cond (leb n l.end) (last l) n) t.at_settled ∙
        ap (λ n. cond (leb settled n) (last l) settled) t.at_ended ∙ ap (λ n. cond (leb settled ended) n settled) t.at_reached

    pub end_grows : l.end ≤ m.end
    end_grows = (marks (λ n. l.end ≤ n) (omega arith) (if_some_map l.logging (λ r g. let s = g.some in omega arith) k.logging) k.order.end_frozen (omega (arith, k.order.end_frozen, k.order.frozen_last))).0

    grown : (q : Bool) → m.frozen ≡ cond q (last l) l.frozen → l.frozen ≤ m.frozen
    grown true e = omega (arith, k.order.frozen_last)
    grown false e = omega arith

    pub frozen_grows : l.frozen ≤ m.frozen
    frozen_grows = let f = frozen_by l.logging k.logging (log_goes l d k) in grown (leb l.frozen l.end) f

    pub reach_same : last m ≡ last l
    reach_same = ap (λ n. n + length m.updates) done.start ∙ ap (λ (us : List Update). l.start + length us) done.updates

    changed_still : (b : ℕ) → among b (open_homes m) ≡ among b (changed_above settled' commits)
    changed_still b = ⊎_elim
        (λ (h : ended < settled).
        let s : settled' ≡ settled = ap (λ q. cond q reached settled) (lt-leb settled ended h) in
        ap (among b) (ap (λ n. homes_of (drop (n - m.start) m.updates)) (frozen_is ∙ s ∙ sym t.at_settled) ∙ ap (λ n. homes_of (drop (l.frozen - n) m.updates)) done.start ∙ ap (λ (us : List Update). homes_of (drop (l.frozen - l.start) us)) done.updates) ∙
        t.changed b ∙ ap (λ n. among b (changed_above n commits)) (sym s))
        (λ (h : settled ≤ ended).
        let s : settled' ≡ reached = ap (λ q. cond q reached settled) (le-leb settled ended h) in
        ap (among b) (settled_none m (omega (arith, frozen_is, s, reach_same, t.at_reached)) ∙ sym (changed_none reached commits t.bounded) ∙ ap (λ n. changed_above n commits) (sym s)))
        (cases_lt ended settled)

    pub log_told : LogTold m o.disk first commits (max ended m.end) reached flushed settled'
    log_told =
        let shown = marks (Shows l d first commits) t.end t.target t.frozen t.reach in
        record {
          at_ended = omega (arith, end_grows, t.at_ended);
          at_settled = frozen_is;
          at_reached = reach_same ∙ t.at_reached;
          below = omega (arith, t.below, frozen_is, frozen_grows, t.at_settled);
          rising = t.rising;
          bounded = t.bounded;
          changed = changed_still;
          end = still m.end shown.0;
          target = if_some_map m.logging (λ r h. still r.target h) shown.1;
          frozen = still m.frozen shown.2;
          reach = subst (Shows m o.disk first commits) (sym reach_same) (still (last l) t.reach);
        }

  -- ## An installer step

  module _ (l : Log) (d : Blocks) (k : Kept l d) (ended reached flushed settled : ℕ) (t : LogTold l d first commits ended reached flushed settled) where
    abbrev oᵢ : Outcome Log
    oᵢ = install_step l d

    abbrev mᵢ : Log
    mᵢ = oᵢ.state

    doneᵢ : InstallDone l d oᵢ
    doneᵢ = install_done l d k

    same_lengthᵢ : length oᵢ.disk ≡ length d
    same_lengthᵢ = wrote_length oᵢ.wrote d oᵢ.disk doneᵢ.writes

    stillᵢ : (q : ℕ) → l.end ≤ q → Shows l d first commits q → Shows mᵢ oᵢ.disk first commits q
    stillᵢ q e h b a lt = doneᵢ.shown q b e a ∙ h b a (subst (λ (n : ℕ). b < n) same_lengthᵢ lt)

    -- the updates from frozen on are the same list
    pub open_same : open_homes mᵢ ≡ open_homes l
    open_same = ap homes_of (same_lists (drop (mᵢ.frozen - mᵢ.start) mᵢ.updates) (drop (l.frozen - l.start) l.updates)
        (length-drop (mᵢ.frozen - mᵢ.start) mᵢ.updates ∙ (let a = length-drop (l.frozen - l.start) l.updates in let b = doneᵢ.kept.order.frozen_last in let c = doneᵢ.kept.order.end_frozen in let e = doneᵢ.kept.order.start_end in omega (arith, doneᵢ.frozen, doneᵢ.reach, k.order.frozen_last, k.order.end_frozen, k.order.start_end)))
        (λ i x lt. get_or-drop (mᵢ.frozen - mᵢ.start) mᵢ.updates i x ∙ get_or_default mᵢ.updates (mᵢ.frozen - mᵢ.start + i) x absent (let a = length-drop (mᵢ.frozen - mᵢ.start) mᵢ.updates in omega arith) ∙
        ap (λ n. get_or mᵢ.updates n absent) (let e = doneᵢ.kept.order.end_frozen in let f = doneᵢ.kept.order.start_end in let z : mᵢ.frozen - mᵢ.start + i ≡ l.frozen + i - mᵢ.start = omega (arith, doneᵢ.frozen) in z) ∙
        doneᵢ.later (l.frozen + i) (omega (arith, k.order.end_frozen)) ∙
        ap (λ n. get_or l.updates n absent) (let z : l.frozen + i - l.start ≡ l.frozen - l.start + i = omega (arith, k.order.end_frozen, k.order.start_end) in z) ∙
        sym (get_or-drop (l.frozen - l.start) l.updates i x ∙ get_or_default l.updates (l.frozen - l.start + i) x absent (let a = length-drop (mᵢ.frozen - mᵢ.start) mᵢ.updates in let e = doneᵢ.kept.order.end_frozen in let f = doneᵢ.kept.order.start_end in omega (arith, doneᵢ.frozen, doneᵢ.reach, k.order.end_frozen, k.order.start_end)))))

    targets : (x : Option Round) → IfSome x (Logs l.start l.end l.frozen l.updates d) → IfSome x (λ r. Shows l d first commits r.target) → IfSome x (λ r. Shows mᵢ oᵢ.disk first commits r.target)
    targets None g h = tt
    targets (Some r) g h = stillᵢ r.target (let s = g.some in omega arith) h

    pub install_told : LogTold mᵢ oᵢ.disk first commits ended reached flushed settled
    install_told = record {
      at_ended = doneᵢ.end ∙ t.at_ended;
      at_settled = doneᵢ.frozen ∙ t.at_settled;
      at_reached = doneᵢ.reach ∙ t.at_reached;
      below = t.below;
      rising = t.rising;
      bounded = t.bounded;
      changed = λ b. ap (among b) open_same ∙ t.changed b;
      end = subst (Shows mᵢ oᵢ.disk first commits) (sym doneᵢ.end) (stillᵢ l.end (omega arith) t.end);
      target = subst (λ (x : Option Round). IfSome x (λ r. Shows mᵢ oᵢ.disk first commits r.target)) (sym doneᵢ.logging) (targets l.logging k.logging t.target);
      frozen = subst (Shows mᵢ oᵢ.disk first commits) (sym doneᵢ.frozen) (stillᵢ l.frozen k.order.end_frozen t.frozen);
      reach = subst (Shows mᵢ oᵢ.disk first commits) (sym doneᵢ.reach) (stillᵢ (last l) (omega (arith, k.order.end_frozen, k.order.frozen_last)) t.reach);
    }
