-- A commit, by the record.
use Rattle.std.proofs.Common.{◌≡◌, ℕ, ◌+◌, ◌-◌, ◌<◌, ◌≤◌, Bool, true, false, cond, not, eqb, leb, ◌⊎◌, List, [], ◌∷◌, ◌++◌, length, drop, Some, None, Option, sym, refl, ap, ◌∙◌, subst, inl, inr, ⊎_elim, arith, length-drop}
use Rattle.std.specs.Option.{option_map}
use Rattle.std.specs.List.{AllByRecursion}
use Rattle.std.proofs.lemmas.Bool.{eq-eqb, ne_eqb, lt-leb, le-leb, cases_eq, cases_lt}
use Rattle.std.proofs.lemmas.List.{take_all}
use Rattle.disk.specs.Tests.{both, either}
use Rattle.disk.specs.Meaning.{Block, Blocks, block, is_live, bytes_or}
use Rattle.object.specs.Tables.{Held, dirty_ones}
use Rattle.card.specs.declared.Update.{Update}
use Rattle.card.specs.Layout.{latest, Area}
use Rattle.model.specs.declared.Round.{Round}
use Rattle.model.specs.Log.{Log, last}
use Rattle.model.specs.Steps.{with_updates}
use Rattle.model.specs.Operations.{among, dirty_blocks, laid_in, committed}
use Rattle.law.specs.Record.{Commit, lay, lay_all, up_to, blocks_of, changed_above}
use Rattle.law.proofs.Invariant.{Good, IfSome, Logs, Kept}
use Rattle.law.proofs.Absorb.{homes_of, Distinct, either_assoc, at_every, latest_none}
use Rattle.law.proofs.Commits.{picks, dirty_takes, dirty_skips, dirty_distinct, merged_latest, either_none, either_true}
use Rattle.law.proofs.Areas.{AtMost, lay_laid_in, lay_all_push, up_to_all, up_to_push, bounded_push, rising_push}
use Rattle.law.proofs.Tables.{TableGood, every_map}
use Rattle.law.proofs.Committed as Committed
use Rattle.law.proofs.Told.{Shows, open_homes, LogTold}

-- ## Dirty blocks, by their objects

pub split : (t : Bool) → (t ≡ true) ⊎ (t ≡ false)
split true = inl refl
split false = inr refl

pub clash : (t : Bool) → t ≡ true → t ≡ false → ⊥
clash t a b = let z : ◌≡◌ {A = ℕ} 0 1 = cc in omega arith

among_skip : (b x : ℕ) (xs seen : List ℕ) → among b seen ≡ false → among x seen ≡ true → among b xs ≡ either (eqb b x) (among b xs)
among_skip b x xs seen un here = sym (ap (λ q. either q (among b xs)) (ne_eqb b x (λ s. clash (among x seen) here (subst (λ (n : ℕ). among n seen ≡ false) s un))))

same_both : (t u : Bool) → both t (not u) ≡ false → t ≡ true → u ≡ true
same_both true true e d = refl
same_both true false e d = sym e
same_both false u e d = let z : ◌≡◌ {A = ℕ} 0 1 = cc in absurd (omega arith)

both_first : (t u : Bool) → both t u ≡ true → t ≡ true
both_first true u e = refl
both_first false u e = e

pub dirty_among : (hs : List Held) (seen : List ℕ) (b : ℕ) → among b seen ≡ false → among b (dirty_blocks hs seen) ≡ among b (blocks_of (dirty_ones hs))
dirty_among [] seen b un = refl
dirty_among (h ∷ hs) seen b un =
    let x = h.place.block in
    ⊎_elim
    (λ t.
    let d = both_first h.dirty (not (among x seen)) t in
    ap (among b) (dirty_takes h hs seen t) ∙
    ⊎_elim
    (λ (same : b ≡ x). ap (λ q. either q (among b (dirty_blocks hs (x ∷ seen)))) (eq-eqb b x same) ∙ sym (ap (λ q. either q (among b (blocks_of (dirty_ones hs)))) (eq-eqb b x same)))
    (λ ne. ap (either (eqb b x)) (dirty_among hs (x ∷ seen) b (ap (λ q. either q (among b seen)) (ne_eqb b x ne) ∙ un)))
    (cases_eq b x) ∙
    sym (ap (λ q. among b (blocks_of (cond q (h ∷ dirty_ones hs) (dirty_ones hs)))) d))
    (λ s. ap (among b) (dirty_skips h hs seen s) ∙ dirty_among hs seen b un ∙
    ⊎_elim
    (λ d. among_skip b x (blocks_of (dirty_ones hs)) seen un (same_both h.dirty (among x seen) s d) ∙ sym (ap (λ q. among b (blocks_of (cond q (h ∷ dirty_ones hs) (dirty_ones hs)))) d))
    (λ c. sym (ap (λ q. among b (blocks_of (cond q (h ∷ dirty_ones hs) (dirty_ones hs)))) c))
    (split h.dirty))
    (split (picks h hs seen))

pub among_append : (b : ℕ) (xs ys : List ℕ) → among b (xs ++ ys) ≡ either (among b xs) (among b ys)
among_append b [] ys = refl
among_append b (x ∷ xs) ys = ap (either (eqb b x)) (among_append b xs ys) ∙ sym (either_assoc (eqb b x) (among b xs) (among b ys))

none_empty : (gs : List Held) → ((b : ℕ) → among b (blocks_of gs) ≡ false) → gs ≡ []
none_empty [] h = refl
none_empty (g ∷ gs) h = absurd (clash _ (ap (λ q. either q (among g.place.block (blocks_of gs))) (eq-eqb g.place.block g.place.block refl)) (h g.place.block))

among_some : (b : ℕ) (vs : List Update) → among b (homes_of vs) ≡ true → 0 < length vs
among_some b [] e = let z : ◌≡◌ {A = ℕ} 0 1 = cc in absurd (omega arith)
among_some b (v ∷ vs) e = omega arith

every_among : (P : ℕ → Type 0) (xs : List ℕ) (b : ℕ) → AllByRecursion P xs → among b xs ≡ true → P b
every_among P [] b h e = let z : ◌≡◌ {A = ℕ} 0 1 = cc in absurd (omega arith)
every_among P (x ∷ xs) b h e = ⊎_elim
    (λ (same : b ≡ x). subst P (sym same) h.0)
    (λ ne. every_among P xs b h.1 (sym (ap (λ q. either q (among b xs)) (ne_eqb b x ne)) ∙ e))
    (cases_eq b x)

last_one : (t : Bool) (xs : List ℕ) (b : ℕ) → among b (cond t [] (xs ++ [])) ≡ among b (cond t [] xs)
last_one true xs b = refl
last_one false xs b = among_append b xs [] ∙ sym (either_none (among b xs))

step : (t : Bool) (xs new old more : List ℕ) (b : ℕ) → among b new ≡ either (among b old) (among b more) → among b (cond t new (xs ++ new)) ≡ either (among b (cond t old (xs ++ old))) (among b more)
step true xs new old more b e = e
step false xs new old more b e =
    among_append b xs new ∙ ap (either (among b xs)) e ∙ sym (either_assoc (among b xs) (among b old) (among b more)) ∙ ap (λ q. either q (among b more)) (sym (among_append b xs old))

pub changed_push : (q : ℕ) (cs : List Commit) (c : Commit) (b : ℕ) → among b (changed_above q (cs ++ c ∷ [])) ≡ either (among b (changed_above q cs)) (among b (cond (leb c.position q) [] (blocks_of c.objects)))
changed_push q [] c b = last_one (leb c.position q) (blocks_of c.objects) b
changed_push q (x ∷ cs) c b = step (leb x.position q) (blocks_of x.objects) (changed_above q (cs ++ c ∷ [])) (changed_above q cs) (cond (leb c.position q) [] (blocks_of c.objects)) b (changed_push q cs c b)

pushed : (t : Bool) (x : Commit) (new old : List Commit) (c : Commit) → new ≡ old ++ c ∷ [] → cond t (x ∷ new) new ≡ cond t (x ∷ old) old ++ c ∷ []
pushed true x new old c e = ap (λ cs. x ∷ cs) e
pushed false x new old c e = e

up_to_push_keep : (q : ℕ) (cs : List Commit) (c : Commit) → c.position ≤ q → up_to q (cs ++ c ∷ []) ≡ up_to q cs ++ c ∷ []
up_to_push_keep q [] c l = ap (λ t. cond t (c ∷ []) []) (le-leb c.position q l)
up_to_push_keep q (x ∷ cs) c l = pushed (leb x.position q) x (up_to q (cs ++ c ∷ [])) (up_to q cs) c (up_to_push_keep q cs c l)

pub dead_none : (x : Block) → is_live x ≡ false → x ≡ None
dead_none None e = refl
dead_none (Some bs) e = let z : ◌≡◌ {A = ℕ} 0 1 = cc in absurd (omega arith)

-- no good update has a dead home
pub dead_home : (us : List Update) (d : Blocks) (b : ℕ) → AllByRecursion (Good d) us → is_live (block d b) ≡ false → among b (homes_of us) ≡ false
dead_home [] d b h e = refl
dead_home (u ∷ us) d b h e =
    ap (λ q. either q (among b (homes_of us))) (ne_eqb b u.home (λ s. clash (is_live (block d b)) (subst (λ (n : ℕ). is_live (block d n) ≡ true) (sym s) h.0.alive) e)) ∙ dead_home us d b h.1 e

-- ## The commit

module _ (first : Area) (commits : List Commit) (l : Log) (d : Blocks) (k : Kept l d) (far : Distinct (open_homes l)) (hs : List Held) (g : TableGood d hs)
    (ended reached flushed settled : ℕ) (t : LogTold l d first commits ended reached flushed settled) where
  abbrev new : List Update
  new = committed hs l d

  abbrev m : ℕ
  m = l.start + length new

  abbrev c : Commit
  c = record { position = m; objects = dirty_ones hs }

  abbrev blocks : List ℕ
  blocks = dirty_blocks hs []

  longer : length l.updates ≤ length new
  longer = omega (arith, Committed.new_length l d k far hs g)

  -- a commit that changes something ends above frozen
  pub above : (b : ℕ) → among b blocks ≡ true → l.frozen < m
  above b e =
      let a = Committed.new_among l d k far hs g b in
      let s = among_some b (drop (l.frozen - l.start) new) (a ∙ ap (either (among b (open_homes l))) e ∙ either_true (among b (open_homes l))) in
      let n = length-drop (l.frozen - l.start) new in
      omega arith

  -- and one that does not end above it changes nothing
  pub empty : m ≤ l.frozen → dirty_ones hs ≡ []
  empty h = none_empty (dirty_ones hs) (λ b. ⊎_elim
      (λ e. let a = above b (dirty_among hs [] b refl ∙ e) in absurd (omega arith))
      (λ e. e)
      (split (among b (blocks_of (dirty_ones hs)))))

  -- up to frozen the commit shows nothing
  quiet : (q : ℕ) → q ≤ l.frozen → lay_all (up_to q (commits ++ c ∷ [])) first ≡ lay_all (up_to q commits) first
  quiet q few = ⊎_elim
      (λ (h : q < m). ap (λ cs. lay_all cs first) (up_to_push q commits c h))
      (λ (h : m ≤ q). ap (λ cs. lay_all cs first) (up_to_push_keep q commits c h) ∙ lay_all_push (up_to q commits) c first ∙ ap (λ gs. lay gs (lay_all (up_to q commits) first)) (empty (omega arith)))
      (cases_lt q m)

  below_shows : (q : ℕ) → q ≤ l.frozen → Shows l d first commits q → Shows (with_updates l new) d first (commits ++ c ∷ []) q
  below_shows q few h b a lt =
      ap (λ (vs : List Update). latest vs b (block d b)) (Committed.new_take l d k far hs g (q - l.start) (omega arith)) ∙ h b a lt ∙ ap (λ (f : Area). f b) (sym (quiet q few))

  all_good : AllByRecursion (Good d) l.updates
  all_good = at_every (Good d) l.updates k.good

  -- every data block, live or dead
  shows_new : (b : ℕ) → latest new b (block d b) ≡ option_map (laid_in hs b) (latest l.updates b (block d b))
  shows_new b = ⊎_elim
      (λ live. Committed.new_shows l d k far hs g b live)
      (λ dead.
      let n : latest l.updates b (block d b) ≡ None = latest_none l.updates b (block d b) (dead_home l.updates d b all_good dead) ∙ dead_none (block d b) dead in
      let out : among b blocks ≡ false = ⊎_elim (λ e. absurd (clash (is_live (block d b)) (every_among _ blocks b (Committed.dirty_live l d k far hs g) e).2 dead)) (λ e. e) (split (among b blocks)) in
      merged_latest hs d (l.frozen - l.start) blocks l.updates (omega (arith, k.order.frozen_last)) (dirty_distinct hs []) far b ∙
      ap (λ q. cond q (Some (laid_in hs b (bytes_or (latest l.updates b (block d b)) []))) (latest l.updates b (block d b))) out ∙ n ∙ sym (ap (option_map (laid_in hs b)) n))
      (split (is_live (block d b)))

  all_bounded : AllByRecursion (AtMost m) (commits ++ c ∷ [])
  all_bounded = bounded_push reached m commits c (omega (arith, longer, t.at_reached)) t.bounded (omega arith)

  reach_shows : Shows (with_updates l new) d first (commits ++ c ∷ []) m
  reach_shows b a lt =
      ap (λ (vs : List Update). latest vs b (block d b)) (take_all (m - l.start) new (omega arith)) ∙ shows_new b ∙
      ap (option_map (laid_in hs b)) (ap (λ (vs : List Update). latest vs b (block d b)) (sym (take_all (last l - l.start) l.updates (omega arith))) ∙ t.reach b a lt ∙
      ap (λ cs. lay_all cs first b) (up_to_all (last l) commits (subst (λ (n : ℕ). AllByRecursion (AtMost n) commits) (sym t.at_reached) t.bounded))) ∙
      sym (ap (λ cs. lay_all cs first b) (up_to_all m (commits ++ c ∷ []) all_bounded) ∙ ap (λ (f : Area). f b) (lay_all_push commits c first) ∙ lay_laid_in hs (lay_all commits first) b)

  changed_new : (b : ℕ) → among b (open_homes (with_updates l new)) ≡ among b (changed_above settled (commits ++ c ∷ []))
  changed_new b =
      Committed.new_among l d k far hs g b ∙ ap (λ q. either q (among b blocks)) (t.changed b) ∙ ap (either (among b (changed_above settled commits)))
      (dirty_among hs [] b refl ∙ ⊎_elim
      (λ (h : settled < m). ap (λ q. among b (cond q [] (blocks_of (dirty_ones hs)))) (sym (lt-leb m settled h)))
      (λ (h : m ≤ settled). ap (λ gs. among b (blocks_of gs)) (empty (omega (arith, t.at_settled))) ∙ ap (λ q. among b (cond q [] (blocks_of (dirty_ones hs)))) (sym (le-leb m settled h)))
      (cases_lt settled m)) ∙
      sym (changed_push settled commits c b)

  targets : (x : Option Round) → IfSome x (Logs l.start l.end l.frozen l.updates d) → IfSome x (λ r. Shows l d first commits r.target) → IfSome x (λ r. Shows (with_updates l new) d first (commits ++ c ∷ []) r.target)
  targets None a h = tt
  targets (Some r) a h = below_shows r.target a.below h

  pub commit_told : LogTold (with_updates l new) d first (commits ++ c ∷ []) ended m flushed settled
  commit_told = record {
    at_ended = t.at_ended;
    at_settled = t.at_settled;
    at_reached = refl;
    below = t.below;
    rising = rising_push commits c t.rising (every_map (AtMost reached) (AtMost m) commits (λ x h. omega (arith, longer, t.at_reached)) t.bounded);
    bounded = all_bounded;
    changed = changed_new;
    end = below_shows l.end k.order.end_frozen t.end;
    target = targets l.logging k.logging t.target;
    frozen = below_shows l.frozen (omega arith) t.frozen;
    reach = reach_shows;
  }
