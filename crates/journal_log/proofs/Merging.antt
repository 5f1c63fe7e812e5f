-- Updates that are added in order, and those that a commit's dirty objects become.
use Rattle.std.proofs.Common.{◌≡◌, ℕ, ◌+◌, ◌<◌, ◌≤◌, false, cond, eqb, List, [], ◌∷◌, map, length, get_or, take, drop, Some, sym, refl, ap, ◌∙◌, ⊎_elim, arith}
use Rattle.std.proofs.lemmas.List.{at_drop_more}
use Rattle.std.proofs.lemmas.Bool.{ne_eqb, eq-eqb, eqb-false, cases_eq}
use Rattle.disk.specs.Tests.{either}
use Rattle.disk.specs.Meaning.{Block, Blocks, block, bytes_or}
use Rattle.object.specs.Tables.{Held}
use Rattle.card.specs.declared.Update.{Update}
use Rattle.card.specs.Layout.{latest}
use Rattle.model.specs.Operations.{among, laid_in, merged}
use Rattle.model.specs.Log.{Log}
use Rattle.model.specs.Steps.{absorbed, added, with_updates}
use Rattle.law.proofs.Latest.{latest_append, latest_other, latest_split}
use Rattle.law.proofs.Absorb.{homes_of, Distinct, either_false, added_length}
use Rattle.law.proofs.Commits.{count, merged_length}
use Rattle.journal_log.specs.Ring.{absent}
use Rattle.journal_log.specs.Updates.{settled, has_home, fresh, added_all, update_for}

-- ## Lengths

-- an update takes a place or none
pub added_grows : (s : ℕ) (u : Update) (us : List Update) → s ≤ length us → length us ≤ length (added s u us)
added_grows s u us fits = let e = added_length s u us fits in omega arith

pub all_grows : (s : ℕ) (vs us : List Update) → s ≤ length us → length us ≤ length (added_all s vs us)
all_grows s [] us fits = omega arith
all_grows s (v ∷ vs) us fits =
    let one = added_grows s v us fits in
    let rest = all_grows s vs (added s v us) (omega arith) in
    omega arith

-- ## An update of another home

module _ (u : Update) (b : ℕ) (other : u.home ≡ b → ⊥) where
  absorbed_other : (vs : List Update) (x : Block) → latest (absorbed u vs) b x ≡ latest vs b x
  absorbed_other [] x = latest_other u b x other
  absorbed_other (v ∷ vs) x = ⊎_elim
      (λ hit.
      ap (λ t. latest (cond t (u ∷ vs) (v ∷ absorbed u vs)) b x) (eq-eqb v.home u.home hit) ∙
      ap (latest vs b) (latest_other u b x other ∙ sym (latest_other v b x (λ e. other (sym hit ∙ e)))))
      (λ miss.
      ap (λ t. latest (cond t (u ∷ vs) (v ∷ absorbed u vs)) b x) (ne_eqb v.home u.home miss) ∙
      absorbed_other vs (cond (eqb v.home b) (Some v.bytes) x))
      (cases_eq v.home u.home)

  pub added_other : (s : ℕ) (us : List Update) (x : Block) → latest (added s u us) b x ≡ latest us b x
  added_other s us x = latest_append (take s us) (absorbed u (drop s us)) b x ∙ absorbed_other (drop s us) (latest (take s us) b x) ∙ sym (latest_split s us b x)

-- ## A commit

module _ (hs : List Held) (d : Blocks) (s : ℕ) where
  -- the updates of the blocks to come are as they were before this one
  updates_kept : (c : ℕ) (bs : List ℕ) (us : List Update) → among c bs ≡ false → map (update_for hs d (added s (update_for hs d us c) us)) bs ≡ map (update_for hs d us) bs
  updates_kept c [] us out = refl
  updates_kept c (b ∷ bs) us out =
      let f = either_false (eqb c b) (among c bs) out in
      let e = added_other (update_for hs d us c) b (eqb-false c b f.0) s us (block d b) in
      ap (λ (x : Block). record { home = b; bytes = laid_in hs b (bytes_or x []) } ∷ map (update_for hs d (added s (update_for hs d us c) us)) bs) e ∙
      ap (λ vs. update_for hs d us b ∷ vs) (updates_kept c bs us f.1)

  -- what a commit leaves is the updates with each block's own added, all made of the log as it was
  pub merged_is : (bs : List ℕ) (us : List Update) → Distinct bs → merged hs d s bs us ≡ added_all s (map (update_for hs d us) bs) us
  merged_is [] us h = refl
  merged_is (b ∷ bs) us h =
      merged_is bs (added s (update_for hs d us b) us) h.1 ∙
      ap (λ vs. added_all s vs (added s (update_for hs d us b) us)) (updates_kept b bs us h.0)

  has_home_lem : (us : List Update) (b : ℕ) → has_home us b ≡ among b (homes_of us)
  has_home_lem [] b = refl
  has_home_lem (u ∷ us) b = ap (either (eqb b u.home)) (has_home_lem us b)

  fresh_is : (bs : List ℕ) (us : List Update) → fresh bs us ≡ count bs (homes_of us)
  fresh_is [] us = refl
  fresh_is (b ∷ bs) us = ap (λ t. cond t 0 1 + fresh bs us) (has_home_lem us b) ∙ ap (λ n. cond (among b (homes_of us)) 0 1 + n) (fresh_is bs us)

  -- each block that no update from there on had takes a position
  pub all_length : (bs : List ℕ) (us : List Update) → s ≤ length us → Distinct bs → length (added_all s (map (update_for hs d us) bs) us) ≡ length us + fresh bs (drop s us)
  all_length bs us fits h = sym (ap length (merged_is bs us h)) ∙ merged_length hs d s bs us fits h ∙ ap (λ n. length us + n) (sym (fresh_is bs (drop s us)))

-- ## One update after another

-- where i of the updates have been added to the log that was there, and the log is otherwise as it was
module _ (was log : Log) (vs : List Update) (i : ℕ) (l : i < length vs) (same : log ≡ with_updates was log.updates)
    (rest : added_all (settled was) (drop i vs) log.updates ≡ added_all (settled was) vs was.updates) where
  abbrev next : List Update
  next = added (settled log) (get_or vs i absent) log.updates

  next_rest : added_all (settled was) (drop (i + 1) vs) next ≡ added_all (settled was) vs was.updates
  next_rest =
      ap (λ (k : ℕ). added_all (settled was) (drop (i + 1) vs) (added k (get_or vs i absent) log.updates)) (ap settled same) ∙
      sym (at_drop_more (λ (ws : List Update). added_all (settled was) ws log.updates) vs i absent l) ∙ rest

  -- there is room for the next
  pub next_fits : settled log ≤ length log.updates → length next ≤ length (added_all (settled was) vs was.updates)
  next_fits fits =
      let one = added_grows (settled log) (get_or vs i absent) log.updates fits in
      let e : settled log ≡ settled was = ap settled same in
      let more = all_grows (settled was) (drop (i + 1) vs) next (omega arith) in
      omega (arith, ap length next_rest)

  pub same_start : log.start ≡ was.start
  same_start = ap (λ (x : Log). x.start) same

  -- and then it has been added
  pub next_added : (new : Log) → new ≡ with_updates log next →
      (new ≡ with_updates was new.updates) × (added_all (settled was) (drop (i + 1) vs) new.updates ≡ added_all (settled was) vs was.updates)
  next_added new e =
      let us = ap (λ (x : Log). x.updates) e in (
        e ∙ ap (λ (x : Log). with_updates x next) same ∙ ap (with_updates was) (sym us),
        ap (added_all (settled was) (drop (i + 1) vs)) us ∙ next_rest,
      )
