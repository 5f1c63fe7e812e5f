-- How the dirty objects of an operation become updates.
use Rattle.std.proofs.Common.{◌≡◌, ℕ, ◌+◌, ◌≤◌, Bool, true, false, cond, not, eqb, ◌⊎◌, List, [], ◌∷◌, length, take, drop, Some, sym, refl, ap, ◌∙◌, subst, inl, inr, ⊎_elim, arith}
use Rattle.std.specs.List.{AllByRecursion}
use Rattle.std.proofs.lemmas.Bool.{eq-eqb, ne_eqb, eqb-false, cases_eq}
use Rattle.disk.specs.Tests.{both, either}
use Rattle.disk.specs.Meaning.{Block, Blocks, block, bytes_or}
use Rattle.object.specs.Tables.{Held}
use Rattle.card.specs.declared.Update.{Update}
use Rattle.card.specs.Layout.{latest}
use Rattle.model.specs.Operations.{among, dirty_blocks, laid_in, merged}
use Rattle.model.specs.Steps.{added}
use Rattle.law.proofs.Absorb.{homes_of, Distinct, either_false, neither, either_assoc, absorbed_among, absorbed_distinct, added_take, added_drop, added_length, added_latest, added_every}
use Rattle.law.proofs.Latest.{latest_here, latest_other}

-- ## Conditions

pub either_true : (a : Bool) → either a true ≡ true
either_true true = refl
either_true false = refl

pub either_none : (a : Bool) → a ≡ either a false
either_none true = refl
either_none false = refl

-- ## Which blocks are dirty

-- a truth value, one way or the other
decided : (t : Bool) → (t ≡ true) ⊎ (t ≡ false)
decided true = inl refl
decided false = inr refl

-- how many of the blocks are not among those seen
abbrev pub count : List ℕ → List ℕ → ℕ
count [] seen = 0
count (b ∷ bs) seen = cond (among b seen) 0 1 + count bs seen

-- a block that is not counted need not be told apart
count_same : (bs xs ys : List ℕ) (b : ℕ) → among b bs ≡ false → ((c : ℕ) → (c ≡ b → ⊥) → among c xs ≡ among c ys) → count bs xs ≡ count bs ys
count_same [] xs ys b out same = refl
count_same (c ∷ bs) xs ys b out same =
    let f = either_false (eqb b c) (among b bs) out in
    ap (λ t. cond t 0 1 + count bs xs) (same c (λ e. eqb-false b c f.0 (sym e))) ∙ ap (λ n. cond (among c ys) 0 1 + n) (count_same bs xs ys b f.1 same)

-- the blocks of one entry more
module _ (h : Held) (hs : List Held) (seen : List ℕ) where
  abbrev x : ℕ
  x = h.place.block

  abbrev pub picks : Bool
  picks = both h.dirty (not (among x seen))

  pub dirty_takes : picks ≡ true → dirty_blocks (h ∷ hs) seen ≡ x ∷ dirty_blocks hs (x ∷ seen)
  dirty_takes e = ap (λ t. cond t (x ∷ dirty_blocks hs (x ∷ seen)) (dirty_blocks hs seen)) e

  pub dirty_skips : picks ≡ false → dirty_blocks (h ∷ hs) seen ≡ dirty_blocks hs seen
  dirty_skips e = ap (λ t. cond t (x ∷ dirty_blocks hs (x ∷ seen)) (dirty_blocks hs seen)) e

both_true : (a b : Bool) → both a b ≡ true → (a ≡ true) × (b ≡ true)
both_true true b e = (refl, e)
both_true false b e = let z : ◌≡◌ {A = ℕ} 0 1 = cc in absurd (omega arith)

not_true : (b : Bool) → not b ≡ true → b ≡ false
not_true true e = sym e
not_true false e = refl

apart : (a b : Bool) → a ≡ true → a ≡ false → ⊥
apart a b p q = let z : ◌≡◌ {A = ℕ} 0 1 = cc in omega arith

-- none of them was seen
pub dirty_unseen : (hs : List Held) (seen : List ℕ) (b : ℕ) → among b seen ≡ true → among b (dirty_blocks hs seen) ≡ false
dirty_unseen [] seen b e = refl
dirty_unseen (h ∷ hs) seen b e = ⊎_elim
    (λ t. let fresh = not_true _ (both_true h.dirty (not (among h.place.block seen)) t).1 in
    ap (among b) (dirty_takes h hs seen t) ∙
    neither (eqb b h.place.block) (among b (dirty_blocks hs (h.place.block ∷ seen)))
    (ne_eqb b h.place.block (λ s. apart _ true e (subst (λ (n : ℕ). among n seen ≡ false) (sym s) fresh)))
    (dirty_unseen hs (h.place.block ∷ seen) b (ap (either (eqb b h.place.block)) e ∙ either_true (eqb b h.place.block))))
    (λ f. ap (among b) (dirty_skips h hs seen f) ∙ dirty_unseen hs seen b e)
    (decided (picks h hs seen))

pub dirty_distinct : (hs : List Held) (seen : List ℕ) → Distinct (dirty_blocks hs seen)
dirty_distinct [] seen = tt
dirty_distinct (h ∷ hs) seen = ⊎_elim
    (λ t. subst Distinct (sym (dirty_takes h hs seen t))
    (dirty_unseen hs (h.place.block ∷ seen) h.place.block (ap (λ q. either q (among h.place.block seen)) (eq-eqb h.place.block h.place.block refl)), dirty_distinct hs (h.place.block ∷ seen)))
    (λ f. subst Distinct (sym (dirty_skips h hs seen f)) (dirty_distinct hs seen))
    (decided (picks h hs seen))

-- each is the block of a dirty entry
pub dirty_every : (P : ℕ → Type 0) (hs : List Held) (seen : List ℕ) → AllByRecursion (λ h. h.dirty ≡ true → P h.place.block) hs → AllByRecursion P (dirty_blocks hs seen)
dirty_every P [] seen all = tt
dirty_every P (h ∷ hs) seen all = ⊎_elim
    (λ t. subst (AllByRecursion P) (sym (dirty_takes h hs seen t)) (all.0 (both_true h.dirty _ t).0, dirty_every P hs (h.place.block ∷ seen) all.1))
    (λ f. subst (AllByRecursion P) (sym (dirty_skips h hs seen f)) (dirty_every P hs seen all.1))
    (decided (picks h hs seen))

-- ## Merged

module _ (hs : List Held) (d : Blocks) (settled : ℕ) where
  -- the new update of a block
  abbrev pub fresh : ℕ → List Update → Update
  fresh b us = record { home = b; bytes = laid_in hs b (bytes_or (latest us b (block d b)) []) }

  -- each step adds one
  abbrev grown : ℕ → List Update → List Update
  grown b us = added settled (fresh b us) us

  longer : (b : ℕ) (us : List Update) → settled ≤ length us → settled ≤ length (grown b us)
  longer b us fits = let e = added_length settled (fresh b us) us fits in omega arith

  grown_distinct : (b : ℕ) (us : List Update) → settled ≤ length us → Distinct (homes_of (drop settled us)) → Distinct (homes_of (drop settled (grown b us)))
  grown_distinct b us fits h = subst (λ (vs : List Update). Distinct (homes_of vs)) (sym (added_drop settled (fresh b us) us fits)) (absorbed_distinct (fresh b us) (drop settled us) h)

  pub merged_take : (bs : List ℕ) (us : List Update) → settled ≤ length us → take settled (merged hs d settled bs us) ≡ take settled us
  merged_take [] us fits = refl
  merged_take (b ∷ bs) us fits = merged_take bs (grown b us) (longer b us fits) ∙ added_take settled (fresh b us) us fits

  pub merged_distinct : (bs : List ℕ) (us : List Update) → settled ≤ length us → Distinct (homes_of (drop settled us)) → Distinct (homes_of (drop settled (merged hs d settled bs us)))
  merged_distinct [] us fits h = h
  merged_distinct (b ∷ bs) us fits h = merged_distinct bs (grown b us) (longer b us fits) (grown_distinct b us fits h)

  grown_among : (b c : ℕ) (us : List Update) → settled ≤ length us → among c (homes_of (drop settled (grown b us))) ≡ either (among c (homes_of (drop settled us))) (eqb c b)
  grown_among b c us fits = ap (λ (vs : List Update). among c (homes_of vs)) (added_drop settled (fresh b us) us fits) ∙ absorbed_among (fresh b us) (drop settled us) c

  pub merged_among : (bs : List ℕ) (us : List Update) → settled ≤ length us → (c : ℕ) → among c (homes_of (drop settled (merged hs d settled bs us))) ≡ either (among c (homes_of (drop settled us))) (among c bs)
  merged_among [] us fits c = either_none (among c (homes_of (drop settled us)))
  merged_among (b ∷ bs) us fits c =
      merged_among bs (grown b us) (longer b us fits) c ∙ ap (λ t. either t (among c bs)) (grown_among b c us fits) ∙ either_assoc (among c (homes_of (drop settled us))) (eqb c b) (among c bs)

  -- each block that no update from there on had takes a position
  pub merged_length : (bs : List ℕ) (us : List Update) → settled ≤ length us → Distinct bs → length (merged hs d settled bs us) ≡ length us + count bs (homes_of (drop settled us))
  merged_length [] us fits h = omega arith
  merged_length (b ∷ bs) us fits h =
      let i = merged_length bs (grown b us) (longer b us fits) h.1 in
      let e = added_length settled (fresh b us) us fits in
      let s = count_same bs (homes_of (drop settled (grown b us))) (homes_of (drop settled us)) b h.0 (λ c n. grown_among b c us fits ∙ ap (either (among c (homes_of (drop settled us)))) (ne_eqb c b n) ∙ sym (either_none (among c (homes_of (drop settled us))))) in
      omega arith

  pub merged_latest : (bs : List ℕ) (us : List Update) → settled ≤ length us → Distinct bs → Distinct (homes_of (drop settled us)) → (b : ℕ) →
      latest (merged hs d settled bs us) b (block d b) ≡ cond (among b bs) (Some (laid_in hs b (bytes_or (latest us b (block d b)) []))) (latest us b (block d b))
  merged_latest [] us fits h h₂ b = refl
  merged_latest (c ∷ cs) us fits h h₂ b =
      merged_latest cs (grown c us) (longer c us fits) h.1 (grown_distinct c us fits h₂) b ∙
      ⊎_elim
      (λ (same : c ≡ b).
      ap (λ t. cond t (Some (laid_in hs b (bytes_or (latest (grown c us) b (block d b)) []))) (latest (grown c us) b (block d b))) (subst (λ (n : ℕ). among n cs ≡ false) same h.0) ∙
      added_latest settled (fresh c us) us fits b (block d b) h₂ ∙ latest_here (fresh c us) b _ same ∙
      subst (λ (n : ℕ). Some (laid_in hs n (bytes_or (latest us n (block d n)) [])) ≡ cond (among b (c ∷ cs)) (Some (laid_in hs b (bytes_or (latest us b (block d b)) []))) (latest us b (block d b))) (sym same)
      (sym (ap (λ t. cond (either t (among b cs)) (Some (laid_in hs b (bytes_or (latest us b (block d b)) []))) (latest us b (block d b))) (eq-eqb b c (sym same)))))
      (λ other.
      let keep = added_latest settled (fresh c us) us fits b (block d b) h₂ ∙ latest_other (fresh c us) b _ other in
      ap (λ (y : Block). cond (among b cs) (Some (laid_in hs b (bytes_or y []))) y) keep ∙
      sym (ap (λ t. cond (either t (among b cs)) (Some (laid_in hs b (bytes_or (latest us b (block d b)) []))) (latest us b (block d b))) (ne_eqb b c (λ e. other (sym e)))))
      (cases_eq c b)

  -- what holds of the updates and of each new one
  pub merged_every : (P : Update → Type 0) (bs : List ℕ) (us : List Update) → settled ≤ length us → AllByRecursion P us → AllByRecursion (λ b. (vs : List Update) → AllByRecursion P vs → P (fresh b vs)) bs → AllByRecursion P (merged hs d settled bs us)
  merged_every P [] us fits h new = h
  merged_every P (b ∷ bs) us fits h new = merged_every P bs (grown b us) (longer b us fits) (added_every settled (fresh b us) us fits P (new.0 us h) h) new.1
