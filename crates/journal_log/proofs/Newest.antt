-- The newest update of a home among the rows, and the newest bytes of a block.
use Rattle.std.proofs.Common.{◌≡◌, ℕ, zero, suc, ◌+◌, ◌-◌, ◌<◌, ◌≤◌, ◌≢◌, MatchOption, Bool, true, false, cond, not, leb, List, [], ◌∷◌, length, is_some, Some, None, Ok, Err, Option, unwrap_or, sym, refl, ap, ◌∙◌, subst, ⊎_elim, arith}
use Rattle.std.specs.Option.{ok_or}
use Rattle.std.specs.Fn.{CalledAt}
use Rattle.std.specs.Iterator.{YieldsThen, FindsItem}
use Rattle.std.specs.List.{FoldsTo}
use Rattle.std.specs.Range.{range_steps_back}
use Rattle.std.specs.declared.ops.Range.{Range}
use Rattle.std.proofs.lemmas.List.{get_or_past}
use denote.Param.Members.{Mut}
use denote.Ref.{Bor}
use Rattle.std.proofs.lemmas.Bool.{cases_eq, cases_lt}
use Rattle.disk.specs.declared.fault.DiskFault.{DiskFault}
use Rattle.disk.specs.declared.fault.DiskFault.TheVariants.{Beyond, Length, Dead}
use Rattle.disk.specs.Tests.{first_of}
use Rattle.disk.specs.Meaning.{Block, Blocks, block, block_size, bytes_or, is_live, refusal}
use Rattle.disk.proofs.Refusals.{inside}
use Rattle.card.specs.declared.Update.{Update}
use Rattle.card.specs.Layout.{latest, bytes_on}
use Rattle.law.proofs.Latest.{latest_here, latest_other}
use Rattle.model.specs.Outcomes.{value_unless}
use Rattle.model.specs.Log as model
use Rattle.model.specs.Steps.{newest}
use Rattle.journal_log.specs.Ring.{row_at, rows_from}
use Rattle.journal_log.specs.declared.state.Log.{Log}
use Rattle.journal_log.specs.View.{view, fetched}
use Rattle.journal_log.specs.Updates.{NoneOf, LastOf, NewestAt, newest_read}

module _ (rows : List Update) (b : ℕ) where
  -- none of the rows has this home
  pub latest_none : (s n : ℕ) (x : Block) → NoneOf rows b s (s + n) → latest (rows_from rows s n) b x ≡ x
  latest_none s zero x h = refl
  latest_none s (suc n) x h =
      ap (latest (rows_from rows (s + 1) n) b) (latest_other (row_at rows s) b x (h s (omega arith) (omega arith))) ∙
      latest_none (s + 1) n x (λ k l m. h k (omega arith) (omega arith))

  -- the one at p has, and none after it
  pub latest_is : (s n p : ℕ) (x : Block) → s ≤ p → p < s + n → (row_at rows p).home ≡ b → NoneOf rows b (p + 1) (s + n) → latest (rows_from rows s n) b x ≡ Some (row_at rows p).bytes
  latest_is s zero p x l m e h = absurd (omega arith)
  latest_is s (suc n) p x l m e h = ⊎_elim
      (λ (same : p ≡ s).
      ap (latest (rows_from rows (s + 1) n) b) (latest_here (row_at rows s) b x (subst (λ (q : ℕ). (row_at rows q).home ≡ b) same e)) ∙
      latest_none (s + 1) n (Some (row_at rows s).bytes) (λ k i j. h k (omega arith) (omega arith)) ∙
      ap (λ (q : ℕ). Some (row_at rows q).bytes) (sym same))
      (λ ne. latest_is (s + 1) n p _ (omega arith) (omega arith) e (λ k i j. h k i (omega arith)))
      (cases_eq p s)

-- ## The last position that passes a test

-- `rfind` over a range
module _ {F : Type 0} {g : Mut F (Bor ℕ × Unit {0}) Bool} (f : F) (Yes No : ℕ → Type 0)
    (yes' : (x : ℕ) (q : F) → CalledAt g f x true q → Yes x) (no' : (x : ℕ) (q : F) → CalledAt g f x false q → (q ≡ f) × No x) where
  abbrev back : Range ℕ → Option ℕ → Range ℕ → Type 0
  back = range_steps_back (λ x y. y - x) (λ x y. y ≡ x + 1)

  abbrev Last : Range ℕ → Option ℕ → Type 0
  Last s r = MatchOption r ((k : ℕ) → s.start ≤ k → k < s.end → No k) (λ i. (s.start ≤ i) × (i < s.end) × Yes i × ((k : ℕ) → i < k → k < s.end → No k))

  at_end : (s u : Range ℕ) (p : F) (r : Option ℕ) → p ≡ f → back s r u → MatchOption r (Unit {0}) (λ x. (h : F) × CalledAt g p x true h) → Last s r
  at_end s u p None e y c = λ k a b. absurd (omega (arith, y.1.0))
  at_end s u p (Some x) e y c = (omega (arith, y), omega (arith, y), yes' x c.0 (subst (λ q. CalledAt g q x true c.0) e c.1), λ k a b. absurd (omega (arith, y)))

  -- one position further down, which does not pass
  further : (s t : Range ℕ) (x : ℕ) (r : Option ℕ) → back s (Some x) t → No x → Last t r → Last s r
  further s t x None y n l = λ k a b. ⊎_elim (λ (same : k ≡ x). subst No (sym same) n) (λ ne. l k (omega (arith, y)) (omega (arith, y))) (cases_eq k x)
  further s t x (Some i) y n l =
      (omega (arith, y, l.0), omega (arith, y, l.1), l.2, λ k a b. ⊎_elim (λ (same : k ≡ x). subst No (sym same) n) (λ ne. l.3 k a (omega (arith, y))) (cases_eq k x))

  last_by : (xs : List ℕ) (s u : Range ℕ) (p j : F) (r : Option ℕ) → p ≡ f → YieldsThen back s xs r u → FoldsTo (λ p x q. CalledAt g p x false q) p xs j →
      MatchOption r (Unit {0}) (λ x. (h : F) × CalledAt g j x true h) → Last s r
  last_by [] s u p j r e y c d = subst (λ (t : Range ℕ). Last t r) (sym y.1) (at_end y.0 u j r (sym c ∙ e) y.2 d)
  last_by (x ∷ xs) s u p j r e y c d =
      let n = no' x c.0 (subst (λ q. CalledAt g q x false c.0) e c.1) in
      further s y.1.0 x r y.1.1 n.1 (last_by xs y.1.0 u c.0 j r n.0 (y.0, y.1.2, y.2) c.2 d)

  pub last_from_Range : (s u : Range ℕ) (r : Option ℕ) → FindsItem back g s f r u → Last s r
  last_from_Range s u r d = last_by d.0 s u f d.1 r refl d.2 d.3 d.4

-- the position that was found
module _ (l : Log) (b : ℕ) where
  pub newest_told : (r : Option ℕ) → MatchOption r (NoneOf l.ring.rows b l.start l.last)
      (λ p. (l.start ≤ p) × (p < l.last) × ((row_at l.ring.rows p).home ≡ b) × ((k : ℕ) → p < k → k < l.last → (row_at l.ring.rows k).home ≢ b)) → NewestAt l b r
  newest_told None h = h
  newest_told (Some p) h = record { from = h.0; live = h.1; home = h.2; after = λ k i j. h.3 k (omega arith) j }

  pub newest_none : (old : Block) → NoneOf l.ring.rows b l.start l.last → latest (view l).updates b old ≡ old
  newest_none old h = latest_none l.ring.rows b l.start (l.last - l.start) old (λ k i j. h k i (omega arith))

  pub newest_is : (p : ℕ) (old : Block) → LastOf l b p → latest (view l).updates b old ≡ Some (row_at l.ring.rows p).bytes
  newest_is p old h = latest_is l.ring.rows b l.start (l.last - l.start) p old h.from (omega (arith, h.live)) h.home (λ k i j. h.after k i (omega arith))

pub ruleset newest_found = (newest_none, newest_is)

-- ## A read of a block

-- a live block is one of the disk's
live_inside : (d : Blocks) (b : ℕ) (bs : List ℕ) → block d b ≡ Some bs → b < length d
live_inside d b bs e = ⊎_elim
    (λ l. l)
    (λ (past : length d ≤ b). let n = get_or_past d b None past in let z : ◌≡◌ {A = ℕ} 0 1 = cc in absurd (omega arith))
    (cases_lt b (length d))

read_dead : (o : Option DiskFault) (f : DiskFault) (x : List ℕ) → is_some o ≡ true → value_unless o x ≡ Err (unwrap_or o f)
read_dead None f x e = let z : ◌≡◌ {A = ℕ} 0 1 = cc in absurd (omega arith)
read_dead (Some g) f x e = refl

-- a block that is dead, or past the count, is refused
dead_refused : (t : Bool) (b : ℕ) → is_some (first_of ((t, Beyond b) ∷ (false, Length b) ∷ (true, Dead b) ∷ [])) ≡ true
dead_refused true b = refl
dead_refused false b = refl

read_by_lem : (d : Blocks) (b : ℕ) (x : Block) → block d b ≡ x → fetched d b ≡ ok_or x (unwrap_or (refusal d b block_size) (Dead b))
read_by_lem d b None e = read_dead (refusal d b block_size) (Dead b) (bytes_on d b) (ap (λ (y : Block). is_some (first_of ((leb (length d) b, Beyond b) ∷ (false, Length b) ∷ (not (is_live y), Dead b) ∷ []))) e ∙ dead_refused (leb (length d) b) b)
read_by_lem d b (Some bs) e =
    let granted : refusal d b block_size ≡ None = inside d b block_size (live_inside d b bs e) refl ∙ ap (λ (y : Block). cond (not (is_live y)) (Some (Dead b)) None) e in
    ap (λ o. value_unless o (bytes_on d b)) granted ∙ ap (λ (y : Block). Ok (bytes_or y [])) e

-- the log has no update of the block
pub newest_own : (l : model.Log) (d : Blocks) (b : ℕ) → newest l d b ≡ block d b → fetched d b ≡ newest_read l d b
newest_own l d b e = read_by_lem d b (block d b) refl ∙ ap (λ (x : Block). ok_or x (unwrap_or (refusal d b block_size) (Dead b))) (sym e)
