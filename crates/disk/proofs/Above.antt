-- A disk that shows blocks of a disk below: what the one below ensures of a call gives what the one above ensures.
use Rattle.std.proofs.Common.{◌≡◌, ℕ, ◌<◌, Bool, true, false, cond, not, eqb, List, [], length, set, Some, None, Option, sym, refl, ap, ◌∙◌}
use Rattle.std.proofs.lemmas.Bool.{lt-leb}
use Rattle.disk.specs.declared.fault.DiskFault.{DiskFault}
use Rattle.disk.specs.declared.fault.DiskFault.TheVariants.{Length, Dead}
use Rattle.disk.specs.Tests.{unless}
use Rattle.disk.specs.Meaning.{Blocks, Block, block, is_live, refusal, answered, bytes_or, one_more}
use Rattle.disk.specs.Above.{naming, handed_on, CarriedDown}
use Rattle.disk.proofs.Refusals.{unless_under}

-- block b of the disk above is block a of the disk d below
pub record Shows (above : Blocks → Blocks) (d : Blocks) (a b : ℕ) : Type 0 where
  pub in_below : a < length d
  pub in_above : b < length (above d)
  pub same : block (above d) b ≡ block d a
  pub sets : (x : Block) → above (set d a x) ≡ set (above d) b x

abbrev renamed : ℕ → Option DiskFault → Option DiskFault
renamed b None = None
renamed b (Some f) = Some (naming b f)

unless_renamed : {A : Type 0} (b : ℕ) (f : Option DiskFault) (x y : A) → unless (renamed b f) x y ≡ unless f x y
unless_renamed b None x y = refl
unless_renamed b (Some f) x y = refl

answered_renamed : (b : ℕ) (f : Option DiskFault) → handed_on b (answered f) ≡ answered (renamed b f)
answered_renamed b None = refl
answered_renamed b (Some f) = refl

renamed_tests : (t : Bool) (x : Block) (a b : ℕ) → cond t (Some (Length b)) (cond (not (is_live x)) (Some (Dead b)) None) ≡ renamed b (cond t (Some (Length a)) (cond (not (is_live x)) (Some (Dead a)) None))
renamed_tests true x a b = refl
renamed_tests false None a b = refl
renamed_tests false (Some bs) a b = refl

module _ {above : Blocks → Blocks} {d : Blocks} {a b : ℕ} (k : Shows above d a b) where
  refusal_above : (n : ℕ) → refusal (above d) b n ≡ renamed b (refusal d a n)
  refusal_above n = rw (lt-leb (length (above d)) b k.in_above, lt-leb (length d) a k.in_below, k.same) (renamed_tests (not (eqb n 512)) (block d a) a b)

  pub unless_above : {A : Type 0} (n : ℕ) (x y : A) → unless (refusal d a n) x y ≡ unless (refusal (above d) b n) x y
  unless_above n x y = sym (ap (λ f. unless f x y) (refusal_above n) ∙ unless_renamed b (refusal d a n) x y)

  under_above : {A B : Type 0} (f : A → B) (n : ℕ) (x y : A) (z : B) → f x ≡ z → f (unless (refusal d a n) x y) ≡ unless (refusal (above d) b n) z (f y)
  under_above f n x y z e = unless_under f (refusal d a n) x y ∙ unless_above n (f x) (f y) ∙ ap (λ v. unless (refusal (above d) b n) v (f y)) e

  pub carried_down : (count : ℕ → ℕ) (m : ℕ) (buf : List ℕ) → count (one_more m) ≡ one_more (count m) → CarriedDown above count d m a b buf
  carried_down count m buf more = record {
    answer = answered_renamed b (refusal d a (length buf)) ∙ sym (ap answered (refusal_above (length buf)));
    reads = unless_above (length buf) _ buf ∙ ap (λ x. unless (refusal (above d) b (length buf)) (bytes_or x []) buf) (sym k.same);
    blocks = under_above above (length buf) (set d a (Some buf)) d _ (k.sets (Some buf));
    writes = under_above count (length buf) (one_more m) m _ more;
  }
