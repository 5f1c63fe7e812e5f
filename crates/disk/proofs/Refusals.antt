-- When a disk refuses, and what it then answers and leaves.
use Rattle.std.proofs.Common.{◌≡◌, ℕ, ◌<◌, cond, not, List, length, Some, None, Err, Option, refl, ap, arith}
use Rattle.std.proofs.lemmas.Bool.{lt-leb, eq-eqb}
use Rattle.disk.specs.declared.fault.DiskFault.{DiskFault}
use Rattle.disk.specs.declared.fault.DiskFault.TheVariants.{Dead}
use Rattle.disk.specs.Tests.{unless}
use Rattle.disk.specs.Meaning.{Blocks, block, is_live, refusal, answered}

-- inside the disk, with a whole buffer, only whether the block is live is left to ask
module _ (d : Blocks) (b n : ℕ) where
  pub inside : b < length d → n ≡ 512 → refusal d b n ≡ cond (not (is_live (block d b))) (Some (Dead b)) None
  inside h l = rw (lt-leb (length d) b h, eq-eqb n 512 l)

  pub dead : b < length d → n ≡ 512 → block d b ≡ None → refusal d b n ≡ Some (Dead b)
  dead h l e = rw (inside h l, e)

  pub granted : (bs : List ℕ) → b < length d → n ≡ 512 → block d b ≡ Some bs → refusal d b n ≡ None
  granted bs h l e = rw (inside h l, e)

pub unless_none : {A F : Type 0} {f : Option F} (a b : A) → f ≡ None → unless f a b ≡ a
unless_none a b e = ap (λ g. unless g a b) e

pub unless_under : {A B F : Type 0} (g : A → B) (f : Option F) (a b : A) → g (unless f a b) ≡ unless f (g a) (g b)
unless_under g None a b = refl
unless_under g (Some x) a b = refl

pub answered_err : (f : Option DiskFault) (x : DiskFault) → Err x ≡ answered f → f ≡ Some x
answered_err None x e = let z : ◌≡◌ {A = ℕ} 0 1 = cc in absurd (omega arith)
answered_err (Some f) x e = cc
