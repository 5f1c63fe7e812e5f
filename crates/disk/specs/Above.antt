-- A disk that lies on another hands on the answer of the one below, its fault naming the block that was named above.
use Rattle.std.specs.Prelude.{◌≡◌, ℕ, List, length, Ok, Err, Result}
use Rattle.disk.specs.declared.fault.DiskFault.{DiskFault}
use Rattle.disk.specs.declared.fault.DiskFault.TheVariants.{Beyond, Length, Dead}
use Rattle.disk.specs.Meaning.{Blocks, refusal, answered, filled, written, counted}

-- the same refusal, of block b
abbrev pub naming : ℕ → DiskFault → DiskFault
naming b (Beyond a) = Beyond b
naming b (Length a) = Length b
naming b (Dead a) = Dead b

abbrev pub handed_on : ℕ → Result (Unit {0}) DiskFault → Result (Unit {0}) DiskFault
handed_on b (Ok x) = Ok x
handed_on b (Err f) = Err (naming b f)

-- A read or a write of block b above, with a buffer that holds these bytes, is that of block a below. The disk below has the blocks d and
-- has granted m writes; `above` makes the blocks above of those below, and `count` the count of writes.
pub record CarriedDown (above : Blocks → Blocks) (count : ℕ → ℕ) (d : Blocks) (m a b : ℕ) (buf : List ℕ) : Type 0 where
  pub answer : handed_on b (answered (refusal d a (length buf))) ≡ answered (refusal (above d) b (length buf))
  pub reads : filled d a buf ≡ filled (above d) b buf
  pub blocks : above (written d a buf) ≡ written (above d) b buf
  pub writes : count (counted d a (length buf) m) ≡ counted (above d) b (length buf) (count m)
