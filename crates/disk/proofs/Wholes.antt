-- What it takes that a disk's blocks are whole.
use Rattle.std.proofs.Common.{◌≡◌, ℕ, ◌<◌, ◌≤◌, List, length, Some, None, ⊎_elim, arith}
use Rattle.std.proofs.lemmas.List.{get_or_past}
use Rattle.std.proofs.lemmas.Bool.{cases_lt}
use Rattle.disk.specs.Meaning.{Blocks, block, Whole}

-- only the blocks below the count are left to ask
pub whole_by : (d : Blocks) → length d ≤ 65536 → ((b : ℕ) (bs : List ℕ) → b < length d → block d b ≡ Some bs → length bs ≡ 512) → Whole d
whole_by d few full = record {
  few = few;
  full = λ b bs e. ⊎_elim
      (λ h. full b bs h e)
      (λ h. let p : block d b ≡ None = get_or_past d b None h in let z : ◌≡◌ {A = ℕ} 0 1 = cc in absurd (omega arith))
      (cases_lt b (length d));
}
