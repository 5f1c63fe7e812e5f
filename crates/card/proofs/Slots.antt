-- Slots of positions.
use Rattle.std.proofs.Common.{◌+◌, ◌*◌, ◌/◌, ◌<◌, ◌≤◌, ⊎_elim, mul-add, arith}
use native.Mathlib.Nat.{div-add-mod}
use Rattle.std.proofs.lemmas.Nat.{mul-le}
use Rattle.std.proofs.lemmas.Bool.{cases_lt}
use Rattle.card.specs.Layout.{SlotsDiffer}

pub slots_differ : SlotsDiffer
slots_differ n p q less near same =
    let a = p / n in
    let b = q / n in
    let at_p = div-add-mod p n in
    let at-q = div-add-mod q n in
    ⊎_elim
    (λ (h : a < b). let m : n * (a + 1) ≤ n * b = mul-le n (a + 1) n b (omega arith) (omega arith) in omega (arith, mul-add n a 1))
    (λ (h : b ≤ a). let m : n * b ≤ n * a = mul-le n b n a (omega arith) h in omega arith)
    (cases_lt a b)
