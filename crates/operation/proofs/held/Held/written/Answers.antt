use Rattle.std.proofs.Common.{ap, length, sym, subst}
use Rattle.operation.specs.Held.{Kept, IsValue}
use Rattle.operation.proofs.Padding.{kept_of, over_zeros}
use Rattle.operation.proofs.held.Held.written.Goals as goal

pub invariant_of-result : goal.invariant_of-result
invariant_of-result c =
    let o = c.args.spot.place in
    let v = c.copy_from_slice.new.self in
    let e = c.copy_from_slice.ensures.after in
    subst (Kept o) (sym (over_zeros v _ (ap length e))) (kept_of o v c.args.spot.placed (subst (IsValue o) (sym e) c.requires))
