use Rattle.std.proofs.Common.{ap, length, sym, subst, ◌∙◌}
use Rattle.object.proofs.Objects.{part_value}
use Rattle.operation.specs.Held.{Kept}
use Rattle.operation.proofs.Padding.{kept_of, over_zeros}
use Rattle.operation.proofs.held.Held.read.Goals as goal

pub invariant_of-result : goal.invariant_of-result
invariant_of-result c =
    let o = c.args.spot.place in
    let v = c.take.new.value in
    let l = ap length c.take.ensures.bytes ∙ (part_value o c.args.block.now c.args.spot.placed (record { long = c.told-block; bytes = c.fits-block })).long in
    subst (Kept o) (sym (over_zeros v c.width.result (l ∙ sym c.width.ensures))) (kept_of o v c.args.spot.placed (l, c.take.ensures.bit))
