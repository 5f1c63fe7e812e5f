use Rattle.std.proofs.Common.{◌≡◌, ℕ, ◌+◌, ◌-◌, ◌/◌, [], ◌∷◌, length, sym, ap, ◌∙◌, arith}
use borrow.Rule.Slice.PartMut.{mid_of}
use Rattle.object.specs.Objects.{width}
use Rattle.object.proofs.Spans.{whole_unless_bit}
use Rattle.object.proofs.Objects.{part_bit, part_bytes, width_bytes, set_one}
use Rattle.object.proofs.parts.Spot.take.Goals as goal

pub slice_bounds-copy_from_slice-end : goal.slice_bounds-copy_from_slice-end
slice_bounds-copy_from_slice-end c =
    let o = c.args.self.now.place in
    let w = whole_unless_bit o c.args.self.now.placed c.if-size-eq1.false in
    omega (arith, width_bytes o w)
