use Rattle.std.proofs.Common.{◌≡◌, ℕ, ◌+◌, ◌-◌, ◌/◌, set, sym, ap, ◌∙◌, arith}
use borrow.Rule.Slice.PartMut.{put_mid}
use Rattle.object.proofs.Bytes.{put_over}
use Rattle.object.proofs.Spans.{whole_unless_bit}
use Rattle.object.proofs.Objects.{laid_bit, laid_bytes, width_bytes}
use Rattle.object.proofs.parts.Spot.lay.Goals as goal

pub slice_bounds-copy_from_slice-end : goal.slice_bounds-copy_from_slice-end
slice_bounds-copy_from_slice-end c =
    let o = c.args.self.now.place in
    let w = whole_unless_bit o c.args.self.now.placed c.if-size-eq1.false in
    omega (arith, width_bytes o w)
