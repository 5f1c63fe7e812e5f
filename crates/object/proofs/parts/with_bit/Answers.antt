use Rattle.std.proofs.Common.{◌≡◌, ◌*◌, ◌%◌, ◌^◌, arith}
use Rattle.std.proofs.lemmas.Nat.{shl_whole}
use Rattle.object.specs.Objects.{bit_at}
use Rattle.object.proofs.Bits.{bit_in, with_byte}
use Rattle.object.proofs.parts.with_bit.Goals as goal

-- neither shift loses a bit
old_whole : (c : goal.After-bit_of) → c.bit_of.result * 2 ^ c.args.k % 256 ≡ bit_at c.args.byte c.args.k * 2 ^ c.args.k
old_whole c = rw c.bit_of.ensures (shl_whole (bit_at c.args.byte c.args.k) 1 c.args.k 8 (omega arith) (omega arith))

new_whole : (c : goal.After-bit_of) → c.args.value * 2 ^ c.args.k % 256 ≡ c.args.value * 2 ^ c.args.k
new_whole c = shl_whole c.args.value 1 c.args.k 8 (omega arith) (omega arith)

pub overflow_add-result : goal.overflow_add-result
overflow_add-result c =
    let small = with_byte c.args.byte c.args.k c.args.value c.requires.bit c.ranges.byte.fits c.requires.place in
    omega (arith, old_whole c, new_whole c)
