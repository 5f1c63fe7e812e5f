-- Objects: where they lie in a block, and how they are taken out of it and laid into it. Bit k of a block is bit k mod 8, from the lowest, of
-- byte k div 8.
use Rattle.std.specs.Prelude.{ℕ, ◌+◌, ◌-◌, ◌*◌, ◌/◌, ◌%◌, ◌^◌, Bool, cond, List, [], ◌∷◌, ◌++◌, take, drop, ◌==◌, count_ones, nat_le, nat_lt, slice_index, slice_set}
use Rattle.disk.specs.Tests.{both, either}
use Rattle.object.specs.declared.Place.{Place}

-- how many bits a block has
abbrev pub block_bits : ℕ
block_bits = 4096

-- one bit, or a power of two from 8 bits to a block
abbrev pub allowed : ℕ → Bool
allowed s = either (s == 1) (both (count_ones s == 1) (both (nat_le 8 s) (nat_le s block_bits)))

-- how many bytes an object of this size is handed over in
abbrev pub width : ℕ → ℕ
width s = cond (s == 1) 1 (s / 8)

abbrev pub bit_at : ℕ → ℕ → ℕ
bit_at byte k = byte / 2 ^ k % 2

abbrev pub with_bit : ℕ → ℕ → ℕ → ℕ
with_bit byte k v = byte - bit_at byte k * 2 ^ k + v * 2 ^ k

-- the object's bytes in a block
abbrev pub part : Place → List ℕ → List ℕ
part o bs = cond (o.size == 1) (bit_at (slice_index bs (o.offset / 8)) (o.offset % 8) ∷ []) (take (o.size / 8) (drop (o.offset / 8) bs))

-- the block with these bytes laid in for the object
abbrev pub laid : Place → List ℕ → List ℕ → List ℕ
laid o v bs = cond (o.size == 1)
    (slice_set bs (o.offset / 8) (with_bit (slice_index bs (o.offset / 8)) (o.offset % 8) (slice_index v 0)))
    (take (o.offset / 8) bs ++ (v ++ drop (o.offset / 8 + o.size / 8) bs))

abbrev pub same : Place → Place → Bool
same o p = both (o.block == p.block) (both (o.offset == p.offset) (o.size == p.size))

-- the two have a bit in common
abbrev pub overlap : Place → Place → Bool
overlap o p = both (o.block == p.block) (both (nat_lt o.offset (p.offset + p.size)) (nat_lt p.offset (o.offset + o.size)))
