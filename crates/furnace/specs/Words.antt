-- Numbers of two bytes, the low byte first, one after another.
use Rattle.std.specs.Prelude.{ℕ, ◌+◌, ◌*◌, ◌/◌, ◌%◌, List, map, slice_index}
use Rattle.std.specs.Int.{to_le_bytes, w16}
use Rattle.std.specs.List.{range_with_len}

-- the number in place i
abbrev pub word_in : List ℕ → ℕ → ℕ
word_in bs i = slice_index bs (2 * i) + 256 * slice_index bs (2 * i + 1)

-- the first n numbers
abbrev pub words_in : List ℕ → ℕ → List ℕ
words_in bs n = map (word_in bs) (range_with_len 0 n)

-- byte i of numbers, two bytes each
abbrev pub byte_of : List ℕ → ℕ → ℕ
byte_of ws i = slice_index (to_le_bytes w16 (slice_index ws (i / 2))) (i % 2)
