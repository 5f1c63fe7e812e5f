-- The updates in memory.
use Rattle.std.specs.Prelude.{ℕ, List, [], map, replicate, slice_index_or}
use Rattle.std.specs.List.{range_with_len}
use Rattle.disk.specs.Meaning.{block_size}
use Rattle.card.specs.declared.Update.{Update}
use Rattle.card.specs.Layout.{slot}

-- a row that no update has been put in
abbrev pub blank : Update
blank = record { home = 0; bytes = replicate block_size 0 }

-- what stands for a row past the last, which no slot has
abbrev pub absent : Update
absent = record { home = 0; bytes = [] }

-- the update at position p
abbrev pub row_at : List Update → ℕ → Update
row_at rows p = slice_index_or rows (slot p) absent

-- the updates of n positions from p on
abbrev pub rows_from : List Update → ℕ → ℕ → List Update
rows_from rows p n = map (row_at rows) (range_with_len p n)
