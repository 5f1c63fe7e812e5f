-- Disks that lie in a run of bytes, which is cut into cells of one width, a block to a cell.
use Rattle.std.specs.Prelude.{◌≡◌, ℕ, ◌+◌, ◌*◌, ◌/◌, ◌≤◌, true, min, List, ◌++◌, map, length, take, drop, Some, None, Ok, Err, Result}
use Rattle.std.specs.List.{range_with_len}
use Rattle.disk.specs.declared.fault.DiskFault.{DiskFault}
use Rattle.disk.specs.Tests.{unless}
use Rattle.disk.specs.Meaning.{Block, Blocks, block_size, most_blocks, is_live, refusal, filled, written}

-- how many cells of w bytes lie in n bytes, no more than a disk may have blocks
abbrev pub fitting : ℕ → ℕ → ℕ
fitting n w = min (n / w) most_blocks

-- the bytes of cell i
abbrev pub cell_bytes : ℕ → List ℕ → ℕ → List ℕ
cell_bytes w bs i = take w (drop (w * i) bs)

-- the blocks, where `told` reads a block off its cell
abbrev pub cell_blocks : ℕ → (List ℕ → Block) → List ℕ → Blocks
cell_blocks w told bs = map (λ i. told (cell_bytes w bs i)) (range_with_len 0 (fitting (length bs) w))

-- the bytes with those from `at` on replaced by the new ones
abbrev pub overlaid : List ℕ → ℕ → List ℕ → List ℕ
overlaid bs at new = take at bs ++ (new ++ drop (at + length new) bs)

-- the bytes after a write of `new` to block b, granted or refused: the new ones at the start of its cell, and all others as they were
abbrev pub cell_written : ℕ → (List ℕ → Block) → List ℕ → ℕ → List ℕ → List ℕ
cell_written w told bs b new = unless (refusal (cell_blocks w told bs) b (length new)) (overlaid bs (w * b) new) bs

-- what makes a layout of cells of w bytes, where `told` reads a block off its cell: a live cell begins with its block's bytes, and stays live
-- when others are laid over these
pub record Laid (w : ℕ) (told : List ℕ → Block) : Type 0 where
  pub room : block_size ≤ w
  pub shows : (c : List ℕ) → length c ≡ w → is_live (told c) ≡ true → told c ≡ Some (take block_size c)
  pub stays : (c new : List ℕ) → length c ≡ w → length new ≡ block_size → is_live (told c) ≡ true → told (new ++ drop (length new) c) ≡ Some new

-- block b, live, lies from `at` on, and may be read into these bytes or written from them: what each then does
pub record LiveCell (w : ℕ) (told : List ℕ → Block) (bs : List ℕ) (b : ℕ) (buf : List ℕ) (at : ℕ) : Type 0 where
  pub within : at + w ≤ length bs
  pub room : block_size ≤ w
  pub full : length buf ≡ block_size
  pub granted : refusal (cell_blocks w told bs) b (length buf) ≡ None
  pub reads : take block_size (drop at bs) ≡ filled (cell_blocks w told bs) b buf
  pub writes : overlaid bs at buf ≡ cell_written w told bs b buf
  pub blocks : cell_blocks w told (overlaid bs at buf) ≡ written (cell_blocks w told bs) b buf

-- where block b lies for a buffer that holds these bytes, or why it may be neither read nor written
abbrev pub CellFound : ℕ → (List ℕ → Block) → List ℕ → ℕ → List ℕ → Result ℕ DiskFault → Type 0
CellFound w told bs b buf (Ok at) = LiveCell w told bs b buf at
CellFound w told bs b buf (Err f) = refusal (cell_blocks w told bs) b (length buf) ≡ Some f
