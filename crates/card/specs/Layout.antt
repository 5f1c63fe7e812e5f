-- The card: block 0, the header, holds the end position and the home number of each slot; block 1 holds the start position; the log
-- lies in the 62 blocks after them, and data blocks, called homes, begin at block 64.
use Rattle.std.specs.Prelude.{ℕ, ◌+◌, ◌-◌, ◌*◌, ◌%◌, ◌^◌, ◌<◌, cond, List, [], ◌∷◌, ◌++◌, map, replicate, Some, ◌==◌, ◌≢◌}
use Rattle.std.specs.List.{range_with_len, flat_map}
use Rattle.disk.specs.Meaning.{Block, Blocks, block, bytes_or}
use Rattle.card.specs.declared.Header.{Header}
use Rattle.card.specs.declared.Update.{Update}
use Rattle.card.specs.Bytes.{to_bytes, field}

-- how many slots the log has
abbrev pub slots : ℕ
slots = 62

-- the first data block
abbrev pub homes_from : ℕ
homes_from = 64

-- no position is higher
abbrev pub highest : ℕ
highest = 2 ^ 63

-- position p has this slot, and lies in this block
abbrev pub slot : ℕ → ℕ
slot p = p % slots

abbrev pub log_block : ℕ → ℕ
log_block p = 2 + slot p

-- positions less than a log's length apart have different slots, whatever that length is
abbrev pub SlotsDiffer : Type 0
SlotsDiffer = (n p q : ℕ) → p < q → q < p + n → p % n ≢ q % n

-- ## The bytes of blocks 0 and 1

-- the first reserved byte of each: from there on all are zero
abbrev pub header_end : ℕ
header_end = 256

abbrev pub start_end : ℕ
start_end = 8

abbrev pub end_in : List ℕ → ℕ
end_in bs = field 0 8 bs

abbrev pub home_in : List ℕ → ℕ → ℕ
home_in bs s = field (8 + 4 * s) 4 bs

abbrev pub homes_in : List ℕ → List ℕ
homes_in bs = map (home_in bs) (range_with_len 0 slots)

abbrev pub start_in : List ℕ → ℕ
start_in bs = field 0 8 bs

abbrev pub header_in : List ℕ → Header
header_in bs = record { end = end_in bs; homes = homes_in bs }

abbrev pub header_block : Header → List ℕ
header_block h = to_bytes 8 h.end ++ (flat_map (to_bytes 4) h.homes ++ replicate 256 0)

abbrev pub start_block : ℕ → List ℕ
start_block p = to_bytes 8 p ++ replicate 504 0

-- ## What a card holds

abbrev pub bytes_on : Blocks → ℕ → List ℕ
bytes_on d b = bytes_or (block d b) []

abbrev pub end_on : Blocks → ℕ
end_on d = end_in (bytes_on d 0)

abbrev pub start_on : Blocks → ℕ
start_on d = start_in (bytes_on d 1)

abbrev pub home_on : Blocks → ℕ → ℕ
home_on d s = home_in (bytes_on d 0) s

-- the update at position p: the home number of its slot, and the bytes in its log block
abbrev pub update_on : Blocks → ℕ → Update
update_on d p = record { home = home_on d (slot p); bytes = bytes_on d (log_block p) }

-- the live positions: from start up to but excluding end
abbrev pub live_positions : Blocks → List ℕ
live_positions d = range_with_len (start_on d) (end_on d - start_on d)

abbrev pub live_updates : Blocks → List Update
live_updates d = map (update_on d) (live_positions d)

-- what a block holds after updates in order: the last of its own, else what it held
abbrev pub latest : List Update → ℕ → Block → Block
latest [] b old = old
latest (u ∷ us) b old = latest us b (cond (u.home == b) (Some u.bytes) old)

-- data blocks by number
abbrev pub Area : Type 0
Area = ℕ → Block

-- what a card shows: of each data block the bytes in the log block of the highest live position with that home, else the home's own
abbrev pub area : Blocks → Area
area d b = latest (live_updates d) b (block d b)
