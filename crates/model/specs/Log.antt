-- The log of an open journal, and what format and opening test of a card and leave.
use Rattle.std.specs.Prelude.{ℕ, ◌+◌, ◌-◌, not, List, [], ◌∷◌, ◌++◌, map, length, drop, replicate, None, Option, nat_le, nat_lt}
use Rattle.std.specs.List.{range_with_len}
use Rattle.disk.specs.declared.fault.DiskFault.TheVariants.{Dead as DeadBlock}
use Rattle.disk.specs.Tests.{Test, either}
use Rattle.disk.specs.Meaning.{Blocks, block, is_live, written, block_size}
use Rattle.card.specs.declared.Update.{Update}
use Rattle.card.specs.Bytes.{all_zero}
use Rattle.card.specs.Layout.{slots, homes_from, highest, slot, log_block, header_end, start_end, homes_in, bytes_on, end_on, start_on, home_on, live_positions, live_updates}
use Rattle.model.specs.declared.LogFault.{LogFault}
use Rattle.model.specs.declared.LogFault.TheVariants.{Small, Dead, Reserved, Positions, HomeRange}
use Rattle.model.specs.declared.Round.{Round}

-- The updates are those of the positions from start on, so that last is start plus their number. `homes` are the home numbers of
-- block 0 by slot. A round, of the logger or of the installer, is none where none is running.
pub record Log : Type 0 where
  pub start : ℕ
  pub end : ℕ
  pub frozen : ℕ
  pub updates : List Update
  pub homes : List ℕ
  pub logging : Option Round
  pub installing : Option Round

abbrev pub last : Log → ℕ
last l = l.start + length l.updates

-- ## What is tested of a card, in order

abbrev pub size_tests : Blocks → List (Test LogFault)
size_tests d = (nat_le (length d) homes_from, Small) ∷ []

abbrev pub dead_test : Blocks → ℕ → Test LogFault
dead_test d b = (not (is_live (block d b)), Dead (DeadBlock b))

-- by format and by opening (64 tests and one, so that a proof opens the list only where it asks for it)
unfoldable pub card_tests : Blocks → List (Test LogFault)
card_tests d = size_tests d ++ map (dead_test d) (range_with_len 0 homes_from)

-- of block b, whose bytes from `at` on are reserved
abbrev pub reserved_tests : Blocks → ℕ → ℕ → List (Test LogFault)
reserved_tests d b at = (not (all_zero (drop at (bytes_on d b))), Reserved b) ∷ []

abbrev pub position_tests : ℕ → ℕ → List (Test LogFault)
position_tests start end = (either (nat_lt end start) (either (nat_lt slots (end - start)) (nat_lt highest end)), Positions) ∷ []

-- of position p: is its home a data block of the disk, and is that live
abbrev pub range_test : Blocks → ℕ → Test LogFault
range_test d p = let h = home_on d (slot p) in (either (nat_lt h homes_from) (nat_le (length d) h), HomeRange (log_block p))

abbrev pub life_test : Blocks → ℕ → Test LogFault
life_test d p = dead_test d (home_on d (slot p))

-- by opening alone: of blocks 0 and 1, and then of the live positions
abbrev pub head_tests : Blocks → List (Test LogFault)
head_tests d = reserved_tests d 0 header_end ++ (reserved_tests d 1 start_end ++ position_tests (start_on d) (end_on d))

abbrev pub home_tests : Blocks → List (Test LogFault)
home_tests d = map (range_test d) (live_positions d) ++ map (life_test d) (live_positions d)

abbrev pub opening_tests : Blocks → List (Test LogFault)
opening_tests d = card_tests d ++ (head_tests d ++ home_tests d)

-- ## What they leave

-- the log as the card has it, with no round running
abbrev pub log_on : Blocks → Log
log_on d = record { start = start_on d; end = end_on d; frozen = end_on d; updates = live_updates d; homes = homes_in (bytes_on d 0); logging = None; installing = None }

abbrev pub zeros : List ℕ
zeros = replicate block_size 0

-- block 0 is written first, then block 1
abbrev pub half_formatted : Blocks → Blocks
half_formatted d = written d 0 zeros

abbrev pub formatted : Blocks → Blocks
formatted d = written (half_formatted d) 1 zeros
