-- The window: `n` blocks of a disk from block `first` on, none if that range leaves the disk.
use Rattle.std.specs.Prelude.{◌≡◌, ℕ, ◌+◌, cond, List, [], length, take, drop, Some, Ok, Err, Result, nat_le, slice_set}
use Rattle.disk.specs.declared.fault.DiskFault.{DiskFault}
use Rattle.disk.specs.declared.window.Window.{Window}
use Rattle.disk.specs.Tests.{unless}
use Rattle.disk.specs.Meaning.{Blocks, refusal, written}
use Rattle.disk.specs.Above.{CarriedDown}

abbrev pub window_blocks : Blocks → ℕ → ℕ → Blocks
window_blocks d first n = cond (nat_le (first + n) (length d)) (take n (drop first d)) []

-- the blocks of a window, where those of a disk below it are told by `blocks`
abbrev pub shown : {D : Type 0} → (D → Blocks) → Window D → Blocks
shown blocks w = window_blocks (blocks w.disk) w.first w.len

-- the disk below after a write of these bytes to the window's block b, granted or refused: one block of it changes, or none
abbrev pub below_written : Blocks → ℕ → ℕ → ℕ → List ℕ → Blocks
below_written d first n b bs = unless (refusal (window_blocks d first n) b (length bs)) (slice_set d (first + b) (Some bs)) d

-- which block of a disk below is the window's block b, for a buffer that holds these bytes, or why the window refuses it; the disk below has
-- granted m writes
abbrev pub WindowFound : Blocks → ℕ → ℕ → ℕ → ℕ → List ℕ → Result ℕ DiskFault → Type 0
WindowFound d m first n b buf (Ok a) = CarriedDown (λ x. window_blocks x first n) (λ x. x) d m a b buf × (written d a buf ≡ below_written d first n b buf)
WindowFound d m first n b buf (Err f) = refusal (window_blocks d first n) b (length buf) ≡ Some f
