-- What a disk is: a list of blocks, each 512 bytes or dead, and when it refuses. A disk also counts the writes that it granted, from
-- 0 to 2^64 - 1 and round again: so a contract can say that a call makes one write and no more.
use Rattle.std.specs.Prelude.{◌≡◌, ℕ, ◌+◌, ◌%◌, ◌^◌, ◌≤◌, Bool, true, false, not, List, [], ◌∷◌, length, Some, None, Ok, Err, Option, Result, ◌==◌, nat_le, slice_index_or, slice_set}
use Rattle.disk.specs.declared.fault.DiskFault.{DiskFault}
use Rattle.disk.specs.declared.fault.DiskFault.TheVariants.{Beyond, Length, Dead}
use Rattle.disk.specs.Tests.{Test, first_of, unless}

-- how many bytes a live block has, and how many blocks a disk may have
abbrev pub block_size : ℕ
block_size = 512

abbrev pub most_blocks : ℕ
most_blocks = 65536

-- the bytes of a block, or none where it is dead
abbrev pub Block : Type 0
Block = Option (List ℕ)

abbrev pub Blocks : Type 0
Blocks = List Block

-- block b; past the count none, as if dead
abbrev pub block : Blocks → ℕ → Block
block d b = slice_index_or d b None

abbrev pub is_live : Block → Bool
is_live None = false
is_live (Some bs) = true

-- the bytes of a live block, and those given in the place of a dead one's
abbrev pub bytes_or : Block → List ℕ → List ℕ
bytes_or None other = other
bytes_or (Some bs) other = bs

-- what a disk tests of a read or a write that names block b with a buffer of n bytes
abbrev pub disk_tests : Blocks → ℕ → ℕ → List (Test DiskFault)
disk_tests d b n =
    (nat_le (length d) b, Beyond b) ∷
    (not (n == block_size), Length b) ∷
    (not (is_live (block d b)), Dead b) ∷ []

abbrev pub refusal : Blocks → ℕ → ℕ → Option DiskFault
refusal d b n = first_of (disk_tests d b n)

-- the answer that goes with it
abbrev pub answered : Option DiskFault → Result (Unit {0}) DiskFault
answered None = Ok tt
answered (Some f) = Err f

-- the buffer after a read of block b, granted or refused
abbrev pub filled : Blocks → ℕ → List ℕ → List ℕ
filled d b buffer = unless (refusal d b (length buffer)) (bytes_or (block d b) []) buffer

-- the disk after a write of these bytes to block b, granted or refused
abbrev pub written : Blocks → ℕ → List ℕ → Blocks
written d b bs = unless (refusal d b (length bs)) (slice_set d b (Some bs)) d

-- one write more
abbrev pub one_more : ℕ → ℕ
one_more writes = (writes + 1) % 2 ^ 64

-- the count of writes after a write to block b with a buffer of n bytes, granted or refused
abbrev pub counted : Blocks → ℕ → ℕ → ℕ → ℕ
counted d b n writes = unless (refusal d b n) (one_more writes) writes

-- what every disk's blocks are
pub record Whole (d : Blocks) : Type 0 where
  pub few : length d ≤ most_blocks
  pub full : (b : ℕ) (bs : List ℕ) → block d b ≡ Some bs → length bs ≡ block_size
