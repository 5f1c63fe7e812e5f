-- What operations test of an object, and how their dirty objects become updates.
use Rattle.std.specs.Prelude.{ℕ, ◌-◌, ◌%◌, Bool, false, cond, not, List, [], ◌∷◌, length, is_some, ◌==◌, nat_le, nat_lt, slice_index}
use Rattle.disk.specs.declared.fault.DiskFault.TheVariants.{Dead}
use Rattle.disk.specs.Tests.{Test, both, either}
use Rattle.disk.specs.Meaning.{Blocks, block, bytes_or}
use Rattle.object.specs.declared.ObjectFault.TheVariants.{Size, Misplaced, Buffer, Bit, Overlap, Table, DeadBlock}
use Rattle.object.specs.declared.Place.{Place}
use Rattle.object.specs.Objects.{block_bits, allowed, width, laid}
use Rattle.object.specs.Tables.{Held, most_held, is_in, clashes}
use Rattle.card.specs.declared.Update.{Update}
use Rattle.card.specs.Layout.{homes_from, latest}
use Rattle.model.specs.declared.Fault.{Fault}
use Rattle.model.specs.declared.Fault.TheVariants.{Object}
use Rattle.model.specs.Log.{Log}
use Rattle.model.specs.Steps.{added, newest}

-- ## Tests

-- of an object that is named with a buffer of n bytes
abbrev pub place_tests : Blocks → Place → ℕ → List (Test Fault)
place_tests d o n =
    (not (allowed o.size), Object (Size o.block)) ∷
    (either (either (nat_lt o.block homes_from) (nat_le (length d) o.block)) (either (nat_le block_bits o.offset) (not (o.offset % o.size == 0))), Object (Misplaced o.block)) ∷
    (not (n == width o.size), Object (Buffer o.block)) ∷ []

-- of the bytes that an overwrite brings
abbrev pub bit_tests : Place → List ℕ → List (Test Fault)
bit_tests o bytes = (both (o.size == 1) (nat_lt 1 (slice_index bytes 0)), Object (Bit o.block)) ∷ []

-- of the operation's table; `known`: the object is held, or its block has newest bytes; a dead block that nothing in hand or in the log stands
-- for has none
abbrev pub table_tests : List Held → Bool → Place → List (Test Fault)
table_tests hs known o =
    (clashes hs o, Object (Overlap o.block)) ∷
    (both (nat_le most_held (length hs)) (not (is_in hs o)), Object (Table o.block)) ∷
    (not known, Object (DeadBlock (Dead o.block))) ∷ []

-- ## Commit

abbrev pub among : ℕ → List ℕ → Bool
among b [] = false
among b (c ∷ cs) = either (b == c) (among b cs)

-- the blocks of the dirty objects in table order, each once, but for those in `seen`
abbrev pub dirty_blocks : List Held → List ℕ → List ℕ
dirty_blocks [] seen = []
dirty_blocks (h ∷ hs) seen = cond (both h.dirty (not (among h.place.block seen)))
    (h.place.block ∷ dirty_blocks hs (h.place.block ∷ seen))
    (dirty_blocks hs seen)

-- bytes of block b with its dirty objects laid in
abbrev pub laid_in : List Held → ℕ → List ℕ → List ℕ
laid_in [] b bs = bs
laid_in (h ∷ hs) b bs = laid_in hs b (cond (both h.dirty (h.place.block == b)) (laid h.place h.bytes bs) bs)

-- each block's newest bytes with its dirty objects laid in, added from `settled` on
abbrev pub merged : List Held → Blocks → ℕ → List ℕ → List Update → List Update
merged hs d settled [] us = us
merged hs d settled (b ∷ bs) us = merged hs d settled bs
    (added settled (record { home = b; bytes = laid_in hs b (bytes_or (latest us b (block d b)) []) }) us)

abbrev pub committed : List Held → Log → Blocks → List Update
committed hs l d = merged hs d (l.frozen - l.start) (dirty_blocks hs []) l.updates

-- a dirty block that is dead and has no update: in no run, since an object is held only of a live block
abbrev pub bytes_tests : Log → Blocks → List ℕ → List (Test Fault)
bytes_tests l d [] = []
bytes_tests l d (b ∷ bs) = (not (is_some (newest l d b)), Object (DeadBlock (Dead b))) ∷ bytes_tests l d bs
