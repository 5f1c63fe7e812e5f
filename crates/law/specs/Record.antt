-- The record of what callers did and were told. It is kept from the calls, their answers and the cards that openings find, and from nothing inside the journal.
use Rattle.std.specs.Prelude.{ℕ, ◌+◌, max, true, false, cond, not, List, [], ◌∷◌, ◌++◌, length, replicate, is_some, Some, None, Ok, Err, Option, Result, ◌==◌, nat_le, nat_lt, slice_index_or, slice_set}
use Rattle.std.specs.Option.{option_map, unwrap_or}
use Rattle.disk.specs.Meaning.{Blocks, block, is_live, bytes_or}
use Rattle.disk.specs.Tests.{Test, either}
use Rattle.object.specs.Objects.{part, laid}
use Rattle.object.specs.Tables.{Held, is_in, holding, dirty_ones}
use Rattle.card.specs.Layout.{slots, highest, end_on, start_on, Area, area}
use Rattle.model.specs.declared.LogFault.TheVariants.{Full, Exhausted}
use Rattle.model.specs.declared.Fault.{Fault}
use Rattle.model.specs.declared.Fault.TheVariants.{Number, Ticket, Log as InLog}
use Rattle.model.specs.Operations.{place_tests, bit_tests, table_tests, dirty_blocks}
use Rattle.model.specs.Journal.{most_operations}
use Rattle.model.specs.Calls.{Call, begins, reads, overwrites, commits, gives_up, flushes, logs, installs}

-- a granted commit: the position that it answered, and the objects that it changed
pub record Commit : Type 0 where
  pub position : ℕ
  pub objects : List Held

pub record Record : Type 0 where
  pub first : Area
  pub commits : List Commit
  -- of each open number the objects touched, in order of first touch
  pub touched : List (Option (List Held))
  -- the highest end answered so far
  pub ended : ℕ
  -- since the last opening, the highest position that a commit answered, and the highest that a flush answered; the end, where none did
  pub reached : ℕ
  pub flushed : ℕ
  -- the highest position that no later commit may absorb into: a flush settles all, and so does a logger step that finds nothing settled to write
  pub settled : ℕ

-- ## Areas

abbrev pub lay : List Held → Area → Area
lay [] a = a
lay (h ∷ hs) a = lay hs (λ b. cond (h.place.block == b) (option_map (laid h.place h.bytes) (a b)) (a b))

abbrev pub lay_all : List Commit → Area → Area
lay_all [] a = a
lay_all (c ∷ cs) a = lay_all cs (lay c.objects a)

-- the first area with the listed commits laid on in order
abbrev pub plain : Record → Area
plain r = lay_all r.commits r.first

-- ## Keeping it

abbrev pub touched_by : Record → ℕ → List Held
touched_by r n = unwrap_or (slice_index_or r.touched n None) []

abbrev pub touching : Record → ℕ → Option (List Held) → Record
touching r n o = record { first = r.first; commits = r.commits; touched = slice_set r.touched n o; ended = r.ended; reached = r.reached; flushed = r.flushed; settled = r.settled }

-- after a call that was granted and answered m
abbrev pub granted : Call → ℕ → Record → Record
granted (begins n) m r = touching r n (Some [])
granted (reads n o buffer) m r = cond (is_in (touched_by r n) o) r
    (touching r n (Some (touched_by r n ++ record { place = o; bytes = part o (bytes_or (plain r o.block) []); dirty = false } ∷ [])))
granted (overwrites n o bytes) m r = touching r n (Some (holding (touched_by r n) (record { place = o; bytes = bytes; dirty = true })))
granted (commits n) m r = record { first = r.first; commits = r.commits ++ record { position = m; objects = dirty_ones (touched_by r n) } ∷ []; touched = slice_set r.touched n None; ended = r.ended; reached = m; flushed = r.flushed; settled = r.settled }
granted (gives_up n) m r = touching r n None
granted flushes m r = record { first = r.first; commits = r.commits; touched = r.touched; ended = r.ended; reached = r.reached; flushed = m; settled = m }
granted logs m r = record { first = r.first; commits = r.commits; touched = r.touched; ended = max r.ended m; reached = r.reached; flushed = r.flushed; settled = cond (nat_le r.settled r.ended) r.reached r.settled }
granted installs m r = r

abbrev pub noted : Call → Result ℕ Fault → Record → Record
noted c (Ok m) r = granted c m r
noted c (Err f) r = r

-- the commits whose position is at most e
abbrev pub up_to : ℕ → List Commit → List Commit
up_to e [] = []
up_to e (c ∷ cs) = cond (nat_le c.position e) (c ∷ up_to e cs) (up_to e cs)

-- after a cut, and an opening that found end e on the card
abbrev pub reopened : ℕ → Record → Record
reopened e r = record { first = r.first; commits = up_to e r.commits; touched = replicate most_operations None; ended = max r.ended e; reached = e; flushed = e; settled = e }

-- where the law starts: an accepted opening of this card
abbrev pub begun : Blocks → Record
begun d = record { first = area d; commits = []; touched = replicate most_operations None; ended = end_on d; reached = end_on d; flushed = end_on d; settled = end_on d }

-- ## What callers may expect of it: the refusals of each call but for want of room, by the record and the disk

abbrev pub blocks_of : List Held → List ℕ
blocks_of [] = []
blocks_of (h ∷ hs) = h.place.block ∷ blocks_of hs

-- the blocks that commits above position e changed
abbrev pub changed_above : ℕ → List Commit → List ℕ
changed_above e [] = []
changed_above e (c ∷ cs) = cond (nat_le c.position e) (changed_above e cs) (blocks_of c.objects ++ changed_above e cs)

-- where a commit comes to: each block that it changes, and that no unsettled commit changed before, takes a position
abbrev pub due : Record → ℕ → ℕ
due r n = r.reached + length (dirty_blocks (dirty_ones (touched_by r n)) (changed_above r.settled r.commits))

abbrev pub open_test : Record → ℕ → Test Fault
open_test r n = (not (is_some (slice_index_or r.touched n None)), Ticket)

abbrev pub refusals : Call → Record → Blocks → List (Test Fault)
refusals (begins n) r d = (either (nat_le most_operations n) (is_some (slice_index_or r.touched n None)), Number) ∷ []
refusals (reads n o buffer) r d = open_test r n ∷ (place_tests d o (length buffer) ++ table_tests (touched_by r n) (is_live (block d o.block)) o)
refusals (overwrites n o bytes) r d = open_test r n ∷ (place_tests d o (length bytes) ++ (bit_tests o bytes ++ table_tests (touched_by r n) (is_live (block d o.block)) o))
refusals (commits n) r d = open_test r n ∷ (nat_lt (start_on d + slots) (due r n), InLog Full) ∷ (nat_lt highest (due r n), InLog Exhausted) ∷ []
refusals (gives_up n) r d = open_test r n ∷ []
refusals flushes r d = []
refusals logs r d = []
refusals installs r d = []
