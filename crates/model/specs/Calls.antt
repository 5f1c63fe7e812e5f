-- Every call of a journal but format and opening.
use Rattle.std.specs.Prelude.{ℕ, ◌+◌, Bool, true, false, cond, not, List, [], ◌∷◌, ◌++◌, length, is_some, Some, None, Option, nat_le, slice_index_or, slice_set}
use Rattle.std.specs.Option.{unwrap_or}
use Rattle.disk.specs.Tests.{Test, first_of, either}
use Rattle.disk.specs.Meaning.{Blocks, bytes_or}
use Rattle.object.specs.declared.Place.{Place}
use Rattle.object.specs.Objects.{width, part}
use Rattle.object.specs.Tables.{Held, value_in, is_in, holding}
use Rattle.model.specs.declared.Fault.{Fault}
use Rattle.model.specs.declared.Fault.TheVariants.{Shut, Number, Ticket}
use Rattle.model.specs.Outcomes.{Outcome, refused_by, decided, answering, within}
use Rattle.model.specs.Log.{Log}
use Rattle.model.specs.Steps.{newest, with_updates, room_tests, flush, log_step, install_step}
use Rattle.model.specs.Operations.{place_tests, bit_tests, table_tests, dirty_blocks, committed, bytes_tests}
use Rattle.model.specs.Journal.{Open, View, most_operations}

abbrev pub operation : Open → ℕ → Option (List Held)
operation j n = slice_index_or j.operations n None

abbrev pub held_by : Open → ℕ → List Held
held_by j n = unwrap_or (operation j n) []

abbrev pub with_operation : Open → ℕ → Option (List Held) → Open
with_operation j n o = record { log = j.log; operations = slice_set j.operations n o }

abbrev pub with_log : Open → Log → Open
with_log j l = record { log = l; operations = j.operations }

-- ## Calls as values

pub data Call : Type 0 where
  begins : (number : ℕ) → Call
  reads : (number : ℕ) (object : Place) (buffer : List ℕ) → Call
  overwrites : (number : ℕ) (object : Place) (bytes : List ℕ) → Call
  commits : (number : ℕ) → Call
  gives_up : (number : ℕ) → Call
  flushes : Call
  logs : Call
  installs : Call

-- the caller's buffer, as it is handed over
abbrev pub buffer_of : Call → List ℕ
buffer_of (begins n) = []
buffer_of (reads n o buffer) = buffer
buffer_of (overwrites n o bytes) = bytes
buffer_of (commits n) = []
buffer_of (gives_up n) = []
buffer_of flushes = []
buffer_of logs = []
buffer_of installs = []

-- ## What each tests, in order

abbrev pub ticket_tests : Open → ℕ → List (Test Fault)
ticket_tests j n = (not (is_some (operation j n)), Ticket) ∷ []

-- the object's value is in hand, in the log or at home
abbrev pub known : Open → Blocks → ℕ → Place → Bool
known j d n o = either (is_in (held_by j n) o) (is_some (newest j.log d o.block))

-- the last tests of a commit come into play in no run: an object is held only of a live block
abbrev pub tests_of : Call → Open → Blocks → List (Test Fault)
tests_of (begins n) j d = (either (nat_le most_operations n) (is_some (operation j n)), Number) ∷ []
tests_of (reads n o buffer) j d = ticket_tests j n ++ (place_tests d o (length buffer) ++ table_tests (held_by j n) (known j d n o) o)
tests_of (overwrites n o bytes) j d = ticket_tests j n ++ (place_tests d o (length bytes) ++ (bit_tests o bytes ++ table_tests (held_by j n) (known j d n o) o))
tests_of (commits n) j d = ticket_tests j n ++ (room_tests j.log (committed (held_by j n) j.log d) ++ bytes_tests j.log d (dirty_blocks (held_by j n) []))
tests_of (gives_up n) j d = ticket_tests j n
tests_of flushes j d = []
tests_of logs j d = []
tests_of installs j d = []

-- ## What each does once it is granted

-- the held value, else what the newest bytes have
abbrev pub seen : Open → Blocks → ℕ → Place → List ℕ
seen j d n o = unwrap_or (value_in (held_by j n) o) (part o (bytes_or (newest j.log d o.block) []))

-- operation n has this entry for its object
abbrev pub holds : Open → ℕ → Held → Open
holds j n h = with_operation j n (Some (holding (held_by j n) h))

abbrev pub reading : ℕ → Place → Open → Blocks → Outcome Open
reading n o j d = let v = seen j d n o in
    answering (width o.size) v (cond (is_in (held_by j n) o) j (holds j n (record { place = o; bytes = v; dirty = false }))) d

abbrev pub committing : ℕ → Open → Blocks → Outcome Open
committing n j d = let us = committed (held_by j n) j.log d in
    answering (j.log.start + length us) [] (with_operation (with_log j (with_updates j.log us)) n None) d

abbrev pub grants : Call → Open → Blocks → Outcome Open
grants (begins n) j d = answering n [] (with_operation j n (Some [])) d
grants (reads n o buffer) j d = reading n o j d
grants (overwrites n o bytes) j d = answering (width o.size) bytes (holds j n (record { place = o; bytes = bytes; dirty = true })) d
grants (commits n) j d = committing n j d
grants (gives_up n) j d = answering 0 [] (with_operation j n None) d
grants flushes j d = within (with_log j) (flush j.log d)
grants logs j d = within (with_log j) (log_step j.log d)
grants installs j d = within (with_log j) (install_step j.log d)

abbrev pub called : Call → Open → Blocks → Outcome Open
called c j d = decided (first_of (tests_of c j d)) (buffer_of c) j d (grants c j d)

-- a shut journal refuses every call
abbrev pub outcome : Call → View → Blocks → Outcome View
outcome c None d = refused_by Shut (buffer_of c) None d
outcome c (Some j) d = within Some (called c j d)
