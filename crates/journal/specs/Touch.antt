-- What a read and an overwrite do to the table of one operation, over a log and a disk.
use Rattle.std.specs.Prelude.{ℕ, false, cond, not, List, [], ◌∷◌, ◌++◌, length, is_some, Option}
use Rattle.std.specs.Option.{unwrap_or}
use Rattle.disk.specs.Tests.{Test, first_of, either}
use Rattle.disk.specs.Meaning.{Blocks, bytes_or}
use Rattle.object.specs.declared.Place.{Place}
use Rattle.object.specs.Objects.{part}
use Rattle.object.specs.Tables.{Held, value_in, is_in, holding}
use Rattle.model.specs.declared.Fault.{Fault}
use Rattle.model.specs.declared.Fault.TheVariants.{Ticket}
use Rattle.model.specs.Log.{Log}
use Rattle.model.specs.Steps.{newest}
use Rattle.model.specs.Operations.{place_tests, bit_tests, table_tests}

module _ (l : Log) (d : Blocks) (o : Place) where
  -- what is tested of an operation that holds these objects
  abbrev pub held_tests : List Held → List (Test Fault)
  held_tests hs = table_tests hs (either (is_in hs o) (is_some (newest l d o.block))) o

  -- the held value, else what the newest bytes have
  abbrev pub seen_by : List Held → List ℕ
  seen_by hs = unwrap_or (value_in hs o) (part o (bytes_or (newest l d o.block) []))

  -- after a read of it: held, clean where it was not held before
  abbrev pub read_into : List Held → List Held
  read_into hs = cond (is_in hs o) hs (holding hs (record { place = o; bytes = seen_by hs; dirty = false }))

  -- all that a read, or an overwrite, tests of an object with a buffer of n bytes, or with these bytes
  abbrev pub read_tests : List Held → ℕ → List (Test Fault)
  read_tests hs n = place_tests d o n ++ held_tests hs

  abbrev pub overwrite_tests : List Held → List ℕ → List (Test Fault)
  overwrite_tests hs bytes = place_tests d o (length bytes) ++ (bit_tests o bytes ++ held_tests hs)

  -- what refuses a read, or an overwrite, by an operation that holds these objects, or is not open
  abbrev pub read_by : Option (List Held) → ℕ → Option Fault
  read_by t n = first_of ((not (is_some t), Ticket) ∷ read_tests (unwrap_or t []) n)

  abbrev pub overwritten_by : Option (List Held) → List ℕ → Option Fault
  overwritten_by t bytes = first_of ((not (is_some t), Ticket) ∷ overwrite_tests (unwrap_or t []) bytes)
