-- The journal: what making one, format and opening answer and leave.
use Rattle.std.specs.Prelude.{◌≡◌, ℕ, ◌⊎◌, List, [], ◌∷◌, map, replicate, is_some, Some, None, Ok, Option}
use Rattle.object.specs.Tables.{Held}
use Rattle.disk.specs.Tests.{Test, first_of}
use Rattle.disk.specs.Meaning.{Blocks}
use Rattle.card.specs.Layout.{end_on}
use Rattle.model.specs.declared.LogFault.{LogFault}
use Rattle.model.specs.declared.Fault.{Fault}
use Rattle.model.specs.declared.Fault.TheVariants.{Opened, Log as InLog}
use Rattle.model.specs.Outcomes.{Outcome, decided, answering}
use Rattle.model.specs.Log.{Log, card_tests, opening_tests, log_on, half_formatted, formatted}

-- an open journal: its log, and of each of the four operations what it holds, none where it is not open
pub record Open : Type 0 where
  pub log : Log
  pub operations : List (Option (List Held))

-- none: shut
abbrev pub View : Type 0
View = Option Open

-- as a journal is made
abbrev pub shut : View
shut = None

-- how many operations there may be
abbrev pub most_operations : ℕ
most_operations = 4

-- open with this log, and no operation open
abbrev pub opened_with : Log → Open
opened_with l = record { log = l; operations = replicate most_operations None }

-- a test of the log, as the journal's
abbrev pub of_log : Test LogFault → Test Fault
of_log t = (t.0, InLog t.1)

abbrev pub format_tests : View → Blocks → List (Test Fault)
format_tests v d = (is_some v, Opened) ∷ map of_log (card_tests d)

abbrev pub format : View → Blocks → Outcome View
format v d = decided (first_of (format_tests v d)) [] v d (record { answer = Ok 0; wrote = 0 ∷ 1 ∷ []; buffer = []; state = v; disk = formatted d })

abbrev pub open_tests : View → Blocks → List (Test Fault)
open_tests v d = (is_some v, Opened) ∷ map of_log (opening_tests d)

abbrev pub opening : View → Blocks → Outcome View
opening v d = decided (first_of (open_tests v d)) [] v d (answering (end_on d) [] (Some (opened_with (log_on d))) d)

-- what a power cut in format may leave: nothing written, block 0 written, or both
abbrev pub FormatLeaves : Blocks → Blocks → Type 0
FormatLeaves d left = (left ≡ d) ⊎ (left ≡ half_formatted d) ⊎ (left ≡ formatted d)

-- a new journal on what it left formats it again, and leaves the same card
abbrev pub FormatAgain : Blocks → Type 0
FormatAgain d = (left : Blocks) → FormatLeaves d left → format shut left ≡ format shut d
