-- What a journal in memory stands for, and what its calls answer.
use Rattle.std.specs.Prelude.{◌≡◌, ℕ, List, [], Ok, Err, Option, Result}
use Rattle.std.specs.Option.{option_map}
use Rattle.disk.specs.Meaning.{Blocks}
use Rattle.object.specs.Tables.{Held}
use Rattle.journal_log.specs.declared.state.Log.{Log}
use Rattle.journal_log.specs.declared.steps.Step.{Step}
use Rattle.journal_log.specs.View.{view as log_view}
use Rattle.journal_log.specs.Steps.{block_told}
use Rattle.model.specs.declared.Fault.{Fault}
use Rattle.model.specs.Journal as model
use Rattle.model.specs.Journal.{View, shut, opened_with, format, opening}
use Rattle.model.specs.Outcomes.{refused_by}
use Rattle.journal.specs.declared.Journal.{Journal}
use Rattle.journal.specs.declared.opened.Open.{Open}
use Rattle.journal.specs.declared.ticket.Ticket.{Ticket}
use Rattle.journal.specs.declared.ticket.Refused.{Refused}

-- open with its log, and no operation open
abbrev pub view_of : Log → model.Open
view_of l = opened_with (log_view l)

-- open, with this log and these operations
abbrev pub opened : Log → List (Option (List Held)) → model.Open
opened l ts = record (view_of l) { operations = ts }

-- what the memory of an open journal stands for
abbrev pub open_view : Open → model.Open
open_view o = opened o.log o.operations

-- open, or shut
abbrev pub view : {D : Type 0} → Journal D → View
view j = option_map open_view j.state

-- the answer of a call's first test: a shut journal passes, an open one has both calls refused
abbrev pub WhileOpen : View → Result (Unit {0}) Fault → Type 0
WhileOpen v (Ok x) = v ≡ shut
WhileOpen v (Err f) = (d : Blocks) → (format v d ≡ refused_by f [] v d) × (opening v d ≡ refused_by f [] v d)

-- ## Answers as numbers

-- begin's: the number of its ticket
abbrev pub begun_as : Result Ticket Fault → Result ℕ Fault
begun_as (Ok t) = Ok t.number
begun_as (Err f) = Err f

-- commit's
abbrev pub committed_as : Result ℕ Refused → Result ℕ Fault
committed_as (Ok p) = Ok p
committed_as (Err r) = Err r.fault

-- where it is refused, it hands back the ticket of this number
abbrev pub HandsBack : ℕ → Result ℕ Refused → Type 0
HandsBack n (Ok p) = Unit {0}
HandsBack n (Err r) = r.ticket.number ≡ n

-- a step's: the position, and the block that it names, if any
abbrev pub stepped_to : Result Step Fault → Result ℕ Fault
stepped_to (Ok s) = Ok s.position
stepped_to (Err f) = Err f

abbrev pub stepped_on : Result Step Fault → List ℕ
stepped_on (Ok s) = block_told s.wrote
stepped_on (Err f) = []
