-- What the log in memory stands for.
use Rattle.std.specs.Prelude.{◌≡◌, ℕ, ◌-◌, cond, List, Some, None, Ok, Err, Option, Result, nat_le, nat_lt}
use Rattle.disk.specs.Meaning.{Blocks, block_size, refusal}
use Rattle.disk.specs.declared.fault.DiskFault.{DiskFault}
use Rattle.card.specs.declared.Update.{Update}
use Rattle.card.specs.Layout.{bytes_on, start_on, header_in}
use Rattle.model.specs.declared.LogFault.{LogFault}
use Rattle.model.specs.declared.Round.{Round}
use Rattle.model.specs.Outcomes.{value_unless, passed}
use Rattle.disk.specs.Tests.{first_of}
use Rattle.model.specs.Log as model
use Rattle.model.specs.Log.{card_tests}
use Rattle.model.specs.Card.{Ready}
use Rattle.journal_log.specs.declared.open.Head.{Head}
use Rattle.journal_log.specs.declared.state.Log.{Log}
use Rattle.journal_log.specs.Ring.{row_at, rows_from}

-- a log with these positions and rounds, whose updates stand in these rows
abbrev pub log_from : ℕ → ℕ → ℕ → ℕ → List Update → List ℕ → Option Round → Option Round → model.Log
log_from start end frozen last rows homes logging installing = record { start = start; end = end; frozen = frozen; updates = rows_from rows start (last - start); homes = homes; logging = logging; installing = installing }

abbrev pub view : Log → model.Log
view l = record { start = l.start; end = l.end; frozen = l.frozen; updates = rows_from l.ring.rows l.start (l.last - l.start); homes = l.homes; logging = l.logging; installing = l.installing }

-- the home of a live position
abbrev pub home_of : Log → ℕ → Option ℕ
home_of l p = cond (nat_lt p l.start) None (cond (nat_le l.end p) None (Some (row_at l.ring.rows p).home))

abbrev pub viewed : Result Log LogFault → Result model.Log LogFault
viewed (Ok l) = Ok (view l)
viewed (Err f) = Err f

-- the bytes of a block, or the disk's refusal
abbrev pub fetched : Blocks → ℕ → Result (List ℕ) DiskFault
fetched d b = value_unless (refusal d b block_size) (bytes_on d b)

-- what blocks 0 and 1 hold
abbrev pub head_on : Blocks → Head
head_on d = record { start = start_on d; header = header_in (bytes_on d 0) }

-- what is known of a card by the answer to its check
abbrev pub CardKnown : Blocks → Result (Unit {0}) LogFault → Type 0
CardKnown d (Ok x) = (first_of (card_tests d) ≡ None) × Ready d
CardKnown d (Err f) = first_of (card_tests d) ≡ Some f

pub record CardChecked (d : Blocks) (r : Result (Unit {0}) LogFault) : Type 0 where
  pub answer : r ≡ passed (first_of (card_tests d))
  pub known : CardKnown d r
