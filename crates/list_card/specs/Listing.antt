-- What a listing says, and what it has to say of a card.
use Rattle.std.specs.Prelude.{ℕ, ◌-◌, List, map, length, take, Some, None, Ok, Err, Option, Result}
use Rattle.std.specs.Option.{option_map}
use Rattle.disk.specs.Meaning.{Blocks}
use Rattle.card.specs.declared.Update.{Update}
use Rattle.journal_log.specs.declared.state.Log.{Log as Memory}
use Rattle.journal_log.specs.Ring.{rows_from}
use Rattle.model.specs.declared.Fault.{Fault}
use Rattle.model.specs.Faults.{number, place}
use Rattle.model.specs.Journal.{Open, View, shut, opening}
use Rattle.list_card.specs.declared.lists.Live.{Live}
use Rattle.list_card.specs.declared.lists.Summary.{Summary}

-- start, end, and the live homes in position order
abbrev pub Lives : Type 0
Lives = ℕ × ℕ × List ℕ

-- the six fields; the last three are absent after a refusal
pub record Fields : Type 0 where
  pub blocks : ℕ
  pub refusal : ℕ
  pub place : ℕ
  pub live : Option Lives

abbrev pub live_told : Live → Lives
live_told l = (l.start, l.end, take (l.end - l.start) l.homes)

abbrev pub told_of : ℕ → Result Live Fault → Fields
told_of n (Ok l) = record { blocks = n; refusal = 0; place = 0; live = Some (live_told l) }
told_of n (Err f) = record { blocks = n; refusal = number f; place = place f; live = None }

abbrev pub told : Summary → Fields
told s = told_of s.blocks s.found

-- ## What a card has

abbrev pub home_of : Update → ℕ
home_of u = u.home

abbrev pub homes_of : Open → Lives
homes_of j = (j.log.start, j.log.end, map home_of j.log.updates)

-- an accepted opening shows its log, a refused one its fault
abbrev pub fields_of : ℕ → Result ℕ Fault → View → Fields
fields_of n (Ok e) v = record { blocks = n; refusal = 0; place = 0; live = option_map homes_of v }
fields_of n (Err f) v = record { blocks = n; refusal = number f; place = place f; live = None }

abbrev pub listed : Blocks → Fields
listed d = fields_of (length d) (opening shut d).answer (opening shut d).state

-- the homes of the live positions, in memory
abbrev pub row_homes : Memory → List ℕ
row_homes l = map home_of (rows_from l.ring.rows l.start (l.end - l.start))
