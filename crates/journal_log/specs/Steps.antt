-- What a step of logger or installer tells and leaves.
use Rattle.std.specs.Prelude.{◌≡◌, ℕ, ◌≤◌, cond, List, [], ◌∷◌, Some, None, Ok, Err, Option, Result, nat_lt, max}
use Rattle.disk.specs.Meaning.{Blocks}
use Rattle.model.specs.declared.LogFault.{LogFault}
use Rattle.model.specs.declared.Fault.{Fault}
use Rattle.model.specs.declared.Fault.TheVariants.{Log as InLog}
use Rattle.model.specs.declared.Round.{Round}
use Rattle.model.specs.Log as model
use Rattle.model.specs.Steps.{frozen_at}
use Rattle.model.specs.Outcomes.{Outcome, writes_after}
use Rattle.journal_log.specs.declared.state.Log.{Log}
use Rattle.journal_log.specs.declared.steps.Step.{Step}
use Rattle.journal_log.specs.View.{view}

-- ## A round that can go on

-- the logger's
pub record Logs (l : Log) (r : Round) : Type 0 where
  pub from : l.end ≤ r.next
  pub to : r.next ≤ r.target
  pub present : r.target ≤ l.last

-- the log once a round has settled all below its target
abbrev pub settling : Log → Round → model.Log
settling l r = frozen_at (view l) (max l.frozen r.target)

-- the installer's
pub record Installs (l : Log) (r : Round) : Type 0 where
  pub from : l.start ≤ r.next
  pub to : r.next ≤ r.target
  pub durable : r.target ≤ l.end

-- where a new round of the logger ends: at frozen, else at last
abbrev pub new_target : Log → Option ℕ
new_target l = cond (nat_lt l.end l.frozen) (Some l.frozen) (cond (nat_lt l.end l.last) (Some l.last) None)

-- ## What a step answers

abbrev pub position_told : Result Step LogFault → Result ℕ Fault
position_told (Ok s) = Ok s.position
position_told (Err f) = Err (InLog f)

abbrev pub block_told : Option ℕ → List ℕ
block_told None = []
block_told (Some b) = b ∷ []

abbrev pub blocks_told : Result Step LogFault → List ℕ
blocks_told (Ok s) = block_told s.wrote
blocks_told (Err f) = []

-- a step that answered r, and left this log, this disk and this count of writes, did what this outcome says
pub record Stepped (o : Outcome model.Log) (r : Result Step LogFault) (l : model.Log) (d : Blocks) (before after : ℕ) : Type 0 where
  pub answer : position_told r ≡ o.answer
  pub wrote : blocks_told r ≡ o.wrote
  pub log : l ≡ o.state
  pub blocks : d ≡ o.disk
  pub writes : after ≡ writes_after o before
