-- The updates of a log: what is found among them, and what is added to them.
use Rattle.std.specs.Prelude.{◌≡◌, ℕ, ◌+◌, ◌-◌, ◌<◌, ◌≤◌, Bool, false, cond, List, [], ◌∷◌, Some, None, Ok, Err, Option, Result, ◌==◌, ◌≢◌}
use Rattle.std.specs.Borrow.{Bor}
use Rattle.std.specs.Option.{ok_or, unwrap_or}
use Rattle.disk.specs.declared.fault.DiskFault.{DiskFault}
use Rattle.disk.specs.declared.fault.DiskFault.TheVariants.{Dead}
use Rattle.disk.specs.Tests.{either}
use Rattle.disk.specs.Meaning.{Block, Blocks, block, block_size, bytes_or, refusal}
use Rattle.object.specs.Tables.{Held}
use Rattle.card.specs.declared.Update.{Update}
use Rattle.card.specs.Layout.{latest}
use Rattle.model.specs.declared.LogFault.{LogFault}
use Rattle.model.specs.declared.Fault.{Fault}
use Rattle.model.specs.declared.Fault.TheVariants.{Log as InLog}
use Rattle.model.specs.Log as model
use Rattle.model.specs.Operations.{laid_in}
use Rattle.model.specs.Steps.{newest, added}
use Rattle.journal_log.specs.declared.state.Log.{Log}
use Rattle.journal_log.specs.Ring.{row_at}

-- how many updates lie below frozen: they may not absorb
abbrev pub settled : model.Log → ℕ
settled l = l.frozen - l.start

-- what a block holds by the update that was found, and by what it held where none was
abbrev pub in_log : Option (Bor Update) → Block → Block
in_log None old = old
in_log (Some u) old = Some u.now.bytes

-- the newest bytes of a block, or the disk's refusal
abbrev pub newest_read : model.Log → Blocks → ℕ → Result (List ℕ) DiskFault
newest_read l d b = ok_or (newest l d b) (unwrap_or (refusal d b block_size) (Dead b))

-- the log's faults among all
abbrev pub in_fault : {X : Type 0} → Result X LogFault → Result X Fault
in_fault (Ok x) = Ok x
in_fault (Err f) = Err (InLog f)

-- ## Where an update goes

-- an update of this home is among them
abbrev pub has_home : List Update → ℕ → Bool
has_home [] b = false
has_home (u ∷ us) b = either (b == u.home) (has_home us b)

-- how many of the blocks are the home of none of them
abbrev pub fresh : List ℕ → List Update → ℕ
fresh [] us = 0
fresh (b ∷ bs) us = cond (has_home us b) 0 1 + fresh bs us

-- no update from p up to but excluding q has this home
abbrev pub NoneOf : List Update → ℕ → ℕ → ℕ → Type 0
NoneOf rows b p q = (k : ℕ) → p ≤ k → k < q → (row_at rows k).home ≢ b

-- the first from frozen on
pub record FirstOf (l : Log) (b p : ℕ) : Type 0 where
  pub from : l.frozen ≤ p
  pub live : p < l.last
  pub home : (row_at l.ring.rows p).home ≡ b
  pub before : NoneOf l.ring.rows b l.frozen p

-- the position whose update absorbs one of this home
abbrev pub Absorbing : Log → ℕ → Option ℕ → Type 0
Absorbing l b None = NoneOf l.ring.rows b l.frozen l.last
Absorbing l b (Some p) = FirstOf l b p

-- the last of all
pub record LastOf (l : Log) (b p : ℕ) : Type 0 where
  pub from : l.start ≤ p
  pub live : p < l.last
  pub home : (row_at l.ring.rows p).home ≡ b
  pub after : NoneOf l.ring.rows b (p + 1) l.last

-- the highest position whose update is of this home
abbrev pub NewestAt : Log → ℕ → Option ℕ → Type 0
NewestAt l b None = NoneOf l.ring.rows b l.start l.last
NewestAt l b (Some p) = LastOf l b p

-- ## Updates that are added in order

abbrev pub added_all : ℕ → List Update → List Update → List Update
added_all s [] us = us
added_all s (v ∷ vs) us = added_all s vs (added s v us)

-- a block's newest bytes with its dirty objects laid in
abbrev pub update_for : List Held → Blocks → List Update → ℕ → Update
update_for hs d us b = record { home = b; bytes = laid_in hs b (bytes_or (latest us b (block d b)) []) }
