-- What changes a log: updates that are added, flush, and the steps of logger and installer.
use Rattle.std.specs.Prelude.{ℕ, ◌+◌, ◌-◌, cond, List, [], ◌∷◌, ◌++◌, length, take, drop, Some, None, Ok, Option, ◌==◌, nat_lt, slice_index_or, slice_set}
use Rattle.disk.specs.declared.fault.DiskFault.{DiskFault}
use Rattle.disk.specs.Tests.{Test}
use Rattle.disk.specs.Meaning.{Block, Blocks, block, refusal, written}
use Rattle.card.specs.declared.Update.{Update}
use Rattle.card.specs.Layout.{slots, highest, slot, log_block, header_block, start_block, latest}
use Rattle.model.specs.declared.LogFault.TheVariants.{Dead, Full, Exhausted}
use Rattle.model.specs.declared.Fault.{Fault}
use Rattle.model.specs.declared.Fault.TheVariants.{Log as InLog}
use Rattle.model.specs.declared.Round.{Round}
use Rattle.model.specs.Outcomes.{Outcome, decided, answering}
use Rattle.model.specs.Log.{Log, last}

-- ## A log with one thing changed

abbrev pub with_updates : Log → List Update → Log
with_updates l us = record { start = l.start; end = l.end; frozen = l.frozen; updates = us; homes = l.homes; logging = l.logging; installing = l.installing }

abbrev pub frozen_at : Log → ℕ → Log
frozen_at l p = record { start = l.start; end = l.end; frozen = p; updates = l.updates; homes = l.homes; logging = l.logging; installing = l.installing }

abbrev pub logging_at : Log → Round → Log
logging_at l r = record { start = l.start; end = l.end; frozen = l.frozen; updates = l.updates; homes = l.homes; logging = Some r; installing = l.installing }

abbrev pub installing_at : Log → Round → Log
installing_at l r = record { start = l.start; end = l.end; frozen = l.frozen; updates = l.updates; homes = l.homes; logging = l.logging; installing = Some r }

-- a logger's round is over: the end has moved, and block 0 has these home numbers
abbrev pub ended_at : Log → ℕ → List ℕ → Log
ended_at l p homes = record { start = l.start; end = p; frozen = l.frozen; updates = l.updates; homes = homes; logging = None; installing = l.installing }

-- an installer's round is over: the start has moved, and the updates below it are gone
abbrev pub started_at : Log → ℕ → Log
started_at l p = record { start = p; end = l.end; frozen = l.frozen; updates = drop (p - l.start) l.updates; homes = l.homes; logging = l.logging; installing = None }

-- ## Updates

-- the newest bytes of a data block
abbrev pub newest : Log → Blocks → ℕ → Block
newest l d b = latest l.updates b (block d b)

-- absorbed by an update of that home, or added at the end
abbrev pub absorbed : Update → List Update → List Update
absorbed u [] = u ∷ []
absorbed u (v ∷ vs) = cond (v.home == u.home) (u ∷ vs) (v ∷ absorbed u vs)

-- of these updates the first `settled` may not absorb: they lie below frozen
abbrev pub added : ℕ → Update → List Update → List Update
added settled u us = take settled us ++ absorbed u (drop settled us)

-- what is tested of a log that is to have these updates
abbrev pub room_tests : Log → List Update → List (Test Fault)
room_tests l us = (nat_lt slots (length us), InLog Full) ∷ (nat_lt highest (l.start + length us), InLog Exhausted) ∷ []

-- ## Flush

abbrev pub flush : Log → Blocks → Outcome Log
flush l d = answering (last l) [] (frozen_at l (last l)) d

-- ## Steps

-- the update at position p
abbrev pub update_at : Log → ℕ → Update
update_at l p = slice_index_or l.updates (p - l.start) (record { home = 0; bytes = [] })

abbrev pub dead_for : Option DiskFault → Option Fault
dead_for None = None
dead_for (Some f) = Some (InLog (Dead f))

-- one block is written, and the log moves on; where the disk refuses, which happens in no run, nothing changes
abbrev pub writing : Log → Blocks → ℕ → List ℕ → ℕ → Log → Outcome Log
writing l d b bs answer next = decided (dead_for (refusal d b (length bs))) [] l d
    (record { answer = Ok answer; wrote = b ∷ []; buffer = []; state = next; disk = written d b bs })

-- the home numbers by slot, with those of updates from position p on
abbrev pub with_homes : List ℕ → ℕ → List Update → List ℕ
with_homes homes p [] = homes
with_homes homes p (u ∷ us) = with_homes (slice_set homes (slot p) u.home) (p + 1) us

-- a logger's next log block; `before` is the log as the step found it
abbrev pub log_next : Log → Log → Round → Blocks → Outcome Log
log_next before l r d = writing before d (log_block r.next) (update_at l r.next).bytes l.end (logging_at l (record { next = r.next + 1; target = r.target }))

-- the home numbers that block 0 has after a round: those of its positions, the others kept
abbrev pub homes_after : Log → Round → List ℕ
homes_after l r = with_homes l.homes l.end (take (r.target - l.end) (drop (l.end - l.start) l.updates))

-- block 0, once all log blocks are written
abbrev pub log_header : Log → Log → Round → Blocks → Outcome Log
log_header before l r d = let homes = homes_after l r in
    writing before d 0 (header_block (record { end = r.target; homes = homes })) r.target (ended_at l r.target homes)

-- a logger step in round r
abbrev pub log_round : Log → Log → Round → Blocks → Outcome Log
log_round before l r d = cond (nat_lt r.next r.target) (log_next before l r d) (log_header before l r d)

-- with no round running: one to frozen, else one to last, else nothing
abbrev pub log_last : Log → Blocks → Outcome Log
log_last l d = cond (nat_lt l.end (last l)) (log_round l (frozen_at l (last l)) (record { next = l.end; target = last l }) d) (answering l.end [] l d)

abbrev pub log_by : Option Round → Log → Blocks → Outcome Log
log_by (Some r) l d = log_round l l r d
log_by None l d = cond (nat_lt l.end l.frozen) (log_round l l (record { next = l.end; target = l.frozen }) d) (log_last l d)

abbrev pub log_step : Log → Blocks → Outcome Log
log_step l d = log_by l.logging l d

-- an installer's next home, and block 1 once all are written
abbrev pub install_next : Log → Round → Blocks → Outcome Log
install_next l r d = let u = update_at l r.next in
    writing l d u.home u.bytes l.start (installing_at l (record { next = r.next + 1; target = r.target }))

abbrev pub install_start : Log → Round → Blocks → Outcome Log
install_start l r d = writing l d 1 (start_block r.target) r.target (started_at l r.target)

abbrev pub install_round : Log → Round → Blocks → Outcome Log
install_round l r d = cond (nat_lt r.next r.target) (install_next l r d) (install_start l r d)

-- with no round running: one to end, else nothing
abbrev pub install_by : Option Round → Log → Blocks → Outcome Log
install_by (Some r) l d = install_round l r d
install_by None l d = cond (nat_lt l.start l.end) (install_round l (record { next = l.start; target = l.end }) d) (answering l.start [] l d)

abbrev pub install_step : Log → Blocks → Outcome Log
install_step l d = install_by l.installing l d
