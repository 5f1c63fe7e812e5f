-- What a commit makes ready before it changes anything.
use Rattle.std.specs.Prelude.{ℕ, List, [], map, Ok, Err, Result}
use Rattle.disk.specs.Meaning.{Blocks}
use Rattle.card.specs.declared.Update.{Update}
use Rattle.model.specs.Journal.{Open}
use Rattle.model.specs.Calls.{held_by}
use Rattle.model.specs.Operations.{dirty_blocks}
use Rattle.journal_log.specs.Updates.{update_for}

-- the updates staged, where all were granted
abbrev pub staged_as : {X F : Type 0} → Result X F → List Update → Result (List Update) F
staged_as (Ok x) us = Ok us
staged_as (Err f) us = Err f

-- those of a commit: one for each dirty block
abbrev pub updates_of : Open → Blocks → ℕ → List Update
updates_of j d n = let hs = held_by j n in map (update_for hs d j.log.updates) (dirty_blocks hs [])
