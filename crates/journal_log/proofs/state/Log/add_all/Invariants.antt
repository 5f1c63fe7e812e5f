use Rattle.std.proofs.Common.{◌≡◌, drop}
use Rattle.model.specs.Steps.{with_updates}
use Rattle.journal_log.specs.View.{view}
use Rattle.journal_log.specs.Updates.{settled, added_all}
use Rattle.journal_log.proofs.state.Log.add_all.Given as goal

abbrev pub invariant-loop-update : goal.invariant-loop-update
invariant-loop-update l =
    let was = view l.initial.self in
    (view l.self ≡ with_updates was (view l.self).updates) ×
    (added_all (settled was) (drop l.update-index l.updates) (view l.self).updates ≡ added_all (settled was) l.updates was.updates)
