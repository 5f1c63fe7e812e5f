use Rattle.std.proofs.Common.{arith}
use Rattle.journal_log.specs.View.{view}
use Rattle.journal_log.proofs.Adding.{length_updates}
use Rattle.journal_log.proofs.Merging.{next_fits, same_start, next_added}
use Rattle.journal_log.proofs.state.Log.add_all.Goals as goal

pub add-requires : goal.add-requires
add-requires c =
    let l = c.loop-update.self in
    let n = length_updates l in
    let s = same_start (view c.args.self.now) (view l) c.args.updates.now c.loop-update.update-index c.loop-update-test.true c.loop-update.invariant.0 c.loop-update.invariant.1 in
    let f = next_fits (view c.args.self.now) (view l) c.args.updates.now c.loop-update.update-index c.loop-update-test.true c.loop-update.invariant.0 c.loop-update.invariant.1 (omega arith) in
    record { slots = omega (arith, c.requires.slots); top = omega (arith, c.requires.top) }

pub loop-update-preserved : goal.loop-update-preserved
loop-update-preserved c =
    next_added (view c.args.self.now) (view c.loop-update.self) c.args.updates.now c.loop-update.update-index c.loop-update-test.true c.loop-update.invariant.0 c.loop-update.invariant.1 (view c.add.new.self) c.add.ensures
