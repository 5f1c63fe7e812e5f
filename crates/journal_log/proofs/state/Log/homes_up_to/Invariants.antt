use Rattle.std.proofs.Common.{◌≡◌}
use Rattle.journal_log.proofs.Stepping.{homes_to}
use Rattle.journal_log.proofs.state.Log.homes_up_to.Given as goal

abbrev pub invariant-loop-p : goal.invariant-loop-p
invariant-loop-p l = l.homes ≡ homes_to l.self.homes l.self.ring.rows l.self.end l.p
