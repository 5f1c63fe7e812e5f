use Rattle.std.proofs.Common.{◌≡◌, ℕ, ◌<◌, ◌≤◌, false}
use Rattle.model.specs.Log.{range_test}
use Rattle.journal_log.proofs.opening.Opening.check_ranges.Given as goal

abbrev pub invariant-loop-p : goal.invariant-loop-p
invariant-loop-p g l =
    (l.p-iterator.end ≡ l.self.head.header.end) ×
    (l.self.head.start ≤ l.p-iterator.start) ×
    ((q : ℕ) → l.self.head.start ≤ q → q < l.p-iterator.start → (range_test (g.D.Disk.blocks l.self.disk.now) q).0 ≡ false)
