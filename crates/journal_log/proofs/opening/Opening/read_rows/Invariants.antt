use Rattle.std.proofs.Common.{◌≡◌, ℕ, ◌<◌, ◌≤◌}
use Rattle.card.specs.Layout.{update_on}
use Rattle.journal_log.specs.Ring.{row_at}
use Rattle.journal_log.proofs.opening.Opening.read_rows.Given as goal

abbrev pub invariant-loop-p : goal.invariant-loop-p
invariant-loop-p g l =
    (l.p-iterator.end ≡ l.self.head.header.end) ×
    (l.self.head.start ≤ l.p-iterator.start) ×
    ((q : ℕ) → l.self.head.start ≤ q → q < l.p-iterator.start → row_at l.ring.rows q ≡ update_on (g.D.Disk.blocks l.self.disk.now) q)
