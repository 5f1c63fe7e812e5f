use Rattle.std.proofs.Common.{◌≡◌, ℕ, ◌+◌, ◌<◌, length, get_or}
use Rattle.journal_log.specs.Ring.{row_at}
use Rattle.list_card.proofs.lists.live_homes.Given as goal

abbrev pub invariant-loop-p : goal.invariant-loop-p
invariant-loop-p l =
    (length l.homes ≡ 62) ×
    ((k : ℕ) → l.log.start + k < l.p → get_or l.homes k 0 ≡ (row_at l.log.ring.rows (l.log.start + k)).home)
