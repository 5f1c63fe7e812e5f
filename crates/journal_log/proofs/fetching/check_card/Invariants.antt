use Rattle.std.proofs.Common.{◌≡◌, ℕ, ◌<◌, true}
use Rattle.disk.specs.Meaning.{block, is_live}
use Rattle.journal_log.proofs.fetching.check_card.Given as goal

abbrev pub invariant-loop-block : goal.invariant-loop-block
invariant-loop-block g l = (b : ℕ) → b < l.block → is_live (block (g.D.Disk.blocks l.disk) b) ≡ true
