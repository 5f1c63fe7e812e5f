use Rattle.journal_log.specs.View.{view}
use Rattle.journal.proofs.Staging.{Ready}
use Rattle.journal.proofs.objects.Newest.stage.Given as goal

abbrev pub invariant-loop-block : goal.invariant-loop-block
invariant-loop-block g l = Ready (view l.self.log.now) (g.D.Disk.blocks l.self.disk.now) l.table l.blocks l.block-index l.staged
