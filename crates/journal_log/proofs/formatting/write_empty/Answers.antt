use Rattle.std.proofs.Common.{ap, ◌∙◌}
use Rattle.disk.specs.Meaning.{Blocks, written}
use Rattle.model.specs.Log.{zeros}
use Rattle.journal_log.proofs.formatting.write_empty.Goals as goal

pub returns-clause-blocks : goal.returns-clause-blocks
returns-clause-blocks g c =
    let d = g.D.Disk.blocks c.args.disk.now in
    c.write-2.ensures.blocks ∙
    ap (λ (x : Blocks). written x 1 c.encode_start.result) (c.write.ensures.blocks ∙ ap (written d 0) c.encode.ensures.bytes) ∙
    ap (written (written d 0 zeros) 1) c.encode_start.ensures.bytes
