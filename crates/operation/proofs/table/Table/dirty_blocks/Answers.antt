use Rattle.std.proofs.Common.{sym, ◌∙◌, arith}
use Rattle.operation.proofs.Listing.{listed_longer, listed_more}
use Rattle.operation.proofs.table.Table.dirty_blocks.Goals as goal

pub loop-held-preserved : goal.loop-held-preserved
loop-held-preserved c =
    let hs = c.entries-held-items.result.now in
    let bs = c.loop-held.blocks in
    let cs = c.add.new.self in
    let at = c.held-item.is in
    let n = listed_longer hs c.loop-held.held-index c.held-item.result at bs cs c.add.ensures in
    (omega arith, sym (listed_more hs c.loop-held.held-index c.held-item.result at bs cs c.add.ensures c.loop-held-test.true) ∙ c.loop-held.invariant.1)
