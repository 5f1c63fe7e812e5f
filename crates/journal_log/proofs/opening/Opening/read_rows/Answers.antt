use Rattle.std.proofs.Common.{◌+◌, ◌<◌, ap, ◌∙◌, arith}
use Rattle.card.specs.declared.Update.{Update}
use Rattle.card.specs.Layout.{slots}
use Rattle.journal_log.specs.Ring.{row_at}
use Rattle.journal_log.proofs.Reading.{head_spans, head_home, row_read, rows_more}
use Rattle.journal_log.proofs.opening.Opening.read_rows.Goals as goal

pub loop-p-preserved : goal.loop-p-preserved
loop-p-preserved g c =
    let o = c.args.self.now in
    let d = g.D.Disk.blocks o.disk.now in
    let p = c.in-Some.p in
    let rows = c.loop-p.ring.rows in
    let u : Update = record { home = c.home_of-home.result; bytes = c.in_ok-bytes.bytes } in
    let is = row_read d o.ready p c.log_block.result c.home_of-home.result c.in_ok-bytes.bytes (c.home_of-home.ensures ∙ head_home d o.head o.read p) c.log_block.ensures c.in_ok-bytes.ensures in
    let next = c.in-Some.ensures.steps in
    let span = head_spans d o.head o.read in
    let room : p < o.head.start + slots = omega (arith, o.near) in (
      omega arith,
      omega arith,
      λ q a b. ap (λ rs. row_at rs q) c.put.ensures ∙ rows_more d rows o.head.start p u c.loop-p.ring.long (omega arith) room is (λ k i j. c.loop-p.invariant.2 k i (omega arith)) q a (omega arith),
    )
