use Rattle.std.proofs.Common.{true, false, not, ap, ◌∙◌, arith}
use Rattle.card.specs.Layout.{start_on, end_on}
use Rattle.model.specs.declared.LogFault.TheVariants.{HomeRange}
use Rattle.model.specs.Log.{range_test}
use Rattle.journal_log.proofs.Checks.{all_passed, refused_at, passed_more, range_told}
use Rattle.journal_log.proofs.Reading.{head_spans, head_home}
use Rattle.journal_log.proofs.opening.Opening.check_ranges.Goals as goal

pub returns-then-not-contains : goal.returns-then-not-contains
returns-then-not-contains g c =
    let o = c.args.self.now in
    let d = g.D.Disk.blocks o.disk.now in
    let p = c.in-Some.p in
    let x = c.home_of.result in
    let is = c.home_of.ensures ∙ head_home d o.head o.read p in
    let next = c.in-Some.ensures.steps in
    let span = head_spans d o.head o.read in
    let out = range_told d p x c.count.result is c.count.ensures.count c.contains.result true c.contains.ensures.value (ap not c.if-not-contains.true) in
    refused_at (range_test d) (start_on d) (end_on d) p (HomeRange c.log_block.result) (omega arith) (omega arith) (λ q a b. c.loop-p.invariant.2 q (omega arith) (omega arith))
    out
    (ap HomeRange c.log_block.ensures)

pub loop-p-preserved : goal.loop-p-preserved
loop-p-preserved g c =
    let o = c.args.self.now in
    let d = g.D.Disk.blocks o.disk.now in
    let p = c.in-Some.p in
    let is = c.home_of.ensures ∙ head_home d o.head o.read p in
    let next = c.in-Some.ensures.steps in
    let within = range_told d p c.home_of.result c.count.result is c.count.ensures.count c.contains.result false c.contains.ensures.value (ap not c.if-not-contains.false) in (
      omega arith,
      omega arith,
      λ q a b. passed_more (range_test d) o.head.start o.head.header.end p (λ k i j. c.loop-p.invariant.2 k i (omega arith)) within q a (omega arith),
    )

pub returns : goal.returns
returns g c =
    let o = c.args.self.now in
    let d = g.D.Disk.blocks o.disk.now in
    let span = head_spans d o.head o.read in
    let last = c.in-None.ensures.steps in
    all_passed (range_test d) (start_on d) (end_on d) c.loop-p.p-iterator.start (omega arith) (λ q a b. c.loop-p.invariant.2 q (omega arith) b)
