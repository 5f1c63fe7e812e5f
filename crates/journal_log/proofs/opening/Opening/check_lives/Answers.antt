use Rattle.std.proofs.Common.{◌∙◌, arith}
use Rattle.std.proofs.lemmas.Result.{err_from_is_err_and}
use Rattle.card.specs.Layout.{start_on, end_on}
use Rattle.model.specs.Log.{life_test}
use Rattle.journal_log.proofs.Checks.{all_passed, refused_at, passed_more}
use Rattle.journal_log.proofs.Reading.{head_spans, head_home, life_dead, life_live}
use Rattle.journal_log.proofs.opening.Opening.check_lives.Goals as goal

pub returns-in_err-fetch : goal.returns-in_err-fetch
returns-in_err-fetch g c =
    let o = c.args.self.now in
    let d = g.D.Disk.blocks o.disk.now in
    let p = c.in-Some.p in
    let is = c.home_of.ensures ∙ head_home d o.head o.read p in
    let next = c.in-Some.ensures.steps in
    let span = head_spans d o.head o.read in
    let f = life_dead d c.requires p c.home_of.result is (omega arith) (omega arith) c.in_err-fetch.field-0.0 c.in_err-fetch.ensures in
    let r = err_from_is_err_and c.from_residual.result c.from_residual.ensures.1 in
    rw (r.1, r.2) (refused_at (life_test d) (start_on d) (end_on d) p _ (omega arith) (omega arith) (λ q a b. c.loop-p.invariant.2 q (omega arith) (omega arith)) f.0 f.1)

pub loop-p-preserved : goal.loop-p-preserved
loop-p-preserved g c =
    let o = c.args.self.now in
    let d = g.D.Disk.blocks o.disk.now in
    let p = c.in-Some.p in
    let is = c.home_of.ensures ∙ head_home d o.head o.read p in
    let next = c.in-Some.ensures.steps in
    let span = head_spans d o.head o.read in
    let live = life_live d c.requires p c.home_of.result is (omega arith) (omega arith) _ c.in_ok-fetch.ensures in (
      omega arith,
      omega arith,
      λ q a b. passed_more (life_test d) o.head.start o.head.header.end p (λ k i j. c.loop-p.invariant.2 k i (omega arith)) live q a (omega arith),
    )

pub returns : goal.returns
returns g c =
    let o = c.args.self.now in
    let d = g.D.Disk.blocks o.disk.now in
    let span = head_spans d o.head o.read in
    let last = c.in-None.ensures.steps in
    all_passed (life_test d) (start_on d) (end_on d) c.loop-p.p-iterator.start (omega arith) (λ q a b. c.loop-p.invariant.2 q (omega arith) b)
