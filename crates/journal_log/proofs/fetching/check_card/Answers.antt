use Rattle.std.proofs.Common.{arith}
use Rattle.std.proofs.lemmas.Result.{err_from_is_err_and}
use Rattle.journal_log.proofs.Fetch.{card_small, card_dead, card_passed}
use Rattle.journal_log.proofs.fetching.check_card.Goals as goal

pub returns-then-count-le-HOMES_FROM : goal.returns-then-count-le-HOMES_FROM
returns-then-count-le-HOMES_FROM g c = record { checked = card_small (g.D.Disk.blocks c.args.disk.now) (omega arith); whole = c.count.ensures.whole }

pub returns-in_err-fetch : goal.returns-in_err-fetch
returns-in_err-fetch g c =
    let d = g.D.Disk.blocks c.args.disk.now in
    let p = err_from_is_err_and c.from_residual.result c.from_residual.ensures.1 in
    let e = card_dead d c.loop-block.block c.in_err-fetch.field-0.0 (omega arith) (omega arith) c.loop-block.invariant c.in_err-fetch.ensures in
    rw (p.1, p.2) (record { checked = e; whole = c.count.ensures.whole })

pub returns : goal.returns
returns g c = record { checked = card_passed (g.D.Disk.blocks c.args.disk.now) (record { large = omega arith; alive = λ b h. c.loop-block.invariant b (omega arith) }); whole = c.count.ensures.whole }
