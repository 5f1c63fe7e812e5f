use Rattle.std.proofs.lemmas.Result.{err_from_is_err_and}
use Rattle.journal_log.proofs.Reading.{homes_refused, homes_told}
use Rattle.journal_log.proofs.opening.Opening.check_homes.Goals as goal

pub returns-in_err-check_ranges : goal.returns-in_err-check_ranges
returns-in_err-check_ranges g c =
    let p = err_from_is_err_and c.from_residual.result c.from_residual.ensures.1 in
    rw (p.1, p.2) (homes_refused (g.D.Disk.blocks c.args.self.now.disk.now) _ c.in_err-check_ranges.ensures)

pub returns : goal.returns
returns g c = homes_told (g.D.Disk.blocks c.args.self.now.disk.now) c.check_lives.result c.in_ok-check_ranges.ensures c.check_lives.ensures
