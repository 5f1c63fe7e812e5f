use Rattle.std.proofs.Common.{ap, arith}
use Rattle.std.proofs.lemmas.Result.{err_from_is_err_and}
use Rattle.journal_log.proofs.Reading.{head_spans, head_found, head_fault, open_refused_0, open_refused_1, open_refused_2, opened, near}
use Rattle.journal_log.proofs.state.Log.open.Goals as goal

pub returns-in_err-check_card : goal.returns-in_err-check_card
returns-in_err-check_card g c =
    let p = err_from_is_err_and c.from_residual.result c.from_residual.ensures.1 in
    rw (p.1, p.2) (record { whole = c.check_card.ensures.whole; log = open_refused_0 (g.D.Disk.blocks c.args.disk.now) _ c.in_err-check_card.ensures.checked.answer })

pub returns-in_err-opening : goal.returns-in_err-opening
returns-in_err-opening g c =
    let d = g.D.Disk.blocks c.args.disk.now in
    let p = err_from_is_err_and c.from_residual-in_err-opening.result c.from_residual-in_err-opening.ensures.1 in
    rw (p.1, p.2) (record { whole = c.check_card.ensures.whole; log = open_refused_1 d c.in_ok-check_card.ensures.checked.answer _ (head_fault d _ c.in_err-opening.ensures.err) })

pub returns-in_err-check_homes : goal.returns-in_err-check_homes
returns-in_err-check_homes g c =
    let d = g.D.Disk.blocks c.args.disk.now in
    let o = c.in_ok-opening.opening in
    let same = ap g.D.Disk.blocks c.in_ok-opening.ensures.ok.1 in
    let found = head_found d o.head c.in_ok-opening.ensures.ok.0 (rw same at o.read) in
    let p = err_from_is_err_and c.from_residual-in_err-check_homes.result c.from_residual-in_err-check_homes.ensures.1 in
    rw (p.1, p.2) (record { whole = c.check_card.ensures.whole; log = open_refused_2 d c.in_ok-check_card.ensures.checked.answer _ found _ (rw same at c.in_err-check_homes.ensures) })

pub returns : goal.returns
returns g c =
    let d = g.D.Disk.blocks c.args.disk.now in
    let o = c.in_ok-opening.opening in
    let same = ap g.D.Disk.blocks c.in_ok-opening.ensures.ok.1 in
    let found = head_found d o.head c.in_ok-opening.ensures.ok.0 (rw same at o.read) in
    record {
      whole = c.check_card.ensures.whole;
      log = opened d c.in_ok-check_card.ensures.checked.answer _ found (rw same at c.in_ok-check_homes.ensures) _ (rw same at c.in_ok-ring.ensures);
    }

pub invariant_of-result : goal.invariant_of-result
invariant_of-result g c =
    let d = g.D.Disk.blocks c.args.disk.now in
    let o = c.in_ok-opening.opening in
    let same = ap g.D.Disk.blocks c.in_ok-opening.ensures.ok.1 in
    let is = rw same at o.read in
    let n = near d c.in_ok-opening.ensures.ok.0 in
    let span = head_spans d o.head is in
    record { order = (omega arith, omega arith, omega arith); room = omega arith; top = omega arith; logged = (omega arith, omega arith, omega arith); installed = (omega arith, omega arith, omega arith) }
