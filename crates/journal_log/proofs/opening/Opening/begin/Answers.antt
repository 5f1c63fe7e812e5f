use Rattle.std.proofs.Common.{refl}
use Rattle.std.proofs.lemmas.Result.{err_from_is_err_and}
use Rattle.disk.specs.Tests.{first_of}
use Rattle.model.specs.Log.{head_tests}
use Rattle.model.proofs.Tests.{value_ok, value_err}
use Rattle.journal_log.specs.View.{head_on}
use Rattle.journal_log.proofs.Reading.{head_refused_0, head_refused_1, head_read, near}
use Rattle.journal_log.proofs.opening.Opening.begin.Goals as goal

pub returns-in_err-fetch_clear-clause-err : goal.returns-in_err-fetch_clear-clause-err
returns-in_err-fetch_clear-clause-err g c =
    let d = g.D.Disk.blocks c.args.disk.now in
    let p = err_from_is_err_and c.from_residual.result c.from_residual.ensures.1 in
    rw (p.1, p.2) (value_err (first_of (head_tests d)) (head_on d) _ (head_refused_0 d _ c.in_err-fetch_clear.ensures))

pub returns-in_err-fetch_clear-2-clause-err : goal.returns-in_err-fetch_clear-2-clause-err
returns-in_err-fetch_clear-2-clause-err g c =
    let d = g.D.Disk.blocks c.args.disk.now in
    let p = err_from_is_err_and c.from_residual-in_err-fetch_clear-2.result c.from_residual-in_err-fetch_clear-2.ensures.1 in
    rw (p.1, p.2) (value_err (first_of (head_tests d)) (head_on d) _ (head_refused_1 d _ c.in_ok-fetch_clear.ensures _ c.in_err-fetch_clear-2.ensures))

pub invariant_of-result : goal.invariant_of-result
invariant_of-result g c =
    let d = g.D.Disk.blocks c.args.disk.now in
    let v = value_ok (first_of (head_tests d)) (head_on d) _
    (head_read d _ c.in_ok-fetch_clear.ensures _ c.in_ok-fetch_clear-2.ensures
    c.decode-header.result c.decode_start-start.result c.decode-header.ensures c.decode_start-start.ensures c.in_ok-check_positions.ensures) in
    record { ready = c.requires; read = v.1; near = (near d v.0).1 }

pub returns-clause-ok : goal.returns-clause-ok
returns-clause-ok g c =
    let d = g.D.Disk.blocks c.args.disk.now in
    let v = value_ok (first_of (head_tests d)) (head_on d) _
    (head_read d _ c.in_ok-fetch_clear.ensures _ c.in_ok-fetch_clear-2.ensures
    c.decode-header.result c.decode_start-start.result c.decode-header.ensures c.decode_start-start.ensures c.in_ok-check_positions.ensures) in
    (v.0, refl)
