use Rattle.std.proofs.Common.{ℕ, List, None, ap, arith}
use Rattle.std.proofs.lemmas.Result.{err_from_is_err_and}
use Rattle.card.specs.declared.Update.{Update}
use Rattle.model.specs.Log as model
use Rattle.journal_log.specs.declared.state.Log.{Log}
use Rattle.journal_log.proofs.Stepping.{step_refused, step_granted, start_does}
use Rattle.journal_log.proofs.Rows.{rows_dropped}
use Rattle.journal_log.proofs.state.Log.install_start.Goals as goal

-- the log from position p on, with these updates
abbrev started_with : Log → ℕ → List Update → model.Log
started_with l p us = record { start = p; end = l.end; frozen = l.frozen; updates = us; homes = l.homes; logging = l.logging; installing = None }

pub returns-in_err-write : goal.returns-in_err-write
returns-in_err-write g c =
    let l = c.args.self.now in
    let d = g.D.Disk.blocks c.args.disk.now in
    let p = err_from_is_err_and c.from_residual.result c.from_residual.ensures.1 in
    rw (p.1, p.2) (step_refused _ _ _ d _ _ _ _ _ _ (start_does l d c.args.round c.requires c.encode_start.result c.encode_start.ensures.bytes) c.write.ensures.blocks c.write.ensures.writes _ c.in_err-write.ensures.answer)

pub returns : goal.returns
returns g c =
    let l = c.args.self.now in
    let d = g.D.Disk.blocks c.args.disk.now in
    step_granted _ _ _ d _ _ _ _ _ _ (start_does l d c.args.round c.requires c.encode_start.result c.encode_start.ensures.bytes) c.write.ensures.blocks c.write.ensures.writes _ (ap (started_with l c.args.round.target) (rows_dropped l.ring.rows l.start l.last c.args.round.target (omega (arith, c.requires.from, c.requires.to)) (let o = l.order in omega (arith, c.requires.durable)))) c.in_ok-write.ensures.answer c.wrote.result c.wrote.ensures
