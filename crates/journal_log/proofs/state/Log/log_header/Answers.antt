use Rattle.std.proofs.Common.{ℕ, ap}
use Rattle.model.specs.Steps.{frozen_at, ended_at}
use Rattle.journal_log.specs.View.{view}
use Rattle.std.proofs.lemmas.Result.{err_from_is_err_and}
use Rattle.journal_log.proofs.Stepping.{step_refused, step_granted, header_does}
use Rattle.journal_log.proofs.state.Log.log_header.Goals as goal

pub returns-in_err-write : goal.returns-in_err-write
returns-in_err-write g c =
    let l = c.args.self.now in
    let d = g.D.Disk.blocks c.args.disk.now in
    let p = err_from_is_err_and c.from_residual.result c.from_residual.ensures.1 in
    rw (p.1, p.2) (step_refused _ _ _ d _ _ _ _ _ _ (header_does l d c.args.round c.requires c.homes_up_to-homes.result c.encode.result c.homes_up_to-homes.ensures c.encode.ensures.bytes) c.write.ensures.blocks c.write.ensures.writes _ c.in_err-write.ensures.answer)

pub returns : goal.returns
returns g c =
    let l = c.args.self.now in
    let d = g.D.Disk.blocks c.args.disk.now in
    step_granted _ _ _ d _ _ _ _ _ _ (header_does l d c.args.round c.requires c.homes_up_to-homes.result c.encode.result c.homes_up_to-homes.ensures c.encode.ensures.bytes) c.write.ensures.blocks c.write.ensures.writes _ (ap (λ (n : ℕ). ended_at (frozen_at (view l) n) c.args.round.target c.homes_up_to-homes.result) c.max-self.ensures) c.in_ok-write.ensures.answer c.wrote.result c.wrote.ensures
