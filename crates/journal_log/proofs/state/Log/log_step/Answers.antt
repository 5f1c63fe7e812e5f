use Rattle.std.proofs.Common.{Ok, refl, ap, ◌∙◌}
use Rattle.journal_log.specs.declared.steps.Step.{Step}
use Rattle.journal_log.specs.Steps.{position_told, blocks_told}
use Rattle.journal_log.proofs.Stepping.{stepped_as, running, begun, new_round_lem}
use Rattle.journal_log.proofs.state.Log.log_step.Goals as goal

pub returns-in-Some : goal.returns-in-Some
returns-in-Some g c = stepped_as (running c.args.self.now (g.D.Disk.blocks c.args.disk.now) c.in-Some.round c.in-Some.is) c.log_round.ensures

pub returns-in-Some-log_target : goal.returns-in-Some-log_target
returns-in-Some-log_target g c =
    let l = c.args.self.now in
    let d = g.D.Disk.blocks c.args.disk.now in
    stepped_as (new_round_lem l d _ c.in_default.is c.in-Some-log_target.ensures.value ∙ begun l d c.in-Some-log_target.target c.in-Some-log_target.ensures.within.0) c.log_round-in-Some-log_target.ensures

pub returns-in-None : goal.returns-in-None
returns-in-None g c = stepped_as (new_round_lem c.args.self.now (g.D.Disk.blocks c.args.disk.now) _ c.in_default.is c.in-None.ensures.value) (record { answer = ap (λ (s : Step). position_told (Ok s)) c.idle.ensures; wrote = ap (λ (s : Step). blocks_told (Ok s)) c.idle.ensures; log = refl; blocks = refl; writes = refl })
