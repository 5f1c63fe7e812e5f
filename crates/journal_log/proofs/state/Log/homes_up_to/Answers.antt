use Rattle.std.proofs.Common.{◌≡◌, ℕ, ◌-◌, set, sym, ap, ◌∙◌, arith}
use Rattle.card.specs.declared.Update.{Update}
use Rattle.card.specs.Layout.{slot}
use Rattle.model.specs.Steps.{with_homes}
use Rattle.journal_log.specs.Ring.{rows_from}
use Rattle.journal_log.proofs.Stepping.{homes_to, homes_more, round_rows}
use Rattle.journal_log.proofs.state.Log.homes_up_to.Goals as goal

pub loop-p-preserved : goal.loop-p-preserved
loop-p-preserved c =
    let l = c.args.self.now in
    let p = c.loop-p.p in
    c.put_home.ensures ∙
    ap (λ hs. set hs (slot p) c.at.result.now.home) c.loop-p.invariant ∙
    ap (λ (u : Update). set (homes_to l.homes l.ring.rows l.end p) (slot p) u.home) c.at.ensures ∙
    sym (homes_more l.homes l.ring.rows l.end p c.loop-p.auto.p)

pub returns : goal.returns
returns c =
    let l = c.args.self.now in
    let e : c.loop-p.p - l.end ≡ c.args.target - l.end = omega arith in
    c.loop-p.invariant ∙
    ap (λ (n : ℕ). with_homes l.homes l.end (rows_from l.ring.rows l.end n)) e ∙
    ap (with_homes l.homes l.end) (round_rows l.ring.rows l.start l.last l.end c.args.target l.order.0 c.requires.0 c.requires.1)
