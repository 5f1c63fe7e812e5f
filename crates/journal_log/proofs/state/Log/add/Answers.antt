use Rattle.std.proofs.Common.{◌+◌, ◌-◌, ◌<◌, sym, ap, ◌∙◌, arith}
use Rattle.card.specs.Layout.{slots}
use Rattle.model.specs.Steps.{with_updates}
use Rattle.journal_log.specs.Ring.{rows_from}
use Rattle.journal_log.specs.View.{view}
use Rattle.journal_log.proofs.Adding.{added_at, added_longer, added_pushed}
use Rattle.journal_log.proofs.state.Log.add.Goals as goal

pub returns-in-Some : goal.returns-in-Some
returns-in-Some c =
    let l = c.args.self.now in
    let at = c.in-Some.ensures in
    ap (λ rows. with_updates (view l) (rows_from rows l.start (l.last - l.start))) c.put.ensures ∙
    sym (ap (with_updates (view l)) (added_at l.ring.rows l.ring.long l.start l.frozen l.last c.args.update (omega arith) (omega arith) (omega arith) c.in-Some.p at.from at.live at.home at.before))

pub invariant_of-self-in-None : goal.invariant_of-self-in-None
invariant_of-self-in-None c =
    let l = c.args.self.now in
    let longer = added_longer l.ring.rows l.ring.long l.start l.frozen l.last c.args.update (omega arith) (omega arith) (omega arith) c.in-None.ensures in
    record { order = (l.order.0, l.order.1, omega arith); room = omega (arith, c.requires.slots); top = omega (arith, c.requires.top); logged = l.logged; installed = l.installed }

pub returns-in-None : goal.returns-in-None
returns-in-None c =
    let l = c.args.self.now in
    let none = c.in-None.ensures in
    let longer = added_longer l.ring.rows l.ring.long l.start l.frozen l.last c.args.update (omega arith) (omega arith) (omega arith) none in
    let room : l.last < l.start + slots = omega (arith, c.requires.slots) in
    ap (λ rows. with_updates (view l) (rows_from rows l.start (l.last + 1 - l.start))) c.put-in-None.ensures ∙
    sym (ap (with_updates (view l)) (added_pushed l.ring.rows l.ring.long l.start l.frozen l.last c.args.update (omega arith) (omega arith) (omega arith) none room))
