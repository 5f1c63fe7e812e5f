use Rattle.std.proofs.Common.{is_some, Ok, Some, sym, refl, ap, ◌∙◌, subst}
use Rattle.std.proofs.lemmas.Result.{err_from_is_err_and}
use Rattle.journal_log.specs.View.{view as log_view}
use Rattle.model.proofs.Calls.{opening_err, opening_ok}
use Rattle.model.specs.Outcomes.{Outcome}
use Rattle.model.specs.Journal.{View, opening}
use Rattle.law.specs.Law.{Lasting}
use Rattle.law.proofs.Crash.{crash_law}
use Rattle.journal.specs.View.{view, opened}
use Rattle.journal.proofs.Journal.open_card.Goals as goal

pub returns-in_err-log : goal.returns-in_err-log
returns-in_err-log g c =
    let j = c.args.self.now in
    let e = opening_err (view j) (g.D.Disk.blocks j.disk) (ap is_some c.requires) _ c.in_err-log.ensures.log in
    let p = err_from_is_err_and c.from_residual.result c.from_residual.ensures.1 in
    record { answer = rw (p.1, p.2) (sym (ap (λ o. o.answer) e)); state = sym (ap (λ o. o.state) e); disk = refl; law = rw p.1 tt }

pub returns : goal.returns
returns g c =
    let j = c.args.self.now in
    let d = g.D.Disk.blocks j.disk in
    let l = log_view c.in_ok-log.log in
    let e = opening_ok (view j) d (ap is_some c.requires) l c.in_ok-log.ensures.log in
    let granted = ap (λ v. opening v d) (sym c.requires) ∙ e in
    record {
      answer = ap Ok c.end-end.ensures ∙ sym (ap (λ o. o.answer) e);
      state = ap (λ ts. Some (opened c.in_ok-log.log ts)) c.new.ensures ∙ sym (ap (λ o. o.state) e);
      disk = refl;
      law =
          subst (λ ts. Lasting (Some (opened c.in_ok-log.log ts)) d) (sym c.new.ensures)
          (subst (λ (o : Outcome View). Lasting o.state o.disk) granted (crash_law d l.end c.«open».ensures.whole (ap (λ o. o.answer) granted)));
    }
