use Rattle.std.proofs.Common.{sym, ◌∙◌}
use Rattle.model.proofs.Calls.{format_open, opening_open}
use Rattle.model.proofs.Order.{format_order_lem, opening_order}
use Rattle.journal.specs.View.{view, open_view}
use Rattle.journal.proofs.Views.{is_some_mapped, is_some_not}
use Rattle.journal.proofs.Journal.check_shut.Goals as goal

pub returns-then-is_some : goal.returns-then-is_some
returns-then-is_some g c =
    let j = c.args.self.now in
    let is = is_some_mapped open_view j.state ∙ sym c.is_some.ensures ∙ c.if-is_some.true in
    record { state = λ d. (format_open (view j) d is, opening_open (view j) d is); format_order = format_order_lem; opening_order = opening_order }

pub returns : goal.returns
returns g c =
    let j = c.args.self.now in
    let is = is_some_mapped open_view j.state ∙ sym c.is_some.ensures ∙ c.if-is_some.false in
    record { state = is_some_not (view j) is; format_order = format_order_lem; opening_order = opening_order }
