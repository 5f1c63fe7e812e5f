use Rattle.std.proofs.Common.{true, [], Some, None, unwrap_or, sym, refl, ap, ◌∙◌, arith}
use Rattle.std.proofs.lemmas.List.{get_or_default}
use Rattle.disk.specs.Tests.{unless}
use Rattle.object.specs.Objects.{width}
use Rattle.object.specs.Tables.{Held, holding}
use Rattle.model.specs.Outcomes.{value_unless}
use Rattle.model.specs.Calls.{overwrites, grants}
use Rattle.journal_log.specs.View.{view}
use Rattle.journal.specs.View.{opened}
use Rattle.journal.specs.Touch.{overwritten_by}
use Rattle.journal.proofs.Slots.{decided_answer, overwritten_state, slot_set}
use Rattle.journal.proofs.operations.Operations.overwrite.Goals as goal

pub returns : goal.returns
returns g c =
    let ts = c.self.inside.tables in
    let n = c.args.number in
    let o = c.args.place in
    let l = view c.args.log.now in
    let j = opened c.args.log.now ts in
    let d = g.D.Disk.blocks c.args.disk.now in
    let bs = c.args.bytes.now in
    let h : Held = record { place = o; bytes = bs; dirty = true } in
    let e = sym (get_or_default ts n None c.index-tables-number.result (omega arith)) in
    rw (← c.self.view_is) (record {
      answer = c.overwrite_in.ensures.answer ∙ ap (λ t. value_unless (overwritten_by l d o t bs) (width o.size)) e ∙ decided_answer (grants (overwrites n o bs) j d) bs j d (width o.size) refl _;
      state = slot_set c.args.log.now ts n _ _ (c.overwrite_in.ensures.slot ∙ ap (λ t. unless (overwritten_by l d o t bs) (Some (holding (unwrap_or t []) h)) t) e) ∙ overwritten_state j d n o bs;
    })
