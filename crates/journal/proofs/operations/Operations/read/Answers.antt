use Rattle.std.proofs.Common.{[], length, Some, None, unwrap_or, sym, refl, ap, ◌∙◌, arith}
use Rattle.std.proofs.lemmas.List.{get_or_default}
use Rattle.disk.specs.Tests.{unless}
use Rattle.object.specs.Objects.{width}
use Rattle.model.specs.Outcomes.{value_unless}
use Rattle.model.specs.Calls.{reading}
use Rattle.journal_log.specs.View.{view}
use Rattle.journal.specs.View.{opened}
use Rattle.journal.specs.Touch.{seen_by, read_into, read_by}
use Rattle.journal.proofs.Slots.{decided_answer, decided_buffer, read_state, slot_set}
use Rattle.journal.proofs.operations.Operations.read.Goals as goal

pub returns : goal.returns
returns g c =
    let ts = c.self.inside.tables in
    let n = c.args.number in
    let o = c.args.place in
    let l = view c.args.log.now in
    let j = opened c.args.log.now ts in
    let d = g.D.Disk.blocks c.args.disk.now in
    let bs = c.args.buf.now in
    let e = sym (get_or_default ts n None c.index-tables-number.result (omega arith)) in
    rw (← c.self.view_is) (record {
      answer = c.read_in.ensures.answer ∙ ap (λ t. value_unless (read_by l d o t (length bs)) (width o.size)) e ∙ decided_answer (reading n o j d) bs j d (width o.size) refl _;
      buffer = c.read_in.ensures.buffer ∙ ap (λ t. unless (read_by l d o t (length bs)) (seen_by l d o (unwrap_or t [])) bs) e ∙ decided_buffer (reading n o j d) bs j d _;
      state =
          slot_set c.args.log.now ts n _ _ (c.read_in.ensures.slot ∙ ap (λ t. unless (read_by l d o t (length bs)) (Some (read_into l d o (unwrap_or t []))) t) e) ∙ read_state j d n o bs;
    })
