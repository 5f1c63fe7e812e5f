use Rattle.std.proofs.Common.{◌++◌, true, length, sym, ap, ◌∙◌, Ok}
use Rattle.std.proofs.lemmas.Result.{err_from_is_err_and}
use Rattle.disk.specs.Tests.{first_of}
use Rattle.object.specs.declared.Place.{Place}
use Rattle.object.specs.Objects.{width}
use Rattle.object.specs.Tables.{Held, holding}
use Rattle.model.specs.declared.Fault.TheVariants.{Object}
use Rattle.model.specs.Outcomes.{value_unless}
use Rattle.model.specs.Operations.{place_tests, bit_tests}
use Rattle.model.proofs.Tests.{value_err, value_ok}
use Rattle.journal_log.specs.View.{view}
use Rattle.journal.specs.Touch.{held_tests}
use Rattle.journal.proofs.Touching.{refused_so, granted_so, went_on}
use Rattle.journal.proofs.objects.Newest.overwrite_by.Goals as goal

pub returns-in_err-check_held : goal.returns-in_err-check_held
returns-in_err-check_held g c =
    let s = c.args.self.now in
    let d = g.D.Disk.blocks s.disk.now in
    let o = c.args.place in
    let bs = c.args.bytes.now in
    let held = held_tests (view s.log.now) d o c.args.table.now in
    let w = went_on (place_tests d o (length bs)) (bit_tests o bs ++ held) o _ c.in_ok-spot.ensures.answer ∙ went_on (bit_tests o bs) held tt tt c.in_ok-check_bit.ensures.answer in
    let e = w ∙ value_err (first_of held) tt (Object c.in_err-check_held.field-0.0) c.in_err-check_held.ensures.answer in
    let p = err_from_is_err_and c.from_residual-in_err-check_held.result c.from_residual-in_err-check_held.ensures.1 in
    rw (p.1, p.2) (record { answer = sym (ap (λ x. value_unless x (width o.size)) e); table = refused_so _ _ _ e })

pub write-requires : goal.write-requires
write-requires g c =
    let q = (value_ok _ c.args.place _ c.in_ok-spot.ensures.answer).1 in
    rw q (record { value = (c.in_ok-spot.ensures.long, c.in_ok-check_bit.ensures.bit); room = c.in_ok-check_held.ensures.room })

pub returns : goal.returns
returns g c =
    let s = c.args.self.now in
    let d = g.D.Disk.blocks s.disk.now in
    let o = c.args.place in
    let bs = c.args.bytes.now in
    let hs = c.args.table.now in
    let held = held_tests (view s.log.now) d o hs in
    let w = went_on (place_tests d o (length bs)) (bit_tests o bs ++ held) o _ c.in_ok-spot.ensures.answer ∙ went_on (bit_tests o bs) held tt tt c.in_ok-check_bit.ensures.answer in
    let e = w ∙ (value_ok (first_of held) tt tt c.in_ok-check_held.ensures.answer).0 in
    let q = (value_ok _ o _ c.in_ok-spot.ensures.answer).1 in
    record {
      answer = ap Ok c.width.ensures ∙ sym (ap (λ x. value_unless x (width o.size)) e);
      table = c.write.ensures ∙ ap (holding hs) (ap (λ (x : Place). let h : Held = record { place = x; bytes = bs; dirty = true } in h) q) ∙ granted_so _ _ e;
    }
