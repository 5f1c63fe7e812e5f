use Rattle.std.proofs.Common.{Some, None, ap, ◌∙◌}
use Rattle.object.specs.declared.Place.{Place}
use Rattle.object.specs.Objects.{width}
use Rattle.operation.proofs.Tables.{value_told, value_place}
use Rattle.operation.proofs.table.Table.value.Goals as goal

pub returns-in_err-held : goal.returns-in_err-held
returns-in_err-held c = rw c.from_residual.ensures (record { value = value_told c.args.self.now _ c.entries.ensures.objects c.args.place.now None c.in_err-held.ensures; long = tt })

pub returns : goal.returns
returns c =
    let h = c.in_ok-held.held.now in
    let o = c.args.place.now in
    record {
      value = ap Some c.value.ensures.bytes ∙ value_told c.args.self.now _ c.entries.ensures.objects o (Some h) c.in_ok-held.ensures;
      long = c.value.ensures.long ∙ ap (λ (p : Place). width p.size) (value_place c.args.self.now _ c.entries.ensures.objects o h c.in_ok-held.ensures);
    }
