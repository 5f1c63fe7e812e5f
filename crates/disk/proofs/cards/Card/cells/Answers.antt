use Rattle.std.proofs.Common.{◌/◌, min, length, sym, ap, ◌∙◌, arith}
use Rattle.disk.proofs.Cells.{length_cells}
use Rattle.disk.proofs.LiveCells.{whole_card}
use Rattle.disk.proofs.cards.Card.cells.Goals as goal

pub returns : goal.returns
returns g c =
    let bs = c.args.self.now.bytes.now in
    let told = g.L.Layout.told in
    record {
      count = ap (λ w. min (w / c.CELL.result) 65536) c.len.ensures ∙ ap (λ w. min (length bs / w) 65536) c.CELL.ensures ∙ sym (length_cells _ told bs);
      whole = whole_card _ told g.met.L.Layout.laid bs;
      short = omega arith;
    }
