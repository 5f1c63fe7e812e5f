use Rattle.std.proofs.Common.{ap, ◌∙◌, arith}
use Rattle.card.specs.declared.Header.{Header}
use Rattle.card.specs.Layout.{header_in}
use Rattle.card.proofs.Headers.{header_filled, header_again}
use Rattle.card.proofs.header_bytes.Goals as goal

pub returns : goal.returns
returns c =
    let h : Header = record { end = c.args.end; homes = c.args.homes.now } in
    let filled = header_filled h (omega arith) _ _ c.beginning_with-block.ensures (c.copy_from_slice.ensures.after ∙ c.as_flattened.ensures.value ∙ c.home_cells.ensures) in
    record { bytes = filled; decodes = ap header_in filled ∙ header_again h (omega arith) (omega arith) (λ k l. c.fits-homes k) }
