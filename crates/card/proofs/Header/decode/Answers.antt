use Rattle.std.proofs.Common.{rules}
use Rattle.card.specs.Layout.{home_in, slots}
use Rattle.card.proofs.Headers.{header_is}
use Rattle.card.proofs.Made.{made}
use Rattle.card.proofs.Header.decode.Goals as goal

pub returns : goal.returns
returns c =
    let bs = c.args.block.now in
    header_is bs c.first_u64.result c.from_fn.result c.first_u64.ensures (made _ _ slots (home_in bs) c.from_fn.result c.from_fn.ensures.items (λ i y q l k. search rules))
