use Rattle.std.proofs.Common.{ap, rules}
use Rattle.furnace.specs.Words.{word_in}
use Rattle.card.proofs.Made.{made}
use Rattle.furnace.proofs.melt.MeltStoredMELT_BYTES.decode.Goals as goal

pub returns : goal.returns
returns c = ap (λ rs. record { readings = rs }) (made _ _ 256 (word_in c.args.bytes.now) c.from_fn.result c.from_fn.ensures.items (λ i y q h k. search rules))
