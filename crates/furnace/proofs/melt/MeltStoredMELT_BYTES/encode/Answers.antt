use Rattle.std.proofs.Common.{ap}
use Rattle.furnace.proofs.melt.MeltStoredMELT_BYTES.encode.Goals as goal

pub returns : goal.returns
returns c = ap (λ rs. record { readings = rs }) c.word_bytes.ensures
