use Rattle.std.proofs.Common.{refl}
use Rattle.card.proofs.Slots.{slots_differ}
use Rattle.card.proofs.apart.Goals as goal

pub returns : goal.returns
returns c = record { count = refl; law = slots_differ }
