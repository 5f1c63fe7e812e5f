use Rattle.std.proofs.Common.{refl}
use Rattle.model.proofs.Opening.{opening_law}
use Rattle.model.proofs.laws.opening_takes_sound_cards.Goals as goal

pub returns : goal.returns
returns c = record { count = refl; law = opening_law }
