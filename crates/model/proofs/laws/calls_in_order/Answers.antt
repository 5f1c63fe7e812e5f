use Rattle.std.proofs.Common.{refl}
use Rattle.model.proofs.Order.{calls_order}
use Rattle.model.proofs.laws.calls_in_order.Goals as goal

pub returns : goal.returns
returns c = record { count = refl; order = calls_order }
