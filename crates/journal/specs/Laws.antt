-- What holds of the definitions that the calls are held to, said here so that it stands on the contract of a call.
use Rattle.object.specs.Laws.{SizesAllowed, ObjectBits, ObjectsKept, TableLaws, FaultLaws}
use Rattle.model.specs.Order.{CallsOrder}
use Rattle.model.specs.Sound.{OpeningLaw}

pub record Meaning : Type 0 where
  -- the refusals of each call in order, by number, layer and place; a refused call alters nothing
  pub calls : CallsOrder
  -- which cards an opening takes
  pub cards : OpeningLaw
  -- which sizes an object may have; its bits in a block; objects side by side; the tables of operations; what object faults say
  pub sizes : SizesAllowed
  pub bits : ObjectBits
  pub objects : ObjectsKept
  pub tables : TableLaws
  pub faults : FaultLaws
