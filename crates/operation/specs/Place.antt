-- Where an object may not lie, and where it lies.
use Rattle.std.specs.Prelude.{◌%◌, Bool, not, length, Ok, Err, Result, ◌==◌, nat_le, nat_lt}
use Rattle.disk.specs.Tests.{either}
use Rattle.disk.specs.Meaning.{Blocks}
use Rattle.card.specs.Layout.{homes_from}
use Rattle.object.specs.declared.Place.{Place}
use Rattle.object.specs.declared.ObjectFault.{ObjectFault}
use Rattle.object.specs.declared.parts.Spot.{Spot}
use Rattle.object.specs.Objects.{block_bits}

-- the block is no data block, or the offset is none that an object of this size has
abbrev pub strays : Blocks → Place → Bool
strays d o = either (either (nat_lt o.block homes_from) (nat_le (length d) o.block)) (either (nat_le block_bits o.offset) (not (o.offset % o.size == 0)))

-- the place of the spot that is answered
abbrev pub spot_told : Result Spot ObjectFault → Result Place ObjectFault
spot_told (Ok s) = Ok s.place
spot_told (Err f) = Err f
