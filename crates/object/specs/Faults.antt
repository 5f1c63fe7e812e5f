-- An object fault's number and place, and the disk's own fault inside it, if any.
use Rattle.std.specs.Prelude.{ℕ, Some, None, Option}
use Rattle.disk.specs.declared.fault.DiskFault.{DiskFault}
use Rattle.disk.specs.Faults.{disk_place}
use Rattle.object.specs.declared.ObjectFault.{ObjectFault}
use Rattle.object.specs.declared.ObjectFault.TheVariants.{Size, Misplaced, Buffer, Bit, Overlap, Table, DeadBlock}

abbrev pub object_number : ObjectFault → ℕ
object_number (Size b) = 14
object_number (Misplaced b) = 15
object_number (Buffer b) = 16
object_number (Bit b) = 17
object_number (Overlap b) = 18
object_number (Table b) = 19
object_number (DeadBlock f) = 20

abbrev pub object_place : ObjectFault → ℕ
object_place (Size b) = b
object_place (Misplaced b) = b
object_place (Buffer b) = b
object_place (Bit b) = b
object_place (Overlap b) = b
object_place (Table b) = b
object_place (DeadBlock f) = disk_place f

abbrev pub object_cause : ObjectFault → Option DiskFault
object_cause (Size b) = None
object_cause (Misplaced b) = None
object_cause (Buffer b) = None
object_cause (Bit b) = None
object_cause (Overlap b) = None
object_cause (Table b) = None
object_cause (DeadBlock f) = Some f
