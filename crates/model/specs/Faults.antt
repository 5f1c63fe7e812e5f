-- Each fault's number, layer and place, and the disk's own fault inside it, if any.
use Rattle.std.specs.Prelude.{ℕ, cond, Some, None, Option, nat_lt}
use Rattle.disk.specs.declared.fault.Layer.{Layer}
use Rattle.disk.specs.declared.fault.Layer.TheVariants as layers
use Rattle.disk.specs.declared.fault.DiskFault.{DiskFault}
use Rattle.disk.specs.Faults.{disk_place}
use Rattle.object.specs.Faults.{object_number, object_place, object_cause}
use Rattle.card.specs.Layout.{homes_from}
use Rattle.model.specs.declared.LogFault.{LogFault}
use Rattle.model.specs.declared.LogFault.TheVariants.{Small, Dead, Reserved, Positions, HomeRange, Full, Exhausted}
use Rattle.model.specs.declared.Fault.{Fault}
use Rattle.model.specs.declared.Fault.TheVariants.{Shut, Opened, Number, Ticket, Log, Object}

-- a dead block below the data blocks is another refusal than a dead home
abbrev pub log_number : LogFault → ℕ
log_number Small = 6
log_number (Dead f) = cond (nat_lt (disk_place f) homes_from) 7 11
log_number (Reserved b) = 8
log_number Positions = 9
log_number (HomeRange b) = 10
log_number Full = 21
log_number Exhausted = 22

abbrev pub log_place : LogFault → ℕ
log_place Small = 0
log_place (Dead f) = disk_place f
log_place (Reserved b) = b
log_place Positions = 0
log_place (HomeRange b) = b
log_place Full = 0
log_place Exhausted = 0

abbrev pub log_cause : LogFault → Option DiskFault
log_cause Small = None
log_cause (Dead f) = Some f
log_cause (Reserved b) = None
log_cause Positions = None
log_cause (HomeRange b) = None
log_cause Full = None
log_cause Exhausted = None

abbrev pub number : Fault → ℕ
number Shut = 4
number Opened = 5
number Number = 12
number Ticket = 13
number (Log f) = log_number f
number (Object f) = object_number f

abbrev pub layer : Fault → Layer
layer Shut = layers.Operation
layer Opened = layers.Operation
layer Number = layers.Operation
layer Ticket = layers.Operation
layer (Log f) = layers.Log
layer (Object f) = layers.Object

abbrev pub place : Fault → ℕ
place Shut = 0
place Opened = 0
place Number = 0
place Ticket = 0
place (Log f) = log_place f
place (Object f) = object_place f

abbrev pub cause : Fault → Option DiskFault
cause Shut = None
cause Opened = None
cause Number = None
cause Ticket = None
cause (Log f) = log_cause f
cause (Object f) = object_cause f
