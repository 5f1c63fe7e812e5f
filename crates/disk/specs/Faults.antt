-- A disk fault's number, layer and place.
use Rattle.std.specs.Prelude.{ℕ}
use Rattle.disk.specs.declared.fault.Layer.{Layer}
use Rattle.disk.specs.declared.fault.Layer.TheVariants.{Disk}
use Rattle.disk.specs.declared.fault.DiskFault.{DiskFault}
use Rattle.disk.specs.declared.fault.DiskFault.TheVariants.{Beyond, Length, Dead}

abbrev pub disk_number : DiskFault → ℕ
disk_number (Beyond b) = 1
disk_number (Length b) = 2
disk_number (Dead b) = 3

abbrev pub disk_layer : DiskFault → Layer
disk_layer f = Disk

-- the block that was named to the disk
abbrev pub disk_place : DiskFault → ℕ
disk_place (Beyond b) = b
disk_place (Length b) = b
disk_place (Dead b) = b
