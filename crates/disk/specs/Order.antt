-- A disk has n refusals: whatever it holds and whatever it is asked, its tests give in turn the faults numbered from 1 to n, each of the
-- disk's own layer and at the block that was named.
use Rattle.std.specs.Prelude.{◌≡◌, ℕ, map, replicate}
use Rattle.std.specs.List.{range_with_len}
use Rattle.disk.specs.declared.fault.Layer.TheVariants.{Disk}
use Rattle.disk.specs.Faults.{disk_number, disk_layer, disk_place}
use Rattle.disk.specs.Meaning.{Blocks, disk_tests}

abbrev pub RefusalOrder : ℕ → Type 0
RefusalOrder n =
    (d : Blocks) (b len : ℕ) →
    (map (λ t. disk_number t.1) (disk_tests d b len) ≡ range_with_len 1 n) ×
    (map (λ t. disk_layer t.1) (disk_tests d b len) ≡ replicate n Disk) ×
    (map (λ t. disk_place t.1) (disk_tests d b len) ≡ replicate n b)
