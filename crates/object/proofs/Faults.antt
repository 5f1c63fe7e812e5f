-- One fault of each kind.
use Rattle.std.proofs.Common.{refl}
use Rattle.object.specs.Laws.{FaultsInOrder, FaultsNameBlocks, FaultsCauses}

pub faults_in_order : FaultsInOrder
faults_in_order b f = refl

pub faults_name_blocks : FaultsNameBlocks
faults_name_blocks b f e = rw e

pub faults_causes : FaultsCauses
faults_causes b f = refl
