use Rattle.object.proofs.Sizes.{sizes_allowed}
use Rattle.object.proofs.Whole.{object_bits, objects_kept, table_laws, fault_laws}
use Rattle.model.proofs.Order.{calls_order}
use Rattle.model.proofs.Opening.{opening_law}
use Rattle.journal.proofs.meaning.Goals as goal

pub returns : goal.returns
returns c = record { calls = calls_order; cards = opening_law; sizes = sizes_allowed; bits = object_bits; objects = objects_kept; tables = table_laws; faults = fault_laws }
