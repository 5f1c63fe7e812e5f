use Rattle.worked.proofs.Worked.{worked_examples}
use Rattle.worked.proofs.More.{more_examples}
use Rattle.worked.proofs.hold.Goals as goal

pub returns : goal.returns
returns c = record { worked = worked_examples; more = more_examples }
