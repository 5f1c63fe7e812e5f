use Rattle.operation.proofs.Zeros.{size_divides}
use Rattle.operation.proofs.place.is_aligned.Goals as goal

pub returns : goal.returns
returns c = size_divides c.args.offset c.args.size c.requires
