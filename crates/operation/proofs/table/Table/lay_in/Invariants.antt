use Rattle.std.proofs.Common.{◌≡◌, drop}
use Rattle.model.specs.Operations.{laid_in}
use Rattle.operation.proofs.table.Table.lay_in.Given as goal

abbrev pub invariant-loop-held : goal.invariant-loop-held
invariant-loop-held l = laid_in (drop l.held-index l.held-items) l.block l.bytes ≡ laid_in l.self l.block l.initial.bytes
