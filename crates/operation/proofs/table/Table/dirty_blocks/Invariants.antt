use Rattle.std.proofs.Common.{◌≡◌, ◌≤◌, [], ◌++◌, length, drop}
use Rattle.model.specs.Operations.{dirty_blocks}
use Rattle.operation.proofs.table.Table.dirty_blocks.Given as goal

abbrev pub invariant-loop-held : goal.invariant-loop-held
invariant-loop-held l =
    (length l.blocks ≤ l.held-index) ×
    (l.blocks ++ dirty_blocks (drop l.held-index l.held-items) l.blocks ≡ dirty_blocks l.self [])
