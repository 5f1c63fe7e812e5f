use Rattle.std.proofs.Common.{sym}
use Rattle.operation.proofs.Tables.{clash_told}
use Rattle.operation.proofs.table.Table.clashes.Goals as goal

pub returns : goal.returns
returns c = sym (clash_told c.args.self.now _ c.entries.ensures.objects c.args.place.now c.any_clashes.result c.any_clashes.ensures)
