use Rattle.std.proofs.Common.{◌<◌, length, ap, arith, rules}
use Rattle.operation.proofs.Padding.{push_filled, put_filled}
use Rattle.operation.proofs.table.Table.add.Goals as goal

-- whichever places are written, the table stays padded; so an object that is added in a wrong place is refused for what the table then holds
pub invariant_of-self : goal.invariant_of-self
invariant_of-self c =
    let f = c.self.invariant in
    let room : c.self.inside.len < 8 = (let v = ap length c.self.view_is in let n = f.count in let r = c.requires in omega arith) in
    search (rules, push_filled, put_filled)
