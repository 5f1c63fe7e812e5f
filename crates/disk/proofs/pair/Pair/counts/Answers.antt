use Rattle.std.proofs.Common.{arith}
use Rattle.disk.proofs.Pairs.{length_pair, whole_pair}
use Rattle.disk.proofs.pair.Pair.counts.Goals as goal

pub returns : goal.returns
returns g c =
    let d = g.F.Disk.blocks c.args.self.now.first in
    let e = g.S.Disk.blocks c.args.self.now.second in
    let l = length_pair d e in
    let first = c.count.ensures in
    let second = c.count-2.ensures in
    let small = first.whole.few in
    let few = second.whole.few in
    record { first = (first.count, omega arith); second = (second.count, omega arith); both = omega arith; whole = whole_pair d e first.whole second.whole }
