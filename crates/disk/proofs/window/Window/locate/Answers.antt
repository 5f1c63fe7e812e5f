use Rattle.std.proofs.Common.{length, refl, arith}
use Rattle.disk.proofs.Above.{carried_down, unless_above}
use Rattle.disk.proofs.Windows.{window_shows}
use Rattle.disk.proofs.window.Window.locate.Goals as goal

pub returns : goal.returns
returns g c =
    let s = c.args.self.now in
    let buf = c.args.buf.now in
    let k = window_shows (g.D.Disk.blocks s.disk) s.first s.len c.args.block (omega arith) in
    (carried_down k (λ x. x) (g.D.Disk.writes s.disk) buf refl, unless_above k (length buf) _ _)
