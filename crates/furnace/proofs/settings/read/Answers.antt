use Rattle.std.proofs.Common.{ap, ◌∙◌}
use Rattle.furnace.proofs.Readings.{seen_by}
use Rattle.furnace.proofs.settings.read.Goals as goal

pub returns-clause-settings : goal.returns-clause-settings
returns-clause-settings g c =
    let first = c.read.ensures in
    let second = c.read-2.ensures in
    seen_by _ _ _ _ _ _ _ _ _ _ c.in_ok-read.ensures.value first.state (ap g.D.Disk.blocks first.disk) c.in_ok-read-2.ensures.value second.state (ap g.D.Disk.blocks (second.disk ∙ first.disk)) c.in_ok-read-3.ensures.value
