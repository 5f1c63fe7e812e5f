use Rattle.law.proofs.Crash.{crash_law}
use Rattle.law.proofs.hold.Goals as goal

pub returns : goal.returns
returns c = record { crash = crash_law }
