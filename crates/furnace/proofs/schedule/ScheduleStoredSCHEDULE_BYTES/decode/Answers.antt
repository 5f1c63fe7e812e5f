use Rattle.std.proofs.Common.{ap, rules}
use Rattle.furnace.specs.Settings.{firing_in}
use Rattle.card.proofs.Made.{made}
use Rattle.furnace.proofs.schedule.ScheduleStoredSCHEDULE_BYTES.decode.Goals as goal

pub returns : goal.returns
returns c = ap (λ fs. record { firings = fs }) (made _ _ 8 (firing_in c.args.bytes.now) c.from_fn.result c.from_fn.ensures.items (λ i y q h k. search rules))
