use Rattle.std.proofs.Common.{ap, ◌∙◌, arith, rules}
use Rattle.card.proofs.Made.{made}
use Rattle.furnace.proofs.Firings.{number_of, firings_back}
use Rattle.furnace.proofs.schedule.ScheduleStoredSCHEDULE_BYTES.encode.Goals as goal

pub returns : goal.returns
returns c =
    let fs = c.args.self.now.firings in
    let is = made _ _ 16 (number_of fs) c.from_fn-words.result c.from_fn-words.ensures.items (λ i y q h k. search rules) in
    ap (λ x. record { firings = x }) (firings_back fs c.word_bytes.result (omega arith) (c.word_bytes.ensures ∙ is))
