use Rattle.std.proofs.Common.{arith, rules}
use Rattle.card.proofs.Made.{made_at}
use Rattle.furnace.proofs.Bytes.{IsByte, words_back}
use Rattle.furnace.proofs.words.word_bytes.Goals as goal

pub returns : goal.returns
returns g c =
    let ws = c.args.words.now in
    let each = made_at _ _ g.row.B (IsByte ws) (λ i y q h k. search rules) c.from_fn.result 0 c.from_fn.ensures.items in
    words_back ws c.from_fn.result g.row.N c.told-words (λ i lt. each i (omega (arith, lt, c.requires)))
