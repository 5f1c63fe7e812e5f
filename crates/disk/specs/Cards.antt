-- What a contract sees of a card.
use Rattle.std.specs.Prelude.{ℕ, List}
use Rattle.disk.specs.declared.cards.Card.{Card}

-- the bytes that it is lent
abbrev pub bytes_of : {L : Type 0} → Card L → List ℕ
bytes_of card = card.bytes.now
