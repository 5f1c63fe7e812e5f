use Rattle.std.proofs.Common.{ap, ◌∙◌}
use Rattle.disk.specs.Cards.{bytes_of}
use Rattle.disk.specs.Plain.{plain_blocks}
use Rattle.list_card.specs.Listing.{listed}
use Rattle.list_card.proofs.lists.listing.Goals as goal

pub returns : goal.returns
returns c = c.examine.ensures.fields ∙ ap (λ x. listed (plain_blocks (bytes_of x))) c.new-journal.ensures.disk ∙ ap (λ bs. listed (plain_blocks bs)) (c.new.ensures.bytes ∙ c.deref_mut.ensures.value)
