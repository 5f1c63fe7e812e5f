-- A card that format takes.
use Rattle.std.specs.Prelude.{◌≡◌, ℕ, ◌<◌, true, length}
use Rattle.disk.specs.Meaning.{Blocks, block, is_live}
use Rattle.card.specs.Layout.{homes_from}

-- it has data blocks, and every block below them is live
pub record Ready (d : Blocks) : Type 0 where
  pub large : homes_from < length d
  pub alive : (b : ℕ) → b < homes_from → is_live (block d b) ≡ true
