-- Which cards an opening takes.
use Rattle.std.specs.Prelude.{◌≡◌, ℕ, ◌+◌, ◌<◌, ◌≤◌, true, [], length, Ok, slice_index}
use Rattle.disk.specs.Meaning.{Blocks, block, is_live, Whole}
use Rattle.card.specs.Layout.{slots, homes_from, highest, slot, end_on, start_on, home_on, bytes_on}
use Rattle.model.specs.Card.{Ready}
use Rattle.model.specs.Journal.{shut, opening}

-- a card that an opening takes
pub record Sound (d : Blocks) : Type 0 where
  pub ready : Ready d
  pub zeros_end : (i : ℕ) → 256 ≤ i → i < 512 → slice_index (bytes_on d 0) i ≡ 0
  pub zeros_start : (i : ℕ) → 8 ≤ i → i < 512 → slice_index (bytes_on d 1) i ≡ 0
  pub order : start_on d ≤ end_on d
  pub few : end_on d ≤ start_on d + slots
  pub top : end_on d ≤ highest
  pub homes : (p : ℕ) → start_on d ≤ p → p < end_on d →
      (homes_from ≤ home_on d (slot p)) × (home_on d (slot p) < length d) × (is_live (block d (home_on d (slot p))) ≡ true)

-- an opening takes these cards and no others, and writes nothing
abbrev pub OpeningLaw : Type 0
OpeningLaw = (d : Blocks) → Whole d →
    ((opening shut d).disk ≡ d) × ((opening shut d).wrote ≡ []) × (Sound d → (opening shut d).answer ≡ Ok (end_on d)) × ((e : ℕ) → (opening shut d).answer ≡ Ok e → Sound d)
