-- What holds of an open journal's log and its card at every moment.
use Rattle.std.proofs.Common.{◌≡◌, ℕ, ◌+◌, ◌-◌, ◌<◌, ◌≤◌, true, List, [], length, get_or, take, Some, None, Option}
use Rattle.disk.specs.Meaning.{Blocks, block, is_live, block_size, Whole}
use Rattle.card.specs.declared.Update.{Update}
use Rattle.card.specs.Layout.{slots, homes_from, highest, log_block, header_end, start_end, homes_in, bytes_on, end_on, start_on, update_on, latest}
use Rattle.model.specs.declared.Round.{Round}
use Rattle.model.specs.Card.{Ready}
use Rattle.model.specs.Log.{Log}

abbrev pub absent : Update
absent = record { home = 0; bytes = [] }

-- an update is on its way to a live data block
pub record Good (d : Blocks) (u : Update) : Type 0 where
  pub low : homes_from ≤ u.home
  pub high : u.home < length d
  pub alive : is_live (block d u.home) ≡ true
  pub full : length u.bytes ≡ block_size

-- the update at position p
abbrev pub at_position : ℕ → List Update → ℕ → Update
at_position start us p = get_or us (p - start) absent

-- the positions of a log that has n updates
pub record InOrder (start end frozen n : ℕ) : Type 0 where
  pub start_end : start ≤ end
  pub end_frozen : end ≤ frozen
  pub frozen_last : frozen ≤ start + n
  pub room : n ≤ slots
  pub top : start + n ≤ highest

-- the card has what is durable
pub record OnCard (start end : ℕ) (us : List Update) (homes : List ℕ) (d : Blocks) : Type 0 where
  pub whole : Whole d
  pub ready : Ready d
  pub zeros_end : (i : ℕ) → header_end ≤ i → i < block_size → get_or (bytes_on d 0) i 0 ≡ 0
  pub zeros_start : (i : ℕ) → start_end ≤ i → i < block_size → get_or (bytes_on d 1) i 0 ≡ 0
  pub at_start : start ≡ start_on d
  pub at_end : end ≡ end_on d
  pub at_homes : homes ≡ homes_in (bytes_on d 0)
  pub live : (p : ℕ) → start ≤ p → p < end → at_position start us p ≡ update_on d p

-- a logger's round: the log blocks from end up to next have their bytes
pub record Logs (start end frozen : ℕ) (us : List Update) (d : Blocks) (r : Round) : Type 0 where
  pub from : end ≤ r.next
  pub upto : r.next ≤ r.target
  pub some : end < r.target
  pub below : r.target ≤ frozen
  pub logged : (p : ℕ) → end ≤ p → p < r.next → bytes_on d (log_block p) ≡ (at_position start us p).bytes

-- an installer's round: what is installed so far is there
pub record Installs (start end : ℕ) (us : List Update) (d : Blocks) (r : Round) : Type 0 where
  pub from : start ≤ r.next
  pub upto : r.next ≤ r.target
  pub some : start < r.target
  pub below : r.target ≤ end
  pub home : (b : ℕ) → homes_from ≤ b → latest (take (r.next - start) us) b (block d b) ≡ block d b

-- of the round that runs, if any
abbrev pub IfSome : Option Round → (Round → Type 0) → Type 0
IfSome None P = Unit {0}
IfSome (Some r) P = P r

abbrev pub AllGood : List Update → Blocks → Type 0
AllGood us d = (k : ℕ) → k < length us → Good d (get_or us k absent)

pub record Kept (l : Log) (d : Blocks) : Type 0 where
  pub order : InOrder l.start l.end l.frozen (length l.updates)
  pub card : OnCard l.start l.end l.updates l.homes d
  pub good : AllGood l.updates d
  pub logging : IfSome l.logging (Logs l.start l.end l.frozen l.updates d)
  pub installing : IfSome l.installing (Installs l.start l.end l.updates d)
