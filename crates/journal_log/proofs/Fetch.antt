-- What a fetch tells of a card.
use Rattle.std.proofs.Common.{◌≡◌, ℕ, ◌<◌, ◌≤◌, Bool, true, false, cond, not, List, map, length, Some, None, Ok, Err, sym, refl, ap, ◌∙◌, arith}
use Rattle.std.specs.List.{range_with_len}
use Rattle.std.proofs.lemmas.Bool.{lt-leb, le-leb}
use Rattle.disk.specs.declared.fault.DiskFault.{DiskFault}
use Rattle.disk.specs.declared.fault.DiskFault.TheVariants.{Dead as DeadBlock}
use Rattle.disk.specs.Tests.{first_of}
use Rattle.disk.specs.Meaning.{Blocks, block, is_live, block_size, refusal}
use Rattle.disk.proofs.Refusals.{inside}
use Rattle.card.specs.Layout.{homes_from, bytes_on}
use Rattle.model.specs.declared.LogFault.{LogFault}
use Rattle.model.specs.declared.LogFault.TheVariants.{Small, Dead}
use Rattle.model.specs.Outcomes.{passed}
use Rattle.model.specs.Log.{size_tests, dead_test, card_tests}
use Rattle.model.proofs.Tests.{past, first_from, value_ok, value_err}
use Rattle.model.specs.Card.{Ready}
use Rattle.model.proofs.Card.{ready_card}
use Rattle.journal_log.specs.View.{fetched, CardChecked}

dead_only : (t : Bool) (b : ℕ) (f : DiskFault) → cond (not t) (Some (DeadBlock b)) None ≡ Some f → (t ≡ false) × (f ≡ DeadBlock b)
dead_only true b f e = let z : ◌≡◌ {A = ℕ} 0 1 = cc in absurd (omega arith)
dead_only false b f e = (refl, cc)

-- within the disk only a dead block is refused
pub fetch_dead : (d : Blocks) (b : ℕ) (f : DiskFault) → b < length d → Err f ≡ fetched d b → (is_live (block d b) ≡ false) × (f ≡ DeadBlock b)
fetch_dead d b f h e = dead_only (is_live (block d b)) b f (sym (inside d b block_size h refl) ∙ value_err (refusal d b block_size) (bytes_on d b) f e)

live_only : (t : Bool) (b : ℕ) → cond (not t) (Some (DeadBlock b)) None ≡ None → t ≡ true
live_only true b e = refl
live_only false b e = let z : ◌≡◌ {A = ℕ} 0 1 = cc in absurd (omega arith)

pub fetch_live : (d : Blocks) (b : ℕ) (bs : List ℕ) → b < length d → Ok bs ≡ fetched d b → (is_live (block d b) ≡ true) × (bs ≡ bytes_on d b)
fetch_live d b bs h e =
    let v = value_ok (refusal d b block_size) (bytes_on d b) bs e in
    (live_only (is_live (block d b)) b (sym (inside d b block_size h refl) ∙ v.0), v.1)

size_passed : (d : Blocks) → homes_from < length d → first_of (size_tests d) ≡ None
size_passed d h = ap (λ t. cond t (Some Small) None) (lt-leb (length d) homes_from h)

-- an answer to the check of a card, and what it tells
refused : (d : Blocks) (f : LogFault) → first_of (card_tests d) ≡ Some f → CardChecked d (Err f)
refused d f e = record { answer = sym (ap passed e); known = e }

pub card_small : (d : Blocks) → length d ≤ homes_from → CardChecked d (Err Small)
unfolding card_tests
card_small d h = refused d Small (ap (λ t. cond t (Some Small) (first_of (map (dead_test d) (range_with_len 0 homes_from)))) (le-leb (length d) homes_from h))

-- the first dead block is the place of the refusal
pub card_dead : (d : Blocks) (b : ℕ) (f : DiskFault) → homes_from < length d → b < homes_from → ((k : ℕ) → k < b → is_live (block d k) ≡ true) → Err f ≡ fetched d b → CardChecked d (Err (Dead f))
unfolding card_tests
card_dead d b f large h before e =
    let g = fetch_dead d b f (omega arith) e in
    refused d (Dead f)
    (past (size_tests d) (map (dead_test d) (range_with_len 0 homes_from)) (size_passed d large) ∙
    first_from (dead_test d) 0 homes_from b (omega arith) (omega arith) (λ q l m. ap not (before q m)) (ap not g.0) ∙
    ap (λ x. Some (Dead x)) (sym g.1))

pub card_passed : (d : Blocks) → Ready d → CardChecked d (Ok tt)
card_passed d r = let e = ready_card d r in record { answer = sym (ap passed e); known = (e, r) }
