-- Format after a power cut in format.
use Rattle.std.proofs.Common.{◌≡◌, ℕ, [], ◌∷◌, set, Some, Ok, sym, refl, ap, ◌∙◌, ⊎_elim, arith, set-set}
use lib.Seq.{set_comm}
use Rattle.std.specs.Option.{option_map}
use Rattle.disk.specs.Meaning.{Blocks}
use Rattle.model.specs.declared.Fault.TheVariants.{Log as InLog}
use Rattle.model.specs.Outcomes.{decided}
use Rattle.model.specs.Log.{card_tests, zeros, half_formatted, formatted}
use Rattle.model.specs.Journal.{shut, format, FormatAgain}
use Rattle.model.proofs.Tests.{first_mapped}
use Rattle.model.specs.Card.{Ready}
use Rattle.model.proofs.Card.{ready_card, ready_written, ready_set}

pub half_is : (d : Blocks) → Ready d → half_formatted d ≡ set d 0 (Some zeros)
half_is d r = ready_written d r 0 (omega arith) zeros refl

pub formatted_is : (d : Blocks) → Ready d → formatted d ≡ set (set d 0 (Some zeros)) 1 (Some zeros)
formatted_is d r =
    ap (λ (x : Blocks). Rattle.disk.specs.Meaning.written x 1 zeros) (half_is d r) ∙
    ready_written (set d 0 (Some zeros)) (ready_set d 0 zeros r (omega arith)) 1 (omega arith) zeros refl

-- the outcome on a card that format takes
pub format_granted : (d : Blocks) → Ready d → format shut d ≡ record { answer = Ok 0; wrote = 0 ∷ 1 ∷ []; buffer = []; state = shut; disk = formatted d }
format_granted d r = ap (λ o. decided o [] shut d (record { answer = Ok 0; wrote = 0 ∷ 1 ∷ []; buffer = []; state = shut; disk = formatted d })) (first_mapped InLog (card_tests d) ∙ ap (option_map InLog) (ready_card d r))

-- formatted once more
again : (d left : Blocks) → Ready d → Ready left → formatted left ≡ formatted d → format shut left ≡ format shut d
again d left r s e = format_granted left s ∙ ap (λ x. record { answer = Ok 0; wrote = 0 ∷ 1 ∷ []; buffer = []; state = shut; disk = x }) e ∙ sym (format_granted d r)

pub format_again : (d : Blocks) → Ready d → FormatAgain d
format_again d r left cut =
    let z = Some zeros in
    let half = ready_set d 0 zeros r (omega arith) in
    let full = ready_set (set d 0 z) 1 zeros half (omega arith) in
    ⊎_elim (λ same. ap (format shut) same)
    (λ c. ⊎_elim
    (λ e. ap (format shut) (e ∙ half_is d r) ∙ again d (set d 0 z) r half
    (formatted_is (set d 0 z) half ∙ ap (λ (x : Blocks). set x 1 z) (set-set d 0 z z) ∙ sym (formatted_is d r)))
    (λ e. ap (format shut) (e ∙ formatted_is d r) ∙ again d (set (set d 0 z) 1 z) r full
    (formatted_is (set (set d 0 z) 1 z) full ∙
    ap (λ (x : Blocks). set x 1 z) (set_comm (set d 0 z) 1 0 z z (λ e. let q : ◌≡◌ {A = ℕ} 1 0 = e in omega arith) ∙ ap (λ (x : Blocks). set x 1 z) (set-set d 0 z z)) ∙
    set-set (set d 0 z) 1 z z ∙ sym (formatted_is d r)))
    c)
    cut
