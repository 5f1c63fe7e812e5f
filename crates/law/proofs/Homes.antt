-- Home numbers by slot.
use Rattle.std.proofs.Common.{◌≡◌, ℕ, zero, suc, ◌+◌, ◌*◌, ◌^◌, ◌<◌, ◌≤◌, List, [], ◌∷◌, length, get_or, take, drop, set, sym, refl, ap, ◌∙◌, subst, ⊎_elim, mod-lt, pow-suc, arith, length-set, length-take, get_or-set_other, get_or-set_same}
use Rattle.std.proofs.lemmas.Bool.{cases_eq, cases_lt}
use Rattle.std.proofs.lemmas.List.{set_past}
use Rattle.std.proofs.lemmas.Nat.{mod_below}
use Rattle.std.proofs.lemmas.List.FromFn.{get_or-map-range_with_len, length-map-range_with_len}
use Rattle.card.specs.declared.Update.{Update}
use Rattle.card.specs.Bytes.{from_bytes}
use Rattle.card.specs.Layout.{slots, slot, home_in, homes_in}
use Rattle.card.proofs.Slots.{slots_differ}
use Rattle.model.specs.Steps.{with_homes}
use Rattle.law.proofs.Invariant.{absent}

-- k bytes give a number below 256 ^ k
from_bytes_lt : (k : ℕ) (bs : List ℕ) → length bs ≤ k → from_bytes bs < 256 ^ k
from_bytes_lt zero [] l = omega arith
from_bytes_lt zero (b ∷ bs) l = absurd (omega arith)
from_bytes_lt (suc k) [] l = let e = from_bytes_lt k [] (omega arith) in let p = pow-suc 256 k in omega arith
from_bytes_lt (suc k) (b ∷ bs) l = let e = from_bytes_lt k bs (omega arith) in let p = pow-suc 256 k in let m = mod_below b 256 (omega arith) in omega arith

pub home_small : (bs : List ℕ) (s : ℕ) → home_in bs s < 2 ^ 32
home_small bs s = from_bytes_lt 4 (take 4 (drop (8 + 4 * s) bs)) (let l = length-take 4 (drop (8 + 4 * s) bs) in omega arith)

pub length_homes_in : (bs : List ℕ) → length (homes_in bs) ≡ slots
length_homes_in bs = length-map-range_with_len (home_in bs) 0 slots

pub homes_in_at : (bs : List ℕ) (s : ℕ) → s < slots → get_or (homes_in bs) s 0 ≡ home_in bs s
homes_in_at bs s l = get_or-map-range_with_len (home_in bs) 0 slots s s 0 l (omega arith)

-- ## With the homes of some positions

pub length_with_homes : (hs : List ℕ) (p : ℕ) (us : List Update) → length (with_homes hs p us) ≡ length hs
length_with_homes hs p [] = refl
length_with_homes hs p (u ∷ us) = length_with_homes (set hs (slot p) u.home) (p + 1) us ∙ length-set hs (slot p) u.home

-- slots of other positions keep theirs
pub with_homes_other : (hs : List ℕ) (p : ℕ) (us : List Update) (s : ℕ) → ((k : ℕ) → k < length us → slot (p + k) ≡ s → ⊥) → get_or (with_homes hs p us) s 0 ≡ get_or hs s 0
with_homes_other hs p [] s apart = refl
with_homes_other hs p (u ∷ us) s apart =
    with_homes_other (set hs (slot p) u.home) (p + 1) us s (λ k l e. apart (suc k) (omega arith) (ap slot (let z : p + suc k ≡ p + 1 + k = omega arith in z) ∙ e)) ∙
    get_or-set_other hs (slot p) s u.home 0 (λ e. apart 0 (omega arith) (ap slot (let z : p + 0 ≡ p = omega arith in z) ∙ sym e))

-- a slot of one of them has its home
pub with_homes_here : (hs : List ℕ) (p : ℕ) (us : List Update) → length hs ≡ slots → length us ≤ slots → (k : ℕ) → k < length us → get_or (with_homes hs p us) (slot (p + k)) 0 ≡ (get_or us k absent).home
with_homes_here hs p [] l few k lt = absurd (omega arith)
with_homes_here hs p (u ∷ us) l few zero lt =
    ap (λ n. get_or (with_homes (set hs (slot p) u.home) (p + 1) us) (slot n) 0) (let z : p + 0 ≡ p = omega arith in z) ∙
    with_homes_other (set hs (slot p) u.home) (p + 1) us (slot p) (λ k a e. slots_differ slots p (p + 1 + k) (omega arith) (omega arith) (sym e)) ∙
    get_or-set_same hs (slot p) u.home 0 (let m = mod-lt p {m = slots} (omega arith) in omega arith)
with_homes_here hs p (u ∷ us) l few (suc k) lt =
    ap (λ n. get_or (with_homes (set hs (slot p) u.home) (p + 1) us) (slot n) 0) (let z : p + suc k ≡ p + 1 + k = omega arith in z) ∙
    with_homes_here (set hs (slot p) u.home) (p + 1) us (length-set hs (slot p) u.home ∙ l) (omega arith) k (omega arith)

one : (hs : List ℕ) (i x : ℕ) → ((s : ℕ) → get_or hs s 0 < 2 ^ 32) → x < 2 ^ 32 → (s : ℕ) → get_or (set hs i x) s 0 < 2 ^ 32
one hs i x old small s = ⊎_elim
    (λ same. ⊎_elim
    (λ (h : i < length hs). let e = get_or-set_same hs i x 0 h in subst (λ (n : ℕ). get_or (set hs i x) n 0 < 2 ^ 32) (sym same) (omega arith))
    (λ out. let e = ap (λ (xs : List ℕ). get_or xs s 0) (set_past hs i x out) in let b = old s in omega arith)
    (cases_lt i (length hs)))
    (λ ne. let e = get_or-set_other hs i s x 0 ne in let b = old s in omega arith)
    (cases_eq s i)

-- each fits four bytes, where those before and the new ones do
pub with_homes_small : (hs : List ℕ) (p : ℕ) (us : List Update) → ((s : ℕ) → get_or hs s 0 < 2 ^ 32) → ((k : ℕ) → k < length us → (get_or us k absent).home < 2 ^ 32) → (s : ℕ) → get_or (with_homes hs p us) s 0 < 2 ^ 32
with_homes_small hs p [] old new s = old s
with_homes_small hs p (u ∷ us) old new s = with_homes_small (set hs (slot p) u.home) (p + 1) us (λ t. one hs (slot p) u.home old (new 0 (omega arith)) t) (λ k l. new (suc k) (omega arith)) s
