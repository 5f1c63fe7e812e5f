-- The table after one more object is held.
use Rattle.std.proofs.Common.{◌≡◌, ℕ, suc, ◌+◌, Bool, true, false, cond, List, [], ◌∷◌, ◌++◌, length, Some, sym, refl, ap, ◌∙◌, ⊎_elim, arith}
use Rattle.std.proofs.lemmas.List.{length_push}
use Rattle.std.proofs.lemmas.Bool.{cases_Bool, eq-eqb, cond_both}
use Rattle.std.proofs.lemmas.Bool.Decides.{nat_tests}
use Rattle.object.specs.declared.Place.{Place}
use Rattle.object.specs.Objects.{same}
use Rattle.object.specs.Tables.{Held, value_in, is_in, holding}
use Rattle.object.specs.Laws.{places_of, SamePlace, HeldNow, HeldStill, HeldInOrder, HeldCount, HeldFound}

abbrev place : ℕ → ℕ → ℕ → Place
place b f s = record { block = b; offset = f; size = s }

same_is : (o p : Place) → same o p ≡ true → o ≡ p
same_is o p e =
    let b : o.block ≡ p.block = grind (arith, nat_tests) in
    let f : o.offset ≡ p.offset = grind (arith, nat_tests) in
    let s : o.size ≡ p.size = grind (arith, nat_tests) in
    let e : place o.block o.offset o.size ≡ place p.block p.offset p.size = cc in
    e

same_self : (o : Place) → same o o ≡ true
same_self o = rw (eq-eqb o.block o.block refl, eq-eqb o.offset o.offset refl, eq-eqb o.size o.size refl)

pub same_place : SamePlace
same_place o p = (same_is o p, λ e. ap (same o) (sym e) ∙ same_self o)

cond_under : {A B : Type 0} (f : A → B) (t : Bool) (x y : A) → f (cond t x y) ≡ cond t (f x) (f y)
cond_under f true x y = refl
cond_under f false x y = refl

-- a table whose first object is this one, or is not
module _ (g : Held) (gs : List Held) (h : Held) where
  first_or_later : (P : List Held → Type 0) → (g.place ≡ h.place → P (h ∷ gs)) → (same g.place h.place ≡ false → P (g ∷ holding gs h)) → P (holding (g ∷ gs) h)
  first_or_later P first later = cond_both (same g.place h.place) (h ∷ gs) (g ∷ holding gs h) P (λ e. first (same_is g.place h.place e)) later

pub held_now : HeldNow
held_now [] h = rw (same_self h.place)
held_now (g ∷ gs) h = first_or_later g gs h (λ hs. value_in hs h.place ≡ Some h.bytes) (λ e. rw (same_self h.place)) (λ e. rw e (held_now gs h))

pub held_still : HeldStill
held_still [] h o n = rw n
held_still (g ∷ gs) h o n = first_or_later g gs h (λ hs. value_in hs o ≡ value_in (g ∷ gs) o)
    (λ e. rw (n, ap (λ (p : Place). same p o) e ∙ n))
    (λ e. ap (cond (same g.place o) (Some g.bytes)) (held_still gs h o n))

pub held_in_order : HeldInOrder
held_in_order [] h = refl
held_in_order (g ∷ gs) h = first_or_later g gs h (λ hs. places_of hs ≡ cond (is_in (g ∷ gs) h.place) (places_of (g ∷ gs)) (places_of (g ∷ gs) ++ h.place ∷ []))
    (λ e. rw ((same_place g.place h.place).1 e) (ap (λ (p : Place). p ∷ places_of gs) (sym e)))
    (λ e. rw e (ap (λ ps. g.place ∷ ps) (held_in_order gs h) ∙ cond_under (λ ps. g.place ∷ ps) (is_in gs h.place) (places_of gs) (places_of gs ++ h.place ∷ [])))

length_places : (hs : List Held) → length (places_of hs) ≡ length hs
length_places [] = refl
length_places (h ∷ hs) = ap suc (length_places hs)

-- a table has as many objects as places
pub held_count : HeldCount
held_count hs h =
    sym (length_places (holding hs h)) ∙
    ap length (held_in_order hs h) ∙
    cond_under length (is_in hs h.place) (places_of hs) (places_of hs ++ h.place ∷ []) ∙
    ap (cond (is_in hs h.place) (length (places_of hs))) (length_push (places_of hs) h.place) ∙
    ap (λ (n : ℕ). cond (is_in hs h.place) n (n + 1)) (length_places hs)

pub held_found : HeldFound
held_found [] o = refl
held_found (h ∷ hs) o = ⊎_elim (λ e. rw e) (λ e. rw e (held_found hs o)) (cases_Bool (same h.place o))
