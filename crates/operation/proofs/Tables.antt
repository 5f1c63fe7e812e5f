-- What a table answers, as searches of its objects.
use Rattle.std.proofs.Common.{◌≡◌, ℕ, zero, suc, ◌<◌, ◌≤◌, Bool, true, false, cond, not, ◌||◌, eqb, leb, List, [], ◌∷◌, ◌++◌, length, take, get_or, set, Some, None, Option, sym, refl, ap, subst, ◌∙◌, ⊎_elim, arith}
use Rattle.std.specs.List.{list_any, find, position, position_or_len}
use Rattle.std.specs.Option.{option_map}
use Rattle.std.proofs.lemmas.Bool.{cases_Bool, ltb-false, leb-false, ne_eqb, eq-eqb, cases_eq}
use Rattle.std.proofs.lemmas.List.Quantifiers.{position-Some}
use Rattle.disk.specs.Tests.{both, either}
use Rattle.object.specs.declared.Place.{Place}
use Rattle.object.specs.Objects.{same, overlap}
use Rattle.object.specs.Tables.{Held, value_in, is_in, holding, clashes}
use Rattle.object.proofs.Tables.{same_place}
use Rattle.model.specs.Operations.{among}
use Rattle.operation.specs.Held.{Filled, blank}
use Rattle.operation.proofs.Padding.{put_at}

either_or : (a b : Bool) → either a b ≡ (a || b)
either_or true b = refl
either_or false b = refl

pub in_any : (hs : List Held) (o : Place) → is_in hs o ≡ list_any (λ h. same h.place o) hs
in_any [] o = refl
in_any (h ∷ hs) o = either_or (same h.place o) (is_in hs o) ∙ ap (λ b. same h.place o || b) (in_any hs o)

clash_any : (hs : List Held) (o : Place) → clashes hs o ≡ list_any (λ h. both (overlap h.place o) (not (eqb h.place.size o.size))) hs
clash_any [] o = refl
clash_any (h ∷ hs) o =
    let t = both (overlap h.place o) (not (eqb h.place.size o.size)) in
    either_or t (clashes hs o) ∙ ap (λ b. t || b) (clash_any hs o)

bytes_if : (t : Bool) (h : Held) (x : Option Held) → option_map (λ (g : Held). g.bytes) (cond t (Some h) x) ≡ cond t (Some h.bytes) (option_map (λ (g : Held). g.bytes) x)
bytes_if true h x = refl
bytes_if false h x = refl

value_find : (hs : List Held) (o : Place) → value_in hs o ≡ option_map (λ (h : Held). h.bytes) (find (λ h. same h.place o) hs)
value_find [] o = refl
value_find (h ∷ hs) o = ap (cond (same h.place o) (Some h.bytes)) (value_find hs o) ∙ sym (bytes_if (same h.place o) h _)

none_told : (t : Bool) (n : ℕ) → cond t (Some n) None ≡ None → t ≡ false
none_told true n e = absurd (let z : ◌≡◌ {A = ℕ} 0 1 = cc in omega arith)
none_told false n e = refl

module _ (h : Held) where
  held_at : (hs : List Held) (i : ℕ) (d : Held) → i < length hs → same (get_or hs i d).place h.place ≡ true → ((k : ℕ) → k < i → same (get_or hs k d).place h.place ≡ false) → holding hs h ≡ set hs i h
  held_at [] i d l here before = absurd (omega arith)
  held_at (g ∷ gs) zero d l here before = rw here refl
  held_at (g ∷ gs) (suc i) d l here before =
      rw (before 0 (omega arith)) (ap (λ hs. g ∷ hs) (held_at gs i d (omega arith) here (λ k b. before (suc k) (omega arith))))

  -- the object stands at the first position where it is held ..
  pub held_first : (hs : List Held) (i : ℕ) → position (λ (g : Held). same g.place h.place) hs ≡ Some i → (i < length hs) × (holding hs h ≡ set hs i h)
  held_first hs i e =
      let p = position-Some (λ (g : Held). same g.place h.place) hs i h e in
      (p.0, held_at hs i h p.0 p.1 p.2)

  last_at : (hs : List Held) → length hs ≤ position_or_len (λ (g : Held). same g.place h.place) hs → (is_in hs h.place ≡ false) × (holding hs h ≡ hs ++ h ∷ [])
  last_at [] l = (refl, refl)
  last_at (g ∷ gs) l = ⊎_elim
      (λ (e : same g.place h.place ≡ true). let m = rw e at l in absurd (omega arith))
      (λ (e : same g.place h.place ≡ false). let m = rw e at l in let r = last_at gs (omega arith) in rw e (r.0, ap (λ hs. g ∷ hs) r.1))
      (cases_Bool (same g.place h.place))

  -- .. and else comes at the end
  pub held_last : (hs : List Held) → position (λ (g : Held). same g.place h.place) hs ≡ None → (is_in hs h.place ≡ false) × (holding hs h ≡ hs ++ h ∷ [])
  held_last hs e = last_at hs (ltb-false _ _ (none_told _ _ e))

eqb_swap : (a b : ℕ) → eqb a b ≡ eqb b a
eqb_swap a b = ⊎_elim (λ e. eq-eqb a b e ∙ sym (eq-eqb b a (sym e))) (λ n. ne_eqb a b n ∙ sym (ne_eqb b a (λ e. n (sym e)))) (cases_eq a b)

pub among_any : (b : ℕ) (bs : List ℕ) → among b bs ≡ list_any (λ c. eqb c b) bs
among_any b [] = refl
among_any b (c ∷ cs) = either_or (eqb b c) (among b cs) ∙ ap (λ t. t || among b cs) (eqb_swap b c) ∙ ap (λ t. eqb c b || t) (among_any b cs)

found : {X : Type 0} (p : X → Bool) (xs : List X) (x : X) → find p xs ≡ Some x → p x ≡ true
found p [] x e = absurd (let z : ◌≡◌ {A = ℕ} 0 1 = cc in omega arith)
found p (y ∷ ys) x e = ⊎_elim
    (λ (t : p y ≡ true). let f : Some y ≡ Some x = rw t at e in let g : y ≡ x = cc in subst (λ z. p z ≡ true) g t)
    (λ (t : p y ≡ false). found p ys x (rw t at e))
    (cases_Bool (p y))

-- what searches of the entries tell, where the entries are the objects held
module _ (hs es : List Held) (is : es ≡ hs) where
  pub clash_told : (o : Place) (r : Bool) → r ≡ list_any (λ h. both (overlap h.place o) (not (eqb h.place.size o.size))) es → clashes hs o ≡ r
  clash_told o r e = clash_any hs o ∙ sym (e ∙ ap (list_any (λ h. both (overlap h.place o) (not (eqb h.place.size o.size)))) is)

  pub value_told : (o : Place) (r : Option Held) → r ≡ find (λ h. same h.place o) es → option_map (λ (h : Held). h.bytes) r ≡ value_in hs o
  value_told o r e = ap (option_map (λ (h : Held). h.bytes)) (e ∙ ap (find (λ h. same h.place o)) is) ∙ sym (value_find hs o)

  pub value_place : (o : Place) (h : Held) → Some h ≡ find (λ h. same h.place o) es → h.place ≡ o
  value_place o h e = (same_place h.place o).0 (found (λ h. same h.place o) es h (sym e))

  pub place_told : (h : Held) (o : Place) (r : Option ℕ) → o ≡ h.place → r ≡ position (λ g. same g.place o) es → position (λ g. same g.place h.place) hs ≡ r
  place_told h o r e f = sym (f ∙ ap (position (λ g. same g.place o)) is ∙ ap (λ (q : Place). position (λ g. same g.place q) hs) e)

-- the entry at the position that was found is the object's, and one of those held
pub at_found : (hs xs : List Held) (n : ℕ) → Filled 8 blank n xs → take n xs ≡ hs → (o : Place) (i : ℕ) → position (λ (g : Held). same g.place o) hs ≡ Some i → (d : Held) → (i < n) × ((get_or xs i d).place ≡ o)
at_found hs xs n f is o i e d =
    let p = position-Some (λ (g : Held). same g.place o) hs i d e in
    let v = ap length is in
    let c = f.count in
    let q = p.0 in
    let l : i < n = omega arith in
    (l, ap (λ (g : Held). g.place) (put_at 8 blank n xs f i d l ∙ ap (λ hs. get_or hs i d) is) ∙ (same_place (get_or hs i d).place o).0 p.1)

both_true : (a : Bool) → both a true ≡ false → a ≡ false
both_true true e = e
both_true false e = refl

-- a table that is not too full for an object has room for it, if it is not held
pub room_left : (hs : List Held) (o : Place) → is_in hs o ≡ false → both (leb 8 (length hs)) (not (is_in hs o)) ≡ false → length hs < 8
room_left hs o a e = leb-false 8 (length hs) (both_true (leb 8 (length hs)) (rw a at e))

-- an object that is not held comes at the end
pub holding_absent : (h : Held) (hs : List Held) → is_in hs h.place ≡ false → holding hs h ≡ hs ++ h ∷ []
holding_absent h [] a = refl
holding_absent h (g ∷ gs) a = ⊎_elim
    (λ (e : same g.place h.place ≡ true). absurd (let z : true ≡ false = rw e at a in let y : ◌≡◌ {A = ℕ} 0 1 = cc in omega arith))
    (λ (e : same g.place h.place ≡ false). rw e (ap (λ hs. g ∷ hs) (holding_absent h gs (rw e at a))))
    (cases_Bool (same g.place h.place))
