-- Which of a list of tests applies first.
use Rattle.std.proofs.Common.{◌≡◌, ℕ, zero, suc, ◌+◌, ◌<◌, ◌≤◌, true, false, cond, List, [], ◌∷◌, ◌++◌, map, Some, None, Ok, Err, Option, sym, refl, ap, ◌∙◌, subst, ⊎_elim, arith}
use Rattle.std.specs.List.{range_with_len}
use Rattle.std.specs.Option.{option_map}
use Rattle.std.proofs.lemmas.Bool.{cases_eq}
use Rattle.disk.specs.Tests.{Test, first_of}
use Rattle.model.specs.Outcomes.{value_unless}

-- ## One list after another

pub past : {F : Type 0} (xs ys : List (Test F)) → first_of xs ≡ None → first_of (xs ++ ys) ≡ first_of ys
past [] ys e = refl
past ((true, f) ∷ xs) ys e = let z : ◌≡◌ {A = ℕ} 0 1 = cc in absurd (omega arith)
past ((false, f) ∷ xs) ys e = past xs ys e

pub stops : {F : Type 0} (xs ys : List (Test F)) (f : F) → first_of xs ≡ Some f → first_of (xs ++ ys) ≡ Some f
stops [] ys f e = let z : ◌≡◌ {A = ℕ} 0 1 = cc in absurd (omega arith)
stops ((true, g) ∷ xs) ys f e = e
stops ((false, g) ∷ xs) ys f e = stops xs ys f e

pub first_mapped : {F G : Type 0} (g : F → G) (xs : List (Test F)) → first_of (map (λ t. (t.0, g t.1)) xs) ≡ option_map g (first_of xs)
first_mapped g [] = refl
first_mapped g ((true, f) ∷ xs) = refl
first_mapped g ((false, f) ∷ xs) = first_mapped g xs

-- none of the tests applies
pub none_first : {F : Type 0} (t : Test F) (ts : List (Test F)) → first_of (t ∷ ts) ≡ None → (t.0 ≡ false) × (first_of ts ≡ None)
none_first (true, f) ts e = let z : ◌≡◌ {A = ℕ} 0 1 = cc in absurd (omega arith)
none_first (false, f) ts e = (refl, e)

-- ## The answer that goes with it

pub value_ok : {F X : Type 0} (o : Option F) (x y : X) → Ok y ≡ value_unless o x → (o ≡ None) × (y ≡ x)
value_ok None x y e = (refl, cc)
value_ok (Some f) x y e = let z : ◌≡◌ {A = ℕ} 0 1 = cc in absurd (omega arith)

pub value_err : {F X : Type 0} (o : Option F) (x : X) (f : F) → Err f ≡ value_unless o x → o ≡ Some f
value_err None x f e = let z : ◌≡◌ {A = ℕ} 0 1 = cc in absurd (omega arith)
value_err (Some g) x f e = cc

-- ## A list after a list that passed, or that did not

module _ {F X : Type 0} (all xs ys : List (Test F)) (v : X) (so_far : first_of all ≡ first_of (xs ++ ys)) where
  pub goes_on : (x : X) → Ok x ≡ value_unless (first_of xs) v → (first_of all ≡ first_of ys) × (x ≡ v)
  goes_on x e = let o = value_ok (first_of xs) v x e in (so_far ∙ past xs ys o.0, o.1)

  pub halts : {Y : Type 0} (y : Y) (f : F) → Err f ≡ value_unless (first_of xs) v → Err f ≡ value_unless (first_of all) y
  halts y f e = sym (ap (λ o. value_unless o y) (so_far ∙ stops xs ys f (value_err (first_of xs) v f e)))

-- none of either list applies
pub none_both : {F : Type 0} (xs ys : List (Test F)) → first_of (xs ++ ys) ≡ None → (first_of xs ≡ None) × (first_of ys ≡ None)
none_both [] ys e = (refl, e)
none_both ((true, f) ∷ xs) ys e = let z : ◌≡◌ {A = ℕ} 0 1 = cc in absurd (omega arith)
none_both ((false, f) ∷ xs) ys e = none_both xs ys e

-- ## Tests by number, from a on

module _ {F : Type 0} (t : ℕ → Test F) where
  pub first_next : (a n : ℕ) → (t a).0 ≡ false → first_of (map t (range_with_len a (suc n))) ≡ first_of (map t (range_with_len (a + 1) n))
  first_next a n e = ap (λ b. cond b (Some (t a).1) (first_of (map t (range_with_len (a + 1) n)))) e

  pub first_here : (a n : ℕ) → (t a).0 ≡ true → first_of (map t (range_with_len a (suc n))) ≡ Some (t a).1
  first_here a n e = ap (λ b. cond b (Some (t a).1) (first_of (map t (range_with_len (a + 1) n)))) e

  pub none_from : (a n : ℕ) → ((p : ℕ) → a ≤ p → p < a + n → (t p).0 ≡ false) → first_of (map t (range_with_len a n)) ≡ None
  none_from a zero h = refl
  none_from a (suc n) h = first_next a n (h a (omega arith) (omega arith)) ∙ none_from (a + 1) n (λ p l m. h p (omega arith) (omega arith))

  pub first_from : (a n p : ℕ) → a ≤ p → p < a + n → ((q : ℕ) → a ≤ q → q < p → (t q).0 ≡ false) → (t p).0 ≡ true → first_of (map t (range_with_len a n)) ≡ Some (t p).1
  first_from a zero p l m h e = absurd (omega arith)
  first_from a (suc n) p l m h e = ⊎_elim
      (λ same. subst (λ (q : ℕ). first_of (map t (range_with_len q (suc n))) ≡ Some (t p).1) same (first_here p n e))
      (λ ne. first_next a n (h a (omega arith) (omega arith)) ∙ first_from (a + 1) n p (omega arith) (omega arith) (λ q x y. h q (omega arith) y) e)
      (cases_eq p a)

  pub none_each : (a n : ℕ) → first_of (map t (range_with_len a n)) ≡ None → (p : ℕ) → a ≤ p → p < a + n → (t p).0 ≡ false
  none_each a zero e p l m = absurd (omega arith)
  none_each a (suc n) e p l m =
      let at : (t a).0 ≡ false = (none_first (t a) (map t (range_with_len (a + 1) n)) e).0 in
      ⊎_elim
      (λ same. subst (λ (q : ℕ). (t q).0 ≡ false) (sym same) at)
      (λ ne. none_each (a + 1) n (none_first (t a) (map t (range_with_len (a + 1) n)) e).1 p (omega arith) (omega arith))
      (cases_eq p a)

-- lists by number that agree at each
pub map_counting_same : {X : Type 0} (f g : ℕ → X) (a n : ℕ) → ((p : ℕ) → a ≤ p → p < a + n → f p ≡ g p) → map f (range_with_len a n) ≡ map g (range_with_len a n)
map_counting_same f g a zero h = refl
map_counting_same f g a (suc n) h =
    ap (λ x. x ∷ map f (range_with_len (a + 1) n)) (h a (omega arith) (omega arith)) ∙
    ap (λ xs. g a ∷ xs) (map_counting_same f g (a + 1) n (λ p l m. h p (omega arith) (omega arith)))
