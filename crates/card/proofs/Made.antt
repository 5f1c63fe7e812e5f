-- Arrays that `array::from_fn` makes, by a closure that changes no capture.
use Rattle.std.proofs.Common.{◌≡◌, ℕ, zero, suc, ◌+◌, ◌<◌, ◌≤◌, List, map, get_or, refl, sym, subst, ⊎_elim, arith}
use Rattle.std.specs.Fn.{Mut, Called}
use Rattle.std.specs.Array.{IsFromFnResult, IsFromFnResultFrom}
use Rattle.std.specs.List.{range_with_len}
use Rattle.std.proofs.lemmas.List.FromFn.{fill_by_all}
use Rattle.std.proofs.lemmas.Bool.{cases_eq}

module _ {F B : Type 0} (g : Mut F (ℕ × Unit {0}) B) (f : F) (n : ℕ) where
  -- what each call says of the value at its index
  module _ (P : ℕ → B → Type 0) (gives : (i : ℕ) (y : B) (q : F) → i < n → Called g f (i, tt) y q → P i y × (q ≡ f)) where
    from_there : (ys : List B) (d : B) (p : F) (i m : ℕ) → p ≡ f → i + m ≤ n → IsFromFnResultFrom g p ys i m → (k : ℕ) → i ≤ k → k < i + m → P k (get_or ys k d)
    from_there ys d p i zero e r t k a b = absurd (omega (arith, a, b))
    from_there ys d p i (suc m) e r t k a b =
        let here = gives i t.1 t.0 (omega (arith, r)) (subst (λ s. Called g s (i, tt) t.1 t.0) e t.3) in
        ⊎_elim
        (λ same. subst (λ (j : ℕ). P j (get_or ys j d)) (sym same) (subst (P i) (sym (t.2.1 d)) here.0))
        (λ ne. from_there ys d t.0 (i + 1) m here.1 (omega (arith, r)) t.4 k (omega (arith, a, ne)) (omega (arith, b)))
        (cases_eq k i)

    pub made_at : (ys : List B) (d : B) → IsFromFnResult g f ys n → (k : ℕ) → k < n → P k (get_or ys k d)
    made_at ys d r k lt = from_there ys d f 0 n refl (omega arith) r.each k (omega arith) (omega (arith, lt))

  pub made : (h : ℕ → B) (ys : List B) → IsFromFnResult g f ys n → ((i : ℕ) (y : B) (q : F) → i < n → Called g f (i, tt) y q → (y ≡ h i) × (q ≡ f)) → ys ≡ map h (range_with_len 0 n)
  made h ys r gives = fill_by_all h ys n (h 0) r.long (made_at (λ i y. y ≡ h i) gives ys (h 0) r)
