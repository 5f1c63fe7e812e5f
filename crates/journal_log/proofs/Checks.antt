-- The tests of opening, one list at a time.
use Rattle.std.proofs.Common.{◌≡◌, ℕ, ◌+◌, ◌-◌, ◌<◌, ◌≤◌, Bool, true, false, not, is_le, is_lt, nat_cmp, ◌&&◌, ltb, leb, map, length, Some, Ok, Err, Option, sym, ap, ◌∙◌, subst, ⊎_elim, arith}
use Rattle.std.specs.List.{range_with_len}
use Rattle.std.proofs.lemmas.Bool.Decides.{nat_tests}
use Rattle.std.proofs.lemmas.Bool.{cases_eq}
use Rattle.disk.specs.Tests.{Test, first_of, either}
use Rattle.disk.specs.Meaning.{Blocks}
use Rattle.card.specs.Layout.{homes_from, slot, home_on}
use Rattle.model.specs.declared.LogFault.{LogFault}
use Rattle.model.specs.Outcomes.{passed}
use Rattle.model.specs.Log.{range_test}
use Rattle.model.proofs.Tests.{none_from, first_from}

-- ## Tests of each live position

module _ (t : ℕ → Test LogFault) (start end : ℕ) where
  abbrev tests : Option LogFault
  tests = first_of (map t (range_with_len start (end - start)))

  pub all_passed : (p : ℕ) → end ≤ p → ((q : ℕ) → start ≤ q → q < p → (t q).0 ≡ false) → Ok tt ≡ passed tests
  all_passed p l h = sym (ap passed (none_from t start (end - start) (λ q a b. h q a (omega arith))))

  pub refused_at : (p : ℕ) (f : LogFault) → start ≤ p → p < end → ((q : ℕ) → start ≤ q → q < p → (t q).0 ≡ false) → (t p).0 ≡ true → f ≡ (t p).1 → Err f ≡ passed tests
  refused_at p f l m h e is = sym (ap passed (first_from t start (end - start) p l (omega arith) h e ∙ ap Some (sym is)))

  -- one position further
  pub passed_more : (p : ℕ) → ((q : ℕ) → start ≤ q → q < p → (t q).0 ≡ false) → (t p).0 ≡ false → (q : ℕ) → start ≤ q → q < p + 1 → (t q).0 ≡ false
  passed_more p h e q l m = ⊎_elim (λ (same : q ≡ p). subst (λ (k : ℕ). (t k).0 ≡ false) (sym same) e) (λ ne. h q l (omega arith)) (cases_eq q p)

-- whether a home number is out of the data blocks' range, where `contains` says whether it is in
out_of : (a n x : ℕ) → either (ltb x a) (leb n x) ≡ not (is_le (nat_cmp a x) && is_lt (nat_cmp x n))
out_of a n x = grind (arith, nat_tests)

pub range_told : (d : Blocks) (p x n : ℕ) → x ≡ home_on d (slot p) → n ≡ length d → (t u : Bool) → t ≡ (is_le (nat_cmp homes_from x) && is_lt (nat_cmp x n)) → not t ≡ u → (range_test d p).0 ≡ u
range_told d p x n is long t u e f =
    ap (λ (y : ℕ). either (ltb y homes_from) (leb (length d) y)) (sym is) ∙
    ap (λ (m : ℕ). either (ltb x homes_from) (leb m x)) (sym long) ∙
    out_of homes_from n x ∙ ap not (sym e) ∙ f
