-- The sizes that are allowed: one bit, and the powers of two from 8 to 4096.
use Rattle.std.proofs.Common.{◌≡◌, ℕ, zero, suc, ◌+◌, ◌*◌, ◌/◌, ◌%◌, ◌^◌, ◌<◌, ◌≤◌, true, eqb, refl, ap, ◌∙◌, inl, inr, ⊎_elim, le_refl, pow-suc, arith, pow_mono}
use lib.Count.{ones, ones_in, ones_step, ones_cat}
use Rattle.std.proofs.lemmas.Nat.{pow_below, pow_pos, ones-le}
use Rattle.std.proofs.lemmas.Bool.{cases_eq, cases_lt, cond_both, eq-eqb, le-leb}
use Rattle.std.proofs.lemmas.Bool.Decides.{nat_tests}
use Rattle.object.specs.Objects.{allowed}
use Rattle.object.specs.Laws.{SizeOf, SizesAllowed}

-- d is a bound to count down from
no_ones : (d n : ℕ) → n ≤ d → ones n ≡ 0 → n ≡ 0
no_ones zero n h e = omega arith
no_ones (suc d) n h e =
    let s = ones_step n in
    let z = no_ones d (n / 2) (omega arith) (omega arith) in
    omega arith

one_one : (d n : ℕ) → n ≤ d → ones n ≡ 1 → (k : ℕ) × (n ≡ 2 ^ k)
one_one zero n h e = absurd (let z = ones-le 0 n (omega arith) in omega arith)
one_one (suc d) n h e =
    let s = ones_step n in
    ⊎_elim
    (λ (z : n % 2 ≡ 0). let r = one_one d (n / 2) (omega arith) (omega arith) in (suc r.0, let p = pow-suc 2 r.0 in omega arith))
    (λ (z : n % 2 ≡ 0 → ⊥). let r = no_ones d (n / 2) (omega arith) (let m : n % 2 < 2 = omega arith in omega arith) in (0, omega arith))
    (cases_eq (n % 2) 0)

ones_pow : (k : ℕ) → ones (2 ^ k) ≡ 1
unfolding ones ones_in
ones_pow k = ap ones (let e : 2 ^ k ≡ 1 * 2 ^ k + 0 = omega arith in e) ∙ ones_cat k 1 0 (pow_pos k)

pub size_of : (s : ℕ) → allowed s ≡ true → SizeOf s
size_of s e = ⊎_elim inl
    (λ n.
    let o : ones s ≡ 1 = grind (arith, nat_tests) in
    let low : 8 ≤ s = grind (arith, nat_tests) in
    let high : s ≤ 4096 = grind (arith, nat_tests) in
    let r = one_one s s (le_refl s) o in
    inr (
      r.0,
      ⊎_elim (λ h. absurd (let p = pow_below r.0 3 h in omega arith)) (λ h. h) (cases_lt r.0 3),
      ⊎_elim (λ h. absurd (let p = pow_below 12 r.0 h in omega arith)) (λ h. h) (cases_lt 12 r.0),
      r.1,
    ))
    (cases_eq s 1)

allowed_from : (s : ℕ) → SizeOf s → allowed s ≡ true
allowed_from s (inl e) = rw (eq-eqb s 1 e)
allowed_from s (inr (k, low, high, e)) =
    let o : ones s ≡ 1 = ap ones e ∙ ones_pow k in
    let a : 8 ≤ s = let p = pow_mono low in omega arith in
    let b : s ≤ 4096 = let p = pow_mono high in omega arith in
    rw (eq-eqb (ones s) 1 o, le-leb 8 s a, le-leb s 4096 b) (cond_both (eqb s 1) true true (λ t. t ≡ true) (λ _. refl) (λ _. refl))

pub sizes_allowed : SizesAllowed
sizes_allowed s = (size_of s, allowed_from s)
