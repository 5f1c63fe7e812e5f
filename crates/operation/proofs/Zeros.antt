-- The zeros at a number's low end say which powers of two divide it.
use Rattle.std.proofs.Common.{◌≡◌, ℕ, zero, suc, ◌+◌, ◌*◌, ◌/◌, ◌%◌, ◌^◌, ◌<◌, ◌≤◌, true, eqb, leb, sym, refl, ap, ◌∙◌, inl, inr, add-one, arith}
use lib.Count.{count_trailing_zeros, under}
use Rattle.std.proofs.lemmas.Nat.{mod-pow-add, mod_low, pow_pos, pow_below}
use Rattle.std.proofs.lemmas.Bool.{eq-eqb, ne_eqb, leb-true, leb-false}
use Rattle.std.proofs.lemmas.Bool.Decides.{nat_tests}
use Rattle.object.specs.Objects.{allowed}
use Rattle.object.proofs.Sizes.{size_of}

-- the lowest digit, and the rest of the j + 1 lowest
low_digits : (n j : ℕ) → n % 2 ^ suc j ≡ (n / 2 % 2 ^ j) * 2 + n % 2
low_digits n j = ap (λ (k : ℕ). n % 2 ^ k) (sym (add-one j)) ∙ mod-pow-add n j 1

-- d is the lowest digit, and z counts the zeros of the rest
at_digit : (n j d z : ℕ) → n % 2 ≡ d → leb j z ≡ eqb (n / 2 % 2 ^ j) 0 → leb (suc j) (under d z) ≡ eqb (n % 2 ^ suc j) 0
at_digit n j zero z e h = let l = low_digits n j in grind (arith, nat_tests)
at_digit n j (suc d) z e h = let l = low_digits n j in grind (arith, nat_tests)

pub zeros_divide : (k j n : ℕ) → j ≤ k → leb j (count_trailing_zeros k n) ≡ eqb (n % 2 ^ j) 0
unfolding count_trailing_zeros
zeros_divide k zero n h = grind (arith, nat_tests)
zeros_divide zero (suc j) n h = absurd (omega arith)
zeros_divide (suc k) (suc j) n h = at_digit n j (n % 2) (count_trailing_zeros k (n / 2)) refl (zeros_divide k j (n / 2) (omega arith))

-- a power of two has as many zeros as its exponent
zeros_of_power : (k j : ℕ) → j < k → count_trailing_zeros k (2 ^ j) ≡ j
zeros_of_power k j h =
    let a = zeros_divide k j (2 ^ j) (omega arith) in
    let b = zeros_divide k (suc j) (2 ^ j) h in
    let whole : 2 ^ j % 2 ^ j ≡ 0 = ap (λ n. n % 2 ^ j) (let e : 2 ^ j ≡ 1 * 2 ^ j + 0 = omega arith in e) ∙ mod_low 1 j 0 (pow_pos j) in
    let small : 2 ^ j % 2 ^ suc j ≡ 2 ^ j = ap (λ n. n % 2 ^ suc j) (let e : 2 ^ j ≡ 0 * 2 ^ suc j + 2 ^ j = omega arith in e) ∙ mod_low 0 (suc j) (2 ^ j) (pow_below j (suc j) (omega arith)) in
    let low : j ≤ count_trailing_zeros k (2 ^ j) = leb-true j _ (a ∙ eq-eqb _ 0 whole) in
    let high : count_trailing_zeros k (2 ^ j) < suc j = leb-false (suc j) _ (b ∙ ne_eqb _ 0 (λ z. let p = pow_pos j in omega arith)) in
    omega arith

by_power : (x s j : ℕ) → j < 32 → s ≡ 2 ^ j → leb (count_trailing_zeros 32 s) (count_trailing_zeros 32 x) ≡ eqb (x % s) 0
by_power x s j h e =
    ap (λ (n : ℕ). leb n (count_trailing_zeros 32 x)) (ap (count_trailing_zeros 32) e ∙ zeros_of_power 32 j h) ∙
    zeros_divide 32 j x (omega arith) ∙
    ap (λ (n : ℕ). eqb (x % n) 0) (sym e)

-- an allowed size divides a number that has at least its zeros
pub size_divides : (x s : ℕ) → allowed s ≡ true → leb (count_trailing_zeros 32 s) (count_trailing_zeros 32 x) ≡ eqb (x % s) 0
size_divides x s a = elim (size_of s a) [ inl e ↦ by_power x s 0 (omega arith) e | inr (k, low, high, e) ↦ by_power x s k (omega arith) e ]
