-- One bit of a byte.
use Rattle.std.proofs.Common.{◌≡◌, ℕ, ◌+◌, ◌-◌, ◌*◌, ◌/◌, ◌%◌, ◌^◌, ◌<◌, ◌≤◌, sym, ap, ◌∙◌, subst, ⊎_elim, div-lt_iff_lt-mul, add-mul, arith}
use lib.Pow.{mod-mod-pow}
use Rattle.std.proofs.lemmas.Nat.{pow_pos, pow-add, shr_split, shr-shr, shr_high, shr_below, mod_low, mod_below, field_of, mul-le}
use Rattle.std.proofs.lemmas.Bool.{cases_lt}
use Rattle.object.specs.Objects.{bit_at, with_bit}

-- a bit is one of the number's lower bits, or of what is above them
lower_bit : (n d m : ℕ) → n % 2 ^ (d + 1 + m) / 2 ^ m % 2 ≡ bit_at n m
lower_bit n d m = ap (λ x. x % 2) (field_of n (d + 1) m) ∙ mod-mod-pow (n / 2 ^ m) d 1

upper_bit : (n j m : ℕ) → n / 2 ^ (j + (1 + m)) ≡ n / 2 ^ j / 2 / 2 ^ m
upper_bit n j m = sym (shr-shr n j (1 + m)) ∙ sym (shr-shr (n / 2 ^ j) 1 m)

module _ (b j : ℕ) where
  pub bit_in : bit_at b j * 2 ^ j ≤ b
  bit_in =
      let m = mul-le (b / 2 ^ j % 2) (2 ^ j) (b / 2 ^ j) (2 ^ j) (omega arith) (omega arith) in
      let s = shr_split b j in
      omega arith

  pub with_own : with_bit b j (bit_at b j) ≡ b
  with_own = let h = bit_in in omega arith

  module _ (x : ℕ) (h : x < 2) where
    with_parts : with_bit b j x ≡ (b / 2 ^ j - b / 2 ^ j % 2 + x) * 2 ^ j + b % 2 ^ j
    with_parts =
        let q = b / 2 ^ j in
        let s = shr_split b j in
        let m = add-mul (q - q % 2) x (2 ^ j) in
        let k = add-mul (q - q % 2) (q % 2) (2 ^ j) in
        let e : (q - q % 2 + q % 2) * 2 ^ j ≡ q * 2 ^ j = ap (λ n. n * 2 ^ j) (let i : q - q % 2 + q % 2 ≡ q = omega arith in i) in
        omega arith

    with_above : with_bit b j x / 2 ^ j ≡ b / 2 ^ j - b / 2 ^ j % 2 + x
    with_above = ap (λ n. n / 2 ^ j) with_parts ∙ shr_high (b / 2 ^ j - b / 2 ^ j % 2 + x) j (b % 2 ^ j) (mod_below b (2 ^ j) (pow_pos j))

    with_below : with_bit b j x % 2 ^ j ≡ b % 2 ^ j
    with_below = ap (λ n. n % 2 ^ j) with_parts ∙ mod_low (b / 2 ^ j - b / 2 ^ j % 2 + x) j (b % 2 ^ j) (mod_below b (2 ^ j) (pow_pos j))

    pub bit_here : bit_at (with_bit b j x) j ≡ x
    bit_here = ap (λ n. n % 2) with_above ∙ omega arith

    bit_above : (m : ℕ) → j < m → bit_at (with_bit b j x) m ≡ bit_at b m
    bit_above m l =
        let d = m - j - 1 in
        let e : with_bit b j x / 2 ^ j / 2 ≡ b / 2 ^ j / 2 = ap (λ n. n / 2) with_above ∙ omega arith in
        subst (λ (i : ℕ). bit_at (with_bit b j x) i ≡ bit_at b i) (let i : j + (1 + d) ≡ m = omega arith in i)
        (ap (λ n. n % 2) (upper_bit (with_bit b j x) j d ∙ ap (λ n. n / 2 ^ d) e ∙ sym (upper_bit b j d)))

    bit_below : (m : ℕ) → m < j → bit_at (with_bit b j x) m ≡ bit_at b m
    bit_below m l =
        let d = j - m - 1 in
        let e : with_bit b j x % 2 ^ (d + 1 + m) ≡ b % 2 ^ (d + 1 + m) = subst (λ (i : ℕ). with_bit b j x % 2 ^ i ≡ b % 2 ^ i) (let i : j ≡ d + 1 + m = omega arith in i) with_below in
        sym (lower_bit (with_bit b j x) d m) ∙ ap (λ n. n / 2 ^ m % 2) e ∙ lower_bit b d m

    pub bit_other : (m : ℕ) → (m ≡ j → ⊥) → bit_at (with_bit b j x) m ≡ bit_at b m
    bit_other m n = ⊎_elim (bit_below m) (λ l. bit_above m (omega arith)) (cases_lt m j)

    pub with_byte : b < 256 → j < 8 → with_bit b j x < 256
    with_byte small l =
        let d = 7 - j in
        let w : 2 ^ (d + 1 + j) ≡ 256 = ap (λ (i : ℕ). 2 ^ i) (let i : d + 1 + j ≡ 8 = omega arith in i) in
        let q : b / 2 ^ j < 2 ^ (d + 1) = shr_below b (d + 1) j (omega arith) in
        let t = pow-add 2 d 1 in
        let u : with_bit b j x / 2 ^ j < 2 ^ (d + 1) = let e = with_above in omega arith in
        let v = (div-lt_iff_lt-mul (pow_pos j)).0 u in
        let p = pow-add 2 (d + 1) j in
        omega arith
