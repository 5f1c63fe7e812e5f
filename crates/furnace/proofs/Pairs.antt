-- Pairs one after another: place i has part i % 2 of pair i / 2.
use Rattle.std.proofs.Common.{◌≡◌, ℕ, ◌+◌, ◌*◌, ◌/◌, ◌%◌, ap, ◌∙◌, arith}

module _ (f : ℕ → ℕ → ℕ) (k : ℕ) where
  pub first : f (2 * k / 2) (2 * k % 2) ≡ f k 0
  first = ap (λ j. f j (2 * k % 2)) (let e : 2 * k / 2 ≡ k = omega arith in e) ∙ ap (f k) (let e : 2 * k % 2 ≡ 0 = omega arith in e)

  pub second : f ((2 * k + 1) / 2) ((2 * k + 1) % 2) ≡ f k 1
  second = ap (λ j. f j ((2 * k + 1) % 2)) (let e : (2 * k + 1) / 2 ≡ k = omega arith in e) ∙ ap (f k) (let e : (2 * k + 1) % 2 ≡ 1 = omega arith in e)
