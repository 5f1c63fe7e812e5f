-- The bytes of numbers, two of each.
use Rattle.std.proofs.Common.{◌≡◌, ℕ, ◌+◌, ◌*◌, ◌/◌, ◌^◌, ◌<◌, List, length, slice_index, sym, ◌∙◌, subst, arith}
use Rattle.std.specs.Int.{to_le_bytes, w16}
use Rattle.std.proofs.lemmas.List.FromFn.{fill_by_all}
use Rattle.furnace.specs.Words.{byte_of, word_in, words_in}
use Rattle.furnace.proofs.Pairs.{first, second}

-- byte i, and that its number has two bytes
abbrev pub IsByte : List ℕ → ℕ → ℕ → Type 0
IsByte ws i b = (b ≡ byte_of ws i) × (slice_index ws (i / 2) < 2 ^ 16)

abbrev part : List ℕ → ℕ → ℕ → ℕ
part ws k j = slice_index (to_le_bytes w16 (slice_index ws k)) j

module _ (ws bs : List ℕ) (n : ℕ) (long : length ws ≡ n) (bytes : (i : ℕ) → i < 2 * n → IsByte ws i (slice_index bs i)) where
  word_at : (k : ℕ) → k < n → word_in bs k ≡ slice_index ws k
  word_at k lt =
      let low = (bytes (2 * k) (omega (arith, lt))).0 ∙ first (part ws) k in
      let high = (bytes (2 * k + 1) (omega (arith, lt))).0 ∙ second (part ws) k in
      let small = subst (λ (j : ℕ). slice_index ws j < 2 ^ 16) (let e : 2 * k / 2 ≡ k = omega arith in e) (bytes (2 * k) (omega (arith, lt))).1 in
      omega (arith, low, high, small)

  pub words_back : words_in bs n ≡ ws
  words_back = sym (fill_by_all (word_in bs) ws n 0 long (λ k lt. sym (word_at k lt)))
