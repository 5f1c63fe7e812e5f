-- Firings in numbers.
use Rattle.std.proofs.Common.{◌≡◌, ℕ, ◌+◌, ◌*◌, ◌/◌, ◌%◌, ◌<◌, List, [], ◌∷◌, length, map, slice_index, slice_index_or, sym, ap, ◌∙◌, arith}
use Rattle.std.specs.List.{range_with_len}
use Rattle.std.proofs.lemmas.List.FromFn.{fill_by_all, get_or-map-range_with_len}
use Rattle.furnace.specs.declared.schedule.Firing.{Firing}
use Rattle.furnace.specs.Words.{word_in, words_in}
use Rattle.furnace.specs.Settings.{cold, firing_in, firings_in}
use Rattle.furnace.proofs.Pairs.{first, second}

abbrev part : List Firing → ℕ → ℕ → ℕ
part fs k j = let f = slice_index_or fs k cold in slice_index (f.celsius ∷ f.minutes ∷ []) j

-- number i of firings, two of each
abbrev pub number_of : List Firing → ℕ → ℕ
number_of fs i = part fs (i / 2) (i % 2)

module _ (fs : List Firing) (bs : List ℕ) (long : length fs ≡ 8) (same : words_in bs 16 ≡ map (number_of fs) (range_with_len 0 16)) where
  number_at : (i : ℕ) → i < 16 → word_in bs i ≡ number_of fs i
  number_at i lt =
      sym (get_or-map-range_with_len (word_in bs) 0 16 i i 0 lt (omega arith)) ∙ ap (λ ns. slice_index ns i) same ∙
      get_or-map-range_with_len (number_of fs) 0 16 i i 0 lt (omega arith)

  firing_at : (k : ℕ) → k < 8 → slice_index_or fs k cold ≡ firing_in bs k
  firing_at k lt =
      let f = slice_index_or fs k cold in
      let celsius = number_at (2 * k) (omega (arith, lt)) ∙ first (part fs) k in
      let minutes = number_at (2 * k + 1) (omega (arith, lt)) ∙ second (part fs) k in
      sym (ap (λ x. record { celsius = x; minutes = word_in bs (2 * k + 1) }) celsius ∙ ap (λ x. record { celsius = f.celsius; minutes = x }) minutes)

  pub firings_back : firings_in bs ≡ fs
  firings_back = sym (fill_by_all (firing_in bs) fs 8 cold long firing_at)
