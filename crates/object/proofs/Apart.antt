-- Objects with no bit in common.
use Rattle.std.proofs.Common.{◌≡◌, ℕ, ◌+◌, ◌*◌, ◌/◌, ◌<◌, ◌≤◌, true, false, ◌⊎◌, List, [], ◌∷◌, length, get_or, take, drop, sym, ap, ◌∙◌, inl, inr, ⊎_elim, mul-le-mul_left, mul-add, arith, length-drop, length-take}
use Rattle.std.proofs.lemmas.List.{get_or-take, get_or-drop, ext_get_or}
use Rattle.std.proofs.lemmas.Bool.{cases_lt, cases_order, eq-eqb, lt-ltb}
use Rattle.std.proofs.lemmas.Bool.Decides.{nat_tests}
use Rattle.object.specs.declared.Place.{Place}
use Rattle.object.specs.Objects.{part, laid, overlap}
use Rattle.object.specs.Laws.{Placed, Value, WholeBlock, Within, OthersKept, Apart, OverlapShares}
use Rattle.object.proofs.Spans.{WholeBytes, bit_or_bytes, times}
use Rattle.object.proofs.Objects.{part_bit, part_bytes, byte_kept, laid_whole, bits_kept}

-- one ends before the other begins
abbrev Aside : Place → Place → Type 0
Aside o p = (p.offset + p.size ≤ o.offset) ⊎ (o.offset + o.size ≤ p.offset)

aside : (o p : Place) → o.block ≡ p.block → overlap o p ≡ false → Aside o p
aside o p e n = ⊎_elim
    (λ (h : o.offset < p.offset + p.size). ⊎_elim (λ (l : p.offset < o.offset + o.size). absurd (grind (arith, nat_tests))) inr (cases_lt p.offset (o.offset + o.size)))
    inl
    (cases_lt o.offset (p.offset + p.size))

not_over : (o p : Place) → (o.block ≡ p.block → Aside o p) → overlap o p ≡ false
not_over o p h = grind (arith, nat_tests)

abbrev Shared : Place → Place → Type 0
Shared o p = (o.block ≡ p.block) × ((k : ℕ) × Within o k × Within p k)

-- the later of the two offsets is in both
shared : (o p : Place) → 1 ≤ o.size → 1 ≤ p.size → overlap o p ≡ true → Shared o p
shared o p a b e =
    let k : o.block ≡ p.block = grind (arith, nat_tests) in
    let l : o.offset < p.offset + p.size = grind (arith, nat_tests) in
    let m : p.offset < o.offset + o.size = grind (arith, nat_tests) in (
      k,
      ⊎_elim
          (λ (h : o.offset < p.offset). (p.offset, (omega arith, omega arith), (omega arith, omega arith)))
          (λ (h : p.offset ≤ o.offset). (o.offset, (omega arith, omega arith), (omega arith, omega arith)))
          (cases_lt o.offset p.offset),
    )

over : (o p : Place) → Shared o p → overlap o p ≡ true
over o p (e, (k, (i, j), (l, m))) = rw (eq-eqb o.block p.block e, lt-ltb o.offset (p.offset + p.size) (omega arith), lt-ltb p.offset (o.offset + o.size) (omega arith))

pub overlap_shares : OverlapShares
overlap_shares o p a b = (shared o p a b, over o p)

-- of two multiples, the one below ends before the other
multiples : (s x y : ℕ) → s * x < s * y → s * x + s ≤ s * y
multiples s x y h = ⊎_elim
    (λ (l : x < y). let m : s * (x + 1) ≤ s * y = mul-le-mul_left s (omega arith) in let a = mul-add s x 1 in omega arith)
    (λ (l : y ≤ x). absurd (let m : s * y ≤ s * x = mul-le-mul_left s l in omega arith))
    (cases_lt x y)

before : (o p : Place) → Placed o → Placed p → o.size ≡ p.size → o.offset < p.offset → o.offset + o.size ≤ p.offset
before o p a b e l =
    let f = times o a in
    let g : p.offset ≡ o.size * (p.offset / p.size) = times p b ∙ ap (λ (s : ℕ). s * (p.offset / p.size)) (sym e) in
    let m = multiples o.size (o.offset / o.size) (p.offset / p.size) (omega arith) in
    omega arith

pub apart : Apart
apart o p a b e n = not_over o p
    (λ k. elim (cases_order o.offset p.offset) [
      | inl s ↦ absurd (grind (arith, nat_tests))
      | inr (inl l) ↦ inr (before o p a b e l)
      | inr (inr l) ↦ inl (before p o b a (sym e) l)
    ])

module _ (o p : Place) (v bs : List ℕ) (a : Placed o) (s : Aside o p) (x : Value o v) (b : WholeBlock bs) where
  bit_stays : p.size ≡ 1 → part p (laid o v bs) ≡ part p bs
  bit_stays e =
      part_bit p (laid o v bs) e ∙
      ap (λ c. c ∷ []) (bits_kept o v bs a x b p.offset (λ h. ⊎_elim (λ (l : p.offset + p.size ≤ o.offset). omega arith) (λ (l : o.offset + o.size ≤ p.offset). omega arith) s)) ∙
      sym (part_bit p bs e)

  length_part : (n k : ℕ) → length (take n (drop k (laid o v bs))) ≡ length (take n (drop k bs))
  length_part n k = let w = laid_whole o v bs a x b in let l : length (laid o v bs) ≡ length bs = w.long ∙ sym b.long in simp (length-take, length-drop, l)

  byte_stays : WholeBytes p → (i : ℕ) → i < p.size / 8 → get_or (laid o v bs) (p.offset / 8 + i) 0 ≡ get_or bs (p.offset / 8 + i) 0
  byte_stays w i h = byte_kept o v bs a x b (p.offset / 8 + i) (⊎_elim
      (λ (l : p.offset + p.size ≤ o.offset). inl (omega (arith, w.at, w.long)))
      (λ (l : o.offset + o.size ≤ p.offset). inr (omega (arith, w.at, w.long)))
      s)

  bytes_stay : WholeBytes p → part p (laid o v bs) ≡ part p bs
  bytes_stay w =
      let n = p.size / 8 in
      let k = p.offset / 8 in
      let at : (y : List ℕ) (i : ℕ) → i < n → get_or (take n (drop k y)) i 0 ≡ get_or y (k + i) 0 = λ y i h. get_or-take n (drop k y) i 0 h ∙ get_or-drop k y i 0 in
      part_bytes p (laid o v bs) w ∙
      ext_get_or 0 (take n (drop k (laid o v bs))) (take n (drop k bs)) (length_part n k)
      (λ i h. let l : i < n = omega (arith, length-take n (drop k (laid o v bs))) in at (laid o v bs) i l ∙ byte_stays w i l ∙ sym (at bs i l)) ∙
      sym (part_bytes p bs w)

pub others_kept : OthersKept
others_kept o p v bs a c e n x b = let s = aside o p e n in ⊎_elim (bit_stays o p v bs a s x b) (bytes_stay o p v bs a s x b) (bit_or_bytes p c)
