-- An object laid into a block and taken out of it.
use Rattle.std.proofs.Common.{◌≡◌, ℕ, ◌+◌, ◌-◌, ◌*◌, ◌/◌, ◌%◌, ◌<◌, ◌≤◌, ◌⊎◌, List, [], ◌∷◌, length, get_or, take, drop, set, sym, refl, ap, ◌∙◌, inl, inr, ⊎_elim, arith, length-drop, length-set, length-take}
use Rattle.std.proofs.lemmas.List.{get_or-take, get_or-drop, get_or-set_same, get_or-set_other, set-get_or}
use Rattle.std.proofs.lemmas.Bool.{eq-eqb, cases_eq, cases_lt}
use Rattle.object.specs.declared.Place.{Place}
use Rattle.object.specs.Objects.{width, bit_at, with_bit, part, laid}
use Rattle.object.specs.Laws.{bit_of, Placed, Value, WholeBlock, Within, LaidWhole, PartValue, BitsLaid, BitsKept, BitsTaken, PartOfLaid, LaidAgain}
use Rattle.object.proofs.Bits.{with_own, with_byte, bit_here, bit_other}
use Rattle.object.proofs.Bytes.{bytes_one, bytes_append, bytes_take, bytes_drop, bytes_set, over, length_over, byte_in, byte_out, taken_over, over_own}
use Rattle.object.proofs.Spans.{WholeBytes, bit_or_bytes}

-- the definitions at one bit, and at whole bytes
module _ (o : Place) (bs : List ℕ) where
  pub part_bit : o.size ≡ 1 → part o bs ≡ bit_of bs o.offset ∷ []
  part_bit e = rw (eq-eqb o.size 1 e)

  pub part_bytes : WholeBytes o → part o bs ≡ take (o.size / 8) (drop (o.offset / 8) bs)
  part_bytes w = rw w.many

  module _ (v : List ℕ) where
    pub laid_bit : o.size ≡ 1 → laid o v bs ≡ set bs (o.offset / 8) (with_bit (get_or bs (o.offset / 8) 0) (o.offset % 8) (get_or v 0 0))
    laid_bit e = rw (eq-eqb o.size 1 e)

    pub laid_bytes : WholeBytes o → laid o v bs ≡ over (o.offset / 8) (o.size / 8) v bs
    laid_bytes w = rw w.many

pub width_bytes : (o : Place) → WholeBytes o → width o.size ≡ o.size / 8
width_bytes o w = rw w.many

one_byte : (v : List ℕ) → length v ≡ 1 → get_or v 0 0 ∷ [] ≡ v
one_byte [] l = absurd (omega arith)
one_byte (c ∷ []) l = refl
one_byte (c ∷ d ∷ v) l = absurd (omega arith)

pub set_one : (v : List ℕ) (x : ℕ) → length v ≡ 1 → set v 0 x ≡ x ∷ []
set_one v x l = ap (λ w. set w 0 x) (sym (one_byte v l))

module _ (o : Place) (v bs : List ℕ) (p : Placed o) (x : Value o v) (b : WholeBlock bs) where
  -- one bit
  module _ (e : o.size ≡ 1) where
    in_block_lem : o.offset / 8 < length bs
    in_block_lem = omega (arith, p.in_block, b.long)

    byte_set : get_or (laid o v bs) (o.offset / 8) 0 ≡ with_bit (get_or bs (o.offset / 8) 0) (o.offset % 8) (get_or v 0 0)
    byte_set = ap (λ l. get_or l (o.offset / 8) 0) (laid_bit o bs v e) ∙ get_or-set_same bs (o.offset / 8) _ 0 in_block_lem

    byte_apart : (i : ℕ) → (i ≡ o.offset / 8 → ⊥) → get_or (laid o v bs) i 0 ≡ get_or bs i 0
    byte_apart i n = ap (λ l. get_or l i 0) (laid_bit o bs v e) ∙ get_or-set_other bs (o.offset / 8) i _ 0 n

    own_bit : bit_of (laid o v bs) o.offset ≡ get_or v 0 0
    own_bit = ap (λ n. bit_at n (o.offset % 8)) byte_set ∙ bit_here (get_or bs (o.offset / 8) 0) (o.offset % 8) (get_or v 0 0) (x.bit e)

    bit_laid : (k : ℕ) → Within o k → bit_of (laid o v bs) k ≡ bit_of v (k - o.offset)
    bit_laid k h =
        let i : o.offset ≡ k = omega arith in
        let z : 0 ≡ k - o.offset = omega arith in
        let s = x.bit e in
        let f : get_or v 0 0 ≡ bit_at (get_or v 0 0) 0 = omega arith in
        ap (bit_of (laid o v bs)) (sym i) ∙ own_bit ∙ f ∙ ap (bit_of v) z

    bit_kept : (k : ℕ) → (k ≡ o.offset → ⊥) → bit_of (laid o v bs) k ≡ bit_of bs k
    bit_kept k n = ⊎_elim
        (λ (s : k / 8 ≡ o.offset / 8).
        ap (λ (i : ℕ). bit_at (get_or (laid o v bs) i 0) (k % 8)) s ∙
        ap (λ c. bit_at c (k % 8)) byte_set ∙
        bit_other (get_or bs (o.offset / 8) 0) (o.offset % 8) (get_or v 0 0) (x.bit e) (k % 8) (λ m. n (omega arith)) ∙
        ap (λ (i : ℕ). bit_at (get_or bs i 0) (k % 8)) (sym s))
        (λ d. ap (λ c. bit_at c (k % 8)) (byte_apart (k / 8) d))
        (cases_eq (k / 8) (o.offset / 8))

    bit_whole : WholeBlock (laid o v bs)
    bit_whole = rw (laid_bit o bs v e) (record {
      long = length-set bs (o.offset / 8) _ ∙ b.long;
      bytes = bytes_set bs (o.offset / 8) _ in_block_lem (with_byte (get_or bs (o.offset / 8) 0) (o.offset % 8) (get_or v 0 0) (x.bit e) (b.bytes (o.offset / 8)) (omega arith)) b.bytes;
    })

    bit_again : part o (laid o v bs) ≡ v
    bit_again = part_bit o (laid o v bs) e ∙ ap (λ c. c ∷ []) own_bit ∙ one_byte v (x.long ∙ ap width e)

  -- whole bytes
  module _ (w : WholeBytes o) where
    long_v : length v ≡ o.size / 8
    long_v = x.long ∙ width_bytes o w

    fits : o.offset / 8 + o.size / 8 ≤ length bs
    fits = omega (arith, w.at, w.long, w.fits, b.long)

    bytes_in_lem : (i : ℕ) → o.offset / 8 ≤ i → i < o.offset / 8 + o.size / 8 → get_or (laid o v bs) i 0 ≡ get_or v (i - o.offset / 8) 0
    bytes_in_lem i h l = ap (λ m. get_or m i 0) (laid_bytes o bs v w) ∙ byte_in (o.offset / 8) (o.size / 8) v bs long_v fits i h l

    bytes_out : (i : ℕ) → (i < o.offset / 8) ⊎ (o.offset / 8 + o.size / 8 ≤ i) → get_or (laid o v bs) i 0 ≡ get_or bs i 0
    bytes_out i h = ap (λ m. get_or m i 0) (laid_bytes o bs v w) ∙ byte_out (o.offset / 8) (o.size / 8) v bs long_v fits i h

    bytes_laid : (k : ℕ) → Within o k → bit_of (laid o v bs) k ≡ bit_of v (k - o.offset)
    bytes_laid k h =
        let i : k / 8 - o.offset / 8 ≡ (k - o.offset) / 8 = omega (arith, w.at) in
        let j : k % 8 ≡ (k - o.offset) % 8 = omega (arith, w.at) in
        ap (λ c. bit_at c (k % 8)) (bytes_in_lem (k / 8) (omega (arith, w.at)) (omega (arith, w.at, w.long))) ∙
        ap (λ (m : ℕ). bit_at (get_or v m 0) (k % 8)) i ∙
        ap (λ (m : ℕ). bit_at (get_or v ((k - o.offset) / 8) 0) m) j

    bytes_whole : WholeBlock (laid o v bs)
    bytes_whole = rw (laid_bytes o bs v w) (record {
      long = length_over (o.offset / 8) (o.size / 8) v bs long_v fits ∙ b.long;
      bytes = bytes_append _ _ (bytes_take (o.offset / 8) bs b.bytes) (bytes_append v _ x.bytes (bytes_drop (o.offset / 8 + o.size / 8) bs b.bytes));
    })

    bytes_again : part o (laid o v bs) ≡ v
    bytes_again = part_bytes o (laid o v bs) w ∙ ap (λ m. take (o.size / 8) (drop (o.offset / 8) m)) (laid_bytes o bs v w) ∙ taken_over (o.offset / 8) (o.size / 8) v bs long_v fits

    bytes_kept : (k : ℕ) → (Within o k → ⊥) → bit_of (laid o v bs) k ≡ bit_of bs k
    bytes_kept k n = ap (λ c. bit_at c (k % 8)) (bytes_out (k / 8) (⊎_elim
        (λ (h : k < o.offset). inl (omega (arith, w.at)))
        (λ (h : o.offset ≤ k). inr (⊎_elim (λ (l : k < o.offset + o.size). absurd (n (h, l))) (λ (l : o.offset + o.size ≤ k). omega (arith, w.at, w.long)) (cases_lt k (o.offset + o.size))))
        (cases_lt k o.offset)))

  -- a byte that the object has no bit of
  pub byte_kept : (i : ℕ) → (8 * i + 8 ≤ o.offset) ⊎ (o.offset + o.size ≤ 8 * i) → get_or (laid o v bs) i 0 ≡ get_or bs i 0
  byte_kept i h = ⊎_elim
      (λ (e : o.size ≡ 1). byte_apart e i (λ s. ⊎_elim (λ (l : 8 * i + 8 ≤ o.offset). omega arith) (λ (l : o.offset + o.size ≤ 8 * i). omega arith) h))
      (λ w. bytes_out w i (⊎_elim (λ (l : 8 * i + 8 ≤ o.offset). inl (omega (arith, w.at))) (λ (l : o.offset + o.size ≤ 8 * i). inr (omega (arith, w.at, w.long))) h))
      (bit_or_bytes o p)

pub laid_whole : LaidWhole
laid_whole o v bs p x b = ⊎_elim (bit_whole o v bs p x b) (bytes_whole o v bs p x b) (bit_or_bytes o p)

pub bits_laid : BitsLaid
bits_laid o v bs p x b k h = ⊎_elim (λ e. bit_laid o v bs p x b e k h) (λ w. bytes_laid o v bs p x b w k h) (bit_or_bytes o p)

pub bits_kept : BitsKept
bits_kept o v bs p x b k n = ⊎_elim (λ (e : o.size ≡ 1). bit_kept o v bs p x b e k (λ s. n (omega arith, omega arith))) (λ w. bytes_kept o v bs p x b w k n) (bit_or_bytes o p)

pub part_of_laid : PartOfLaid
part_of_laid o v bs p x b = ⊎_elim (bit_again o v bs p x b) (bytes_again o v bs p x b) (bit_or_bytes o p)

module _ (o : Place) (bs : List ℕ) (p : Placed o) (b : WholeBlock bs) where
  length_part : WholeBytes o → length (take (o.size / 8) (drop (o.offset / 8) bs)) ≡ o.size / 8
  length_part w = simp (length-take, length-drop) (omega (arith, w.at, w.long, w.fits, b.long))

  bit_value : o.size ≡ 1 → Value o (part o bs)
  bit_value e = rw (part_bit o bs e) (record {
    long = sym (ap width e);
    bytes = bytes_one (bit_of bs o.offset) (omega arith);
    bit = λ _. omega arith;
  })

  bytes_value : WholeBytes o → Value o (part o bs)
  bytes_value w = rw (part_bytes o bs w) (record {
    long = length_part w ∙ sym (width_bytes o w);
    bytes = bytes_take (o.size / 8) _ (bytes_drop (o.offset / 8) bs b.bytes);
    bit = λ e. absurd (omega (arith, w.long));
  })

  bit_taken : o.size ≡ 1 → (j : ℕ) → j < o.size → bit_of (part o bs) j ≡ bit_of bs (o.offset + j)
  bit_taken e j l =
      let z : j ≡ 0 = omega arith in
      let s : o.offset ≡ o.offset + j = omega arith in
      let f : bit_of bs o.offset / 1 % 2 ≡ bit_of bs o.offset = omega arith in
      ap (bit_of (part o bs)) z ∙ ap (λ m. bit_of m 0) (part_bit o bs e) ∙ f ∙ ap (bit_of bs) s

  bytes_taken : WholeBytes o → (j : ℕ) → j < o.size → bit_of (part o bs) j ≡ bit_of bs (o.offset + j)
  bytes_taken w j l =
      let i : o.offset / 8 + j / 8 ≡ (o.offset + j) / 8 = omega (arith, w.at) in
      let m : j % 8 ≡ (o.offset + j) % 8 = omega (arith, w.at) in
      ap (λ y. bit_of y j) (part_bytes o bs w) ∙
      ap (λ c. bit_at c (j % 8)) (get_or-take (o.size / 8) (drop (o.offset / 8) bs) (j / 8) 0 (omega (arith, w.long)) ∙ get_or-drop (o.offset / 8) bs (j / 8) 0) ∙
      ap (λ (n : ℕ). bit_at (get_or bs n 0) (j % 8)) i ∙
      ap (bit_at (get_or bs ((o.offset + j) / 8) 0)) m

  bit_same : o.size ≡ 1 → laid o (part o bs) bs ≡ bs
  bit_same e =
      laid_bit o bs (part o bs) e ∙
      ap (λ v. set bs (o.offset / 8) (with_bit (get_or bs (o.offset / 8) 0) (o.offset % 8) (get_or v 0 0))) (part_bit o bs e) ∙
      ap (set bs (o.offset / 8)) (with_own (get_or bs (o.offset / 8) 0) (o.offset % 8)) ∙
      set-get_or bs (o.offset / 8) 0

  bytes_same : WholeBytes o → laid o (part o bs) bs ≡ bs
  bytes_same w = laid_bytes o bs (part o bs) w ∙ ap (λ v. over (o.offset / 8) (o.size / 8) v bs) (part_bytes o bs w) ∙ over_own (o.offset / 8) (o.size / 8) bs

pub part_value : PartValue
part_value o bs p b = ⊎_elim (bit_value o bs p b) (bytes_value o bs p b) (bit_or_bytes o p)

pub bits_taken : BitsTaken
bits_taken o bs p b j l = ⊎_elim (λ e. bit_taken o bs p b e j l) (λ w. bytes_taken o bs p b w j l) (bit_or_bytes o p)

pub laid_again : LaidAgain
laid_again o bs p b = ⊎_elim (bit_same o bs p b) (bytes_same o bs p b) (bit_or_bytes o p)
