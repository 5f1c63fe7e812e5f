-- Bytes laid over those of a list.
use Rattle.std.proofs.Common.{◌≡◌, ℕ, zero, suc, ◌+◌, ◌-◌, ◌<◌, ◌≤◌, ◌⊎◌, List, [], ◌∷◌, ◌++◌, length, get_or, take, drop, set, sym, refl, ap, ◌∙◌, ⊎_elim, arith, length-append, length-drop, length-take}
use borrow.Rule.Slice.PartMut.{put_mid}
use Rattle.std.proofs.lemmas.List.{get_or_append_left, get_or-append_right, get_or-take, get_or-drop, get_or_past, get_or-set_same, get_or-set_other, take_at, drop_at, drop-drop, take-append-drop}
use Rattle.std.proofs.lemmas.Bool.{cases_lt, cases_eq}

abbrev pub Bytes : List ℕ → Type 0
Bytes bs = (i : ℕ) → get_or bs i 0 < 256

pub bytes_one : (c : ℕ) → c < 256 → Bytes (c ∷ [])
bytes_one c h zero = h
bytes_one c h (suc i) = omega arith

pub bytes_append : (xs ys : List ℕ) → Bytes xs → Bytes ys → Bytes (xs ++ ys)
bytes_append xs ys f g i = ⊎_elim
    (λ h. rw (get_or_append_left xs ys 0 i h) (f i))
    (λ h. rw (get_or-append_right xs ys (length xs) i 0 refl h) (g (i - length xs)))
    (cases_lt i (length xs))

pub bytes_take : (n : ℕ) (xs : List ℕ) → Bytes xs → Bytes (take n xs)
bytes_take n xs f i = ⊎_elim
    (λ h. rw (get_or-take n xs i 0 h) (f i))
    (λ (h : n ≤ i). rw (get_or_past (take n xs) i 0 (simp length-take (omega arith))) (omega arith))
    (cases_lt i n)

pub bytes_drop : (n : ℕ) (xs : List ℕ) → Bytes xs → Bytes (drop n xs)
bytes_drop n xs f i = rw (get_or-drop n xs i 0) (f (n + i))

pub bytes_set : (xs : List ℕ) (k x : ℕ) → k < length xs → x < 256 → Bytes xs → Bytes (set xs k x)
bytes_set xs k x l small f i = ⊎_elim
    (λ (e : i ≡ k). rw (e, get_or-set_same xs k x 0 l) small)
    (λ n. rw (get_or-set_other xs k i x 0 n) (f i))
    (cases_eq i k)

-- n bytes laid over those from a on
abbrev pub over : ℕ → ℕ → List ℕ → List ℕ → List ℕ
over a n v bs = take a bs ++ (v ++ drop (a + n) bs)

-- the form in which a write to a part of a slice leaves the slice
pub put_over : (a n : ℕ) (v bs : List ℕ) → put_mid a n bs v ≡ over a n v bs
put_over a n v bs = ap (λ m. take a bs ++ (v ++ m)) (drop-drop n a bs)

module _ (a n : ℕ) (v bs : List ℕ) (long : length v ≡ n) (fits : a + n ≤ length bs) where
  front : length (take a bs) ≡ a
  front = simp length-take (omega arith)

  pub length_over : length (over a n v bs) ≡ length bs
  length_over = simp (length-append, length-take, length-drop) (omega arith)

  after : (i : ℕ) → a ≤ i → get_or (over a n v bs) i 0 ≡ get_or (v ++ drop (a + n) bs) (i - a) 0
  after i h = get_or-append_right (take a bs) (v ++ drop (a + n) bs) a i 0 front h

  pub byte_in : (i : ℕ) → a ≤ i → i < a + n → get_or (over a n v bs) i 0 ≡ get_or v (i - a) 0
  byte_in i h l = after i h ∙ get_or_append_left v (drop (a + n) bs) 0 (i - a) (omega arith)

  pub byte_out : (i : ℕ) → (i < a) ⊎ (a + n ≤ i) → get_or (over a n v bs) i 0 ≡ get_or bs i 0
  byte_out i = ⊎_elim
      (λ h. get_or_append_left (take a bs) (v ++ drop (a + n) bs) 0 i (let f = front in omega arith) ∙ get_or-take a bs i 0 h)
      (λ h. after i (omega arith) ∙
      get_or-append_right v (drop (a + n) bs) n (i - a) 0 long (omega arith) ∙
      get_or-drop (a + n) bs (i - a - n) 0 ∙
      ap (λ (k : ℕ). get_or bs k 0) (let e : a + n + (i - a - n) ≡ i = omega arith in e))

  pub taken_over : take n (drop a (over a n v bs)) ≡ v
  taken_over = ap (take n) (drop_at (take a bs) (v ++ drop (a + n) bs) a front) ∙ take_at v (drop (a + n) bs) n long

pub over_own : (a n : ℕ) (bs : List ℕ) → over a n (take n (drop a bs)) bs ≡ bs
over_own a n bs =
    ap (λ x. take a bs ++ (take n (drop a bs) ++ x)) (sym (drop-drop n a bs)) ∙
    ap (λ x. take a bs ++ x) (take-append-drop n (drop a bs)) ∙
    take-append-drop a bs
