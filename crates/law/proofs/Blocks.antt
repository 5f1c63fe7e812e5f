-- What a write of one block leaves of a card.
use Rattle.std.proofs.Common.{◌≡◌, ℕ, ◌+◌, ◌-◌, ◌*◌, ◌^◌, ◌<◌, ◌≤◌, List, [], ◌++◌, length, get_or, set, replicate, Some, None, sym, refl, ap, ◌∙◌, subst, ⊎_elim, arith, length-append, length-set, get_or-set_other, get_or-set_same}
use Rattle.std.specs.List.{flat_map}
use Rattle.std.proofs.lemmas.Bool.{cases_eq, cases_lt}
use Rattle.std.proofs.lemmas.List.{append_assoc, get_or-append_right, get_or-replicate, get_or_past}
use Rattle.disk.specs.Meaning.{Blocks, block, block_size, bytes_or, Whole}
use Rattle.card.specs.declared.Header.{Header}
use Rattle.card.specs.Bytes.{to_bytes}
use Rattle.card.specs.Layout.{slots, homes_from, highest, slot, log_block, header_end, start_end, header_in, homes_in, header_block, start_in, start_block, bytes_on, end_on, start_on, home_on, update_on}
use Rattle.card.proofs.Bytes.{from_bytes_to_bytes, length_joined}

module _ (d : Blocks) (b : ℕ) (bs : List ℕ) where
  pub block_here : b < length d → block (set d b (Some bs)) b ≡ Some bs
  block_here l = get_or-set_same d b (Some bs) None l

  pub block_other : (c : ℕ) → (c ≡ b → ⊥) → block (set d b (Some bs)) c ≡ block d c
  block_other c n = get_or-set_other d b c (Some bs) None n

  pub bytes_here : b < length d → bytes_on (set d b (Some bs)) b ≡ bs
  bytes_here l = ap (λ x. bytes_or x []) (block_here l)

  pub bytes_other : (c : ℕ) → (c ≡ b → ⊥) → bytes_on (set d b (Some bs)) c ≡ bytes_on d c
  bytes_other c n = ap (λ x. bytes_or x []) (block_other c n)

  -- a write of 512 bytes keeps a disk a disk
  pub whole_set : Whole d → length bs ≡ block_size → Whole (set d b (Some bs))
  whole_set w l = record {
    few = let m = length-set d b (Some bs) in omega (arith, w.few);
    full = λ c xs e. ⊎_elim
        (λ same. ⊎_elim
        (λ (h : b < length d). let q : Some bs ≡ Some xs = sym (block_here h) ∙ subst (λ (k : ℕ). block (set d b (Some bs)) k ≡ Some xs) same e in subst (λ (ys : List ℕ). length ys ≡ block_size) (let z : bs ≡ xs = cc in z) l)
        (λ out. let p = get_or_past (set d b (Some bs)) c None (let m = length-set d b (Some bs) in omega arith) in let z : ◌≡◌ {A = ℕ} 0 1 = cc in absurd (omega arith))
        (cases_lt b (length d)))
        (λ ne. w.full c xs (sym (block_other c ne) ∙ e))
        (cases_eq c b);
  }

-- ## What only looks at some blocks

pub end_same : (d e : Blocks) → bytes_on e 0 ≡ bytes_on d 0 → end_on e ≡ end_on d
end_same d e p = ap (λ (bs : List ℕ). (header_in bs).end) p

pub home_same : (d e : Blocks) → bytes_on e 0 ≡ bytes_on d 0 → (s : ℕ) → home_on e s ≡ home_on d s
home_same d e p s = ap (λ (bs : List ℕ). Rattle.card.specs.Layout.home_in bs s) p

pub start_same : (d e : Blocks) → bytes_on e 1 ≡ bytes_on d 1 → start_on e ≡ start_on d
start_same d e p = ap start_in p

pub update_same : (d e : Blocks) (p : ℕ) → bytes_on e 0 ≡ bytes_on d 0 → bytes_on e (log_block p) ≡ bytes_on d (log_block p) → update_on e p ≡ update_on d p
update_same d e p a b =
    ap (λ n. record { home = n; bytes = bytes_on e (log_block p) }) (home_same d e a (slot p)) ∙
    ap (λ (bs : List ℕ). record { home = home_on d (slot p); bytes = bs }) b

-- ## The bytes of blocks 0 and 1

pub length_header : (h : Header) → length h.homes ≡ slots → length (header_block h) ≡ block_size
length_header h l =
    length-append (to_bytes 8 h.end) (flat_map (to_bytes 4) h.homes ++ replicate 256 0) ∙
    ap (λ n. 8 + n) (length-append (flat_map (to_bytes 4) h.homes) (replicate 256 0) ∙ ap (λ n. n + 256) (length_joined 4 h.homes ∙ ap (λ n. 4 * n) l))

pub length_start : (p : ℕ) → length (start_block p) ≡ block_size
length_start p = refl

zeros_after : (front : List ℕ) (m n i : ℕ) → length front ≡ m → m ≤ i → i < m + n → get_or (front ++ replicate n 0) i 0 ≡ 0
zeros_after front m n i l a b = get_or-append_right front (replicate n 0) m i 0 l a ∙ get_or-replicate n (i - m) 0 0 (omega arith)

pub header_zeros : (h : Header) → length h.homes ≡ slots → (i : ℕ) → header_end ≤ i → i < block_size → get_or (header_block h) i 0 ≡ 0
header_zeros h l i a b =
    ap (λ (bs : List ℕ). get_or bs i 0) (sym (append_assoc (to_bytes 8 h.end) (flat_map (to_bytes 4) h.homes) (replicate 256 0))) ∙
    zeros_after (to_bytes 8 h.end ++ flat_map (to_bytes 4) h.homes) 256 256 i
    (length-append (to_bytes 8 h.end) (flat_map (to_bytes 4) h.homes) ∙ ap (λ n. 8 + n) (length_joined 4 h.homes ∙ ap (λ n. 4 * n) l)) a b

pub start_zeros : (p i : ℕ) → start_end ≤ i → i < block_size → get_or (start_block p) i 0 ≡ 0
start_zeros p i a b = zeros_after (to_bytes 8 p) 8 504 i refl a b

pub start_again : (p : ℕ) → p < 2 ^ 64 → start_in (start_block p) ≡ p
start_again p l = from_bytes_to_bytes 8 p (omega arith)
