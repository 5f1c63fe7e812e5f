-- Block 0.
use Rattle.std.proofs.Common.{◌≡◌, ℕ, ◌*◌, ◌^◌, ◌<◌, List, ◌++◌, length, get_or, take, drop, replicate, sym, ap, ◌∙◌, append_assoc, mod-lt, arith}
use borrow.Rule.Slice.PartMut.{put_mid}
use Rattle.std.specs.List.{flat_map}
use Rattle.std.proofs.lemmas.List.{drop_at, drop-drop}
use Rattle.std.proofs.lemmas.List.FromFn.{fill_by_all, get_or-map-range_with_len}
use Rattle.card.specs.declared.Header.{Header}
use Rattle.card.specs.Bytes.{to_bytes, from_bytes}
use Rattle.card.specs.Layout.{slots, slot, end_in, home_in, homes_in, header_in, header_block, start_block}
use Rattle.card.proofs.Bytes.{length_to_bytes, from_bytes_to_bytes, filled_next, length_joined, joined_at}

pub header_is : (bs : List ℕ) (e : ℕ) (hs : List ℕ) → e ≡ end_in bs → hs ≡ homes_in bs → record { end = e; homes = hs } ≡ header_in bs
header_is bs e hs p q = ap (λ n. record { end = n; homes = hs }) p ∙ ap (λ ns. record { end = end_in bs; homes = ns }) q

-- the bytes of the home numbers, laid after those of the end position
pub header_filled : (h : Header) → length h.homes ≡ slots → (block homes : List ℕ) → block ≡ start_block h.end → homes ≡ flat_map (to_bytes 4) h.homes → put_mid 8 248 block homes ≡ header_block h
header_filled h l block homes e f =
    ap (λ (x : List ℕ). put_mid 8 248 x homes) e ∙
    ap (put_mid 8 248 (start_block h.end)) f ∙
    filled_next (to_bytes 8 h.end) (flat_map (to_bytes 4) h.homes) 8 248 504 (length_to_bytes 8 h.end) (length_joined 4 h.homes ∙ omega arith) ∙
    append_assoc (to_bytes 8 h.end) (flat_map (to_bytes 4) h.homes) (replicate 256 0)

-- decoding what was coded gives it back, where it does so of each home number
pub header_back : (h : Header) → h.end < 2 ^ 64 → length h.homes ≡ slots → ((k : ℕ) → k < slots → from_bytes (to_bytes 4 (get_or h.homes k 0)) ≡ get_or h.homes k 0) → header_in (header_block h) ≡ h
header_back h small l back =
    sym (header_is (header_block h) h.end h.homes
    (sym (from_bytes_to_bytes 8 h.end (omega arith)))
    (fill_by_all (home_in (header_block h)) h.homes slots 0 l
    (λ k lt. sym (ap from_bytes (ap (take 4) (sym (drop-drop (4 * k) 8 (header_block h)) ∙ ap (drop (4 * k)) (drop_at (to_bytes 8 h.end) (flat_map (to_bytes 4) h.homes ++ replicate 256 0) 8 (length_to_bytes 8 h.end))) ∙ joined_at 4 h.homes (replicate 256 0) k (omega arith)) ∙ back k lt))))

pub header_again : (h : Header) → h.end < 2 ^ 64 → length h.homes ≡ slots → ((k : ℕ) → k < slots → get_or h.homes k 0 < 2 ^ 32) → header_in (header_block h) ≡ h
header_again h small l all = header_back h small l (λ k lt. from_bytes_to_bytes 4 (get_or h.homes k 0) (all k lt))

-- the home number of a position's slot
pub home_read : (bs : List ℕ) (h : Header) → h ≡ header_in bs → (p : ℕ) → get_or h.homes (slot p) 0 ≡ home_in bs (slot p)
home_read bs h e p = ap (λ (x : Header). get_or x.homes (slot p) 0) e ∙ get_or-map-range_with_len (home_in bs) 0 slots (slot p) (slot p) 0 (mod-lt p (omega arith)) (omega arith)
