-- Numbers as bytes.
use Rattle.std.proofs.Common.{◌≡◌, ℕ, zero, suc, ◌-◌, ◌*◌, ◌/◌, ◌^◌, ◌<◌, Bool, true, false, cond, eqb, ◌&&◌, List, [], ◌∷◌, ◌++◌, length, get_or, take, drop, replicate, sym, refl, ap, ◌∙◌, add_comm, pow-suc, mul-zero, mul-suc, arith, length-append}
use native.Mathlib.Nat.{mod-mod, mod-add-div}
use borrow.Rule.Slice.PartMut.{put_mid}
use Rattle.std.specs.List.{flat_map, list_all}
use Rattle.std.proofs.lemmas.List.{take_at, drop_at, drop-drop, drop-replicate, append_assoc}
use Rattle.std.proofs.lemmas.Nat.{div_below}
use Rattle.card.specs.Bytes.{from_bytes, to_bytes, all_zero}

both : (a b c : Bool) → b ≡ c → (a && b) ≡ cond a c false
both true b c e = e
both false b c e = refl

pub all_zero_is : (bs : List ℕ) → list_all (λ b. eqb b 0) bs ≡ all_zero bs
all_zero_is [] = refl
all_zero_is (b ∷ bs) = both (eqb b 0) _ _ (all_zero_is bs)

pub length_to_bytes : (k n : ℕ) → length (to_bytes k n) ≡ k
length_to_bytes zero n = refl
length_to_bytes (suc k) n = ap suc (length_to_bytes k (n / 256))

pub from_bytes_to_bytes : (k n : ℕ) → n < 256 ^ k → from_bytes (to_bytes k n) ≡ n
from_bytes_to_bytes zero n h = omega arith
from_bytes_to_bytes (suc k) n h =
    let e = from_bytes_to_bytes k (n / 256) (div_below n 256 (256 ^ k) (omega arith) (rw pow-suc at h)) in
    let m = mod-mod n 256 in
    let d = mod-add-div n 256 in
    omega arith

-- bytes that are copied in after a front that is done, in the place of zeros
pub filled_next : (front new : List ℕ) (at k n : ℕ) → length front ≡ at → length new ≡ k → put_mid at k (front ++ replicate n 0) new ≡ (front ++ new) ++ replicate (n - k) 0
filled_next front new at k n lf ln =
    ap (λ x. x ++ (new ++ drop k (drop at (front ++ replicate n 0)))) (take_at front (replicate n 0) at lf) ∙
    ap (λ x. front ++ (new ++ drop k x)) (drop_at front (replicate n 0) at lf) ∙
    ap (λ x. front ++ (new ++ x)) (drop-replicate k n 0) ∙
    sym (append_assoc front new (replicate (n - k) 0))

pub length_joined : (k : ℕ) (ns : List ℕ) → length (flat_map (to_bytes k) ns) ≡ k * length ns
length_joined k [] = omega arith
length_joined k (n ∷ ns) = length-append (to_bytes k n) (flat_map (to_bytes k) ns) ∙ (let a = length_to_bytes k n in let b = length_joined k ns in let m = mul-suc k (length ns) in omega arith)

-- the bytes of number s of a list of numbers
pub joined_at : (k : ℕ) (ns rest : List ℕ) (s : ℕ) → s < length ns → take k (drop (k * s) (flat_map (to_bytes k) ns ++ rest)) ≡ to_bytes k (get_or ns s 0)
joined_at k [] rest s h = absurd (omega arith)
joined_at k (n ∷ ns) rest zero h =
    rw (mul-zero k, append_assoc (to_bytes k n) (flat_map (to_bytes k) ns) rest)
    (take_at (to_bytes k n) (flat_map (to_bytes k) ns ++ rest) k (length_to_bytes k n))
joined_at k (n ∷ ns) rest (suc s) h =
    rw (mul-suc k s, add_comm (k * s) k, append_assoc (to_bytes k n) (flat_map (to_bytes k) ns) rest)
    (ap (take k) (sym (drop-drop (k * s) k (to_bytes k n ++ (flat_map (to_bytes k) ns ++ rest))) ∙ ap (drop (k * s)) (drop_at (to_bytes k n) (flat_map (to_bytes k) ns ++ rest) k (length_to_bytes k n))) ∙
    joined_at k ns rest s (omega arith))
