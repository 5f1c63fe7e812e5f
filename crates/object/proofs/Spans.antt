-- Where a placed object lies: it is one bit, or whole bytes within the block.
use Rattle.std.proofs.Common.{◌≡◌, ℕ, ◌+◌, ◌-◌, ◌*◌, ◌/◌, ◌^◌, ◌<◌, ◌≤◌, false, eqb, ◌⊎◌, sym, ap, ◌∙◌, inl, inr, ⊎_elim, mul_assoc, mul_comm, mul-le-mul_left, mul-add, arith}
use native.Mathlib.Nat.{div-add-mod}
use Rattle.std.proofs.lemmas.Nat.{pow-add, pow_pos, div_below}
use Rattle.std.proofs.lemmas.Bool.{ne_eqb}
use Rattle.object.specs.declared.Place.{Place}
use Rattle.object.specs.Laws.{Placed}
use Rattle.object.proofs.Sizes.{size_of}

pub record WholeBytes (o : Place) : Type 0 where
  pub many : eqb o.size 1 ≡ false
  pub at : o.offset ≡ 8 * (o.offset / 8)
  pub long : o.size ≡ 8 * (o.size / 8)
  pub fits : o.offset + o.size ≤ 4096

-- the offset as so many sizes
pub times : (o : Place) → Placed o → o.offset ≡ o.size * (o.offset / o.size)
times o p = let d = div-add-mod o.offset o.size in omega (arith, p.aligned)

module _ (o : Place) (p : Placed o) (k : ℕ) (low : 3 ≤ k) (high : k ≤ 12) (e : o.size ≡ 2 ^ k) where
  eights : o.size ≡ 8 * 2 ^ (k - 3)
  eights = e ∙ ap (λ (n : ℕ). 2 ^ n) (let i : k ≡ 3 + (k - 3) = omega arith in i) ∙ pow-add 2 3 (k - 3)

  -- so many such objects make a block
  in_block_lem : 2 ^ (12 - k) * o.size ≡ 4096
  in_block_lem = ap (λ n. 2 ^ (12 - k) * n) e ∙ sym (pow-add 2 (12 - k) k) ∙ ap (λ (n : ℕ). 2 ^ n) (let i : 12 - k + k ≡ 12 = omega arith in i)

  whole_bytes : WholeBytes o
  whole_bytes =
      let q = o.offset / o.size in
      let s = eights in
      let t = times o p in
      let x : o.offset ≡ 8 * (2 ^ (k - 3) * q) = t ∙ ap (λ n. n * q) s ∙ mul_assoc 8 (2 ^ (k - 3)) q in
      let b = in_block_lem in
      let l : q < 2 ^ (12 - k) = div_below o.offset o.size (2 ^ (12 - k)) (let z = pow_pos (k - 3) in omega arith) (omega (arith, p.in_block)) in
      let m : o.size * (q + 1) ≤ o.size * 2 ^ (12 - k) = mul-le-mul_left o.size (omega arith) in
      let a = mul-add o.size q 1 in
      let c = mul_comm o.size (2 ^ (12 - k)) in
      record {
        many = ne_eqb o.size 1 (λ one. omega arith);
        at = omega arith;
        long = omega arith;
        fits = omega arith;
      }

pub bit_or_bytes : (o : Place) → Placed o → (o.size ≡ 1) ⊎ WholeBytes o
bit_or_bytes o p = elim (size_of o.size p.sized) [ inl e ↦ inl e | inr (k, low, high, e) ↦ inr (whole_bytes o p k low high e) ]

pub whole_unless_bit : (o : Place) → Placed o → (o.size ≡ 1 → ⊥) → WholeBytes o
whole_unless_bit o p n = ⊎_elim (λ e. absurd (n e)) (λ w. w) (bit_or_bytes o p)
