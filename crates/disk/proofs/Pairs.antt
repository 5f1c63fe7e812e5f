-- The blocks of a pair.
use Rattle.std.proofs.Common.{◌≡◌, ℕ, ◌+◌, ◌-◌, ◌<◌, ◌≤◌, min, List, ◌++◌, length, take, set, Some, None, Ok, sym, refl, ap, ◌∙◌, ⊎_elim, arith, length-append, length-take}
use lib.Seq.{take-set-lt}
use Rattle.std.proofs.lemmas.List.{get_or-take, get_or_append_left, get_or-append_right, set-append_left, set-append_right}
use Rattle.std.proofs.lemmas.Bool.{cases_lt, cond-true, cond-false, lt-ltb, le-ltb}
use Rattle.disk.specs.declared.pair.Side.TheVariants.{First, Second}
use Rattle.disk.specs.Tests.{unless}
use Rattle.disk.specs.Meaning.{Blocks, refusal, Whole}
use Rattle.disk.specs.Pair.{pair_blocks, pair_writes, PairFound}
use Rattle.disk.proofs.Wholes.{whole_by}
use Rattle.disk.proofs.Above.{Shows, carried_down, unless_above}

pub length_pair : (d e : Blocks) → length (pair_blocks d e) ≡ min 65536 (length d + length e)
unfolding pair_blocks
length_pair d e = simp (length-take, length-append)

module _ (d e : Blocks) (b : ℕ) (h : b < length (pair_blocks d e)) where
  in_pair : (b < 65536) × (b < length d + length e)
  in_pair = let l = length_pair d e in (omega arith, omega arith)

  pub first_shows : b < length d → Shows (λ x. pair_blocks x e) d b b
  unfolding pair_blocks
  first_shows lt = record {
    in_below = lt;
    in_above = h;
    same = get_or-take 65536 (d ++ e) b None in_pair.0 ∙ get_or_append_left d e None b lt;
    sets = λ x. ap (take 65536) (sym (set-append_left d e b x lt)) ∙ take-set-lt 65536 (d ++ e) b x in_pair.0;
  }

  pub second_shows : (split : ℕ) → length d ≡ split → split ≤ b → Shows (pair_blocks d) e (b - split) b
  unfolding pair_blocks
  second_shows split l ge = record {
    in_below = let i = in_pair in omega arith;
    in_above = h;
    same = get_or-take 65536 (d ++ e) b None in_pair.0 ∙ get_or-append_right d e split b None l ge;
    sets = λ x. ap (take 65536) (sym (set-append_right d e split b x l ge)) ∙ take-set-lt 65536 (d ++ e) b x in_pair.0;
  }

pub whole_pair : (d e : Blocks) → Whole d → Whole e → Whole (pair_blocks d e)
whole_pair d e first second = whole_by (pair_blocks d e) (rw length_pair (omega arith))
    (λ b bs h f. ⊎_elim
    (λ lt. first.full b bs (sym (first_shows d e b h lt).same ∙ f))
    (λ ge. second.full (b - length d) bs (sym (second_shows d e b h (length d) refl ge).same ∙ f))
    (cases_lt b (length d)))

-- what a call on a block of either disk does to both
module _ (d e : Blocks) (m w b : ℕ) (buf : List ℕ) (h : b < length (pair_blocks d e)) where
  pub found_first : b < length d → PairFound d e m w b buf (Ok (First b))
  found_first lt =
      let k = first_shows d e b h lt in
      let t = lt-ltb b (length d) lt in (
        carried_down k (λ x. pair_writes x w) m buf (omega arith),
        record {
          first = unless_above k (length buf) _ _ ∙ sym (cond-true _ _ _ t);
          second = sym (cond-true _ _ _ t);
          first_writes = unless_above k (length buf) _ _ ∙ sym (cond-true _ _ _ t);
          second_writes = sym (cond-true _ _ _ t);
        },
      )

  pub found_second : (split : ℕ) → length d ≡ split → split ≤ b → PairFound d e m w b buf (Ok (Second (b - split)))
  found_second split l ge =
      let k = second_shows d e b h split l ge in
      let t = le-ltb b (length d) (omega arith) in (
        carried_down k (pair_writes m) w buf (omega arith),
        record {
          first = sym (cond-false _ _ _ t);
          second = unless_above k (length buf) _ _ ∙ ap (λ (i : ℕ). unless (refusal (pair_blocks d e) b (length buf)) (set e (b - i) (Some buf)) e) (sym l) ∙ sym (cond-false _ _ _ t);
          first_writes = sym (cond-false _ _ _ t);
          second_writes = unless_above k (length buf) _ _ ∙ sym (cond-false _ _ _ t);
        },
      )
