-- A card that format takes: large enough, and its first 64 blocks live.
use Rattle.std.proofs.Common.{◌≡◌, ℕ, ◌<◌, Bool, true, false, cond, not, leb, List, [], map, length, set, Some, None, sym, refl, ap, ◌∙◌, subst, ⊎_elim, arith, length-set, get_or-set_other, get_or-set_same}
use Rattle.std.specs.List.{range_with_len}
use Rattle.std.proofs.lemmas.Bool.{lt-leb, leb-false, cases_eq}
use Rattle.disk.specs.Tests.{first_of}
use Rattle.disk.specs.Meaning.{Block, Blocks, block, is_live, block_size, bytes_or, refusal, written}
use Rattle.disk.proofs.Refusals.{granted, unless_none}
use Rattle.card.specs.Layout.{homes_from, bytes_on}
use Rattle.model.specs.declared.LogFault.TheVariants.{Small}
use Rattle.model.specs.Card.{Ready}
use Rattle.model.specs.Log.{dead_test, card_tests}
use Rattle.model.proofs.Tests.{none_first, none_from, none_each}

pub not_false : (b : Bool) → not b ≡ false → b ≡ true
not_false true e = refl
not_false false e = sym e

pub card_ready : (d : Blocks) → first_of (card_tests d) ≡ None → Ready d
unfolding card_tests
card_ready d e =
    let f = none_first (leb (length d) homes_from, _) (map (dead_test d) (range_with_len 0 homes_from)) e in
    record {
      large = leb-false (length d) homes_from f.0;
      alive = λ b h. not_false (is_live (block d b)) (none_each (dead_test d) 0 homes_from f.1 b (omega arith) (omega arith));
    }

pub ready_card : (d : Blocks) → Ready d → first_of (card_tests d) ≡ None
unfolding card_tests
ready_card d r =
    ap (λ t. cond t (Some Small) (first_of (map (dead_test d) (range_with_len 0 homes_from)))) (lt-leb (length d) homes_from r.large) ∙
    none_from (dead_test d) 0 homes_from (λ p l m. ap not (r.alive p (omega arith)))

-- a live block has bytes
pub live_bytes : (x : Block) → is_live x ≡ true → x ≡ Some (bytes_or x [])
live_bytes None e = let z : ◌≡◌ {A = ℕ} 0 1 = cc in absurd (omega arith)
live_bytes (Some bs) e = refl

module _ (d : Blocks) (r : Ready d) (b : ℕ) (h : b < homes_from) where
  -- a block below the data blocks is read and written without a refusal
  pub ready_granted : (n : ℕ) → n ≡ block_size → refusal d b n ≡ None
  ready_granted n l = granted d b n (bytes_on d b) (omega (arith, r.large)) l (live_bytes (block d b) (r.alive b h))

  pub ready_written : (bs : List ℕ) → length bs ≡ block_size → written d b bs ≡ set d b (Some bs)
  ready_written bs l = unless_none (set d b (Some bs)) d (ready_granted (length bs) l)

-- which blocks are dead does not change
pub live_set : (d : Blocks) (b : ℕ) (bs : List ℕ) → b < length d → is_live (block d b) ≡ true → (k : ℕ) → is_live (block (set d b (Some bs)) k) ≡ is_live (block d k)
live_set d b bs l e k = ⊎_elim
    (λ same. subst (λ (j : ℕ). is_live (block (set d b (Some bs)) j) ≡ is_live (block d j)) (sym same) (ap is_live (get_or-set_same d b (Some bs) None l) ∙ sym e))
    (λ ne. ap is_live (get_or-set_other d b k (Some bs) None ne))
    (cases_eq k b)

pub ready_set : (d : Blocks) (b : ℕ) (bs : List ℕ) → Ready d → b < homes_from → Ready (set d b (Some bs))
ready_set d b bs r h = record {
  large = let l = length-set d b (Some bs) in omega (arith, r.large);
  alive = λ k lt. live_set d b bs (omega (arith, r.large)) (r.alive b h) k ∙ r.alive k lt;
}
