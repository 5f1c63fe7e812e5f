-- The blocks of dirty objects, found one object after another.
use Rattle.std.proofs.Common.{◌≡◌, ℕ, ◌+◌, ◌<◌, ◌≤◌, Bool, true, false, cond, not, eqb, List, [], ◌∷◌, ◌++◌, length, get_or, drop, sym, refl, ap, ◌∙◌, arith}
use Rattle.std.proofs.lemmas.List.{append_assoc, length_push, drop_more}
use Rattle.disk.specs.Tests.{both, either}
use Rattle.object.specs.Tables.{Held}
use Rattle.model.specs.Operations.{among, dirty_blocks}
use Rattle.operation.specs.Table.{with_dirty}

-- the same blocks are listed, in whatever order
abbrev Same : List ℕ → List ℕ → Type 0
Same xs ys = (b : ℕ) → among b xs ≡ among b ys

dirty_same : (hs : List Held) (xs ys : List ℕ) → Same xs ys → dirty_blocks hs xs ≡ dirty_blocks hs ys
dirty_same [] xs ys s = refl
dirty_same (h ∷ hs) xs ys s =
    let b = h.place.block in
    let t : Bool = both h.dirty (not (among b ys)) in
    ap (λ a. cond (both h.dirty (not a)) (b ∷ dirty_blocks hs (b ∷ xs)) (dirty_blocks hs xs)) (s b) ∙
    ap (λ zs. cond t (b ∷ zs) (dirty_blocks hs xs)) (dirty_same hs (b ∷ xs) (b ∷ ys) (λ c. ap (either (eqb c b)) (s c))) ∙
    ap (cond t (b ∷ dirty_blocks hs (b ∷ ys))) (dirty_same hs xs ys s)

either_swap : (x y z : Bool) → either x (either y z) ≡ either y (either x z)
either_swap true true z = refl
either_swap true false z = refl
either_swap false true z = refl
either_swap false false z = refl

among_push : (b c : ℕ) (bs : List ℕ) → among c (b ∷ bs) ≡ among c (bs ++ b ∷ [])
among_push b c [] = refl
among_push b c (x ∷ bs) = either_swap (eqb c b) (eqb c x) (among c bs) ∙ ap (either (eqb c x)) (among_push b c bs)

-- t: the object's block is added
listed_by : (bs : List ℕ) (b : ℕ) (hs : List Held) (t : Bool) →
    bs ++ cond t (b ∷ dirty_blocks hs (b ∷ bs)) (dirty_blocks hs bs) ≡ cond t (bs ++ b ∷ []) bs ++ dirty_blocks hs (cond t (bs ++ b ∷ []) bs)
listed_by bs b hs true =
    sym (append_assoc bs (b ∷ []) (dirty_blocks hs (b ∷ bs))) ∙
    ap (λ zs. (bs ++ b ∷ []) ++ zs) (dirty_same hs (b ∷ bs) (bs ++ b ∷ []) (λ c. among_push b c bs))
listed_by bs b hs false = refl

longer_by : (bs : List ℕ) (b : ℕ) (t : Bool) → length (cond t (bs ++ b ∷ []) bs) ≤ length bs + 1
longer_by bs b true = let l = length_push bs b in omega arith
longer_by bs b false = omega arith

-- bs lists the blocks before the object h at i, and cs those up to it
module _ (hs : List Held) (i : ℕ) (h : Held) (at : h ≡ get_or hs i h) (bs cs : List ℕ) (is : cs ≡ with_dirty bs h) where
  pub listed_longer : length cs ≤ length bs + 1
  listed_longer = rw is (longer_by bs h.place.block _)

  pub listed_more : i < length hs → bs ++ dirty_blocks (drop i hs) bs ≡ cs ++ dirty_blocks (drop (i + 1) hs) cs
  listed_more l =
      ap (λ xs. bs ++ dirty_blocks xs bs) (drop_more hs i h l ∙ ap (λ g. g ∷ drop (i + 1) hs) (sym at)) ∙
      listed_by bs h.place.block (drop (i + 1) hs) _ ∙
      ap (λ xs. xs ++ dirty_blocks (drop (i + 1) hs) xs) (sym is)
