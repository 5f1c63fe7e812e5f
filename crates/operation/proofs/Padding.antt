-- Lists in arrays: those that are there, and then blanks.
use Rattle.std.proofs.Common.{◌≡◌, ℕ, suc, ◌+◌, ◌-◌, ◌<◌, ◌≤◌, List, [], ◌∷◌, ◌++◌, length, take, drop, get_or, set, replicate, sym, ap, subst, ◌∙◌, arith, length-set}
use Rattle.std.proofs.Math.Seq.{set-append_seam, take-append_seam}
use Rattle.std.proofs.lemmas.List.{append_assoc, set-append_left, length_push, drop-replicate, get_or-take}
use Rattle.disk.specs.Meaning.{block_size}
use Rattle.object.specs.declared.Place.{Place}
use Rattle.object.specs.Objects.{width}
use Rattle.object.specs.Laws.{Placed}
use Rattle.operation.specs.Held.{IsValue, Kept, Filled, padded}

module _ {X : Type 0} (n : ℕ) (x : X) where
  -- what is there, when a list is padded
  pub front : (ys : List X) (k : ℕ) → length ys ≡ k → take k (padded n x ys) ≡ ys
  front ys k e = ap (λ (j : ℕ). take j (padded n x ys)) (sym e) ∙ take-append_seam ys _

  pub filled_of : (ys : List X) (k : ℕ) → length ys ≡ k → k ≤ n → Filled n x k (padded n x ys)
  filled_of ys k e l = record { few = l; count = ap length (front ys k e) ∙ e; rest = ap (padded n x) (front ys k e) }

  pushed : (ys : List X) (h : X) → length ys < n → set (padded n x ys) (length ys) h ≡ padded n x (ys ++ h ∷ [])
  pushed ys h l =
      let k = n - (length ys + 1) in
      let e : n - length ys ≡ suc k = omega arith in
      let p = length_push ys h in
      ap (λ (j : ℕ). set (ys ++ replicate j x) (length ys) h) e ∙
      set-append_seam ys x (replicate k x) h ∙
      sym (append_assoc ys (h ∷ []) (replicate k x)) ∙
      ap (λ (j : ℕ). (ys ++ h ∷ []) ++ replicate (n - j) x) (let q : length ys + 1 ≡ length (ys ++ h ∷ []) = omega arith in q)

  module _ (len : ℕ) (xs : List X) (f : Filled n x len xs) where
    -- one more comes at the end
    push_is : (h : X) → len < n → set xs len h ≡ padded n x ((take len xs) ++ h ∷ [])
    push_is h l =
        ap (λ zs. set zs len h) (sym f.rest) ∙
        ap (λ (j : ℕ). set (padded n x (take len xs)) j h) (sym f.count) ∙
        pushed (take len xs) h (let c = f.count in omega arith)

    long : (h : X) → length ((take len xs) ++ h ∷ []) ≡ len + 1
    long h = let p = length_push (take len xs) h in let c = f.count in omega arith

    pub push_view : (h : X) → len < n → take (len + 1) (set xs len h) ≡ (take len xs) ++ h ∷ []
    push_view h l = ap (take (len + 1)) (push_is h l) ∙ front ((take len xs) ++ h ∷ []) (len + 1) (long h)

    pub push_filled : (h : X) → len < n → Filled n x (len + 1) (set xs len h)
    push_filled h l = subst (Filled n x (len + 1)) (sym (push_is h l)) (filled_of (take len xs ++ h ∷ []) (len + 1) (long h) (omega arith))

    -- one of them is replaced
    put_is : (i : ℕ) (h : X) → i < len → set xs i h ≡ padded n x (set (take len xs) i h)
    put_is i h l =
        ap (λ zs. set zs i h) (sym f.rest) ∙
        set-append_left (take len xs) (replicate (n - length (take len xs)) x) i h (let c = f.count in omega arith) ∙
        ap (λ (j : ℕ). set (take len xs) i h ++ replicate (n - j) x) (sym (length-set (take len xs) i h))

    pub put_view : (i : ℕ) (h : X) → i < len → take len (set xs i h) ≡ set (take len xs) i h
    put_view i h l = ap (take len) (put_is i h l) ∙ front (set (take len xs) i h) len (length-set (take len xs) i h ∙ f.count)

    pub put_at : (i : ℕ) (d : X) → i < len → get_or xs i d ≡ get_or (take len xs) i d
    put_at i d l = sym (get_or-take len xs i d l)

    pub put_filled : (i : ℕ) (h : X) → i < len → Filled n x len (set xs i h)
    put_filled i h l = subst (Filled n x len) (sym (put_is i h l)) (filled_of (set (take len xs) i h) len (length-set (take len xs) i h ∙ f.count) f.few)

-- ## An object's bytes

pub kept_of : (o : Place) (v : List ℕ) → Placed o → IsValue o v → Kept o (padded block_size 0 v)
kept_of o v p i =
    let f = front block_size 0 v (width o.size) i.0 in
    record { placed = p; value = subst (IsValue o) (sym f) i; rest = ap (padded block_size 0) f }

-- over zeros
pub over_zeros : (v : List ℕ) (m : ℕ) → length v ≡ m → v ++ drop m (replicate block_size 0) ≡ padded block_size 0 v
over_zeros v m e = ap (λ zs. v ++ zs) (drop-replicate m block_size 0) ∙ ap (λ (j : ℕ). v ++ replicate (block_size - j) 0) (sym e)
