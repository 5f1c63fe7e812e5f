-- What an object's bytes are, and how an operation keeps them.
use Rattle.std.specs.Prelude.{◌≡◌, ◌-◌, ◌<◌, ◌≤◌, false, List, [], ◌∷◌, ◌++◌, ℕ, length, replicate, slice_index, take}
use Rattle.disk.specs.Meaning.{block_size}
use Rattle.object.specs.declared.Place.{Place}
use Rattle.object.specs.Objects.{width}
use Rattle.object.specs.Laws.{Placed}
use Rattle.object.specs.Tables.{Held}

-- as many as its size takes, and a bit is 0 or 1
abbrev pub IsValue : Place → List ℕ → Type 0
IsValue o v = (length v ≡ width o.size) × (o.size ≡ 1 → slice_index v 0 < 2)

-- a list with so many more of these at its end that n are there
abbrev pub padded : {X : Type 0} → ℕ → X → List X → List X
padded n x xs = xs ++ replicate (n - length xs) x

-- an object's bytes, and then zeros
pub record Kept (o : Place) (bs : List ℕ) : Type 0 where
  pub placed : Placed o
  pub value : IsValue o (take (width o.size) bs)
  pub rest : padded block_size 0 (take (width o.size) bs) ≡ bs

-- the first so many of n, and then only these
pub record Filled {X : Type 0} (n : ℕ) (x : X) (len : ℕ) (xs : List X) : Type 0 where
  pub few : len ≤ n
  pub count : length (take len xs) ≡ len
  pub rest : padded n x (take len xs) ≡ xs

-- what stands in a table's empty places: the first bit of all, zero
abbrev pub blank : Held
blank = record { place = record { block = 0; offset = 0; size = 1 }; bytes = 0 ∷ []; dirty = false }
