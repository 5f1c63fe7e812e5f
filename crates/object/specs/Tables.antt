-- The table of an operation: the objects that it has touched, in the order of first touch.
use Rattle.std.specs.Prelude.{ℕ, Bool, false, cond, not, List, [], ◌∷◌, Some, None, Option, ◌==◌}
use Rattle.disk.specs.Tests.{both, either}
use Rattle.object.specs.declared.Place.{Place}
use Rattle.object.specs.Objects.{same, overlap}

-- an object that an operation holds: its bytes as the operation sees them, and whether it has changed them
pub record Held : Type 0 where
  pub place : Place
  pub bytes : List ℕ
  pub dirty : Bool

-- how many objects an operation holds at most
abbrev pub most_held : ℕ
most_held = 8

abbrev pub value_in : List Held → Place → Option (List ℕ)
value_in [] o = None
value_in (h ∷ hs) o = cond (same h.place o) (Some h.bytes) (value_in hs o)

abbrev pub is_in : List Held → Place → Bool
is_in [] o = false
is_in (h ∷ hs) o = either (same h.place o) (is_in hs o)

-- the table with this entry for its object, at the end where there was none
abbrev pub holding : List Held → Held → List Held
holding [] h = h ∷ []
holding (g ∷ gs) h = cond (same g.place h.place) (h ∷ gs) (g ∷ holding gs h)

-- it holds an overlapping object of another size
abbrev pub clashes : List Held → Place → Bool
clashes [] o = false
clashes (h ∷ hs) o = either (both (overlap h.place o) (not (h.place.size == o.size))) (clashes hs o)

abbrev pub dirty_ones : List Held → List Held
dirty_ones [] = []
dirty_ones (h ∷ hs) = cond h.dirty (h ∷ dirty_ones hs) (dirty_ones hs)
