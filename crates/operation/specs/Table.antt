-- How a table's tests answer, and how the blocks of its objects are listed.
use Rattle.std.specs.Prelude.{ℕ, cond, not, List, [], ◌∷◌, ◌++◌, length, Ok, Err, Result, nat_le}
use Rattle.disk.specs.Tests.{Test, both}
use Rattle.object.specs.declared.ObjectFault.{ObjectFault}
use Rattle.object.specs.declared.ObjectFault.TheVariants.{Overlap, Table as Full}
use Rattle.object.specs.declared.Place.{Place}
use Rattle.object.specs.Tables.{Held, most_held, is_in, clashes}
use Rattle.model.specs.Operations.{among}
use Rattle.model.specs.declared.Fault.{Fault}
use Rattle.model.specs.declared.Fault.TheVariants.{Object}

-- the answer of an object test, as the journal's
abbrev pub as_fault : {X : Type 0} → Result X ObjectFault → Result X Fault
as_fault (Ok x) = Ok x
as_fault (Err f) = Err (Object f)

-- what is tested of a table for an object, before it is asked whether the object's block has bytes
abbrev pub table_room : List Held → Place → List (Test Fault)
table_room hs o =
    (clashes hs o, Object (Overlap o.block)) ∷
    (both (nat_le most_held (length hs)) (not (is_in hs o)), Object (Full o.block)) ∷ []

-- a list of blocks with an object's block at its end, if the object is dirty and the block not listed
abbrev pub with_dirty : List ℕ → Held → List ℕ
with_dirty bs h = cond (both h.dirty (not (among h.place.block bs))) (bs ++ h.place.block ∷ []) bs
