-- Refusals in order: a call has a list of tests, and the first whose condition holds gives the fault.
use Rattle.std.specs.Prelude.{Bool, true, false, cond, List, [], ◌∷◌, Some, None, Option}

-- conditions joined
abbrev pub both : Bool → Bool → Bool
both a b = cond a b false

abbrev pub either : Bool → Bool → Bool
either a b = cond a true b

-- a condition, and the fault that is returned where it holds
abbrev pub Test : Type 0 → Type 0
Test F = Bool × F

-- the fault of the first test that applies
abbrev pub first_of : {F : Type 0} → List (Test F) → Option F
first_of [] = None
first_of (t ∷ ts) = cond t.0 (Some t.1) (first_of ts)

-- the first where nothing is refused, else the second
abbrev pub unless : {A F : Type 0} → Option F → A → A → A
unless None a b = a
unless (Some f) a b = b
