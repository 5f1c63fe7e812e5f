-- How far a round of the logger or of the installer is. Where none is running it counts as one that has nothing to do.
use Rattle.std.specs.Prelude.{ℕ, Some, None, Option}
use Rattle.model.specs.declared.Round.{Round}

-- the next position to write; `idle` where none is running
abbrev pub next_in : Option Round → ℕ → ℕ
next_in None idle = idle
next_in (Some r) idle = r.next

abbrev pub target_in : Option Round → ℕ → ℕ
target_in None idle = idle
target_in (Some r) idle = r.target
