-- The refusals of format and of opening in the order in which they are tried: number, layer and place of each.
use Rattle.std.specs.Prelude.{◌≡◌, ℕ, ◌≤◌, List, [], ◌∷◌, ◌++◌, map, Some, None, Err}
use Rattle.std.specs.List.{range_with_len, AllByRecursion}
use Rattle.disk.specs.declared.fault.Layer.{Layer}
use Rattle.disk.specs.declared.fault.Layer.TheVariants as layers
use Rattle.disk.specs.Tests.{Test, first_of}
use Rattle.disk.specs.Meaning.{Blocks}
use Rattle.card.specs.Layout.{homes_from, slot, log_block, home_on, live_positions}
use Rattle.model.specs.declared.Fault.{Fault}
use Rattle.model.specs.declared.Fault.TheVariants.{Shut}
use Rattle.model.specs.Faults.{number, layer, place}
use Rattle.model.specs.Journal.{Open, View, format_tests, open_tests}
use Rattle.model.specs.Outcomes.{refused_by}
use Rattle.model.specs.Operations.{dirty_blocks}
use Rattle.model.specs.Calls.{Call, begins, reads, overwrites, commits, gives_up, flushes, logs, installs, buffer_of, outcome, held_by, tests_of}

-- number, layer and place
abbrev pub Told : Type 0
Told = ℕ × Layer × ℕ

abbrev pub told : Test Fault → Told
told t = (number t.1, layer t.1, place t.1)

abbrev pub by_log : ℕ → ℕ → Told
by_log n at = (n, layers.Log, at)

abbrev pub format_order : List Told
format_order = (5, layers.Operation, 0) ∷ by_log 6 0 ∷ map (by_log 7) (range_with_len 0 homes_from)

abbrev pub FormatOrder : Type 0
FormatOrder = (v : View) (d : Blocks) → map told (format_tests v d) ≡ format_order

abbrev pub home_at : Blocks → ℕ → ℕ
home_at d p = home_on d (slot p)

-- a home below the data blocks is refused by number 10, before it could be asked whether it is dead
abbrev pub OpeningOrder : Type 0
OpeningOrder = (v : View) (d : Blocks) → AllByRecursion (λ p. homes_from ≤ home_at d p) (live_positions d) →
    map told (open_tests v d) ≡ format_order ++ (by_log 8 0 ∷ by_log 8 1 ∷ by_log 9 0 ∷
    (map (λ p. by_log 10 (log_block p)) (live_positions d) ++ map (λ p. by_log 11 (home_at d p)) (live_positions d)))

-- ## The other calls

abbrev pub by_operation : ℕ → Told
by_operation n = (n, layers.Operation, 0)

abbrev pub by_object : ℕ → ℕ → Told
by_object at n = (n, layers.Object, at)

-- a commit's tests of dead blocks come into play in no run
abbrev pub order_of : Call → Open → List Told
order_of (begins n) j = by_operation 12 ∷ []
order_of (reads n o buffer) j = by_operation 13 ∷ map (by_object o.block) (14 ∷ 15 ∷ 16 ∷ 18 ∷ 19 ∷ 20 ∷ [])
order_of (overwrites n o bytes) j = by_operation 13 ∷ map (by_object o.block) (14 ∷ 15 ∷ 16 ∷ 17 ∷ 18 ∷ 19 ∷ 20 ∷ [])
order_of (commits n) j = by_operation 13 ∷ by_log 21 0 ∷ by_log 22 0 ∷ map (λ b. by_object b 20) (dirty_blocks (held_by j n) [])
order_of (gives_up n) j = by_operation 13 ∷ []
order_of flushes j = []
order_of logs j = []
order_of installs j = []

-- a shut journal refuses every call with number 4; of an open one the tests are these, and a call is refused by the first that applies
pub record CallOrder (c : Call) (d : Blocks) : Type 0 where
  pub on_shut : (outcome c None d).answer ≡ Err Shut
  pub number_shut : (number Shut, layer Shut, place Shut) ≡ by_operation 4
  pub tests : (j : Open) → map told (tests_of c j d) ≡ order_of c j
  pub refused : (j : Open) (f : Fault) → first_of (tests_of c j d) ≡ Some f → outcome c (Some j) d ≡ refused_by f (buffer_of c) (Some j) d

abbrev pub CallsOrder : Type 0
CallsOrder = (c : Call) (d : Blocks) → CallOrder c d
