-- What a call answers and leaves.
use Rattle.std.specs.Prelude.{ℕ, zero, suc, List, [], length, Some, None, Ok, Err, Option, Result}
use Rattle.disk.specs.Meaning.{Blocks, one_more}
use Rattle.model.specs.declared.Fault.{Fault}

-- S is the state that the call works on; `wrote` are the blocks that it wrote, in order; `buffer` is the caller's buffer after the call, empty
-- where it has none
pub record Outcome (S : Type 0) : Type 0 where
  pub answer : Result ℕ Fault
  pub wrote : List ℕ
  pub buffer : List ℕ
  pub state : S
  pub disk : Blocks

-- a call that is refused changes nothing
abbrev pub refused_by : {S : Type 0} → Fault → List ℕ → S → Blocks → Outcome S
refused_by f buffer s d = record { answer = Err f; wrote = []; buffer = buffer; state = s; disk = d }

-- the granted outcome where nothing is refused; else the fault, and all as it came in
abbrev pub decided : {S : Type 0} → Option Fault → List ℕ → S → Blocks → Outcome S → Outcome S
decided None buffer s d granted = granted
decided (Some f) buffer s d granted = refused_by f buffer s d

-- a granted call that writes no block
abbrev pub answering : {S : Type 0} → ℕ → List ℕ → S → Blocks → Outcome S
answering n buffer s d = record { answer = Ok n; wrote = []; buffer = buffer; state = s; disk = d }

-- the outcome of a part, put back into the whole
abbrev pub within : {S T : Type 0} → (S → T) → Outcome S → Outcome T
within f o = record { answer = o.answer; wrote = o.wrote; buffer = o.buffer; state = f o.state; disk = o.disk }

-- the value where nothing is refused, else the fault
abbrev pub value_unless : {F X : Type 0} → Option F → X → Result X F
value_unless None x = Ok x
value_unless (Some f) x = Err f

-- an answer that says only whether
abbrev pub passed : {F : Type 0} → Option F → Result (Unit {0}) F
passed o = value_unless o tt

-- a disk's count of writes after k more
abbrev pub after_writes : ℕ → ℕ → ℕ
after_writes zero writes = writes
after_writes (suc k) writes = one_more (after_writes k writes)

-- and after a call
abbrev pub writes_after : {S : Type 0} → Outcome S → ℕ → ℕ
writes_after o writes = after_writes (length o.wrote) writes
