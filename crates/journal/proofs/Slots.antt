-- Reads and overwrites by the operation with a number: what happens in its slot is what happens to the journal.
use Rattle.std.proofs.Common.{◌≡◌, ℕ, true, false, cond, List, [], length, set, Some, None, Ok, Option, unwrap_or, sym, refl, ap, ◌∙◌, ⊎_elim, arith}
use Rattle.std.proofs.lemmas.List.{set-get_or}
use Rattle.std.proofs.lemmas.Bool.{cases_Bool}
use Rattle.disk.specs.Tests.{unless}
use Rattle.disk.specs.Meaning.{Blocks}
use Rattle.object.specs.declared.Place.{Place}
use Rattle.object.specs.Objects.{width}
use Rattle.object.specs.Tables.{Held, is_in, holding}
use Rattle.model.specs.declared.Fault.{Fault}
use Rattle.model.specs.declared.Fault.TheVariants.{Ticket}
use Rattle.model.specs.Outcomes.{Outcome, decided, answering, refused_by, value_unless}
use Rattle.model.specs.Journal.{Open}
use Rattle.model.specs.Calls.{reads, overwrites, called, operation, held_by, with_operation, reading, grants}
use Rattle.journal_log.specs.declared.state.Log.{Log}
use Rattle.journal.specs.View.{opened}
use Rattle.journal.specs.Touch.{seen_by, read_into, read_by, overwritten_by}

-- what a call's outcome is, once it is told what refuses it
module _ {S : Type 0} (o : Outcome S) (buffer : List ℕ) (s : S) (d : Blocks) where
  pub decided_answer : (n : ℕ) → o.answer ≡ Ok n → (x : Option Fault) → value_unless x n ≡ (decided x buffer s d o).answer
  decided_answer n e None = sym e
  decided_answer n e (Some f) = refl

  pub decided_buffer : (x : Option Fault) → unless x o.buffer buffer ≡ (decided x buffer s d o).buffer
  decided_buffer None = refl
  decided_buffer (Some f) = refl

module _ (j : Open) (d : Blocks) (n : ℕ) (o : Place) where
  -- the journal with this operation, which it has already
  kept : with_operation j n (operation j n) ≡ j
  kept = ap (λ ts. let k : Open = record { log = j.log; operations = ts } in k) (set-get_or j.operations n None)

  -- after a read: t is what the operation held, x what refuses the read
  read_by_lem : (t : Option (List Held)) (x : Option Fault) (len : ℕ) → x ≡ read_by j.log d o t len → with_operation j n t ≡ j → (buffer : List ℕ) (w : ℕ) →
      with_operation j n (unless x (Some (read_into j.log d o (unwrap_or t []))) t) ≡
      (decided x buffer j d (answering w (seen_by j.log d o (unwrap_or t [])) (cond (is_in (unwrap_or t []) o) j (with_operation j n (Some (holding (unwrap_or t []) (record { place = o; bytes = seen_by j.log d o (unwrap_or t []); dirty = false }))))) d)).state
  read_by_lem None None len e k buffer w = let z : ◌≡◌ {A = ℕ} 0 1 = cc in absurd (omega arith)
  read_by_lem None (Some f) len e k buffer w = k
  read_by_lem (Some hs) (Some f) len e k buffer w = k
  read_by_lem (Some hs) None len e k buffer w =
      let h : Held = record { place = o; bytes = seen_by j.log d o hs; dirty = false } in
      ⊎_elim
      (λ (t : is_in hs o ≡ true). ap (λ b. with_operation j n (Some (cond b hs (holding hs h)))) t ∙ k ∙ sym (ap (λ b. cond b j (with_operation j n (Some (holding hs h)))) t))
      (λ (t : is_in hs o ≡ false). ap (λ b. with_operation j n (Some (cond b hs (holding hs h)))) t ∙ sym (ap (λ b. cond b j (with_operation j n (Some (holding hs h)))) t))
      (cases_Bool (is_in hs o))

  pub read_state : (buffer : List ℕ) →
      with_operation j n (unless (read_by j.log d o (operation j n) (length buffer)) (Some (read_into j.log d o (held_by j n))) (operation j n)) ≡ (called (reads n o buffer) j d).state
  read_state buffer = read_by_lem (operation j n) (read_by j.log d o (operation j n) (length buffer)) (length buffer) refl kept buffer (width o.size)

  overwritten_by_lem : (t : Option (List Held)) (x : Option Fault) → with_operation j n t ≡ j → (bytes : List ℕ) (w : ℕ) (h : Held) →
      with_operation j n (unless x (Some (holding (unwrap_or t []) h)) t) ≡ (decided x bytes j d (answering w bytes (with_operation j n (Some (holding (unwrap_or t []) h))) d)).state
  overwritten_by_lem t None k bytes w h = refl
  overwritten_by_lem t (Some f) k bytes w h = k

  pub overwritten_state : (bytes : List ℕ) →
      with_operation j n (unless (overwritten_by j.log d o (operation j n) bytes) (Some (holding (held_by j n) (record { place = o; bytes = bytes; dirty = true }))) (operation j n)) ≡ (called (overwrites n o bytes) j d).state
  overwritten_state bytes = overwritten_by_lem (operation j n) (overwritten_by j.log d o (operation j n) bytes) kept bytes (width o.size) (record { place = o; bytes = bytes; dirty = true })

  -- a number that no operation has
  module _ (none : operation j n ≡ None) where
    pub read_none : (buffer : List ℕ) → called (reads n o buffer) j d ≡ refused_by Ticket buffer j d
    read_none buffer = ap (λ t. decided (read_by j.log d o t (length buffer)) buffer j d (reading n o j d)) none

    pub overwritten_none : (bytes : List ℕ) → called (overwrites n o bytes) j d ≡ refused_by Ticket bytes j d
    overwritten_none bytes = ap (λ t. decided (overwritten_by j.log d o t bytes) bytes j d (grants (overwrites n o bytes) j d)) none

-- the journal after its slot has changed
pub slot_set : (l : Log) (ts : List (Option (List Held))) (n : ℕ) (s t : Option (List Held)) → s ≡ t → opened l (set ts n s) ≡ with_operation (opened l ts) n t
slot_set l ts n s t e = ap (λ x. with_operation (opened l ts) n x) e
