-- A commit: what its tests say once an operation is open, and what its updates make of the log.
use Rattle.std.proofs.Common.{◌≡◌, ℕ, ◌+◌, ◌-◌, ◌≤◌, true, not, ltb, List, [], ◌∷◌, ◌++◌, map, length, drop, is_some, Some, None, Ok, Err, Option, Result, unwrap_or, sym, ap, ◌∙◌, arith}
use Rattle.std.proofs.lemmas.List.FromFn.{length-map-range_with_len}
use Rattle.std.proofs.lemmas.Bool.{ltb-false, not-false}
use Rattle.disk.specs.Tests.{Test, first_of}
use Rattle.disk.specs.Meaning.{Blocks}
use Rattle.object.specs.Tables.{Held}
use Rattle.card.specs.declared.Update.{Update}
use Rattle.card.specs.Layout.{slots, highest}
use Rattle.model.specs.declared.Fault.{Fault}
use Rattle.model.specs.declared.LogFault.TheVariants.{Full, Exhausted}
use Rattle.model.specs.declared.Fault.TheVariants.{Ticket, Log as InLog}
use Rattle.model.specs.Journal.{Open}
use Rattle.model.specs.Log as model
use Rattle.model.specs.Log.{last}
use Rattle.model.specs.Steps.{room_tests, with_updates}
use Rattle.model.specs.Operations.{dirty_blocks, committed, bytes_tests}
use Rattle.model.specs.Outcomes.{decided, value_unless, passed}
use Rattle.model.specs.Calls.{operation, held_by, with_log, with_operation, ticket_tests, tests_of, committing, called, commits}
use Rattle.model.proofs.Tests.{value_ok, goes_on, halts, none_first, none_both}
use Rattle.law.proofs.Commits.{dirty_distinct}
use Rattle.journal_log.specs.declared.state.Log.{Log}
use Rattle.journal_log.specs.Ring.{row_at}
use Rattle.journal_log.specs.View.{view}
use Rattle.journal_log.specs.Updates.{settled, fresh, added_all, update_for}
use Rattle.journal_log.proofs.Merging.{merged_is, all_length}
use Rattle.journal.specs.Commit.{updates_of}

-- the updates below frozen are there
pub settled_there : (l : Log) → settled (view l) ≤ length (view l).updates
settled_there l = let n = length-map-range_with_len (row_at l.ring.rows) l.start (l.last - l.start) in let o = l.order in omega arith

-- what a commit leaves is its updates added to those of the log
pub committed_is : (hs : List Held) (l : model.Log) (d : Blocks) → committed hs l d ≡ added_all (settled l) (map (update_for hs d l.updates) (dirty_blocks hs [])) l.updates
committed_is hs l d = merged_is hs d (settled l) (dirty_blocks hs []) l.updates (dirty_distinct hs [])

-- ## The tests

module _ (j : Open) (d : Blocks) (n : ℕ) where
  abbrev tests : Option Fault
  tests = first_of (tests_of (commits n) j d)

  -- for an operation that holds these objects
  abbrev room_in : List Held → List (Test Fault)
  room_in hs = room_tests j.log (committed hs j.log d)

  abbrev bytes_in : List Held → List (Test Fault)
  bytes_in hs = bytes_tests j.log d (dirty_blocks hs [])

  -- for what stands under the number, if anything
  abbrev tests_by : Option (List Held) → Option Fault
  tests_by t = first_of ((not (is_some t), Ticket) ∷ (room_in (unwrap_or t []) ++ bytes_in (unwrap_or t [])))

  abbrev updates_by : Option (List Held) → List Update
  updates_by t = map (update_for (unwrap_or t []) d j.log.updates) (dirty_blocks (unwrap_or t []) [])

  -- bs are the dirty blocks of the operation; the room for their updates goes by how many take a position of their own
  module _ (hs : List Held) (has : Some hs ≡ operation j n) (bs : List ℕ) (is : bs ≡ dirty_blocks hs [])
      (fits : settled j.log ≤ length j.log.updates) where
    abbrev Sized : List Update → Type 0
    Sized us = length us ≡ length j.log.updates + fresh bs (drop (settled j.log) j.log.updates)

    sized : Sized (committed hs j.log d)
    sized =
        ap length (committed_is hs j.log d) ∙ all_length hs d (settled j.log) (dirty_blocks hs []) j.log.updates fits (dirty_distinct hs []) ∙
        ap (λ cs. length j.log.updates + fresh cs (drop (settled j.log) j.log.updates)) (sym is)

    open_tests_lem : tests ≡ first_of (room_in hs ++ bytes_in hs)
    open_tests_lem = sym (ap tests_by has)

    pub lacks_room : (f : Fault) → ((us : List Update) → Sized us → Err f ≡ passed (first_of (room_tests j.log us))) → Err f ≡ value_unless (tests) (updates_of j d n)
    lacks_room f told = halts (tests_of (commits n) j d) (room_in hs) (bytes_in hs) tt open_tests_lem (updates_of j d n) f (told (committed hs j.log d) sized)

    module _ (told : (us : List Update) → Sized us → Ok tt ≡ passed (first_of (room_tests j.log us))) where
      roomy : tests ≡ first_of (bytes_in hs)
      roomy = (goes_on (tests_of (commits n) j d) (room_in hs) (bytes_in hs) tt open_tests_lem tt (told (committed hs j.log d) sized)).0

      pub prepared : (r : Result (List Update) Fault) → r ≡ value_unless (first_of (bytes_tests j.log d bs)) (map (update_for hs d j.log.updates) bs) →
          r ≡ value_unless (tests) (updates_of j d n)
      prepared r e =
          e ∙ ap (λ cs. value_unless (first_of (bytes_tests j.log d cs)) (map (update_for hs d j.log.updates) cs)) is ∙
          ap (λ o. value_unless o (updates_by (Some hs))) (sym roomy) ∙ ap (λ t. value_unless (tests) (updates_by t)) has

  -- ## What a granted commit does

  module _ (vs : List Update) (ready : Ok vs ≡ value_unless (tests) (updates_of j d n)) where
    granted : tests ≡ None
    granted = (value_ok (tests) (updates_of j d n) vs ready).0

    does_commit : called (commits n) j d ≡ committing n j d
    does_commit = ap (λ o. decided o [] j d (committing n j d)) granted

    none : (first_of (ticket_tests j n) ≡ None) × (first_of (room_in (held_by j n) ++ bytes_in (held_by j n)) ≡ None)
    none = none_both (ticket_tests j n) (room_in (held_by j n) ++ bytes_in (held_by j n)) granted

    pub is_open : is_some (operation j n) ≡ true
    is_open = not-false (is_some (operation j n)) (none_first (not (is_some (operation j n)), Ticket) [] none.0).0

    abbrev all : List Update
    all = added_all (settled j.log) vs j.log.updates

    adds : committed (held_by j n) j.log d ≡ all
    adds = committed_is (held_by j n) j.log d ∙ ap (λ ws. added_all (settled j.log) ws j.log.updates) (sym (value_ok (tests) (updates_of j d n) vs ready).1)

    -- there is room for its updates
    pub room : (length all ≤ slots) × (j.log.start + length all ≤ highest)
    room =
        let us = committed (held_by j n) j.log d in
        let r = (none_both (room_in (held_by j n)) (bytes_in (held_by j n)) none.1).0 in
        let s = none_first (ltb slots (length us), InLog Full) ((ltb highest (j.log.start + length us), InLog Exhausted) ∷ []) r in
        let t = none_first (ltb highest (j.log.start + length us), InLog Exhausted) [] s.1 in
        let e = ap length adds in
        (omega (arith, ltb-false slots (length us) s.0), omega (arith, ltb-false highest (j.log.start + length us) t.0))

    -- the log has them, and the operation is over
    module _ (l : model.Log) (k : Open) (log : l ≡ with_updates j.log all) (over : k ≡ with_operation (with_log j l) n None) where
      pub commits_state : k ≡ (called (commits n) j d).state
      commits_state =
          over ∙ ap (λ x. with_operation (with_log j x) n None) (log ∙ ap (with_updates j.log) (sym adds)) ∙ sym (ap (λ o. o.state) does_commit)

      pub commits_answer : (p : ℕ) → p ≡ last k.log → Ok p ≡ (called (commits n) j d).answer
      commits_answer p e =
          ap Ok (e ∙ ap (λ x. last x.log) over ∙ ap last log ∙ ap (λ us. j.log.start + length us) (sym adds)) ∙ sym (ap (λ o. o.answer) does_commit)
