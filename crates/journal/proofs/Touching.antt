-- What the tests of a table come to as they are made one after another, and what is then seen and held.
use Rattle.std.proofs.Common.{◌≡◌, ℕ, ◌<◌, length, Bool, true, false, cond, not, leb, List, [], ◌∷◌, ◌++◌, is_some, Some, None, Ok, Err, Option, unwrap_or, sym, ap, ◌∙◌}
use Rattle.disk.specs.declared.fault.DiskFault.TheVariants.{Dead}
use Rattle.disk.specs.Tests.{Test, first_of, unless, both, either}
use Rattle.disk.specs.Meaning.{Blocks, bytes_or}
use Rattle.object.specs.declared.ObjectFault.{ObjectFault}
use Rattle.object.specs.declared.ObjectFault.TheVariants.{DeadBlock, Overlap, Table as Full}
use Rattle.object.specs.declared.Place.{Place}
use Rattle.object.specs.Objects.{part}
use Rattle.object.specs.Tables.{Held, most_held, value_in, is_in, holding, clashes}
use Rattle.object.proofs.Tables.{held_found}
use Rattle.model.specs.declared.Fault.{Fault}
use Rattle.model.specs.declared.Fault.TheVariants.{Object}
use Rattle.model.specs.Log.{Log}
use Rattle.model.specs.Steps.{newest}
use Rattle.model.specs.Outcomes.{passed, value_unless}
use Rattle.model.proofs.Tests.{none_first, past, stops, value_ok, value_err}
use Rattle.operation.specs.Table.{as_fault, table_room}
use Rattle.operation.proofs.Tables.{holding_absent, room_left}
use Rattle.journal.proofs.Views.{is_some_not}
use Rattle.journal.specs.Touch.{held_tests, seen_by, read_into}

-- ## Refusals

module _ {o : Option Fault} where
  pub refused_so : {X : Type 0} (f : Fault) (a b : X) → o ≡ Some f → b ≡ unless o a b
  refused_so f a b e = sym (ap (λ x. unless x a b) e)

  pub granted_so : {X : Type 0} (a b : X) → o ≡ None → a ≡ unless o a b
  granted_so a b e = sym (ap (λ x. unless x a b) e)

pub same_way : {X : Type 0} {o p : Option Fault} (a b : X) → o ≡ p → unless p a b ≡ unless o a b
same_way a b e = sym (ap (λ x. unless x a b) e)

-- tests in two parts: the first refuses, or the rest decide
module _ (xs ys : List (Test Fault)) where
  pub stopped : {X : Type 0} (x : X) (f : Fault) → Err f ≡ value_unless (first_of xs) x → first_of (xs ++ ys) ≡ Some f
  stopped x f e = stops xs ys f (value_err (first_of xs) x f e)

  pub went_on : {X : Type 0} (x y : X) → Ok y ≡ value_unless (first_of xs) x → first_of (xs ++ ys) ≡ first_of ys
  went_on x y e = past xs ys (value_ok (first_of xs) x y e).0

pub not_in : (o : Place) (hs : List Held) → value_in hs o ≡ None → is_in hs o ≡ false
not_in o hs none = held_found hs o ∙ ap is_some none

module _ (l : Log) (d : Blocks) (o : Place) (hs : List Held) where
  abbrev known : Bool
  known = either (is_in hs o) (is_some (newest l d o.block))

  abbrev life : List (Test Fault)
  life = (not known, Object (DeadBlock (Dead o.block))) ∷ []

  pub room_refused : (f : ObjectFault) → as_fault (Err f) ≡ passed (first_of (table_room hs o)) → first_of (held_tests l d o hs) ≡ Some (Object f)
  room_refused f e = stops (table_room hs o) life (Object f) (value_err (first_of (table_room hs o)) tt (Object f) e)

  module _ (room : Ok tt ≡ passed (first_of (table_room hs o))) where
    clear : first_of (table_room hs o) ≡ None
    clear = (value_ok (first_of (table_room hs o)) tt tt room).0

    -- there is room for one that is not held
    pub room_for_one : is_in hs o ≡ false → length hs < 8
    room_for_one a =
        let full : Test Fault = (both (leb most_held (length hs)) (not (is_in hs o)), Object (Full o.block)) in
        room_left hs o a (none_first full [] (none_first (clashes hs o, Object (Overlap o.block)) (full ∷ []) clear).1).0

    left : first_of (held_tests l d o hs) ≡ cond (not known) (Some (Object (DeadBlock (Dead o.block)))) None
    left = past (table_room hs o) life clear

    pub in_granted : is_in hs o ≡ true → first_of (held_tests l d o hs) ≡ None
    in_granted e = left ∙ ap (λ t. cond (not (either t (is_some (newest l d o.block)))) (Some (Object (DeadBlock (Dead o.block)))) None) e

    module _ (v : List ℕ) (held : value_in hs o ≡ Some v) where
      is_in_lem : is_in hs o ≡ true
      is_in_lem = held_found hs o ∙ ap is_some held

      pub held_granted : first_of (held_tests l d o hs) ≡ None
      held_granted = in_granted is_in_lem

      pub held_seen : v ≡ seen_by l d o hs
      held_seen = sym (ap (λ x. unwrap_or x (part o (bytes_or (newest l d o.block) []))) held)

      pub held_same : hs ≡ read_into l d o hs
      held_same = sym (ap (λ t. cond t hs (holding hs (record { place = o; bytes = seen_by l d o hs; dirty = false }))) is_in_lem)

    module _ (none : is_in hs o ≡ false) where
      by_life : first_of (held_tests l d o hs) ≡ cond (not (is_some (newest l d o.block))) (Some (Object (DeadBlock (Dead o.block)))) None
      by_life = left ∙ ap (λ t. cond (not (either t (is_some (newest l d o.block)))) (Some (Object (DeadBlock (Dead o.block)))) None) none

      pub dead_refused : newest l d o.block ≡ None → first_of (held_tests l d o hs) ≡ Some (Object (DeadBlock (Dead o.block)))
      dead_refused e = by_life ∙ ap (λ x. cond (not (is_some x)) (Some (Object (DeadBlock (Dead o.block)))) None) e

      absent : value_in hs o ≡ None
      absent = is_some_not (value_in hs o) (sym (held_found hs o) ∙ none)

      module _ (bs : List ℕ) (found : newest l d o.block ≡ Some bs) where
        pub live_granted : first_of (held_tests l d o hs) ≡ None
        live_granted = by_life ∙ ap (λ x. cond (not (is_some x)) (Some (Object (DeadBlock (Dead o.block)))) None) found

        pub live_seen : part o bs ≡ seen_by l d o hs
        live_seen = sym (ap (λ x. unwrap_or x (part o (bytes_or (newest l d o.block) []))) absent ∙ ap (λ x. part o (bytes_or x [])) found)

        pub live_held : (v : List ℕ) → v ≡ part o bs → hs ++ record { place = o; bytes = v; dirty = false } ∷ [] ≡ read_into l d o hs
        live_held v e =
            ap (λ x. hs ++ record { place = o; bytes = x; dirty = false } ∷ []) (e ∙ live_seen) ∙
            sym (ap (λ t. cond t hs (holding hs (record { place = o; bytes = seen_by l d o hs; dirty = false }))) none ∙ holding_absent (record { place = o; bytes = seen_by l d o hs; dirty = false }) hs none)
