-- The tests of opening one list after another, and what is read once they are passed.
use Rattle.std.proofs.Common.{◌≡◌, ℕ, ◌+◌, ◌-◌, ◌<◌, ◌≤◌, true, false, not, ltb, leb, List, [], ◌++◌, map, length, get_or, set, Some, None, Ok, Err, Result, sym, refl, ap, ◌∙◌, subst, ⊎_elim, mod-lt, arith, get_or-set_other, get_or-set_same}
use Rattle.std.proofs.lemmas.Bool.{ltb-false, leb-false, cases_eq}
use Rattle.std.proofs.lemmas.List.{append-nil}
use Rattle.disk.specs.declared.fault.DiskFault.{DiskFault}
use Rattle.disk.specs.Tests.{Test, first_of}
use Rattle.disk.specs.Meaning.{Blocks}
use Rattle.card.specs.declared.Header.{Header}
use Rattle.card.specs.declared.Update.{Update}
use Rattle.card.specs.Layout.{slots, homes_from, highest, slot, log_block, homes_in, header_end, start_end, header_in, start_in, bytes_on, end_on, start_on, home_on, update_on, live_positions, live_updates}
use Rattle.card.proofs.Headers.{home_read}
use Rattle.card.proofs.Slots.{slots_differ}
use Rattle.model.specs.declared.LogFault.{LogFault}
use Rattle.model.specs.declared.LogFault.TheVariants.{Dead}
use Rattle.model.specs.Outcomes.{value_unless, passed}
use Rattle.model.specs.Log as model
use Rattle.model.specs.Log.{reserved_tests, position_tests, head_tests, range_test, life_test, home_tests, card_tests, opening_tests, log_on}
use Rattle.model.specs.Card.{Ready}
use Rattle.model.proofs.Tests.{value_ok, none_first, none_both, none_each, goes_on, halts, map_counting_same}
use Rattle.law.proofs.Absorb.{either_false}
use Rattle.journal_log.specs.declared.open.Head.{Head}
use Rattle.journal_log.specs.Ring.{row_at, rows_from}
use Rattle.journal_log.specs.View.{head_on, log_from, fetched}
use Rattle.journal_log.proofs.Fetch.{fetch_dead, fetch_live}

-- ## Blocks 0 and 1

module _ (d : Blocks) where
  abbrev first : List (Test LogFault)
  first = reserved_tests d 0 header_end

  abbrev second : List (Test LogFault)
  second = reserved_tests d 1 start_end

  abbrev third : List (Test LogFault)
  third = position_tests (start_on d) (end_on d)

  pub head_refused_0 : (f : LogFault) → Err f ≡ value_unless (first_of first) (bytes_on d 0) → Err f ≡ value_unless (first_of (head_tests d)) (head_on d)
  head_refused_0 f e = halts (head_tests d) first (second ++ third) (bytes_on d 0) refl (head_on d) f e

  module _ (b0 : List ℕ) (ok0 : Ok b0 ≡ value_unless (first_of first) (bytes_on d 0)) where
    after_first : (first_of (head_tests d) ≡ first_of (second ++ third)) × (b0 ≡ bytes_on d 0)
    after_first = goes_on (head_tests d) first (second ++ third) (bytes_on d 0) refl b0 ok0

    pub head_refused_1 : (f : LogFault) → Err f ≡ value_unless (first_of second) (bytes_on d 1) → Err f ≡ value_unless (first_of (head_tests d)) (head_on d)
    head_refused_1 f e = halts (head_tests d) second third (bytes_on d 1) after_first.0 (head_on d) f e

    module _ (b1 : List ℕ) (ok1 : Ok b1 ≡ value_unless (first_of second) (bytes_on d 1)) (h : Header) (s : ℕ) (at-h : h ≡ header_in b0) (at-s : s ≡ start_in b1) where
      after_second : (first_of (head_tests d) ≡ first_of third) × (b1 ≡ bytes_on d 1)
      after_second = goes_on (head_tests d) second third (bytes_on d 1) after_first.0 b1 ok1

      is_header : h ≡ header_in (bytes_on d 0)
      is_header = at-h ∙ ap header_in after_first.1

      is_start : s ≡ start_on d
      is_start = at-s ∙ ap start_in after_second.1

      same_tests : passed (first_of (position_tests s h.end)) ≡ passed (first_of third)
      same_tests = ap (λ n. passed (first_of (position_tests n h.end))) is_start ∙ ap (λ (x : Header). passed (first_of (position_tests (start_on d) x.end))) is_header

      pub head_read : Ok tt ≡ passed (first_of (position_tests s h.end)) → Ok (record { start = s; header = h }) ≡ value_unless (first_of (head_tests d)) (head_on d)
      head_read e =
          ap (λ n. Ok (record { start = n; header = h })) is_start ∙ ap (λ x. Ok (record { start = start_on d; header = x })) is_header ∙
          sym (ap (λ o. value_unless o (head_on d)) (goes_on (head_tests d) third [] tt after_second.0 tt (e ∙ same_tests)).0)

-- what the tests of blocks 0 and 1 answer, as the answer of their reading
pub head_found : (d : Blocks) (h : Head) → first_of (head_tests d) ≡ None → h ≡ head_on d → Ok h ≡ value_unless (first_of (head_tests d)) (head_on d)
head_found d h e is = ap Ok is ∙ sym (ap (λ o. value_unless o (head_on d)) e)

pub head_fault : (d : Blocks) (f : LogFault) → first_of (head_tests d) ≡ Some f → Err f ≡ value_unless (first_of (head_tests d)) (head_on d)
head_fault d f e = sym (ap (λ o. value_unless o (head_on d)) e)

-- ## Homes

-- the positions that the head says are live
pub head_spans : (d : Blocks) (h : Head) → h ≡ head_on d → (h.start ≡ start_on d) × (h.header.end ≡ end_on d)
head_spans d h e = (ap (λ (x : Head). x.start) e, ap (λ (x : Head). x.header.end) e)

-- the home number of a position, as the head has it
pub head_home : (d : Blocks) (h : Head) → h ≡ head_on d → (p : ℕ) → get_or h.header.homes (slot p) 0 ≡ home_on d (slot p)
head_home d h e p = home_read (bytes_on d 0) h.header (ap (λ (x : Head). x.header) e) p

-- a home in range
in_range : (d : Blocks) → first_of (map (range_test d) (live_positions d)) ≡ None → (p : ℕ) → start_on d ≤ p → p < end_on d → home_on d (slot p) < length d
in_range d e p a b =
    leb-false (length d) (home_on d (slot p)) (either_false (ltb (home_on d (slot p)) homes_from) (leb (length d) (home_on d (slot p)))
    (none_each (range_test d) (start_on d) (end_on d - start_on d) e p a (omega arith))).1

module _ (d : Blocks) (ranges : first_of (map (range_test d) (live_positions d)) ≡ None) (p x : ℕ) (is : x ≡ home_on d (slot p)) (a : start_on d ≤ p) (b : p < end_on d) where
  pub life_dead : (f : DiskFault) → Err f ≡ fetched d x → ((life_test d p).0 ≡ true) × (Dead f ≡ (life_test d p).1)
  life_dead f e =
      let g = fetch_dead d (home_on d (slot p)) f (in_range d ranges p a b) (e ∙ ap (fetched d) is) in
      (ap not g.0, ap Dead g.1)

  pub life_live : (bs : List ℕ) → Ok bs ≡ fetched d x → (life_test d p).0 ≡ false
  life_live bs e = ap not (fetch_live d (home_on d (slot p)) bs (in_range d ranges p a b) (e ∙ ap (fetched d) is)).0

pub homes_refused : (d : Blocks) (f : LogFault) → Err f ≡ passed (first_of (map (range_test d) (live_positions d))) → Err f ≡ passed (first_of (home_tests d))
homes_refused d f e = halts (home_tests d) (map (range_test d) (live_positions d)) (map (life_test d) (live_positions d)) tt refl tt f e

pub homes_told : (d : Blocks) (r : Result (Unit {0}) LogFault) → Ok tt ≡ passed (first_of (map (range_test d) (live_positions d))) → r ≡ passed (first_of (map (life_test d) (live_positions d))) → r ≡ passed (first_of (home_tests d))
homes_told d r ok e = e ∙ sym (ap passed (goes_on (home_tests d) (map (range_test d) (live_positions d)) (map (life_test d) (live_positions d)) tt refl tt ok).0)

-- ## Rows

pub row_read : (d : Blocks) → Ready d → (p b x : ℕ) (bs : List ℕ) → x ≡ home_on d (slot p) → b ≡ log_block p → Ok bs ≡ fetched d b → record { home = x; bytes = bs } ≡ update_on d p
row_read d r p b x bs at_x at_b e =
    let m = mod-lt p {m = slots} (omega arith) in
    let f = (fetch_live d (log_block p) bs (omega (arith, r.large)) (e ∙ ap (fetched d) at_b)).1 in
    ap (λ n. record { home = n; bytes = bs }) at_x ∙ ap (λ (ys : List ℕ). record { home = home_on d (slot p); bytes = ys }) f

module _ (d : Blocks) (rows : List Update) (start p : ℕ) (u : Update) (l : length rows ≡ slots) (from : start ≤ p) (room : p < start + slots) (is : u ≡ update_on d p)
    (before : (q : ℕ) → start ≤ q → q < p → row_at rows q ≡ update_on d q) where
  -- one row more: no earlier one has its slot
  pub rows_more : (q : ℕ) → start ≤ q → q < p + 1 → row_at (set rows (slot p) u) q ≡ update_on d q
  rows_more q a b = ⊎_elim
      (λ same. subst (λ (k : ℕ). row_at (set rows (slot p) u) k ≡ update_on d k) (sym same) (get_or-set_same rows (slot p) u _ (let m = mod-lt p {m = slots} (omega arith) in omega arith) ∙ is))
      (λ ne. get_or-set_other rows (slot p) (slot q) u _ (λ e. slots_differ slots q p (omega arith) (omega arith) e) ∙ before q a (omega arith))
      (cases_eq q p)

pub rows_are : (d : Blocks) (rows : List Update) → ((p : ℕ) → start_on d ≤ p → p < end_on d → row_at rows p ≡ update_on d p) → rows_from rows (start_on d) (end_on d - start_on d) ≡ live_updates d
rows_are d rows h = map_counting_same (row_at rows) (update_on d) (start_on d) (end_on d - start_on d) (λ p a b. h p a (omega arith))

-- ## The whole

-- positions that are in order, near enough and not too high
pub near : (d : Blocks) → first_of (head_tests d) ≡ None → (start_on d ≤ end_on d) × (end_on d ≤ start_on d + slots) × (end_on d ≤ highest)
near d e =
    let p = (none_first _ [] (none_both (reserved_tests d 1 start_end) (position_tests (start_on d) (end_on d)) (none_both (reserved_tests d 0 header_end) (reserved_tests d 1 start_end ++ position_tests (start_on d) (end_on d)) e).1).1).0 in
    let q = either_false (ltb (end_on d) (start_on d)) _ p in
    let r = either_false (ltb slots (end_on d - start_on d)) _ q.1 in
    let s = ltb-false (end_on d) (start_on d) q.0 in
    let t = ltb-false slots (end_on d - start_on d) r.0 in
    (omega arith, omega arith, ltb-false highest (end_on d) r.1)

-- what the card's log is, with these updates
abbrev log_with : Blocks → List Update → model.Log
log_with d us = record { start = start_on d; end = end_on d; frozen = end_on d; updates = us; homes = homes_in (bytes_on d 0); logging = None; installing = None }

module _ (d : Blocks) where
  pub open_refused_0 : (f : LogFault) → Err f ≡ passed (first_of (card_tests d)) → Err f ≡ value_unless (first_of (opening_tests d)) (log_on d)
  open_refused_0 f e = halts (opening_tests d) (card_tests d) (head_tests d ++ home_tests d) tt refl (log_on d) f e

  module _ (ok0 : Ok tt ≡ passed (first_of (card_tests d))) where
    after_card : first_of (opening_tests d) ≡ first_of (head_tests d ++ home_tests d)
    after_card = (goes_on (opening_tests d) (card_tests d) (head_tests d ++ home_tests d) tt refl tt ok0).0

    pub open_refused_1 : (f : LogFault) → Err f ≡ value_unless (first_of (head_tests d)) (head_on d) → Err f ≡ value_unless (first_of (opening_tests d)) (log_on d)
    open_refused_1 f e = halts (opening_tests d) (head_tests d) (home_tests d) (head_on d) after_card (log_on d) f e

    module _ (h : Head) (ok1 : Ok h ≡ value_unless (first_of (head_tests d)) (head_on d)) where
      after_head : (first_of (opening_tests d) ≡ first_of (home_tests d)) × (h ≡ head_on d)
      after_head = goes_on (opening_tests d) (head_tests d) (home_tests d) (head_on d) after_card h ok1

      pub open_refused_2 : (f : LogFault) → Err f ≡ passed (first_of (home_tests d)) → Err f ≡ value_unless (first_of (opening_tests d)) (log_on d)
      open_refused_2 f e = halts (opening_tests d) (home_tests d) [] tt (after_head.0 ∙ ap first_of (sym (append-nil (home_tests d)))) (log_on d) f e

      pub opened : Ok tt ≡ passed (first_of (home_tests d)) → (rows : List Update) → ((p : ℕ) → start_on d ≤ p → p < end_on d → row_at rows p ≡ update_on d p) →
          Ok (log_from h.start h.header.end h.header.end h.header.end rows h.header.homes None None) ≡ value_unless (first_of (opening_tests d)) (log_on d)
      opened e rows all =
          ap (λ (x : Head). Ok (log_from x.start x.header.end x.header.end x.header.end rows x.header.homes None None)) after_head.1 ∙
          ap (λ us. Ok (log_with d us)) (rows_are d rows all) ∙
          sym (ap (λ o. value_unless o (log_on d)) (after_head.0 ∙ (value_ok (first_of (home_tests d)) tt tt e).0))
