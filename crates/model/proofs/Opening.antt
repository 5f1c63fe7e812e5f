-- An opening takes the sound cards and no others.
use Rattle.std.proofs.Common.{◌≡◌, ℕ, zero, suc, ◌+◌, ◌-◌, ◌<◌, ◌≤◌, Bool, true, false, cond, not, eqb, ltb, leb, List, [], ◌∷◌, ◌++◌, map, length, get_or, drop, Some, None, Option, sym, refl, ap, ◌∙◌, arith, length-drop, get_or-drop}
use Rattle.std.specs.Option.{option_map}
use Rattle.std.proofs.lemmas.Bool.{eq-eqb, eqb-true, leb-false, lt-leb, ltb-false, le-ltb}
use Rattle.disk.specs.Tests.{first_of, either}
use Rattle.disk.specs.Meaning.{Blocks, block, is_live, Whole}
use Rattle.card.specs.Bytes.{all_zero}
use Rattle.card.specs.Layout.{slots, homes_from, highest, slot, header_end, start_end, bytes_on, start_on, end_on, home_on, live_positions}
use Rattle.model.specs.declared.Fault.{Fault}
use Rattle.model.specs.declared.Fault.TheVariants.{Log as InLog}
use Rattle.model.specs.declared.LogFault.TheVariants.{Reserved, Positions}
use Rattle.model.specs.Outcomes.{decided}
use Rattle.model.specs.Log.{card_tests, reserved_tests, position_tests, head_tests, range_test, life_test, home_tests, opening_tests}
use Rattle.model.specs.Journal.{shut, open_tests}
use Rattle.model.specs.Sound.{Sound, OpeningLaw}
use Rattle.model.proofs.Tests.{past, first_mapped, none_first, none_both, none_from, none_each}
use Rattle.model.proofs.Card.{card_ready, ready_card, live_bytes, not_false}
use Rattle.model.proofs.Calls.{opens, opening_granted}

-- ## Conditions

both_true : (a b : Bool) → cond a b false ≡ true → (a ≡ true) × (b ≡ true)
both_true true b e = (refl, e)
both_true false b e = let z : ◌≡◌ {A = ℕ} 0 1 = cc in absurd (omega arith)

either_false : (a b : Bool) → either a b ≡ false → (a ≡ false) × (b ≡ false)
either_false true b e = let z : ◌≡◌ {A = ℕ} 0 1 = cc in absurd (omega arith)
either_false false b e = (refl, e)

neither : (a b : Bool) → a ≡ false → b ≡ false → either a b ≡ false
neither a b p q = ap (λ x. either x b) p ∙ q

-- ## Zeros

zero_each : (bs : List ℕ) → all_zero bs ≡ true → (i : ℕ) → get_or bs i 0 ≡ 0
zero_each [] e i = refl
zero_each (b ∷ bs) e zero = eqb-true b 0 (both_true (eqb b 0) (all_zero bs) e).0
zero_each (b ∷ bs) e (suc i) = zero_each bs (both_true (eqb b 0) (all_zero bs) e).1 i

zero_all : (bs : List ℕ) → ((i : ℕ) → i < length bs → get_or bs i 0 ≡ 0) → all_zero bs ≡ true
zero_all [] h = refl
zero_all (b ∷ bs) h =
    ap (λ t. cond t (all_zero bs) false) (eq-eqb b 0 (h 0 (omega arith))) ∙ zero_all bs (λ i l. h (suc i) (omega arith))

module _ (d : Blocks) (b at : ℕ) where
  -- reserved bytes that the test passes are zero, and zeros pass it
  pub reserved_zero : first_of (reserved_tests d b at) ≡ None → (i : ℕ) → at ≤ i → get_or (bytes_on d b) i 0 ≡ 0
  reserved_zero e i l =
      let z = zero_each (drop at (bytes_on d b)) (not_false _ (none_first _ [] e).0) (i - at) in
      ap (λ n. get_or (bytes_on d b) n 0) (let q : i ≡ at + (i - at) = omega arith in q) ∙ sym (get_or-drop at (bytes_on d b) (i - at) 0) ∙ z

  pub zero_reserved : ((i : ℕ) → at ≤ i → i < length (bytes_on d b) → get_or (bytes_on d b) i 0 ≡ 0) → first_of (reserved_tests d b at) ≡ None
  zero_reserved h = ap (λ t. cond (not t) (Some (Reserved b)) None)
      (zero_all (drop at (bytes_on d b)) (λ i l. let m = length-drop at (bytes_on d b) in get_or-drop at (bytes_on d b) i 0 ∙ h (at + i) (omega arith) (omega arith)))

-- ## Positions

pub positions_passed : (s e : ℕ) → first_of (position_tests s e) ≡ None → (s ≤ e) × (e ≤ s + slots) × (e ≤ highest)
positions_passed s e p =
    let q = either_false (ltb e s) (either (ltb slots (e - s)) (ltb highest e)) (none_first _ [] p).0 in
    let r = either_false (ltb slots (e - s)) (ltb highest e) q.1 in
    let a = ltb-false e s q.0 in
    let b = ltb-false slots (e - s) r.0 in
    (a, omega arith, ltb-false highest e r.1)

pub positions_pass : (s e : ℕ) → s ≤ e → e ≤ s + slots → e ≤ highest → first_of (position_tests s e) ≡ None
positions_pass s e a b c = ap (λ t. cond t (Some Positions) None)
    (neither (ltb e s) (either (ltb slots (e - s)) (ltb highest e)) (le-ltb e s a) (neither (ltb slots (e - s)) (ltb highest e) (le-ltb slots (e - s) (omega arith)) (le-ltb highest e c)))

-- ## Homes

-- a home number that passes is that of a live data block
abbrev GoodHome : Blocks → ℕ → Type 0
GoodHome d h = (homes_from ≤ h) × (h < length d) × (is_live (block d h) ≡ true)

module _ (d : Blocks) where
  homes_passed : first_of (home_tests d) ≡ None → (p : ℕ) → start_on d ≤ p → p < end_on d → GoodHome d (home_on d (slot p))
  homes_passed e p a b =
      let h = home_on d (slot p) in
      let both = none_both (map (range_test d) (live_positions d)) (map (life_test d) (live_positions d)) e in
      let range = either_false (ltb h homes_from) (leb (length d) h) (none_each (range_test d) (start_on d) (end_on d - start_on d) both.0 p a (omega arith)) in
      (ltb-false h homes_from range.0, leb-false (length d) h range.1, not_false (is_live (block d h)) (none_each (life_test d) (start_on d) (end_on d - start_on d) both.1 p a (omega arith)))

  homes_pass : ((p : ℕ) → start_on d ≤ p → p < end_on d → GoodHome d (home_on d (slot p))) → first_of (home_tests d) ≡ None
  homes_pass good =
      past (map (range_test d) (live_positions d)) (map (life_test d) (live_positions d))
      (none_from (range_test d) (start_on d) (end_on d - start_on d) (λ p a b. let g = good p a (omega arith) in
      neither (ltb (home_on d (slot p)) homes_from) (leb (length d) (home_on d (slot p))) (le-ltb (home_on d (slot p)) homes_from g.0) (lt-leb (length d) (home_on d (slot p)) g.1))) ∙
      none_from (life_test d) (start_on d) (end_on d - start_on d) (λ p a b. ap not (good p a (omega arith)).2)

-- ## The whole

pub sound_passes : (d : Blocks) → Whole d → Sound d → first_of (opening_tests d) ≡ None
sound_passes d w s =
    let large = s.ready.large in
    let l0 = w.full 0 (bytes_on d 0) (live_bytes (block d 0) (s.ready.alive 0 (omega arith))) in
    let l1 = w.full 1 (bytes_on d 1) (live_bytes (block d 1) (s.ready.alive 1 (omega arith))) in
    past (card_tests d) (head_tests d ++ home_tests d) (ready_card d s.ready) ∙
    past (head_tests d) (home_tests d)
    (past (reserved_tests d 0 header_end) (reserved_tests d 1 start_end ++ position_tests (start_on d) (end_on d)) (zero_reserved d 0 header_end (λ i a b. s.zeros_end i a (omega arith))) ∙
    past (reserved_tests d 1 start_end) (position_tests (start_on d) (end_on d)) (zero_reserved d 1 start_end (λ i a b. s.zeros_start i a (omega arith))) ∙
    positions_pass (start_on d) (end_on d) s.order s.few s.top) ∙
    homes_pass d s.homes

pub passes_sound : (d : Blocks) → first_of (opening_tests d) ≡ None → Sound d
passes_sound d e =
    let card = none_both (card_tests d) (head_tests d ++ home_tests d) e in
    let rest = none_both (head_tests d) (home_tests d) card.1 in
    let zeros = none_both (reserved_tests d 0 header_end) (reserved_tests d 1 start_end ++ position_tests (start_on d) (end_on d)) rest.0 in
    let more = none_both (reserved_tests d 1 start_end) (position_tests (start_on d) (end_on d)) zeros.1 in
    let order = positions_passed (start_on d) (end_on d) more.1 in
    record {
      ready = card_ready d card.0;
      zeros_end = λ i a b. reserved_zero d 0 header_end zeros.0 i a;
      zeros_start = λ i a b. reserved_zero d 1 start_end more.0 i a;
      order = order.0;
      few = order.1;
      top = order.2;
      homes = homes_passed d rest.1;
    }

unwritten : (o : Option Fault) (d : Blocks) → ((decided o [] shut d (opens d)).disk ≡ d) × ((decided o [] shut d (opens d)).wrote ≡ [])
unwritten None d = (refl, refl)
unwritten (Some f) d = (refl, refl)

pub opening_law : OpeningLaw
opening_law d w =
    let u = unwritten (first_of (open_tests shut d)) d in (
      u.0,
      u.1,
      (λ s. ap (λ o. (decided o [] shut d (opens d)).answer) (first_mapped InLog (opening_tests d) ∙ ap (option_map InLog) (sound_passes d w s))),
      λ e ok. passes_sound d (opening_granted d e ok).0,
    )
