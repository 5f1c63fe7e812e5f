-- Updates that are absorbed or added, in the rows.
use Rattle.std.proofs.Common.{◌≡◌, ℕ, zero, suc, ◌+◌, ◌-◌, ◌<◌, ◌≤◌, Bool, true, false, cond, eqb, List, [], ◌∷◌, ◌++◌, length, take, drop, set, not, is_some, MatchOption, Some, None, Ok, Err, Option, sym, refl, ap, ◌∙◌, ⊎_elim, mod-lt, arith}
use Rattle.std.specs.List.{filter}
use Rattle.std.proofs.lemmas.List.FromFn.{length-map-range_with_len, take-map-range_with_len, map-range_with_len_more}
use Rattle.std.proofs.lemmas.List.{append_assoc, length_push, get_or-set_same, get_or-set_other}
use Rattle.std.proofs.lemmas.Bool.{eq-eqb, ne_eqb, lt-ltb, le-ltb, cases_eq}
use Rattle.disk.specs.Tests.{first_of, either}
use Rattle.card.specs.declared.Update.{Update}
use Rattle.card.specs.Layout.{slot, slots, highest}
use Rattle.card.proofs.Slots.{slots_differ}
use Rattle.model.specs.declared.LogFault.TheVariants.{Full, Exhausted}
use Rattle.model.specs.declared.Fault.TheVariants.{Log as InLog}
use Rattle.model.specs.Log as model
use Rattle.model.specs.Outcomes.{passed}
use Rattle.model.specs.Steps.{absorbed, added, room_tests}
use Rattle.model.proofs.Tests.{map_counting_same}
use Rattle.journal_log.specs.Ring.{row_at, rows_from}
use Rattle.journal_log.proofs.Rows.{drop_rows, split_rows}
use Rattle.journal_log.specs.declared.state.Log.{Log}
use Rattle.journal_log.specs.View.{view}
use Rattle.journal_log.specs.Updates.{settled, NoneOf, FirstOf, Absorbing, has_home, fresh}

-- ## A row that is put

module _ (rows : List Update) (long : length rows ≡ slots) (p : ℕ) (u : Update) where
  abbrev after : List Update
  after = set rows (slot p) u

  row_put : row_at after p ≡ u
  row_put = let m = mod-lt p {m = slots} (omega arith) in get_or-set_same rows (slot p) u _ (omega arith)

  -- others that are near enough stay
  row_above : (q : ℕ) → p < q → q < p + slots → row_at after q ≡ row_at rows q
  row_above q l m = get_or-set_other rows (slot p) (slot q) u _ (λ e. slots_differ slots p q l m (sym e))

  row_below : (q : ℕ) → q < p → p < q + slots → row_at after q ≡ row_at rows q
  row_below q l m = get_or-set_other rows (slot p) (slot q) u _ (λ e. slots_differ slots q p l m e)

  rows_above : (q n : ℕ) → p < q → q + n ≤ p + slots → rows_from after q n ≡ rows_from rows q n
  rows_above q n l m = map_counting_same (row_at after) (row_at rows) q n (λ k i j. row_above k (omega arith) (omega arith))

  rows_below : (q n : ℕ) → q + n ≤ p → p < q + slots → rows_from after q n ≡ rows_from rows q n
  rows_below q n l m = map_counting_same (row_at after) (row_at rows) q n (λ k i j. row_below k (omega arith) (omega arith))

  -- the rows up to p, and the new one
  rows_pushed : (s n : ℕ) → s + n ≡ p → n < slots → rows_from after s (n + 1) ≡ rows_from rows s n ++ u ∷ []
  rows_pushed s n e l =
      map-range_with_len_more (row_at after) s n p e ∙ ap (λ us. us ++ row_at after p ∷ []) (rows_below s n (omega arith) (omega arith)) ∙
      ap (λ v. rows_from rows s n ++ v ∷ []) row_put

  -- ## Absorbed

  -- the first of that home is at p
  absorbed_at : (q n : ℕ) → q ≤ p → p < q + n → n ≤ slots → (row_at rows p).home ≡ u.home → NoneOf rows u.home q p → absorbed u (rows_from rows q n) ≡ rows_from after q n
  absorbed_at q zero l m few e h = absurd (omega arith)
  absorbed_at q (suc n) l m few e h = ⊎_elim
      (λ (same : q ≡ p).
      ap (λ t. cond t (u ∷ rows_from rows (q + 1) n) (row_at rows q ∷ absorbed u (rows_from rows (q + 1) n))) (eq-eqb (row_at rows q).home u.home (ap (λ (k : ℕ). (row_at rows k).home) same ∙ e)) ∙
      ap (λ us. u ∷ us) (sym (rows_above (q + 1) n (omega arith) (omega arith))) ∙
      ap (λ v. v ∷ rows_from after (q + 1) n) (sym (ap (row_at after) same ∙ row_put)))
      (λ ne.
      ap (λ t. cond t (u ∷ rows_from rows (q + 1) n) (row_at rows q ∷ absorbed u (rows_from rows (q + 1) n))) (ne_eqb (row_at rows q).home u.home (h q (omega arith) (omega arith))) ∙
      ap (λ us. row_at rows q ∷ us) (absorbed_at (q + 1) n (omega arith) (omega arith) (omega arith) e (λ k i j. h k (omega arith) j)) ∙
      ap (λ v. v ∷ rows_from after (q + 1) n) (sym (row_below q (omega arith) (omega arith))))
      (cases_eq q p)

-- none has that home
absorbed_none : (rows : List Update) (u : Update) (q n : ℕ) → NoneOf rows u.home q (q + n) → absorbed u (rows_from rows q n) ≡ rows_from rows q n ++ u ∷ []
absorbed_none rows u q zero h = refl
absorbed_none rows u q (suc n) h =
    ap (λ t. cond t (u ∷ rows_from rows (q + 1) n) (row_at rows q ∷ absorbed u (rows_from rows (q + 1) n))) (ne_eqb (row_at rows q).home u.home (h q (omega arith) (omega arith))) ∙
    ap (λ us. row_at rows q ∷ us) (absorbed_none rows u (q + 1) n (λ k i j. h k (omega arith) (omega arith)))

-- ## Added to the updates of a log

module _ (rows : List Update) (long : length rows ≡ slots) (s f e : ℕ) (u : Update) (in_order : s ≤ f) (frozen : f ≤ e) (room : e ≤ s + slots) where
  abbrev us : List Update
  us = rows_from rows s (e - s)

  below : take (f - s) us ≡ rows_from rows s (f - s)
  below = take-map-range_with_len (row_at rows) s (e - s) (f - s) (omega arith)

  above : drop (f - s) us ≡ rows_from rows (s + (f - s)) (e - s - (f - s))
  above = drop_rows rows s (e - s) (f - s) (omega arith)

  added_is : added (f - s) u us ≡ rows_from rows s (f - s) ++ absorbed u (rows_from rows (s + (f - s)) (e - s - (f - s)))
  added_is = ap (λ vs. vs ++ absorbed u (drop (f - s) us)) below ∙ ap (λ vs. rows_from rows s (f - s) ++ absorbed u vs) above

  -- at the first position from frozen on with its home
  pub added_at : (p : ℕ) → f ≤ p → p < e → (row_at rows p).home ≡ u.home → NoneOf rows u.home f p → added (f - s) u us ≡ rows_from (set rows (slot p) u) s (e - s)
  added_at p l m hit h =
      added_is ∙
      ap (λ vs. rows_from rows s (f - s) ++ vs) (absorbed_at rows long p u (s + (f - s)) (e - s - (f - s)) (omega arith) (omega arith) (omega arith) hit (λ k i j. h k (omega arith) j)) ∙
      ap (λ vs. vs ++ rows_from (set rows (slot p) u) (s + (f - s)) (e - s - (f - s))) (sym (rows_below rows long p u s (f - s) (omega arith) (omega arith))) ∙
      split_rows (set rows (slot p) u) s (e - s) (f - s) (omega arith)

  module _ (h : NoneOf rows u.home f e) where
    -- at the end
    pub added_last : added (f - s) u us ≡ us ++ u ∷ []
    added_last =
        added_is ∙
        ap (λ vs. rows_from rows s (f - s) ++ vs) (absorbed_none rows u (s + (f - s)) (e - s - (f - s)) (λ k i j. h k (omega arith) (omega arith))) ∙
        sym (append_assoc (rows_from rows s (f - s)) (rows_from rows (s + (f - s)) (e - s - (f - s))) (u ∷ [])) ∙
        ap (λ vs. vs ++ u ∷ []) (split_rows rows s (e - s) (f - s) (omega arith))

    pub added_longer : length (added (f - s) u us) ≡ e - s + 1
    added_longer = ap length added_last ∙ length_push us u ∙ ap (λ n. n + 1) (length-map-range_with_len (row_at rows) s (e - s))

    pub added_pushed : e < s + slots → added (f - s) u us ≡ rows_from (set rows (slot e) u) s (e + 1 - s)
    added_pushed l =
        added_last ∙ sym (rows_pushed rows long e u s (e - s) (omega arith) (omega arith)) ∙
        ap (rows_from (set rows (slot e) u) s) (let i : e - s + 1 ≡ e + 1 - s = omega arith in i)

-- ## Which homes there are

pub no_home : (rows : List Update) (b q n : ℕ) → NoneOf rows b q (q + n) → has_home (rows_from rows q n) b ≡ false
no_home rows b q zero h = refl
no_home rows b q (suc n) h =
    ap (λ t. either t (has_home (rows_from rows (q + 1) n) b)) (ne_eqb b (row_at rows q).home (λ e. h q (omega arith) (omega arith) (sym e))) ∙
    no_home rows b (q + 1) n (λ k i j. h k (omega arith) (omega arith))

either_true : (a : Bool) → either a true ≡ true
either_true true = refl
either_true false = refl

pub a_home : (rows : List Update) (b q n p : ℕ) → q ≤ p → p < q + n → (row_at rows p).home ≡ b → has_home (rows_from rows q n) b ≡ true
a_home rows b q zero p l m e = absurd (omega arith)
a_home rows b q (suc n) p l m e = ⊎_elim
    (λ (same : p ≡ q). ap (λ t. either t (has_home (rows_from rows (q + 1) n) b)) (eq-eqb b (row_at rows q).home (sym e ∙ ap (λ (k : ℕ). (row_at rows k).home) same)))
    (λ ne. ap (either (eqb b (row_at rows q).home)) (a_home rows b (q + 1) n p (omega arith) (omega arith) e) ∙ either_true (eqb b (row_at rows q).home))
    (cases_eq p q)

-- the same of the updates from frozen on
module _ (l : Log) (b : ℕ) where
  unsettled : drop (settled (view l)) (view l).updates ≡ rows_from l.ring.rows (l.start + (l.frozen - l.start)) (l.last - l.start - (l.frozen - l.start))
  unsettled = drop_rows l.ring.rows l.start (l.last - l.start) (l.frozen - l.start) (omega arith)

  pub absorbs_none : NoneOf l.ring.rows b l.frozen l.last → has_home (drop (settled (view l)) (view l).updates) b ≡ false
  absorbs_none h = ap (λ us. has_home us b) unsettled ∙ no_home l.ring.rows b _ _ (λ k i j. h k (omega arith) (omega arith))

  pub absorbs_at : (p : ℕ) → FirstOf l b p → has_home (drop (settled (view l)) (view l).updates) b ≡ true
  absorbs_at p h = ap (λ us. has_home us b) unsettled ∙ a_home l.ring.rows b _ _ p (omega (arith, h.from)) (omega (arith, h.from, h.live)) h.home

  -- the first position from frozen on with that home, as it is looked for
  pub absorbing_found : (r : Option ℕ) → MatchOption r (NoneOf l.ring.rows b l.frozen l.last) (λ p. (l.frozen ≤ p) × (p < l.last) × ((row_at l.ring.rows p).home ≡ b) × NoneOf l.ring.rows b l.frozen p) → Absorbing l b r
  absorbing_found None h = h
  absorbing_found (Some p) h = record { from = h.0; live = h.1; home = h.2; before = h.3 }

  pub absorbing_told : (r : Option ℕ) → Absorbing l b r → is_some r ≡ has_home (drop (settled (view l)) (view l).updates) b
  absorbing_told None h = sym (absorbs_none h)
  absorbing_told (Some p) h = sym (absorbs_at p h)

one_counted : (t : Bool) (b : ℕ) (bs : List ℕ) → length (cond (not t) (b ∷ bs) bs) ≡ cond t 0 1 + length bs
one_counted true b bs = omega arith
one_counted false b bs = omega arith

pub fresh_counted : (bs : List ℕ) (vs : List Update) → length (filter (λ b. not (has_home vs b)) bs) ≡ fresh bs vs
fresh_counted [] vs = refl
fresh_counted (b ∷ bs) vs = one_counted (has_home vs b) b (filter (λ c. not (has_home vs c)) bs) ∙ ap (λ n. cond (has_home vs b) 0 1 + n) (fresh_counted bs vs)

-- ## Room

module _ (l : model.Log) (us : List Update) where
  pub room_full : slots < length us → Err (InLog Full) ≡ passed (first_of (room_tests l us))
  room_full h = rw (lt-ltb slots (length us) h)

  pub room_spent : length us ≤ slots → highest < l.start + length us → Err (InLog Exhausted) ≡ passed (first_of (room_tests l us))
  room_spent h i = rw (le-ltb slots (length us) h, lt-ltb highest (l.start + length us) i)

  pub room_enough : length us ≤ slots → l.start + length us ≤ highest → Ok tt ≡ passed (first_of (room_tests l us))
  room_enough h i = rw (le-ltb slots (length us) h, le-ltb highest (l.start + length us) i)

-- the updates of a log are as many as its positions
pub length_updates : (l : Log) → length (view l).updates ≡ l.last - l.start
length_updates l = length-map-range_with_len (row_at l.ring.rows) l.start (l.last - l.start)

pub ruleset room = (room_full, room_spent, room_enough, length_updates)
