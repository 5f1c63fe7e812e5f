-- What an opening finds on a card that was kept.
use Rattle.std.proofs.Common.{◌≡◌, ℕ, ◌+◌, ◌-◌, ◌<◌, ◌≤◌, true, List, [], map, length, get_or, take, Some, None, sym, refl, ap, ◌∙◌, subst, arith, length-take, get_or-take}
use Rattle.std.specs.List.{range_with_len}
use Rattle.std.proofs.lemmas.List.{same_lists, get_or_default}
use Rattle.std.proofs.lemmas.List.FromFn.{length-map-range_with_len, get_or-map-range_with_len}
use Rattle.disk.specs.Meaning.{Blocks, block, is_live}
use Rattle.card.specs.declared.Update.{Update}
use Rattle.card.specs.Layout.{slot, homes_in, bytes_on, end_on, start_on, home_on, update_on, live_updates, latest, area}
use Rattle.model.specs.Outcomes.{answering}
use Rattle.model.specs.Log.{Log, log_on}
use Rattle.model.specs.Journal.{shut, opened_with, opening}
use Rattle.model.specs.Sound.{Sound}
use Rattle.model.proofs.Calls.{opening_granted}
use Rattle.model.proofs.Opening.{opening_law}
use Rattle.model.proofs.Tests.{map_counting_same}
use Rattle.law.specs.Law.{durable_part}
use Rattle.law.proofs.Invariant.{absent, Good, at_position, Kept}

-- updates by position
taken_are : (us : List Update) (start n : ℕ) → n ≤ length us → take n us ≡ map (at_position start us) (range_with_len start n)
taken_are us start n fits =
    let l = length-map-range_with_len (at_position start us) start n in
    let t = length-take n us in
    same_lists (take n us) (map (at_position start us) (range_with_len start n)) (omega arith)
    (λ k d h. let lt : k < n = omega arith in
    get_or-take n us k d lt ∙ get_or_default us k d absent (omega arith) ∙
    sym (get_or-map-range_with_len (at_position start us) start n k (start + k) d lt refl ∙ ap (λ m. get_or us m absent) (let z : start + k - start ≡ k = omega arith in z)))

module _ (l : Log) (d : Blocks) (k : Kept l d) where
  abbrev n : ℕ
  n = l.end - l.start

  fits : n ≤ length l.updates
  fits = omega (arith, k.order.end_frozen, k.order.frozen_last, k.order.start_end)

  pub kept_sound : Sound d
  kept_sound =
      let s = k.card.at_start in
      let e = k.card.at_end in
      record {
        ready = k.card.ready;
        zeros_end = k.card.zeros_end;
        zeros_start = k.card.zeros_start;
        order = omega (arith, k.order.start_end);
        few = omega (arith, k.order.end_frozen, k.order.frozen_last, k.order.room);
        top = omega (arith, k.order.end_frozen, k.order.frozen_last, k.order.top);
        homes = λ p a b.
            let g = k.good (p - l.start) (omega (arith, fits)) in
            let h : (at_position l.start l.updates p).home ≡ home_on d (slot p) = ap (λ (u : Update). u.home) (k.card.live p (omega arith) (omega arith)) in
            (omega (arith, g.low), omega (arith, g.high), subst (λ (x : ℕ). is_live (block d x) ≡ true) h g.alive);
      }

  live_are : live_updates d ≡ take n l.updates
  live_are =
      sym (taken_are l.updates l.start n fits ∙
      map_counting_same (at_position l.start l.updates) (update_on d) l.start n (λ p a b. k.card.live p a (omega (arith, k.order.start_end))) ∙
      ap (λ (x : ℕ × ℕ). map (update_on d) (range_with_len x.0 (x.1 - x.0))) (let z : ◌≡◌ {A = ℕ × ℕ} (l.start, l.end) (start_on d, end_on d) = ap (λ x. (x, l.end)) k.card.at_start ∙ ap (λ y. (start_on d, y)) k.card.at_end in z))

  pub kept_log : log_on d ≡ durable_part l
  kept_log =
      ap (λ (us : List Update). record { start = start_on d; end = end_on d; frozen = end_on d; updates = us; homes = homes_in (bytes_on d 0); logging = None; installing = None }) live_are ∙
      ap (λ x. record { start = x; end = end_on d; frozen = end_on d; updates = take n l.updates; homes = homes_in (bytes_on d 0); logging = None; installing = None }) (sym k.card.at_start) ∙
      ap (λ x. record { start = l.start; end = x; frozen = x; updates = take n l.updates; homes = homes_in (bytes_on d 0); logging = None; installing = None }) (sym k.card.at_end) ∙
      ap (λ (hs : List ℕ). record { start = l.start; end = l.end; frozen = l.end; updates = take n l.updates; homes = hs; logging = None; installing = None }) (sym k.card.at_homes)

  pub kept_opening : opening shut d ≡ answering (end_on d) [] (Some (opened_with (durable_part l))) d
  kept_opening =
      (opening_granted d (end_on d) ((opening_law d k.card.whole).2 kept_sound)).1 ∙
      ap (λ (x : Log). answering (end_on d) [] (Some (opened_with x)) d) kept_log

  -- the area is what the durable updates show
  pub kept_area : (b : ℕ) → area d b ≡ latest (take n l.updates) b (block d b)
  kept_area b = ap (λ (us : List Update). latest us b (block d b)) live_are

  pub durable_kept : Kept (durable_part l) d
  durable_kept =
      let t = length-take n l.updates in
      record {
        order = record { start_end = k.order.start_end; end_frozen = omega arith; frozen_last = omega (arith, fits, k.order.start_end); room = omega (arith, k.order.room); top = omega (arith, k.order.top) };
        card = record {
          whole = k.card.whole;
          ready = k.card.ready;
          zeros_end = k.card.zeros_end;
          zeros_start = k.card.zeros_start;
          at_start = k.card.at_start;
          at_end = k.card.at_end;
          at_homes = k.card.at_homes;
          live = λ p a b. get_or-take n l.updates (p - l.start) absent (omega arith) ∙ k.card.live p a b;
        };
        good = λ i lt. subst (Good d) (sym (get_or-take n l.updates i absent (omega arith))) (k.good i (omega arith));
        logging = tt;
        installing = tt;
      }
