-- What granted calls keep.
use Rattle.std.proofs.Common.{◌≡◌, ℕ, ◌+◌, ◌-◌, ◌<◌, ◌≤◌, Bool, true, false, cond, ltb, List, [], ◌∷◌, ◌++◌, length, get_or, drop, set, is_some, Some, None, Option, unwrap_or, sym, refl, ap, ◌∙◌, subst, ⊎_elim, arith, get_or-set_same}
use Rattle.std.specs.List.{AllByRecursion}
use Rattle.std.proofs.lemmas.List.{take_all, get_or_past}
use Rattle.std.proofs.lemmas.Bool.{ltb-false, lt-leb, le-leb, cases_lt}
use Rattle.disk.specs.Tests.{first_of}
use Rattle.disk.specs.Meaning.{Block, Blocks, block, is_live, block_size, bytes_or}
use Rattle.object.specs.declared.Place.{Place}
use Rattle.object.specs.Objects.{width, part, same}
use Rattle.object.specs.Tables.{Held, most_held, value_in, is_in, holding, dirty_ones}
use Rattle.object.proofs.Tables.{held_count, held_found, held_now}
use Rattle.card.specs.declared.Update.{Update}
use Rattle.card.specs.Layout.{slots, homes_from, highest, latest}
use Rattle.model.specs.declared.Fault.{Fault}
use Rattle.model.specs.Log.{last}
use Rattle.model.specs.Steps.{newest, with_updates, frozen_at, room_tests, log_step, install_step}
use Rattle.model.specs.Operations.{place_tests, bit_tests, table_tests, dirty_blocks, committed, bytes_tests}
use Rattle.model.specs.Journal.{Open}
use Rattle.model.specs.Calls.{reads, overwrites, commits, flushes, logs, held_by, with_operation, with_log, ticket_tests, known, seen, holds, tests_of, grants}
use Rattle.model.proofs.Tests.{none_both, none_first}
use Rattle.model.proofs.Card.{live_set, not_false}
use Rattle.law.specs.Record.{Record, plain, touched_by, touching, granted, lay_all}
use Rattle.law.specs.Law.{ByWrote}
use Rattle.law.proofs.Invariant.{Good}
use Rattle.law.proofs.Absorb.{homes_of, Distinct, either_false, at_every}
use Rattle.law.proofs.Areas.{AtMost, up_to_all}
use Rattle.law.proofs.Rounds.{flush_kept, log_done, install_done}
use Rattle.law.proofs.Tables.{length_part, HeldGood, TableGood, EntryGood, holding_every, every_map, table_of, tables_set, tables_same}
use Rattle.law.proofs.Committed as Committed
use Rattle.law.proofs.Committed.{Full, latest_full, live_full}
use Rattle.law.proofs.Told as Told
use Rattle.law.proofs.Told.{Shows, open_homes, LogTold, settled_none, flush_told}
use Rattle.law.proofs.CommitTold as CommitTold
use Rattle.law.proofs.CommitTold.{split}
use Rattle.law.proofs.Refusals.{Inv, held_touched, known_live, Named, place_passed, table_passed}

-- the newest bytes of every data block are the plain area's
pub shown_plain : (j : Open) (d : Blocks) (r : Record) → Inv j d r → (b : ℕ) → homes_from ≤ b → b < length d → newest j.log d b ≡ plain r b
shown_plain j d r i b a lt =
    let l = j.log in
    let t = i.told in
    ap (λ (us : List Update). latest us b (block d b)) (sym (take_all (last l - l.start) l.updates (omega arith))) ∙ t.reach b a lt ∙
    ap (λ cs. lay_all cs r.first b) (up_to_all (last l) r.commits (subst (λ (n : ℕ). AllByRecursion (AtMost n) r.commits) (sym t.at_reached) t.bounded))

-- ## Tables

not_found : {X : Type 0} (x : Option X) → is_some x ≡ false → x ≡ None
not_found None e = refl
not_found (Some v) e = let z : ◌≡◌ {A = ℕ} 0 1 = cc in absurd (omega arith)

-- an object that is not there stands at the end
holding_last : (hs : List Held) (h : Held) → is_in hs h.place ≡ false → holding hs h ≡ hs ++ h ∷ []
holding_last [] h e = refl
holding_last (g ∷ gs) h e =
    let f = either_false (same g.place h.place) (is_in gs h.place) e in
    ap (λ q. cond q (h ∷ gs) (g ∷ holding gs h)) f.0 ∙ ap (λ xs. g ∷ xs) (holding_last gs h f.1)

found_last : (hs : List Held) (h : Held) → is_in hs h.place ≡ false → value_in (hs ++ h ∷ []) h.place ≡ Some h.bytes
found_last hs h e = ap (λ gs. value_in gs h.place) (sym (holding_last hs h e)) ∙ held_now hs h

pub some_in : {X : Type 0} (xs : List (Option X)) (n : ℕ) → is_some (get_or xs n None) ≡ true → n < length xs
some_in xs n e = ⊎_elim (λ (h : n < length xs). h) (λ (h : length xs ≤ n). let p = get_or_past xs n None h in let z : ◌≡◌ {A = ℕ} 0 1 = cc in absurd (omega arith)) (cases_lt n (length xs))

-- ## Calls that change only what an operation holds

module _ (j : Open) (d : Blocks) (r : Record) (i : Inv j d r) (n : ℕ) where
  abbrev hs : List Held
  hs = held_by j n

  changes : (o o' : Option (List Held)) → o ≡ o' → EntryGood d o → Inv (with_operation j n o) d (touching r n o')
  changes o o' e g = record {
    kept = i.kept;
    far = i.far;
    tables = tables_set j.operations d i.tables n o g;
    touched = ap (λ (ops : List (Option (List Held))). set ops n o) i.touched ∙ ap (set r.touched n) e;
    told = i.told;
  }

  pub begun_inv : Inv (with_operation j n (Some [])) d (touching r n (Some []))
  begun_inv = changes (Some []) (Some []) refl (record { few = omega arith; each = tt })

  pub given_up_inv : Inv (with_operation j n None) d (touching r n None)
  given_up_inv = changes None None refl tt

  -- an object that is touched
  module _ (o : Place) (v : List ℕ) (named : Named d o (length v)) (q : Bool) (is_Known : q ≡ known j d n o) (room : (is_in hs o ≡ false → length hs < most_held) × (q ≡ true)) where
    entry : (dirty : Bool) → HeldGood d (record { place = o; bytes = v; dirty = dirty })
    entry dirty = record {
      placed = named.placed;
      low = named.low;
      high = named.high;
      alive = sym (known_live j d i.kept i.tables n o) ∙ sym is_Known ∙ room.1;
      long = named.long;
    }

    pub held_good : (dirty : Bool) → TableGood d (holding hs (record { place = o; bytes = v; dirty = dirty }))
    held_good dirty =
        let t = table_of j.operations d i.tables n in
        let h : Held = record { place = o; bytes = v; dirty = dirty } in
        record {
          few = ⊎_elim
              (λ (here : is_in hs o ≡ true). let e : length (holding hs h) ≡ length hs = held_count hs h ∙ ap (λ x. cond x (length hs) (length hs + 1)) here in omega (arith, t.few))
              (λ (out : is_in hs o ≡ false). let e : length (holding hs h) ≡ length hs + 1 = held_count hs h ∙ ap (λ x. cond x (length hs) (length hs + 1)) out in let w = room.0 out in omega arith)
              (split (is_in hs o));
          each = holding_every (HeldGood d) hs h t.each (entry dirty);
        }

  pub overwritten_inv : (o : Place) (v : List ℕ) → first_of (tests_of (overwrites n o v) j d) ≡ None → Inv (holds j n (record { place = o; bytes = v; dirty = true })) d (granted (overwrites n o v) (width o.size) r)
  overwritten_inv o v e =
      let a = none_both (ticket_tests j n) (place_tests d o (length v) ++ (bit_tests o v ++ table_tests hs (known j d n o) o)) e in
      let b = none_both (place_tests d o (length v)) (bit_tests o v ++ table_tests hs (known j d n o) o) a.1 in
      let c = none_both (bit_tests o v) (table_tests hs (known j d n o) o) b.1 in
      let h : Held = record { place = o; bytes = v; dirty = true } in
      changes (Some (holding hs h)) (Some (holding (touched_by r n) h)) (ap (λ (gs : List Held). Some (holding gs h)) (held_touched j d r i n))
      (held_good o v (place_passed d o (length v) b.0) (known j d n o) refl (table_passed hs (known j d n o) o c.1) true)

  -- ## A read

  module _ (o : Place) (buffer : List ℕ) (e : first_of (tests_of (reads n o buffer) j d) ≡ None) where
    passed : (first_of (place_tests d o (length buffer)) ≡ None) × (first_of (table_tests hs (known j d n o) o) ≡ None)
    passed = none_both (place_tests d o (length buffer)) (table_tests hs (known j d n o) o) (none_both (ticket_tests j n) (place_tests d o (length buffer) ++ table_tests hs (known j d n o) o) e).1

    named : Named d o (length buffer)
    named = place_passed d o (length buffer) passed.0

    room : (is_in hs o ≡ false → length hs < most_held) × (known j d n o ≡ true)
    room = table_passed hs (known j d n o) o passed.1

    -- the object's bytes in the plain area
    abbrev from_area : List ℕ
    from_area = part o (bytes_or (plain r o.block) [])

    at_home : part o (bytes_or (newest j.log d o.block) []) ≡ from_area
    at_home = ap (λ (x : Block). part o (bytes_or x [])) (shown_plain j d r i o.block named.low named.high)

    full : length from_area ≡ width o.size
    full =
        let live = sym (known_live j d i.kept i.tables n o) ∙ room.1 in
        let all = every_map (Good d) (λ u. length u.bytes ≡ block_size) j.log.updates (λ u y. y.full) (at_every (Good d) j.log.updates i.kept.good) in
        ap length (sym at_home) ∙ length_part o named.placed _ (Committed.full_bytes (newest j.log d o.block) (latest_full j.log.updates o.block (block d o.block) all (live_full d i.kept.card.whole o.block live)))

    unheld : is_in hs o ≡ false → seen j d n o ≡ from_area
    unheld out = ap (λ (x : Option (List ℕ)). unwrap_or x (part o (bytes_or (newest j.log d o.block) []))) (not_found (value_in hs o) (sym (held_found hs o) ∙ out)) ∙ at_home

    -- the record after it
    abbrev noted_read : Record
    noted_read = granted (reads n o buffer) (width o.size) r

    abbrev entry_of : List ℕ → Held
    entry_of v = record { place = o; bytes = v; dirty = false }

    same_touched : is_in (touched_by r n) o ≡ is_in hs o
    same_touched = ap (λ gs. is_in gs o) (sym (held_touched j d r i n))

    read_by_lem : (q : Bool) → is_in hs o ≡ q → Inv (cond q j (holds j n (entry_of (seen j d n o)))) d (cond q r (touching r n (Some (touched_by r n ++ entry_of from_area ∷ []))))
    read_by_lem true here = i
    read_by_lem false out =
        let v = seen j d n o in
        let l : length v ≡ width o.size = ap length (unheld out) ∙ full in
        let nm : Named d o (length v) = record { placed = named.placed; low = named.low; high = named.high; long = l } in
        changes (Some (holding hs (entry_of v))) (Some (touched_by r n ++ entry_of from_area ∷ []))
        (ap Some (holding_last hs (entry_of v) out ∙ ap (λ w. hs ++ entry_of w ∷ []) (unheld out) ∙ ap (λ (gs : List Held). gs ++ entry_of from_area ∷ []) (held_touched j d r i n)))
        (held_good o v nm (known j d n o) refl room false)

    pub read_inv : Inv (cond (is_in hs o) j (holds j n (entry_of (seen j d n o)))) d noted_read
    read_inv = subst (λ (q : Bool). Inv (cond (is_in hs o) j (holds j n (entry_of (seen j d n o)))) d (cond q r (touching r n (Some (touched_by r n ++ entry_of from_area ∷ []))))) (sym same_touched) (read_by_lem (is_in hs o) refl)

    -- the number is one of an open operation
    pub in_range : n < length r.touched
    in_range =
        let open-op = not_false (is_some (get_or j.operations n None)) (none_first _ [] (none_both (ticket_tests j n) (place_tests d o (length buffer) ++ table_tests hs (known j d n o) o) e).0).0 in
        some_in r.touched n (ap (λ (ops : List (Option (List Held))). is_some (get_or ops n None)) (sym i.touched) ∙ open-op)

    some_value : (x : Option (List ℕ)) (w : List ℕ) → is_some x ≡ true → unwrap_or x w ≡ unwrap_or x []
    some_value None w e = let z : ◌≡◌ {A = ℕ} 0 1 = cc in absurd (omega arith)
    some_value (Some v) w e = refl

    -- what is filled in is what the record then holds
    fill_by : (q : Bool) → is_in hs o ≡ q → seen j d n o ≡ unwrap_or (value_in (unwrap_or (get_or (cond q r (touching r n (Some (touched_by r n ++ entry_of from_area ∷ [])))).touched n None) []) o) []
    fill_by true here =
        some_value (value_in hs o) (part o (bytes_or (newest j.log d o.block) [])) (sym (held_found hs o) ∙ here) ∙ ap (λ (gs : List Held). unwrap_or (value_in gs o) []) (held_touched j d r i n)
    fill_by false out =
        unheld out ∙ sym (ap (λ (x : Option (List Held)). unwrap_or (value_in (unwrap_or x []) o) []) (get_or-set_same r.touched n (Some (touched_by r n ++ entry_of from_area ∷ [])) None in_range) ∙
        ap (λ (x : Option (List ℕ)). unwrap_or x []) (found_last (touched_by r n) (entry_of from_area) (same_touched ∙ out)))

    pub read_fills : seen j d n o ≡ unwrap_or (value_in (touched_by noted_read n) o) []
    read_fills = subst (λ (q : Bool). seen j d n o ≡ unwrap_or (value_in (unwrap_or (get_or (cond q r (touching r n (Some (touched_by r n ++ entry_of from_area ∷ [])))).touched n None) []) o) []) (sym same_touched) (fill_by (is_in hs o) refl)

-- ## Commit, flush and steps

two_none : (a b : Bool) (f g : Fault) → first_of ((a, f) ∷ (b, g) ∷ []) ≡ None → (a ≡ false) × (b ≡ false)
two_none true b f g e = let z : ◌≡◌ {A = ℕ} 0 1 = cc in absurd (omega arith)
two_none false true f g e = let z : ◌≡◌ {A = ℕ} 0 1 = cc in absurd (omega arith)
two_none false false f g e = (refl, refl)

live_in : (d : Blocks) (b : ℕ) → is_live (block d b) ≡ true → b < length d
live_in d b e = ⊎_elim (λ (h : b < length d). h) (λ (h : length d ≤ b). let p = ap is_live (get_or_past d b None h) in let z : ◌≡◌ {A = ℕ} 0 1 = cc in absurd (omega arith)) (cases_lt b (length d))

-- after a logger step the homes that may absorb are those that might before, or none
log_far : (j : Open) (d : Blocks) (r : Record) → Inv j d r → Distinct (open_homes (log_step j.log d).state)
log_far j d r i =
    let l = j.log in
    let m = (log_step l d).state in
    let h = log_done l d i.kept in
    let f = Told.frozen_is r.first r.commits l d i.kept r.ended r.reached r.flushed r.settled i.told in
    let same = Told.reach_same r.first r.commits l d i.kept r.ended r.reached r.flushed r.settled i.told in
    ⊎_elim
    (λ (a : r.ended < r.settled).
    let e : m.frozen ≡ l.frozen = f ∙ ap (λ q. cond q r.reached r.settled) (lt-leb r.settled r.ended a) ∙ sym i.told.at_settled in
    subst Distinct (sym (ap (λ n. homes_of (drop (n - m.start) m.updates)) e ∙ ap (λ n. homes_of (drop (l.frozen - n) m.updates)) h.start ∙ ap (λ (us : List Update). homes_of (drop (l.frozen - l.start) us)) h.updates)) i.far)
    (λ (a : r.settled ≤ r.ended).
    let e : m.frozen ≡ r.reached = f ∙ ap (λ q. cond q r.reached r.settled) (le-leb r.settled r.ended a) in
    subst Distinct (sym (settled_none m (omega (arith, i.told.at_reached)))) tt)
    (cases_lt r.ended r.settled)

pub commit_inv : (j : Open) (d : Blocks) (r : Record) → Inv j d r → (n : ℕ) → first_of (tests_of (commits n) j d) ≡ None →
    Inv (grants (commits n) j d).state d (granted (commits n) (j.log.start + length (committed (held_by j n) j.log d)) r)
commit_inv j d r i n e =
    let l = j.log in
    let gs = held_by j n in
    let us = committed gs l d in
    let g = table_of j.operations d i.tables n in
    let a = none_both (ticket_tests j n) (room_tests l us ++ bytes_tests l d (dirty_blocks gs [])) e in
    let b = two_none (ltb slots (length us)) (ltb highest (l.start + length us)) _ _ (none_both (room_tests l us) (bytes_tests l d (dirty_blocks gs [])) a.1).0 in
    record {
      kept = Committed.commit_kept l d i.kept i.far gs g (ltb-false slots (length us) b.0) (ltb-false highest (l.start + length us) b.1);
      far = Committed.new_distinct l d i.kept i.far gs g;
      tables = tables_set j.operations d i.tables n None tt;
      touched = ap (λ (ops : List (Option (List Held))). set ops n None) i.touched;
      told = subst (λ (hs₂ : List Held). LogTold (with_updates l us) d r.first (r.commits ++ record { position = l.start + length us; objects = dirty_ones hs₂ } ∷ []) r.ended (l.start + length us) r.flushed r.settled) (held_touched j d r i n)
          (CommitTold.commit_told r.first r.commits l d i.kept i.far gs g r.ended r.reached r.flushed r.settled i.told);
    }

pub flush_inv : (j : Open) (d : Blocks) (r : Record) → Inv j d r → Inv (with_log j (frozen_at j.log (last j.log))) d (granted flushes (last j.log) r)
flush_inv j d r i = record {
  kept = flush_kept j.log d i.kept;
  far = subst Distinct (sym (settled_none (frozen_at j.log (last j.log)) (omega arith))) tt;
  tables = i.tables;
  touched = i.touched;
  told = flush_told r.first r.commits j.log d r.ended r.reached r.flushed r.settled i.told;
}

-- a step leaves which blocks live
pub wrote_live : (ws : List ℕ) (d e : Blocks) → ByWrote ws (e ≡ d) (λ b. (bs : List ℕ) × (e ≡ set d b (Some bs)) × (length bs ≡ block_size) × (is_live (block d b) ≡ true)) → (c : ℕ) → is_live (block e c) ≡ is_live (block d c)
wrote_live [] d e h c = ap (λ (x : Blocks). is_live (block x c)) h
wrote_live (b ∷ []) d e h c = ap (λ (x : Blocks). is_live (block x c)) h.1 ∙ live_set d b h.0 (live_in d b h.3) h.3 c
wrote_live (b ∷ x ∷ ws) d e h c = absurd h

pub log_inv : (j : Open) (d : Blocks) (r : Record) → Inv j d r → Inv (with_log j (log_step j.log d).state) (log_step j.log d).disk (granted logs (log_step j.log d).state.end r)
log_inv j d r i =
    let l = j.log in
    let o = log_step l d in
    let h = log_done l d i.kept in
    let t = Told.log_told r.first r.commits l d i.kept r.ended r.reached r.flushed r.settled i.told in
    record {
      kept = h.kept;
      far = log_far j d r i;
      tables = tables_same j.operations d o.disk (Told.wrote_length o.wrote d o.disk h.writes) (wrote_live o.wrote d o.disk h.writes) i.tables;
      touched = i.touched;
      told = t;
    }

pub install_inv : (j : Open) (d : Blocks) (r : Record) → Inv j d r → Inv (with_log j (install_step j.log d).state) (install_step j.log d).disk r
install_inv j d r i =
    let l = j.log in
    let o = install_step l d in
    let h = install_done l d i.kept in
    record {
      kept = h.kept;
      far = subst Distinct (sym (Told.open_same r.first r.commits l d i.kept r.ended r.reached r.flushed r.settled i.told)) i.far;
      tables = tables_same j.operations d o.disk (Told.wrote_length o.wrote d o.disk h.writes) (wrote_live o.wrote d o.disk h.writes) i.tables;
      touched = i.touched;
      told = Told.install_told r.first r.commits l d i.kept r.ended r.reached r.flushed r.settled i.told;
    }
