-- The crash law, by induction over the events of a run.
use Rattle.std.proofs.Common.{◌≡◌, ℕ, ◌+◌, ◌-◌, ◌<◌, ◌≤◌, max, List, [], ◌∷◌, length, get_or, Some, None, Option, sym, refl, ap, ◌∙◌, subst, ⊎_elim, arith, length-take, take-take}
use Rattle.std.proofs.lemmas.List.{take_all}
use Rattle.std.proofs.lemmas.List.FromFn.{length-map-range_with_len, get_or-map-range_with_len}
use Rattle.disk.specs.Meaning.{Blocks, block, Whole}
use Rattle.object.specs.Tables.{Held, most_held}
use Rattle.card.specs.declared.Update.{Update}
use Rattle.card.specs.Layout.{log_block, bytes_on, end_on, start_on, update_on, live_updates, latest, area}
use Rattle.model.specs.Outcomes.{Outcome}
use Rattle.model.specs.Log.{Log, last, log_on}
use Rattle.model.specs.Steps.{log_step, install_step}
use Rattle.model.specs.Operations.{among}
use Rattle.model.specs.Journal.{Open, View, opened_with}
use Rattle.model.specs.Sound.{Sound}
use Rattle.model.specs.Calls.{Call, begins, reads, overwrites, commits, gives_up, flushes, logs, installs, called, outcome}
use Rattle.model.proofs.Calls.{opening_granted}
use Rattle.model.proofs.Opening.{opening_law}
use Rattle.law.specs.Record.{Commit, Record, lay_all, up_to, reopened, begun, noted, granted}
use Rattle.law.specs.Law.{Event, call, cut, Leaves, AtMost, Ordered, durable_part, Standing, AfterCut, Along, Lasting, CrashLaw}
use Rattle.law.proofs.Invariant.{absent, Good, Kept}
use Rattle.law.proofs.Homes.{length_homes_in}
use Rattle.law.proofs.Logger.{log_low}
use Rattle.law.proofs.Absorb.{Distinct}
use Rattle.law.proofs.Reopen.{kept_opening, kept_area, durable_kept}
use Rattle.law.proofs.Areas.{up_to_up_to, up_to_bounded, up_to_rising, up_to_prefix}
use Rattle.law.proofs.Tables.{EntryGood, every_map}
use Rattle.law.proofs.Committed.{full_bytes, live_full}
use Rattle.law.proofs.Told as Told
use Rattle.law.proofs.Told.{Shows, open_homes, LogTold, changed_none, settled_none}
use Rattle.law.proofs.Refusals.{Inv}
use Rattle.law.proofs.Ops.{shown_plain, log_inv, install_inv}
use Rattle.law.proofs.Run.{call_inv, call_unaltered, call_writes}
use Rattle.law.proofs.After.{after}
use Rattle.law.proofs.Bounds.{soon_durable, soon_free}

-- ## At every moment

few : (d : Blocks) (o : Option (List Held)) → EntryGood d o → AtMost most_held o
few d None g = tt
few d (Some hs) g = g.few

ordered : (j : Open) (d : Blocks) (r : Record) → Inv j d r → Ordered j
ordered j d r i = let k = i.kept in record {
  start_end = k.order.start_end;
  end_frozen = k.order.end_frozen;
  frozen_last = k.order.frozen_last;
  room = k.order.room;
  top = k.order.top;
  homes = ap length k.card.at_homes ∙ length_homes_in (bytes_on d 0);
  numbers = i.tables.number;
  tables = every_map (EntryGood d) (AtMost most_held) j.operations (few d) i.tables.each;
}

standing : (j : Open) (d : Blocks) (r : Record) → Inv j d r → Standing j d r
standing j d r i = record {
  shown = shown_plain j d r i;
  touched = i.touched;
  start = i.kept.card.at_start;
  end = i.kept.card.at_end;
  frozen = i.told.at_settled;
  reached = i.told.at_reached;
  ordered = ordered j d r i;
  recovered = ap (λ (o : Outcome View). o.state) (kept_opening j.log d i.kept);
  durable = soon_durable j d r i;
  free = soon_free j d r i;
}

-- ## A cut

-- a log that the disk left by a cut belongs to, and what was told of it
record Found (left : Blocks) (r : Record) : Type 0 where
  pub log : Log
  pub kept : Kept log left
  pub ended : ℕ
  pub reached : ℕ
  pub flushed : ℕ
  pub settled : ℕ
  pub told : LogTold log left r.first r.commits ended reached flushed settled
  pub high : r.ended ≤ end_on left

found_here : (j : Open) (d : Blocks) (r : Record) → Inv j d r → Found d r
found_here j d r i = record { log = j.log; kept = i.kept; ended = r.ended; reached = r.reached; flushed = r.flushed; settled = r.settled; told = i.told; high = omega (arith, i.told.at_ended, i.kept.card.at_end) }

found_call : (c : Call) (j : Open) (d : Blocks) (r : Record) → Inv j d r → Found (called c j d).disk r
found_call (begins n) j d r i = subst (λ (e : Blocks). Found e r) (sym (call_writes (begins n) j d r i).1) (found_here j d r i)
found_call (reads n o b) j d r i = subst (λ (e : Blocks). Found e r) (sym (call_writes (reads n o b) j d r i).1) (found_here j d r i)
found_call (overwrites n o b) j d r i = subst (λ (e : Blocks). Found e r) (sym (call_writes (overwrites n o b) j d r i).1) (found_here j d r i)
found_call (commits n) j d r i = subst (λ (e : Blocks). Found e r) (sym (call_writes (commits n) j d r i).1) (found_here j d r i)
found_call (gives_up n) j d r i = subst (λ (e : Blocks). Found e r) (sym (call_writes (gives_up n) j d r i).1) (found_here j d r i)
found_call flushes j d r i = found_here j d r i
found_call logs j d r i =
    let k = log_inv j d r i in
    let g = Told.end_grows r.first r.commits j.log d i.kept r.ended r.reached r.flushed r.settled i.told in
    let s = granted logs (log_step j.log d).state.end r in
    record { log = (log_step j.log d).state; kept = k.kept; ended = s.ended; reached = s.reached; flushed = s.flushed; settled = s.settled; told = k.told; high = omega (arith, i.told.at_ended, k.kept.card.at_end) }
found_call installs j d r i =
    let k = install_inv j d r i in
    record { log = (install_step j.log d).state; kept = k.kept; ended = r.ended; reached = r.reached; flushed = r.flushed; settled = r.settled; told = k.told; high = omega (arith, k.told.at_ended, k.kept.card.at_end) }

found : (broken : Option Call) (left : Blocks) (j : Open) (d : Blocks) (r : Record) → Inv j d r → Leaves broken (Some j) d left → Found left r
found None left j d r i e = subst (λ (x : Blocks). Found x r) (sym e) (found_here j d r i)
found (Some c) left j d r i e = ⊎_elim
    (λ (a : left ≡ d). subst (λ (x : Blocks). Found x r) (sym a) (found_here j d r i))
    (λ (a : left ≡ (outcome c (Some j) d).disk). subst (λ (x : Blocks). Found x r) (sym a) (found_call c j d r i))
    e

module _ (d : Blocks) (r : Record) (f : Found d r) where
  abbrev l : Log
  l = f.log

  abbrev e : ℕ
  e = end_on d

  after_cut : AfterCut d r
  after_cut = record {
    granted = ap (λ (o : Outcome View). o.answer) (kept_opening l d f.kept);
    unwritten = (ap (λ (o : Outcome View). o.disk) (kept_opening l d f.kept), ap (λ (o : Outcome View). o.wrote) (kept_opening l d f.kept));
    kept = f.high;
    prefix = up_to_prefix e r.commits f.told.rising;
    shows = λ b a lt. kept_area l d f.kept b ∙ f.told.end b a lt ∙ ap (λ n. lay_all (up_to n r.commits) r.first b) f.kept.card.at_end;
  }

  abbrev m : Log
  m = durable_part l

  at_last : last m ≡ l.end
  at_last = let t = length-take (l.end - l.start) l.updates in omega (arith, f.kept.order.start_end, f.kept.order.end_frozen, f.kept.order.frozen_last)

  shows_end : Shows m d r.first (up_to e r.commits) l.end
  shows_end b a lt =
      let n = l.end - l.start in
      ap (λ (us : List Update). latest us b (block d b)) (take-take n n l.updates (omega arith)) ∙ f.told.end b a lt ∙
      ap (λ (cs : List Commit). lay_all cs r.first b) (sym (up_to_up_to l.end e r.commits (omega (arith, f.kept.card.at_end))))

  none_open : open_homes m ≡ []
  none_open = settled_none m (omega (arith, at_last))

  cut_told : LogTold m d r.first (up_to e r.commits) (max r.ended e) e e e
  cut_told = record {
    at_ended = omega (arith, f.kept.card.at_end, f.high);
    at_settled = f.kept.card.at_end;
    at_reached = at_last ∙ f.kept.card.at_end;
    below = omega arith;
    rising = up_to_rising e r.commits f.told.rising;
    bounded = up_to_bounded e r.commits;
    changed = λ b. ap (among b) (none_open ∙ sym (changed_none e (up_to e r.commits) (up_to_bounded e r.commits)));
    end = shows_end;
    target = tt;
    frozen = shows_end;
    reach = subst (Shows m d r.first (up_to e r.commits)) (sym at_last) shows_end;
  }

  reopened_inv : Inv (opened_with m) d (reopened e r)
  reopened_inv = record {
    kept = durable_kept l d f.kept;
    far = subst Distinct (sym none_open) tt;
    tables = record { number = refl; each = (tt, (tt, (tt, (tt, tt)))) };
    touched = refl;
    told = cut_told;
  }

-- ## Where it starts

module _ (d : Blocks) (w : Whole d) (s : Sound d) where
  abbrev n : ℕ
  n = end_on d - start_on d

  many : length (live_updates d) ≡ n
  many = length-map-range_with_len (update_on d) (start_on d) n

  update_at_lem : (k : ℕ) → k < n → get_or (live_updates d) k absent ≡ update_on d (start_on d + k)
  update_at_lem k lt = get_or-map-range_with_len (update_on d) (start_on d) n k (start_on d + k) absent lt refl

  good_at : (p : ℕ) → start_on d ≤ p → p < end_on d → Good d (update_on d p)
  good_at p a b = let h = s.homes p a b in record { low = h.0; high = h.1; alive = h.2; full = full_bytes (block d (log_block p)) (live_full d w (log_block p) (s.ready.alive (log_block p) (log_low p))) }

  start_kept : Kept (log_on d) d
  start_kept = record {
    order = record { start_end = s.order; end_frozen = omega arith; frozen_last = omega (arith, many, s.order); room = omega (arith, many, s.few); top = omega (arith, many, s.order, s.top) };
    card = record {
      whole = w;
      ready = s.ready;
      zeros_end = s.zeros_end;
      zeros_start = s.zeros_start;
      at_start = refl;
      at_end = refl;
      at_homes = refl;
      live = λ p a b. update_at_lem (p - start_on d) (omega arith) ∙ ap (update_on d) (let z : start_on d + (p - start_on d) ≡ p = omega arith in z);
    };
    good = λ k lt. let q : k < n = omega (arith, many) in subst (Good d) (sym (update_at_lem k q)) (good_at (start_on d + k) (omega arith) (omega (arith, s.order)));
    logging = tt;
    installing = tt;
  }

  at_end : last (log_on d) ≡ end_on d
  at_end = omega (arith, many, s.order)

  shows_start : Shows (log_on d) d (area d) [] (end_on d)
  shows_start b a lt = ap (λ (us : List Update). latest us b (block d b)) (take_all n (live_updates d) (omega (arith, many)))

  nothing_open : open_homes (log_on d) ≡ []
  nothing_open = settled_none (log_on d) (omega (arith, at_end))

  start_inv : Inv (opened_with (log_on d)) d (begun d)
  start_inv = record {
    kept = start_kept;
    far = subst Distinct (sym nothing_open) tt;
    tables = record { number = refl; each = (tt, (tt, (tt, (tt, tt)))) };
    touched = refl;
    told = record {
      at_ended = refl;
      at_settled = refl;
      at_reached = at_end;
      below = omega arith;
      rising = tt;
      bounded = tt;
      changed = λ b. ap (among b) nothing_open;
      end = shows_start;
      target = tt;
      frozen = shows_start;
      reach = subst (Shows (log_on d) d (area d) []) (sym at_end) shows_start;
    };
  }

-- ## Every run

along : (es : List Event) (j : Open) (d : Blocks) (r : Record) → Inv j d r → Along es (Some j) d r
along [] j d r i = standing j d r i
along (call c ∷ es) j d r i = (
  standing j d r i,
  λ p. (
    (after c j d r i, (call_unaltered c j d r i, call_writes c j d r i)),
    along es (called c j d).state (called c j d).disk (noted c (called c j d).answer r) (call_inv c j d r i),
  ),
)
along (cut broken left ∷ es) j d r i = (
  standing j d r i,
  λ p.
      let f = found broken left j d r i p in (
        after_cut left r f,
        subst (λ (o : Outcome View). Along es o.state o.disk (reopened (end_on left) r)) (sym (kept_opening f.log left f.kept))
            (along es (opened_with (durable_part f.log)) left (reopened (end_on left) r) (reopened_inv left r f)),
      ),
)

pub crash_law : CrashLaw
crash_law d e w ok =
    let s = (opening_law d w).3 e ok in
    subst (λ (o : Outcome View). Lasting o.state o.disk) (sym (opening_granted d e ok).1) (λ es. along es (opened_with (log_on d)) d (begun d) (start_inv d w s))
