-- What a logger step, an installer step and a flush do to a log that is kept.
use Rattle.std.proofs.Common.{◌≡◌, ℕ, ◌+◌, ◌-◌, ◌<◌, ◌≤◌, Bool, true, cond, ltb, ◌⊎◌, List, [], length, take, drop, set, Some, None, Ok, Option, sym, refl, ap, ◌∙◌, subst, inl, inr, ⊎_elim, arith, length-drop, length-take, get_or-take, take-take}
use Rattle.std.proofs.lemmas.List.{drop-take}
use Rattle.std.proofs.lemmas.Bool.{cases_eq, cases_lt, lt-ltb, le-ltb}
use Rattle.disk.specs.Meaning.{Blocks, block, is_live, block_size}
use Rattle.card.specs.declared.Update.{Update}
use Rattle.card.specs.Layout.{homes_from, log_block, header_block, start_block, end_on, start_on, latest}
use Rattle.model.specs.declared.Round.{Round}
use Rattle.model.specs.Outcomes.{Outcome, answering}
use Rattle.model.specs.Log.{Log, last}
use Rattle.model.specs.Steps.{update_at, frozen_at, logging_at, installing_at, ended_at, started_at, with_homes, homes_after, log_next, log_header, log_round, log_last, log_by, log_step, install_next, install_start, install_round, install_by, install_step}
use Rattle.law.specs.Law.{ByWrote, LogsAt, InstallsAt, HomesKept}
use Rattle.model.proofs.Card.{live_bytes}
use Rattle.law.proofs.Latest.{latest_split, latest_at}
use Rattle.law.proofs.Blocks.{block_here, block_other, home_same, bytes_other, length_start}
use Rattle.law.proofs.Logger as logger
use Rattle.law.proofs.Logger.{wrote_one, writing_granted, log_low}
use Rattle.law.proofs.Installer as installer
use Rattle.law.proofs.Invariant.{absent, Logs, Installs, IfSome, Kept}

pub if_some_map : {P Q : Round → Type 0} (o : Option Round) → ((r : Round) → P r → Q r) → IfSome o P → IfSome o Q
if_some_map None f h = tt
if_some_map (Some r) f h = f r h

-- ## Flush

pub flush_kept : (l : Log) (d : Blocks) → Kept l d → Kept (frozen_at l (last l)) d
flush_kept l d k = record {
  order = record { start_end = k.order.start_end; end_frozen = omega (arith, k.order.end_frozen, k.order.frozen_last); frozen_last = omega arith; room = k.order.room; top = k.order.top };
  card = k.card;
  good = k.good;
  logging = if_some_map l.logging (λ r g. record { from = g.from; upto = g.upto; some = g.some; below = omega (arith, g.below, k.order.frozen_last); logged = g.logged }) k.logging;
  installing = k.installing;
}

-- ## A logger step

-- what a step says and leaves, where `l` is the log that it worked on
pub record LogDone (l : Log) (d : Blocks) (o : Outcome Log) : Type 0 where
  pub kept : Kept o.state o.disk
  pub answer : o.answer ≡ Ok o.state.end
  pub buffer : o.buffer ≡ []
  pub writes : ByWrote o.wrote (o.disk ≡ d) (λ b. (bs : List ℕ) × (o.disk ≡ set d b (Some bs)) × (length bs ≡ block_size) × (is_live (block d b) ≡ true))
  pub places : ByWrote o.wrote (end_on d ≡ last l) (LogsAt d (last l) o.disk)
  pub homes : HomesKept d o.disk
  pub home_blocks : (b : ℕ) → homes_from ≤ b → block o.disk b ≡ block d b
  pub start : o.state.start ≡ l.start
  pub updates : o.state.updates ≡ l.updates
  pub installing : o.state.installing ≡ l.installing

-- a step in round r, from log l to log m
pub record Moves (r : Round) (l m : Log) : Type 0 where
  pub frozen : m.frozen ≡ l.frozen
  pub moved : ((r.next < r.target) × (m.logging ≡ Some (record { next = r.next + 1; target = r.target })) × (m.end ≡ l.end)) ⊎ ((r.target ≤ r.next) × (m.logging ≡ None) × (m.end ≡ r.target))

module _ (before l : Log) (d : Blocks) (k : Kept l d) (r : Round) (g : Logs l.start l.end l.frozen l.updates d r) where
  abbrev s : ℕ
  s = l.start

  abbrev us : List Update
  us = l.updates

  abbrev next : ℕ
  next = r.next

  block_eq : next < r.target → log_round before l r d ≡ wrote_one d (log_block next) (update_at l next).bytes l.end (logging_at l (record { next = next + 1; target = r.target }))
  block_eq more =
      ap (λ t. cond t (log_next before l r d) (log_header before l r d)) (lt-ltb next r.target more) ∙
      writing_granted before d (log_block next) (update_at l next).bytes l.end (logging_at l (record { next = next + 1; target = r.target }))
      (logger.inside s l.end l.frozen us l.homes d k.order k.card k.good r g more) (logger.alive s l.end l.frozen us l.homes d k.order k.card k.good r g more)
      (logger.here s l.end l.frozen us l.homes d k.order k.card k.good r g more).full

  header_eq : r.target ≤ next → log_round before l r d ≡ wrote_one d 0 (header_block (record { end = r.target; homes = homes_after l r })) r.target (ended_at l r.target (homes_after l r))
  header_eq over =
      ap (λ t. cond t (log_next before l r d) (log_header before l r d)) (le-ltb next r.target over) ∙
      writing_granted before d 0 (header_block (record { end = r.target; homes = homes_after l r })) r.target (ended_at l r.target (homes_after l r))
      (omega (arith, k.card.ready.large)) (k.card.ready.alive 0 (omega arith)) (logger.full s l.end l.frozen us l.homes d k.order k.card k.good r g over)

  -- the round goes on by one, or is over
  pub round_moves : Moves r l (log_round before l r d).state
  round_moves = ⊎_elim
      (λ (more : next < r.target). subst (λ (o : Outcome Log). Moves r l o.state) (sym (block_eq more)) (record { frozen = refl; moved = inl (more, refl, refl) }))
      (λ over. subst (λ (o : Outcome Log). Moves r l o.state) (sym (header_eq over)) (record { frozen = refl; moved = inr (over, refl, refl) }))
      (cases_lt next r.target)

  pub round_block : next < r.target → LogDone l d (log_round before l r d)
  round_block more =
      let bytes = (update_at l next).bytes in
      let to = logging_at l (record { next = next + 1; target = r.target }) in
      let e = l.end in
      let f = l.frozen in
      let hs = l.homes in
      let here = logger.here s e f us hs d k.order k.card k.good r g more in
      let inside = logger.inside s e f us hs d k.order k.card k.good r g more in
      let alive = logger.alive s e f us hs d k.order k.card k.good r g more in
      let card = logger.logged_card s e f us hs d k.order k.card k.good r g more in
      let low = log_low next in
      let same_end = sym card.at_end ∙ k.card.at_end in
      let done : LogDone l d (wrote_one d (log_block next) bytes e to) = record {
        kept = record {
          order = k.order;
          card = card;
          good = logger.logged_good s e f us hs d k.order k.card k.good r g more;
          logging = logger.logged_round s e f us hs d k.order k.card k.good r g more;
          installing = if_some_map l.installing (logger.logged_installs s e f us hs d k.order k.card k.good r g more) k.installing;
        };
        answer = refl;
        buffer = refl;
        writes = (bytes, refl, here.full, alive);
        places = inr (next, omega (arith, g.from, k.card.at_end), omega (arith, g.below, k.order.frozen_last), refl, same_end);
        homes = λ t l₀ apart. home_same d (set d (log_block next) (Some bytes)) (bytes_other d (log_block next) bytes 0 (λ z. omega arith)) t;
        home_blocks = λ b h. block_other d (log_block next) bytes b (λ z. omega arith);
        start = refl;
        updates = refl;
        installing = refl;
      } in
      subst (LogDone l d) (sym (block_eq more)) done

  pub round_header : r.target ≤ next → LogDone l d (log_round before l r d)
  round_header over =
      let e = l.end in
      let f = l.frozen in
      let hs = l.homes in
      let full = logger.full s e f us hs d k.order k.card k.good r g over in
      let card = logger.headed_card s e f us hs d k.order k.card k.good r g over in
      let homes = with_homes hs e (take (r.target - e) (drop (e - s) us)) in
      let bytes = header_block (record { end = r.target; homes = homes }) in
      let to = ended_at l r.target homes in
      let large : 0 < length d = omega (arith, k.card.ready.large) in
      let alive = k.card.ready.alive 0 (omega arith) in
      let done : LogDone l d (wrote_one d 0 bytes r.target to) = record {
        kept = record {
          order = logger.headed_order s e f us hs d k.order k.card k.good r g over;
          card = card;
          good = logger.headed_good s e f us hs d k.order k.card k.good r g over;
          logging = tt;
          installing = if_some_map l.installing (logger.headed_installs s e f us hs d k.order k.card k.good r g over) k.installing;
        };
        answer = refl;
        buffer = refl;
        writes = (bytes, refl, full, alive);
        places = inl (refl, omega (arith, g.some, k.card.at_end, card.at_end));
        homes = λ t l₀ apart. logger.headed_homes s e f us hs d k.order k.card k.good r g over t l₀ (λ p a b. apart p (omega (arith, k.card.at_end)) (omega (arith, card.at_end)));
        home_blocks = λ b h. block_other d 0 bytes b (λ z. omega arith);
        start = refl;
        updates = refl;
        installing = refl;
      } in
      subst (LogDone l d) (sym (header_eq over)) done

  pub round_done : LogDone l d (log_round before l r d)
  round_done = ⊎_elim round_block round_header (cases_lt next r.target)

-- a round that a step starts has written nothing yet
fresh : (l : Log) (d : Blocks) (t : ℕ) → l.end < t → t ≤ l.frozen → Logs l.start l.end l.frozen l.updates d (record { next = l.end; target = t })
fresh l d t some below = record { from = omega arith; upto = omega arith; some = some; below = below; logged = λ p a b. absurd (omega arith) }

-- the step with no round running; a log that is settled first has the same start, updates and card
again : (l : Log) (d : Blocks) (o : Outcome Log) → LogDone (frozen_at l (last l)) d o → LogDone l d o
again l d o h = record { kept = h.kept; answer = h.answer; buffer = h.buffer; writes = h.writes; places = h.places; homes = h.homes; home_blocks = h.home_blocks; start = h.start; updates = h.updates; installing = h.installing }

idle : (l : Log) (d : Blocks) → Kept l d → last l ≤ l.end → LogDone l d (answering l.end [] l d)
idle l d k over = record {
  kept = k;
  answer = refl;
  buffer = refl;
  writes = refl;
  places = omega (arith, k.card.at_end, k.order.end_frozen, k.order.frozen_last);
  homes = λ s l₀ apart. refl;
  home_blocks = λ b h. refl;
  start = refl;
  updates = refl;
  installing = refl;
}

rest_done : (l : Log) (d : Blocks) → Kept l d → LogDone l d (log_by None l d)
rest_done l d k = ⊎_elim
    (λ (a : l.end < l.frozen). subst (LogDone l d) (sym (ap (λ t. cond t (log_round l l (record { next = l.end; target = l.frozen }) d) (log_last l d)) (lt-ltb l.end l.frozen a)))
    (round_done l l d k (record { next = l.end; target = l.frozen }) (fresh l d l.frozen a (omega arith))))
    (λ (a : l.frozen ≤ l.end). subst (LogDone l d) (sym (ap (λ t. cond t (log_round l l (record { next = l.end; target = l.frozen }) d) (log_last l d)) (le-ltb l.end l.frozen a)))
    (⊎_elim
    (λ (b : l.end < last l). let m = frozen_at l (last l) in
    subst (LogDone l d) (sym (ap (λ t. cond t (log_round l m (record { next = l.end; target = last l }) d) (answering l.end [] l d)) (lt-ltb l.end (last l) b)))
    (again l d _ (round_done l m d (flush_kept l d k) (record { next = l.end; target = last l }) (fresh m d (last l) b (omega arith)))))
    (λ (b : last l ≤ l.end). let m = frozen_at l (last l) in
    subst (LogDone l d) (sym (ap (λ t. cond t (log_round l m (record { next = l.end; target = last l }) d) (answering l.end [] l d)) (le-ltb l.end (last l) b)))
    (idle l d k b))
    (cases_lt l.end (last l))))
    (cases_lt l.end l.frozen)

-- ## Which round a step works in

-- the log that it works on: settled first, where nothing settled is left to log
abbrev pub working : Log → Option Round → Log
working l (Some r) = l
working l None = cond (ltb l.end l.frozen) l (frozen_at l (last l))

-- the round: the one that runs, else one to frozen, else one to last
abbrev pub round_of : Log → Option Round → Round
round_of l (Some r) = r
round_of l None = record { next = l.end; target = cond (ltb l.end l.frozen) l.frozen (last l) }

-- a step does nothing, or works in that round
pub record LogGoes (l : Log) (o : Option Round) (m : Log) : Type 0 where
  pub goes : ((o ≡ None) × (m ≡ l) × (last l ≤ l.end)) ⊎ Moves (round_of l o) (working l o) m

goes_none : (l : Log) (d : Blocks) → Kept l d → LogGoes l None (log_by None l d).state
goes_none l d k = ⊎_elim
    (λ (a : l.end < l.frozen).
    let t = lt-ltb l.end l.frozen a in
    let r : Round = record { next = l.end; target = l.frozen } in
    record { goes = inr (subst (λ (q : Bool). Moves (record { next = l.end; target = cond q l.frozen (last l) }) (cond q l (frozen_at l (last l))) (cond q (log_round l l r d) (log_last l d)).state) (sym t) (round_moves l l d k r (fresh l d l.frozen a (omega arith)))) })
    (λ (a : l.frozen ≤ l.end).
    let t = le-ltb l.end l.frozen a in
    let m = frozen_at l (last l) in
    let r : Round = record { next = l.end; target = last l } in
    let q : Round = record { next = l.end; target = l.frozen } in
    ⊎_elim
    (λ (b : l.end < last l).
    let u = lt-ltb l.end (last l) b in
    record {
      goes = inr (subst (λ (x : Bool). Moves (record { next = l.end; target = cond x l.frozen (last l) }) (cond x l m) (cond x (log_round l l q d) (log_last l d)).state) (sym t)
          (subst (λ (x : Bool). Moves r m (cond x (log_round l m r d) (answering l.end [] l d)).state) (sym u) (round_moves l m d (flush_kept l d k) r (fresh m d (last l) b (omega arith)))));
    })
    (λ (b : last l ≤ l.end).
    let u = le-ltb l.end (last l) b in
    record { goes = inl (refl, ap (λ x. (cond x (log_round l l q d) (log_last l d)).state) t ∙ ap (λ x. (cond x (log_round l m r d) (answering l.end [] l d)).state) u, b) })
    (cases_lt l.end (last l)))
    (cases_lt l.end l.frozen)

log_goes_by : (o : Option Round) (l : Log) (d : Blocks) → Kept l d → IfSome o (Logs l.start l.end l.frozen l.updates d) → LogGoes l o (log_by o l d).state
log_goes_by None l d k g = goes_none l d k
log_goes_by (Some r) l d k g = record { goes = inr (round_moves l l d k r g) }

pub log_goes : (l : Log) (d : Blocks) → Kept l d → LogGoes l l.logging (log_step l d).state
log_goes l d k = log_goes_by l.logging l d k k.logging

log_by_lem : (o : Option Round) (l : Log) (d : Blocks) → Kept l d → IfSome o (Logs l.start l.end l.frozen l.updates d) → LogDone l d (log_by o l d)
log_by_lem None l d k g = rest_done l d k
log_by_lem (Some r) l d k g = round_done l l d k r g

pub log_done : (l : Log) (d : Blocks) → Kept l d → LogDone l d (log_step l d)
log_done l d k = log_by_lem l.logging l d k k.logging

-- ## An installer step

pub record InstallDone (l : Log) (d : Blocks) (o : Outcome Log) : Type 0 where
  pub kept : Kept o.state o.disk
  pub answer : o.answer ≡ Ok o.state.start
  pub buffer : o.buffer ≡ []
  pub writes : ByWrote o.wrote (o.disk ≡ d) (λ b. (bs : List ℕ) × (o.disk ≡ set d b (Some bs)) × (length bs ≡ block_size) × (is_live (block d b) ≡ true))
  pub places : ByWrote o.wrote (start_on d ≡ end_on d) (InstallsAt d o.disk)
  -- from end on, the updates up to any position show the same
  pub shown : (q b : ℕ) → l.end ≤ q → homes_from ≤ b → latest (take (q - o.state.start) o.state.updates) b (block o.disk b) ≡ latest (take (q - l.start) l.updates) b (block d b)
  pub end : o.state.end ≡ l.end
  pub frozen : o.state.frozen ≡ l.frozen
  pub reach : last o.state ≡ last l
  pub logging : o.state.logging ≡ l.logging
  pub later : (p : ℕ) → l.end ≤ p → update_at o.state p ≡ update_at l p

module _ (l : Log) (d : Blocks) (k : Kept l d) (r : Round) (i : Installs l.start l.end l.updates d r) where
  abbrev s' : ℕ
  s' = l.start

  abbrev vs : List Update
  vs = l.updates

  pub install_home : r.next < r.target → InstallDone l d (install_round l r d)
  install_home more =
      let u = update_at l r.next in
      let e = l.end in
      let f = l.frozen in
      let hs = l.homes in
      let here = installer.here s' e f vs hs d k.order k.card k.good r i more in
      let d' = set d u.home (Some u.bytes) in
      let to = installing_at l (record { next = r.next + 1; target = r.target }) in
      let on = k.card.live r.next i.from (omega (arith, i.below)) in
      let card = installer.installed_card s' e f vs hs d k.order k.card k.good r i more in
      let done : InstallDone l d (wrote_one d u.home u.bytes s' to) = record {
        kept = record {
          order = k.order;
          card = card;
          good = installer.installed_good s' e f vs hs d k.order k.card k.good r i more;
          logging = if_some_map l.logging (installer.installed_logs s' e f vs hs d k.order k.card k.good r i more) k.logging;
          installing = installer.installed_round s' e f vs hs d k.order k.card k.good r i more;
        };
        answer = refl;
        buffer = refl;
        writes = (u.bytes, refl, here.full, here.alive);
        places = inr (
          r.next,
          omega (arith, i.from, k.card.at_start),
          omega (arith, i.below, k.card.at_end),
          ap (λ (x : Update). x.home) on,
          block_here d u.home u.bytes here.high ∙ ap (λ (x : Update). Some x.bytes) on ∙ sym (live_bytes (block d (log_block r.next)) (k.card.ready.alive (log_block r.next) (log_low r.next))),
          sym card.at_start ∙ k.card.at_start,
        );
        shown = λ q b a h. ⊎_elim
            (λ (same : b ≡ u.home). latest_at (take (q - s') vs) (r.next - s') b (block d' b) (block d b)
            (let m = length-take (q - s') vs in omega (arith, i.from, i.below, k.order.end_frozen, k.order.frozen_last))
            (ap (λ (x : Update). x.home) (get_or-take (q - s') vs (r.next - s') absent (omega (arith, i.from, i.below))) ∙ sym same))
            (λ ne. ap (latest (take (q - s') vs) b) (block_other d u.home u.bytes b ne))
            (cases_eq b u.home);
        end = refl;
        frozen = refl;
        reach = refl;
        logging = refl;
        later = λ p a. refl;
      } in
      subst (InstallDone l d) (sym (ap (λ t. cond t (install_next l r d) (install_start l r d)) (lt-ltb r.next r.target more) ∙ writing_granted l d u.home u.bytes s' to here.high here.alive here.full)) done

  pub install_start_lem : r.target ≤ r.next → InstallDone l d (install_round l r d)
  install_start_lem over =
      let e = l.end in
      let f = l.frozen in
      let hs = l.homes in
      let t = r.target in
      let n = t - s' in
      let to = started_at l t in
      let card = installer.started_card s' e f vs hs d k.order k.card k.good r i in
      let large : 1 < length d = omega (arith, k.card.ready.large) in
      let done : InstallDone l d (wrote_one d 1 (start_block t) t to) = record {
        kept = record {
          order = installer.started_order s' e f vs hs d k.order k.card k.good r i;
          card = card;
          good = installer.started_good s' e f vs hs d k.order k.card k.good r i;
          logging = if_some_map l.logging (installer.started_logs s' e f vs hs d k.order k.card k.good r i) k.logging;
          installing = tt;
        };
        answer = refl;
        buffer = refl;
        writes = (start_block t, refl, length_start t, k.card.ready.alive 1 (omega arith));
        places = inl (refl, omega (arith, i.some, k.card.at_start, card.at_start));
        shown = λ q b a h.
            let m = q - t in
            let z : q - s' ≡ n + m = omega (arith, i.from, i.upto, i.below) in
            ap (latest (take m (drop n vs)) b) (block_other d 1 (start_block t) b (λ w. omega arith)) ∙
            sym (ap (λ j. latest (take j vs) b (block d b)) z ∙ latest_split n (take (n + m) vs) b (block d b) ∙
            ap (λ (ws : List Update). latest ws b (latest (take n (take (n + m) vs)) b (block d b))) (drop-take n m vs) ∙
            ap (latest (take m (drop n vs)) b) (ap (λ (ws : List Update). latest ws b (block d b)) (take-take n (n + m) vs (omega arith)) ∙
            ap (λ j. latest (take j vs) b (block d b)) (let y : n ≡ r.next - s' = omega (arith, i.upto) in y) ∙ i.home b h));
        end = refl;
        frozen = refl;
        reach = (let w = length-drop n vs in omega (arith, i.from, i.upto, i.below, k.order.end_frozen, k.order.frozen_last));
        logging = refl;
        later = λ p a. installer.rest_at s' e f vs hs d k.order k.card k.good r i p (omega (arith, i.below));
      } in
      subst (InstallDone l d) (sym (ap (λ t. cond t (install_next l r d) (install_start l r d)) (le-ltb r.next r.target over) ∙ writing_granted l d 1 (start_block t) t to large (k.card.ready.alive 1 (omega arith)) (length_start t))) done

install_round_lem : (l : Log) (d : Blocks) → Kept l d → (r : Round) → Installs l.start l.end l.updates d r → InstallDone l d (install_round l r d)
install_round_lem l d k r i = ⊎_elim (install_home l d k r i) (install_start_lem l d k r i) (cases_lt r.next r.target)

install_by_lem : (o : Option Round) (l : Log) (d : Blocks) → Kept l d → IfSome o (Installs l.start l.end l.updates d) → InstallDone l d (install_by o l d)
install_by_lem (Some r) l d k i = install_round_lem l d k r i
install_by_lem None l d k i =
    let r : Round = record { next = l.start; target = l.end } in
    ⊎_elim
    (λ (a : l.start < l.end).
    let i₀ : Installs l.start l.end l.updates d r = record { from = omega arith; upto = omega arith; some = a; below = omega arith; home = λ b h. ap (λ j. latest (take j l.updates) b (block d b)) (let y : l.start - l.start ≡ 0 = omega arith in y) } in
    subst (InstallDone l d) (sym (ap (λ t. cond t (install_round l r d) (answering l.start [] l d)) (lt-ltb l.start l.end a))) (install_round_lem l d k r i₀))
    (λ (a : l.end ≤ l.start).
    subst (InstallDone l d) (sym (ap (λ t. cond t (install_round l r d) (answering l.start [] l d)) (le-ltb l.start l.end a)))
    (record { kept = k; answer = refl; buffer = refl; writes = refl; places = omega (arith, k.card.at_start, k.card.at_end, k.order.start_end); shown = λ q b x y. refl; end = refl; frozen = refl; reach = refl; logging = refl; later = λ p x. refl }))
    (cases_lt l.start l.end)

pub install_done : (l : Log) (d : Blocks) → Kept l d → InstallDone l d (install_step l d)
install_done l d k = install_by_lem l.installing l d k k.installing

-- ## In which round an installer step works

pub record InstallMoves (r : Round) (l m : Log) : Type 0 where
  pub moved : ((r.next < r.target) × (m.installing ≡ Some (record { next = r.next + 1; target = r.target })) × (m.start ≡ l.start)) ⊎ ((r.target ≤ r.next) × (m.installing ≡ None) × (m.start ≡ r.target))

install_moves : (l : Log) (d : Blocks) → Kept l d → (r : Round) → Installs l.start l.end l.updates d r → InstallMoves r l (install_round l r d).state
install_moves l d k r i = ⊎_elim
    (λ (more : r.next < r.target).
    let u = update_at l r.next in
    let h = installer.here l.start l.end l.frozen l.updates l.homes d k.order k.card k.good r i more in
    subst (λ (o : Outcome Log). InstallMoves r l o.state) (sym (ap (λ t. cond t (install_next l r d) (install_start l r d)) (lt-ltb r.next r.target more) ∙
    writing_granted l d u.home u.bytes l.start (installing_at l (record { next = r.next + 1; target = r.target })) h.high h.alive h.full))
    (record { moved = inl (more, refl, refl) }))
    (λ (over : r.target ≤ r.next).
    subst (λ (o : Outcome Log). InstallMoves r l o.state) (sym (ap (λ t. cond t (install_next l r d) (install_start l r d)) (le-ltb r.next r.target over) ∙
    writing_granted l d 1 (start_block r.target) r.target (started_at l r.target) (omega (arith, k.card.ready.large)) (k.card.ready.alive 1 (omega arith)) (length_start r.target)))
    (record { moved = inr (over, refl, refl) }))
    (cases_lt r.next r.target)

-- the round that runs, else one to end
abbrev pub install_of : Log → Option Round → Round
install_of l (Some r) = r
install_of l None = record { next = l.start; target = l.end }

pub record InstallGoes (l : Log) (x : Option Round) (m : Log) : Type 0 where
  pub goes : ((x ≡ None) × (m ≡ l) × (l.end ≤ l.start)) ⊎ InstallMoves (install_of l x) l m

install_goes_by : (x : Option Round) (l : Log) (d : Blocks) → Kept l d → IfSome x (Installs l.start l.end l.updates d) → InstallGoes l x (install_by x l d).state
install_goes_by (Some r) l d k i = record { goes = inr (install_moves l d k r i) }
install_goes_by None l d k i =
    let r : Round = record { next = l.start; target = l.end } in
    ⊎_elim
    (λ (a : l.start < l.end).
    let i₀ : Installs l.start l.end l.updates d r = record { from = omega arith; upto = omega arith; some = a; below = omega arith; home = λ b h. ap (λ j. latest (take j l.updates) b (block d b)) (let y : l.start - l.start ≡ 0 = omega arith in y) } in
    record { goes = inr (subst (λ (q : Bool). InstallMoves r l (cond q (install_round l r d) (answering l.start [] l d)).state) (sym (lt-ltb l.start l.end a)) (install_moves l d k r i₀)) })
    (λ (a : l.end ≤ l.start). record { goes = inl (refl, ap (λ q. (cond q (install_round l r d) (answering l.start [] l d)).state) (le-ltb l.start l.end a), a) })
    (cases_lt l.start l.end)

pub install_goes : (l : Log) (d : Blocks) → Kept l d → InstallGoes l l.installing (install_step l d).state
install_goes l d k = install_goes_by l.installing l d k k.installing
