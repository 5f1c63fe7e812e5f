-- Every call keeps what holds, and does what the record says.
use Rattle.std.proofs.Common.{◌≡◌, ℕ, ◌+◌, ◌-◌, ◌%◌, ◌≤◌, not, eqb, ltb, leb, List, [], ◌∷◌, ◌++◌, length, get_or, is_some, IfErr, Some, None, Ok, Option, Result, unwrap_or, sym, refl, ap, ◌∙◌, subst, arith}
use Rattle.std.proofs.lemmas.List.{take_all}
use Rattle.disk.specs.Tests.{first_of, either}
use Rattle.disk.specs.Meaning.{Block, Blocks, block, is_live, bytes_or}
use Rattle.object.specs.declared.Place.{Place}
use Rattle.object.specs.Objects.{block_bits, allowed, width, part}
use Rattle.object.specs.Tables.{Held, value_in}
use Rattle.card.specs.declared.Update.{Update}
use Rattle.card.specs.Layout.{homes_from, end_on, latest}
use Rattle.object.specs.declared.ObjectFault.TheVariants.{Size, Misplaced, Buffer}
use Rattle.model.specs.declared.Fault.{Fault}
use Rattle.model.specs.declared.Fault.TheVariants.{Ticket, Object}
use Rattle.model.specs.Outcomes.{Outcome, decided}
use Rattle.model.specs.Log.{Log, last}
use Rattle.model.specs.Steps.{newest, log_step, install_step}
use Rattle.model.specs.Operations.{place_tests, table_tests, committed}
use Rattle.model.specs.Journal.{Open, View}
use Rattle.model.specs.Calls.{Call, begins, reads, overwrites, commits, gives_up, flushes, logs, installs, buffer_of, held_by, with_log, ticket_tests, known, seen, tests_of, grants, called, outcome}
use Rattle.model.proofs.Tests.{none_both}
use Rattle.law.specs.Record.{Record, granted, noted}
use Rattle.law.specs.Law.{as_told, Told, Unaltered, ByWrote, Writes, SameReads, LogsAt, AfterCall}
use Rattle.law.proofs.Rounds.{log_done, install_done}
use Rattle.law.proofs.Told as Told₂
use Rattle.law.proofs.Refusals.{Inv, refused_same, known_live, place_passed}
use Rattle.law.proofs.Ops.{begun_inv, given_up_inv, overwritten_inv, read_inv, commit_inv, flush_inv, log_inv, install_inv, wrote_live}

-- ## What holds after a call

grants_inv : (c : Call) (j : Open) (d : Blocks) (r : Record) → Inv j d r → first_of (tests_of c j d) ≡ None → Inv (grants c j d).state (grants c j d).disk (noted c (grants c j d).answer r)
grants_inv (begins n) j d r i e = begun_inv j d r i n
grants_inv (reads n o buffer) j d r i e = read_inv j d r i n o buffer e
grants_inv (overwrites n o bytes) j d r i e = overwritten_inv j d r i n o bytes e
grants_inv (commits n) j d r i e = commit_inv j d r i n e
grants_inv (gives_up n) j d r i e = given_up_inv j d r i n
grants_inv flushes j d r i e = flush_inv j d r i
grants_inv logs j d r i e = subst (λ (a : Result ℕ Fault). Inv (with_log j (log_step j.log d).state) (log_step j.log d).disk (noted logs a r)) (sym (log_done j.log d i.kept).answer) (log_inv j d r i)
grants_inv installs j d r i e = subst (λ (a : Result ℕ Fault). Inv (with_log j (install_step j.log d).state) (install_step j.log d).disk (noted installs a r)) (sym (install_done j.log d i.kept).answer) (install_inv j d r i)

by_tests : (c : Call) (j : Open) (d : Blocks) (r : Record) → Inv j d r → (x : Option Fault) → (x ≡ None → Inv (grants c j d).state (grants c j d).disk (noted c (grants c j d).answer r)) →
    Inv (decided x (buffer_of c) j d (grants c j d)).state (decided x (buffer_of c) j d (grants c j d)).disk (noted c (decided x (buffer_of c) j d (grants c j d)).answer r)
by_tests c j d r i None h = h refl
by_tests c j d r i (Some f) h = i

pub call_inv : (c : Call) (j : Open) (d : Blocks) (r : Record) → Inv j d r → Inv (called c j d).state (called c j d).disk (noted c (called c j d).answer r)
call_inv c j d r i = by_tests c j d r i (first_of (tests_of c j d)) (grants_inv c j d r i)

-- ## What it answers

answer_told : (x : Option Fault) (buffer : List ℕ) (j : Open) (d : Blocks) (g : Outcome Open) (m : ℕ) → g.answer ≡ Ok m → (decided x buffer j d g).answer ≡ as_told x m
answer_told None buffer j d g m e = e
answer_told (Some f) buffer j d g m e = refl

pub told : (c : Call) (j : Open) (d : Blocks) (r : Record) → Inv j d r → (m : ℕ) → (grants c j d).answer ≡ Ok m → Told c (outcome c (Some j) d) d r m
told c j d r i m e = answer_told (first_of (tests_of c j d)) (buffer_of c) j d (grants c j d) m e ∙ ap (λ x. as_told x m) (refused_same c j d r i)

unaltered_by : (x : Option Fault) (buffer : List ℕ) (j : Open) (d : Blocks) (g : Outcome Open) (m : ℕ) → g.answer ≡ Ok m →
    IfErr (decided x buffer j d g).answer (λ f. (◌≡◌ {A = View} (Some (decided x buffer j d g).state) (Some j)) × ((decided x buffer j d g).disk ≡ d) × ((decided x buffer j d g).buffer ≡ buffer) × ((decided x buffer j d g).wrote ≡ []))
unaltered_by None buffer j d g m e = subst (λ (a : Result ℕ Fault). IfErr a (λ f. (◌≡◌ {A = View} (Some g.state) (Some j)) × (g.disk ≡ d) × (g.buffer ≡ buffer) × (g.wrote ≡ []))) (sym e) tt
unaltered_by (Some f) buffer j d g m e = (refl, refl, refl, refl)

writes_none : (x : Option Fault) (buffer : List ℕ) (j : Open) (d : Blocks) (g : Outcome Open) → g.wrote ≡ [] → g.disk ≡ d → ((decided x buffer j d g).wrote ≡ []) × ((decided x buffer j d g).disk ≡ d)
writes_none None buffer j d g a b = (a, b)
writes_none (Some f) buffer j d g a b = (refl, refl)

grant_answer : (c : Call) (j : Open) (d : Blocks) (r : Record) → Inv j d r → (m : ℕ) × ((grants c j d).answer ≡ Ok m)
grant_answer (begins n) j d r i = (n, refl)
grant_answer (reads n o buffer) j d r i = (width o.size, refl)
grant_answer (overwrites n o bytes) j d r i = (width o.size, refl)
grant_answer (commits n) j d r i = (j.log.start + length (committed (held_by j n) j.log d), refl)
grant_answer (gives_up n) j d r i = (0, refl)
grant_answer flushes j d r i = (last j.log, refl)
grant_answer logs j d r i = ((log_step j.log d).state.end, (log_done j.log d i.kept).answer)
grant_answer installs j d r i = ((install_step j.log d).state.start, (install_done j.log d i.kept).answer)

pub call_unaltered : (c : Call) (j : Open) (d : Blocks) (r : Record) → Inv j d r → Unaltered c (Some j) d (outcome c (Some j) d)
call_unaltered c j d r i = let a = grant_answer c j d r i in unaltered_by (first_of (tests_of c j d)) (buffer_of c) j d (grants c j d) a.0 a.1

pub call_writes : (c : Call) (j : Open) (d : Blocks) (r : Record) → Inv j d r → Writes c d (outcome c (Some j) d)
call_writes (begins n) j d r i = writes_none (first_of (tests_of (begins n) j d)) [] j d (grants (begins n) j d) refl refl
call_writes (reads n o buffer) j d r i = writes_none (first_of (tests_of (reads n o buffer) j d)) buffer j d (grants (reads n o buffer) j d) refl refl
call_writes (overwrites n o bytes) j d r i = writes_none (first_of (tests_of (overwrites n o bytes) j d)) bytes j d (grants (overwrites n o bytes) j d) refl refl
call_writes (commits n) j d r i = writes_none (first_of (tests_of (commits n) j d)) [] j d (grants (commits n) j d) refl refl
call_writes (gives_up n) j d r i = writes_none (first_of (tests_of (gives_up n) j d)) [] j d (grants (gives_up n) j d) refl refl
call_writes flushes j d r i = (refl, refl)
call_writes logs j d r i = (log_done j.log d i.kept).writes
call_writes installs j d r i = (install_done j.log d i.kept).writes

-- ## Reads that a step leaves alone

place_tests_lem : (d e : Blocks) (o : Place) (n : ℕ) → length d ≡ length e → place_tests d o n ≡ place_tests e o n
place_tests_lem d e o n p = ap (λ m. (not (allowed o.size), Object (Size o.block)) ∷
    (either (either (ltb o.block homes_from) (leb m o.block)) (either (leb block_bits o.offset) (not (eqb (o.offset % o.size) 0))), Object (Misplaced o.block)) ∷
    (not (eqb n (width o.size)), Object (Buffer o.block)) ∷ []) p

ticket_tests_lem : (j k : Open) (n : ℕ) → j.operations ≡ k.operations → ticket_tests j n ≡ ticket_tests k n
ticket_tests_lem j k n p = ap (λ (xs : List (Option (List Held))). (not (is_some (get_or xs n None)), Ticket) ∷ []) p

module _ (j j' : Open) (d d' : Blocks) (r r' : Record) (i : Inv j d r) (i' : Inv j' d' r') (ops : j'.operations ≡ j.operations) (len : length d' ≡ length d) (live : (b : ℕ) → is_live (block d' b) ≡ is_live (block d b))
    (new : (b : ℕ) → homes_from ≤ b → newest j'.log d' b ≡ newest j.log d b) where
  -- the tests of a place look at the disk's count alone
  same_place_tests : (o : Place) (n : ℕ) → place_tests d o n ≡ place_tests d' o n
  same_place_tests o n = place_tests_lem d d' o n (sym len)

  same_held : (n : ℕ) → held_by j n ≡ held_by j' n
  same_held n = ap (λ (xs : List (Option (List Held))). unwrap_or (get_or xs n None) []) (sym ops)

  same_tests : (n : ℕ) (o : Place) (buffer : List ℕ) → tests_of (reads n o buffer) j d ≡ tests_of (reads n o buffer) j' d'
  same_tests n o buffer =
      ap (λ q. ticket_tests j n ++ (place_tests d o (length buffer) ++ table_tests (held_by j n) q o)) (known_live j d i.kept i.tables n o ∙ sym (live o.block) ∙ sym (known_live j' d' i'.kept i'.tables n o)) ∙
      ap (λ ts. ts ++ (place_tests d o (length buffer) ++ table_tests (held_by j n) (known j' d' n o) o)) (ticket_tests_lem j j' n (sym ops)) ∙
      ap (λ ts. ticket_tests j' n ++ (ts ++ table_tests (held_by j n) (known j' d' n o) o)) (same_place_tests o (length buffer)) ∙
      ap (λ gs. ticket_tests j' n ++ (place_tests d' o (length buffer) ++ table_tests gs (known j' d' n o) o)) (same_held n)

  -- where it is granted, the object's block is a data block, and shows the same
  same_seen : (n : ℕ) (o : Place) (buffer : List ℕ) → first_of (tests_of (reads n o buffer) j d) ≡ None → seen j d n o ≡ seen j' d' n o
  same_seen n o buffer e =
      let p = none_both (place_tests d o (length buffer)) (table_tests (held_by j n) (known j d n o) o) (none_both (ticket_tests j n) (place_tests d o (length buffer) ++ table_tests (held_by j n) (known j d n o) o) e).1 in
      let nm = place_passed d o (length buffer) p.0 in
      ap (λ (gs : List Held). unwrap_or (value_in gs o) (part o (bytes_or (newest j.log d o.block) []))) (same_held n) ∙
      ap (λ (x : Block). unwrap_or (value_in (held_by j' n) o) (part o (bytes_or x []))) (sym (new o.block nm.low))

  fills : (x : Option Fault) (buffer a b : List ℕ) (g g' : Outcome Open) → g.buffer ≡ a → g'.buffer ≡ b → (x ≡ None → a ≡ b) → (decided x buffer j d g).buffer ≡ (decided x buffer j' d' g').buffer
  fills None buffer a b g g' p q h = p ∙ h refl ∙ sym q
  fills (Some f) buffer a b g g' p q h = refl

  pub same_reads : SameReads (Some j) d (Some j') d'
  same_reads n o buffer =
      let t = same_tests n o buffer in
      let c = reads n o buffer in (
        answer_told (first_of (tests_of c j d)) buffer j d (grants c j d) (width o.size) refl ∙ ap (λ ts. as_told (first_of ts) (width o.size)) t ∙ sym (answer_told (first_of (tests_of c j' d')) buffer j' d' (grants c j' d') (width o.size) refl),
        fills (first_of (tests_of c j d)) buffer (seen j d n o) (seen j' d' n o) (grants c j d) (grants c j' d') refl refl (same_seen n o buffer) ∙ ap (λ ts. (decided (first_of ts) buffer j' d' (grants c j' d')).buffer) t,
      )

-- ## Steps

module _ (j : Open) (d : Blocks) (r : Record) (i : Inv j d r) where
  abbrev l : Log
  l = j.log

  log_newest : (b : ℕ) → homes_from ≤ b → newest (log_step l d).state (log_step l d).disk b ≡ newest l d b
  log_newest b a = let h = log_done l d i.kept in ap (λ (us : List Update). latest us b (block (log_step l d).disk b)) h.updates ∙ ap (latest l.updates b) (h.home_blocks b a)

  install_newest : (b : ℕ) → homes_from ≤ b → newest (install_step l d).state (install_step l d).disk b ≡ newest l d b
  install_newest b a =
      let h = install_done l d i.kept in
      let o = install_step l d in
      let m = o.state in
      ap (λ (us : List Update). latest us b (block o.disk b)) (sym (take_all (last l - m.start) m.updates (omega (arith, h.reach)))) ∙
      h.shown (last l) b (omega (arith, i.kept.order.end_frozen, i.kept.order.frozen_last)) a ∙
      ap (λ (us : List Update). latest us b (block d b)) (take_all (last l - l.start) l.updates (omega arith))

  pub log_after : AfterCall logs (Some j) d (outcome logs (Some j) d) r (noted logs (outcome logs (Some j) d).answer r)
  log_after =
      let h = log_done l d i.kept in
      let o = log_step l d in (
        h.answer ∙ ap Ok h.kept.card.at_end,
        subst (λ (n : ℕ). ByWrote o.wrote (end_on d ≡ n) (LogsAt d n o.disk)) i.told.at_reached h.places,
        h.homes,
        same_reads j (with_log j o.state) d o.disk r (granted logs o.state.end r) i (log_inv j d r i) refl (Told₂.wrote_length o.wrote d o.disk h.writes) (wrote_live o.wrote d o.disk h.writes) log_newest,
      )

  pub install_after : AfterCall installs (Some j) d (outcome installs (Some j) d) r (noted installs (outcome installs (Some j) d).answer r)
  install_after =
      let h = install_done l d i.kept in
      let o = install_step l d in (
        h.answer ∙ ap Ok h.kept.card.at_start,
        h.places,
        same_reads j (with_log j o.state) d o.disk r r i (install_inv j d r i) refl (Told₂.wrote_length o.wrote d o.disk h.writes) (wrote_live o.wrote d o.disk h.writes) install_newest,
      )
