-- What each call answers and leaves, by the record.
use Rattle.std.proofs.Common.{◌≡◌, ℕ, ◌+◌, ◌<◌, true, List, [], ◌∷◌, ◌++◌, length, get_or, is_some, IfOk, Some, None, Ok, Option, unwrap_or, sym, refl, ap, ◌∙◌, subst, arith, get_or-set_same}
use Rattle.std.proofs.lemmas.Bool.{eq-eqb}
use Rattle.disk.specs.Tests.{first_of, unless, either}
use Rattle.disk.specs.Meaning.{Blocks}
use Rattle.object.specs.declared.Place.{Place}
use Rattle.object.specs.Objects.{width}
use Rattle.object.specs.Tables.{Held, value_in, holding, dirty_ones}
use Rattle.object.proofs.Tables.{held_now}
use Rattle.model.specs.declared.Fault.{Fault}
use Rattle.model.specs.Outcomes.{Outcome, decided}
use Rattle.model.specs.Operations.{among, place_tests, bit_tests, table_tests, committed}
use Rattle.model.specs.Journal.{Open}
use Rattle.model.specs.Calls.{Call, begins, reads, overwrites, commits, gives_up, flushes, logs, installs, held_by, ticket_tests, known, tests_of, grants, outcome}
use Rattle.model.proofs.Card.{not_false}
use Rattle.model.proofs.Tests.{none_both, none_first}
use Rattle.law.specs.Record.{Record, touched_by, noted, due, blocks_of}
use Rattle.law.specs.Law.{Fresh, AfterCall}
use Rattle.law.proofs.Tables.{table_of}
use Rattle.law.proofs.CommitTold as CommitTold
use Rattle.law.proofs.CommitTold.{dirty_among}
use Rattle.law.proofs.Refusals.{Inv, refused_same, commit_due, held_touched}
use Rattle.law.proofs.Ops.{read_fills, some_in}
use Rattle.law.proofs.Run.{told, log_after, install_after}

module _ (j : Open) (d : Blocks) (r : Record) (i : Inv j d r) (n : ℕ) where
  fills : (o : Place) (buffer : List ℕ) (x : Option Fault) → first_of (tests_of (reads n o buffer) j d) ≡ x →
      (decided x buffer j d (grants (reads n o buffer) j d)).buffer ≡ unless x (unwrap_or (value_in (touched_by (noted (reads n o buffer) (decided x buffer j d (grants (reads n o buffer) j d)).answer r) n) o) []) buffer
  fills o buffer None e = read_fills j d r i n o buffer e
  fills o buffer (Some f) e = refl

  pub read_after : (o : Place) (buffer : List ℕ) → AfterCall (reads n o buffer) (Some j) d (outcome (reads n o buffer) (Some j) d) r (noted (reads n o buffer) (outcome (reads n o buffer) (Some j) d).answer r)
  read_after o buffer =
      let c = reads n o buffer in (
        told c j d r i (width o.size) refl,
        fills o buffer (first_of (tests_of c j d)) refl ∙ ap (λ x. unless x (unwrap_or (value_in (touched_by (noted c (outcome c (Some j) d).answer r) n) o) []) buffer) (refused_same c j d r i),
      )

  -- an open number is one of the record's
  in_record : first_of (ticket_tests j n) ≡ None → n < length r.touched
  in_record e = some_in r.touched n (ap (λ (ops : List (Option (List Held))). is_some (get_or ops n None)) (sym i.touched) ∙ not_false (is_some (get_or j.operations n None)) (none_first _ [] e).0)

  holds_new : (o : Place) (v : List ℕ) (x : Option Fault) → first_of (tests_of (overwrites n o v) j d) ≡ x →
      IfOk (decided x v j d (grants (overwrites n o v) j d)).answer (λ m. value_in (touched_by (noted (overwrites n o v) (decided x v j d (grants (overwrites n o v) j d)).answer r) n) o ≡ Some v)
  holds_new o v None e =
      let h : Held = record { place = o; bytes = v; dirty = true } in
      let t = (none_both (ticket_tests j n) (place_tests d o (length v) ++ (bit_tests o v ++ table_tests (held_by j n) (known j d n o) o)) e).0 in
      ap (λ (x : Option (List Held)). value_in (unwrap_or x []) o) (get_or-set_same r.touched n (Some (holding (touched_by r n) h)) None (in_record t)) ∙ held_now (touched_by r n) h
  holds_new o v (Some f) e = tt

  keeps : (x : Option Fault) (v : List ℕ) (g : Outcome Open) → g.buffer ≡ v → (decided x v j d g).buffer ≡ v
  keeps None v g e = e
  keeps (Some f) v g e = refl

  pub overwrite_after : (o : Place) (v : List ℕ) → AfterCall (overwrites n o v) (Some j) d (outcome (overwrites n o v) (Some j) d) r (noted (overwrites n o v) (outcome (overwrites n o v) (Some j) d).answer r)
  overwrite_after o v =
      let c = overwrites n o v in
      (told c j d r i (width o.size) refl, keeps (first_of (tests_of c j d)) v (grants c j d) refl, holds_new o v (first_of (tests_of c j d)) refl)

  some_dirty : (gs : List Held) → 0 < length gs → (b : ℕ) × (among b (blocks_of gs) ≡ true)
  some_dirty [] l = absurd (omega arith)
  some_dirty (g ∷ gs) l = (g.place.block, ap (λ q. either q (among g.place.block (blocks_of gs))) (eq-eqb g.place.block g.place.block refl))

  is_fresh : Fresh r n (j.log.start + length (committed (held_by j n) j.log d))
  is_fresh some =
      let hs = held_by j n in
      let s = some_dirty (dirty_ones hs) (subst (λ (gs : List Held). 0 < length (dirty_ones gs)) (sym (held_touched j d r i n)) some) in
      let a = CommitTold.above r.first r.commits j.log d i.kept i.far hs (table_of j.operations d i.tables n) r.ended r.reached r.flushed r.settled i.told s.0 (dirty_among hs [] s.0 refl ∙ s.1) in
      (omega (arith, i.told.below, i.told.at_settled), omega (arith, i.told.at_ended, i.kept.order.end_frozen))

  fresh_by : (x : Option Fault) → IfOk (decided x [] j d (grants (commits n) j d)).answer (Fresh r n)
  fresh_by None = is_fresh
  fresh_by (Some f) = tt

  pub commit_after : AfterCall (commits n) (Some j) d (outcome (commits n) (Some j) d) r (noted (commits n) (outcome (commits n) (Some j) d).answer r)
  commit_after = (told (commits n) j d r i (due r n) (ap Ok (commit_due j d r i n)), fresh_by (first_of (tests_of (commits n) j d)))

pub after : (c : Call) (j : Open) (d : Blocks) (r : Record) → Inv j d r → AfterCall c (Some j) d (outcome c (Some j) d) r (noted c (outcome c (Some j) d).answer r)
after (begins n) j d r i = told (begins n) j d r i n refl
after (reads n o buffer) j d r i = read_after j d r i n o buffer
after (overwrites n o bytes) j d r i = overwrite_after j d r i n o bytes
after (commits n) j d r i = commit_after j d r i n
after (gives_up n) j d r i = told (gives_up n) j d r i 0 refl
after flushes j d r i = ap Ok i.told.at_reached
after logs j d r i = log_after j d r i
after installs j d r i = install_after j d r i
