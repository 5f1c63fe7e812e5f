-- What a step does: the write of one block, and the log's updates by position.
use Rattle.std.proofs.Common.{◌≡◌, ℕ, ◌+◌, ◌-◌, ◌<◌, ◌≤◌, Bool, true, false, cond, ltb, List, [], ◌∷◌, ◌++◌, length, take, drop, max, set, Some, None, Ok, Err, Option, Result, sym, refl, ap, ◌∙◌, subst, arith}
use Rattle.std.proofs.lemmas.List.FromFn.{length-map-range_with_len, get_or-map-range_with_len, take-map-range_with_len, map-range_with_len_more}
use Rattle.disk.specs.declared.fault.DiskFault.{DiskFault}
use Rattle.disk.specs.Tests.{unless}
use Rattle.disk.specs.Meaning.{Blocks, refusal, answered, written, counted, one_more}
use Rattle.disk.proofs.Refusals.{answered_err}
use Rattle.card.specs.declared.Update.{Update}
use Rattle.card.specs.Layout.{slot, log_block, header_block, start_block}
use Rattle.model.specs.declared.LogFault.{LogFault}
use Rattle.model.specs.declared.LogFault.TheVariants.{Dead}
use Rattle.model.specs.declared.Round.{Round}
use Rattle.model.specs.Log as model
use Rattle.model.specs.Log.{last}
use Rattle.model.specs.declared.Fault.TheVariants.{Log as InLog}
use Rattle.model.specs.Outcomes.{Outcome, refused_by, decided, answering, writes_after}
use Rattle.model.specs.Steps.{frozen_at, logging_at, installing_at, ended_at, started_at, writing, dead_for, update_at, with_homes, homes_after, log_step, log_by, log_round, log_next, log_header, install_next, install_start}
use Rattle.journal_log.specs.declared.state.Log.{Log}
use Rattle.journal_log.specs.declared.steps.Step.{Step}
use Rattle.journal_log.specs.Ring.{row_at, rows_from}
use Rattle.journal_log.specs.Rounds.{target_in}
use Rattle.journal_log.specs.View.{view}
use Rattle.journal_log.proofs.Rows.{rows_dropped}
use Rattle.journal_log.specs.Steps.{Logs, Installs, Stepped, settling, block_told, new_target}

pub stepped_as : {o p : Outcome model.Log} {r : Result Step LogFault} {l : model.Log} {d : Blocks} {w v : ℕ} → o ≡ p → Stepped p r l d w v → Stepped o r l d w v
stepped_as {r = r} {l = l} {d = d} {w = w} {v = v} e s = subst (λ q. Stepped q r l d w v) (sym e) s

-- ## One write

answered_ok : (f : Option DiskFault) → Ok tt ≡ answered f → f ≡ None
answered_ok None e = refl
answered_ok (Some x) e = let z : ◌≡◌ {A = ℕ} 0 1 = cc in absurd (omega arith)

-- the outcome of a write that is granted
abbrev wrote_one : Blocks → ℕ → List ℕ → ℕ → model.Log → Outcome model.Log
wrote_one d b bs a after = record { answer = Ok a; wrote = b ∷ []; buffer = []; state = after; disk = written d b bs }

module _ (o : Outcome model.Log) (before after : model.Log) (d e : Blocks) (b : ℕ) (bs : List ℕ) (a w v : ℕ)
    (does : o ≡ writing before d b bs a after) (blocks : e ≡ written d b bs) (count : v ≡ counted d b (length bs) w) where
  -- the disk refuses: nothing changes
  pub step_refused : (f : DiskFault) → Err f ≡ answered (refusal d b (length bs)) → Stepped o (Err (Dead f)) before e w v
  step_refused f x =
      let r = answered_err (refusal d b (length bs)) f x in
      let is : o ≡ refused_by (InLog (Dead f)) [] before d = does ∙ ap (λ y. decided (dead_for y) [] before d (wrote_one d b bs a after)) r in
      record {
        answer = sym (ap (λ p. p.answer) is);
        wrote = sym (ap (λ p. p.wrote) is);
        log = sym (ap (λ p. p.state) is);
        blocks = blocks ∙ ap (λ (y : Option DiskFault). unless y (set d b (Some bs)) d) r ∙ sym (ap (λ p. p.disk) is);
        writes = count ∙ ap (λ (y : Option DiskFault). unless y (one_more w) w) r ∙ sym (ap (λ p. writes_after p w) is);
      }

  -- the disk grants it
  pub step_granted : (l : model.Log) → l ≡ after → Ok tt ≡ answered (refusal d b (length bs)) → (s : Step) → s ≡ record { wrote = Some b; position = a } → Stepped o (Ok s) l e w v
  step_granted l to x s told =
      let r = answered_ok (refusal d b (length bs)) x in
      let is : o ≡ wrote_one d b bs a after = does ∙ ap (λ y. decided (dead_for y) [] before d (wrote_one d b bs a after)) r in
      record {
        answer = ap (λ (t : Step). Ok t.position) told ∙ sym (ap (λ p. p.answer) is);
        wrote = ap (λ (t : Step). block_told t.wrote) told ∙ sym (ap (λ p. p.wrote) is);
        log = to ∙ sym (ap (λ p. p.state) is);
        blocks = blocks ∙ sym (ap (λ p. p.disk) is);
        writes = count ∙ ap (λ (y : Option DiskFault). unless y (one_more w) w) r ∙ sym (ap (λ p. writes_after p w) is);
      }

-- ## Updates by position

pub last_is : (l : Log) → last (view l) ≡ l.last
last_is l = let n = length-map-range_with_len (row_at l.ring.rows) l.start (l.last - l.start) in let o = l.order in omega arith

pub update_is : (l : Log) (p : ℕ) → l.start ≤ p → p < l.last → update_at (view l) p ≡ row_at l.ring.rows p
update_is l p a b = get_or-map-range_with_len (row_at l.ring.rows) l.start (l.last - l.start) (p - l.start) p _ (omega arith) (omega arith)

-- ## Home numbers

-- one more
with_homes_more : (homes : List ℕ) (p q : ℕ) (us : List Update) (u : Update) → p + length us ≡ q → with_homes homes p (us ++ u ∷ []) ≡ set (with_homes homes p us) (slot q) u.home
with_homes_more homes p q [] u e = ap (λ (k : ℕ). set homes (slot k) u.home) (let f : p ≡ q = omega arith in f)
with_homes_more homes p q (v ∷ us) u e = with_homes_more (set homes (slot p) v.home) (p + 1) q us u (omega arith)

-- the home numbers with those of the positions from `end` up to p, and from there up to one further
abbrev pub homes_to : List ℕ → List Update → ℕ → ℕ → List ℕ
homes_to homes rows end p = with_homes homes end (rows_from rows end (p - end))

pub homes_more : (homes : List ℕ) (rows : List Update) (end p : ℕ) → end ≤ p → homes_to homes rows end (p + 1) ≡ set (homes_to homes rows end p) (slot p) (row_at rows p).home
homes_more homes rows end p h =
    let n : p + 1 - end ≡ p - end + 1 = omega arith in
    let m = length-map-range_with_len (row_at rows) end (p - end) in
    ap (λ (k : ℕ). with_homes homes end (rows_from rows end k)) n ∙
    ap (with_homes homes end) (map-range_with_len_more (row_at rows) end (p - end) p (omega arith)) ∙
    with_homes_more homes end p (rows_from rows end (p - end)) (row_at rows p) (omega arith)

-- the updates of a round
pub round_rows : (rows : List Update) (start last end target : ℕ) → start ≤ end → end ≤ target → target ≤ last →
    rows_from rows end (target - end) ≡ take (target - end) (drop (end - start) (rows_from rows start (last - start)))
round_rows rows start last end target a b c =
    sym (ap (take (target - end)) (sym (rows_dropped rows start last end a (omega arith))) ∙ take-map-range_with_len (row_at rows) end (last - end) (target - end) (omega arith))

-- ## What each kind of step writes: the block and the bytes that the code names

module _ (l : Log) (d : Blocks) (r : Round) where
  module _ (k : Logs l r) where
    pub next_does : (b : ℕ) (u : Update) → r.next < r.target → b ≡ log_block r.next → u ≡ row_at l.ring.rows r.next →
        log_next (view l) (settling l r) r d ≡ writing (view l) d b u.bytes l.end (logging_at (settling l r) (record { next = r.next + 1; target = r.target }))
    next_does b u m at is =
        let e = is ∙ sym (update_is l r.next (let o = l.order in omega (arith, k.from)) (omega (arith, k.present))) in
        let to = logging_at (settling l r) (record { next = r.next + 1; target = r.target }) in
        ap (λ (x : ℕ). writing (view l) d x (update_at (view l) r.next).bytes l.end to) (sym at) ∙ ap (λ (x : Update). writing (view l) d b x.bytes l.end to) (sym e)

    pub header_does : (homes bs : List ℕ) → homes ≡ homes_after (view l) (record { next = r.target; target = r.target }) → bs ≡ header_block (record { end = r.target; homes = homes }) →
        log_header (view l) (settling l r) r d ≡ writing (view l) d 0 bs r.target (ended_at (settling l r) r.target homes)
    header_does homes bs is coded =
        ap (λ (x : List ℕ). writing (view l) d 0 (header_block (record { end = r.target; homes = x })) r.target (ended_at (settling l r) r.target x)) (sym is) ∙
        ap (λ (x : List ℕ). writing (view l) d 0 x r.target (ended_at (settling l r) r.target homes)) (sym coded)

  module _ (k : Installs l r) where
    pub home_does : (u : Update) → r.next < r.target → u ≡ row_at l.ring.rows r.next →
        install_next (view l) r d ≡ writing (view l) d u.home u.bytes l.start (installing_at (view l) (record { next = r.next + 1; target = r.target }))
    home_does u m is =
        let e = is ∙ sym (update_is l r.next k.from (let o = l.order in omega (arith, k.durable))) in
        ap (λ (x : Update). writing (view l) d x.home x.bytes l.start (installing_at (view l) (record { next = r.next + 1; target = r.target }))) (sym e)

    pub start_does : (bs : List ℕ) → bs ≡ start_block r.target → install_start (view l) r d ≡ writing (view l) d 1 bs r.target (started_at (view l) r.target)
    start_does bs coded = ap (λ (x : List ℕ). writing (view l) d 1 x r.target (started_at (view l) r.target)) (sym coded)

-- ## A logger step

-- where a round runs, all below its target is settled
pub running : (l : Log) (d : Blocks) (r : Round) → l.logging ≡ Some r → log_step (view l) d ≡ log_round (view l) (settling l r) r d
running l d r is =
    let t : r.target ≤ l.frozen = subst (λ (o : Option Round). target_in o l.end ≤ l.frozen) is l.logged.2 in
    ap (λ o. log_by o (view l) d) is ∙ ap (λ (n : ℕ). log_round (view l) (frozen_at (view l) n) r d) (let e : l.frozen ≡ max l.frozen r.target = omega arith in e)

-- a new round to this position settles all below it
pub begun : (l : Log) (d : Blocks) (p : ℕ) → l.frozen ≤ p → log_round (view l) (frozen_at (view l) p) (record { next = l.end; target = p }) d ≡ log_round (view l) (settling l (record { next = l.end; target = p })) (record { next = l.end; target = p }) d
begun l d p h = ap (λ (n : ℕ). log_round (view l) (frozen_at (view l) n) (record { next = l.end; target = p }) d) (let e : p ≡ max l.frozen p = omega arith in e)

module _ (l : Log) (d : Blocks) where
  -- a new round to this target, or nothing
  abbrev pub new_round : Option ℕ → Outcome model.Log
  new_round None = answering l.end [] (view l) d
  new_round (Some p) = log_round (view l) (frozen_at (view l) p) (record { next = l.end; target = p }) d

  by_tests : (s t : Bool) → cond s (new_round (Some l.frozen)) (cond t (new_round (Some l.last)) (new_round None)) ≡ new_round (cond s (Some l.frozen) (cond t (Some l.last) None))
  by_tests true t = refl
  by_tests false true = refl
  by_tests false false = refl

  pub new_round_lem : (t : Option ℕ) → l.logging ≡ None → t ≡ new_target l → log_step (view l) d ≡ new_round t
  new_round_lem t none is =
      ap (λ r. log_by r (view l) d) none ∙
      ap (λ (n : ℕ). cond (ltb l.end l.frozen) (new_round (Some l.frozen)) (cond (ltb l.end n) (new_round (Some n)) (new_round None))) (last_is l) ∙
      by_tests (ltb l.end l.frozen) (ltb l.end l.last) ∙
      ap new_round (sym is)
