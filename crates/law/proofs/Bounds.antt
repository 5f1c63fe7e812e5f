-- How many steps it takes: each step of a round lowers what is left of it, and no other call raises it.
use Rattle.std.proofs.Common.{◌≡◌, ℕ, ◌+◌, ◌-◌, ◌<◌, ◌≤◌, Bool, true, false, cond, ◌⊎◌, List, [], ◌∷◌, Some, None, Ok, Option, Result, sym, refl, ap, subst, inl, inr, ⊎_elim, arith, MatchResult}
use Rattle.std.proofs.lemmas.Bool.{cases_lt, lt-ltb}
use Rattle.disk.specs.Tests.{first_of}
use Rattle.disk.specs.Meaning.{Blocks}
use Rattle.object.specs.Tables.{is_in}
use Rattle.model.specs.declared.Fault.{Fault}
use Rattle.model.specs.declared.Round.{Round}
use Rattle.model.specs.Outcomes.{Outcome, decided}
use Rattle.model.specs.Log.{Log, last}
use Rattle.model.specs.Steps.{frozen_at, log_step, install_step}
use Rattle.model.specs.Journal.{Open}
use Rattle.model.specs.Calls.{Call, begins, reads, overwrites, commits, gives_up, flushes, logs, installs, buffer_of, held_by, holds, seen, tests_of, grants, called}
use Rattle.law.specs.Record.{Record, noted}
use Rattle.law.specs.Law.{bound, log_count, install_count, total, answer_after, NoLower, SoonDurable, SoonFree}
use Rattle.law.proofs.Invariant.{IfSome, Logs, Installs, Kept}
use Rattle.law.proofs.Rounds.{log_done, Moves, round_of, working, LogGoes, log_goes, install_done, InstallMoves, install_of, InstallGoes, install_goes}
use Rattle.law.proofs.Told as Told
use Rattle.law.proofs.Refusals.{Inv}
use Rattle.law.proofs.Run.{call_inv}

-- ## What is left

-- n steps bring a round to p: this round, or this one and a full one after it
abbrev pub Need : ℕ → Option Round → ℕ → Type 0
Need p None n = 63 ≤ n
Need p (Some r) n = ((p ≤ r.target) × (r.target - r.next + 1 ≤ n)) ⊎ (r.target - r.next + 64 ≤ n)

abbrev pub Left : ℕ → ℕ → Option Round → ℕ → Type 0
Left p at x n = (p ≤ at) ⊎ Need p x n

-- a step in round r, after which x runs and `at` is reached
abbrev pub Moved : Round → Option Round → ℕ → ℕ → Type 0
Moved r x before at = ((r.next < r.target) × (x ≡ Some (record { next = r.next + 1; target = r.target })) × (at ≡ before)) ⊎ ((r.target ≤ r.next) × (x ≡ None) × (at ≡ r.target))

left_step : (p n before at : ℕ) (r : Round) (x : Option Round) → Moved r x before at → Need p (Some r) (1 + n) → Left p at x n
left_step p n before at r x moved need = ⊎_elim
    (λ (a : (r.next < r.target) × (x ≡ Some (record { next = r.next + 1; target = r.target })) × (at ≡ before)).
    inr (subst (λ (y : Option Round). Need p y n) (sym a.1) (⊎_elim
    (λ (b : (p ≤ r.target) × (r.target - r.next + 1 ≤ 1 + n)). inl (b.0, omega (arith, a.0, b.1)))
    (λ (b : r.target - r.next + 64 ≤ 1 + n). inr (omega (arith, a.0)))
    need)))
    (λ (a : (r.target ≤ r.next) × (x ≡ None) × (at ≡ r.target)). ⊎_elim
    (λ (b : (p ≤ r.target) × (r.target - r.next + 1 ≤ 1 + n)). inl (omega (arith, a.2, b.0)))
    (λ (b : r.target - r.next + 64 ≤ 1 + n). inr (subst (λ (y : Option Round). Need p y n) (sym a.1) (omega (arith, a.0))))
    need)
    moved

need_more : (p : ℕ) (x : Option Round) (m n : ℕ) → m ≤ n → Need p x m → Need p x n
need_more p None m n le h = omega arith
need_more p (Some r) m n le h = ⊎_elim (λ (b : (p ≤ r.target) × (r.target - r.next + 1 ≤ m)). inl (b.0, omega (arith, b.1))) (λ (b : r.target - r.next + 64 ≤ m). inr (omega arith)) h

left_more : (p at : ℕ) (x : Option Round) (m n : ℕ) → m ≤ n → Left p at x m → Left p at x n
left_more p at x m n le h = ⊎_elim (λ (a : p ≤ at). inl a) (λ (a : Need p x m). inr (need_more p x m n le a)) h

left_none : (p at : ℕ) (x : Option Round) → Left p at x 0 → p ≤ at
left_none p at None h = ⊎_elim (λ (a : p ≤ at). a) (λ (a : 63 ≤ 0). absurd (omega arith)) h
left_none p at (Some r) h = ⊎_elim (λ (a : p ≤ at). a) (λ (a : Need p (Some r) 0). ⊎_elim (λ (b : (p ≤ r.target) × (r.target - r.next + 1 ≤ 0)). absurd (omega (arith, b.1))) (λ (b : r.target - r.next + 64 ≤ 0). absurd (omega arith)) a) h

-- ## A logger step

record LogSoon (p n : ℕ) (l : Log) : Type 0 where
  pub frozen : p ≤ l.frozen
  pub left : Left p l.end l.logging n

log_need : (l : Log) (d : Blocks) → Kept l d → (p n : ℕ) → p ≤ l.frozen → l.end < p → (x : Option Round) → Need p x n → Need p (Some (round_of l x)) n
log_need l d k p n a b (Some r) h = h
log_need l d k p n a b None h =
    let t : (round_of l None).target ≡ l.frozen = ap (λ q. cond q l.frozen (last l)) (lt-ltb l.end l.frozen (omega arith)) in
    inl (omega (arith, t), omega (arith, t, k.order.frozen_last, k.order.room, k.order.start_end))

log_left : (l : Log) (d : Blocks) → Kept l d → (p n : ℕ) (m : Log) → l.end ≤ m.end → p ≤ l.frozen → (x : Option Round) → LogGoes l x m → Left p l.end x (1 + n) → Left p m.end m.logging n
log_left l d k p n m grows a x g h = ⊎_elim
    (λ (b : l.end < p). ⊎_elim
    (λ (i : (x ≡ None) × (m ≡ l) × (last l ≤ l.end)). absurd (omega (arith, i.2, k.order.frozen_last)))
    (λ (mv : Moves (round_of l x) (working l x) m). left_step p n (working l x).end m.end (round_of l x) m.logging mv.moved
    (log_need l d k p (1 + n) a b x (⊎_elim (λ (z : p ≤ l.end). absurd (omega arith)) (λ (z : Need p x (1 + n)). z) h)))
    g.goes)
    (λ (b : p ≤ l.end). inl (omega arith))
    (cases_lt l.end p)

log_first : (l : Log) (d : Blocks) → Kept l d → (p at : ℕ) (x : Option Round) → IfSome x (Logs l.start l.end l.frozen l.updates d) → Left p at x bound
log_first l d k p at None h = inr (omega arith)
log_first l d k p at (Some r) h = inr (inr (omega (arith, h.from, h.below, k.order.frozen_last, k.order.room, k.order.start_end)))

-- ## An installer step

record InstallSoon (p n : ℕ) (l : Log) : Type 0 where
  pub end : p ≤ l.end
  pub left : Left p l.start l.installing n

install_need : (l : Log) (d : Blocks) → Kept l d → (p n : ℕ) → p ≤ l.end → l.start < p → (x : Option Round) → Need p x n → Need p (Some (install_of l x)) n
install_need l d k p n a b (Some r) h = h
install_need l d k p n a b None h = inl (a, omega (arith, k.order.end_frozen, k.order.frozen_last, k.order.room))

install_left : (l : Log) (d : Blocks) → Kept l d → (p n : ℕ) (m : Log) → l.start ≤ m.start → p ≤ l.end → (x : Option Round) → InstallGoes l x m → Left p l.start x (1 + n) → Left p m.start m.installing n
install_left l d k p n m grows a x g h = ⊎_elim
    (λ (b : l.start < p). ⊎_elim
    (λ (i : (x ≡ None) × (m ≡ l) × (l.end ≤ l.start)). absurd (omega (arith, i.2)))
    (λ (mv : InstallMoves (install_of l x) l m). left_step p n l.start m.start (install_of l x) m.installing mv.moved
    (install_need l d k p (1 + n) a b x (⊎_elim (λ (z : p ≤ l.start). absurd (omega arith)) (λ (z : Need p x (1 + n)). z) h)))
    g.goes)
    (λ (b : p ≤ l.start). inl (omega arith))
    (cases_lt l.start p)

install_first : (l : Log) (d : Blocks) → Kept l d → (p at : ℕ) (x : Option Round) → IfSome x (Installs l.start l.end l.updates d) → Left p at x bound
install_first l d k p at None h = inr (omega arith)
install_first l d k p at (Some r) h = inr (inr (omega (arith, h.from, h.below, k.order.end_frozen, k.order.frozen_last, k.order.room)))

-- the start never falls
target_high : (l : Log) (d : Blocks) → Kept l d → (x : Option Round) → IfSome x (Installs l.start l.end l.updates d) → l.start ≤ (install_of l x).target
target_high l d k None h = k.order.start_end
target_high l d k (Some r) h = omega (arith, h.some)

start_grows : (l : Log) (d : Blocks) → Kept l d → (m : Log) → InstallGoes l l.installing m → l.start ≤ m.start
start_grows l d k m g = ⊎_elim
    (λ (a : (l.installing ≡ None) × (m ≡ l) × (l.end ≤ l.start)). let e = ap (λ (z : Log). z.start) a.1 in omega arith)
    (λ (mv : InstallMoves (install_of l l.installing) l m).
    let r = install_of l l.installing in
    ⊎_elim
    (λ (a : (r.next < r.target) × (m.installing ≡ Some (record { next = r.next + 1; target = r.target })) × (m.start ≡ l.start)). omega (arith, a.2))
    (λ (a : (r.target ≤ r.next) × (m.installing ≡ None) × (m.start ≡ r.target)). let t = target_high l d k l.installing k.installing in omega (arith, a.2))
    mv.moved)
    g.goes

-- ## Every call

-- a call is refused and leaves the journal, or leaves what it grants
by_tests : (P : Log → Type 0) (x : Option Fault) (buffer : List ℕ) (j : Open) (d : Blocks) (g : Outcome Open) → P j.log → P g.state.log → P (decided x buffer j d g).state.log
by_tests P None buffer j d g a b = b
by_tests P (Some f) buffer j d g a b = a

read_log : (P : Log → Type 0) (q : Bool) (j k : Open) → P j.log → P k.log → P (cond q j k).log
read_log P true j k a b = a
read_log P false j k a b = b

module _ (p : ℕ) where
  log_calm : (n : ℕ) (l m : Log) → m.end ≡ l.end → l.frozen ≤ m.frozen → m.logging ≡ l.logging → LogSoon p n l → LogSoon p n m
  log_calm n l m e f x s = record { frozen = omega (arith, s.frozen); left = subst (λ (y : Option Round). Left p m.end y n) (sym x) (subst (λ (a : ℕ). Left p a l.logging n) (sym e) s.left) }

  log_less : (m n : ℕ) (l : Log) → m ≤ n → LogSoon p m l → LogSoon p n l
  log_less m n l le s = record { frozen = s.frozen; left = left_more p l.end l.logging m n le s.left }

  log_by_lem : (c : Call) (j : Open) (d : Blocks) (n : ℕ) → LogSoon p (0 + n) j.log → (LogSoon p n j.log → LogSoon p n (grants c j d).state.log) → LogSoon p n (called c j d).state.log
  log_by_lem c j d n s g = let t = log_less (0 + n) n j.log (omega arith) s in by_tests (LogSoon p n) (first_of (tests_of c j d)) (buffer_of c) j d (grants c j d) t (g t)

  log_called : (c : Call) (j : Open) (d : Blocks) (r : Record) → Inv j d r → (n : ℕ) → LogSoon p (log_count c + n) j.log → LogSoon p n (called c j d).state.log
  log_called (begins a) j d r i n s = log_by_lem (begins a) j d n s (λ t. t)
  log_called (reads a o buffer) j d r i n s = log_by_lem (reads a o buffer) j d n s (λ t. read_log (LogSoon p n) (is_in (held_by j a) o) j (holds j a (record { place = o; bytes = seen j d a o; dirty = false })) t t)
  log_called (overwrites a o bytes) j d r i n s = log_by_lem (overwrites a o bytes) j d n s (λ t. t)
  log_called (commits a) j d r i n s = log_by_lem (commits a) j d n s (log_calm n j.log (grants (commits a) j d).state.log refl (omega arith) refl)
  log_called (gives_up a) j d r i n s = log_by_lem (gives_up a) j d n s (λ t. t)
  log_called flushes j d r i n s = log_calm n j.log (frozen_at j.log (last j.log)) refl i.kept.order.frozen_last refl (log_less (0 + n) n j.log (omega arith) s)
  log_called logs j d r i n s =
      let l = j.log in
      let m = (log_step l d).state in
      let t = Told.frozen_grows r.first r.commits l d i.kept r.ended r.reached r.flushed r.settled i.told in
      let e = Told.end_grows r.first r.commits l d i.kept r.ended r.reached r.flushed r.settled i.told in
      record { frozen = omega (arith, s.frozen); left = log_left l d i.kept p n m e s.frozen l.logging (log_goes l d i.kept) s.left }
  log_called installs j d r i n s = let h = install_done j.log d i.kept in log_calm n j.log (install_step j.log d).state h.end (let z = h.frozen in omega arith) h.logging (log_less (0 + n) n j.log (omega arith) s)

  install_calm : (n : ℕ) (l m : Log) → m.start ≡ l.start → l.end ≤ m.end → m.installing ≡ l.installing → InstallSoon p n l → InstallSoon p n m
  install_calm n l m e f x s = record { end = omega (arith, s.end); left = subst (λ (y : Option Round). Left p m.start y n) (sym x) (subst (λ (a : ℕ). Left p a l.installing n) (sym e) s.left) }

  install_less : (m n : ℕ) (l : Log) → m ≤ n → InstallSoon p m l → InstallSoon p n l
  install_less m n l le s = record { end = s.end; left = left_more p l.start l.installing m n le s.left }

  install_by_lem : (c : Call) (j : Open) (d : Blocks) (n : ℕ) → InstallSoon p (0 + n) j.log → (InstallSoon p n j.log → InstallSoon p n (grants c j d).state.log) → InstallSoon p n (called c j d).state.log
  install_by_lem c j d n s g = let t = install_less (0 + n) n j.log (omega arith) s in by_tests (InstallSoon p n) (first_of (tests_of c j d)) (buffer_of c) j d (grants c j d) t (g t)

  install_called : (c : Call) (j : Open) (d : Blocks) (r : Record) → Inv j d r → (n : ℕ) → InstallSoon p (install_count c + n) j.log → InstallSoon p n (called c j d).state.log
  install_called (begins a) j d r i n s = install_by_lem (begins a) j d n s (λ t. t)
  install_called (reads a o buffer) j d r i n s = install_by_lem (reads a o buffer) j d n s (λ t. read_log (InstallSoon p n) (is_in (held_by j a) o) j (holds j a (record { place = o; bytes = seen j d a o; dirty = false })) t t)
  install_called (overwrites a o bytes) j d r i n s = install_by_lem (overwrites a o bytes) j d n s (λ t. t)
  install_called (commits a) j d r i n s = install_by_lem (commits a) j d n s (install_calm n j.log (grants (commits a) j d).state.log refl (omega arith) refl)
  install_called (gives_up a) j d r i n s = install_by_lem (gives_up a) j d n s (λ t. t)
  install_called flushes j d r i n s = install_calm n j.log (frozen_at j.log (last j.log)) refl (omega arith) refl (install_less (0 + n) n j.log (omega arith) s)
  install_called logs j d r i n s =
      let h = log_done j.log d i.kept in
      let e = Told.end_grows r.first r.commits j.log d i.kept r.ended r.reached r.flushed r.settled i.told in
      install_calm n j.log (log_step j.log d).state h.start e h.installing (install_less (0 + n) n j.log (omega arith) s)
  install_called installs j d r i n s =
      let l = j.log in
      let m = (install_step l d).state in
      let g = install_goes l d i.kept in
      let h = install_done l d i.kept in
      record { end = (let z = h.end in omega (arith, s.end)); left = install_left l d i.kept p n m (start_grows l d i.kept m g) s.end l.installing g s.left }

  no_lower : (a : Result ℕ Fault) (m : ℕ) → a ≡ Ok m → p ≤ m → NoLower p a
  no_lower a m e le = subst (NoLower p) (sym e) le

  log_soon : (cs : List Call) (j : Open) (d : Blocks) (r : Record) → Inv j d r → LogSoon p (total log_count cs + 1) j.log → NoLower p (answer_after cs logs (Some j) d)
  log_soon [] j d r i s =
      let t = log_called logs j d r i 0 s in
      no_lower (log_step j.log d).answer (log_step j.log d).state.end (log_done j.log d i.kept).answer (left_none p (log_step j.log d).state.end (log_step j.log d).state.logging t.left)
  log_soon (c ∷ cs) j d r i s =
      let n = total log_count cs + 1 in
      log_soon cs (called c j d).state (called c j d).disk (noted c (called c j d).answer r) (call_inv c j d r i)
      (log_called c j d r i n (log_less (total log_count (c ∷ cs) + 1) (log_count c + n) j.log (omega arith) s))

  install_soon : (cs : List Call) (j : Open) (d : Blocks) (r : Record) → Inv j d r → InstallSoon p (total install_count cs + 1) j.log → NoLower p (answer_after cs installs (Some j) d)
  install_soon [] j d r i s =
      let t = install_called installs j d r i 0 s in
      no_lower (install_step j.log d).answer (install_step j.log d).state.start (install_done j.log d i.kept).answer (left_none p (install_step j.log d).state.start (install_step j.log d).state.installing t.left)
  install_soon (c ∷ cs) j d r i s =
      let n = total install_count cs + 1 in
      install_soon cs (called c j d).state (called c j d).disk (noted c (called c j d).answer r) (call_inv c j d r i)
      (install_called c j d r i n (install_less (total install_count (c ∷ cs) + 1) (install_count c + n) j.log (omega arith) s))

-- ## The bounds

ok_same : (m n : ℕ) → ◌≡◌ {A = Result ℕ Fault} (Ok m) (Ok n) → m ≡ n
ok_same m n e = subst (λ (a : Result ℕ Fault). MatchResult a (λ k. m ≡ k) (λ f. ⊥)) e refl

pub soon_durable : (j : Open) (d : Blocks) (r : Record) → Inv j d r → SoonDurable (Some j) d
soon_durable j d r i p cs e many =
    let m = frozen_at j.log (last j.log) in
    let k = call_inv flushes j d r i in
    let q : last j.log ≡ p = ok_same (last j.log) p e in
    log_soon p cs (called flushes j d).state d (noted flushes (called flushes j d).answer r) k
    (log_less p bound (total log_count cs + 1) m many (record { frozen = omega arith; left = log_first m d k.kept p m.end m.logging k.kept.logging }))

pub soon_free : (j : Open) (d : Blocks) (r : Record) → Inv j d r → SoonFree (Some j) d
soon_free j d r i p cs e many =
    let l = j.log in
    install_soon p cs j d r i
    (install_less p bound (total install_count cs + 1) l many (record { end = omega (arith, i.kept.card.at_end); left = install_first l d i.kept p l.start l.installing i.kept.installing }))
