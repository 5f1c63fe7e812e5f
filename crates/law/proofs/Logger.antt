-- A logger step keeps the log and the card together.
use Rattle.std.proofs.Common.{◌≡◌, ℕ, ◌+◌, ◌-◌, ◌^◌, ◌<◌, ◌≤◌, true, List, [], ◌∷◌, length, get_or, take, drop, set, Some, Ok, sym, ap, ◌∙◌, subst, ⊎_elim, mod-lt, arith, length-drop, length-set, length-take, get_or-drop, get_or-take}
use Rattle.std.proofs.lemmas.Bool.{cases_eq, cases_lt}
use Rattle.std.proofs.lemmas.List.{get_or_past}
use Rattle.disk.specs.Meaning.{Blocks, block, is_live, block_size, written}
use Rattle.disk.proofs.Refusals.{granted, unless_none}
use Rattle.card.specs.declared.Header.{Header}
use Rattle.card.specs.declared.Update.{Update}
use Rattle.card.specs.Layout.{slots, homes_from, slot, log_block, header_in, homes_in, header_block, bytes_on, home_on, update_on, latest}
use Rattle.card.proofs.Headers.{header_again}
use Rattle.card.proofs.Slots.{slots_differ}
use Rattle.model.specs.declared.Round.{Round}
use Rattle.model.specs.Outcomes.{Outcome, decided}
use Rattle.model.specs.Log.{Log}
use Rattle.model.specs.Steps.{dead_for, writing, with_homes}
use Rattle.model.proofs.Card.{live_bytes, live_set, ready_set}
use Rattle.law.proofs.Blocks.{block_other, bytes_here, bytes_other, whole_set, end_same, start_same, update_same, length_header, header_zeros}
use Rattle.law.proofs.Homes.{home_small, length_homes_in, homes_in_at, length_with_homes, with_homes_other, with_homes_here, with_homes_small}
use Rattle.law.proofs.Invariant.{absent, Good, at_position, InOrder, OnCard, Logs, Installs, AllGood}

-- ## A write that is granted

abbrev pub wrote_one : Blocks → ℕ → List ℕ → ℕ → Log → Outcome Log
wrote_one d b bs n next = record { answer = Ok n; wrote = b ∷ []; buffer = []; state = next; disk = set d b (Some bs) }

pub writing_granted : (l : Log) (d : Blocks) (b : ℕ) (bs : List ℕ) (n : ℕ) (next : Log) → b < length d → is_live (block d b) ≡ true → length bs ≡ block_size → writing l d b bs n next ≡ wrote_one d b bs n next
writing_granted l d b bs n next h live full =
    let g = granted d b (length bs) (bytes_on d b) h full (live_bytes (block d b) live) in
    ap (λ o. decided (dead_for o) [] l d (record { answer = Ok n; wrote = b ∷ []; buffer = []; state = next; disk = written d b bs })) g ∙
    ap (λ (x : Blocks). record { answer = Ok n; wrote = b ∷ []; buffer = []; state = next; disk = x }) (unless_none (set d b (Some bs)) d g)

-- what is good stays so, whatever live block is written
pub good_set : (us : List Update) (d : Blocks) (b : ℕ) (bs : List ℕ) → b < length d → is_live (block d b) ≡ true → AllGood us d → AllGood us (set d b (Some bs))
good_set us d b bs h live good k l =
    let g = good k l in
    record {
      low = g.low;
      high = let m = length-set d b (Some bs) in omega (arith, g.high);
      alive = live_set d b bs h live (get_or us k absent).home ∙ g.alive;
      full = g.full;
    }

-- ## Log blocks

pub log_low : (p : ℕ) → log_block p < homes_from
log_low p = let m = mod-lt p {m = slots} (omega arith) in omega arith

pub log_apart : (p q : ℕ) → p < q → q < p + slots → log_block p ≡ log_block q → ⊥
log_apart p q l near e = slots_differ slots p q l near (omega arith)

module _ (start end frozen : ℕ) (us : List Update) (homes : List ℕ) (d : Blocks) (o : InOrder start end frozen (length us)) (c : OnCard start end us homes d) (good : AllGood us d)
    (r : Round) (g : Logs start end frozen us d r) (more : r.next < r.target) where
  abbrev q : ℕ
  q = r.next

  abbrev bytes : List ℕ
  bytes = (at_position start us q).bytes

  abbrev d' : Blocks
  d' = set d (log_block q) (Some bytes)

  pub here : Good d (at_position start us q)
  here = good (q - start) (omega (arith, o.frozen_last, o.start_end, g.from, g.below))

  pub inside : log_block q < length d
  inside = let m = log_low q in omega (arith, c.ready.large)

  pub alive : is_live (block d (log_block q)) ≡ true
  alive = c.ready.alive (log_block q) (log_low q)

  same_0 : bytes_on d' 0 ≡ bytes_on d 0
  same_0 = bytes_other d (log_block q) bytes 0 (λ e. omega arith)

  same_1 : bytes_on d' 1 ≡ bytes_on d 1
  same_1 = bytes_other d (log_block q) bytes 1 (λ e. omega arith)

  -- a position below the one that is written, from start on, has another log block
  same_log : (p : ℕ) → start ≤ p → p < q → bytes_on d' (log_block p) ≡ bytes_on d (log_block p)
  same_log p a b = bytes_other d (log_block q) bytes (log_block p) (log_apart p q b (omega (arith, o.room, o.frozen_last, g.below)))

  pub logged_card : OnCard start end us homes d'
  logged_card = record {
    whole = whole_set d (log_block q) bytes c.whole here.full;
    ready = ready_set d (log_block q) bytes c.ready (log_low q);
    zeros_end = λ i a b. ap (λ (bs : List ℕ). get_or bs i 0) same_0 ∙ c.zeros_end i a b;
    zeros_start = λ i a b. ap (λ (bs : List ℕ). get_or bs i 0) same_1 ∙ c.zeros_start i a b;
    at_start = c.at_start ∙ sym (start_same d d' same_1);
    at_end = c.at_end ∙ sym (end_same d d' same_0);
    at_homes = c.at_homes ∙ sym (ap homes_in same_0);
    live = λ p a b. c.live p a b ∙ sym (update_same d d' p same_0 (same_log p a (omega (arith, g.from))));
  }

  pub logged_round : Logs start end frozen us d' (record { next = q + 1; target = r.target })
  logged_round = record {
    from = omega (arith, g.from);
    upto = omega arith;
    some = g.some;
    below = g.below;
    logged = λ p a b. ⊎_elim
        (λ (same : p ≡ q). subst (λ (k : ℕ). bytes_on d' (log_block k) ≡ (at_position start us k).bytes) (sym same) (bytes_here d (log_block q) bytes inside))
        (λ ne. same_log p (omega (arith, o.start_end)) (omega arith) ∙ g.logged p a (omega arith))
        (cases_eq p q);
  }

  pub logged_good : AllGood us d'
  logged_good = good_set us d (log_block q) bytes inside alive good

  pub logged_installs : (s : Round) → Installs start end us d s → Installs start end us d' s
  logged_installs s i = record {
    from = i.from;
    upto = i.upto;
    some = i.some;
    below = i.below;
    home = λ b h. let e = block_other d (log_block q) bytes b (λ e. let m = log_low q in omega arith) in
        ap (latest (take (s.next - start) us) b) e ∙ i.home b h ∙ sym e;
  }

-- ## The header

module _ (start end frozen : ℕ) (us : List Update) (homes : List ℕ) (d : Blocks) (o : InOrder start end frozen (length us)) (c : OnCard start end us homes d) (good : AllGood us d)
    (r : Round) (g : Logs start end frozen us d r) (done : r.target ≤ r.next) where
  abbrev target : ℕ
  target = r.target

  abbrev batch : List Update
  batch = take (target - end) (drop (end - start) us)

  abbrev after : List ℕ
  after = with_homes homes end batch

  abbrev header : Header
  header = record { end = target; homes = after }

  abbrev dₕ : Blocks
  dₕ = set d 0 (Some (header_block header))

  length_homes : length homes ≡ slots
  length_homes = ap length c.at_homes ∙ length_homes_in (bytes_on d 0)

  length_batch : length batch ≡ target - end
  length_batch = length-take (target - end) (drop (end - start) us) ∙ (let m = length-drop (end - start) us in omega (arith, o.frozen_last, o.start_end, g.below, g.some))

  batch_at : (k : ℕ) → k < target - end → get_or batch k absent ≡ at_position start us (end + k)
  batch_at k l = get_or-take (target - end) (drop (end - start) us) k absent l ∙ get_or-drop (end - start) us k absent ∙ ap (λ n. get_or us n absent) (let z : end - start + k ≡ end + k - start = omega (arith, o.start_end) in z)

  few : target - end ≤ slots
  few = omega (arith, o.room, o.frozen_last, o.start_end, g.below)

  home_new : (p : ℕ) → end ≤ p → p < target → get_or after (slot p) 0 ≡ (at_position start us p).home
  home_new p a b =
      let k = p - end in
      let z : p ≡ end + k = omega arith in
      let lk : k < target - end = omega arith in
      ap (λ n. get_or after (slot n) 0) z ∙ with_homes_here homes end batch length_homes (omega (arith, length_batch, few)) k (omega (arith, length_batch)) ∙
      ap (λ (u : Update). u.home) (batch_at k lk) ∙ ap (λ n. (at_position start us n).home) (sym z)

  home_old : (p : ℕ) → start ≤ p → p < end → get_or after (slot p) 0 ≡ get_or homes (slot p) 0
  home_old p a b = with_homes_other homes end batch (slot p) (λ k l e. slots_differ slots p (end + k) (omega arith) (omega (arith, length_batch, o.room, o.frozen_last, g.below)) (sym e))

  small : (s : ℕ) → get_or after s 0 < 2 ^ 32
  small = with_homes_small homes end batch
      (λ s. ⊎_elim
      (λ (h : s < slots). let e = ap (λ (hs : List ℕ). get_or hs s 0) c.at_homes ∙ homes_in_at (bytes_on d 0) s h in let b = home_small (bytes_on d 0) s in omega arith)
      (λ out. let e = get_or_past homes s 0 (omega (arith, length_homes)) in omega arith)
      (cases_lt s slots))
      (λ k l. let lk : k < target - end = omega (arith, length_batch) in
      let e = ap (λ (u : Update). u.home) (batch_at k lk) in
      let h = (good (end + k - start) (omega (arith, o.frozen_last, o.start_end, g.below))).high in
      let w = c.whole.few in omega arith)

  length_after : length after ≡ slots
  length_after = length_with_homes homes end batch ∙ length_homes

  decoded : header_in (header_block header) ≡ header
  decoded = header_again header (omega (arith, o.top, o.frozen_last, g.below)) length_after (λ k l. small k)

  pub full : length (header_block header) ≡ block_size
  full = length_header header length_after

  large : 0 < length d
  large = omega (arith, c.ready.large)

  bytes_0 : bytes_on dₕ 0 ≡ header_block header
  bytes_0 = bytes_here d 0 (header_block header) large

  bytes_log : (p : ℕ) → bytes_on dₕ (log_block p) ≡ bytes_on d (log_block p)
  bytes_log p = bytes_other d 0 (header_block header) (log_block p) (λ e. omega arith)

  home_at : (s : ℕ) → s < slots → home_on dₕ s ≡ get_or after s 0
  home_at s l = sym (homes_in_at (bytes_on dₕ 0) s l) ∙ ap (λ (h : Header). get_or h.homes s 0) (ap header_in bytes_0 ∙ decoded)

  home_on_lem : (p : ℕ) → home_on dₕ (slot p) ≡ get_or after (slot p) 0
  home_on_lem p = home_at (slot p) (mod-lt p (omega arith))

  -- the home numbers of slots that no position of the round has
  pub headed_homes : (s : ℕ) → s < slots → ((p : ℕ) → end ≤ p → p < target → slot p ≡ s → ⊥) → home_on dₕ s ≡ home_on d s
  headed_homes s l apart =
      home_at s l ∙ with_homes_other homes end batch s (λ k a e. apart (end + k) (omega arith) (omega (arith, length_batch)) e) ∙
      ap (λ (hs : List ℕ). get_or hs s 0) c.at_homes ∙ homes_in_at (bytes_on d 0) s l

  -- an update of this home and these bytes
  is_update : (u : Update) (h : ℕ) (bs : List ℕ) → u.home ≡ h → u.bytes ≡ bs → u ≡ record { home = h; bytes = bs }
  is_update u h bs a b = ap (λ n. record { home = n; bytes = u.bytes }) a ∙ ap (λ (xs : List ℕ). record { home = h; bytes = xs }) b

  live_after : (p : ℕ) → start ≤ p → p < target → at_position start us p ≡ update_on dₕ p
  live_after p a b = ⊎_elim
      (λ (l : p < end). let e = c.live p a l in
      is_update (at_position start us p) (home_on dₕ (slot p)) (bytes_on dₕ (log_block p))
      (ap (λ (u : Update). u.home) e ∙ sym (home_on_lem p ∙ home_old p a l ∙ ap (λ (hs : List ℕ). get_or hs (slot p) 0) c.at_homes ∙ homes_in_at (bytes_on d 0) (slot p) (mod-lt p (omega arith))))
      (ap (λ (u : Update). u.bytes) e ∙ sym (bytes_log p)))
      (λ (l : end ≤ p). is_update (at_position start us p) (home_on dₕ (slot p)) (bytes_on dₕ (log_block p)) (sym (home_on_lem p ∙ home_new p l b)) (sym (bytes_log p ∙ g.logged p l (omega arith))))
      (cases_lt p end)

  pub headed_card : OnCard start target us after dₕ
  headed_card = record {
    whole = whole_set d 0 (header_block header) c.whole full;
    ready = ready_set d 0 (header_block header) c.ready (omega arith);
    zeros_end = λ i a b. ap (λ (bs : List ℕ). get_or bs i 0) bytes_0 ∙ header_zeros header length_after i a b;
    zeros_start = λ i a b. ap (λ (bs : List ℕ). get_or bs i 0) (bytes_other d 0 (header_block header) 1 (λ e. omega arith)) ∙ c.zeros_start i a b;
    at_start = c.at_start ∙ sym (start_same d dₕ (bytes_other d 0 (header_block header) 1 (λ e. omega arith)));
    at_end = sym (ap (λ (h : Header). h.end) (ap header_in bytes_0 ∙ decoded));
    at_homes = sym (ap (λ (h : Header). h.homes) (ap header_in bytes_0 ∙ decoded));
    live = live_after;
  }

  pub headed_order : InOrder start target frozen (length us)
  headed_order = record { start_end = omega (arith, o.start_end, g.some); end_frozen = g.below; frozen_last = o.frozen_last; room = o.room; top = o.top }

  pub headed_good : AllGood us dₕ
  headed_good = good_set us d 0 (header_block header) large (c.ready.alive 0 (omega arith)) good

  pub headed_installs : (s : Round) → Installs start end us d s → Installs start target us dₕ s
  headed_installs s i = record {
    from = i.from;
    upto = i.upto;
    some = i.some;
    below = omega (arith, i.below, g.some);
    home = λ b h. let e = block_other d 0 (header_block header) b (λ e. omega arith) in ap (latest (take (s.next - start) us) b) e ∙ i.home b h ∙ sym e;
  }
