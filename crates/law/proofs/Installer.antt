-- An installer step keeps the log and the card together.
use Rattle.std.proofs.Common.{◌≡◌, ℕ, ◌+◌, ◌-◌, ◌<◌, ◌≤◌, List, length, get_or, take, drop, set, Some, sym, ap, ◌∙◌, subst, ⊎_elim, arith, length-drop, length-set, get_or-drop}
use Rattle.std.proofs.lemmas.Bool.{cases_eq}
use Rattle.disk.specs.Meaning.{Blocks, block}
use Rattle.card.specs.declared.Update.{Update}
use Rattle.card.specs.Layout.{homes_from, log_block, homes_in, start_in, start_block, bytes_on, latest}
use Rattle.model.specs.declared.Round.{Round}
use Rattle.model.proofs.Card.{live_set, ready_set}
use Rattle.law.proofs.Latest.{latest_here, latest_other, latest_more, latest_split}
use Rattle.law.proofs.Blocks.{block_here, block_other, bytes_here, bytes_other, whole_set, end_same, start_same, update_same, length_start, start_zeros, start_again}
use Rattle.law.proofs.Logger.{good_set, log_low}
use Rattle.law.proofs.Invariant.{absent, Good, at_position, InOrder, OnCard, Logs, Installs, AllGood}

-- ## A home

module _ (start end frozen : ℕ) (us : List Update) (homes : List ℕ) (d : Blocks) (o : InOrder start end frozen (length us)) (c : OnCard start end us homes d) (good : AllGood us d)
    (r : Round) (i : Installs start end us d r) (more : r.next < r.target) where
  abbrev q : ℕ
  q = r.next

  abbrev u : Update
  u = at_position start us q

  abbrev d' : Blocks
  d' = set d u.home (Some u.bytes)

  short : q - start < length us
  short = omega (arith, o.frozen_last, o.end_frozen, i.from, i.below)

  pub here : Good d u
  here = good (q - start) short

  same : (b : ℕ) → b < homes_from → bytes_on d' b ≡ bytes_on d b
  same b l = bytes_other d u.home u.bytes b (λ e. omega (arith, here.low))

  pub installed_card : OnCard start end us homes d'
  installed_card = record {
    whole = whole_set d u.home u.bytes c.whole here.full;
    ready = record {
      large = let m = length-set d u.home (Some u.bytes) in omega (arith, c.ready.large);
      alive = λ b l. live_set d u.home u.bytes here.high here.alive b ∙ c.ready.alive b l;
    };
    zeros_end = λ k a b. ap (λ (bs : List ℕ). get_or bs k 0) (same 0 (omega arith)) ∙ c.zeros_end k a b;
    zeros_start = λ k a b. ap (λ (bs : List ℕ). get_or bs k 0) (same 1 (omega arith)) ∙ c.zeros_start k a b;
    at_start = c.at_start ∙ sym (start_same d d' (same 1 (omega arith)));
    at_end = c.at_end ∙ sym (end_same d d' (same 0 (omega arith)));
    at_homes = c.at_homes ∙ sym (ap homes_in (same 0 (omega arith)));
    live = λ p a b. c.live p a b ∙ sym (update_same d d' p (same 0 (omega arith)) (same (log_block p) (log_low p)));
  }

  pub installed_good : AllGood us d'
  installed_good = good_set us d u.home u.bytes here.high here.alive good

  pub installed_logs : (s : Round) → Logs start end frozen us d s → Logs start end frozen us d' s
  installed_logs s g = record { from = g.from; upto = g.upto; some = g.some; below = g.below; logged = λ p a b. same (log_block p) (log_low p) ∙ g.logged p a b }

  pub installed_round : Installs start end us d' (record { next = q + 1; target = r.target })
  installed_round = record {
    from = omega (arith, i.from);
    upto = omega arith;
    some = i.some;
    below = i.below;
    home = λ b h.
        let n : q + 1 - start ≡ q - start + 1 = omega (arith, i.from) in
        ap (λ m. latest (take m us) b (block d' b)) n ∙ latest_more (q - start) us absent b (block d' b) short ∙
        ⊎_elim
        (λ (e : u.home ≡ b). latest_here u b _ e ∙ sym (subst (λ (k : ℕ). block d' k ≡ Some u.bytes) e (block_here d u.home u.bytes here.high)))
        (λ ne. let keep = block_other d u.home u.bytes b (λ e. ne (sym e)) in
        latest_other u b _ ne ∙ ap (latest (take (q - start) us) b) keep ∙ i.home b h ∙ sym keep)
        (cases_eq u.home b);
  }

-- ## The start block

module _ (start end frozen : ℕ) (us : List Update) (homes : List ℕ) (d : Blocks) (o : InOrder start end frozen (length us)) (c : OnCard start end us homes d) (good : AllGood us d)
    (r : Round) (i : Installs start end us d r) where
  abbrev target : ℕ
  target = r.target

  abbrev n : ℕ
  n = target - start

  abbrev rest : List Update
  rest = drop n us

  abbrev dₛ : Blocks
  dₛ = set d 1 (Some (start_block target))

  large : 1 < length d
  large = omega (arith, c.ready.large)

  bytes_1 : bytes_on dₛ 1 ≡ start_block target
  bytes_1 = bytes_here d 1 (start_block target) large

  same_0 : bytes_on dₛ 0 ≡ bytes_on d 0
  same_0 = bytes_other d 1 (start_block target) 0 (λ e. omega arith)

  same_log : (p : ℕ) → bytes_on dₛ (log_block p) ≡ bytes_on d (log_block p)
  same_log p = bytes_other d 1 (start_block target) (log_block p) (λ e. omega arith)

  -- the positions that are left have the updates that they had
  pub rest_at : (p : ℕ) → target ≤ p → at_position target rest p ≡ at_position start us p
  rest_at p a = get_or-drop n us (p - target) absent ∙ ap (λ k. get_or us k absent) (let z : n + (p - target) ≡ p - start = omega (arith, i.from, i.upto) in z)

  length_rest : length rest ≡ length us - n
  length_rest = length-drop n us

  pub started_order : InOrder target end frozen (length rest)
  started_order = record {
    start_end = i.below;
    end_frozen = o.end_frozen;
    frozen_last = omega (arith, length_rest, o.frozen_last, o.end_frozen, i.below, i.from, i.upto);
    room = omega (arith, length_rest, o.room);
    top = omega (arith, length_rest, o.top, o.frozen_last, o.end_frozen, i.below, i.from, i.upto);
  }

  pub started_card : OnCard target end rest homes dₛ
  started_card = record {
    whole = whole_set d 1 (start_block target) c.whole (length_start target);
    ready = ready_set d 1 (start_block target) c.ready (omega arith);
    zeros_end = λ k a b. ap (λ (bs : List ℕ). get_or bs k 0) same_0 ∙ c.zeros_end k a b;
    zeros_start = λ k a b. ap (λ (bs : List ℕ). get_or bs k 0) bytes_1 ∙ start_zeros target k a b;
    at_start = sym (ap start_in bytes_1 ∙ start_again target (omega (arith, o.top, o.frozen_last, o.end_frozen, i.below)));
    at_end = c.at_end ∙ sym (end_same d dₛ same_0);
    at_homes = c.at_homes ∙ sym (ap homes_in same_0);
    live = λ p a b. rest_at p a ∙ c.live p (omega (arith, i.from, i.upto)) b ∙ sym (update_same d dₛ p same_0 (same_log p));
  }

  pub started_good : AllGood rest dₛ
  started_good k l =
      let g = good_set us d 1 (start_block target) large (c.ready.alive 1 (omega arith)) good (n + k) (omega (arith, length_rest)) in
      subst (Good dₛ) (sym (get_or-drop n us k absent)) g

  pub started_logs : (s : Round) → Logs start end frozen us d s → Logs target end frozen rest dₛ s
  started_logs s g = record {
    from = g.from;
    upto = g.upto;
    some = g.some;
    below = g.below;
    logged = λ p a b. same_log p ∙ g.logged p a b ∙ sym (ap (λ (x : Update). x.bytes) (rest_at p (omega (arith, i.below))));
  }

  -- what is dropped is at home
  pub started_newest : r.target ≤ r.next → (b : ℕ) → homes_from ≤ b → latest rest b (block dₛ b) ≡ latest us b (block d b)
  started_newest done b h =
      ap (latest rest b) (block_other d 1 (start_block target) b (λ e. omega arith)) ∙
      sym (latest_split n us b (block d b) ∙ ap (latest rest b) (ap (λ m. latest (take m us) b (block d b)) (let z : n ≡ r.next - start = omega (arith, i.upto) in z) ∙ i.home b h))
