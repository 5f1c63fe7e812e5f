-- A commit keeps the log and the card together, and shows its objects.
use Rattle.std.proofs.Common.{◌≡◌, ℕ, ◌+◌, ◌-◌, ◌<◌, ◌≤◌, Bool, true, false, cond, not, eqb, ◌⊎◌, List, [], ◌∷◌, length, get_or, take, drop, Some, None, sym, refl, ap, ◌∙◌, subst, inl, inr, ⊎_elim, arith, get_or-take, take-take, MatchOption}
use Rattle.std.specs.Option.{option_map}
use Rattle.std.specs.List.{AllByRecursion}
use Rattle.std.proofs.lemmas.Bool.{eq-eqb, ne_eqb}
use Rattle.disk.specs.Tests.{both, either}
use Rattle.disk.specs.Meaning.{Block, Blocks, block, is_live, block_size, bytes_or, Whole}
use Rattle.object.specs.Objects.{laid}
use Rattle.object.specs.Tables.{Held}
use Rattle.card.specs.declared.Update.{Update}
use Rattle.card.specs.Layout.{slots, homes_from, highest, latest}
use Rattle.model.specs.Log.{Log}
use Rattle.model.specs.Steps.{with_updates}
use Rattle.model.specs.Operations.{among, dirty_blocks, laid_in, committed}
use Rattle.model.proofs.Card.{live_bytes}
use Rattle.law.proofs.Invariant.{absent, Good, at_position, AllGood, Kept}
use Rattle.law.proofs.Rounds.{if_some_map}
use Rattle.law.proofs.Absorb.{homes_of, Distinct, either_false, every_at, at_every}
use Rattle.law.proofs.Commits.{count, picks, dirty_takes, dirty_skips, dirty_distinct, dirty_every, fresh, merged_take, merged_distinct, merged_among, merged_length, merged_latest, merged_every}
use Rattle.law.proofs.Tables.{HeldGood, TableGood, laid_in_length, every_map}

-- ## Bytes that are there

-- a block that is live has 512 bytes
abbrev pub Full : Block → Type 0
Full x = MatchOption x ⊥ (λ bs. length bs ≡ block_size)

either_full : (t : Bool) (bs : List ℕ) (x : Block) → length bs ≡ block_size → Full x → Full (cond t (Some bs) x)
either_full true bs x l f = l
either_full false bs x l f = f

pub latest_full : (us : List Update) (b : ℕ) (x : Block) → AllByRecursion (λ u. length u.bytes ≡ block_size) us → Full x → Full (latest us b x)
latest_full [] b x h f = f
latest_full (u ∷ us) b x h f = latest_full us b (cond (eqb u.home b) (Some u.bytes) x) h.1 (either_full (eqb u.home b) u.bytes x h.0 f)

pub full_bytes : (x : Block) → Full x → length (bytes_or x []) ≡ block_size
full_bytes None f = absurd f
full_bytes (Some bs) f = f

pub live_full : (d : Blocks) → Whole d → (b : ℕ) → is_live (block d b) ≡ true → Full (block d b)
live_full d w b live = let e = live_bytes (block d b) live in subst Full (sym e) (w.full b (bytes_or (block d b) []) e)

-- ## Blocks without dirty objects

either_cases : (t : Bool) → (t ≡ true) ⊎ (t ≡ false)
either_cases true = inl refl
either_cases false = inr refl

dirty_seen : (t s : Bool) → t ≡ true → both t (not s) ≡ false → s ≡ false → ⊥
dirty_seen true false a b c = let z : ◌≡◌ {A = ℕ} 0 1 = cc in omega arith
dirty_seen true true a b c = let z : ◌≡◌ {A = ℕ} 0 1 = cc in omega arith
dirty_seen false s a b c = let z : ◌≡◌ {A = ℕ} 0 1 = cc in omega arith

laid_skip : (t e : Bool) (x y : List ℕ) → both t e ≡ false → cond (both t e) x y ≡ y
laid_skip t e x y f = ap (λ q. cond q x y) f

both_off : (t e : Bool) → (t ≡ true → e ≡ false) → both t e ≡ false
both_off true e h = h refl
both_off false e h = refl

not_among : (b c : ℕ) (seen : List ℕ) → among b seen ≡ false → (b ≡ c) → among c seen ≡ false
not_among b c seen e s = subst (λ (n : ℕ). among n seen ≡ false) s e

pub laid_in_none : (hs : List Held) (seen : List ℕ) (b : ℕ) (bs : List ℕ) → among b (dirty_blocks hs seen) ≡ false → among b seen ≡ false → laid_in hs b bs ≡ bs
laid_in_none [] seen b bs out un = refl
laid_in_none (h ∷ hs) seen b bs out un = ⊎_elim
    (λ t.
    let f = either_false (eqb b h.place.block) (among b (dirty_blocks hs (h.place.block ∷ seen))) (sym (ap (among b) (dirty_takes h hs seen t)) ∙ out) in
    let other : eqb h.place.block b ≡ false = ne_eqb h.place.block b (λ s. let z = eq-eqb b h.place.block (sym s) in let y : ◌≡◌ {A = ℕ} 0 1 = cc in omega arith) in
    ap (laid_in hs b) (laid_skip h.dirty (eqb h.place.block b) (laid h.place h.bytes bs) bs (both_off h.dirty (eqb h.place.block b) (λ d. other))) ∙
    laid_in_none hs (h.place.block ∷ seen) b bs f.1 (ap (λ q. either q (among b seen)) f.0 ∙ un))
    (λ s.
    let rest = sym (ap (among b) (dirty_skips h hs seen s)) ∙ out in
    ap (laid_in hs b) (laid_skip h.dirty (eqb h.place.block b) (laid h.place h.bytes bs) bs
    (both_off h.dirty (eqb h.place.block b) (λ d. ne_eqb h.place.block b (λ same. dirty_seen h.dirty (among h.place.block seen) d s (not_among b h.place.block seen un (sym same)))))) ∙
    laid_in_none hs seen b bs rest un)
    (either_cases (picks h hs seen))

-- ## The commit

module _ (l : Log) (d : Blocks) (k : Kept l d) (far : Distinct (homes_of (drop (l.frozen - l.start) l.updates))) (hs : List Held) (t : TableGood d hs) where
  abbrev us : List Update
  us = l.updates

  abbrev settled : ℕ
  settled = l.frozen - l.start

  abbrev blocks : List ℕ
  blocks = dirty_blocks hs []

  abbrev new : List Update
  new = committed hs l d

  fits : settled ≤ length us
  fits = omega (arith, k.order.frozen_last)

  pub new_length : length new ≡ length us + count blocks (homes_of (drop settled us))
  new_length = merged_length hs d settled blocks us fits (dirty_distinct hs [])

  pub new_distinct : Distinct (homes_of (drop settled new))
  new_distinct = merged_distinct hs d settled blocks us fits far

  pub new_among : (c : ℕ) → among c (homes_of (drop settled new)) ≡ either (among c (homes_of (drop settled us))) (among c blocks)
  new_among = merged_among hs d settled blocks us fits

  -- what lies below frozen is as it was
  pub new_take : (n : ℕ) → n ≤ settled → take n new ≡ take n us
  new_take n few = sym (take-take n settled new few) ∙ ap (take n) (merged_take hs d settled blocks us fits) ∙ take-take n settled us few

  pub new_at : (p : ℕ) → l.start ≤ p → p < l.frozen → at_position l.start new p ≡ at_position l.start us p
  new_at p a b =
      let few : p - l.start < settled = omega arith in
      sym (get_or-take settled new (p - l.start) absent few) ∙ ap (λ (vs : List Update). get_or vs (p - l.start) absent) (new_take settled (omega arith)) ∙ get_or-take settled us (p - l.start) absent few

  -- a block of the table is a live data block
  abbrev Dirty : ℕ → Type 0
  Dirty b = (homes_from ≤ b) × (b < length d) × (is_live (block d b) ≡ true)

  pub dirty_live : AllByRecursion Dirty blocks
  dirty_live = dirty_every Dirty hs [] (every_map (HeldGood d) (λ h. h.dirty ≡ true → Dirty h.place.block) hs (λ h g _. (g.low, g.high, g.alive)) t.each)

  fresh_good : (b : ℕ) → Dirty b → (vs : List Update) → AllByRecursion (Good d) vs → Good d (fresh hs d settled b vs)
  fresh_good b x vs g = record {
    low = x.0;
    high = x.1;
    alive = x.2;
    full = laid_in_length d hs b _ t.each (full_bytes (latest vs b (block d b)) (latest_full vs b (block d b) (every_map (Good d) (λ u. length u.bytes ≡ block_size) vs (λ u y. y.full) g) (live_full d k.card.whole b x.2)));
  }

  pub new_good : AllGood new d
  new_good = every_at (Good d) new (merged_every hs d settled (Good d) blocks us fits (at_every (Good d) us k.good) (every_map Dirty (λ b. (vs : List Update) → AllByRecursion (Good d) vs → Good d (fresh hs d settled b vs)) blocks fresh_good dirty_live))

  pub commit_kept : length new ≤ slots → l.start + length new ≤ highest → Kept (with_updates l new) d
  commit_kept room top = record {
    order = record { start_end = k.order.start_end; end_frozen = k.order.end_frozen; frozen_last = omega (arith, k.order.frozen_last, new_length); room = room; top = top };
    card = record {
      whole = k.card.whole;
      ready = k.card.ready;
      zeros_end = k.card.zeros_end;
      zeros_start = k.card.zeros_start;
      at_start = k.card.at_start;
      at_end = k.card.at_end;
      at_homes = k.card.at_homes;
      live = λ p a b. new_at p a (omega (arith, k.order.end_frozen)) ∙ k.card.live p a b;
    };
    good = new_good;
    logging = if_some_map l.logging (λ r g. record {
      from = g.from;
      upto = g.upto;
      some = g.some;
      below = g.below;
      logged = λ p a b. g.logged p a b ∙ sym (ap (λ (u : Update). u.bytes) (new_at p (omega (arith, k.order.start_end)) (omega (arith, g.upto, g.below))));
    }) k.logging;
    installing = if_some_map l.installing (λ r i. record {
      from = i.from;
      upto = i.upto;
      some = i.some;
      below = i.below;
      home = λ b h. ap (λ (vs : List Update). latest vs b (block d b)) (new_take (r.next - l.start) (omega (arith, i.upto, i.below, k.order.end_frozen))) ∙ i.home b h;
    }) k.installing;
  }

  -- every data block shows its dirty objects, laid on what it showed
  laid_or_kept : (q : Bool) (x : Block) (b : ℕ) → among b blocks ≡ q → Full x → cond q (Some (laid_in hs b (bytes_or x []))) x ≡ option_map (laid_in hs b) x
  laid_or_kept true None b e f = absurd f
  laid_or_kept false None b e f = refl
  laid_or_kept true (Some bs) b e f = refl
  laid_or_kept false (Some bs) b e f = ap Some (sym (laid_in_none hs [] b bs e refl))

  pub new_shows : (b : ℕ) → is_live (block d b) ≡ true → latest new b (block d b) ≡ option_map (laid_in hs b) (latest us b (block d b))
  new_shows b live =
      merged_latest hs d settled blocks us fits (dirty_distinct hs []) far b ∙
      laid_or_kept (among b blocks) (latest us b (block d b)) b refl
      (latest_full us b (block d b) (every_map (Good d) (λ u. length u.bytes ≡ block_size) us (λ u y. y.full) (at_every (Good d) us k.good)) (live_full d k.card.whole b live))
