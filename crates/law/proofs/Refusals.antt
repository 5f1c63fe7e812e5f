-- Calls are refused as the record and the disk say.
use Rattle.std.proofs.Common.{◌≡◌, ℕ, suc, ◌+◌, ◌%◌, ◌<◌, ◌≤◌, Bool, true, false, cond, not, eqb, ltb, leb, List, [], ◌∷◌, ◌++◌, length, get_or, is_some, Some, None, Option, unwrap_or, sym, refl, ap, ◌∙◌, subst, ⊎_elim, arith}
use Rattle.std.specs.List.{AllByRecursion}
use Rattle.std.proofs.lemmas.Bool.{eq-eqb, ne_eqb, eqb-true, leb-false, ltb-false, lt-ltb, le-ltb, cases_lt, cases_eq}
use Rattle.disk.specs.Tests.{Test, first_of, both, either}
use Rattle.disk.specs.Meaning.{Block, Blocks, block, is_live}
use Rattle.disk.specs.declared.fault.DiskFault.TheVariants.{Dead}
use Rattle.object.specs.declared.ObjectFault.TheVariants.{Size, Misplaced, Buffer, Overlap, Table, DeadBlock}
use Rattle.object.specs.declared.Place.{Place}
use Rattle.object.specs.Objects.{block_bits, allowed, width, same}
use Rattle.object.specs.Tables.{Held, most_held, is_in, clashes, dirty_ones}
use Rattle.object.specs.Laws.{Placed}
use Rattle.object.proofs.Tables.{same_place}
use Rattle.card.specs.Layout.{slots, homes_from, highest, start_on}
use Rattle.model.specs.declared.Fault.{Fault}
use Rattle.model.specs.declared.Fault.TheVariants.{Number, Ticket, Log as InLog, Object}
use Rattle.model.specs.declared.LogFault.TheVariants.{Full, Exhausted}
use Rattle.model.specs.Log.{Log}
use Rattle.model.specs.Steps.{newest, room_tests}
use Rattle.model.specs.Operations.{among, place_tests, bit_tests, table_tests, dirty_blocks, committed, bytes_tests}
use Rattle.model.specs.Journal.{Open, most_operations}
use Rattle.model.specs.Calls.{Call, begins, reads, overwrites, commits, gives_up, flushes, logs, installs, held_by, ticket_tests, known, tests_of}
use Rattle.model.proofs.Card.{not_false}
use Rattle.law.specs.Record.{Record, touched_by, due, refusals, open_test, changed_above}
use Rattle.law.proofs.Invariant.{Good, Kept}
use Rattle.law.proofs.Latest.{latest_live}
use Rattle.law.proofs.Absorb.{Distinct, either_false, either_assoc, at_every, latest_none}
use Rattle.law.proofs.Commits.{count, either_true}
use Rattle.law.proofs.Tables.{HeldGood, TableGood, Tables, table_of}
use Rattle.law.proofs.Committed as Committed
use Rattle.law.proofs.Told.{open_homes, LogTold}
use Rattle.law.proofs.CommitTold.{dead_home, split}

-- ## Everything that holds between calls

pub record Inv (j : Open) (d : Blocks) (r : Record) : Type 0 where
  pub kept : Kept j.log d
  pub far : Distinct (open_homes j.log)
  pub tables : Tables j.operations d
  pub touched : j.operations ≡ r.touched
  pub told : LogTold j.log d r.first r.commits r.ended r.reached r.flushed r.settled

-- ## Dead blocks

is_live_lem : (x : Block) → is_some x ≡ is_live x
is_live_lem None = refl
is_live_lem (Some bs) = refl

-- a block has newest bytes just where it is live
pub newest_live : (l : Log) (d : Blocks) → Kept l d → (b : ℕ) → is_some (newest l d b) ≡ is_live (block d b)
newest_live l d k b = ⊎_elim
    (λ live. latest_live l.updates b (block d b) (is_live_lem (block d b) ∙ live) ∙ sym live)
    (λ dead. ap is_some (latest_none l.updates b (block d b) (dead_home l.updates d b (at_every (Good d) l.updates k.good) dead)) ∙ is_live_lem (block d b))
    (split (is_live (block d b)))

-- an object is held only of a live block
pub held_live : (d : Blocks) (hs : List Held) (o : Place) → AllByRecursion (HeldGood d) hs → is_in hs o ≡ true → is_live (block d o.block) ≡ true
held_live d [] o all e = let z : ◌≡◌ {A = ℕ} 0 1 = cc in absurd (omega arith)
held_live d (h ∷ hs) o all e = ⊎_elim
    (λ here. subst (λ (p : Place). is_live (block d p.block) ≡ true) ((same_place h.place o).0 here) all.0.alive)
    (λ other. held_live d hs o all.1 (sym (ap (λ q. either q (is_in hs o)) other) ∙ e))
    (split (same h.place o))

either_same : (a b c : Bool) → (a ≡ true → c ≡ true) → b ≡ c → either a b ≡ c
either_same true b c h e = sym (h refl)
either_same false b c h e = e

pub known_live : (j : Open) (d : Blocks) → Kept j.log d → Tables j.operations d → (n : ℕ) (o : Place) → known j d n o ≡ is_live (block d o.block)
known_live j d k t n o = either_same (is_in (held_by j n) o) (is_some (newest j.log d o.block)) (is_live (block d o.block)) (held_live d (held_by j n) o (table_of j.operations d t n).each) (newest_live j.log d k o.block)

-- ## How many positions a commit takes

none_more : {F : Type 0} (xs ys : List (Test F)) → first_of ys ≡ None → first_of (xs ++ ys) ≡ first_of xs
none_more [] ys e = e
none_more ((true, f) ∷ xs) ys e = refl
none_more ((false, f) ∷ xs) ys e = none_more xs ys e

-- one more that the other list has
widen : (b x : ℕ) (p q : Bool) {s : Bool} → s ≡ either p q → (b ≡ x → q ≡ true) → s ≡ either (either (eqb b x) p) q
widen b x p q e h = e ∙ ⊎_elim
    (λ (same : b ≡ x). let z = h same in ap (either p) z ∙ either_true p ∙ sym (ap (λ y. either (either y p) q) (eq-eqb b x same)))
    (λ ne. sym (ap (λ y. either (either y p) q) (ne_eqb b x ne)))
    (cases_eq b x)

-- blocks of dirty entries that neither list has seen
count_step : (x : ℕ) (hs gs : List Held) (S B C : List ℕ) → ((b : ℕ) → among b S ≡ either (among b B) (among b C)) →
    ((S B : List ℕ) → ((b : ℕ) → among b S ≡ either (among b B) (among b C)) → length (dirty_blocks gs S) ≡ count (dirty_blocks hs B) C) →
    length (cond (not (among x S)) (x ∷ dirty_blocks gs (x ∷ S)) (dirty_blocks gs S)) ≡ count (cond (not (among x B)) (x ∷ dirty_blocks hs (x ∷ B)) (dirty_blocks hs B)) C
count_step x hs gs S B C same rest = ⊎_elim
    (λ (seen : among x B ≡ true).
    let s : among x S ≡ true = same x ∙ ap (λ q. either q (among x C)) seen in
    ap (λ q. length (cond (not q) (x ∷ dirty_blocks gs (x ∷ S)) (dirty_blocks gs S))) s ∙ rest S B same ∙
    sym (ap (λ q. count (cond (not q) (x ∷ dirty_blocks hs (x ∷ B)) (dirty_blocks hs B)) C) seen))
    (λ (new : among x B ≡ false). ⊎_elim
    (λ (old : among x C ≡ true).
    let s : among x S ≡ true = same x ∙ ap (λ q. either q (among x C)) new ∙ old in
    ap (λ q. length (cond (not q) (x ∷ dirty_blocks gs (x ∷ S)) (dirty_blocks gs S))) s ∙
    rest S (x ∷ B) (λ b. widen b x (among b B) (among b C) (same b) (λ e. subst (λ (n : ℕ). among n C ≡ true) (sym e) old)) ∙
    sym (ap (λ q. count (cond (not q) (x ∷ dirty_blocks hs (x ∷ B)) (dirty_blocks hs B)) C) new ∙ (let z : ◌≡◌ {A = ℕ} (cond (among x C) 0 1) 0 = ap (λ q. cond q 0 1) old in omega arith)))
    (λ (fresh : among x C ≡ false).
    let s : among x S ≡ false = same x ∙ ap (λ q. either q (among x C)) new ∙ fresh in
    ap (λ q. length (cond (not q) (x ∷ dirty_blocks gs (x ∷ S)) (dirty_blocks gs S))) s ∙
    (let i = rest (x ∷ S) (x ∷ B) (λ b. ap (either (eqb b x)) (same b) ∙ sym (either_assoc (eqb b x) (among b B) (among b C))) in
    let z : ◌≡◌ {A = ℕ} (cond (among x C) 0 1) 1 = ap (λ q. cond q 0 1) fresh in
    let w : suc (length (dirty_blocks gs (x ∷ S))) ≡ cond (among x C) 0 1 + count (dirty_blocks hs (x ∷ B)) C = omega arith in w) ∙
    sym (ap (λ q. count (cond (not q) (x ∷ dirty_blocks hs (x ∷ B)) (dirty_blocks hs B)) C) new))
    (split (among x C)))
    (split (among x B))

count_entry : (t : Bool) (h : Held) (hs : List Held) (S B C : List ℕ) → h.dirty ≡ t → ((b : ℕ) → among b S ≡ either (among b B) (among b C)) →
    ((S B : List ℕ) → ((b : ℕ) → among b S ≡ either (among b B) (among b C)) → length (dirty_blocks (dirty_ones hs) S) ≡ count (dirty_blocks hs B) C) →
    length (dirty_blocks (cond t (h ∷ dirty_ones hs) (dirty_ones hs)) S) ≡ count (cond (both t (not (among h.place.block B))) (h.place.block ∷ dirty_blocks hs (h.place.block ∷ B)) (dirty_blocks hs B)) C
count_entry true h hs S B C d same rest =
    ap (λ q. length (cond (both q (not (among h.place.block S))) (h.place.block ∷ dirty_blocks (dirty_ones hs) (h.place.block ∷ S)) (dirty_blocks (dirty_ones hs) S))) d ∙
    count_step h.place.block hs (dirty_ones hs) S B C same rest
count_entry false h hs S B C d same rest = rest S B same

dirty_count : (hs : List Held) (S B C : List ℕ) → ((b : ℕ) → among b S ≡ either (among b B) (among b C)) → length (dirty_blocks (dirty_ones hs) S) ≡ count (dirty_blocks hs B) C
dirty_count [] S B C same = refl
dirty_count (h ∷ hs) S B C same = count_entry h.dirty h hs S B C refl same (λ S B e. dirty_count hs S B C e)

module _ (j : Open) (d : Blocks) (r : Record) (i : Inv j d r) (n : ℕ) where
  abbrev hs : List Held
  hs = held_by j n

  pub held_touched : hs ≡ touched_by r n
  held_touched = ap (λ (ops : List (Option (List Held))). unwrap_or (get_or ops n None) []) i.touched

  table : TableGood d hs
  table = table_of j.operations d i.tables n

  -- where a commit comes to
  pub commit_due : j.log.start + length (committed hs j.log d) ≡ due r n
  commit_due =
      let e = Committed.new_length j.log d i.kept i.far hs table in
      let c = dirty_count hs (changed_above r.settled r.commits) [] (open_homes j.log) (λ b. sym (i.told.changed b)) in
      let q = ap (λ (gs : List Held). length (dirty_blocks (dirty_ones gs) (changed_above r.settled r.commits))) held_touched in
      omega (arith, i.told.at_reached)

  bytes_pass : (bs : List ℕ) → AllByRecursion (λ b. (homes_from ≤ b) × (b < length d) × (is_live (block d b) ≡ true)) bs → first_of (bytes_tests j.log d bs) ≡ None
  bytes_pass [] h = refl
  bytes_pass (b ∷ bs) h = ap (λ q. cond (not q) (Some (Object (DeadBlock (Dead b)))) (first_of (bytes_tests j.log d bs))) (newest_live j.log d i.kept b ∙ h.0.2) ∙ bytes_pass bs h.1

  shift : (s a b : ℕ) → ltb (s + a) (s + b) ≡ ltb a b
  shift s a b = ⊎_elim (λ (h : a < b). lt-ltb (s + a) (s + b) (omega arith) ∙ sym (lt-ltb a b h)) (λ (h : b ≤ a). le-ltb (s + a) (s + b) (omega arith) ∙ sym (le-ltb a b h)) (cases_lt a b)

  same_ticket : ticket_tests j n ≡ open_test r n ∷ []
  same_ticket = ap (λ (ops : List (Option (List Held))). (not (is_some (get_or ops n None)), Ticket) ∷ []) i.touched

  pub commit_refused : first_of (tests_of (commits n) j d) ≡ first_of (refusals (commits n) r d)
  commit_refused =
      let us = committed hs j.log d in
      let s = j.log.start in
      ap (λ ts. first_of (ts ++ (room_tests j.log us ++ bytes_tests j.log d (dirty_blocks hs [])))) same_ticket ∙
      ap (λ f. cond (open_test r n).0 (Some (open_test r n).1) f)
      (none_more (room_tests j.log us) (bytes_tests j.log d (dirty_blocks hs [])) (bytes_pass (dirty_blocks hs []) (Committed.dirty_live j.log d i.kept i.far hs table)) ∙
      ap (λ q. cond q (Some (InLog Full)) (cond (ltb highest (s + length us)) (Some (InLog Exhausted)) None)) (sym (shift s slots (length us)) ∙ ap (λ m. ltb (m + slots) (s + length us)) i.kept.card.at_start) ∙
      ap (λ m. cond (ltb (start_on d + slots) m) (Some (InLog Full)) (cond (ltb highest m) (Some (InLog Exhausted)) None)) commit_due)

-- ## Every call

told_reads : (j : Open) (d : Blocks) (r : Record) → Inv j d r → (n : ℕ) (o : Place) (xs ys : List (Test Fault)) →
    ticket_tests j n ++ (xs ++ (ys ++ table_tests (held_by j n) (known j d n o) o)) ≡ open_test r n ∷ (xs ++ (ys ++ table_tests (touched_by r n) (is_live (block d o.block)) o))
told_reads j d r i n o xs ys =
    ap (λ ts. ts ++ (xs ++ (ys ++ table_tests (held_by j n) (known j d n o) o))) (same_ticket j d r i n) ∙
    ap (λ (gs : List Held). open_test r n ∷ (xs ++ (ys ++ table_tests gs (known j d n o) o))) (held_touched j d r i n) ∙
    ap (λ q. open_test r n ∷ (xs ++ (ys ++ table_tests (touched_by r n) q o))) (known_live j d i.kept i.tables n o)

pub refused_same : (c : Call) (j : Open) (d : Blocks) (r : Record) → Inv j d r → first_of (tests_of c j d) ≡ first_of (refusals c r d)
refused_same (begins n) j d r i = ap (λ (ops : List (Option (List Held))). first_of ((either (leb most_operations n) (is_some (get_or ops n None)), Number) ∷ [])) i.touched
refused_same (reads n o buffer) j d r i = ap first_of (told_reads j d r i n o (place_tests d o (length buffer)) [])
refused_same (overwrites n o bytes) j d r i = ap first_of (told_reads j d r i n o (place_tests d o (length bytes)) (bit_tests o bytes))
refused_same (commits n) j d r i = commit_refused j d r i n
refused_same (gives_up n) j d r i = ap first_of (same_ticket j d r i n)
refused_same flushes j d r i = refl
refused_same logs j d r i = refl
refused_same installs j d r i = refl

-- ## What a granted read or overwrite knows

pub record Named (d : Blocks) (o : Place) (n : ℕ) : Type 0 where
  pub placed : Placed o
  pub low : homes_from ≤ o.block
  pub high : o.block < length d
  pub long : n ≡ width o.size

three_none : (a b c : Bool) (f g h : Fault) → first_of ((a, f) ∷ (b, g) ∷ (c, h) ∷ []) ≡ None → (a ≡ false) × (b ≡ false) × (c ≡ false)
three_none true b c f g h e = let z : ◌≡◌ {A = ℕ} 0 1 = cc in absurd (omega arith)
three_none false true c f g h e = let z : ◌≡◌ {A = ℕ} 0 1 = cc in absurd (omega arith)
three_none false false true f g h e = let z : ◌≡◌ {A = ℕ} 0 1 = cc in absurd (omega arith)
three_none false false false f g h e = (refl, refl, refl)

pub place_passed : (d : Blocks) (o : Place) (n : ℕ) → first_of (place_tests d o n) ≡ None → Named d o n
place_passed d o n e =
    let a = three_none (not (allowed o.size)) (either (either (ltb o.block homes_from) (leb (length d) o.block)) (either (leb block_bits o.offset) (not (eqb (o.offset % o.size) 0)))) (not (eqb n (width o.size))) (Object (Size o.block)) (Object (Misplaced o.block)) (Object (Buffer o.block)) e in
    let p = either_false (either (ltb o.block homes_from) (leb (length d) o.block)) (either (leb block_bits o.offset) (not (eqb (o.offset % o.size) 0))) a.1 in
    let q = either_false (ltb o.block homes_from) (leb (length d) o.block) p.0 in
    let s = either_false (leb block_bits o.offset) (not (eqb (o.offset % o.size) 0)) p.1 in
    record {
      placed = record { sized = not_false (allowed o.size) a.0; in_block = leb-false block_bits o.offset s.0; aligned = eqb-true (o.offset % o.size) 0 (not_false (eqb (o.offset % o.size) 0) s.1) };
      low = ltb-false o.block homes_from q.0;
      high = leb-false (length d) o.block q.1;
      long = eqb-true n (width o.size) (not_false (eqb n (width o.size)) a.2);
    }

-- a table with room for an object that it does not have
both_room : (a b : Bool) → both a (not b) ≡ false → b ≡ false → a ≡ false
both_room true true e f = let z : ◌≡◌ {A = ℕ} 0 1 = cc in absurd (omega arith)
both_room true false e f = e
both_room false b e f = refl

pub table_passed : (hs : List Held) (q : Bool) (o : Place) → first_of (table_tests hs q o) ≡ None → (is_in hs o ≡ false → length hs < most_held) × (q ≡ true)
table_passed hs q o e =
    let a = three_none (clashes hs o) (both (leb most_held (length hs)) (not (is_in hs o))) (not q) (Object (Overlap o.block)) (Object (Table o.block)) (Object (DeadBlock (Dead o.block))) e in
    ((λ out. leb-false most_held (length hs) (both_room (leb most_held (length hs)) (is_in hs o) a.1 out)), not_false q a.2)
