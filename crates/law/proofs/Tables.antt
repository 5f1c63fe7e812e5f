-- What operations hold.
use Rattle.std.proofs.Common.{◌≡◌, ℕ, zero, suc, ◌+◌, ◌/◌, ◌%◌, ◌<◌, ◌≤◌, min, Bool, true, false, cond, eqb, List, [], ◌∷◌, length, get_or, take, drop, set, IfSome, Some, None, Option, unwrap_or, sym, ap, ◌∙◌, ⊎_elim, arith, length-drop, length-set, length-take}
use Rattle.std.specs.List.{AllByRecursion}
use Rattle.std.proofs.lemmas.Bool.{eq-eqb}
use Rattle.disk.specs.Tests.{both}
use Rattle.disk.specs.Meaning.{Blocks, block, is_live, block_size}
use Rattle.object.specs.declared.Place.{Place}
use Rattle.object.specs.Objects.{width, bit_at, with_bit, part, laid, same}
use Rattle.object.specs.Tables.{Held, most_held, holding}
use Rattle.object.specs.Laws.{Placed}
use Rattle.object.proofs.Bytes.{over, length_over}
use Rattle.object.proofs.Spans.{WholeBytes, bit_or_bytes}
use Rattle.card.specs.Layout.{homes_from}
use Rattle.model.specs.Operations.{laid_in}
use Rattle.model.specs.Journal.{most_operations}

-- ## Lengths

module _ (o : Place) (p : Placed o) where
  in_bytes : WholeBytes o → o.offset / 8 + o.size / 8 ≤ 512
  in_bytes w = omega (arith, w.at, w.long, w.fits)

  pub length_laid : (v bs : List ℕ) → length v ≡ width o.size → length bs ≡ block_size → length (laid o v bs) ≡ block_size
  length_laid v bs lv lb = ⊎_elim
      (λ (one : o.size ≡ 1). ap (λ t. length (cond t (set bs (o.offset / 8) (with_bit (get_or bs (o.offset / 8) 0) (o.offset % 8) (get_or v 0 0))) (over (o.offset / 8) (o.size / 8) v bs))) (eq-eqb o.size 1 one) ∙ length-set bs (o.offset / 8) _ ∙ lb)
      (λ w. ap (λ t. length (cond t (set bs (o.offset / 8) (with_bit (get_or bs (o.offset / 8) 0) (o.offset % 8) (get_or v 0 0))) (over (o.offset / 8) (o.size / 8) v bs))) w.many ∙
      length_over (o.offset / 8) (o.size / 8) v bs (lv ∙ ap (λ t. cond t 1 (o.size / 8)) w.many) (let h = in_bytes w in omega arith) ∙ lb)
      (bit_or_bytes o p)

  pub length_part : (bs : List ℕ) → length bs ≡ block_size → length (part o bs) ≡ width o.size
  length_part bs lb = ⊎_elim
      (λ (one : o.size ≡ 1). ap (λ t. length (cond t (bit_at (get_or bs (o.offset / 8) 0) (o.offset % 8) ∷ []) (take (o.size / 8) (drop (o.offset / 8) bs)))) (eq-eqb o.size 1 one) ∙ sym (ap (λ t. cond t 1 (o.size / 8)) (eq-eqb o.size 1 one)))
      (λ w. ap (λ t. length (cond t (bit_at (get_or bs (o.offset / 8) 0) (o.offset % 8) ∷ []) (take (o.size / 8) (drop (o.offset / 8) bs)))) w.many ∙
      length-take (o.size / 8) (drop (o.offset / 8) bs) ∙ (let h = in_bytes w in let l = length-drop (o.offset / 8) bs in let z : min (o.size / 8) (length (drop (o.offset / 8) bs)) ≡ o.size / 8 = omega arith in z) ∙
      sym (ap (λ t. cond t 1 (o.size / 8)) w.many))
      (bit_or_bytes o p)

-- ## Held objects

pub record HeldGood (d : Blocks) (h : Held) : Type 0 where
  pub placed : Placed h.place
  pub low : homes_from ≤ h.place.block
  pub high : h.place.block < length d
  pub alive : is_live (block d h.place.block) ≡ true
  pub long : length h.bytes ≡ width h.place.size

pub record TableGood (d : Blocks) (hs : List Held) : Type 0 where
  pub few : length hs ≤ most_held
  pub each : AllByRecursion (HeldGood d) hs

abbrev pub EntryGood : Blocks → Option (List Held) → Type 0
EntryGood d o = IfSome o (TableGood d)

pub record Tables (ops : List (Option (List Held))) (d : Blocks) : Type 0 where
  pub number : length ops ≡ most_operations
  pub each : AllByRecursion (EntryGood d) ops

either_long : (t : Bool) (xs ys : List ℕ) → length xs ≡ block_size → length ys ≡ block_size → length (cond t xs ys) ≡ block_size
either_long true xs ys a b = a
either_long false xs ys a b = b

pub laid_in_length : (d : Blocks) (hs : List Held) (b : ℕ) (bs : List ℕ) → AllByRecursion (HeldGood d) hs → length bs ≡ block_size → length (laid_in hs b bs) ≡ block_size
laid_in_length d [] b bs h l = l
laid_in_length d (g ∷ hs) b bs h l = laid_in_length d hs b _ h.1 (either_long (both g.dirty (eqb g.place.block b)) (laid g.place g.bytes bs) bs (length_laid g.place h.0.placed g.bytes bs h.0.long l) l)

-- ## Lists of anything

pub every_set : {X : Type 0} (P : X → Type 0) (xs : List X) (i : ℕ) (v : X) → AllByRecursion P xs → P v → AllByRecursion P (set xs i v)
every_set P [] i v h p = tt
every_set P (x ∷ xs) zero v h p = (p, h.1)
every_set P (x ∷ xs) (suc i) v h p = (h.0, every_set P xs i v h.1 p)

pub every_get_d : {X : Type 0} (P : X → Type 0) (xs : List X) (i : ℕ) (v : X) → AllByRecursion P xs → P v → P (get_or xs i v)
every_get_d P [] i v h p = p
every_get_d P (x ∷ xs) zero v h p = h.0
every_get_d P (x ∷ xs) (suc i) v h p = every_get_d P xs i v h.1 p

pub every_map : {X : Type 0} (P Q : X → Type 0) (xs : List X) → ((x : X) → P x → Q x) → AllByRecursion P xs → AllByRecursion Q xs
every_map P Q [] f h = tt
every_map P Q (x ∷ xs) f h = (f x h.0, every_map P Q xs f h.1)

either_table : (P : Held → Type 0) (t : Bool) (xs ys : List Held) → AllByRecursion P xs → AllByRecursion P ys → AllByRecursion P (cond t xs ys)
either_table P true xs ys a b = a
either_table P false xs ys a b = b

pub holding_every : (P : Held → Type 0) (hs : List Held) (h : Held) → AllByRecursion P hs → P h → AllByRecursion P (holding hs h)
holding_every P [] h all p = (p, tt)
holding_every P (g ∷ gs) h all p = either_table P (same g.place h.place) (h ∷ gs) (g ∷ holding gs h) (p, all.1) (all.0, holding_every P gs h all.1 p)

-- ## One operation changed

entry_table : {d : Blocks} (o : Option (List Held)) → EntryGood d o → TableGood d (unwrap_or o [])
entry_table None g = record { few = omega arith; each = tt }
entry_table (Some hs) g = g

module _ (ops : List (Option (List Held))) (d : Blocks) (t : Tables ops d) where
  pub table_of : (n : ℕ) → TableGood d (unwrap_or (get_or ops n None) [])
  table_of n = entry_table (get_or ops n None) (every_get_d (EntryGood d) ops n None t.each tt)

  pub tables_set : (n : ℕ) (o : Option (List Held)) → EntryGood d o → Tables (set ops n o) d
  tables_set n o g = record { number = length-set ops n o ∙ t.number; each = every_set (EntryGood d) ops n o t.each g }

-- blocks that live as before
held_same : (d e : Blocks) → length e ≡ length d → ((b : ℕ) → is_live (block e b) ≡ is_live (block d b)) → (h : Held) → HeldGood d h → HeldGood e h
held_same d e l live h g = record { placed = g.placed; low = g.low; high = omega (arith, g.high); alive = live h.place.block ∙ g.alive; long = g.long }

entry_same : (d e : Blocks) → length e ≡ length d → ((b : ℕ) → is_live (block e b) ≡ is_live (block d b)) → (o : Option (List Held)) → EntryGood d o → EntryGood e o
entry_same d e l live None g = tt
entry_same d e l live (Some hs) g = record { few = g.few; each = every_map (HeldGood d) (HeldGood e) hs (held_same d e l live) g.each }

pub tables_same : (ops : List (Option (List Held))) (d e : Blocks) → length e ≡ length d → ((b : ℕ) → is_live (block e b) ≡ is_live (block d b)) → Tables ops d → Tables ops e
tables_same ops d e l live t = record {
  number = t.number;
  each = every_map (EntryGood d) (EntryGood e) ops (λ o g. entry_same d e l live o g) t.each;
}
