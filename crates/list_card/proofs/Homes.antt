-- The homes of the live positions.
use Rattle.std.proofs.Common.{◌≡◌, ℕ, ◌+◌, ◌-◌, ◌<◌, ◌≤◌, cond, leb, List, map, length, get_or, take, set, Some, None, Ok, Option, unwrap_or, sym, refl, ap, ◌∙◌, subst, ⊎_elim, arith, length-take, get_or-set_other, get_or-take, get_or-set_same}
use Rattle.std.specs.Option.{option_map}
use Rattle.std.proofs.lemmas.List.{same_lists, length-map, get_or-map, get_or_default}
use Rattle.std.proofs.lemmas.List.FromFn.{length-map-range_with_len, get_or-map-range_with_len}
use Rattle.std.proofs.lemmas.Bool.{le-ltb, lt-leb, cases_eq}
use Rattle.disk.specs.Meaning.{Blocks}
use Rattle.card.specs.declared.Update.{Update}
use Rattle.card.specs.Layout.{start_on, end_on, update_on}
use Rattle.journal_log.specs.declared.state.Log.{Log as Memory}
use Rattle.journal_log.specs.Ring.{absent, row_at, rows_from}
use Rattle.journal_log.specs.View.{home_of as home_at}
use Rattle.journal_log.specs.View.{view as log_view}
use Rattle.journal.specs.declared.opened.Open.{Open}
use Rattle.journal.specs.View.{open_view}
use Rattle.model.specs.Log.{Log, log_on}
use Rattle.model.specs.Journal.{View, opened_with, opening}
use Rattle.model.proofs.Calls.{opening_granted}
use Rattle.list_card.specs.declared.lists.Live.{Live}
use Rattle.list_card.specs.Listing.{Lives, home_of, homes_of, row_homes, fields_of, listed, live_told, told_of}

pub home_live : (l : Memory) (p : ℕ) → l.start ≤ p → p < l.end → home_at l p ≡ Some (row_at l.ring.rows p).home
home_live l p a b =
    ap (λ t. cond t None (cond (leb l.end p) None (Some (row_at l.ring.rows p).home))) (le-ltb p l.start a) ∙
    ap (λ t. cond t None (Some (row_at l.ring.rows p).home)) (lt-leb l.end p b)

pub home_or_zero : (l : Memory) (p : ℕ) → l.start ≤ p → p < l.end → unwrap_or (home_at l p) 0 ≡ (row_at l.ring.rows p).home
home_or_zero l p a b = ap (λ o. unwrap_or o 0) (home_live l p a b)

module _ (rows : List Update) (start : ℕ) (homes : List ℕ) where
  -- one home more
  pub homes_more : (p x : ℕ) → start ≤ p → p < start + length homes → x ≡ (row_at rows p).home → ((k : ℕ) → start + k < p → get_or homes k 0 ≡ (row_at rows (start + k)).home) →
      (k : ℕ) → start + k < p + 1 → get_or (set homes (p - start) x) k 0 ≡ (row_at rows (start + k)).home
  homes_more p x a b is before k l = ⊎_elim
      (λ same. subst (λ (j : ℕ). get_or (set homes (p - start) x) j 0 ≡ (row_at rows (start + j)).home) (sym same)
      (get_or-set_same homes (p - start) x 0 (omega arith) ∙ is ∙ ap (λ n. (row_at rows n).home) (let z : p ≡ start + (p - start) = omega arith in z)))
      (λ ne. get_or-set_other homes (p - start) k x 0 ne ∙ before k (omega arith))
      (cases_eq k (p - start))

  pub homes_all : (n : ℕ) → n ≤ length homes → ((k : ℕ) → k < n → get_or homes k 0 ≡ (row_at rows (start + k)).home) → take n homes ≡ map home_of (rows_from rows start n)
  homes_all n few all =
      same_lists (take n homes) (map home_of (rows_from rows start n))
      (length-take n homes ∙ (let m = length-map (rows_from rows start n) home_of in let c = length-map-range_with_len (row_at rows) start n in omega arith))
      (λ k d h. let lt : k < n = omega (arith, length-take n homes) in
      get_or-take n homes k d lt ∙ get_or_default homes k d 0 (omega arith) ∙ all k lt ∙
      sym (get_or-map home_of (rows_from rows start n) k absent d (omega (arith, length-map-range_with_len (row_at rows) start n)) ∙
      ap (λ (u : Update). u.home) (get_or-map-range_with_len (row_at rows) start n k (start + k) absent lt refl)))

-- the log in memory is what the card holds, so its homes are the card's
pub homes_told : (d : Blocks) (l : Memory) → log_view l ≡ log_on d → ◌≡◌ {A = Lives} (l.start, l.end, row_homes l) (homes_of (opened_with (log_on d)))
homes_told d l e =
    let n : l.last - l.start ≡ l.end - l.start =
    sym (length-map-range_with_len (row_at l.ring.rows) l.start (l.last - l.start)) ∙ ap (λ (x : Log). length x.updates) e ∙
    length-map-range_with_len (update_on d) (start_on d) (end_on d - start_on d) ∙ sym (ap (λ (x : Log). x.end - x.start) e) in
    ap (λ m. (l.start, l.end, map home_of (rows_from l.ring.rows l.start m))) (sym n) ∙ ap (λ (x : Log). homes_of (opened_with x)) e

abbrev log_or : Log → View → Log
log_or l None = l
log_or l (Some j) = j.log

-- the log of an open journal, as it is seen
log_seen : (l : Memory) (e : Log) (s : Option Open) → Some l ≡ option_map (λ o. o.log) s → log_view l ≡ log_or e (option_map open_view s)
log_seen l e None is = cc
log_seen l e (Some o) is = cc

pub found_listed : (d : Blocks) (e : ℕ) → Ok e ≡ (opening None d).answer → (s : Option Open) → option_map open_view s ≡ (opening None d).state →
    (live : Live) (l : Memory) → Some l ≡ option_map (λ o. o.log) s → live_told live ≡ (l.start, l.end, row_homes l) → told_of (length d) (Ok live) ≡ listed d
found_listed d e ok s seen live l in-s at-l =
    let opened = (opening_granted d e (sym ok)).1 in
    let found : log_view l ≡ log_on d = log_seen l (log_on d) s in-s ∙ ap (log_or (log_on d)) (seen ∙ ap (λ o. o.state) opened) in
    ap (λ x. record { blocks = length d; refusal = 0; place = 0; live = Some x }) (at-l ∙ homes_told d l found) ∙
    sym (ap (λ o. fields_of (length d) o.answer o.state) opened)
