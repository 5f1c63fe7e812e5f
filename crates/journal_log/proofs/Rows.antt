-- Updates of positions in a row, by position.
use Rattle.std.proofs.Common.{◌≡◌, ℕ, zero, suc, ◌+◌, ◌-◌, ◌≤◌, List, ◌++◌, take, drop, sym, ap, ◌∙◌, arith}
use Rattle.std.proofs.lemmas.List.{take-append-drop}
use Rattle.std.proofs.lemmas.List.FromFn.{take-map-range_with_len}
use Rattle.card.specs.declared.Update.{Update}
use Rattle.journal_log.specs.Ring.{row_at, rows_from}

pub drop_rows : (rows : List Update) (p n k : ℕ) → k ≤ n → drop k (rows_from rows p n) ≡ rows_from rows (p + k) (n - k)
drop_rows rows p n zero l = ap (λ (q : ℕ). rows_from rows q n) (let e : p ≡ p + 0 = omega arith in e) ∙ ap (rows_from rows (p + 0)) (let e : n ≡ n - 0 = omega arith in e)
drop_rows rows p zero (suc k) l = absurd (omega arith)
drop_rows rows p (suc n) (suc k) l =
    drop_rows rows (p + 1) n k (omega arith) ∙
    ap (λ (q : ℕ). rows_from rows q (n - k)) (let e : p + 1 + k ≡ p + suc k = omega arith in e) ∙
    ap (rows_from rows (p + suc k)) (let e : n - k ≡ suc n - suc k = omega arith in e)

pub split_rows : (rows : List Update) (p n k : ℕ) → k ≤ n → rows_from rows p k ++ rows_from rows (p + k) (n - k) ≡ rows_from rows p n
split_rows rows p n k l =
    ap (λ us. us ++ rows_from rows (p + k) (n - k)) (sym (take-map-range_with_len (row_at rows) p n k l)) ∙
    ap (λ us. take k (rows_from rows p n) ++ us) (sym (drop_rows rows p n k l)) ∙
    take-append-drop k (rows_from rows p n)

-- the same, where the position is named
pub rows_dropped : (rows : List Update) (start last p : ℕ) → start ≤ p → p ≤ last → rows_from rows p (last - p) ≡ drop (p - start) (rows_from rows start (last - start))
rows_dropped rows start last p a b =
    let e : start + (p - start) ≡ p = omega arith in
    let f : last - start - (p - start) ≡ last - p = omega arith in
    sym (drop_rows rows start (last - start) (p - start) (omega arith) ∙ ap (λ (m : ℕ). rows_from rows m (last - start - (p - start))) e ∙ ap (rows_from rows p) f)
