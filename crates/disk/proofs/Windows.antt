-- The blocks of a window.
use Rattle.std.proofs.Common.{◌≡◌, ℕ, ◌+◌, ◌<◌, ◌≤◌, [], length, take, drop, set, None, sym, ap, ◌∙◌, ⊎_elim, arith, length-drop, length-set, length-take, get_or-drop, get_or-take}
use lib.Seq.{take-set-lt, drop-set-add}
use Rattle.std.proofs.lemmas.Bool.{le-leb, lt-leb, cases_lt}
use Rattle.disk.specs.Meaning.{Blocks, block, Whole}
use Rattle.disk.specs.Window.{window_blocks}
use Rattle.disk.proofs.Wholes.{whole_by}
use Rattle.disk.proofs.Above.{Shows}

window_within : (d : Blocks) (first n : ℕ) → first + n ≤ length d → window_blocks d first n ≡ take n (drop first d)
window_within d first n h = rw (le-leb (first + n) (length d) h)

window_beyond : (d : Blocks) (first n : ℕ) → length d < first + n → window_blocks d first n ≡ []
window_beyond d first n h = rw (lt-leb (first + n) (length d) h)

pub length_window : (d : Blocks) (first n : ℕ) → first + n ≤ length d → length (window_blocks d first n) ≡ n
length_window d first n h = rw (window_within d first n h) (simp (length-take, length-drop) (omega arith))

-- a window that has a block lies within the disk
window_fits : (d : Blocks) (first n b : ℕ) → b < length (window_blocks d first n) → (first + n ≤ length d) × (b < n)
window_fits d first n b h = ⊎_elim
    (λ out. let e = ap length (window_beyond d first n out) in absurd (omega arith))
    (λ fits. let e = length_window d first n fits in (fits, omega arith))
    (cases_lt (length d) (first + n))

block_window : (d : Blocks) (first n b : ℕ) → b < length (window_blocks d first n) → block (window_blocks d first n) b ≡ block d (first + b)
block_window d first n b h =
    let f = window_fits d first n b h in
    ap (λ x. block x b) (window_within d first n f.0) ∙ get_or-take n (drop first d) b None f.1 ∙ get_or-drop first d b None

pub whole_window : (d : Blocks) (first n : ℕ) → Whole d → Whole (window_blocks d first n)
whole_window d first n w = whole_by (window_blocks d first n)
    (⊎_elim (λ out. rw (window_beyond d first n out) (omega arith)) (λ fits. let e = length_window d first n fits in omega (arith, w.few)) (cases_lt (length d) (first + n)))
    (λ b bs h e. w.full (first + b) bs (sym (block_window d first n b h) ∙ e))

pub window_shows : (d : Blocks) (first n b : ℕ) → b < length (window_blocks d first n) → Shows (λ x. window_blocks x first n) d (first + b) b
window_shows d first n b h =
    let f = window_fits d first n b h in
    record {
      in_below = omega arith;
      in_above = h;
      same = block_window d first n b h;
      sets = λ x. let m = length-set d (first + b) x in
          window_within (set d (first + b) x) first n (omega (arith, f.0)) ∙
          ap (take n) (drop-set-add first d b x) ∙
          take-set-lt n (drop first d) b x f.1 ∙
          sym (ap (λ (w : Blocks). set w b x) (window_within d first n f.0));
    }
