use Rattle.std.proofs.Common.{◌≡◌, ℕ, ◌+◌, ◌-◌, ◌*◌, ◌<◌, ◌≤◌, false, true, List, length, take, drop, ap, ◌∙◌, sym, subst, arith}
use Rattle.disk.specs.Meaning.{Block, is_live}
use Rattle.disk.specs.Runs.{cell_blocks, cell_bytes, LiveCell}
use Rattle.disk.proofs.Refusals.{dead}
use Rattle.disk.proofs.Cells.{cell_within}
use Rattle.disk.proofs.LiveCells.{live_cell, dead_cell}
use Rattle.disk.proofs.cards.Card.locate.Goals as goal

-- a cell of w bytes, as the code cuts it, where w is how long a cell is
module _ (w v : ℕ) (e : w ≡ v) (told : List ℕ → Block) (bs : List ℕ) (b : ℕ) where
  within : b < length (cell_blocks v told bs) → w * b + w ≤ length bs
  within h = rw e (cell_within v told bs b h)

  cut : take (w * b + w - w * b) (drop (w * b) bs) ≡ cell_bytes v bs b
  cut = rw e (ap (λ n. take n (drop (v * b) bs)) (omega arith))

pub overflow_mul-at : goal.overflow_mul-at
overflow_mul-at g c = let i = within _ _ c.CELL-cell.ensures g.L.Layout.told c.args.self.now.bytes.now c.args.block (omega arith) in omega arith

pub overflow_add-at : goal.overflow_add-at
overflow_add-at g c = let i = within _ _ c.CELL-cell.ensures g.L.Layout.told c.args.self.now.bytes.now c.args.block (omega arith) in omega arith

pub slice_bounds-is_live-end : goal.slice_bounds-is_live-end
slice_bounds-is_live-end g c = let i = within _ _ c.CELL-cell.ensures g.L.Layout.told c.args.self.now.bytes.now c.args.block (omega arith) in omega arith

pub returns-then-not-is_live : goal.returns-then-not-is_live
returns-then-not-is_live g c =
    let bs = c.args.self.now.bytes.now in
    let b = c.args.block in
    let told = g.L.Layout.told in
    let d = cell_blocks g.L.Layout.CELL told bs in
    let h : b < length d = omega arith in
    dead d b (length c.args.buf.now) h c.if-buf-ne-BLOCK.false (dead_cell _ told g.met.L.Layout.laid bs b h
    (subst (λ x. is_live (told x) ≡ false) (cut _ _ c.CELL-cell.ensures told bs b) (sym c.is_live.ensures ∙ c.if-not-is_live.true)))

pub returns : goal.returns
returns g c =
    let bs = c.args.self.now.bytes.now in
    let b = c.args.block in
    let told = g.L.Layout.told in
    let h : b < length (cell_blocks g.L.Layout.CELL told bs) = omega arith in
    subst (λ (w : ℕ). LiveCell g.L.Layout.CELL told bs b c.args.buf.now (w * b)) (sym c.CELL-cell.ensures)
    (live_cell _ told g.met.L.Layout.laid bs b h c.args.buf.now c.if-buf-ne-BLOCK.false
    (subst (λ x. is_live (told x) ≡ true) (cut _ _ c.CELL-cell.ensures told bs b) (sym c.is_live.ensures ∙ c.if-not-is_live.false)))
