-- What a granted call does to a cell.
use Rattle.std.proofs.Common.{◌≡◌, ℕ, ◌*◌, ◌<◌, true, false, List, [], length, take, drop, set, Some, None, sym, refl, ap, ◌∙◌, subst, arith, length-take, length-drop}
use Rattle.std.proofs.lemmas.List.{take-take, length-take-le}
use Rattle.disk.specs.Meaning.{Block, block, Whole, bytes_or, is_live}
use Rattle.disk.specs.Runs.{cell_bytes, cell_blocks, Laid, LiveCell}
use Rattle.disk.proofs.Refusals.{granted, unless_none}
use Rattle.disk.proofs.Cells.{whole_cells, block_cells, cells_overlaid, cell_within}

-- a block that is bytes is live
live_of : (x : Block) (bs : List ℕ) → x ≡ Some bs → is_live x ≡ true
live_of x bs e = rw e refl

none_of : (x : Block) → is_live x ≡ false → x ≡ None
none_of None e = refl
none_of (Some bs) e = cc

module _ (w : ℕ) (told : List ℕ → Block) (laid : Laid w told) (bs : List ℕ) where
  pub whole_card : Whole (cell_blocks w told bs)
  whole_card = whole_cells w told bs (λ c new l e.
      let p = sym (laid.shows c l (live_of (told c) new e)) ∙ e in
      let q : take 512 c ≡ new = cc in
      subst (λ (x : List ℕ). length x ≡ 512) q (length-take-le 512 c (let r = laid.room in omega arith)))

  module _ (b : ℕ) (h : b < length (cell_blocks w told bs)) where
    -- how long a cell is
    length_cell : length (cell_bytes w bs b) ≡ w
    length_cell = let i = cell_within w told bs b h in simp (length-take, length-drop) (omega arith)

    pub live_cell : (buf : List ℕ) → length buf ≡ 512 → is_live (told (cell_bytes w bs b)) ≡ true → LiveCell w told bs b buf (w * b)
    live_cell buf full live =
        let d = cell_blocks w told bs in
        let r = laid.room in
        let shows = block_cells w told bs b h ∙ laid.shows _ length_cell live ∙ ap Some (take-take 512 w (drop (w * b) bs) r) in
        let g = granted d b (length buf) _ h full shows in
        record {
          within = cell_within w told bs b h;
          room = r;
          full = full;
          granted = g;
          reads = sym (unless_none _ _ g ∙ ap (λ x. bytes_or x []) shows);
          writes = sym (unless_none _ _ g);
          blocks = cells_overlaid w told bs b h buf (omega arith) ∙ ap (set d b) (laid.stays _ buf length_cell full live) ∙ sym (unless_none _ _ g);
        }

    -- a cell that is not live shows no block
    pub dead_cell : is_live (told (cell_bytes w bs b)) ≡ false → block (cell_blocks w told bs) b ≡ None
    dead_cell e = block_cells w told bs b h ∙ none_of (told (cell_bytes w bs b)) e
