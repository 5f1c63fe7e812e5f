-- The marked card: a cell is the 512 bytes of a block and then a mark; where the mark is not 255 the block is dead.
use Rattle.std.specs.Prelude.{ℕ, cond, List, take, Some, None, ◌==◌, slice_index}
use Rattle.std.proofs.Common.{◌≡◌, ◌++◌, Bool, true, false, eqb, length, get_or, drop, refl, ap, ◌∙◌, arith}
use Rattle.std.proofs.lemmas.List.{take_at, get_or-drop, get_or-append_right}
use Rattle.std.proofs.lemmas.Bool.{cond-true}
use Rattle.disk.specs.Meaning.{Block, Blocks, block_size, is_live}
use Rattle.disk.specs.Runs.{cell_blocks, cell_written, Laid}

abbrev pub marked_size : ℕ
marked_size = 513

abbrev pub live_mark : ℕ
live_mark = 255

abbrev pub marked_block : List ℕ → Block
marked_block c = cond (slice_index c block_size == live_mark) (Some (take block_size c)) None

abbrev pub marked_blocks : List ℕ → Blocks
marked_blocks = cell_blocks marked_size marked_block

abbrev pub marked_written : List ℕ → ℕ → List ℕ → List ℕ
marked_written = cell_written marked_size marked_block

-- a marked cell that shows bytes has the mark
mark_of : (t : Bool) (bs : List ℕ) → is_live (cond t (Some bs) None) ≡ true → t ≡ true
mark_of true bs e = refl
mark_of false bs e = e

pub marked_laid : Laid marked_size marked_block
marked_laid = record {
  room = omega arith;
  shows = λ c l e. cond-true _ _ _ (mark_of _ (take 512 c) e);
  stays = λ c new l m e.
      let k : get_or (new ++ drop (length new) c) 512 0 ≡ get_or c 512 0 = get_or-append_right new (drop (length new) c) 512 512 0 m (omega arith) ∙ get_or-drop (length new) c 0 0 ∙ ap (λ (i : ℕ). get_or c i 0) (omega arith) in
      cond-true _ _ _ (ap (λ x. eqb x 255) k ∙ mark_of _ (take 512 c) e) ∙ ap Some (take_at new (drop (length new) c) 512 m);
}
