-- The plain card: a cell is the 512 bytes of a block; no block is dead.
use Rattle.std.specs.Prelude.{ℕ, List, Some}
use Rattle.std.proofs.Common.{◌++◌, length, sym, ap, ◌∙◌, arith}
use Rattle.std.proofs.lemmas.List.{append-nil, drop_all, take_all}
use Rattle.disk.specs.Meaning.{Blocks, block_size}
use Rattle.disk.specs.Runs.{cell_blocks, cell_written, Laid}

abbrev pub plain_blocks : List ℕ → Blocks
plain_blocks = cell_blocks block_size Some

abbrev pub plain_written : List ℕ → ℕ → List ℕ → List ℕ
plain_written = cell_written block_size Some

pub plain_laid : Laid block_size Some
plain_laid = record {
  room = omega arith;
  shows = λ c l e. ap Some (sym (take_all 512 c (omega arith)));
  stays = λ c new l m e. ap Some (ap (λ x. new ++ x) (drop_all (length new) c (omega arith)) ∙ append-nil new);
}
