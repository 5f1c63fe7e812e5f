use Rattle.object.proofs.Tables.{same_place, held_now, held_still, held_in_order, held_count, held_found}
use Rattle.object.proofs.Faults.{faults_in_order, faults_name_blocks, faults_causes}
use Rattle.object.proofs.Sizes.{sizes_allowed}
use Rattle.object.proofs.Objects.{laid_whole, part_value, bits_laid, bits_kept, bits_taken, part_of_laid, laid_again}
use Rattle.object.proofs.Apart.{others_kept, apart, overlap_shares}
use Rattle.object.proofs.Clashes.{no_clash, clash, dirty_only}
use Rattle.object.proofs.laws.hold.Goals as goal

pub returns : goal.returns
returns c = record {
  sizes = sizes_allowed;
  bits = record { whole = laid_whole; value = part_value; own = bits_laid; rest = bits_kept; taken = bits_taken };
  kept = record { got = part_of_laid; again = laid_again; others = others_kept; apart = apart; shares = overlap_shares };
  tables = record { same = same_place; now = held_now; still = held_still; order = held_in_order; count = held_count; found = held_found; free = no_clash; clash = clash; dirty = dirty_only };
  faults = record { order = faults_in_order; blocks = faults_name_blocks; causes = faults_causes };
}
