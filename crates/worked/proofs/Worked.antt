-- The worked examples, by computing.
use Rattle.std.proofs.Common.{refl}
use lib.Count
use Rattle.model.specs.Log.{card_tests}
use Rattle.worked.specs.Examples.{WorkedExamples}

pub worked_examples : WorkedExamples
unfolding lib.Count.ones card_tests
worked_examples = record {
  made = refl;
  opened = refl;
  log_blocks = refl;
  allowed_sizes = refl;
  sizes = refl;
  offsets = refl;
  position_refusals = refl;
  positions = refl;
  three = refl;
  cut_two = refl;
  cut_three = refl;
  cut_five = refl;
  seen_two = refl;
  seen_three = refl;
  header = refl;
  full = refl;
  highest_end = refl;
}
