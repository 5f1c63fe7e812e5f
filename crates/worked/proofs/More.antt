-- The further examples, by computing.
use Rattle.std.proofs.Common.{refl}
use lib.Count
use Rattle.model.specs.Log.{card_tests}
use Rattle.worked.specs.More.{MoreExamples}

pub more_examples : MoreExamples
unfolding lib.Count.ones card_tests
more_examples = record {
  opened_twice = refl;
  formatting = refl;
  openings = refl;
  reserved = refl;
  cleared = refl;
  ends = refl;
  homes = refl;
  dead_homes = refl;
  shut_always = λ c d. refl;
  shut_calls = λ d. refl;
  numbers = refl;
  places = refl;
  values = refl;
  overlaps = refl;
  tables = refl;
  dead_blocks = refl;
  maimed_opened = refl;
  too_many = refl;
  last_one = refl;
  buffered = refl;
  isolated = refl;
  joined_bits = refl;
  idle = refl;
  absorbs = refl;
  twice = refl;
  twice_home = refl;
  cut_installs = refl;
  cut_starts = refl;
  installed = refl;
  later = refl;
  round = refl;
}
