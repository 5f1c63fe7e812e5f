-- The pair: the blocks of a first disk and then those of a second, no more than a disk may have.
use Rattle.std.specs.Prelude.{◌≡◌, ℕ, ◌+◌, ◌-◌, ◌%◌, ◌^◌, cond, List, ◌++◌, length, take, Some, Ok, Err, Result, nat_lt, slice_set}
use Rattle.disk.specs.declared.fault.DiskFault.{DiskFault}
use Rattle.disk.specs.declared.pair.Pair.{Pair}
use Rattle.disk.specs.declared.pair.Side.{Side}
use Rattle.disk.specs.declared.pair.Side.TheVariants.{First, Second}
use Rattle.disk.specs.Tests.{unless}
use Rattle.disk.specs.Meaning.{Blocks, most_blocks, refusal, written, one_more, counted}
use Rattle.disk.specs.Above.{CarriedDown}

unfoldable pub pair_blocks : Blocks → Blocks → Blocks
pair_blocks d e = take most_blocks (d ++ e)

-- the writes of both, round again at 2^64
abbrev pub pair_writes : ℕ → ℕ → ℕ
pair_writes m n = (m + n) % 2 ^ 64

-- the blocks of a pair, where `first` and `second` tell those of the two disks
abbrev pub pair_shown : {F S : Type 0} → (F → Blocks) → (S → Blocks) → Pair F S → Blocks
pair_shown first second p = pair_blocks (first p.first) (second p.second)

-- one side of the pair after a write to block b with a buffer of n bytes, granted or refused: a granted one makes `old` into `new` where
-- block b lies on that side, and the other side is as it was
abbrev pub on_first : {X : Type 0} → Blocks → Blocks → ℕ → ℕ → X → X → X
on_first d e b n new old = cond (nat_lt b (length d)) (unless (refusal (pair_blocks d e) b n) new old) old

abbrev pub on_second : {X : Type 0} → Blocks → Blocks → ℕ → ℕ → X → X → X
on_second d e b n new old = cond (nat_lt b (length d)) old (unless (refusal (pair_blocks d e) b n) new old)

-- the disks d and e, which have granted m and w writes, are d' and e' with m' and w' writes after a write of these bytes to the pair's block b,
-- granted or refused
pub record PairSides (d e : Blocks) (m w b : ℕ) (bs : List ℕ) (d' e' : Blocks) (m' w' : ℕ) : Type 0 where
  pub first : d' ≡ on_first d e b (length bs) (slice_set d b (Some bs)) d
  pub second : e' ≡ on_second d e b (length bs) (slice_set e (b - length d) (Some bs)) e
  pub first_writes : m' ≡ on_first d e b (length bs) (one_more m) m
  pub second_writes : w' ≡ on_second d e b (length bs) (one_more w) w

-- where the pair's block b lies, for a buffer that holds these bytes, or why the pair refuses it
abbrev pub PairFound : Blocks → Blocks → ℕ → ℕ → ℕ → List ℕ → Result Side DiskFault → Type 0
PairFound d e m w b buf (Ok (First a)) = CarriedDown (λ x. pair_blocks x e) (λ x. pair_writes x w) d m a b buf × PairSides d e m w b buf (written d a buf) e (counted d a (length buf) m) w
PairFound d e m w b buf (Ok (Second a)) = CarriedDown (pair_blocks d) (pair_writes m) e w a b buf × PairSides d e m w b buf d (written e a buf) m (counted e a (length buf) w)
PairFound d e m w b buf (Err f) = refusal (pair_blocks d e) b (length buf) ≡ Some f
