-- Numbers as bytes, lowest byte first.
use Rattle.std.specs.Prelude.{ℕ, zero, suc, ◌+◌, ◌*◌, ◌/◌, ◌%◌, Bool, true, false, cond, List, [], ◌∷◌, take, drop, ◌==◌}

-- a number from its bytes. No law says that a byte is below 256, which code knows of each that it reads: the remainder makes
-- decoding total, so that k bytes always give a number below 256 ^ k
abbrev pub from_bytes : List ℕ → ℕ
from_bytes [] = 0
from_bytes (b ∷ bs) = b % 256 + 256 * from_bytes bs

-- the k lowest bytes of a number
abbrev pub to_bytes : ℕ → ℕ → List ℕ
to_bytes zero n = []
to_bytes (suc k) n = (n % 256) ∷ to_bytes k (n / 256)

-- the number in the k bytes from byte `at` on
abbrev pub field : ℕ → ℕ → List ℕ → ℕ
field at k bs = from_bytes (take k (drop at bs))

-- every byte is zero
abbrev pub all_zero : List ℕ → Bool
all_zero [] = true
all_zero (b ∷ bs) = cond (b == 0) (all_zero bs) false
