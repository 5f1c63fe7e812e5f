-- Worked examples, each an equation that computing decides. Unless they say otherwise they run on a blank card of 70 blocks, just formatted and opened.
use Rattle.std.specs.Prelude.{◌≡◌, ℕ, ◌^◌, true, false, List, [], ◌∷◌, ◌++◌, map, replicate, Some, None, Ok, Err}
use Rattle.std.specs.List.{range_with_len}
use Rattle.disk.specs.Tests.{first_of}
use Rattle.disk.specs.Meaning.{Blocks, block}
use Rattle.object.specs.Objects.{allowed}
use Rattle.card.specs.Layout.{log_block}
use Rattle.model.specs.declared.LogFault.TheVariants.{Positions}
use Rattle.model.specs.Outcomes.{Outcome}
use Rattle.model.specs.Log.{position_tests, zeros}
use Rattle.model.specs.Journal.{View, shut, format, opening}
use Rattle.model.specs.Calls.{Call, begins, reads, overwrites, commits, flushes, logs}
use Rattle.worked.specs.Runs.{blank, laid_out, ready, piece, after, reply, replies, writes, buffers, found}

-- ## A run of three operations

-- the first overwrites 256 bits of block 64 and one bit of block 65, the second the next 256 bits of block 64
abbrev pub opener : List Call
opener = begins 0 ∷ overwrites 0 (piece 64 0 256) (replicate 32 1) ∷ overwrites 0 (piece 65 9 1) (1 ∷ []) ∷ commits 0
    ∷ begins 1 ∷ overwrites 1 (piece 64 256 256) (replicate 32 2) ∷ commits 1 ∷ flushes ∷ []

-- after the flush, the third overwrites the next byte of block 64; so its commit takes a position of its own
abbrev pub closer : List Call
closer = begins 2 ∷ overwrites 2 (piece 64 512 8) (7 ∷ []) ∷ commits 2 ∷ []

-- the disk as it stands after n logger steps
abbrev pub cut_after : ℕ → Blocks
cut_after n = (after (opener ++ (closer ++ replicate n logs)) ready).disk

-- what a new journal on it reads: 512 bits and the byte after them of block 64, and bit 9 of block 65
abbrev pub seen_after : ℕ → List (List ℕ)
seen_after n = buffers (begins 0 ∷ reads 0 (piece 64 0 512) (replicate 64 9) ∷ reads 0 (piece 64 512 8) (9 ∷ []) ∷ reads 0 (piece 65 9 1) (9 ∷ []) ∷ [])
    (opening shut (cut_after n))

-- ## Nearly full

-- a card of 80 blocks with 55 updates, opened
abbrev pub nearly_full : Outcome View
nearly_full = opening shut (laid_out 0 55 (replicate 62 64) 78)

-- operation n with a byte of each of k blocks from 65 on
abbrev pub bytes_of : ℕ → ℕ → List Call
bytes_of n k = begins n ∷ map (λ b. overwrites n (piece b 0 8) (1 ∷ [])) (range_with_len 65 k)

-- a card whose start and end are the highest position, opened
abbrev pub exhausted : Outcome View
exhausted = opening shut (laid_out (2 ^ 63) (2 ^ 63) (replicate 62 64) 64)

pub record WorkedExamples : Type 0 where
  -- format and opening, on a blank card: so the runs below start where these two end
  pub made : format shut (blank 70) ≡ record { answer = Ok 0; wrote = 0 ∷ 1 ∷ []; buffer = []; state = None; disk = blank 70 }
  pub opened : opening shut (blank 70) ≡ ready
  -- where positions lie
  pub log_blocks : map log_block (0 ∷ 61 ∷ 62 ∷ 123 ∷ []) ≡ (2 ∷ 63 ∷ 2 ∷ 63 ∷ [])
  -- which sizes are allowed
  pub allowed_sizes : map allowed (1 ∷ 8 ∷ 4096 ∷ 0 ∷ 2 ∷ 8192 ∷ []) ≡ (true ∷ true ∷ true ∷ false ∷ false ∷ false ∷ [])
  pub sizes : replies (begins 0 ∷ reads 0 (piece 64 0 1) (0 ∷ []) ∷ reads 0 (piece 65 0 8) (0 ∷ []) ∷ reads 0 (piece 66 0 4096) zeros
      ∷ reads 0 (piece 67 0 0) [] ∷ reads 0 (piece 67 0 2) (0 ∷ []) ∷ reads 0 (piece 67 0 8192) (replicate 1024 0) ∷ []) ready ≡
      (Ok 0 ∷ Ok 1 ∷ Ok 1 ∷ Ok 512 ∷ Err (14, 67) ∷ Err (14, 67) ∷ Err (14, 67) ∷ [])
  -- and at which offsets
  pub offsets : replies (begins 0 ∷ map (λ o. reads 0 (piece 64 o 1024) (replicate 128 0)) (1024 ∷ 512 ∷ 4096 ∷ [])) ready ≡
      (Ok 0 ∷ Ok 128 ∷ Err (15, 64) ∷ Err (15, 64) ∷ [])
  -- how far end may be from start
  pub position_refusals : map (λ e. first_of (position_tests 10 e)) (72 ∷ 73 ∷ []) ≡ (None ∷ Some Positions ∷ [])
  pub positions : map (λ e. reply (opening shut (laid_out 10 e (replicate 62 64) 64)).answer) (72 ∷ 73 ∷ []) ≡ (Ok 72 ∷ Err (9, 0) ∷ [])
  -- the three operations, and five logger steps
  pub three : writes (opener ++ (closer ++ replicate 5 logs)) ready ≡
      ((Ok 0, []) ∷ (Ok 32, []) ∷ (Ok 1, []) ∷ (Ok 2, [])
      ∷ (Ok 1, []) ∷ (Ok 32, []) ∷ (Ok 2, []) ∷ (Ok 2, [])
      ∷ (Ok 2, []) ∷ (Ok 1, []) ∷ (Ok 3, [])
      ∷ (Ok 0, 2 ∷ []) ∷ (Ok 0, 3 ∷ []) ∷ (Ok 2, 0 ∷ []) ∷ (Ok 2, 4 ∷ []) ∷ (Ok 3, 0 ∷ []) ∷ [])
  -- a cut among those steps leaves none of the commits, the first two, or all three
  pub cut_two : found (cut_after 2) ≡ (Ok 0, Some zeros ∷ Some zeros ∷ [])
  pub cut_three : found (cut_after 3) ≡ (Ok 2, Some (replicate 32 1 ++ (replicate 32 2 ++ replicate 448 0)) ∷ Some (0 ∷ 2 ∷ replicate 510 0) ∷ [])
  pub cut_five : found (cut_after 5) ≡ (Ok 3, Some (replicate 32 1 ++ (replicate 32 2 ++ 7 ∷ replicate 447 0)) ∷ Some (0 ∷ 2 ∷ replicate 510 0) ∷ [])
  pub seen_two : seen_after 2 ≡ ([] ∷ replicate 64 0 ∷ (0 ∷ []) ∷ (0 ∷ []) ∷ [])
  pub seen_three : seen_after 3 ≡ ([] ∷ (replicate 32 1 ++ replicate 32 2) ∷ (0 ∷ []) ∷ (1 ∷ []) ∷ [])
  -- block 0 after the third step
  pub header : block (cut_after 3) 0 ≡ Some (2 ∷ 0 ∷ 0 ∷ 0 ∷ 0 ∷ 0 ∷ 0 ∷ 0 ∷ 64 ∷ 0 ∷ 0 ∷ 0 ∷ 65 ∷ 0 ∷ 0 ∷ 0 ∷ replicate 496 0)
  -- with 55 of 62 slots in use, 8 more updates are too many and 7 are not
  pub full : replies (bytes_of 0 7 ++ (bytes_of 1 8 ++ commits 1 ∷ commits 0 ∷ [])) nearly_full ≡
      (Ok 0 ∷ (replicate 7 (Ok 1) ++ (Ok 1 ∷ (replicate 8 (Ok 1) ++ Err (21, 0) ∷ Ok 62 ∷ []))))
  -- at the highest position an empty commit passes, and one of a block does not
  pub highest_end : replies (begins 0 ∷ commits 0 ∷ (bytes_of 0 1 ++ commits 0 ∷ [])) exhausted ≡
      (Ok 0 ∷ Ok (2 ^ 63) ∷ Ok 0 ∷ Ok 1 ∷ Err (22, 0) ∷ [])
