-- More examples by computing: each refusal on both sides of its line, which of two comes first, and how rounds go. A number that begins a comment
-- is that of the refusal shown.
use Rattle.std.specs.Prelude.{◌≡◌, ℕ, ◌+◌, ◌-◌, ◌^◌, List, [], ◌∷◌, ◌++◌, map, take, replicate, Some, None, Ok, Err, slice_set}
use Rattle.disk.specs.Meaning.{Blocks, block, bytes_or}
use Rattle.card.specs.Layout.{start_on}
use Rattle.model.specs.declared.Fault.TheVariants.{Shut}
use Rattle.model.specs.Outcomes.{Outcome}
use Rattle.model.specs.Log.{zeros}
use Rattle.model.specs.Journal.{View, shut, format, opening}
use Rattle.model.specs.Calls.{Call, begins, reads, overwrites, commits, gives_up, flushes, logs, installs, buffer_of, outcome}
use Rattle.worked.specs.Runs.{blank, laid_out, fresh, ready, piece, after, Reply, reply, replies, writes, buffers, change, found}
use Rattle.worked.specs.Examples.{bytes_of}

-- ## Cards with faults

abbrev pub killed : ℕ → Blocks → Blocks
killed b d = slice_set d b None

-- block b is zero but for this byte at place i
abbrev pub poked : ℕ → ℕ → ℕ → Blocks → Blocks
poked b i byte d = slice_set d b (Some (slice_set zeros i byte))

abbrev pub formats : List Blocks → List Reply
formats ds = map (λ d. reply (format shut d).answer) ds

abbrev pub opens : List Blocks → List Reply
opens ds = map (λ d. reply (opening shut d).answer) ds

-- 66 blocks with start 0 and two live positions, in blocks 2 and 3, of these homes
abbrev pub two_homes : ℕ → ℕ → Blocks
two_homes h k = laid_out 0 2 (h ∷ k ∷ replicate 60 0) 64

-- a blank card of 70 blocks with block 66 dead, opened
abbrev pub maimed : Outcome View
maimed = record { answer = Ok 0; wrote = []; buffer = []; state = Some fresh; disk = killed 66 (blank 70) }

abbrev pub told : Outcome View → Reply × List ℕ
told o = (reply o.answer, o.buffer)

-- operation 0 reads a byte of block b, or a bit
abbrev pub read_byte : ℕ → ℕ → Call
read_byte b o = reads 0 (piece b o 8) (0 ∷ [])

abbrev pub read_bit : ℕ → ℕ → Call
read_bit b o = reads 0 (piece b o 1) (0 ∷ [])

-- operation 0 holds as many bytes of block 64 as it can
abbrev pub stuffed : List Call
stuffed = begins 0 ∷ map (λ k. reads 0 (piece 64 k 8) (0 ∷ [])) (0 ∷ 8 ∷ 16 ∷ 24 ∷ 32 ∷ 40 ∷ 48 ∷ 56 ∷ [])

-- ## Runs

-- three updates, of which the first and the last have one home, all on the card
abbrev pub logged : List Call
logged = change 64 5 (change 65 6 (flushes ∷ change 64 7 (replicate 5 logs)))

-- the disk after n installer steps
abbrev pub installed_by : ℕ → Blocks
installed_by n = (after (logged ++ replicate n installs) ready).disk

pub record MoreExamples : Type 0 where
  -- ## Cards

  -- 5: whatever the card, an open journal is neither formatted nor opened
  pub opened_twice : map (λ d. reply (format (Some fresh) d).answer ∷ reply (opening (Some fresh) d).answer ∷ []) ([] ∷ blank 70 ∷ []) ≡
      replicate 2 (replicate 2 (Err (5, 0)))
  -- 6 and 7: 65 blocks are enough; of the first 64 none may be dead; a small card is refused for that, and of two dead blocks the first is named
  pub formatting : formats (blank 64 ∷ blank 65 ∷ replicate 64 None ∷ killed 63 (blank 65) ∷ killed 64 (blank 65) ∷ killed 5 (killed 3 (blank 65)) ∷ []) ≡
      (Err (6, 0) ∷ Ok 0 ∷ Err (6, 0) ∷ Err (7, 63) ∷ Ok 0 ∷ Err (7, 3) ∷ [])
  pub openings : opens (blank 64 ∷ blank 65 ∷ replicate 64 None ∷ killed 63 (blank 65) ∷ killed 64 (blank 65) ∷ killed 5 (killed 3 (blank 65)) ∷ []) ≡
      (Err (6, 0) ∷ Ok 0 ∷ Err (6, 0) ∷ Err (7, 63) ∷ Ok 0 ∷ Err (7, 3) ∷ [])
  -- 8: byte 255 of block 0 belongs to a home number, byte 256 must be zero; byte 7 of block 1 belongs to start, byte 8 must be zero
  pub reserved : opens (poked 0 255 1 (blank 66) ∷ poked 0 256 1 (blank 66) ∷ poked 0 511 1 (blank 66)
      ∷ poked 1 7 1 (blank 66) ∷ poked 1 8 1 (blank 66) ∷ poked 1 511 1 (blank 66)
      ∷ killed 2 (poked 0 256 1 (blank 66)) ∷ poked 1 8 1 (poked 0 256 1 (blank 66)) ∷ poked 1 8 1 (laid_out 0 63 (replicate 62 64) 64) ∷ []) ≡
      (Ok 0 ∷ Err (8, 0) ∷ Err (8, 0) ∷ Err (9, 0) ∷ Err (8, 1) ∷ Err (8, 1) ∷ Err (7, 2) ∷ Err (8, 0) ∷ Err (8, 1) ∷ [])
  -- format takes such a card, and clears both blocks
  pub cleared : map (block (format shut (poked 1 8 1 (poked 0 256 1 (blank 66)))).disk) (0 ∷ 1 ∷ []) ≡ (Some zeros ∷ Some zeros ∷ [])
  -- 9: end is not below start, not more than 62 above it, and not above the highest position; this comes before the homes
  pub ends : opens (laid_out 10 10 (replicate 62 64) 64 ∷ laid_out 10 9 (replicate 62 64) 64 ∷ laid_out (2 ^ 63) (2 ^ 63 + 1) (replicate 62 64) 64
      ∷ laid_out (2 ^ 63 - 1) (2 ^ 63) (replicate 62 64) 64 ∷ laid_out 0 63 (replicate 62 0) 64 ∷ []) ≡
      (Ok 10 ∷ Err (9, 0) ∷ Err (9, 0) ∷ Ok (2 ^ 63) ∷ Err (9, 0) ∷ [])
  -- 10: homes are 64 and 65; the log block of the first live position with another is named
  pub homes : opens (two_homes 64 65 ∷ two_homes 65 63 ∷ two_homes 65 66 ∷ two_homes 66 0 ∷ laid_out 61 63 (63 ∷ replicate 61 64) 64 ∷ []) ≡
      (Ok 2 ∷ Err (10, 3) ∷ Err (10, 3) ∷ Err (10, 2) ∷ Err (10, 2) ∷ [])
  -- 11: a live position's home is not dead; every home is first looked at for 10
  pub dead_homes : opens (killed 65 (two_homes 64 64) ∷ killed 65 (two_homes 64 65) ∷ killed 65 (two_homes 65 66) ∷ killed 65 (killed 64 (two_homes 65 64)) ∷ []) ≡
      (Ok 2 ∷ Err (11, 65) ∷ Err (10, 3) ∷ Err (11, 65) ∷ [])
  -- ## Calls

  -- 4: a shut journal refuses every call, and changes nothing, the buffer neither
  pub shut_always : (c : Call) (d : Blocks) → outcome c shut d ≡ record { answer = Err Shut; wrote = []; buffer = buffer_of c; state = shut; disk = d }
  pub shut_calls : (d : Blocks) → map (λ c. told (outcome c shut d))
      (begins 0 ∷ reads 0 (piece 64 0 8) (9 ∷ []) ∷ overwrites 0 (piece 64 0 2) (8 ∷ []) ∷ commits 0 ∷ gives_up 0 ∷ flushes ∷ logs ∷ installs ∷ []) ≡
      ((Err (4, 0), []) ∷ (Err (4, 0), 9 ∷ []) ∷ (Err (4, 0), 8 ∷ []) ∷ replicate 5 (Err (4, 0), []))
  -- 12 and 13: numbers 0 to 3, each open once; a call by a number that is not open is refused for that first
  pub numbers : replies (begins 4 ∷ begins 0 ∷ begins 3 ∷ begins 3 ∷ gives_up 3 ∷ gives_up 3 ∷ commits 3 ∷ reads 3 (piece 1 1 2) []
      ∷ overwrites 4 (piece 64 0 1) (2 ∷ []) ∷ begins 3 ∷ commits 3 ∷ commits 3 ∷ commits 0 ∷ []) ready ≡
      (Err (12, 0) ∷ Ok 0 ∷ Ok 3 ∷ Err (12, 0) ∷ Ok 0 ∷ Err (13, 0) ∷ Err (13, 0) ∷ Err (13, 0) ∷ Err (13, 0)
      ∷ Ok 3 ∷ Ok 0 ∷ Err (13, 0) ∷ Ok 0 ∷ [])
  -- 14 and 15: the size comes before the block and the offset, and these before the buffer
  pub places : replies (begins 0 ∷ reads 0 (piece 63 0 4) [] ∷ reads 0 (piece 64 1 12) [] ∷ reads 0 (piece 64 16 16) (0 ∷ 0 ∷ [])
      ∷ read_byte 63 0 ∷ read_byte 69 0 ∷ read_byte 70 0 ∷ read_byte 64 4088 ∷ read_byte 64 4096 ∷ read_byte 64 4
      ∷ read_bit 65 4095 ∷ read_bit 65 4096 ∷ reads 0 (piece 64 4 8) [] ∷ []) ready ≡
      (Ok 0 ∷ Err (14, 63) ∷ Err (14, 64) ∷ Ok 2
      ∷ Err (15, 63) ∷ Ok 1 ∷ Err (15, 70) ∷ Ok 1 ∷ Err (15, 64) ∷ Err (15, 64) ∷ Ok 1 ∷ Err (15, 65) ∷ Err (15, 64) ∷ [])
  -- 16 and 17: the buffer's length comes before what a bit is to be, and that before an overlap
  pub values : replies (begins 0 ∷ reads 0 (piece 64 0 8) [] ∷ reads 0 (piece 64 0 8) (0 ∷ 0 ∷ []) ∷ reads 0 (piece 64 0 1) []
      ∷ overwrites 0 (piece 64 0 8) (255 ∷ []) ∷ overwrites 0 (piece 65 0 1) (2 ∷ 0 ∷ []) ∷ overwrites 0 (piece 65 0 1) (2 ∷ []) ∷ overwrites 0 (piece 65 0 1) (1 ∷ [])
      ∷ overwrites 0 (piece 64 0 1) (2 ∷ []) ∷ reads 0 (piece 65 1 1) (9 ∷ []) ∷ []) ready ≡
      (Ok 0 ∷ Err (16, 64) ∷ Err (16, 64) ∷ Err (16, 64) ∷ Ok 1 ∷ Err (16, 65) ∷ Err (17, 65) ∷ Ok 1 ∷ Err (17, 64) ∷ Ok 1 ∷ [])
  -- 18: a held byte, and objects of another size in and beside it
  pub overlaps : replies (begins 0 ∷ read_byte 64 8 ∷ read_bit 64 8 ∷ read_bit 64 15 ∷ read_bit 64 7 ∷ read_bit 64 16 ∷ read_bit 65 8 ∷ read_byte 64 8 ∷ read_byte 64 16
      ∷ reads 0 (piece 64 0 16) (0 ∷ 0 ∷ []) ∷ reads 0 (piece 64 32 16) (0 ∷ 0 ∷ []) ∷ []) ready ≡
      (Ok 0 ∷ Ok 1 ∷ Err (18, 64) ∷ Err (18, 64) ∷ Ok 1 ∷ Ok 1 ∷ Ok 1 ∷ Ok 1 ∷ Err (18, 64) ∷ Err (18, 64) ∷ Ok 2 ∷ [])
  -- 19 and 20: a ninth object is refused, a held one is not; an overlap comes before a full table, and that before a dead block
  pub tables : replies (stuffed ++ read_byte 64 64 ∷ read_byte 64 56 ∷ read_bit 64 3 ∷ read_byte 66 0
      ∷ overwrites 0 (piece 66 0 1) (2 ∷ []) ∷ overwrites 0 (piece 64 0 8) (1 ∷ []) ∷ []) maimed ≡
      (Ok 0 ∷ (replicate 8 (Ok 1) ++ Err (19, 64) ∷ Ok 1 ∷ Err (18, 64) ∷ Err (19, 66) ∷ Err (17, 66) ∷ Ok 1 ∷ []))
  pub dead_blocks : replies (begins 0 ∷ read_byte 65 0 ∷ read_byte 66 0 ∷ overwrites 0 (piece 66 0 8) (1 ∷ []) ∷ reads 0 (piece 66 0 8) [] ∷ read_byte 67 0 ∷ []) maimed ≡
      (Ok 0 ∷ Ok 1 ∷ Err (20, 66) ∷ Err (20, 66) ∷ Err (16, 66) ∷ Ok 1 ∷ [])
  pub maimed_opened : opening shut (killed 66 (blank 70)) ≡ maimed
  -- 21 and 22: with 55 updates below the highest position, 8 more are too many for both reasons and 1 for one; the position below takes one
  pub too_many : replies (bytes_of 0 8 ++ commits 0 ∷ (bytes_of 1 1 ++ commits 1 ∷ [])) (opening shut (laid_out (2 ^ 63 - 55) (2 ^ 63) (replicate 62 64) 78)) ≡
      (Ok 0 ∷ (replicate 8 (Ok 1) ++ Err (21, 0) ∷ Ok 1 ∷ Ok 1 ∷ Err (22, 0) ∷ []))
  pub last_one : replies (change 64 1 (change 65 1 [])) (opening shut (laid_out (2 ^ 63 - 1) (2 ^ 63 - 1) (replicate 62 64) 64)) ≡
      (Ok 0 ∷ Ok 1 ∷ Ok (2 ^ 63) ∷ Ok 0 ∷ Ok 1 ∷ Err (22, 0) ∷ [])
  -- ## What operations see

  -- a granted read fills the buffer, a refused one leaves it
  pub buffered : buffers (begins 0 ∷ reads 0 (piece 64 0 16) (9 ∷ 9 ∷ []) ∷ reads 0 (piece 64 0 2) (9 ∷ []) ∷ []) ready ≡ ([] ∷ (0 ∷ 0 ∷ []) ∷ (9 ∷ []) ∷ [])
  -- an operation sees its own changes, the others' once they are committed, and what it has read stays
  pub isolated : buffers (begins 0 ∷ begins 1 ∷ overwrites 0 (piece 64 0 8) (5 ∷ []) ∷ read_byte 64 0 ∷ reads 1 (piece 64 0 8) (9 ∷ []) ∷ commits 0
      ∷ reads 1 (piece 64 0 8) (9 ∷ []) ∷ begins 2 ∷ reads 2 (piece 64 0 8) (9 ∷ []) ∷ []) ready ≡
      ([] ∷ [] ∷ (5 ∷ []) ∷ (5 ∷ []) ∷ (0 ∷ []) ∷ [] ∷ (0 ∷ []) ∷ [] ∷ (5 ∷ []) ∷ [])
  -- two operations change two bits of one byte, and neither change is lost; what a third gives up is
  pub joined_bits : buffers (begins 0 ∷ begins 1 ∷ begins 2 ∷ overwrites 0 (piece 64 0 1) (1 ∷ []) ∷ overwrites 1 (piece 64 1 1) (1 ∷ [])
      ∷ overwrites 2 (piece 64 2 1) (1 ∷ []) ∷ commits 1 ∷ commits 0 ∷ gives_up 2 ∷ begins 3 ∷ reads 3 (piece 64 0 8) (9 ∷ []) ∷ []) ready ≡
      ([] ∷ [] ∷ [] ∷ (1 ∷ []) ∷ (1 ∷ []) ∷ (1 ∷ []) ∷ [] ∷ [] ∷ [] ∷ [] ∷ (3 ∷ []) ∷ [])
  -- ## Rounds

  -- with nothing to do a step writes nothing
  pub idle : writes (logs ∷ installs ∷ flushes ∷ []) ready ≡ ((Ok 0, []) ∷ (Ok 0, []) ∷ (Ok 0, []) ∷ [])
  -- a second commit of a block takes no position, unless the first is frozen by a flush or by a round
  pub absorbs : replies (change 64 1 (change 64 2 (flushes ∷ change 64 3 (logs ∷ logs ∷ logs ∷ change 64 4 (change 64 5 []))))) ready ≡
      (Ok 0 ∷ Ok 1 ∷ Ok 1 ∷ Ok 0 ∷ Ok 1 ∷ Ok 1 ∷ Ok 1 ∷ Ok 0 ∷ Ok 1 ∷ Ok 2 ∷ Ok 0 ∷ Ok 1 ∷ Ok 1 ∷ Ok 0 ∷ Ok 1 ∷ Ok 3 ∷ Ok 0 ∷ Ok 1 ∷ Ok 3 ∷ [])
  -- updates are installed in order, and a home that comes twice is written twice
  pub twice : writes (replicate 5 installs) (after logged ready) ≡ ((Ok 0, 64 ∷ []) ∷ (Ok 0, 65 ∷ []) ∷ (Ok 0, 64 ∷ []) ∷ (Ok 3, 1 ∷ []) ∷ (Ok 3, []) ∷ [])
  pub twice_home : map (λ n. take 1 (bytes_or (block (installed_by n) 64) [])) (0 ∷ 1 ∷ 2 ∷ 3 ∷ []) ≡ ((0 ∷ []) ∷ (5 ∷ []) ∷ (5 ∷ []) ∷ (7 ∷ []) ∷ [])
  -- wherever a cut falls among these steps, all three commits are found
  pub cut_installs : map (λ n. found (installed_by n)) (0 ∷ 1 ∷ 2 ∷ 3 ∷ 4 ∷ []) ≡
      replicate 5 (Ok 3, Some (7 ∷ replicate 511 0) ∷ Some (6 ∷ replicate 511 0) ∷ [])
  pub cut_starts : map (λ n. start_on (installed_by n)) (3 ∷ 4 ∷ []) ≡ (0 ∷ 3 ∷ [])
  -- a round goes up to the target that it had at its start: what comes onto the card meanwhile is for the next
  pub installed : writes (change 64 5 (change 65 6 (logs ∷ logs ∷ logs ∷ installs ∷ change 64 7 (logs ∷ logs ∷ replicate 5 installs)))) ready ≡
      ((Ok 0, []) ∷ (Ok 1, []) ∷ (Ok 1, []) ∷ (Ok 0, []) ∷ (Ok 1, []) ∷ (Ok 2, [])
      ∷ (Ok 0, 2 ∷ []) ∷ (Ok 0, 3 ∷ []) ∷ (Ok 2, 0 ∷ []) ∷ (Ok 0, 64 ∷ [])
      ∷ (Ok 0, []) ∷ (Ok 1, []) ∷ (Ok 3, []) ∷ (Ok 2, 4 ∷ []) ∷ (Ok 3, 0 ∷ [])
      ∷ (Ok 0, 65 ∷ []) ∷ (Ok 2, 1 ∷ []) ∷ (Ok 2, 64 ∷ []) ∷ (Ok 3, 1 ∷ []) ∷ (Ok 3, []) ∷ [])
  -- a flush does not lengthen the round that runs
  pub later : writes (change 64 5 (logs ∷ change 65 6 (flushes ∷ logs ∷ logs ∷ logs ∷ logs ∷ []))) ready ≡
      ((Ok 0, []) ∷ (Ok 1, []) ∷ (Ok 1, []) ∷ (Ok 0, 2 ∷ []) ∷ (Ok 0, []) ∷ (Ok 1, []) ∷ (Ok 2, []) ∷ (Ok 2, [])
      ∷ (Ok 1, 0 ∷ []) ∷ (Ok 1, 3 ∷ []) ∷ (Ok 2, 0 ∷ []) ∷ (Ok 2, []) ∷ [])
  -- the log goes round: position 61 lies in its last block, and position 62 in its first
  pub round : writes (change 64 5 (change 65 6 (logs ∷ logs ∷ logs ∷ installs ∷ installs ∷ installs ∷ []))) (opening shut (laid_out 61 61 (replicate 62 0) 68)) ≡
      ((Ok 0, []) ∷ (Ok 1, []) ∷ (Ok 62, []) ∷ (Ok 0, []) ∷ (Ok 1, []) ∷ (Ok 63, [])
      ∷ (Ok 61, 63 ∷ []) ∷ (Ok 61, 2 ∷ []) ∷ (Ok 63, 0 ∷ []) ∷ (Ok 61, 64 ∷ []) ∷ (Ok 61, 65 ∷ []) ∷ (Ok 63, 1 ∷ []) ∷ [])
