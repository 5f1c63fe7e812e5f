-- Cards, objects and runs for the examples, and what a caller sees of a run.
use Rattle.std.specs.Prelude.{ℕ, List, [], ◌∷◌, replicate, Some, None, Ok, Err, Result}
use Rattle.disk.specs.Meaning.{Block, Blocks}
use Rattle.object.specs.declared.Place.{Place}
use Rattle.card.specs.Layout.{header_block, start_block, area}
use Rattle.model.specs.declared.Fault.{Fault}
use Rattle.model.specs.Faults.{number, place}
use Rattle.model.specs.Outcomes.{Outcome}
use Rattle.model.specs.Log.{zeros}
use Rattle.model.specs.Journal.{Open, View, shut, opened_with, opening}
use Rattle.model.specs.Calls.{Call, begins, overwrites, commits, outcome}

-- ## Cards

-- n blocks of zeros
abbrev pub blank : ℕ → Blocks
blank n = replicate n (Some zeros)

-- a card of n + 2 blocks with this start and end, and the home of each slot from slot 0 on
abbrev pub laid_out : ℕ → ℕ → List ℕ → ℕ → Blocks
laid_out start end homes n = Some (header_block (record { end = end; homes = homes })) ∷ Some (start_block start) ∷ blank n

-- the journal that an opening makes on a blank card
abbrev pub fresh : Open
fresh = opened_with (record { start = 0; end = 0; frozen = 0; updates = []; homes = replicate 62 0; logging = None; installing = None })

-- and where examples start from: that journal on 70 blocks
abbrev pub ready : Outcome View
ready = record { answer = Ok 0; wrote = []; buffer = []; state = Some fresh; disk = blank 70 }

-- ## Runs

-- block, offset and size, in bits
abbrev pub piece : ℕ → ℕ → ℕ → Place
piece b o s = record { block = b; offset = o; size = s }

-- the outcome of the last of these calls
abbrev pub after : List Call → Outcome View → Outcome View
after [] o = o
after (c ∷ cs) o = after cs (outcome c o.state o.disk)

-- an answer, or the number of a refusal and the block that it is about
abbrev pub Reply : Type 0
Reply = Result ℕ (ℕ × ℕ)

abbrev pub reply : Result ℕ Fault → Reply
reply (Ok n) = Ok n
reply (Err f) = Err (number f, place f)

-- what the calls answer in order
abbrev pub replies : List Call → Outcome View → List Reply
replies [] o = []
replies (c ∷ cs) o = let p = outcome c o.state o.disk in reply p.answer ∷ replies cs p

-- with the blocks that each writes
abbrev pub writes : List Call → Outcome View → List (Reply × List ℕ)
writes [] o = []
writes (c ∷ cs) o = let p = outcome c o.state o.disk in (reply p.answer, p.wrote) ∷ writes cs p

-- and the caller's buffer after each
abbrev pub buffers : List Call → Outcome View → List (List ℕ)
buffers [] o = []
buffers (c ∷ cs) o = let p = outcome c o.state o.disk in p.buffer ∷ buffers cs p

-- a commit that makes the first byte of block b this, and then these calls
abbrev pub change : ℕ → ℕ → List Call → List Call
change b byte cs = begins 0 ∷ overwrites 0 (piece b 0 8) (byte ∷ []) ∷ commits 0 ∷ cs

-- what an opening answers on a card, and what the card shows of blocks 64 and 65
abbrev pub found : Blocks → Reply × List Block
found d = (reply (opening shut d).answer, area d 64 ∷ area d 65 ∷ [])
