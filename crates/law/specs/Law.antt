-- The crash law: what holds of every run, cuts at any moment among its events.
use Rattle.std.specs.Prelude.{◌≡◌, ℕ, ◌+◌, ◌-◌, ◌*◌, ◌<◌, ◌≤◌, true, ◌⊎◌, List, [], ◌∷◌, ◌++◌, length, take, IfSome, IfOk, IfErr, Some, None, Ok, Err, Option, Result, MatchOption, MatchResult, ◌≢◌, slice_set}
use Rattle.std.specs.Option.{unwrap_or}
use Rattle.std.specs.List.{AllByRecursion}
use Rattle.disk.specs.Meaning.{Blocks, block, is_live, block_size, Whole}
use Rattle.disk.specs.Tests.{first_of, unless}
use Rattle.object.specs.declared.Place.{Place}
use Rattle.object.specs.Objects.{width}
use Rattle.object.specs.Tables.{Held, most_held, value_in, dirty_ones}
use Rattle.card.specs.Layout.{slots, homes_from, highest, slot, log_block, end_on, start_on, home_on, area}
use Rattle.model.specs.declared.Fault.{Fault}
use Rattle.model.specs.Outcomes.{Outcome}
use Rattle.model.specs.Log.{Log, last}
use Rattle.model.specs.Steps.{newest}
use Rattle.model.specs.Journal.{Open, View, shut, opened_with, most_operations, opening}
use Rattle.model.specs.Calls.{Call, begins, reads, overwrites, commits, gives_up, flushes, logs, installs, buffer_of, outcome}
use Rattle.law.specs.Record.{Commit, Record, plain, lay_all, touched_by, due, noted, up_to, reopened, begun, refusals}

-- ## Events

-- a call; or power fails, between calls or in the one named, and leaves this disk, on which a new journal is opened
pub data Event : Type 0 where
  call : Call → Event
  cut : (broken : Option Call) (left : Blocks) → Event

-- what a cut may leave: of a call, its write happened whole or not at all
abbrev pub Leaves : Option Call → View → Blocks → Blocks → Type 0
Leaves None v d left = left ≡ d
Leaves (Some c) v d left = (left ≡ d) ⊎ (left ≡ (outcome c v d).disk)

abbrev pub Possible : Event → View → Blocks → Type 0
Possible (call c) v d = Unit {0}
Possible (cut broken left) v d = Leaves broken v d left

-- the outcome of the call, or of the opening after the cut
abbrev pub happens : Event → View → Blocks → Outcome View
happens (call c) v d = outcome c v d
happens (cut broken left) v d = opening shut left

abbrev pub recorded : Event → Outcome View → Record → Record
recorded (call c) o r = noted c o.answer r
recorded (cut broken left) o r = reopened (end_on left) r

-- ## How soon

-- two rounds of a full log
abbrev pub bound : ℕ
bound = 2 * (slots + 1)

abbrev pub log_count : Call → ℕ
log_count (begins n) = 0
log_count (reads n o buffer) = 0
log_count (overwrites n o bytes) = 0
log_count (commits n) = 0
log_count (gives_up n) = 0
log_count flushes = 0
log_count logs = 1
log_count installs = 0

abbrev pub install_count : Call → ℕ
install_count (begins n) = 0
install_count (reads n o buffer) = 0
install_count (overwrites n o bytes) = 0
install_count (commits n) = 0
install_count (gives_up n) = 0
install_count flushes = 0
install_count logs = 0
install_count installs = 1

abbrev pub total : (Call → ℕ) → List Call → ℕ
total f [] = 0
total f (c ∷ cs) = f c + total f cs

-- where calls with no cut come to
abbrev pub view_after : List Call → View → Blocks → View
view_after [] v d = v
view_after (c ∷ cs) v d = let o = outcome c v d in view_after cs o.state o.disk

abbrev pub disk_after : List Call → View → Blocks → Blocks
disk_after [] v d = d
disk_after (c ∷ cs) v d = let o = outcome c v d in disk_after cs o.state o.disk

abbrev pub answer_after : List Call → Call → View → Blocks → Result ℕ Fault
answer_after cs c v d = (outcome c (view_after cs v d) (disk_after cs v d)).answer

abbrev pub NoLower : ℕ → Result ℕ Fault → Type 0
NoLower p a = MatchResult a (λ m. p ≤ m) (λ f. ⊥)

-- after a flush that answered p and any calls, the last of `bound` logger steps answers an end no lower than p
abbrev pub SoonDurable : View → Blocks → Type 0
SoonDurable v d = (p : ℕ) (cs : List Call) → (outcome flushes v d).answer ≡ Ok p → bound ≤ total log_count cs + 1 → NoLower p (answer_after (flushes ∷ cs) logs v d)

-- once p is durable, after any calls, the last of `bound` installer steps answers a start no lower than p
abbrev pub SoonFree : View → Blocks → Type 0
SoonFree v d = (p : ℕ) (cs : List Call) → p ≤ end_on d → bound ≤ total install_count cs + 1 → NoLower p (answer_after cs installs v d)

-- ## What holds at every moment

abbrev pub AtMost : ℕ → Option (List Held) → Type 0
AtMost n o = IfSome o (λ hs. length hs ≤ n)

pub record Ordered (j : Open) : Type 0 where
  pub start_end : j.log.start ≤ j.log.end
  pub end_frozen : j.log.end ≤ j.log.frozen
  pub frozen_last : j.log.frozen ≤ last j.log
  pub room : length j.log.updates ≤ slots
  pub top : last j.log ≤ highest
  pub homes : length j.log.homes ≡ slots
  pub numbers : length j.operations ≡ most_operations
  pub tables : AllByRecursion (AtMost most_held) j.operations

-- the part of the log that the card holds, with no round running
abbrev pub durable_part : Log → Log
durable_part l = record { start = l.start; end = l.end; frozen = l.end; updates = take (l.end - l.start) l.updates; homes = l.homes; logging = None; installing = None }

pub record Standing (j : Open) (d : Blocks) (r : Record) : Type 0 where
  -- the newest bytes of every home are the plain area's
  pub shown : (b : ℕ) → homes_from ≤ b → b < length d → newest j.log d b ≡ plain r b
  -- what each operation holds is what the record says was touched
  pub touched : j.operations ≡ r.touched
  -- start and end are the card's, and last is the highest position answered
  pub start : j.log.start ≡ start_on d
  pub end : j.log.end ≡ end_on d
  pub frozen : j.log.frozen ≡ r.settled
  pub reached : last j.log ≡ r.reached
  pub ordered : Ordered j
  -- opening the card as it stands finds exactly what the journal has made durable
  pub recovered : (opening shut d).state ≡ Some (opened_with (durable_part j.log))
  pub durable : SoonDurable (Some j) d
  pub free : SoonFree (Some j) d

abbrev pub Stands : View → Blocks → Record → Type 0
Stands v d r = MatchOption v ⊥ (λ j. Standing j d r)

-- ## What holds of one call

abbrev pub as_told : Option Fault → ℕ → Result ℕ Fault
as_told None m = Ok m
as_told (Some f) m = Err f

-- the call is refused as the record and the disk say, and else answers m
abbrev pub Told : Call → Outcome View → Blocks → Record → ℕ → Type 0
Told c o d r m = o.answer ≡ as_told (first_of (refusals c r d)) m

-- a refused call alters nothing
abbrev pub Unaltered : Call → View → Blocks → Outcome View → Type 0
Unaltered c v d o = IfErr o.answer (λ f. (o.state ≡ v) × (o.disk ≡ d) × (o.buffer ≡ buffer_of c) × (o.wrote ≡ []))

-- what holds if a call wrote no block, and what if it wrote just this one
abbrev pub ByWrote : List ℕ → Type 0 → (ℕ → Type 0) → Type 0
ByWrote [] P Q = P
ByWrote (b ∷ []) P Q = Q b
ByWrote (b ∷ (c ∷ bs)) P Q = ⊥

-- a step writes one live block, and says which, or none; every other call writes none
abbrev pub WritesOne : Blocks → Outcome View → Type 0
WritesOne d o = ByWrote o.wrote (o.disk ≡ d) (λ b. (bs : List ℕ) × (o.disk ≡ slice_set d b (Some bs)) × (length bs ≡ block_size) × (is_live (block d b) ≡ true))

abbrev pub WritesNone : Blocks → Outcome View → Type 0
WritesNone d o = (o.wrote ≡ []) × (o.disk ≡ d)

abbrev pub Writes : Call → Blocks → Outcome View → Type 0
Writes (begins n) d o = WritesNone d o
Writes (reads n p buffer) d o = WritesNone d o
Writes (overwrites n p bytes) d o = WritesNone d o
Writes (commits n) d o = WritesNone d o
Writes (gives_up n) d o = WritesNone d o
Writes flushes d o = WritesNone d o
Writes logs d o = WritesOne d o
Writes installs d o = WritesOne d o

-- every read of every object under every number answers and fills the same at both
abbrev pub SameReads : View → Blocks → View → Blocks → Type 0
SameReads v d w e = (n : ℕ) (o : Place) (buffer : List ℕ) →
    ((outcome (reads n o buffer) v d).answer ≡ (outcome (reads n o buffer) w e).answer) ×
    ((outcome (reads n o buffer) v d).buffer ≡ (outcome (reads n o buffer) w e).buffer)

-- the block that a logger step wrote: 0, and the end moved; or the log block of a position that is not durable
abbrev pub LogsAt : Blocks → ℕ → Blocks → ℕ → Type 0
LogsAt d reached e b = ((b ≡ 0) × (end_on d < end_on e)) ⊎ ((p : ℕ) × (end_on d ≤ p) × (p < reached) × (b ≡ log_block p) × (end_on e ≡ end_on d))

-- the block that an installer step wrote: 1, and the start moved; or the home of a live position, with its bytes
abbrev pub InstallsAt : Blocks → Blocks → ℕ → Type 0
InstallsAt d e b = ((b ≡ 1) × (start_on d < start_on e)) ⊎
    ((p : ℕ) × (start_on d ≤ p) × (p < end_on d) × (b ≡ home_on d (slot p)) × (block e b ≡ block d (log_block p)) × (start_on e ≡ start_on d))

-- home numbers of slots that no newly durable position has are kept
abbrev pub HomesKept : Blocks → Blocks → Type 0
HomesKept d e = (s : ℕ) → s < slots → ((p : ℕ) → end_on d ≤ p → p < end_on e → slot p ≢ s) → home_on e s ≡ home_on d s

-- what a commit changes is above all that was flushed or durable before
abbrev pub Fresh : Record → ℕ → ℕ → Type 0
Fresh r n m = 0 < length (dirty_ones (touched_by r n)) → (r.flushed < m) × (r.ended < m)

-- r is the record before the call, s the record with it
abbrev pub AfterCall : Call → View → Blocks → Outcome View → Record → Record → Type 0
AfterCall (begins n) v d o r s = Told (begins n) o d r n
AfterCall (reads n p buffer) v d o r s = Told (reads n p buffer) o d r (width p.size) ×
    (o.buffer ≡ unless (first_of (refusals (reads n p buffer) r d)) (unwrap_or (value_in (touched_by s n) p) []) buffer)
AfterCall (overwrites n p bytes) v d o r s = Told (overwrites n p bytes) o d r (width p.size) × (o.buffer ≡ bytes) ×
    IfOk o.answer (λ m. value_in (touched_by s n) p ≡ Some bytes)
AfterCall (commits n) v d o r s = Told (commits n) o d r (due r n) × IfOk o.answer (Fresh r n)
AfterCall (gives_up n) v d o r s = Told (gives_up n) o d r 0
AfterCall flushes v d o r s = o.answer ≡ Ok r.reached
AfterCall logs v d o r s = (o.answer ≡ Ok (end_on o.disk)) × ByWrote o.wrote (end_on d ≡ r.reached) (LogsAt d r.reached o.disk) × HomesKept d o.disk × SameReads v d o.state o.disk
AfterCall installs v d o r s = (o.answer ≡ Ok (start_on o.disk)) × ByWrote o.wrote (start_on d ≡ end_on d) (InstallsAt d o.disk) × SameReads v d o.state o.disk

-- ## What holds of a cut

abbrev pub Above : ℕ → Commit → Type 0
Above e c = e < c.position

-- r is the record as it stood at the cut; the card is what the cut left
pub record AfterCut (d : Blocks) (r : Record) : Type 0 where
  -- the opening is granted, and answers the end on the card
  pub granted : (opening shut d).answer ≡ Ok (end_on d)
  -- and writes nothing
  pub unwritten : ((opening shut d).disk ≡ d) × ((opening shut d).wrote ≡ [])
  -- which is no lower than any answered before
  pub kept : r.ended ≤ end_on d
  -- the commits of position at most that end come first
  pub prefix : (struck : List Commit) × (r.commits ≡ up_to (end_on d) r.commits ++ struck) × AllByRecursion (Above (end_on d)) struck
  -- and the card shows just those, each whole
  pub shows : (b : ℕ) → homes_from ≤ b → b < length d → area d b ≡ lay_all (up_to (end_on d) r.commits) r.first b

-- ## The law

abbrev pub After : Event → View → Blocks → Record → Type 0
After (call c) v d r = let o = outcome c v d in AfterCall c v d o r (noted c o.answer r) × (Unaltered c v d o × Writes c d o)
After (cut broken left) v d r = AfterCut left r

-- at the start, after each event, and at the end
abbrev pub Along : List Event → View → Blocks → Record → Type 0
Along [] v d r = Stands v d r
Along (e ∷ es) v d r = Stands v d r × (Possible e v d → let o = happens e v d in After e v d r × Along es o.state o.disk (recorded e o r))

-- of a journal and its disk as an opening left them
abbrev pub Lasting : View → Blocks → Type 0
Lasting v d = (es : List Event) → Along es v d (begun d)

abbrev pub CrashLaw : Type 0
CrashLaw = (d : Blocks) (e : ℕ) → Whole d → (opening shut d).answer ≡ Ok e → Lasting (opening shut d).state (opening shut d).disk
