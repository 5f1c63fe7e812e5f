-- What holds of objects, of tables and of faults, whatever the definitions say inside.
use Rattle.std.specs.Prelude.{◌≡◌, ℕ, ◌+◌, ◌-◌, ◌/◌, ◌%◌, ◌^◌, ◌<◌, ◌≤◌, true, false, cond, ◌⊎◌, List, [], ◌∷◌, ◌++◌, map, length, is_some, Some, None, Decides, filter, slice_index}
use Rattle.std.specs.List.{AllByRecursion}
use Rattle.disk.specs.declared.fault.DiskFault.{DiskFault}
use Rattle.disk.specs.Faults.{disk_place}
use Rattle.object.specs.declared.Place.{Place}
use Rattle.object.specs.declared.ObjectFault.{ObjectFault}
use Rattle.object.specs.declared.ObjectFault.TheVariants.{Size, Misplaced, Buffer, Bit, Overlap, Table, DeadBlock}
use Rattle.object.specs.Faults.{object_number, object_place, object_cause}
use Rattle.object.specs.Objects.{block_bits, allowed, width, bit_at, part, laid, same, overlap}
use Rattle.object.specs.Tables.{Held, value_in, is_in, holding, clashes, dirty_ones}

-- ## Objects

-- one bit, or 8 bits to a block by doubling
abbrev pub SizeOf : ℕ → Type 0
SizeOf s = (s ≡ 1) ⊎ ((k : ℕ) × (3 ≤ k) × (k ≤ 12) × (s ≡ 2 ^ k))

abbrev pub SizesAllowed : Type 0
SizesAllowed = (s : ℕ) → Decides (allowed s) (SizeOf s)

-- bit k of these bytes
abbrev pub bit_of : List ℕ → ℕ → ℕ
bit_of bs k = bit_at (slice_index bs (k / 8)) (k % 8)

-- it has a size and an offset that an object may have
pub record Placed (o : Place) : Type 0 where
  pub sized : allowed o.size ≡ true
  pub in_block : o.offset < block_bits
  pub aligned : o.offset % o.size ≡ 0

pub record Value (o : Place) (v : List ℕ) : Type 0 where
  pub long : length v ≡ width o.size
  pub bytes : (i : ℕ) → slice_index v i < 256
  pub bit : o.size ≡ 1 → slice_index v 0 < 2

pub record WholeBlock (bs : List ℕ) : Type 0 where
  pub long : length bs ≡ 512
  pub bytes : (i : ℕ) → slice_index bs i < 256

-- a block stays one as an object is laid into it
abbrev pub LaidWhole : Type 0
LaidWhole = (o : Place) (v bs : List ℕ) → Placed o → Value o v → WholeBlock bs → WholeBlock (laid o v bs)

-- what is taken out of a block is a value of the object
abbrev pub PartValue : Type 0
PartValue = (o : Place) (bs : List ℕ) → Placed o → WholeBlock bs → Value o (part o bs)

abbrev pub Within : Place → ℕ → Type 0
Within o k = (o.offset ≤ k) × (k < o.offset + o.size)

-- the object's own bits are laid in ..
abbrev pub BitsLaid : Type 0
BitsLaid = (o : Place) (v bs : List ℕ) → Placed o → Value o v → WholeBlock bs → (k : ℕ) → Within o k → bit_of (laid o v bs) k ≡ bit_of v (k - o.offset)

-- .. and all others stay
abbrev pub BitsKept : Type 0
BitsKept = (o : Place) (v bs : List ℕ) → Placed o → Value o v → WholeBlock bs → (k : ℕ) → (Within o k → ⊥) → bit_of (laid o v bs) k ≡ bit_of bs k

abbrev pub BitsTaken : Type 0
BitsTaken = (o : Place) (bs : List ℕ) → Placed o → WholeBlock bs → (j : ℕ) → j < o.size → bit_of (part o bs) j ≡ bit_of bs (o.offset + j)

abbrev pub PartOfLaid : Type 0
PartOfLaid = (o : Place) (v bs : List ℕ) → Placed o → Value o v → WholeBlock bs → part o (laid o v bs) ≡ v

abbrev pub LaidAgain : Type 0
LaidAgain = (o : Place) (bs : List ℕ) → Placed o → WholeBlock bs → laid o (part o bs) bs ≡ bs

-- an object of the same block that has no bit in common stays
abbrev pub OthersKept : Type 0
OthersKept = (o p : Place) (v bs : List ℕ) → Placed o → Placed p → o.block ≡ p.block → overlap o p ≡ false → Value o v → WholeBlock bs → part p (laid o v bs) ≡ part p bs

-- overlap is a bit in common
abbrev pub OverlapShares : Type 0
OverlapShares = (o p : Place) → 1 ≤ o.size → 1 ≤ p.size → Decides (overlap o p) ((o.block ≡ p.block) × ((k : ℕ) × Within o k × Within p k))

-- two objects of one size are the same or have no bit in common
abbrev pub Apart : Type 0
Apart = (o p : Place) → Placed o → Placed p → o.size ≡ p.size → same o p ≡ false → overlap o p ≡ false

-- laying and taking, bit by bit
pub record ObjectBits : Type 0 where
  pub whole : LaidWhole
  pub value : PartValue
  pub own : BitsLaid
  pub rest : BitsKept
  pub taken : BitsTaken

-- laying and taking, one after the other
pub record ObjectsKept : Type 0 where
  pub got : PartOfLaid
  pub again : LaidAgain
  pub others : OthersKept
  pub apart : Apart
  pub shares : OverlapShares

-- ## Tables

abbrev pub places_of : List Held → List Place
places_of [] = []
places_of (h ∷ hs) = h.place ∷ places_of hs

abbrev pub SamePlace : Type 0
SamePlace = (o p : Place) → Decides (same o p) (o ≡ p)

abbrev pub HeldNow : Type 0
HeldNow = (hs : List Held) (h : Held) → value_in (holding hs h) h.place ≡ Some h.bytes

abbrev pub HeldStill : Type 0
HeldStill = (hs : List Held) (h : Held) (o : Place) → same h.place o ≡ false → value_in (holding hs h) o ≡ value_in hs o

-- objects stand in the order of their first touch
abbrev pub HeldInOrder : Type 0
HeldInOrder = (hs : List Held) (h : Held) → places_of (holding hs h) ≡ cond (is_in hs h.place) (places_of hs) (places_of hs ++ h.place ∷ [])

abbrev pub HeldCount : Type 0
HeldCount = (hs : List Held) (h : Held) → length (holding hs h) ≡ cond (is_in hs h.place) (length hs) (length hs + 1)

abbrev pub HeldFound : Type 0
HeldFound = (hs : List Held) (o : Place) → is_in hs o ≡ is_some (value_in hs o)

-- with no clash, each object held is the one asked for or has no bit in common with it
abbrev pub NoClash : Type 0
NoClash = (hs : List Held) (o : Place) → Placed o → AllByRecursion (λ (h : Held). Placed h.place) hs → clashes hs o ≡ false → AllByRecursion (λ (h : Held). (h.place ≡ o) ⊎ (overlap h.place o ≡ false)) hs

-- and with one, some object held has a bit in common, and another size
abbrev pub Clash : Type 0
Clash = (hs : List Held) (o : Place) → clashes hs o ≡ true → AllByRecursion (λ (h : Held). overlap h.place o ≡ true → h.place.size ≡ o.size) hs → ⊥

abbrev pub DirtyOnly : Type 0
DirtyOnly = (hs : List Held) → dirty_ones hs ≡ filter (λ (h : Held). h.dirty) hs

pub record TableLaws : Type 0 where
  pub same : SamePlace
  pub now : HeldNow
  pub still : HeldStill
  pub order : HeldInOrder
  pub count : HeldCount
  pub found : HeldFound
  pub free : NoClash
  pub clash : Clash
  pub dirty : DirtyOnly

-- ## Faults

-- one of each kind, for block b, with f the disk's own fault
abbrev pub one_of_each : ℕ → DiskFault → List ObjectFault
one_of_each b f = Size b ∷ Misplaced b ∷ Buffer b ∷ Bit b ∷ Overlap b ∷ Table b ∷ DeadBlock f ∷ []

abbrev pub FaultsInOrder : Type 0
FaultsInOrder = (b : ℕ) (f : DiskFault) → map object_number (one_of_each b f) ≡ 14 ∷ 15 ∷ 16 ∷ 17 ∷ 18 ∷ 19 ∷ 20 ∷ []

abbrev pub FaultsNameBlocks : Type 0
FaultsNameBlocks = (b : ℕ) (f : DiskFault) → disk_place f ≡ b → map object_place (one_of_each b f) ≡ b ∷ b ∷ b ∷ b ∷ b ∷ b ∷ b ∷ []

-- only a dead block has a fault of the disk's behind it
abbrev pub FaultsCauses : Type 0
FaultsCauses = (b : ℕ) (f : DiskFault) → map object_cause (one_of_each b f) ≡ None ∷ None ∷ None ∷ None ∷ None ∷ None ∷ Some f ∷ []

pub record FaultLaws : Type 0 where
  pub order : FaultsInOrder
  pub blocks : FaultsNameBlocks
  pub causes : FaultsCauses
