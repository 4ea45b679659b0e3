-- What the layer above a direction uses: what a direction stands for, and what its steps are.
use Rattle.std.specs.Prelude.{◌≡◌, ⊤, ℕ, ◌≤◌, ◌+◌, ◌^◌, List, [], ◌∷◌, ◌++◌, map, Option, Some, None, true, false, cond, nat_le}
use Rattle.histbook.specs.declared.look_entry.LookEntry.{LookEntry}
use Rattle.overpolicy.specs.declared.shape.Shape.{Shape}
use Rattle.chunkpart.specs.ChunkParts.{ChunkParts, copied_bytes, fresh_bytes, parts_of}
use Rattle.seqspace.specs.declared.seq.Seq.{Seq}
use Rattle.streamdefs.specs.Terms.{Terms}
use Rattle.streamdefs.specs.Reorder.{Charge}
use Rattle.streamdefs.specs.View.{Ask as Request, charge_of}
use Rattle.streamdefs.specs.Pending.{Piece}
use Rattle.streamdefs.specs.Direction.{Direction, Deed, Kind, Segment, next_by, counts_by, pieces_by, direction_after}
use Rattle.streamdefs.specs.Direction.Kind.{Strict, Fast, Datagrams}
use Rattle.streamdefs.specs.Direction.Next.{Asks, Gives, Rests as Wants_nothing}
use Rattle.flowdir.specs.declared.dir_mode.DirMode.{DirMode}
use Rattle.flowdir.specs.declared.dir_mode.DirMode.TheVariants.{Strict as StrictMode, Fast as FastMode, Udp}
use Rattle.flowdir.specs.declared.seg.Seg.{Seg}
use Rattle.flowdir.specs.declared.step.Step.{Step}
use Rattle.flowdir.specs.declared.step.Step.TheVariants.{Ask, Free, Done}
use Rattle.flowdir.specs.Counting.{classes_of}

-- Where a direction stands between calls: nothing is under way, or an entry by these settings, with its looks so far, of whose
-- spare charges so many were given back.
pub data Phase : Type 0 where
  Rests : Phase
  Works : Terms → Deed → ℕ → Phase

-- the kind of a direction
abbrev pub kind_of : DirMode → Kind
kind_of StrictMode = Strict
kind_of FastMode = Fast
kind_of Udp = Datagrams

-- those of the settings that a direction looks at
pub record HasShape (shape : Shape) (t : Terms) : Type 0 where
  pub policy : t.policy ≡ shape.policy
  pub chunk : t.chunk ≡ shape.chunk
  pub overlap : t.overlap ≡ shape.overlap
  pub flush : t.flush ≡ shape.flush
  pub hole : t.hole ≡ shape.hole
  pub reorder : t.reorder ≡ shape.reorder

-- its times can be added to a moment
pub record IsTimely (shape : Shape) : Type 0 where
  pub flush : shape.flush ≤ 2 ^ 62
  pub hole : shape.hole ≤ 2 ^ 62

-- a segment with the cutoff in force, as the definition sees it
abbrev pub segment_of : Seg → Option ℕ → Segment
segment_of s cutoff = record {
  seq = s.seq.0;
  syn = s.syn;
  fin = s.fin;
  declared = s.declared;
  payload = s.payload.now;
  moment = s.now;
  cutoff = cutoff;
  live = s.live;
}

-- the charge that stands for a value of C, by its amount and its stamp
abbrev pub charge_by : {C : Type 0} → (C → ℕ) → (C → ℕ) → C → Charge
charge_by amount stamp c = record { bytes = amount c; stamp = stamp c }

-- the delivery that a chunk is
abbrev pub piece_for : {C : Type 0} → (C → Charge) → ChunkParts C → Piece
piece_for paid chunk = record {
  start = chunk.start;
  gap = chunk.gap;
  copy = copied_bytes chunk;
  fresh = fresh_bytes chunk;
  charges = map (λ part. paid part.1) (parts_of chunk);
}

-- the look by which an ask was answered: its charge is the one that was granted, if there is one
abbrev pub IsLookOf : {C : Type 0} → (C → Charge) → Option C → LookEntry → Type 0
IsLookOf paid None look = look.granted ≡ false
IsLookOf paid (Some c) look = (look.granted ≡ true) × (charge_of look ≡ paid c)

-- A step is what the entry wants next. With the last one come its counts, and what the direction stands for behind it.
abbrev pub IsStep : {C : Type 0} → (C → Charge) → (Direction → Phase → List Piece → Type 0) → Terms → Kind → Direction → Deed → ℕ → List Piece → Step C → Type 0
IsStep paid Stands t kind d deed given pieces (Ask bytes) =
    ((request : Request) × (next_by t kind d deed given ≡ Asks request) × (request.bytes ≡ bytes)) × Stands d (Works t deed given) pieces
IsStep paid Stands t kind d deed given pieces (Free charge) = (next_by t kind d deed given ≡ Gives (paid charge)) × Stands d (Works t deed given) pieces
IsStep paid Stands t kind d deed given pieces (Done counts) =
    (next_by t kind d deed given ≡ Wants_nothing) × (classes_of counts ≡ counts_by kind d deed)
    × Stands (direction_after t kind d deed) Rests (pieces ++ pieces_by t kind d deed)

-- the bytes that a step asks for
abbrev pub asked_by : {C : Type 0} → Step C → Option ℕ
asked_by (Ask bytes) = Some bytes
asked_by (Free charge) = None
asked_by (Done counts) = None

-- the charges that a step gives back, summed by a weight
abbrev pub weight_of_step : {C : Type 0} → (C → ℕ) → Step C → ℕ
weight_of_step weight (Ask bytes) = 0
weight_of_step weight (Free charge) = weight charge
weight_of_step weight (Done counts) = 0

abbrev pub weight_of : {C : Type 0} → (C → ℕ) → Option C → ℕ
weight_of weight None = 0
weight_of weight (Some c) = weight c

abbrev pub weight_of_parts : {C : Type 0} → (C → ℕ) → List (List ℕ × C) → ℕ
weight_of_parts weight [] = 0
weight_of_parts weight (part ∷ parts) = weight part.1 + weight_of_parts weight parts

abbrev pub weight_of_chunk : {C : Type 0} → (C → ℕ) → Option (ChunkParts C) → ℕ
weight_of_chunk weight None = 0
weight_of_chunk weight (Some chunk) = weight_of_parts weight (parts_of chunk)

-- what is asked for is something
abbrev pub AsksSome : {C : Type 0} → Step C → Type 0
AsksSome (Ask bytes) = 1 ≤ bytes
AsksSome (Free charge) = ⊤
AsksSome (Done counts) = ⊤

-- a charge stands for as many bytes as its amount
abbrev pub IsPaidBy : {C : Type 0} → (C → ℕ) → (C → Charge) → Type 0
IsPaidBy {C = C} amount paid = (c : C) → (paid c).bytes ≡ amount c

-- the first of the deliveries that are to be taken, and the others behind it
abbrev pub IsFirst : {C : Type 0} → (C → Charge) → (List Piece → Type 0) → List Piece → Option (ChunkParts C) → Type 0
IsFirst paid Stands pieces None = (pieces ≡ []) × Stands []
IsFirst paid Stands pieces (Some chunk) = (rest : List Piece) × (pieces ≡ piece_for paid chunk ∷ rest) × Stands rest

-- the least of these
abbrev pub least_of : List ℕ → Option ℕ
least_of [] = None
least_of (n ∷ ns) = lesser (least_of ns)
  where
    lesser : Option ℕ → Option ℕ
    lesser None = Some n
    lesser (Some m) = Some (cond (nat_le n m) n m)

abbrev pub number_of : Option Seq → Option ℕ
number_of None = None
number_of (Some seq) = Some seq.0
