-- What is kept of a direction of datagrams: it holds nothing, so its bytes are pending or handed over.
use Rattle.std.specs.Prelude.{◌≡◌, ℕ, ◌+◌, ◌-◌, ◌<◌, ◌≤◌, ⊤, Bool, true, false, cond, ◌==◌, nat_le, List, [], ◌∷◌, ◌++◌, length, map, Option, Some, None, pos}
use Rattle.chunkpart.specs.ChunkParts.{ChunkParts}
use Rattle.prio_budget.specs.ChargeParts.{ChargeParts}
use Rattle.histbook.specs.declared.look_entry.LookEntry.{LookEntry}
use Rattle.streamdefs.specs.Lists.{Each}
use Rattle.streamdefs.specs.Reorder.{Charge, Placed, placed_from}
use Rattle.streamdefs.specs.Pending.{Piece}
use Rattle.streamdefs.specs.Direction.{Direction, Segment}
use Rattle.streamdefs.specs.Terms.{Terms}
use Rattle.streamdefs.specs.Both.{both}
use Rattle.cutclass.specs.declared.cut.Cut.TheVariants.{Unset}

-- the bytes of a datagram that were granted, and the stamp of their grant
pub record Paid : Type 0 where
  pub bytes : List ℕ
  pub stamp : ℕ

-- the charge that pays for them
abbrev pub charge_for : Paid → Charge
charge_for part = record { bytes = length part.bytes; stamp = part.stamp }

-- an open chunk: where it starts, the gap before it, and its parts in order
pub record OpenChunk : Type 0 where
  pub start : ℕ
  pub gap : ℕ
  pub parts : List Paid

-- the number of bytes of parts
abbrev pub size : List Paid → ℕ
size [] = 0
size (part ∷ parts) = length part.bytes + size parts

-- the bytes of parts, joined
abbrev pub joined : List Paid → List ℕ
joined [] = []
joined (part ∷ parts) = part.bytes ++ joined parts

-- what is kept of a direction: how many bytes came, the front, and the open chunk, if there is one
pub record Flow : Type 0 where
  pub sent : ℕ
  pub front : ℕ
  pub chunk : Option OpenChunk

-- before any datagram
abbrev pub dry : Flow
dry = record { sent = 0; front = 0; chunk = None }

-- the delivery of a chunk
abbrev pub piece_for : OpenChunk → Piece
piece_for o = record { start = o.start; gap = o.gap; copy = []; fresh = joined o.parts; charges = map charge_for o.parts }

-- with another datagram that was granted: it begins a chunk behind a gap, or where none is open
abbrev pub begun_with : Flow → Paid → OpenChunk
begun_with f part = record { start = f.sent; gap = f.sent - f.front; parts = part ∷ [] }

abbrev pub chunk_with : Flow → Paid → Option OpenChunk → OpenChunk
chunk_with f part None = begun_with f part
chunk_with f part (Some o) = cond (f.sent == f.front) (record o { parts = o.parts ++ part ∷ [] }) (begun_with f part)

abbrev pub granted_to : Flow → Paid → Flow
granted_to f part = record { sent = f.sent + length part.bytes; front = f.sent + length part.bytes; chunk = Some (chunk_with f part f.chunk) }

-- with one that was refused, or had no bytes
abbrev pub refused_to : Flow → ℕ → Flow
refused_to f bytes = record f { sent = f.sent + bytes }

abbrev pub chunk_list : Option OpenChunk → List OpenChunk
chunk_list None = []
chunk_list (Some o) = o ∷ []

-- what a gap before the next datagram hands over
abbrev pub closed_by_gap : Flow → List OpenChunk
closed_by_gap f = cond (f.sent == f.front) [] (chunk_list f.chunk)

-- whether a chunk is handed over as a datagram's entry ends
abbrev pub is_ready : ℕ → Option OpenChunk → Bool
is_ready least None = false
is_ready least (Some o) = nat_le least (size o.parts)

abbrev pub handed_over : ℕ → Flow → List OpenChunk
handed_over least f = cond (is_ready least f.chunk) (chunk_list f.chunk) []

abbrev pub left_open : ℕ → Flow → Flow
left_open least f = record f { chunk = cond (is_ready least f.chunk) None f.chunk }

-- The bytes of parts at their positions, from one on, the first of each with its charge.
abbrev pub with_charge : Charge → List Placed → List Placed
with_charge charge [] = []
with_charge charge (p ∷ ps) = record p { charge = Some charge } ∷ ps

abbrev pub placed_part : ℕ → Paid → List Placed
placed_part at part = with_charge (charge_for part) (placed_from at (pos at) part.bytes)

abbrev pub placed_parts : ℕ → List Paid → List Placed
placed_parts at [] = []
placed_parts at (part ∷ parts) = placed_part at part ++ placed_parts (at + length part.bytes) parts

abbrev pub placed_chunk : Option OpenChunk → List Placed
placed_chunk None = []
placed_chunk (Some o) = placed_parts o.start o.parts

abbrev pub gap_before : Option OpenChunk → ℕ
gap_before None = 0
gap_before (Some o) = o.gap

-- a chunk has parts, none of them empty, and ends at the front
abbrev pub IsFilled : List Paid → Type 0
IsFilled parts = Each (λ part. 0 < length part.bytes) parts

abbrev pub EndsAt : ℕ → Option OpenChunk → Type 0
EndsAt front None = ⊤
EndsAt front (Some o) = (o.start + size o.parts ≡ front) × (0 < length o.parts) × IsFilled o.parts

-- it stands for that direction
pub record StandsFor (f : Flow) (d : Direction) : Type 0 where
  pub sent : d.sent ≡ f.sent
  pub front : d.view.front ≡ f.front
  pub behind : f.front ≤ f.sent
  pub held : d.view.held ≡ []
  pub hole : d.hole ≡ None
  pub fin : d.fin ≡ None
  pub copy : d.pending.copy ≡ None
  pub gap : d.pending.gap ≡ gap_before f.chunk
  pub bytes : d.pending.bytes ≡ placed_chunk f.chunk
  pub whole : EndsAt f.front f.chunk

-- a segment that is a datagram of a live conversation without a cutoff
pub record IsDatagram (s : Segment) (payload : List ℕ) : Type 0 where
  pub payload_is : s.payload ≡ payload
  pub fin : s.fin ≡ false
  pub cutoff : s.cutoff ≡ None
  pub live : s.live ≡ true

-- settings without copies, flushes, cutoffs and classes
abbrev pub plain : Terms → Terms
plain t = record t { overlap = 0; flush = 0; default = Unset; cutoffs = both Unset; class = λ key toward. None }

-- What contracts see of a chunk, as an open chunk of datagrams.
abbrev pub paid_of : List ℕ × ChargeParts → Paid
paid_of part = record { bytes = part.0; stamp = part.1.stamp }

abbrev pub chunk_of : ChunkParts ChargeParts → OpenChunk
chunk_of c = record { start = c.start; gap = c.gap; parts = map paid_of c.fresh }

abbrev pub open_in : Option (ChunkParts ChargeParts) → Option OpenChunk
open_in None = None
open_in (Some c) = Some (chunk_of c)

-- it has no copy
abbrev pub HasNoCopy : Option (ChunkParts ChargeParts) → Type 0
HasNoCopy None = ⊤
HasNoCopy (Some c) = c.tail ≡ None

-- what is true of the numbers and the chunk that are kept of a direction
pub record IsKept (sent front : ℕ) (chunk : Option (ChunkParts ChargeParts)) : Type 0 where
  pub behind : front ≤ sent
  pub whole : EndsAt front (open_in chunk)
  pub bare : HasNoCopy chunk

-- a datagram that was granted
abbrev pub part_of : List ℕ → LookEntry → Paid
part_of bytes look = record { bytes = bytes; stamp = look.look.stamp }
