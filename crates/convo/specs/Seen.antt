-- Chunks, events and settings as the definitions see them.
use Rattle.std.specs.Prelude.{◌≡◌, ⊤, map}
use Rattle.chunkpart.specs.ChunkParts.{ChunkParts, parts_of, shown_bytes}
use Rattle.streamkey.specs.Key.{source_of, target_of}
use Rattle.streamdefs.specs.Reorder.{Charge}
use Rattle.streamdefs.specs.Packet.{Packet as Accepted}
use Rattle.streamdefs.specs.Convo.{Kept as KeptPiece, Event as EventMade}
use Rattle.streamdefs.specs.Convo.Event.{New as NewMade, Chunk as ChunkMade, Ended as EndedMade}
use Rattle.streamdefs.specs.Want.{Want as Wanted}
use Rattle.streamdefs.specs.Want.Want.{Reserve, Release, Emit as EmitWanted, Rest as RestWanted}
use Rattle.flowdir.specs.Boundary.{piece_for}
use Rattle.streamkey.specs.declared.packet.Packet.{Packet}
use Rattle.evring.specs.declared.event.Event.{Event}
use Rattle.evring.specs.declared.event.Event.TheVariants.{New, Chunk, Ended}
use Rattle.convo.specs.declared.want.Want.{Want}
use Rattle.convo.specs.declared.want.Want.TheVariants.{Ask, Free, Emit, Rest}

-- a packet as the definitions have it
abbrev pub packet_of : Packet → Accepted
packet_of p = record { number = p.number; now = p.now; key = p.key; toward = p.toward; seq = p.seq; flags = p.flags; declared = p.declared; payload = p.payload }

-- a chunk as one that is kept
abbrev pub kept_for : {C : Type 0} → (C → Charge) → ChunkParts C → KeptPiece
kept_for paid chunk = record { shown = shown_bytes chunk; charges = map (λ part. paid part.1) (parts_of chunk) }

-- an event of the conversation of a first packet, as its definition has it
abbrev pub IsEvent : {C : Type 0} → (C → Charge) → Accepted → EventMade → Event C → Type 0
IsEvent paid first NewMade (New conv proto source target) =
    (conv ≡ first.number) × (proto ≡ first.key.proto) × (source ≡ source_of first.key first.toward) × (target ≡ target_of first.key first.toward)
IsEvent paid first (ChunkMade d) (Chunk conv way key kept chunk) =
    (conv ≡ first.number) × (way ≡ d.way) × (key ≡ first.key) × (map (kept_for paid) kept ≡ d.kept) × (piece_for paid chunk ≡ d.piece)
IsEvent paid first (EndedMade reason) (Ended conv because) = (conv ≡ first.number) × (because ≡ reason)
IsEvent paid first _ _ = ⊥

-- what an entry wants next, as its definition has it
abbrev pub IsWant : {C : Type 0} → (C → Charge) → Accepted → Wanted → Want C → Type 0
IsWant paid first (Reserve request mark) (Ask bytes upto) = (bytes ≡ request.bytes) × (upto ≡ mark)
IsWant paid first (Release charge) (Free c) = paid c ≡ charge
IsWant paid first (EmitWanted e) (Emit event) = IsEvent paid first e event
IsWant paid first RestWanted Rest = ⊤
IsWant paid first _ _ = ⊥
