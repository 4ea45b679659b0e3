-- What the values that a worker takes and gives mean to the definition of a conversation.
use Rattle.std.specs.Prelude.{◌≡◌, cond, List, [], map}
use Rattle.chunkpart.specs.ChunkParts.{ChunkParts, copied_bytes, fresh_bytes, parts_of, shown_bytes}
use Rattle.evring.specs.declared.advice.Advice.{Advice}
use Rattle.evring.specs.declared.answer.Answer.{Answer}
use Rattle.evring.specs.declared.event.Event.{Event}
use Rattle.evring.specs.declared.event.Event.TheVariants.{New, Chunk, Ended}
use Rattle.streamkey.specs.Key.{source_of, target_of}
use Rattle.streamkey.specs.Packet.{IsWay}
use Rattle.streamdefs.specs.Packet.{Packet}
use Rattle.streamdefs.specs.Pending.{Piece}
use Rattle.streamdefs.specs.Reorder.{Charge}
use Rattle.streamdefs.specs.Convo.{Event as EventMade, Kept as KeptPiece, charges_of as charges_of_kept, kept_of}
use Rattle.streamdefs.specs.Convo.Event.{New as NewMade, Chunk as ChunkMade, Ended as EndedMade}

-- the delivery that a chunk is, and the same as one that is kept
abbrev pub piece_for : {C : Type 0} → (C → Charge) → ChunkParts C → Piece
piece_for paid chunk = record { start = chunk.start; gap = chunk.gap; copy = copied_bytes chunk; fresh = fresh_bytes chunk; charges = map (λ part. paid part.1) (parts_of chunk) }

abbrev pub kept_piece : {C : Type 0} → (C → Charge) → ChunkParts C → KeptPiece
kept_piece paid chunk = record { shown = shown_bytes chunk; charges = map (λ part. paid part.1) (parts_of chunk) }

-- an event of the conversation of a first packet, as its definition has it
abbrev pub IsEvent : {C : Type 0} → (C → Charge) → Packet → EventMade → Event C → Type 0
IsEvent paid first NewMade (New conv proto source target) =
    (conv ≡ first.number) × (proto ≡ first.key.proto) × (source ≡ source_of first.key first.toward) × (target ≡ target_of first.key first.toward)
IsEvent paid first (ChunkMade d) (Chunk conv way key kept chunk) =
    (conv ≡ first.number) × (way ≡ d.way) × (key ≡ first.key) × (map (kept_piece paid) kept ≡ d.kept) × (piece_for paid chunk ≡ d.piece)
IsEvent paid first (EndedMade reason) (Ended conv because) = (conv ≡ first.number) × (because ≡ reason)
IsEvent paid first _ _ = ⊥

-- and the first packet goes the way that its ends say
pub record MeansEvent {C : Type 0} (paid : C → Charge) (first : Packet) (made : EventMade) (e : Event C) : Type 0 where
  pub way : IsWay first.key first.toward
  pub event : IsEvent paid first made e

-- the charges of an event as its definition has them, and those that its worker gives back
abbrev pub charges_made : EventMade → List Charge
charges_made (ChunkMade d) = charges_of_kept (kept_of d)
charges_made _ = []

abbrev pub owed_made : Advice → EventMade → List Charge
owed_made advice made = cond advice.keep [] (charges_made made)

-- the deliveries that come back
abbrev pub back_made : Advice → EventMade → List KeptPiece
back_made advice (ChunkMade d) = cond advice.keep (kept_of d) []
back_made advice _ = []

-- an answer to an event, as its worker owes it by the advice
pub record MeansAnswer {C : Type 0} (paid : C → Charge) (advice : Advice) (made : EventMade) (a : Answer C) : Type 0 where
  pub advice_is : a.advice ≡ advice
  pub kept : map (kept_piece paid) a.kept ≡ back_made advice made
  pub frees : map (λ free. free.bytes) a.frees ≡ map (λ charge. charge.bytes) (owed_made advice made)
