-- What is seen of an event: by a handler, and in the event's line.
use Rattle.std.specs.Prelude.{ℕ, length, flat_map}
use Rattle.evring.specs.declared.event.Event.{Event}
use Rattle.evring.specs.declared.event.Event.TheVariants.{New, Chunk, Ended}
use Rattle.chunkpart.specs.ChunkParts.{copied_bytes, shown_bytes}
use Rattle.streamkey.specs.declared.key.Key.{Key}
use Rattle.streamkey.specs.declared.toward.Toward.{Toward}
use Rattle.streamkey.specs.Key.{key_of}
use Rattle.streamdefs.specs.Convo.{Seen}
use Rattle.streamdefs.specs.Convo.Seen.{Created, Data, Over}
use Rattle.handler.specs.declared.chunk_view.ChunkView.{ChunkView}

-- of a chunk, by its view
abbrev pub seen_in_view : ChunkView → Seen
seen_in_view v = Data v.key.now v.way v.start v.gap v.over v.kept.now v.shown.now

-- the conversation of an event
abbrev pub conv_of : {C : Type 0} → Event C → ℕ
conv_of (New conv proto source target) = conv
conv_of (Chunk conv way key kept chunk) = conv
conv_of (Ended conv reason) = conv

-- a conversation opened
abbrev pub created_by : Key × Toward → Seen
created_by opened = Created opened.0 opened.1

-- of an event: that of a new conversation is the key and the way of its first packet, that of a chunk has the bytes of the
-- kept chunks, joined, and its own, copy and fresh ones
abbrev pub seen_in : {C : Type 0} → Event C → Seen
seen_in (New conv proto source target) = created_by (key_of proto source target)
seen_in (Chunk conv way key kept chunk) = Data key way chunk.start chunk.gap (length (copied_bytes chunk)) (flat_map shown_bytes kept) (shown_bytes chunk)
seen_in (Ended conv reason) = Over reason
