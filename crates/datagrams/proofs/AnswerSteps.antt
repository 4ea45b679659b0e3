-- Answers, with what they release.
use Rattle.std.specs.Prelude.{◌≡◌, refl, ℕ, suc, ◌+◌, List, [], ◌∷◌, ◌++◌, map, Option}
use Rattle.std.proofs.Common.{sym, ◌∙◌, ap, arith}
use Rattle.evring.specs.Advice.{no_advice}
use Rattle.evring.specs.declared.way.Way.{Way}
use Rattle.histbook.specs.declared.core_entry.CoreEntry.{CoreEntry}
use Rattle.histbook.specs.declared.entry.Entry.TheVariants as E
use Rattle.streamdefs.specs.Packet.{Packet}
use Rattle.streamdefs.specs.Terms.{Terms}
use Rattle.streamdefs.specs.Handler.{event_line, data_line}
use Rattle.streamdefs.specs.Core.{Told}
use Rattle.streamdefs.specs.Case.{line_of}
use Rattle.datagrams.specs.Flow.{Paid, OpenChunk, plain, joined}
use Rattle.datagrams.specs.Talk.{delivered}
use Rattle.datagrams.specs.Table.{Kept, HasNoId}
use Rattle.datagrams.specs.Released.{frees_from}
use Rattle.datagrams.specs.Assembled.{FreesInTurn}
use Rattle.datagrams.specs.Held.{held, late_for}
use Rattle.datagrams.proofs.Replayed.{above_in_turn}
use Rattle.datagrams.proofs.ReplaySteps.{replayed_served, charges_delivered}
use Rattle.datagrams.proofs.DatagramSteps.{freed_bytes_are}
use Rattle.datagrams.proofs.HeldCharges.{event_below}
use Rattle.datagrams.specs.Replay.{charges_in, Replayed, seen_by}

parts_turn : (from stamp : ℕ) (parts : List Paid) → from ≡ stamp → FreesInTurn stamp (frees_from from parts)
parts_turn from stamp [] e = tt
parts_turn from stamp (part ∷ parts) e = (e, parts_turn (from + 1) (suc stamp) parts (omega (arith, e)))

-- The answer to a chunk releases its charges in order; its line is that of the chunk.
pub chunk_answered : (t : Terms) (last first : ℕ) (packets done : List Packet) (book : List CoreEntry) (xs : List Kept) (k : Kept) (ys : List Kept) (conv : ℕ) (way : Way) (o : OpenChunk)
    (waiting : List Told) (finished : Option ℕ) (answered : ℕ) (text : List ℕ) (stamp : ℕ)
    → Replayed (plain t) last first done (map (line_of packets) book) (xs ++ k ∷ ys) (record { conv = conv; event = delivered way o } ∷ waiting) finished answered text
    → HasNoId conv xs → HasNoId conv ys → k.talk.id ≡ conv
    → held (late_for stamp) (xs ++ k ∷ ys) (record { conv = conv; event = delivered way o } ∷ waiting) ≡ 0
    → Replayed (plain t) last first done (map (line_of packets) (book ++ record { conv = conv; entry = E.Answer (suc answered) no_advice (frees_from stamp o.parts) } ∷ [])) (xs ++ k ∷ ys) waiting finished
    (suc answered) (text ++ data_line conv way o.start o.gap 0 0 (joined o.parts))
chunk_answered t last first packets done book xs k ys conv way o waiting finished answered text stamp r ids_x ids_y same below =
    replayed_served t last first packets done book xs k ys w waiting finished answered text (frees_from stamp o.parts) r ids_x ids_y same bytes
    (above_in_turn stamp (charges_in w.event) (frees_from stamp o.parts) (event_below stamp (xs ++ k ∷ ys) w waiting below) (parts_turn stamp stamp o.parts refl) bytes)
  where
    w : Told
    w = record { conv = conv; event = delivered way o }

    bytes : map (λ free. free.bytes) (frees_from stamp o.parts) ≡ map (λ charge. charge.bytes) (charges_in w.event)
    bytes = freed_bytes_are stamp o.parts ∙ ap (map (λ charge. charge.bytes)) (sym (charges_delivered way o))

-- The answer to an event without charges: a conversation begins, or ends.
pub other_answered : (t : Terms) (last first : ℕ) (packets done : List Packet) (book : List CoreEntry) (xs : List Kept) (k : Kept) (ys : List Kept) (w : Told) (waiting : List Told) (finished : Option ℕ)
    (answered : ℕ) (text : List ℕ)
    → Replayed (plain t) last first done (map (line_of packets) book) (xs ++ k ∷ ys) (w ∷ waiting) finished answered text
    → HasNoId w.conv xs → HasNoId w.conv ys → k.talk.id ≡ w.conv → charges_in w.event ≡ []
    → Replayed (plain t) last first done (map (line_of packets) (book ++ record { conv = w.conv; entry = E.Answer (suc answered) no_advice [] } ∷ [])) (xs ++ k ∷ ys) waiting finished (suc answered)
    (text ++ event_line w.conv (seen_by k.talk.key k.talk.toward w.event))
other_answered t last first packets done book xs k ys w waiting finished answered text r ids_x ids_y same none =
    replayed_served t last first packets done book xs k ys w waiting finished answered text [] r ids_x ids_y same (sym (ap (map (λ charge. charge.bytes)) none)) tt
