-- A replay under way: its entries, its budget, and what is held.
use Rattle.std.specs.Prelude.{◌≡◌, refl, ⊤, ℕ, suc, ◌+◌, ◌≤◌, ◌<◌, true, false, List, [], ◌∷◌, ◌++◌, length, replicate, Option, None, Some}
use Rattle.std.proofs.Common.{◌∙◌, ap, arith}
use Rattle.evring.specs.Advice.{no_advice}
use Rattle.evring.specs.declared.reason.Reason.TheVariants.{Finish}
use Rattle.evring.specs.declared.way.Way.{Way}
use Rattle.histbook.specs.declared.core_entry.CoreEntry.{CoreEntry}
use Rattle.histbook.specs.declared.journal.Journal.{Journal}
use Rattle.histbook.specs.declared.entry.Entry.TheVariants as E
use Rattle.histbook.specs.InTurn.{IsInTurn, entry_steps}
use Rattle.streamdefs.specs.Lists.{Each}
use Rattle.streamdefs.specs.Packet.{Packet, is_tcp, same_key}
use Rattle.streamdefs.specs.Terms.{Terms}
use Rattle.streamdefs.specs.Handler.{event_line, data_line}
use Rattle.streamdefs.specs.Convo.Act.{End}
use Rattle.streamdefs.specs.Convo.Event.{New}
use Rattle.streamdefs.specs.Core.{Told}
use Rattle.streamdefs.specs.Lawful.{Lawful, FinishesInOrder}
use Rattle.streamdefs.specs.Order.{OneHistory}
use Rattle.streamdefs.specs.WorkerText.{worker_text}
use Rattle.streamdefs.specs.Case.{packet_of, run_of}
use Rattle.datagrams.specs.Flow.{OpenChunk, plain, joined, size}
use Rattle.datagrams.specs.Talk.{Talk, delivered, ended}
use Rattle.datagrams.specs.Table.{Kept, HasNoId, HasNoKey, told_of}
use Rattle.datagrams.specs.Released.{frees_from}
use Rattle.datagrams.specs.Assembled.{Verdict, Granted, Refused, Bare, looks_by, talk_by, delivered_by, first_talk, IsVerdict}
use Rattle.datagrams.specs.Held.{held, event_weight, verdict_weight, bytes_of, late_for}
use Rattle.datagrams.proofs.Replayed.{replayed_none}
use Rattle.datagrams.proofs.ReplaySteps.{in_turn_more}
use Rattle.datagrams.proofs.DatagramSteps.{datagram_kept, datagram_new, conversation_over, last_events, granted_in_turn, refused_in_turn, answer_in_turn}
use Rattle.datagrams.proofs.AnswerSteps.{chunk_answered, other_answered}
use Rattle.datagrams.proofs.HeldCharges.{held_kept, held_new, held_over, held_served, event_of_chunk, bytes_are, none_late_later, not_late}
use Rattle.datagrams.proofs.WholeRun.{whole_run}
use Rattle.datagrams.specs.Replay.{charges_in, silent, seen_by}
use Rattle.datagrams.specs.Stands.{Standing}

pub standing_none : (t : Terms) (last first : ℕ) (packets : List Packet) → Standing t last first packets [] [] [] [] None 0 [] 0 0
standing_none t last first packets = record { replayed = replayed_none (plain t) last first; turn = (refl, refl); used_is = refl; earlier = refl }

-- a look found the present stamp and the present used number, and a grant found room
abbrev pub IsNow : (limit stamp used : ℕ) → List ℕ → Verdict → Type 0
IsNow limit stamp used payload (Granted look) = (look.look.stamp ≡ stamp) × (look.look.found ≡ used) × (used + length payload ≤ limit)
IsNow limit stamp used payload (Refused look) = (look.look.stamp ≡ stamp) × (look.look.found ≡ used)
IsNow limit stamp used payload Bare = ⊤

-- the stamp and the used number behind it
abbrev pub stamp_by : Verdict → ℕ → ℕ
stamp_by (Granted look) stamp = suc stamp
stamp_by _ stamp = stamp

abbrev pub used_by : List ℕ → Verdict → ℕ → ℕ
used_by payload (Granted look) used = used + length payload
used_by payload _ used = used

verdict_turn : (t : Terms) (conv number now stamp used : ℕ) (payload : List ℕ) (v : Verdict) → IsVerdict t payload v → IsNow t.marks.limit stamp used payload v
    → IsInTurn t.marks.limit (entry_steps (record { conv = conv; entry = E.Seg number now (looks_by v) [] })) stamp used (stamp_by v stamp) (used_by payload v used)
verdict_turn t conv number now stamp used payload (Granted look) is at = granted_in_turn t.marks.limit conv number now stamp used (length payload) look at.0 at.1 is.1 is.2 at.2
verdict_turn t conv number now stamp used payload (Refused look) is at = refused_in_turn t.marks.limit conv number now stamp used look at.0 at.1 is.2
verdict_turn t conv number now stamp used payload Bare is at = (refl, refl)

more_used : (limit stamp used : ℕ) (payload : List ℕ) (v : Verdict) (before : ℕ) → before ≡ used → before + verdict_weight bytes_of payload v ≡ used_by payload v used
more_used limit stamp used payload (Granted look) before e = omega (arith, e)
more_used limit stamp used payload (Refused look) before e = omega (arith, e)
more_used limit stamp used payload Bare before e = omega (arith, e)

later_stamp : (stamp : ℕ) (v : Verdict) → stamp ≤ stamp_by v stamp
later_stamp stamp (Granted look) = omega arith
later_stamp stamp (Refused look) = omega arith
later_stamp stamp Bare = omega arith

none_late : (limit stamp used : ℕ) (payload : List ℕ) (v : Verdict) (before : ℕ) → IsNow limit stamp used payload v → before ≡ 0 → before + verdict_weight (late_for (stamp_by v stamp)) payload v ≡ 0
none_late limit stamp used payload (Granted look) before at e = omega (arith, e, ap (λ (s : ℕ). late_for (suc stamp) (record { bytes = length payload; stamp = s })) at.0 ∙ not_late stamp (length payload))
none_late limit stamp used payload (Refused look) before at e = omega (arith, e)
none_late limit stamp used payload Bare before at e = omega (arith, e)

-- A datagram of a conversation that is kept.
pub standing_kept : (t : Terms) (last first : ℕ) (packets done : List Packet) (book : List CoreEntry) (xs : List Kept) (k : Talk) (ys : List Kept) (waiting : List Told) (answered : ℕ) (text : List ℕ)
    (stamp used : ℕ) (p : Packet) (v : Verdict)
    → Standing t last first packets done book (xs ++ record { live = true; talk = k } ∷ ys) waiting None answered text stamp used
    → packet_of packets p.number ≡ p
    → HasNoId k.id xs → HasNoId k.id ys → HasNoKey p.key ys → same_key k.key p.key ≡ true → is_tcp p ≡ false
    → length waiting < 256 → first ≤ p.now → p.now < first + t.idle → IsVerdict t p.payload v → IsNow t.marks.limit stamp used p.payload v
    → Standing t last first packets (done ++ p ∷ []) (book ++ record { conv = k.id; entry = E.Seg p.number p.now (looks_by v) [] } ∷ [])
    (xs ++ record { live = true; talk = talk_by t.chunk p v k } ∷ ys) (waiting ++ told_of k.id (delivered_by t.chunk p v k)) None answered text (stamp_by v stamp) (used_by p.payload v used)
standing_kept t last first packets done book xs k ys waiting answered text stamp used p v s here ids_x ids_y keys same udp room from until is at = record {
  replayed = datagram_kept t last first packets done book xs k ys waiting answered text p v s.replayed here ids_x ids_y keys same udp room from until is;
  turn = in_turn_more t.marks.limit book (record { conv = k.id; entry = E.Seg p.number p.now (looks_by v) [] }) 0 0 stamp used (stamp_by v stamp) (used_by p.payload v used) s.turn
      (verdict_turn t k.id p.number p.now stamp used p.payload v is at);
  used_is = held_kept bytes_of t.chunk xs k ys waiting p v ∙ more_used t.marks.limit stamp used p.payload v _ s.used_is;
  earlier = held_kept (late_for (stamp_by v stamp)) t.chunk xs k ys waiting p v
      ∙ none_late t.marks.limit stamp used p.payload v _ at (none_late_later stamp (stamp_by v stamp) (xs ++ record { live = true; talk = k } ∷ ys) waiting (later_stamp stamp v) s.earlier);
}

-- One that opens a conversation, while no event waits.
pub standing_new : (t : Terms) (last first : ℕ) (packets done : List Packet) (book : List CoreEntry) (ks : List Kept) (answered : ℕ) (text : List ℕ) (stamp used : ℕ) (p : Packet) (v : Verdict)
    → Standing t last first packets done book ks [] None answered text stamp used
    → packet_of packets p.number ≡ p
    → HasNoId p.number ks → HasNoKey p.key ks → is_tcp p ≡ false → first ≤ p.now → p.now < first + t.idle → IsVerdict t p.payload v → IsNow t.marks.limit stamp used p.payload v
    → Standing t last first packets (done ++ p ∷ []) (book ++ record { conv = p.number; entry = E.Seg p.number p.now (looks_by v) [] } ∷ [])
    (ks ++ record { live = true; talk = talk_by t.chunk p v (first_talk p) } ∷ []) (told_of p.number (New ∷ delivered_by t.chunk p v (first_talk p))) None answered text (stamp_by v stamp) (used_by p.payload v used)
standing_new t last first packets done book ks answered text stamp used p v s here ids keys udp from until is at = record {
  replayed = datagram_new t last first packets done book ks answered text p v s.replayed here ids keys udp from until is;
  turn = in_turn_more t.marks.limit book (record { conv = p.number; entry = E.Seg p.number p.now (looks_by v) [] }) 0 0 stamp used (stamp_by v stamp) (used_by p.payload v used) s.turn
      (verdict_turn t p.number p.number p.now stamp used p.payload v is at);
  used_is = held_new bytes_of t.chunk ks p v ∙ more_used t.marks.limit stamp used p.payload v _ s.used_is;
  earlier = held_new (late_for (stamp_by v stamp)) t.chunk ks p v ∙ none_late t.marks.limit stamp used p.payload v _ at (none_late_later stamp (stamp_by v stamp) ks [] (later_stamp stamp v) s.earlier);
}

-- The End of a conversation.
pub standing_over : (t : Terms) (last first : ℕ) (packets done : List Packet) (book : List CoreEntry) (xs : List Kept) (k : Talk) (ys : List Kept) (waiting : List Told) (finished : Option ℕ)
    (answered : ℕ) (text : List ℕ) (stamp used : ℕ)
    → Standing t last first packets done book (xs ++ record { live = true; talk = k } ∷ ys) waiting finished answered text stamp used
    → HasNoId k.id xs → HasNoId k.id ys → length waiting < 256 → last < first + t.idle
    → FinishesInOrder finished k.id (End last Finish [] [])
    → Standing t last first packets done (book ++ record { conv = k.id; entry = E.End last Finish [] [] } ∷ [])
    (xs ++ record { live = false; talk = ended k } ∷ ys) (waiting ++ told_of k.id (last_events k)) (Some k.id) answered text stamp used
standing_over t last first packets done book xs k ys waiting finished answered text stamp used s ids_x ids_y room until order = record {
  replayed = conversation_over t last first packets done book xs k ys waiting finished answered text s.replayed ids_x ids_y room until order;
  turn = in_turn_more t.marks.limit book (record { conv = k.id; entry = E.End last Finish [] [] }) 0 0 stamp used stamp used s.turn (refl, refl);
  used_is = held_over bytes_of xs k ys waiting ∙ s.used_is;
  earlier = held_over (late_for stamp) xs k ys waiting ∙ s.earlier;
}

-- The bytes of a chunk that waits are in use.
pub standing_holds : (t : Terms) (last first : ℕ) (packets done : List Packet) (book : List CoreEntry) (table : List Kept) (conv : ℕ) (way : Way) (o : OpenChunk) (waiting : List Told) (finished : Option ℕ)
    (answered : ℕ) (text : List ℕ) (stamp used : ℕ)
    → Standing t last first packets done book table (record { conv = conv; event = delivered way o } ∷ waiting) finished answered text stamp used
    → held bytes_of table waiting + size o.parts ≡ used
standing_holds t last first packets done book table conv way o waiting finished answered text stamp used s =
    omega (arith, s.used_is, held_served bytes_of table (record { conv = conv; event = delivered way o }) waiting, event_of_chunk bytes_of way o, bytes_are o.parts)

-- The answer to a chunk.
pub standing_answered : (t : Terms) (last first : ℕ) (packets done : List Packet) (book : List CoreEntry) (xs : List Kept) (k : Kept) (ys : List Kept) (conv : ℕ) (way : Way) (o : OpenChunk)
    (waiting : List Told) (finished : Option ℕ) (answered : ℕ) (text : List ℕ) (stamp used left : ℕ)
    → Standing t last first packets done book (xs ++ k ∷ ys) (record { conv = conv; event = delivered way o } ∷ waiting) finished answered text stamp used
    → HasNoId conv xs → HasNoId conv ys → k.talk.id ≡ conv → left + size o.parts ≡ used
    → Standing t last first packets done (book ++ record { conv = conv; entry = E.Answer (suc answered) no_advice (frees_from stamp o.parts) } ∷ []) (xs ++ k ∷ ys) waiting finished
    (suc answered) (text ++ data_line conv way o.start o.gap 0 0 (joined o.parts)) (stamp + length o.parts) left
standing_answered t last first packets done book xs k ys conv way o waiting finished answered text stamp used left s ids_x ids_y same less = record {
  replayed = chunk_answered t last first packets done book xs k ys conv way o waiting finished answered text stamp s.replayed ids_x ids_y same s.earlier;
  turn = in_turn_more t.marks.limit book (record { conv = conv; entry = E.Answer (suc answered) no_advice (frees_from stamp o.parts) }) 0 0 stamp used (stamp + length o.parts) left s.turn
      (answer_in_turn t.marks.limit conv (suc answered) stamp used (stamp + length o.parts) left o.parts refl less);
  used_is = omega (arith, less, standing_holds t last first packets done book (xs ++ k ∷ ys) conv way o waiting finished answered text stamp used s);
  earlier = none_late_later stamp (stamp + length o.parts) (xs ++ k ∷ ys) waiting (omega arith)
      (omega (arith, s.earlier, held_served (late_for stamp) (xs ++ k ∷ ys) (record { conv = conv; event = delivered way o }) waiting));
}

-- The answer to an event without charges.
pub standing_passed : (t : Terms) (last first : ℕ) (packets done : List Packet) (book : List CoreEntry) (xs : List Kept) (k : Kept) (ys : List Kept) (w : Told) (waiting : List Told) (finished : Option ℕ)
    (answered : ℕ) (text : List ℕ) (stamp used : ℕ)
    → Standing t last first packets done book (xs ++ k ∷ ys) (w ∷ waiting) finished answered text stamp used
    → HasNoId w.conv xs → HasNoId w.conv ys → k.talk.id ≡ w.conv → charges_in w.event ≡ [] → event_weight bytes_of w.event ≡ 0
    → Standing t last first packets done (book ++ record { conv = w.conv; entry = E.Answer (suc answered) no_advice [] } ∷ []) (xs ++ k ∷ ys) waiting finished (suc answered)
    (text ++ event_line w.conv (seen_by k.talk.key k.talk.toward w.event)) stamp used
standing_passed t last first packets done book xs k ys w waiting finished answered text stamp used s ids_x ids_y same none weightless = record {
  replayed = other_answered t last first packets done book xs k ys w waiting finished answered text s.replayed ids_x ids_y same none;
  turn = in_turn_more t.marks.limit book (record { conv = w.conv; entry = E.Answer (suc answered) no_advice [] }) 0 0 stamp used stamp used s.turn (refl, refl);
  used_is = omega (arith, s.used_is, weightless, held_served bytes_of (xs ++ k ∷ ys) w waiting);
  earlier = omega (arith, s.earlier, held_served (late_for stamp) (xs ++ k ∷ ys) w waiting);
}

-- The end: all have ended, none waits, nothing is used.
pub standing_whole : (t : Terms) (last first : ℕ) (packets : List Packet) (journal : Journal) (book : List CoreEntry) (table : List Kept) (finished : Option ℕ) (n stamp : ℕ) (text : List ℕ)
    → journal.cores ≡ book ∷ [] → journal.workers ≡ replicate n 0 ∷ []
    → Standing t last first packets packets book table [] finished n text stamp 0
    → Each (λ k. k.live ≡ false) table
    → Lawful (run_of (plain t) packets (λ p. 0) 1 last (silent ∷ []) journal) × OneHistory (run_of (plain t) packets (λ p. 0) 1 last (silent ∷ []) journal)
    × (worker_text (run_of (plain t) packets (λ p. 0) 1 last (silent ∷ []) journal) (replicate n 0) ≡ text)
standing_whole t last first packets journal book table finished n stamp text cores workers s dead =
    whole_run (plain t) last first packets journal book table finished n stamp text cores workers s.replayed dead s.turn
