-- What a replay of datagrams does, each the contract of a function of src/laws.rt.
use Rattle.evring.specs.Advice.{no_advice}
use Rattle.evring.specs.declared.reason.Reason.TheVariants.{Finish}
use Rattle.evring.specs.declared.way.Way.TheVariants.{Back, Fore}
use Rattle.histbook.specs.InTurn.{IsInTurn, book_steps}
use Rattle.histbook.specs.Moves.{IsBudgetHistory}
use Rattle.histbook.specs.declared.core_entry.CoreEntry.{CoreEntry}
use Rattle.histbook.specs.declared.journal.Journal.{Journal}
use Rattle.histbook.specs.declared.look_entry.LookEntry.{LookEntry}
use Rattle.prio_budget.specs.declared.free.Free.{Free}
use Rattle.std.specs.Prelude.{List, None, Option, Some, [], cond, false, length, map, replicate, suc, true, ℕ, ◌++◌, ◌+◌, ◌<◌, ◌∷◌, ◌≡◌, ◌≤◌}
use Rattle.streamdefs.specs.Both.{of_way}
use Rattle.streamdefs.specs.Case.{line_of, packet_of, run_of}
use Rattle.streamdefs.specs.Convo.{Convo, Event, new_convo, segment_of}
use Rattle.streamdefs.specs.Convo.Act.{End, Seg}
use Rattle.streamdefs.specs.Convo.Event.{Ended, New}
use Rattle.streamdefs.specs.Core.{Told}
use Rattle.streamdefs.specs.Direction.{Counts, Direction, Segment, no_counts}
use Rattle.streamdefs.specs.Direction.Deed.{Arrives, Ends}
use Rattle.streamdefs.specs.Handler.{event_line}
use Rattle.streamdefs.specs.Lawful.{AreLooksFor, FinishesInOrder, Lawful}
use Rattle.streamdefs.specs.Lists.{Each, is_empty}
use Rattle.streamdefs.specs.Order.{AreAboveCharges, OneHistory}
use Rattle.streamdefs.specs.Packet.{Packet, is_tcp, same_key}
use Rattle.streamdefs.specs.Terms.{Terms}
use Rattle.streamdefs.specs.View.{Ask}
use Rattle.streamdefs.specs.WorkerText.{worker_text}
use Rattle.datagrams.specs.Flow.{Flow, IsDatagram, OpenChunk, StandsFor, chunk_list, closed_by_gap, granted_to, handed_over, left_open, part_of, plain, refused_to}
use Rattle.datagrams.specs.Replay.{Replayed, charges_in, seen_by, silent}
use Rattle.datagrams.specs.Steps.{Does, DoesEnd, DoesOne, taken_of}
use Rattle.datagrams.specs.Table.{HasNoId, HasNoKey, Kept, told_of}
use Rattle.datagrams.specs.Talk.{Talk, TalksFor, delivered, ended, way_in, with_flow}
use Rattle.histbook.specs.declared.entry.Entry.TheVariants as E

-- a datagram that is granted
abbrev pub GrantedIsPassed : Type 0
GrantedIsPassed =
    (t : Terms) (f : Flow) (d : Direction) (s : Segment) (payload : List ℕ) (look : LookEntry) → StandsFor f d → IsDatagram s payload → 0 < length payload
    → look.asked ≡ length payload → look.granted ≡ true
    → Does t d (Arrives s (look ∷ [])) (record { bytes = length payload; from = Some f.sent } ∷ []) (closed_by_gap f ++ handed_over t.chunk (granted_to f (part_of payload look)))
    (left_open t.chunk (granted_to f (part_of payload look))) (taken_of (length payload) (length payload))

-- one that is refused
abbrev pub RefusedIsShed : Type 0
RefusedIsShed =
    (t : Terms) (f : Flow) (d : Direction) (s : Segment) (payload : List ℕ) (look : LookEntry) → StandsFor f d → IsDatagram s payload → 0 < length payload
    → look.granted ≡ false
    → Does t d (Arrives s (look ∷ [])) (record { bytes = length payload; from = Some f.sent } ∷ []) (handed_over t.chunk (refused_to f (length payload)))
    (left_open t.chunk (refused_to f (length payload))) (taken_of (length payload) 0)

-- one without bytes
abbrev pub EmptyIsNothing : Type 0
EmptyIsNothing =
    (t : Terms) (f : Flow) (d : Direction) (s : Segment) → StandsFor f d → IsDatagram s []
    → Does t d (Arrives s []) [] (handed_over t.chunk (refused_to f 0)) (left_open t.chunk (refused_to f 0)) no_counts

-- an End
abbrev pub EndHandsOver : Type 0
EndHandsOver =
    (t : Terms) (f : Flow) (d : Direction) (at : ℕ) → StandsFor f d → Does t d (Ends at) [] (chunk_list f.chunk) (record f { chunk = None }) no_counts

-- a datagram's entry, by what it does to its direction
abbrev pub DatagramIsEntered : Type 0
DatagramIsEntered =
    (t : Terms) (k : Talk) (c : Convo) (p : Packet) (now : ℕ) (looks : List LookEntry) (asked : List Ask) (over : List OpenChunk) (f : Flow) (counts : Counts)
    → TalksFor true k c → is_tcp p ≡ false
    → Does t (of_way (way_in k p) c.directions) (Arrives (segment_of (plain t) c p now) looks) asked over f counts
    → DoesOne t c (Seg p now looks []) asked (cond (is_empty c.events) (New ∷ []) [] ++ map (delivered (way_in k p)) over) (with_flow (way_in k p) f k)

-- the End of a live conversation at the end of the capture
abbrev pub FinishIsEntered : Type 0
FinishIsEntered =
    (t : Terms) (k : Talk) (c : Convo) (at : ℕ) → TalksFor true k c
    → DoesEnd t c (End at Finish [] []) (map (delivered Fore) (chunk_list k.fore.chunk) ++ map (delivered Back) (chunk_list k.back.chunk) ++ Ended Finish ∷ []) (ended k)

-- before the first entry
abbrev pub ReplayBegins : Type 0
ReplayBegins =
    (terms : Terms) (last first : ℕ) → Replayed terms last first [] [] [] [] None 0 []

-- a datagram of a conversation that is kept
abbrev pub DatagramIsReplayed : Type 0
DatagramIsReplayed =
    (t : Terms) (last first : ℕ) (packets done : List Packet) (book : List CoreEntry) (xs : List Kept) (k : Talk) (ys : List Kept) (waiting : List Told) (answered : ℕ) (text : List ℕ)
    (p : Packet) (looks : List LookEntry) (asked : List Ask) (events : List Event) (next : Talk)
    → Replayed (plain t) last first done (map (line_of packets) book) (xs ++ record { live = true; talk = k } ∷ ys) waiting None answered text
    → packet_of packets p.number ≡ p
    → HasNoId k.id xs → HasNoId k.id ys → HasNoKey p.key ys → same_key k.key p.key ≡ true → is_tcp p ≡ false → next.id ≡ k.id
    → length waiting < 256 → first ≤ p.now → p.now < first + t.idle
    → ((c : Convo) → TalksFor true k c → is_empty c.events ≡ false → DoesOne t c (Seg p p.now looks []) asked events next)
    → ((c : Convo) → TalksFor true k c → AreLooksFor (plain t) c looks asked)
    → Replayed (plain t) last first (done ++ p ∷ []) (map (line_of packets) (book ++ record { conv = k.id; entry = E.Seg p.number p.now looks [] } ∷ []))
    (xs ++ record { live = true; talk = next } ∷ ys) (waiting ++ told_of k.id events) None answered text

-- a datagram that opens a conversation, when no event waits
abbrev pub FirstIsReplayed : Type 0
FirstIsReplayed =
    (t : Terms) (last first : ℕ) (packets done : List Packet) (book : List CoreEntry) (ks : List Kept) (answered : ℕ) (text : List ℕ)
    (p : Packet) (looks : List LookEntry) (asked : List Ask) (events : List Event) (next : Talk)
    → Replayed (plain t) last first done (map (line_of packets) book) ks [] None answered text
    → packet_of packets p.number ≡ p
    → HasNoId p.number ks → HasNoKey p.key ks → is_tcp p ≡ false → next.id ≡ p.number → is_empty events ≡ false → first ≤ p.now → p.now < first + t.idle
    → DoesOne t (new_convo p) (Seg p p.now looks []) asked events next
    → AreLooksFor (plain t) (new_convo p) looks asked
    → Replayed (plain t) last first (done ++ p ∷ []) (map (line_of packets) (book ++ record { conv = p.number; entry = E.Seg p.number p.now looks [] } ∷ []))
    (ks ++ record { live = true; talk = next } ∷ []) (told_of p.number events) None answered text

-- the answer to the first event that waits; its line is written
abbrev pub AnswerIsReplayed : Type 0
AnswerIsReplayed =
    (t : Terms) (last first : ℕ) (packets done : List Packet) (book : List CoreEntry) (xs : List Kept) (k : Kept) (ys : List Kept) (w : Told) (waiting : List Told) (finished : Option ℕ)
    (answered : ℕ) (text : List ℕ) (frees : List Free)
    → Replayed (plain t) last first done (map (line_of packets) book) (xs ++ k ∷ ys) (w ∷ waiting) finished answered text
    → HasNoId w.conv xs → HasNoId w.conv ys → k.talk.id ≡ w.conv
    → map (λ free. free.bytes) frees ≡ map (λ charge. charge.bytes) (charges_in w.event)
    → AreAboveCharges (charges_in w.event) frees
    → Replayed (plain t) last first done (map (line_of packets) (book ++ record { conv = w.conv; entry = E.Answer (suc answered) no_advice frees } ∷ [])) (xs ++ k ∷ ys) waiting finished (suc answered)
    (text ++ event_line w.conv (seen_by k.talk.key k.talk.toward w.event))

-- the End of a conversation at the end of the capture
abbrev pub EndIsReplayed : Type 0
EndIsReplayed =
    (t : Terms) (last first : ℕ) (packets done : List Packet) (book : List CoreEntry) (xs : List Kept) (k : Talk) (ys : List Kept) (waiting : List Told) (finished : Option ℕ)
    (answered : ℕ) (text : List ℕ) (events : List Event) (next : Talk)
    → Replayed (plain t) last first done (map (line_of packets) book) (xs ++ record { live = true; talk = k } ∷ ys) waiting finished answered text
    → HasNoId k.id xs → HasNoId k.id ys → next.id ≡ k.id → length waiting < 256 → last < first + t.idle
    → FinishesInOrder finished k.id (End last Finish [] [])
    → ((c : Convo) → TalksFor true k c → DoesEnd t c (End last Finish [] []) events next)
    → Replayed (plain t) last first done (map (line_of packets) (book ++ record { conv = k.id; entry = E.End last Finish [] [] } ∷ []))
    (xs ++ record { live = false; talk = next } ∷ ys) (waiting ++ told_of k.id events) (Some k.id) answered text

-- the whole journal: its run is lawful and one budget history, and the worker has written the text of its events
abbrev pub ReplayIsLawful : Type 0
ReplayIsLawful =
    (terms : Terms) (last first : ℕ) (packets : List Packet) (journal : Journal) (book : List CoreEntry) (table : List Kept) (finished : Option ℕ) (n end : ℕ) (text : List ℕ)
    → journal.cores ≡ book ∷ [] → journal.workers ≡ replicate n 0 ∷ []
    → Replayed terms last first packets (map (line_of packets) book) table [] finished n text
    → Each (λ k. k.live ≡ false) table
    → IsInTurn terms.marks.limit (book_steps book) 0 0 end 0
    → IsBudgetHistory terms.marks.limit journal
    → Lawful (run_of terms packets (λ p. 0) 1 last (silent ∷ []) journal) × OneHistory (run_of terms packets (λ p. 0) 1 last (silent ∷ []) journal)
    × (worker_text (run_of terms packets (λ p. 0) 1 last (silent ∷ []) journal) (replicate n 0) ≡ text)
