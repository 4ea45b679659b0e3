-- A datagram, an answer and an End, by what is kept of the conversation alone.
use Rattle.std.specs.Prelude.{◌≡◌, refl, ℕ, suc, ◌+◌, ◌-◌, ◌≤◌, ◌<◌, Bool, true, false, cond, nat_le, List, [], ◌∷◌, ◌++◌, length, map, unwrap_or, Option, None, Some}
use Rattle.std.proofs.Common.{sym, ◌∙◌, ap, subst, arith}
use Rattle.evring.specs.Advice.{no_advice}
use Rattle.evring.specs.declared.reason.Reason.TheVariants.{Finish}
use Rattle.evring.specs.declared.way.Way.{Way}
use Rattle.evring.specs.declared.way.Way.TheVariants.{Fore, Back}
use Rattle.histbook.specs.declared.look_entry.LookEntry.{LookEntry}
use Rattle.histbook.specs.declared.core_entry.CoreEntry.{CoreEntry}
use Rattle.histbook.specs.declared.entry.Entry.TheVariants as E
use Rattle.streamdefs.specs.Lists.{is_empty}
use Rattle.streamdefs.specs.Both.{of_way}
use Rattle.streamdefs.specs.Marks.{mark}
use Rattle.streamdefs.specs.Packet.{Packet, is_tcp, same_key}
use Rattle.streamdefs.specs.Terms.{Terms}
use Rattle.streamdefs.specs.View.{Ask}
use Rattle.streamdefs.specs.Direction.{Direction, Segment, Counts}
use Rattle.streamdefs.specs.Direction.Deed.{Arrives}
use Rattle.streamdefs.specs.Convo.{Convo, Event, new_convo, segment_of, mark_for}
use Rattle.streamdefs.specs.Convo.Act.{Seg, End}
use Rattle.streamdefs.specs.Convo.Event.{New, Ended}
use Rattle.streamdefs.specs.Core.{Told}
use Rattle.streamdefs.specs.Lawful.{AreLooksFor, FinishesInOrder}
use Rattle.streamdefs.specs.Case.{packet_of, line_of}
use Rattle.datagrams.specs.Flow.{Flow, Paid, StandsFor, IsDatagram, plain, charge_for, size, chunk_list, left_open}
use Rattle.datagrams.specs.Talk.{Talk, TalksFor, flow_of, with_flow, way_in, delivered, ended}
use Rattle.datagrams.specs.Table.{Kept, HasNoId, HasNoKey, told_of}
use Rattle.histbook.specs.InTurn.{GiveBack, IsInTurn, entry_steps}
use Rattle.datagrams.specs.Released.{frees_from}
use Rattle.datagrams.specs.Assembled.{Verdict, Granted, Refused, Bare, looks_by, asked_by, flow_by, over_by, talk_by, delivered_by, IsVerdict, first_talk}
use Rattle.datagrams.proofs.DirectionSteps.{does_granted, does_refused, does_empty}
use Rattle.datagrams.proofs.TalkSteps.{new_talks, is_datagram, does_seg, does_finish}
use Rattle.datagrams.proofs.ReplaySteps.{replayed_seg, replayed_new, replayed_end}
use Rattle.datagrams.specs.Steps.{Does, DoesOne}
use Rattle.datagrams.specs.Replay.{Replayed}

-- One direction.
does_any : (t : Terms) (f : Flow) (d : Direction) (s : Segment) (payload : List ℕ) (v : Verdict) → StandsFor f d → IsDatagram s payload → IsVerdict t payload v
    → (counts : Counts) × Does t d (Arrives s (looks_by v)) (asked_by payload v f) (over_by t.chunk payload v f) (left_open t.chunk (flow_by payload v f)) counts
does_any t f d s payload (Granted look) st is v = (_, does_granted t f d s payload look st is v.0 v.1 v.2)
does_any t f d s payload (Refused look) st is v = (_, does_refused t f d s payload look st is v.0 v.2)
does_any t f d s payload Bare st is v = (_, does_empty t f d s st (subst (IsDatagram s) v is))

-- the look of a datagram is that of its ask
mark_is : (t : Terms) (c : Convo) (ask : Ask) → c.advised ≡ None → mark_for (plain t) c ask ≡ mark t.marks 0
mark_is t c ask e = ap (λ (a : Option ℕ). mark t.marks (unwrap_or a 0)) e

fits_any : (t : Terms) (k : Talk) (c : Convo) (payload : List ℕ) (v : Verdict) (f : Flow) → TalksFor true k c → IsVerdict t payload v → AreLooksFor (plain t) c (looks_by v) (asked_by payload v f)
fits_any t k c payload (Granted look) f st v = ((v.1, v.2 ∙ sym (ap (nat_le (look.look.found + look.asked)) (mark_is t c (record { bytes = length payload; from = Some f.sent }) st.advised) ∙ v.3), v.4), tt)
fits_any t k c payload (Refused look) f st v = ((v.1, v.2 ∙ sym (ap (nat_le (look.look.found + look.asked)) (mark_is t c (record { bytes = length payload; from = Some f.sent }) st.advised) ∙ v.3), v.4), tt)
fits_any t k c payload Bare f st v = tt

flow_stands : (k : Talk) (c : Convo) (way : Way) → TalksFor true k c → StandsFor (flow_of way k) (of_way way c.directions)
flow_stands k c Fore st = st.fore
flow_stands k c Back st = st.back

does_one : (t : Terms) (k : Talk) (c : Convo) (p : Packet) (v : Verdict) (none : Bool) → TalksFor true k c → is_tcp p ≡ false → IsVerdict t p.payload v → is_empty c.events ≡ none
    → DoesOne t c (Seg p p.now (looks_by v) []) (asked_by p.payload v (flow_of (way_in k p) k)) (cond none (New ∷ []) [] ++ delivered_by t.chunk p v k) (talk_by t.chunk p v k)
does_one t k c p v none st udp is e =
    subst (λ (b : Bool). DoesOne t c (Seg p p.now (looks_by v) []) (asked_by p.payload v (flow_of (way_in k p) k)) (cond b (New ∷ []) [] ++ delivered_by t.chunk p v k) (talk_by t.chunk p v k)) e
    (does_seg t k c p p.now (looks_by v) _ _ _ _ st udp
    (does_any t (flow_of (way_in k p) k) (of_way (way_in k p) c.directions) (segment_of (plain t) c p p.now) p.payload v (flow_stands k c (way_in k p) st) (is_datagram t k c p p.now st udp) is).1)

pub same_id : (k : Talk) (way : Way) (f : Flow) → (with_flow way f k).id ≡ k.id
same_id k Fore f = refl
same_id k Back f = refl

-- A datagram of a conversation that is kept.
pub datagram_kept : (t : Terms) (last first : ℕ) (packets done : List Packet) (book : List CoreEntry) (xs : List Kept) (k : Talk) (ys : List Kept) (waiting : List Told) (answered : ℕ) (text : List ℕ)
    (p : Packet) (v : Verdict)
    → Replayed (plain t) last first done (map (line_of packets) book) (xs ++ record { live = true; talk = k } ∷ ys) waiting None answered text
    → packet_of packets p.number ≡ p
    → HasNoId k.id xs → HasNoId k.id ys → HasNoKey p.key ys → same_key k.key p.key ≡ true → is_tcp p ≡ false
    → length waiting < 256 → first ≤ p.now → p.now < first + t.idle → IsVerdict t p.payload v
    → Replayed (plain t) last first (done ++ p ∷ []) (map (line_of packets) (book ++ record { conv = k.id; entry = E.Seg p.number p.now (looks_by v) [] } ∷ []))
    (xs ++ record { live = true; talk = talk_by t.chunk p v k } ∷ ys) (waiting ++ told_of k.id (delivered_by t.chunk p v k)) None answered text
datagram_kept t last first packets done book xs k ys waiting answered text p v r here ids_x ids_y keys same udp room from until is =
    replayed_seg t last first packets done book xs k ys waiting answered text p (looks_by v) (asked_by p.payload v (flow_of (way_in k p) k)) (delivered_by t.chunk p v k) (talk_by t.chunk p v k)
    r here ids_x ids_y keys same udp (same_id k (way_in k p) _) room from until (λ c st begun. does_one t k c p v false st udp is begun) (λ c st. fits_any t k c p.payload v _ st is)

-- A datagram that opens a conversation.
pub datagram_new : (t : Terms) (last first : ℕ) (packets done : List Packet) (book : List CoreEntry) (ks : List Kept) (answered : ℕ) (text : List ℕ) (p : Packet) (v : Verdict)
    → Replayed (plain t) last first done (map (line_of packets) book) ks [] None answered text
    → packet_of packets p.number ≡ p
    → HasNoId p.number ks → HasNoKey p.key ks → is_tcp p ≡ false → first ≤ p.now → p.now < first + t.idle → IsVerdict t p.payload v
    → Replayed (plain t) last first (done ++ p ∷ []) (map (line_of packets) (book ++ record { conv = p.number; entry = E.Seg p.number p.now (looks_by v) [] } ∷ []))
    (ks ++ record { live = true; talk = talk_by t.chunk p v (first_talk p) } ∷ []) (told_of p.number (New ∷ delivered_by t.chunk p v (first_talk p))) None answered text
datagram_new t last first packets done book ks answered text p v r here ids keys udp from until is =
    replayed_new t last first packets done book ks answered text p (looks_by v) (asked_by p.payload v (flow_of (way_in k p) k)) (New ∷ delivered_by t.chunk p v k) (talk_by t.chunk p v k)
    r here ids keys udp (same_id k (way_in k p) _) refl from until (does_one t k (new_convo p) p v true (new_talks p udp) udp is refl) (fits_any t k (new_convo p) p.payload v _ (new_talks p udp) is)
  where
    k : Talk
    k = first_talk p

-- The events of a conversation's End.
abbrev pub last_events : Talk → List Event
last_events k = map (delivered Fore) (chunk_list k.fore.chunk) ++ map (delivered Back) (chunk_list k.back.chunk) ++ Ended Finish ∷ []

pub conversation_over : (t : Terms) (last first : ℕ) (packets done : List Packet) (book : List CoreEntry) (xs : List Kept) (k : Talk) (ys : List Kept) (waiting : List Told) (finished : Option ℕ)
    (answered : ℕ) (text : List ℕ)
    → Replayed (plain t) last first done (map (line_of packets) book) (xs ++ record { live = true; talk = k } ∷ ys) waiting finished answered text
    → HasNoId k.id xs → HasNoId k.id ys → length waiting < 256 → last < first + t.idle
    → FinishesInOrder finished k.id (End last Finish [] [])
    → Replayed (plain t) last first done (map (line_of packets) (book ++ record { conv = k.id; entry = E.End last Finish [] [] } ∷ []))
    (xs ++ record { live = false; talk = ended k } ∷ ys) (waiting ++ told_of k.id (last_events k)) (Some k.id) answered text
conversation_over t last first packets done book xs k ys waiting finished answered text r ids_x ids_y room until order =
    replayed_end t last first packets done book xs k ys waiting finished answered text (last_events k) (ended k) r ids_x ids_y refl room until order (λ c st. does_finish t k c last st)

-- The frees of a chunk's parts.

pub freed_bytes_are : (stamp : ℕ) (parts : List Paid) → map (λ free. free.bytes) (frees_from stamp parts) ≡ map (λ charge. charge.bytes) (map charge_for parts)
freed_bytes_are stamp [] = refl
freed_bytes_are stamp (part ∷ parts) = ap (λ (l : List ℕ). length part.bytes ∷ l) (freed_bytes_are (stamp + 1) parts)

parts_in_turn : (limit from stamp used end left : ℕ) (parts : List Paid) → from ≡ stamp → end ≡ stamp + length parts → left + size parts ≡ used
    → IsInTurn limit (map GiveBack (frees_from from parts)) stamp used end left
parts_in_turn limit from stamp used end left [] a b c = (omega (arith, b), omega (arith, c))
parts_in_turn limit from stamp used end left (part ∷ parts) a b c =
    ((a, omega (arith, c)), parts_in_turn limit (from + 1) (suc stamp) (used - length part.bytes) end left parts (omega (arith, a)) (omega (arith, b)) (omega (arith, c)))

-- the entry of an answer whose frees are those of parts is in turn
pub answer_in_turn : (limit conv event stamp used end left : ℕ) (parts : List Paid) → end ≡ stamp + length parts → left + size parts ≡ used
    → IsInTurn limit (entry_steps (record { conv = conv; entry = E.Answer event no_advice (frees_from stamp parts) })) stamp used end left
answer_in_turn limit conv event stamp used end left parts b c = parts_in_turn limit stamp stamp used end left parts refl b c

-- the stamp and the used number behind a datagram
pub granted_in_turn : (limit conv number now stamp used bytes : ℕ) (look : LookEntry) → look.look.stamp ≡ stamp → look.look.found ≡ used → look.asked ≡ bytes → look.granted ≡ true → used + bytes ≤ limit
    → IsInTurn limit (entry_steps (record { conv = conv; entry = E.Seg number now (look ∷ []) [] })) stamp used (suc stamp) (used + bytes)
granted_in_turn limit conv number now stamp used bytes look s f a g room =
    ((s, f, λ yes_granted. omega (arith, room, a)), (ap (λ (b : Bool). cond b (suc stamp) stamp) (sym g), ap (λ (b : Bool). cond b (used + bytes) used) (sym g) ∙ ap (λ (n : ℕ). cond look.granted (used + n) used) (sym a)))

pub refused_in_turn : (limit conv number now stamp used : ℕ) (look : LookEntry) → look.look.stamp ≡ stamp → look.look.found ≡ used → look.granted ≡ false
    → IsInTurn limit (entry_steps (record { conv = conv; entry = E.Seg number now (look ∷ []) [] })) stamp used stamp used
refused_in_turn limit conv number now stamp used look s f g =
    ((s, f, λ yes_granted. absurd cc), (ap (λ (b : Bool). cond b (suc stamp) stamp) (sym g), ap (λ (b : Bool). cond b (used + look.asked) used) (sym g)))
