-- A replay's steps, against the packets that it took.
use Rattle.std.specs.Prelude.{◌≡◌, refl, ℕ, zero, suc, ◌+◌, ◌-◌, ◌≤◌, ◌<◌, ◌^◌, Bool, true, false, cond, nat_le, List, [], ◌∷◌, ◌++◌, length, map, flat_map, max, take, drop, Option, None, Some}
use Rattle.std.proofs.Common.{sym, ◌∙◌, ap, subst, arith, get_or, set, add-zero}
use Rattle.std.proofs.lemmas.List.{append_assoc, length-drop, length-map, map-append}
use Rattle.std.proofs.Math.Seq.{map-set_same, take-suc-set}
use Rattle.evring.specs.Advice.{no_advice}
use Rattle.evring.specs.declared.reason.Reason.TheVariants.{Finish}
use Rattle.evring.specs.declared.way.Way.{Way}
use Rattle.evring.specs.declared.way.Way.TheVariants.{Fore, Back}
use Rattle.histbook.specs.declared.look_entry.LookEntry.{LookEntry}
use Rattle.histbook.specs.declared.core_entry.CoreEntry.{CoreEntry}
use Rattle.histbook.specs.declared.entry.Entry.TheVariants as E
use Rattle.histbook.specs.InTurn.{Ask, GiveBack, book_steps, kept_peak}
use Rattle.histbook.specs.Moves.{looks_in}
use Rattle.prio_budget.specs.BudgetParts.{BudgetParts}
use Rattle.streamdefs.specs.Both.{Both, both, of_way}
use Rattle.streamdefs.specs.Lists.{Each}
use Rattle.streamdefs.specs.Marks.{mark}
use Rattle.streamdefs.specs.Packet.{Packet, is_tcp}
use Rattle.streamdefs.specs.Terms.{Terms}
use Rattle.streamdefs.specs.Totals.{refused}
use Rattle.streamdefs.specs.Direction.Deed.{Arrives}
use Rattle.streamdefs.specs.Convo.{Convo, Event, new_convo, segment_of}
use Rattle.streamdefs.specs.Convo.Act.{Seg, Answer, End}
use Rattle.streamdefs.specs.Convo.Event.{New, Ended}
use Rattle.streamdefs.specs.Lawful.{FinishesInOrder}
use Rattle.streamdefs.specs.Core.{Core, Line, Told, idle_core, core_at, core_after}
use Rattle.streamdefs.specs.Case.{line_of}
use Rattle.datagrams.specs.declared.conversation.Conversation.{Conversation}
use Rattle.datagrams.specs.Assembled.{Verdict, Granted, Refused, Bare, IsVerdict, asked_by, delivered_by, first_talk, flow_by, looks_by, over_by, talk_by}
use Rattle.datagrams.specs.Entered.{Entry, entered}
use Rattle.datagrams.specs.Flow.{OpenChunk, chunk_list, dry, handed_over, left_open, plain, refused_to}
use Rattle.datagrams.specs.Rows.{IsPlaced, NoneHasKey, half_of, row_of, rows_of, unbegun}
use Rattle.datagrams.specs.Stands.{Face, Fits, IsNext, IsOf, IsShut, IsThere, Standing, Stands, face_of, faces_of, finished_in, last_of, numbers_in, rows_at}
use Rattle.datagrams.specs.State.{State, Untold, Waits, Opened, Handed, Over, answered_first, answered_many, closed_half, conversation_with, frees_for, fresh, granted_by, handed, told_as, way_at, with_answer, with_conversation, with_datagram_at, with_end_at}
use Rattle.datagrams.specs.Steps.{Does, taken_of}
use Rattle.datagrams.specs.Sums.{Rises, Row, Sums, Tallies, kept_in, no_sums, number_of, with_chunks, with_datagram, with_end, with_entry}
use Rattle.datagrams.specs.Table.{HasNoId, Kept, told_of}
use Rattle.datagrams.specs.Talk.{Talk, TalksFor, delivered, ended, flow_of, way_in, with_flow}
use Rattle.datagrams.proofs.AssembleLemmas.{line_at_seg}
use Rattle.datagrams.proofs.DatagramSteps.{last_events, same_id}
use Rattle.datagrams.proofs.PeakLemmas.{kept_asked, kept_booked, kept_given, refused_booked}
use Rattle.datagrams.proofs.PlaceLemmas.{rows_lack, rows_push, rows_set, rows_split}
use Rattle.datagrams.proofs.Replayed.{book_grows}
use Rattle.datagrams.proofs.RowLemmas.{IsUnder, RowFor, each_append, each_back, each_front, each_like, face_in, finished_below, finished_next, kept_split, row_for, rows_cut, rows_ended, rows_live, rows_numbers, set_last, there_at, there_last, there_push}
use Rattle.datagrams.proofs.Standing.{IsNow, stamp_by, standing_kept, standing_new, standing_none, standing_over, used_by}
use Rattle.datagrams.proofs.StateSteps.{IsBy, answer_kept, entered_by, verdict_by, verdict_for, verdict_now}
use Rattle.datagrams.proofs.TallyReport.{lone_number, no_id_above, rises_push}
use Rattle.datagrams.proofs.TallySteps.{answer_tallies, empty_does, end_tallies, first_way, granted_does, new_tallies, refused_does, seg_tallies, tallies_next}
use Rattle.datagrams.proofs.TalkSteps.{new_talks}

-- the core behind the entries so far
abbrev core_in : Terms → List Packet → List CoreEntry → Core
core_in t packets book = core_at (plain t) idle_core (map (line_of packets) book)

-- totals, with an entry more in the book
pub booked : (t : Terms) (packets : List Packet) (book : List CoreEntry) (entry : CoreEntry) (line : Line) (rows : List Row) → line_of packets entry ≡ line
    → Tallies t (map (line_of packets) book ++ line ∷ []) rows (core_after (plain t) (core_in t packets book) line).convos
    → Tallies t (map (line_of packets) (book ++ entry ∷ [])) rows (core_in t packets (book ++ entry ∷ [])).convos
booked t packets book entry line rows e h =
    subst (λ (lines : List Line). Tallies t lines rows (core_at (plain t) idle_core lines).convos) (sym (book_grows packets book entry line e))
    (tallies_next t (map (line_of packets) book) rows (core_in t packets book) line refl h)

-- The answer to the first event that waits.

fits_row : (r : Row) (u : Untold) → IsOf (face_in r) u → number_of r ≡ u.conv
fits_row r u h = h.0

pub stands_answer : (t : Terms) (last first : ℕ) (packets done : List Packet) (ended : ℕ) (s : State) (u : Untold) (rest : List Untold) → s.waiting ≡ u ∷ rest
    → Stands t last first packets done ended s → Stands t last first packets done ended (with_answer s u rest)
stands_answer t last first packets done ended s u rest waits h = record {
  mark_is = h.mark_is;
  least_is = h.least_is;
  limit_is = limit u.event;
  within = subst (λ (n : ℕ). s.mark ≤ n) (h.limit_is ∙ sym (limit u.event)) h.within;
  standing = subst (λ (kept : List Kept). Standing t last first packets done (s.book ++ entry ∷ []) kept (map told_as rest) (finished_in ended s.table) (suc s.answered) next.text next.budget.stamp next.budget.used) (sym kept_is)
      (answer_kept t last first packets done s (kept_in found.xs) found.row.kept (kept_in found.ys) u.conv u.event rest (finished_in ended s.table) standing lone.0 lone.1 found.of.0 found.of.1);
  tallies = subst (λ (rows : List Row). Tallies t (map (line_of packets) (s.book ++ entry ∷ [])) rows (core_in t packets (s.book ++ entry ∷ [])).convos) (sym found.is)
      (booked t packets s.book entry (record { conv = u.conv; act = Answer (suc s.answered) no_advice (frees_for s.budget.stamp u.event) }) (found.xs ++ found.row ∷ found.ys) refl
      (answer_tallies t (map (line_of packets) s.book) found.xs found.row found.ys (core_in t packets s.book) u.conv (suc s.answered) no_advice (frees_for s.budget.stamp u.event)
      (subst (λ (rows : List Row). Tallies t (map (line_of packets) s.book) rows (core_in t packets s.book).convos) found.is h.tallies) lone.0 lone.1 found.of.0));
  rise = h.rise;
  there = all.1;
  shut = h.shut;
  early = h.early;
  peak_is = h.peak_is ∙ sym (given u.event);
  high = less u.event;
  refused_is = h.refused_is ∙ sym (refused_booked s.book entry ∙ add-zero (refused (flat_map (λ (entry : CoreEntry). looks_in entry.entry) s.book)));
}
  where
    next : State
    next = with_answer s u rest

    entry : CoreEntry
    entry = record { conv = u.conv; entry = E.Answer (suc s.answered) no_advice (frees_for s.budget.stamp u.event) }

    all : Each (IsThere (faces_of s.table)) (u ∷ rest)
    all = subst (Each (IsThere (faces_of s.table))) waits h.there

    found : RowFor u (rows_at ended s.table)
    found = row_for ended s.table u all.0

    kept_is : kept_in (rows_at ended s.table) ≡ kept_in found.xs ++ found.row.kept ∷ kept_in found.ys
    kept_is = ap kept_in found.is ∙ kept_split found.xs found.row found.ys

    lone_at : HasNoId (number_of found.row) (kept_in found.xs) × HasNoId (number_of found.row) (kept_in found.ys)
    lone_at = lone_number found.xs found.row found.ys (subst Rises (sym (rows_numbers ended s.table) ∙ ap (map number_of) found.is) h.rise)

    lone : HasNoId u.conv (kept_in found.xs) × HasNoId u.conv (kept_in found.ys)
    lone = subst (λ (n : ℕ). HasNoId n (kept_in found.xs) × HasNoId n (kept_in found.ys)) found.of.0 lone_at

    standing : Standing t last first packets done s.book (kept_in found.xs ++ found.row.kept ∷ kept_in found.ys) (told_as u ∷ map told_as rest) (finished_in ended s.table) s.answered s.text s.budget.stamp s.budget.used
    standing = subst (λ (x : List Kept × List Untold). Standing t last first packets done s.book x.0 (map told_as x.1) (finished_in ended s.table) s.answered s.text s.budget.stamp s.budget.used) (λ i. (kept_is i, waits i)) h.standing

    limit : (w : Waits) → (with_answer s (record { conv = u.conv; event = w }) rest).budget.limit ≡ t.marks.limit
    limit (Opened key toward) = h.limit_is
    limit (Handed way o) = h.limit_is
    limit (Over reason) = h.limit_is

    less : (w : Waits) → (with_answer s (record { conv = u.conv; event = w }) rest).budget.used ≤ s.peak
    less (Opened key toward) = h.high
    less (Handed way o) = omega (arith, h.high)
    less (Over reason) = h.high

    given : (w : Waits) → kept_peak (book_steps (s.book ++ record { conv = u.conv; entry = E.Answer (suc s.answered) no_advice (frees_for s.budget.stamp w) } ∷ [])) 0 0 ≡ kept_peak (book_steps s.book) 0 0
    given w =
        kept_booked t.marks.limit s.book (record { conv = u.conv; entry = E.Answer (suc s.answered) no_advice (frees_for s.budget.stamp w) }) s.budget.stamp s.budget.used h.standing.turn
        ∙ kept_given (frees_for s.budget.stamp w) s.budget.used (kept_peak (book_steps s.book) 0 0) (omega (arith, h.high, h.peak_is))

-- A datagram of a conversation that is there.

-- what was taken of it
abbrev taken_by : List ℕ → Verdict → ℕ
taken_by payload (Granted look) = length payload
taken_by payload (Refused look) = 0
taken_by payload Bare = 0

verdict_does : (t : Terms) (k : Talk) (p : Packet) (v : Verdict) → is_tcp p ≡ false → IsVerdict t p.payload v → (c : Convo) → TalksFor true k c
    → Does t (of_way (way_in k p) c.directions) (Arrives (segment_of (plain t) c p p.now) (looks_by v)) (asked_by p.payload v (flow_of (way_in k p) k)) (over_by t.chunk p.payload v (flow_of (way_in k p) k))
    (left_open t.chunk (flow_by p.payload v (flow_of (way_in k p) k))) (taken_of (length p.payload) (taken_by p.payload v))
verdict_does t k p (Granted look) udp is c st = granted_does t k c p p.now look st udp is.0 is.1 is.2
verdict_does t k p (Refused look) udp is c st = refused_does t k c p p.now look st udp is.0 is.2
verdict_does t k p Bare udp is c st =
    subst (λ (n : ℕ). Does t (of_way (way_in k p) c.directions) (Arrives (segment_of (plain t) c p p.now) []) []
    (handed_over t.chunk (refused_to (flow_of (way_in k p) k) n)) (left_open t.chunk (refused_to (flow_of (way_in k p) k) n)) (taken_of (length p.payload) 0)) (ap length is)
    (empty_does t k c p p.now st udp is)

-- a conversation's talk, as a row has it
abbrev talk_for : Conversation → Talk
talk_for c = (row_of true c).kept.talk

abbrev sums_for : Conversation → Both Sums
sums_for c = (row_of true c).sums

granted_is : (t : Terms) (payload : List ℕ) (v : Verdict) → IsVerdict t payload v → granted_by (looks_by v) ≡ taken_by payload v
granted_is t payload (Granted look) is = ap (λ (b : Bool). cond b look.asked 0 + 0) is.2 ∙ omega (arith, is.1)
granted_is t payload (Refused look) is = ap (λ (b : Bool). cond b look.asked 0 + 0) is.2 ∙ omega arith
granted_is t payload Bare is = refl

-- the row of a conversation with a datagram
row_entered : (t : Terms) (budget : BudgetParts) (way : Way) (c : Conversation) (payload : List ℕ) (v : Verdict) (e : Entry) → IsVerdict t payload v → IsBy t.chunk budget (half_of way c) payload v e
    → row_of true (conversation_with way e (length payload) c)
    ≡ record { kept = record { live = true; talk = with_flow way (left_open t.chunk (flow_by payload v (flow_of way (talk_for c)))) (talk_for c) }; sums = with_entry way (length payload) (taken_by payload v) (over_by t.chunk payload v (flow_of way (talk_for c))) (sums_for c) }
row_entered t budget Fore c payload v e is h = λ i. record {
  kept = record { live = true; talk = record { id = c.number; key = c.key; toward = c.toward; fore = h.flow i; back = c.back } };
  sums = record { fore = with_chunks (with_datagram c.fore_sums (length payload) ((ap granted_by h.looks ∙ granted_is t payload v is) i)) (h.over i); back = c.back_sums };
}
row_entered t budget Back c payload v e is h = λ i. record {
  kept = record { live = true; talk = record { id = c.number; key = c.key; toward = c.toward; fore = c.fore; back = h.flow i } };
  sums = record { fore = c.fore_sums; back = with_chunks (with_datagram c.back_sums (length payload) ((ap granted_by h.looks ∙ granted_is t payload v is) i)) (h.over i) };
}

-- its face is as it was
face_entered : (way : Way) (e : Entry) (bytes : ℕ) (c : Conversation) → face_of (conversation_with way e bytes c) ≡ face_of c
face_entered Fore e bytes c = refl
face_entered Back e bytes c = refl

over_entered : (t : Terms) (budget : BudgetParts) (way : Way) (c : Conversation) (payload : List ℕ) (v : Verdict) (e : Entry) → IsBy t.chunk budget (half_of way c) payload v e
    → e.over ≡ over_by t.chunk payload v (flow_of way (talk_for c))
over_entered t budget Fore c payload v e h = h.over
over_entered t budget Back c payload v e h = h.over

-- chunks that are handed over wait
pub told_handed : (conv : ℕ) (way : Way) (over : List OpenChunk) → map told_as (handed conv way over) ≡ told_of conv (map (delivered way) over)
told_handed conv way [] = refl
told_handed conv way (o ∷ over) = ap (λ (l : List Told). record { conv = conv; event = delivered way o } ∷ l) (told_handed conv way over)

pub there_handed : (faces : List Face) (conv : ℕ) (way : Way) → ((w : OpenChunk) → IsThere faces (record { conv = conv; event = Handed way w })) → (over : List OpenChunk) → Each (IsThere faces) (handed conv way over)
there_handed faces conv way h [] = tt
there_handed faces conv way h (o ∷ over) = (h o, there_handed faces conv way h over)

-- the mark is within the budget
verdict_is : (t : Terms) (s : State) (budget : BudgetParts) (payload : List ℕ) → s.mark ≡ mark t.marks 0 → (0 < length payload → budget.stamp < 2 ^ 31) → IsVerdict t payload (verdict_for s.mark budget payload)
verdict_is t s budget [] m stamp = refl
verdict_is t s budget (b ∷ bytes) m stamp = by (nat_le (budget.used + suc (length bytes)) s.mark) refl
  where
    by : (given : Bool) → nat_le (budget.used + suc (length bytes)) s.mark ≡ given → IsVerdict t (b ∷ bytes) (verdict_by given (record { asked = suc (length bytes); granted = given; look = record { stamp = budget.stamp; found = budget.used } }))
    by true q = (omega arith, refl, refl, ap (nat_le (budget.used + suc (length bytes))) (sym m) ∙ q, stamp (omega arith))
    by false q = (omega arith, refl, refl, ap (nat_le (budget.used + suc (length bytes))) (sym m) ∙ q, stamp (omega arith))

pub stands_datagram : (t : Terms) (last first : ℕ) (packets done : List Packet) (s : State) (i : ℕ) (d : Conversation) (p : Packet)
    → Stands t last first packets done 0 s → IsPlaced p.key s.table i → length s.waiting < 256 → IsNext t first packets done p → (0 < length p.payload → s.budget.stamp < 2 ^ 31)
    → Stands t last first packets (done ++ p ∷ []) 0
    (with_datagram_at s i (get_or s.table i d).number (get_or s.table i d) (way_at (get_or s.table i d) p.toward) p.number p.now p.payload)
stands_datagram t last first packets done s i d p h place room next stamp = record {
  mark_is = h.mark_is;
  least_is = h.least_is;
  limit_is = by.limit ∙ h.limit_is;
  within = subst (λ (n : ℕ). s.mark ≤ n) (sym by.limit) h.within;
  standing = subst (λ (x : List CoreEntry × List Kept × List Told × ℕ × ℕ). Standing t last first packets (done ++ p ∷ []) x.0 x.1 x.2 None s.answered s.text x.3 x.4)
      (λ j. (s.book ++ record { conv = c.number; entry = E.Seg p.number p.now (sym by.looks j) [] } ∷ [], sym kept_next j, sym waits j, sym by.stamp j, sym by.used j)) entered_;
  tallies = subst (λ (x : List LookEntry × List Row). Tallies t (map (line_of packets) (s.book ++ record { conv = c.number; entry = E.Seg p.number p.now x.0 [] } ∷ [])) x.1
      (core_in t packets (s.book ++ record { conv = c.number; entry = E.Seg p.number p.now x.0 [] } ∷ [])).convos) (λ j. (sym by.looks j, sym rows_next j)) counted_;
  rise = subst Rises (sym numbers) h.rise;
  there = subst (λ (f : List Face). Each (IsThere f) (s.waiting ++ handed c.number way e.over)) (sym faces)
      (each_append (IsThere (faces_of s.table)) s.waiting (handed c.number way e.over) h.there
      (there_handed (faces_of s.table) c.number way (λ o. there_at s.table i d (record { conv = c.number; event = Handed way o }) place.within (refl, tt)) e.over));
  shut = tt;
  early = λ m all. subst (Each (λ n. n < m)) (sym numbers) (h.early m (each_front (λ (q : Packet). q.number < m) done (p ∷ []) all));
  peak_is = ap (max s.peak) by.used ∙ sym peak_next;
  high = omega arith;
  refused_is = omega (arith, h.refused_is, refused_booked s.book (record { conv = c.number; entry = E.Seg p.number p.now e.looks [] }));
}
  where
    c : Conversation
    c = get_or s.table i d

    way : Way
    way = way_at c p.toward

    k : Talk
    k = talk_for c

    e : Entry
    e = entered s.mark s.least s.budget (half_of way c) p.payload

    v : Verdict
    v = verdict_for s.mark s.budget p.payload

    is : IsVerdict t p.payload v
    is = verdict_is t s s.budget p.payload h.mark_is stamp

    by : IsBy t.chunk s.budget (half_of way c) p.payload v e
    by = subst (λ (n : ℕ). IsBy n s.budget (half_of way c) p.payload v (entered s.mark s.least s.budget (half_of way c) p.payload)) h.least_is (entered_by s.mark s.least s.budget (half_of way c) p.payload)

    now : IsNow t.marks.limit s.budget.stamp s.budget.used p.payload v
    now = verdict_now t.marks.limit s.mark s.budget p.payload (omega (arith, h.within, h.limit_is))

    peak_next : kept_peak (book_steps (s.book ++ record { conv = c.number; entry = E.Seg p.number p.now e.looks [] } ∷ [])) 0 0 ≡ max s.peak (used_by p.payload v s.budget.used)
    peak_next =
        ap (λ (looks : List LookEntry). kept_peak (book_steps (s.book ++ record { conv = c.number; entry = E.Seg p.number p.now looks [] } ∷ [])) 0 0) by.looks
        ∙ kept_booked t.marks.limit s.book (record { conv = c.number; entry = E.Seg p.number p.now (looks_by v) [] }) s.budget.stamp s.budget.used h.standing.turn
        ∙ ap (kept_peak (map Ask (looks_by v) ++ map GiveBack []) s.budget.used) (sym h.peak_is)
        ∙ kept_asked t p.payload v s.budget.used s.peak is h.high

    xs : List Row
    xs = rows_of true (take i s.table)

    ys : List Row
    ys = rows_of true (drop (suc i) s.table)

    rows_are : rows_at 0 s.table ≡ xs ++ row_of true c ∷ ys
    rows_are = rows_live s.table ∙ rows_split true s.table i d place.within

    row : Row
    row = record { kept = record { live = true; talk = talk_by t.chunk p v k }; sums = with_entry way (length p.payload) (taken_by p.payload v) (over_by t.chunk p.payload v (flow_of way k)) (sums_for c) }

    rows_next : rows_at 0 (set s.table i (conversation_with way e (length p.payload) c)) ≡ xs ++ row ∷ ys
    rows_next =
        rows_live (set s.table i (conversation_with way e (length p.payload) c)) ∙ rows_set true s.table i (conversation_with way e (length p.payload) c) place.within
        ∙ ap (λ (r : Row). xs ++ r ∷ ys) (row_entered t s.budget way c p.payload v e is by)

    kept_next : kept_in (rows_at 0 (set s.table i (conversation_with way e (length p.payload) c))) ≡ kept_in xs ++ row.kept ∷ kept_in ys
    kept_next = ap kept_in rows_next ∙ kept_split xs row ys

    waits : map told_as (s.waiting ++ handed c.number way e.over) ≡ map told_as s.waiting ++ told_of c.number (delivered_by t.chunk p v k)
    waits =
        map-append told_as s.waiting (handed c.number way e.over)
        ∙ ap (λ (l : List Told). map told_as s.waiting ++ l) (told_handed c.number way e.over ∙ ap (λ (over : List OpenChunk). told_of c.number (map (delivered way) over)) (over_entered t s.budget way c p.payload v e by))

    lone : HasNoId c.number (kept_in xs) × HasNoId c.number (kept_in ys)
    lone = lone_number xs (row_of true c) ys (subst Rises (sym (rows_numbers 0 s.table) ∙ ap (map number_of) rows_are) h.rise)

    standing : Standing t last first packets done s.book (kept_in xs ++ record { live = true; talk = k } ∷ kept_in ys) (map told_as s.waiting) None s.answered s.text s.budget.stamp s.budget.used
    standing = subst (λ (kept : List Kept). Standing t last first packets done s.book kept (map told_as s.waiting) None s.answered s.text s.budget.stamp s.budget.used) (ap kept_in rows_are ∙ kept_split xs (row_of true c) ys) h.standing

    room_told : length (map told_as s.waiting) < 256
    room_told = omega (arith, room, length-map s.waiting told_as)

    entered_ : Standing t last first packets (done ++ p ∷ []) (s.book ++ record { conv = c.number; entry = E.Seg p.number p.now (looks_by v) [] } ∷ []) (kept_in xs ++ row.kept ∷ kept_in ys)
        (map told_as s.waiting ++ told_of c.number (delivered_by t.chunk p v k)) None s.answered s.text (stamp_by v s.budget.stamp) (used_by p.payload v s.budget.used)
    entered_ =
        standing_kept t last first packets done s.book (kept_in xs) k (kept_in ys) (map told_as s.waiting) s.answered s.text s.budget.stamp s.budget.used p v standing next.here lone.0 lone.1
        (rows_lack true p.key (drop (suc i) s.table) place.behind) (place.has d) next.udp room_told next.from next.until is now

    counted_ : Tallies t (map (line_of packets) (s.book ++ record { conv = c.number; entry = E.Seg p.number p.now (looks_by v) [] } ∷ [])) (xs ++ row ∷ ys)
        (core_in t packets (s.book ++ record { conv = c.number; entry = E.Seg p.number p.now (looks_by v) [] } ∷ [])).convos
    counted_ =
        booked t packets s.book (record { conv = c.number; entry = E.Seg p.number p.now (looks_by v) [] }) (record { conv = c.number; act = Seg p p.now (looks_by v) [] }) (xs ++ row ∷ ys)
        (line_at_seg packets p c.number p.now (looks_by v) [] next.here)
        (seg_tallies t first (map (line_of packets) s.book) xs k (sums_for c) ys (map told_as s.waiting) None (core_in t packets s.book) p (looks_by v) _ (over_by t.chunk p.payload v (flow_of way k)) _ _
        (taken_by p.payload v) (talk_by t.chunk p v k) standing.replayed.stands (subst (λ (rows : List Row). Tallies t (map (line_of packets) s.book) rows (core_in t packets s.book).convos) rows_are h.tallies)
        lone.0 lone.1 (same_id k way _) (verdict_does t k p v next.udp is) refl)

    numbers : numbers_in (set s.table i (conversation_with way e (length p.payload) c)) ≡ numbers_in s.table
    numbers = map-set_same (λ (x : Conversation). x.number) s.table i (conversation_with way e (length p.payload) c) d (ap (λ (face : Face). face.number) (face_entered way e (length p.payload) c))

    faces : faces_of (set s.table i (conversation_with way e (length p.payload) c)) ≡ faces_of s.table
    faces = map-set_same face_of s.table i (conversation_with way e (length p.payload) c) d (face_entered way e (length p.payload) c)

-- A datagram that opens a conversation, while no event waits.

abbrev opened_at : State → Packet → State
opened_at s p = with_conversation s p.number p.key p.toward

pub stands_new : (t : Terms) (last first : ℕ) (packets done : List Packet) (s : State) (p : Packet)
    → Stands t last first packets done 0 s → NoneHasKey p.key s.table → s.waiting ≡ [] → IsNext t first packets done p → (0 < length p.payload → s.budget.stamp < 2 ^ 31)
    → Stands t last first packets (done ++ p ∷ []) 0
    (with_datagram_at (opened_at s p) (length s.table) p.number (unbegun p.number p.key p.toward) Fore p.number p.now p.payload)
stands_new t last first packets done s p h none calm next stamp = record {
  mark_is = h.mark_is;
  least_is = h.least_is;
  limit_is = by.limit ∙ h.limit_is;
  within = subst (λ (n : ℕ). s.mark ≤ n) (sym by.limit) h.within;
  standing = subst (λ (x : List CoreEntry × List Kept × List Told × ℕ × ℕ). Standing t last first packets (done ++ p ∷ []) x.0 x.1 x.2 None s.answered s.text x.3 x.4)
      (λ j. (s.book ++ record { conv = p.number; entry = E.Seg p.number p.now (sym by.looks j) [] } ∷ [], sym kept_next j, sym waits j, sym by.stamp j, sym by.used j)) entered_;
  tallies = subst (λ (x : List LookEntry × List Row). Tallies t (map (line_of packets) (s.book ++ record { conv = p.number; entry = E.Seg p.number p.now x.0 [] } ∷ [])) x.1
      (core_in t packets (s.book ++ record { conv = p.number; entry = E.Seg p.number p.now x.0 [] } ∷ [])).convos) (λ j. (sym by.looks j, sym rows_next j)) counted_;
  rise = subst Rises (sym numbers) (rises_push (numbers_in s.table) p.number h.rise (h.early p.number next.above));
  there = subst (λ (f : List Face). Each (IsThere f) (s.waiting ++ opened ∷ [] ++ handed p.number Fore e.over)) (sym faces)
      (each_append (IsThere (faces_of s.table ++ face ∷ [])) (s.waiting ++ opened ∷ []) (handed p.number Fore e.over)
      (each_append (IsThere (faces_of s.table ++ face ∷ [])) s.waiting (opened ∷ []) (each_like (IsThere (faces_of s.table)) (IsThere (faces_of s.table ++ face ∷ [])) (there_push (faces_of s.table) face) s.waiting h.there)
      (there_last (faces_of s.table) face opened (refl, (refl, refl)), tt))
      (there_handed (faces_of s.table ++ face ∷ []) p.number Fore (λ o. there_last (faces_of s.table) face (record { conv = p.number; event = Handed Fore o }) (refl, tt)) e.over));
  shut = tt;
  early = λ m all. subst (Each (λ n. n < m)) (sym numbers) (each_append (λ n. n < m) (numbers_in s.table) (p.number ∷ []) (h.early m (each_front (λ (q : Packet). q.number < m) done (p ∷ []) all)) ((each_back (λ (q : Packet). q.number < m) done (p ∷ []) all).0, tt));
  peak_is = ap (max s.peak) by.used ∙ sym peak_next;
  high = omega arith;
  refused_is = omega (arith, h.refused_is, refused_booked s.book (record { conv = p.number; entry = E.Seg p.number p.now e.looks [] }));
}
  where
    c : Conversation
    c = unbegun p.number p.key p.toward

    face : Face
    face = face_of c

    opened : Untold
    opened = record { conv = p.number; event = Opened p.key p.toward }

    k : Talk
    k = first_talk p

    e : Entry
    e = entered s.mark s.least s.budget dry p.payload

    v : Verdict
    v = verdict_for s.mark s.budget p.payload

    is : IsVerdict t p.payload v
    is = verdict_is t s s.budget p.payload h.mark_is stamp

    by : IsBy t.chunk s.budget dry p.payload v e
    by = subst (λ (n : ℕ). IsBy n s.budget dry p.payload v (entered s.mark s.least s.budget dry p.payload)) h.least_is (entered_by s.mark s.least s.budget dry p.payload)

    now : IsNow t.marks.limit s.budget.stamp s.budget.used p.payload v
    now = verdict_now t.marks.limit s.mark s.budget p.payload (omega (arith, h.within, h.limit_is))

    peak_next : kept_peak (book_steps (s.book ++ record { conv = p.number; entry = E.Seg p.number p.now e.looks [] } ∷ [])) 0 0 ≡ max s.peak (used_by p.payload v s.budget.used)
    peak_next =
        ap (λ (looks : List LookEntry). kept_peak (book_steps (s.book ++ record { conv = p.number; entry = E.Seg p.number p.now looks [] } ∷ [])) 0 0) by.looks
        ∙ kept_booked t.marks.limit s.book (record { conv = p.number; entry = E.Seg p.number p.now (looks_by v) [] }) s.budget.stamp s.budget.used h.standing.turn
        ∙ ap (kept_peak (map Ask (looks_by v) ++ map GiveBack []) s.budget.used) (sym h.peak_is)
        ∙ kept_asked t p.payload v s.budget.used s.peak is h.high

    rows : List Row
    rows = rows_of true s.table

    next_c : Conversation
    next_c = conversation_with Fore e (length p.payload) c

    way : way_in k p ≡ Fore
    way = first_way p

    row : Row
    row = record { kept = record { live = true; talk = talk_by t.chunk p v k }; sums = with_entry (way_in k p) (length p.payload) (taken_by p.payload v) (over_by t.chunk p.payload v (flow_of (way_in k p) k)) (both no_sums) }

    row_is : row_of true next_c ≡ row
    row_is =
        row_entered t s.budget Fore c p.payload v e is by
        ∙ (λ j. record {
          kept = record { live = true; talk = with_flow (sym way j) (left_open t.chunk (flow_by p.payload v (flow_of (sym way j) k))) k };
          sums = with_entry (sym way j) (length p.payload) (taken_by p.payload v) (over_by t.chunk p.payload v (flow_of (sym way j) k)) (both no_sums);
        })

    table_is : set (s.table ++ c ∷ []) (length s.table) next_c ≡ s.table ++ next_c ∷ []
    table_is = set_last s.table c next_c

    rows_next : rows_at 0 (set (s.table ++ c ∷ []) (length s.table) next_c) ≡ rows ++ row ∷ []
    rows_next = ap (rows_at 0) table_is ∙ rows_live (s.table ++ next_c ∷ []) ∙ rows_push true s.table next_c ∙ ap (λ (r : Row). rows ++ r ∷ []) row_is

    kept_next : kept_in (rows_at 0 (set (s.table ++ c ∷ []) (length s.table) next_c)) ≡ kept_in rows ++ row.kept ∷ []
    kept_next = ap kept_in rows_next ∙ kept_split rows row []

    numbers : numbers_in (set (s.table ++ c ∷ []) (length s.table) next_c) ≡ numbers_in s.table ++ p.number ∷ []
    numbers = ap numbers_in table_is ∙ map-append (λ (x : Conversation). x.number) s.table (next_c ∷ [])

    faces : faces_of (set (s.table ++ c ∷ []) (length s.table) next_c) ≡ faces_of s.table ++ face ∷ []
    faces = ap faces_of table_is ∙ map-append face_of s.table (next_c ∷ [])

    waits : map told_as (s.waiting ++ opened ∷ [] ++ handed p.number Fore e.over) ≡ told_of p.number (New ∷ delivered_by t.chunk p v k)
    waits =
        ap (λ (l : List Untold). map told_as (l ++ opened ∷ [] ++ handed p.number Fore e.over)) calm
        ∙ ap (λ (l : List Told). record { conv = p.number; event = New } ∷ l) (
        told_handed p.number Fore e.over ∙ ap (λ (over : List OpenChunk). told_of p.number (map (delivered Fore) over)) (over_entered t s.budget Fore c p.payload v e by)
        ∙ (λ j. told_of p.number (map (delivered (sym way j)) (over_by t.chunk p.payload v (flow_of (sym way j) k)))))

    ids : HasNoId p.number (kept_in rows)
    ids = no_id_above p.number rows (subst (Each (λ n. n < p.number)) (sym (ap (map number_of) (sym (rows_live s.table)) ∙ rows_numbers 0 s.table)) (h.early p.number next.above))

    standing : Standing t last first packets done s.book (kept_in rows) [] None s.answered s.text s.budget.stamp s.budget.used
    standing = subst (λ (x : List Row × List Untold). Standing t last first packets done s.book (kept_in x.0) (map told_as x.1) None s.answered s.text s.budget.stamp s.budget.used) (λ j. (rows_live s.table j, calm j)) h.standing

    entered_ : Standing t last first packets (done ++ p ∷ []) (s.book ++ record { conv = p.number; entry = E.Seg p.number p.now (looks_by v) [] } ∷ []) (kept_in rows ++ row.kept ∷ [])
        (told_of p.number (New ∷ delivered_by t.chunk p v k)) None s.answered s.text (stamp_by v s.budget.stamp) (used_by p.payload v s.budget.used)
    entered_ =
        standing_new t last first packets done s.book (kept_in rows) s.answered s.text s.budget.stamp s.budget.used p v standing next.here ids
        (rows_lack true p.key s.table none) next.udp next.from next.until is now

    counted_ : Tallies t (map (line_of packets) (s.book ++ record { conv = p.number; entry = E.Seg p.number p.now (looks_by v) [] } ∷ [])) (rows ++ row ∷ [])
        (core_in t packets (s.book ++ record { conv = p.number; entry = E.Seg p.number p.now (looks_by v) [] } ∷ [])).convos
    counted_ =
        booked t packets s.book (record { conv = p.number; entry = E.Seg p.number p.now (looks_by v) [] }) (record { conv = p.number; act = Seg p p.now (looks_by v) [] }) (rows ++ row ∷ [])
        (line_at_seg packets p p.number p.now (looks_by v) [] next.here)
        (new_tallies t (map (line_of packets) s.book) rows (core_in t packets s.book) p (looks_by v) _ (over_by t.chunk p.payload v (flow_of (way_in k p) k)) _ _
        (taken_by p.payload v) (talk_by t.chunk p v k) refl (subst (λ (rows : List Row). Tallies t (map (line_of packets) s.book) rows (core_in t packets s.book).convos) (rows_live s.table) h.tallies)
        ids next.udp (same_id k (way_in k p) _) (verdict_does t k p v next.udp is (new_convo p) (new_talks p next.udp)) refl)

-- The End of the next conversation.

-- events of a conversation, put behind those that wait, kind by kind
last_told : (conv : ℕ) (before : List Told) (fore back : List Event) → (before ++ told_of conv fore) ++ told_of conv back ++ record { conv = conv; event = Ended Finish } ∷ [] ≡ before ++ told_of conv (fore ++ back ++ Ended Finish ∷ [])
last_told conv before fore back =
    simp append_assoc (ap (λ (l : List Told). before ++ l) (sym (map-append told fore (back ++ Ended Finish ∷ []) ∙ ap (λ (l : List Told). told_of conv fore ++ l) (map-append told back (Ended Finish ∷ [])))))
  where
    told : Event → Told
    told e = record { conv = conv; event = e }

order_of : (last id : ℕ) (o : Option ℕ) → IsUnder id o → FinishesInOrder o id (End last Finish [] [])
order_of last id None h = tt
order_of last id (Some n) h = h

pub stands_end : (t : Terms) (last first : ℕ) (packets done : List Packet) (s : State) (i : ℕ) (d : Conversation)
    → Stands t last first packets done i s → i < length s.table → length s.waiting < 256 → last < first + t.idle
    → Stands t last first packets done (suc i) (with_end_at last s i (get_or s.table i d).number (get_or s.table i d))
stands_end t last first packets done s i d h within room until = record {
  mark_is = h.mark_is;
  least_is = h.least_is;
  limit_is = h.limit_is;
  within = h.within;
  standing = subst (λ (x : List Kept × List Told × Option ℕ). Standing t last first packets done (s.book ++ entry ∷ []) x.0 x.1 x.2 s.answered s.text s.budget.stamp s.budget.used)
      (λ j. (sym kept_next j, sym waits j, sym finished j)) over;
  tallies = subst (λ (rows : List Row). Tallies t (map (line_of packets) (s.book ++ entry ∷ [])) rows (core_in t packets (s.book ++ entry ∷ [])).convos) (sym rows_next) counted_;
  rise = subst Rises (sym numbers) h.rise;
  there = subst (λ (f : List Face). Each (IsThere f) (s.waiting ++ handed c.number Fore (chunk_list c.fore.chunk) ++ handed c.number Back (chunk_list c.back.chunk) ++ ends ∷ [])) (sym faces) all_there;
  shut = subst (Each IsShut) (sym (take-suc-set s.table i next within)) (each_append IsShut (take i s.table) (next ∷ []) h.shut ((refl, refl), tt));
  early = λ m all. subst (Each (λ n. n < m)) (sym numbers) (h.early m all);
  peak_is = h.peak_is ∙ sym (kept_booked t.marks.limit s.book entry s.budget.stamp s.budget.used h.standing.turn);
  high = h.high;
  refused_is = h.refused_is ∙ sym (refused_booked s.book entry ∙ add-zero (refused (flat_map (λ (entry : CoreEntry). looks_in entry.entry) s.book)));
}
  where
    c : Conversation
    c = get_or s.table i d

    next : Conversation
    next = closed_half Back (closed_half Fore c)

    k : Talk
    k = talk_for c

    entry : CoreEntry
    entry = record { conv = c.number; entry = E.End last Finish [] [] }

    ends : Untold
    ends = record { conv = c.number; event = Over Finish }

    xs : List Row
    xs = rows_of false (take i s.table)

    ys : List Row
    ys = rows_of true (drop (suc i) s.table)

    rows_are : rows_at i s.table ≡ xs ++ row_of true c ∷ ys
    rows_are = rows_cut i s.table d within

    row : Row
    row = record { kept = record { live = false; talk = ended k }; sums = with_end (chunk_list k.fore.chunk) (chunk_list k.back.chunk) (sums_for c) }

    rows_next : rows_at (suc i) (set s.table i next) ≡ xs ++ row ∷ ys
    rows_next = rows_ended i s.table next within

    kept_next : kept_in (rows_at (suc i) (set s.table i next)) ≡ kept_in xs ++ row.kept ∷ kept_in ys
    kept_next = ap kept_in rows_next ∙ kept_split xs row ys

    numbers : numbers_in (set s.table i next) ≡ numbers_in s.table
    numbers = map-set_same (λ (x : Conversation). x.number) s.table i next d refl

    faces : faces_of (set s.table i next) ≡ faces_of s.table
    faces = map-set_same face_of s.table i next d refl

    finished : finished_in (suc i) (set s.table i next) ≡ Some c.number
    finished = ap (λ (ns : List ℕ). last_of (take (suc i) ns)) numbers ∙ finished_next i s.table d within

    lone : HasNoId c.number (kept_in xs) × HasNoId c.number (kept_in ys)
    lone = lone_number xs (row_of true c) ys (subst Rises (sym (rows_numbers i s.table) ∙ ap (map number_of) rows_are) h.rise)

    standing : Standing t last first packets done s.book (kept_in xs ++ record { live = true; talk = k } ∷ kept_in ys) (map told_as s.waiting) (finished_in i s.table) s.answered s.text s.budget.stamp s.budget.used
    standing = subst (λ (kept : List Kept). Standing t last first packets done s.book kept (map told_as s.waiting) (finished_in i s.table) s.answered s.text s.budget.stamp s.budget.used) (ap kept_in rows_are ∙ kept_split xs (row_of true c) ys) h.standing

    waits : map told_as (s.waiting ++ handed c.number Fore (chunk_list c.fore.chunk) ++ handed c.number Back (chunk_list c.back.chunk) ++ ends ∷ []) ≡ map told_as s.waiting ++ told_of c.number (last_events k)
    waits =
        map-append told_as (s.waiting ++ handed c.number Fore (chunk_list c.fore.chunk) ++ handed c.number Back (chunk_list c.back.chunk)) (ends ∷ [])
        ∙ ap (λ (l : List Told). l ++ told_as ends ∷ []) (
        map-append told_as (s.waiting ++ handed c.number Fore (chunk_list c.fore.chunk)) (handed c.number Back (chunk_list c.back.chunk))
        ∙ (λ j. (map-append told_as s.waiting (handed c.number Fore (chunk_list c.fore.chunk)) ∙ ap (λ (l : List Told). map told_as s.waiting ++ l) (told_handed c.number Fore (chunk_list c.fore.chunk))) j
        ++ told_handed c.number Back (chunk_list c.back.chunk) j))
        ∙ last_told c.number (map told_as s.waiting) (map (delivered Fore) (chunk_list c.fore.chunk)) (map (delivered Back) (chunk_list c.back.chunk))

    over : Standing t last first packets done (s.book ++ entry ∷ []) (kept_in xs ++ row.kept ∷ kept_in ys) (map told_as s.waiting ++ told_of c.number (last_events k)) (Some c.number) s.answered s.text s.budget.stamp s.budget.used
    over =
        standing_over t last first packets done s.book (kept_in xs) k (kept_in ys) (map told_as s.waiting) (finished_in i s.table) s.answered s.text s.budget.stamp s.budget.used standing lone.0 lone.1
        (omega (arith, room, length-map s.waiting told_as)) until (order_of last c.number (finished_in i s.table) (finished_below i s.table d within h.rise))

    counted_ : Tallies t (map (line_of packets) (s.book ++ entry ∷ [])) (xs ++ row ∷ ys) (core_in t packets (s.book ++ entry ∷ [])).convos
    counted_ =
        booked t packets s.book entry (record { conv = c.number; act = End last Finish [] [] }) (xs ++ row ∷ ys) refl
        (end_tallies t last first (map (line_of packets) s.book) xs k (sums_for c) ys (map told_as s.waiting) (finished_in i s.table) (core_in t packets s.book) (ended k) standing.replayed.stands
        (subst (λ (rows : List Row). Tallies t (map (line_of packets) s.book) rows (core_in t packets s.book).convos) rows_are h.tallies) lone.0 lone.1 refl)

    is_there : (w : Waits) → Fits (face_of c) w → IsThere (faces_of s.table) (record { conv = c.number; event = w })
    is_there w f = there_at s.table i d (record { conv = c.number; event = w }) within (refl, f)

    all_there : Each (IsThere (faces_of s.table)) (s.waiting ++ handed c.number Fore (chunk_list c.fore.chunk) ++ handed c.number Back (chunk_list c.back.chunk) ++ ends ∷ [])
    all_there =
        each_append (IsThere (faces_of s.table)) (s.waiting ++ handed c.number Fore (chunk_list c.fore.chunk) ++ handed c.number Back (chunk_list c.back.chunk)) (ends ∷ [])
        (each_append (IsThere (faces_of s.table)) (s.waiting ++ handed c.number Fore (chunk_list c.fore.chunk)) (handed c.number Back (chunk_list c.back.chunk))
        (each_append (IsThere (faces_of s.table)) s.waiting (handed c.number Fore (chunk_list c.fore.chunk)) h.there (there_handed (faces_of s.table) c.number Fore (λ o. is_there (Handed Fore o) tt) (chunk_list c.fore.chunk)))
        (there_handed (faces_of s.table) c.number Back (λ o. is_there (Handed Back o) tt) (chunk_list c.back.chunk))) (is_there (Over Finish) tt, tt)

-- Answers, one after the other.

pub first_none : (s : State) → s.waiting ≡ [] → answered_first s ≡ s
first_none s e = rw (answered_first, e) refl

pub first_some : (s : State) (u : Untold) (rest : List Untold) → s.waiting ≡ u ∷ rest → answered_first s ≡ with_answer s u rest
first_some s u rest e = rw (answered_first, e) refl

-- each takes one event that waits, and leaves the table and what came
pub first_takes : (s : State) → ((answered_first s).waiting ≡ drop 1 s.waiting) × ((answered_first s).table ≡ s.table) × ((answered_first s).came ≡ s.came)
first_takes s = by s.waiting refl
  where
    by : (waiting : List Untold) → s.waiting ≡ waiting → ((answered_first s).waiting ≡ drop 1 s.waiting) × ((answered_first s).table ≡ s.table) × ((answered_first s).came ≡ s.came)
    by [] e = let same : answered_first s ≡ s = first_none s e in (ap (λ (r : State). r.waiting) same ∙ e ∙ sym (ap (drop 1) e), ap (λ (r : State). r.table) same, ap (λ (r : State). r.came) same)
    by (u ∷ rest) e = let next : answered_first s ≡ with_answer s u rest = first_some s u rest e in (ap (λ (r : State). r.waiting) next ∙ sym (ap (drop 1) e), ap (λ (r : State). r.table) next, ap (λ (r : State). r.came) next)

pub many_take : (n : ℕ) (s : State) → (length (answered_many n s).waiting ≡ length s.waiting - n) × ((answered_many n s).table ≡ s.table) × ((answered_many n s).came ≡ s.came)
many_take zero s = (omega arith, refl, refl)
many_take (suc n) s =
    let before : (length (answered_many n s).waiting ≡ length s.waiting - n) × ((answered_many n s).table ≡ s.table) × ((answered_many n s).came ≡ s.came) = many_take n s in
    let next : ((answered_first (answered_many n s)).waiting ≡ drop 1 (answered_many n s).waiting) × ((answered_first (answered_many n s)).table ≡ (answered_many n s).table) × ((answered_first (answered_many n s)).came ≡ (answered_many n s).came) = first_takes (answered_many n s) in
    (omega (arith, ap (λ (l : List Untold). length l) next.0, length-drop 1 (answered_many n s).waiting, before.0), next.1 ∙ before.1, next.2 ∙ before.2)

none_left : (l : List Untold) → length l ≡ 0 → l ≡ []
none_left [] e = refl
none_left (u ∷ l) e = absurd (omega arith)

-- all of them leave none
pub all_taken : (s : State) → (answered_many (length s.waiting) s).waiting ≡ []
all_taken s = none_left (answered_many (length s.waiting) s).waiting (omega (arith, (many_take (length s.waiting) s).0))

-- Before any packet.

pub stands_none : (t : Terms) (last first : ℕ) (packets : List Packet) → mark t.marks 0 ≤ t.marks.limit → Stands t last first packets [] 0 (fresh t.marks.limit (mark t.marks 0) t.chunk)
stands_none t last first packets within = record {
  mark_is = refl;
  least_is = refl;
  limit_is = refl;
  within = within;
  standing = standing_none t last first packets;
  tallies = tt;
  rise = tt;
  there = tt;
  shut = tt;
  early = λ m all. tt;
  peak_is = refl;
  high = omega arith;
  refused_is = refl;
}

-- The answers to the first so many events.

pub stands_first : (t : Terms) (last first : ℕ) (packets done : List Packet) (ended : ℕ) (s : State) → Stands t last first packets done ended s → Stands t last first packets done ended (answered_first s)
stands_first t last first packets done ended s h = by s.waiting refl
  where
    by : (waiting : List Untold) → s.waiting ≡ waiting → Stands t last first packets done ended (answered_first s)
    by [] e = subst (Stands t last first packets done ended) (sym (first_none s e)) h
    by (u ∷ rest) e = subst (Stands t last first packets done ended) (sym (first_some s u rest e)) (stands_answer t last first packets done ended s u rest e h)

pub stands_many : (t : Terms) (last first : ℕ) (packets done : List Packet) (ended n : ℕ) (s : State) → Stands t last first packets done ended s → Stands t last first packets done ended (answered_many n s)
stands_many t last first packets done ended zero s h = h
stands_many t last first packets done ended (suc n) s h = stands_first t last first packets done ended (answered_many n s) (stands_many t last first packets done ended n s h)
