-- The running numbers of all conversations of a core stay their totals with each entry.
use Rattle.std.specs.Prelude.{◌≡◌, refl, ℕ, suc, ◌+◌, ◌<◌, Bool, true, false, cond, ◌==◌, List, [], ◌∷◌, ◌++◌, length, map, filter, Option, None, Some}
use Rattle.std.proofs.Common.{sym, ◌∙◌, ap, subst, arith, add-zero, append-nil}
use Rattle.std.proofs.lemmas.Bool.Decides.{nat_tests}
use Rattle.evring.specs.declared.advice.Advice.{Advice}
use Rattle.evring.specs.declared.reason.Reason.{Reason}
use Rattle.evring.specs.declared.reason.Reason.TheVariants.{Finish}
use Rattle.evring.specs.declared.way.Way.{Way}
use Rattle.evring.specs.declared.way.Way.TheVariants.{Fore, Back}
use Rattle.histbook.specs.declared.look_entry.LookEntry.{LookEntry}
use Rattle.prio_budget.specs.declared.free.Free.{Free}
use Rattle.streamdefs.specs.Lists.{or_else}
use Rattle.streamdefs.specs.Both.{Both, both, of_way, with_way, same_way}
use Rattle.streamkey.specs.declared.toward.Toward.{Toward}
use Rattle.streamkey.specs.declared.toward.Toward.TheVariants.{Up, Down}
use Rattle.streamdefs.specs.Packet.{Packet, is_tcp, same_toward}
use Rattle.streamdefs.specs.Terms.{Terms}
use Rattle.streamdefs.specs.View.{Ask}
use Rattle.streamdefs.specs.Pending.{Piece}
use Rattle.streamdefs.specs.Direction.{Counts, no_counts, Kind, Deed, Direction, counts_by, pieces_by, direction_after}
use Rattle.streamdefs.specs.Direction.Kind.{Datagrams}
use Rattle.streamdefs.specs.Direction.Deed.{Arrives, Ends}
use Rattle.streamdefs.specs.Convo.{Act, Convo, Kept, Delivery, new_convo, after, convo_after, kind_of, way_of, segment_of, carrying, counts_in, deliveries_in, is_live, answered_event, own_after, keep_after}
use Rattle.streamdefs.specs.Convo.Act.{Seg, Answer, Time, End}
use Rattle.streamdefs.specs.Core.{Line, Core, Open, Told, history, find_convo, put_convo, found_by, core_after, core_at, idle_core}
use Rattle.streamdefs.specs.Totals.{total_of}
use Rattle.streamdefs.proofs.Pushes.{convo_after_push, core_at_push}
use Rattle.streamdefs.proofs.Histories.{found_is, find_put, history_of}
use Rattle.datagrams.specs.Flow.{Flow, OpenChunk, StandsFor, IsDatagram, plain, piece_for, chunk_list, closed_by_gap, handed_over, left_open, granted_to, refused_to, part_of}
use Rattle.datagrams.specs.Talk.{Talk, TalksFor, flow_of, way_in, new_talk}
use Rattle.datagrams.specs.Table.{Kept as Held, HasNoId, StandsForCore}
use Rattle.datagrams.specs.Sums.{Sums, no_sums, with_chunks, with_datagram, HasSums, delivery_of, Brought, with_brought, nothing_brought, with_entry, with_end, Row, kept_in, number_of, HasTally, Tallies}
use Rattle.datagrams.proofs.DirectionSteps.{does_granted, does_refused, does_empty, does_end}
use Rattle.datagrams.proofs.TalkSteps.{is_datagram, way_is, new_talks}
use Rattle.datagrams.proofs.TableLemmas.{Split, split, NoneHas, none_has, find_none, find_at, put_at, put_new}
use Rattle.datagrams.proofs.SumLemmas.{own_way, own_append, total_with, total_push, sums_push}
use Rattle.datagrams.specs.Steps.{Does, taken_of}

-- What an entry brings to a direction, as its totals count it.
pub record Brings (terms : Terms) (c : Convo) (act : Act) (way : Way) (b : Brought) : Type 0 where
  pub sent : (of_way way (after terms c act).directions).sent ≡ (of_way way c.directions).sent + b.payload
  pub deliveries : own_way way (deliveries_in terms c act) ≡ map (delivery_of way) b.over
  pub counts : counts_in terms c way act ≡ taken_of b.payload b.taken

-- and to both
abbrev pub BringsBoth : Terms → Convo → Act → Both Brought → Type 0
BringsBoth terms c act bs = (way : Way) → Brings terms c act way (of_way way bs)

cond_false : (b : Bool) (x y : Kind) → b ≡ false → cond b x y ≡ y
cond_false b x y e = ap (λ v. cond v x y) e

kind_is : (t : Terms) (c : Convo) → is_tcp c.first ≡ false → kind_of (plain t) c ≡ Datagrams
kind_is t c udp = cond_false _ _ _ udp

-- The deliveries of an entry, in order.

no_kept : (way : Way) → of_way way (both {X = List Kept} []) ≡ []
no_kept Fore = refl
no_kept Back = refl

carried_chunks : (way : Way) (over : List OpenChunk) → carrying way [] (map piece_for over) ≡ map (delivery_of way) over
carried_chunks way [] = refl
carried_chunks way (o ∷ over) = ap (λ ds. delivery_of way o ∷ ds) (carried_chunks way over)

carried : (c : Convo) (way : Way) (pieces : List Piece) (over : List OpenChunk) → c.kept ≡ both [] → pieces ≡ map piece_for over
    → carrying way (of_way way c.kept) pieces ≡ map (delivery_of way) over
carried c way pieces over kept is =
    ap (λ ks. carrying way (of_way way ks) pieces) kept ∙ ap (λ k. carrying way k pieces) (no_kept way) ∙ ap (λ ps. carrying way [] ps) is ∙ carried_chunks way over

own_same_way : (way : Way) (over : List OpenChunk) → own_way way (map (delivery_of way) over) ≡ map (delivery_of way) over
own_same_way Fore [] = refl
own_same_way Fore (o ∷ over) = ap (λ ds. delivery_of Fore o ∷ ds) (own_same_way Fore over)
own_same_way Back [] = refl
own_same_way Back (o ∷ over) = ap (λ ds. delivery_of Back o ∷ ds) (own_same_way Back over)

own_other_way : (way w : Way) → same_way way w ≡ false → (over : List OpenChunk) → own_way way (map (delivery_of w) over) ≡ []
own_other_way way w e [] = refl
own_other_way way w e (o ∷ over) =
    ap (λ b. cond b (delivery_of w o ∷ own_way way (map (delivery_of w) over)) (own_way way (map (delivery_of w) over))) e ∙ own_other_way way w e over

-- those of a datagram's entry
pub seg_deliveries : (t : Terms) (k : Talk) (c : Convo) (p : Packet) (now : ℕ) (looks : List LookEntry) (frees : List Free) (over : List OpenChunk) (alive : Bool) → TalksFor alive k c
    → pieces_by (plain t) Datagrams (of_way (way_in k p) c.directions) (Arrives (segment_of (plain t) c p now) looks) ≡ map piece_for over
    → deliveries_in (plain t) c (Seg p now looks frees) ≡ map (delivery_of (way_in k p)) over
seg_deliveries t k c p now looks frees over alive st pieces =
    append-nil (carrying (way_of c p) (of_way (way_of c p) c.kept) (pieces_by (plain t) (kind_of (plain t) c) (of_way (way_of c p) c.directions) entry))
    ∙ carried c (way_of c p) (pieces_by (plain t) (kind_of (plain t) c) (of_way (way_of c p) c.directions) entry) over st.kept ((λ i. pieces_by (plain t) (kind i) (of_way (way i) c.directions) entry) ∙ pieces)
    ∙ ap (λ w. map (delivery_of w) over) way
  where
    entry : Deed
    entry = Arrives (segment_of (plain t) c p now) looks

    kind : kind_of (plain t) c ≡ Datagrams
    kind = kind_is t c st.udp

    way : way_of c p ≡ way_in k p
    way = way_is k c p alive st

-- those of an End: first fore, then back
pub end_deliveries : (t : Terms) (k : Talk) (c : Convo) (at : ℕ) (reason : Reason) (looks : List LookEntry) (frees : List Free) (alive : Bool) → TalksFor alive k c
    → deliveries_in (plain t) c (End at reason looks frees) ≡ map (delivery_of Fore) (chunk_list k.fore.chunk) ++ map (delivery_of Back) (chunk_list k.back.chunk)
end_deliveries t k c at reason looks frees alive st =
    ap (λ ds. fore_given ++ ds) (append-nil back_given)
    ∙ (λ i. carried c Fore fore_pieces (chunk_list k.fore.chunk) st.kept (ap (λ kn. pieces_by (plain t) kn c.directions.fore (Ends at)) kind ∙ fore.pieces) i
    ++ carried c Back back_pieces (chunk_list k.back.chunk) st.kept (ap (λ kn. pieces_by (plain t) kn c.directions.back (Ends at)) kind ∙ back.pieces) i)
  where
    kind : kind_of (plain t) c ≡ Datagrams
    kind = kind_is t c st.udp

    fore : Does t c.directions.fore (Ends at) [] (chunk_list k.fore.chunk) (record k.fore { chunk = None }) no_counts
    fore = does_end t k.fore c.directions.fore at st.fore

    back : Does t c.directions.back (Ends at) [] (chunk_list k.back.chunk) (record k.back { chunk = None }) no_counts
    back = does_end t k.back c.directions.back at st.back

    fore_pieces : List Piece
    fore_pieces = pieces_by (plain t) (kind_of (plain t) c) c.directions.fore (Ends at)

    back_pieces : List Piece
    back_pieces = pieces_by (plain t) (kind_of (plain t) c) c.directions.back (Ends at)

    fore_given : List Delivery
    fore_given = carrying Fore c.kept.fore fore_pieces

    back_given : List Delivery
    back_given = carrying Back c.kept.back back_pieces

-- What each kind of entry brings.

-- the counts of a datagram's entry in each direction
abbrev counted_in : Way → Way → Kind → Convo → Deed → Counts
counted_in Fore Fore kind c deed = counts_by kind c.directions.fore deed
counted_in Back Back kind c deed = counts_by kind c.directions.back deed
counted_in Fore Back kind c deed = no_counts
counted_in Back Fore kind c deed = no_counts

counted : (terms : Terms) (c : Convo) (way : Way) (p : Packet) (now : ℕ) (looks : List LookEntry) (frees : List Free)
    → counts_in terms c way (Seg p now looks frees) ≡ counted_in (way_of c p) way (kind_of terms c) c (Arrives (segment_of terms c p now) looks)
counted terms c way p now looks frees = by (way_of c p) way
  where
    here : Way → Way → Counts
    here Fore Fore = counts_by (kind_of terms c) c.directions.fore (Arrives (segment_of terms c p now) looks)
    here Back Back = counts_by (kind_of terms c) c.directions.back (Arrives (segment_of terms c p now) looks)
    here Fore Back = no_counts
    here Back Fore = no_counts

    by : (w v : Way) → here w v ≡ counted_in w v (kind_of terms c) c (Arrives (segment_of terms c p now) looks)
    by Fore Fore = refl
    by Back Back = refl
    by Fore Back = refl
    by Back Fore = refl

-- the bytes that came by then
sent_with : (w way : Way) (ds : Both Direction) (d : Direction) (n : ℕ) → d.sent ≡ (of_way w ds).sent + n
    → (of_way way (with_way w d ds)).sent ≡ (of_way way ds).sent + cond (same_way way w) n 0
sent_with Fore Fore ds d n e = e
sent_with Back Back ds d n e = e
sent_with Fore Back ds d n e = omega arith
sent_with Back Fore ds d n e = omega arith

-- a datagram's
pub seg_brings : (t : Terms) (k : Talk) (c : Convo) (p : Packet) (now : ℕ) (looks : List LookEntry) (frees : List Free) (asked : List Ask) (over : List OpenChunk) (f : Flow) (counts : Counts) (taken : ℕ) (alive : Bool)
    → TalksFor alive k c → Does t (of_way (way_in k p) c.directions) (Arrives (segment_of (plain t) c p now) looks) asked over f counts → counts ≡ taken_of (length p.payload) taken
    → BringsBoth (plain t) c (Seg p now looks frees) (with_way (way_in k p) (record { payload = length p.payload; taken = taken; over = over }) (both nothing_brought))
seg_brings t k c p now looks frees asked over f counts taken alive st does counts_is way = by (way_in k p) way (way_is k c p alive st) does.counts_are
    (seg_deliveries t k c p now looks frees over alive st does.pieces)
  where
    act : Act
    act = Seg p now looks frees

    entry : Deed
    entry = Arrives (segment_of (plain t) c p now) looks

    brought : Brought
    brought = record { payload = length p.payload; taken = taken; over = over }

    kind : kind_of (plain t) c ≡ Datagrams
    kind = kind_is t c st.udp

    sent : (w v : Way) → way_of c p ≡ w → (of_way v (after (plain t) c act).directions).sent ≡ (of_way v c.directions).sent + cond (same_way v w) (length p.payload) 0
    sent w v e =
        sent_with (way_of c p) v c.directions (direction_after (plain t) (kind_of (plain t) c) (of_way (way_of c p) c.directions) entry) (length p.payload) refl
        ∙ ap (λ u. (of_way v c.directions).sent + cond (same_way v u) (length p.payload) 0) e

    counts_are : (w v : Way) → way_of c p ≡ w → counts_in (plain t) c v act ≡ counted_in w v Datagrams c entry
    counts_are w v e = counted (plain t) c v p now looks frees ∙ (λ i. counted_in (e i) v (kind i) c entry)

    by : (w v : Way) → way_of c p ≡ w → counts_by Datagrams (of_way w c.directions) entry ≡ counts → deliveries_in (plain t) c act ≡ map (delivery_of w) over
        → Brings (plain t) c act v (of_way v (with_way w brought (both nothing_brought)))
    by Fore Fore e k d = record { sent = sent Fore Fore e; deliveries = ap (own_way Fore) d ∙ own_same_way Fore over; counts = counts_are Fore Fore e ∙ k ∙ counts_is }
    by Back Back e k d = record { sent = sent Back Back e; deliveries = ap (own_way Back) d ∙ own_same_way Back over; counts = counts_are Back Back e ∙ k ∙ counts_is }
    by Fore Back e k d = record { sent = sent Fore Back e; deliveries = ap (own_way Back) d ∙ own_other_way Back Fore refl over; counts = counts_are Fore Back e }
    by Back Fore e k d = record { sent = sent Back Fore e; deliveries = ap (own_way Fore) d ∙ own_other_way Fore Back refl over; counts = counts_are Back Fore e }

-- an answer's: nothing
answer_directions : (terms : Terms) (c : Convo) (event : ℕ) (advice : Advice) (frees : List Free) → (after terms c (Answer event advice frees)).directions ≡ c.directions
answer_directions terms c event advice frees = by (is_live c)
  where
    advised : Convo
    advised = record c { own = own_after c advice (answered_event c); advised = or_else advice.priority c.advised; kept = keep_after c advice (answered_event c); answered = suc c.answered }

    by : (b : Bool) → (cond b advised (record c { answered = suc c.answered })).directions ≡ c.directions
    by true = refl
    by false = refl

pub answer_brings : (terms : Terms) (c : Convo) (event : ℕ) (advice : Advice) (frees : List Free) → BringsBoth terms c (Answer event advice frees) (both nothing_brought)
answer_brings terms c event advice frees Fore = record { sent = ap (λ (ds : Both Direction). ds.fore.sent) (answer_directions terms c event advice frees) ∙ sym (add-zero c.directions.fore.sent); deliveries = refl; counts = refl }
answer_brings terms c event advice frees Back = record { sent = ap (λ (ds : Both Direction). ds.back.sent) (answer_directions terms c event advice frees) ∙ sym (add-zero c.directions.back.sent); deliveries = refl; counts = refl }

-- an End's
abbrev pub ended_with : Talk → Both Brought
ended_with k = record { fore = record nothing_brought { over = chunk_list k.fore.chunk }; back = record nothing_brought { over = chunk_list k.back.chunk } }

pub end_brings : (t : Terms) (k : Talk) (c : Convo) (at : ℕ) (reason : Reason) (looks : List LookEntry) (frees : List Free) (alive : Bool) → TalksFor alive k c
    → BringsBoth (plain t) c (End at reason looks frees) (ended_with k)
end_brings t k c at reason looks frees alive st Fore = record {
  sent = sym (add-zero c.directions.fore.sent);
  deliveries =
      ap (own_way Fore) (end_deliveries t k c at reason looks frees alive st)
      ∙ own_append Fore (map (delivery_of Fore) (chunk_list k.fore.chunk)) (map (delivery_of Back) (chunk_list k.back.chunk))
      ∙ (λ i. own_same_way Fore (chunk_list k.fore.chunk) i ++ own_other_way Fore Back refl (chunk_list k.back.chunk) i)
      ∙ append-nil (map (delivery_of Fore) (chunk_list k.fore.chunk));
  counts = refl;
}
end_brings t k c at reason looks frees alive st Back = record {
  sent = sym (add-zero c.directions.back.sent);
  deliveries =
      ap (own_way Back) (end_deliveries t k c at reason looks frees alive st)
      ∙ own_append Back (map (delivery_of Fore) (chunk_list k.fore.chunk)) (map (delivery_of Back) (chunk_list k.back.chunk))
      ∙ (λ i. own_other_way Back Fore refl (chunk_list k.fore.chunk) i ++ own_same_way Back (chunk_list k.back.chunk) i);
  counts = refl;
}

-- A packet of a live conversation, granted, refused or without bytes.

flow_stands : (w : Way) (k : Talk) (c : Convo) (alive : Bool) → TalksFor alive k c → StandsFor (flow_of w k) (of_way w c.directions)
flow_stands Fore k c alive st = st.fore
flow_stands Back k c alive st = st.back

pub granted_does : (t : Terms) (k : Talk) (c : Convo) (p : Packet) (now : ℕ) (look : LookEntry) → TalksFor true k c → is_tcp p ≡ false → 0 < length p.payload
    → look.asked ≡ length p.payload → look.granted ≡ true
    → Does t (of_way (way_in k p) c.directions) (Arrives (segment_of (plain t) c p now) (look ∷ [])) (record { bytes = length p.payload; from = Some (flow_of (way_in k p) k).sent } ∷ [])
    (closed_by_gap (flow_of (way_in k p) k) ++ handed_over t.chunk (granted_to (flow_of (way_in k p) k) (part_of p.payload look)))
    (left_open t.chunk (granted_to (flow_of (way_in k p) k) (part_of p.payload look))) (taken_of (length p.payload) (length p.payload))
granted_does t k c p now look st udp some asked granted =
    does_granted t (flow_of (way_in k p) k) (of_way (way_in k p) c.directions) (segment_of (plain t) c p now) p.payload look (flow_stands (way_in k p) k c true st) (is_datagram t k c p now st udp) some asked granted

pub refused_does : (t : Terms) (k : Talk) (c : Convo) (p : Packet) (now : ℕ) (look : LookEntry) → TalksFor true k c → is_tcp p ≡ false → 0 < length p.payload → look.granted ≡ false
    → Does t (of_way (way_in k p) c.directions) (Arrives (segment_of (plain t) c p now) (look ∷ [])) (record { bytes = length p.payload; from = Some (flow_of (way_in k p) k).sent } ∷ [])
    (handed_over t.chunk (refused_to (flow_of (way_in k p) k) (length p.payload))) (left_open t.chunk (refused_to (flow_of (way_in k p) k) (length p.payload))) (taken_of (length p.payload) 0)
refused_does t k c p now look st udp some refused =
    does_refused t (flow_of (way_in k p) k) (of_way (way_in k p) c.directions) (segment_of (plain t) c p now) p.payload look (flow_stands (way_in k p) k c true st) (is_datagram t k c p now st udp) some refused

pub empty_does : (t : Terms) (k : Talk) (c : Convo) (p : Packet) (now : ℕ) → TalksFor true k c → is_tcp p ≡ false → p.payload ≡ []
    → Does t (of_way (way_in k p) c.directions) (Arrives (segment_of (plain t) c p now) []) []
    (handed_over t.chunk (refused_to (flow_of (way_in k p) k) (length p.payload))) (left_open t.chunk (refused_to (flow_of (way_in k p) k) (length p.payload))) (taken_of (length p.payload) 0)
empty_does t k c p now st udp none =
    subst (λ (bytes : List ℕ). Does t (of_way (way_in k p) c.directions) (Arrives (segment_of (plain t) c p now) []) []
    (handed_over t.chunk (refused_to (flow_of (way_in k p) k) (length bytes))) (left_open t.chunk (refused_to (flow_of (way_in k p) k) (length bytes))) (taken_of (length bytes) 0)) (sym none)
    (does_empty t (flow_of (way_in k p) k) (of_way (way_in k p) c.directions) (segment_of (plain t) c p now) (flow_stands (way_in k p) k c true st)
    (subst (λ (bytes : List ℕ). IsDatagram (segment_of (plain t) c p now) bytes) none (is_datagram t k c p now st udp)))

-- The numbers of a conversation.

abbrev pub all_brought : Both Sums → Both Brought → Both Sums
all_brought sums bs = record { fore = with_brought sums.fore bs.fore; back = with_brought sums.back bs.back }

-- a datagram without bytes changes no number
no_datagram : (s : Sums) → with_datagram s 0 0 ≡ s
no_datagram s = λ i. record s { payload = add-zero s.payload i; taken = add-zero s.taken i; shed = add-zero s.shed i }

-- they are as the code counts them
pub entry_sums : (way : Way) (payload taken : ℕ) (over : List OpenChunk) (sums : Both Sums)
    → all_brought sums (with_way way (record { payload = payload; taken = taken; over = over }) (both nothing_brought)) ≡ with_entry way payload taken over sums
entry_sums Fore payload taken over sums = λ i. record { fore = with_brought sums.fore (record { payload = payload; taken = taken; over = over }); back = no_datagram sums.back i }
entry_sums Back payload taken over sums = λ i. record { fore = no_datagram sums.fore i; back = with_brought sums.back (record { payload = payload; taken = taken; over = over }) }

pub same_sums : (sums : Both Sums) → all_brought sums (both nothing_brought) ≡ sums
same_sums sums = λ i. record { fore = no_datagram sums.fore i; back = no_datagram sums.back i }

pub end_sums : (k : Talk) (sums : Both Sums) → all_brought sums (ended_with k) ≡ with_end (chunk_list k.fore.chunk) (chunk_list k.back.chunk) sums
end_sums k sums = λ i. record { fore = with_chunks (no_datagram sums.fore i) (chunk_list k.fore.chunk); back = with_chunks (no_datagram sums.back i) (chunk_list k.back.chunk) }

-- the totals of one direction with an entry more
pub way_push : (terms : Terms) (first : Convo) (c : Convo) (way : Way) (acts : List Act) (act : Act) (s : Sums) (b : Brought) → convo_after terms first acts ≡ c
    → HasSums s (total_of terms first way acts) → Brings terms c act way b → HasSums (with_brought s b) (total_of terms first way (acts ++ act ∷ []))
way_push terms first c way acts act s b is h brings =
    subst (HasSums (with_brought s b)) (sym (total_push terms first way acts act ∙ same)) (sums_push s (total_of terms first way acts) way (of_way way (after terms c act).directions).sent b.payload b.taken b.over h sent)
  where
    sent : (of_way way (after terms c act).directions).sent ≡ (total_of terms first way acts).payload + b.payload
    sent = brings.sent ∙ ap (λ (d : Convo). (of_way way d.directions).sent + b.payload) (sym is)

    same : total_with (total_of terms first way acts) (of_way way (after terms (convo_after terms first acts) act).directions).sent (own_way way (deliveries_in terms (convo_after terms first acts) act)) (counts_in terms (convo_after terms first acts) way act)
        ≡ total_with (total_of terms first way acts) (of_way way (after terms c act).directions).sent (map (delivery_of way) b.over) (taken_of b.payload b.taken)
    same =
        ap (λ (d : Convo). total_with (total_of terms first way acts) (of_way way (after terms d act).directions).sent (own_way way (deliveries_in terms d act)) (counts_in terms d way act)) is
        ∙ (λ i. total_with (total_of terms first way acts) (of_way way (after terms c act).directions).sent (brings.deliveries i) (brings.counts i))

-- Histories.

same_number : (n : ℕ) → (n == n) ≡ true
same_number n = grind (arith, nat_tests)

history_push : (id : ℕ) (lines : List Line) (line : Line) → line.conv ≡ id → history id (lines ++ line ∷ []) ≡ history id lines ++ line.act ∷ []
history_push id [] line e = ap (λ m. map (λ (l : Line). l.act) (cond (m == id) (line ∷ []) [])) e ∙ ap (λ b. map (λ (l : Line). l.act) (cond b (line ∷ []) [])) (same_number id)
history_push id (l ∷ lines) line e = by (l.conv == id) (history_push id lines line e)
  where
    by : (b : Bool) → history id (lines ++ line ∷ []) ≡ history id lines ++ line.act ∷ []
        → map (λ (l : Line). l.act) (cond b (l ∷ filter (λ m. m.conv == id) (lines ++ line ∷ [])) (filter (λ m. m.conv == id) (lines ++ line ∷ [])))
        ≡ map (λ (l : Line). l.act) (cond b (l ∷ filter (λ m. m.conv == id) lines) (filter (λ m. m.conv == id) lines)) ++ line.act ∷ []
    by true rest = ap (λ acts. l.act ∷ acts) rest
    by false rest = rest

history_same : (id : ℕ) (lines : List Line) (line : Line) → (line.conv == id) ≡ false → history id (lines ++ line ∷ []) ≡ history id lines
history_same id [] line e = ap (λ b. map (λ (l : Line). l.act) (cond b (line ∷ []) [])) e
history_same id (l ∷ lines) line e = by (l.conv == id) (history_same id lines line e)
  where
    by : (b : Bool) → history id (lines ++ line ∷ []) ≡ history id lines
        → map (λ (l : Line). l.act) (cond b (l ∷ filter (λ m. m.conv == id) (lines ++ line ∷ [])) (filter (λ m. m.conv == id) (lines ++ line ∷ [])))
        ≡ map (λ (l : Line). l.act) (cond b (l ∷ filter (λ m. m.conv == id) lines) (filter (λ m. m.conv == id) lines))
    by true rest = ap (λ acts. l.act ∷ acts) rest
    by false rest = rest

-- a number that no conversation has is that of no line
pub no_history : (terms : Terms) (core : Core) (lines : List Line) (id : ℕ) → find_convo id (core_at terms core lines).convos ≡ None → history id lines ≡ []
no_history terms core [] id none = refl
no_history terms core (line ∷ lines) id none = by (line.conv == id) refl (no_history terms (core_after terms core line) lines id none)
  where
    by : (b : Bool) → (line.conv == id) ≡ b → history id lines ≡ [] → map (λ (l : Line). l.act) (cond b (line ∷ filter (λ m. m.conv == id) lines) (filter (λ m. m.conv == id) lines)) ≡ []
    by true e rest =
        let found : find_convo id (core_after terms core line).convos ≡ Some (after terms (found_by core line) line.act)
        = find_put id line.conv (after terms (found_by core line) line.act) core.convos ∙ ap (λ b. cond b (Some (after terms (found_by core line) line.act)) (find_convo id core.convos)) e in
        let later = history_of terms (core_after terms core line) lines id (after terms (found_by core line) line.act) found in
        absurd (cc (later, none))
    by false e rest = rest

-- Conversations of a core.

first_after : (terms : Terms) (c : Convo) (act : Act) → (after terms c act).first ≡ c.first
first_after terms c (Seg p now looks frees) = refl
first_after terms c (Time at looks frees) = refl
first_after terms c (End at reason looks frees) = refl
first_after terms c (Answer event advice frees) = by (is_live c)
  where
    advised : Convo
    advised = record c { own = own_after c advice (answered_event c); advised = or_else advice.priority c.advised; kept = keep_after c advice (answered_event c); answered = suc c.answered }

    by : (b : Bool) → (cond b advised (record c { answered = suc c.answered })).first ≡ c.first
    by true = refl
    by false = refl

-- one with a line more of its own
pub tally_push : (t : Terms) (lines : List Line) (line : Line) (r next : Row) (o : Open) (bs : Both Brought) → HasTally t lines r o → line.conv ≡ o.id → number_of next ≡ number_of r
    → next.sums ≡ all_brought r.sums bs → BringsBoth (plain t) o.convo line.act bs → HasTally t (lines ++ line ∷ []) next (record { id = line.conv; convo = after (plain t) o.convo line.act })
tally_push t lines line r next o bs h own_line same sums brings = record {
  number = own_line ∙ h.number ∙ sym same;
  convo_is = subst (λ (first : Packet). convo_after (plain t) (new_convo first) (history line.conv (lines ++ line ∷ [])) ≡ after (plain t) o.convo line.act) (sym firsts)
      (ap (convo_after (plain t) (new_convo o.convo.first)) more ∙ convo_after_push (plain t) (new_convo o.convo.first) (history o.id lines) line.act ∙ ap (λ (c : Convo). after (plain t) c line.act) h.convo_is);
  fore = moved Fore next.sums.fore r.sums.fore bs.fore (ap (λ (ss : Both Sums). ss.fore) sums) h.fore (brings Fore);
  back = moved Back next.sums.back r.sums.back bs.back (ap (λ (ss : Both Sums). ss.back) sums) h.back (brings Back);
}
  where
    firsts : (after (plain t) o.convo line.act).first ≡ o.convo.first
    firsts = first_after (plain t) o.convo line.act

    more : history line.conv (lines ++ line ∷ []) ≡ history o.id lines ++ line.act ∷ []
    more = ap (λ id. history id (lines ++ line ∷ [])) own_line ∙ history_push o.id lines line own_line

    moved : (way : Way) (s before : Sums) (b : Brought) → s ≡ with_brought before b → HasSums before (total_of (plain t) (new_convo o.convo.first) way (history o.id lines))
        → Brings (plain t) o.convo line.act way b → HasSums s (total_of (plain t) (new_convo (after (plain t) o.convo line.act).first) way (history line.conv (lines ++ line ∷ [])))
    moved way s before b e has there =
        let made : HasSums (with_brought before b) (total_of (plain t) (new_convo o.convo.first) way (history o.id lines ++ line.act ∷ []))
        = way_push (plain t) (new_convo o.convo.first) o.convo way (history o.id lines) line.act before b h.convo_is has there in
        let shown : HasSums s (total_of (plain t) (new_convo o.convo.first) way (history o.id lines ++ line.act ∷ [])) = subst (λ (x : Sums). HasSums x (total_of (plain t) (new_convo o.convo.first) way (history o.id lines ++ line.act ∷ []))) (sym e) made in
        subst (λ (first : Packet). HasSums s (total_of (plain t) (new_convo first) way (history line.conv (lines ++ line ∷ [])))) (sym firsts)
        (subst (λ (acts : List Act). HasSums s (total_of (plain t) (new_convo o.convo.first) way acts)) (sym more) shown)

swapped : (a b : ℕ) → (a == b) ≡ false → (b == a) ≡ false
swapped a b h = grind (arith, nat_tests)

-- the others, with a line more
pub others_tallied : (t : Terms) (lines : List Line) (line : Line) (rows : List Row) (os : List Open) → Tallies t lines rows os → HasNoId line.conv (kept_in rows) → Tallies t (lines ++ line ∷ []) rows os
others_tallied t lines line [] [] h n = tt
others_tallied t lines line [] (o ∷ os) h n = absurd h
others_tallied t lines line (r ∷ rows) [] h n = absurd h
others_tallied t lines line (r ∷ rows) (o ∷ os) h n = (
  record {
    number = h.0.number;
    convo_is = subst (λ (acts : List Act). convo_after (plain t) (new_convo o.convo.first) acts ≡ o.convo) same h.0.convo_is;
    fore = subst (λ (acts : List Act). HasSums r.sums.fore (total_of (plain t) (new_convo o.convo.first) Fore acts)) same h.0.fore;
    back = subst (λ (acts : List Act). HasSums r.sums.back (total_of (plain t) (new_convo o.convo.first) Back acts)) same h.0.back;
  },
  others_tallied t lines line rows os h.1 n.1,
)
  where
    same : history o.id lines ≡ history o.id (lines ++ line ∷ [])
    same = sym (history_same o.id lines line (swapped o.id line.conv (ap (λ m. m == line.conv) h.0.number ∙ n.0)))

-- what stands at a place
record TallySplit (t : Terms) (lines : List Line) (xs : List Row) (r : Row) (ys : List Row) (os : List Open) : Type 0 where
  before : List Open
  here : Open
  behind : List Open
  is : os ≡ before ++ here ∷ behind
  earlier : Tallies t lines xs before
  one : HasTally t lines r here
  later : Tallies t lines ys behind

tally_split : (t : Terms) (lines : List Line) (xs : List Row) (r : Row) (ys : List Row) (os : List Open) → Tallies t lines (xs ++ r ∷ ys) os → TallySplit t lines xs r ys os
tally_split t lines [] r ys [] h = absurd h
tally_split t lines [] r ys (o ∷ os) h = record { before = []; here = o; behind = os; is = refl; earlier = tt; one = h.0; later = h.1 }
tally_split t lines (x ∷ xs) r ys [] h = absurd h
tally_split t lines (x ∷ xs) r ys (o ∷ os) h =
    let rest = tally_split t lines xs r ys os h.1 in
    record { before = o ∷ rest.before; here = rest.here; behind = rest.behind; is = ap (λ l. o ∷ l) rest.is; earlier = (h.0, rest.earlier); one = rest.one; later = rest.later }

tally_joined : (t : Terms) (lines : List Line) (xs : List Row) (r : Row) (ys : List Row) (before : List Open) (o : Open) (behind : List Open)
    → Tallies t lines xs before → HasTally t lines r o → Tallies t lines ys behind → Tallies t lines (xs ++ r ∷ ys) (before ++ o ∷ behind)
tally_joined t lines [] r ys [] o behind a b c = (b, c)
tally_joined t lines [] r ys (p ∷ before) o behind a b c = absurd a
tally_joined t lines (x ∷ xs) r ys [] o behind a b c = absurd a
tally_joined t lines (x ∷ xs) r ys (p ∷ before) o behind a b c = (a.0, tally_joined t lines xs r ys before o behind a.1 b c)

pub tallied_none : (t : Terms) (lines : List Line) (id : ℕ) (rows : List Row) (os : List Open) → Tallies t lines rows os → HasNoId id (kept_in rows) → NoneHas id os
tallied_none t lines id [] [] h n = tt
tallied_none t lines id [] (o ∷ os) h n = absurd h
tallied_none t lines id (r ∷ rows) [] h n = absurd h
tallied_none t lines id (r ∷ rows) (o ∷ os) h n = (ap (λ m. m == id) h.0.number ∙ n.0, tallied_none t lines id rows os h.1 n.1)

-- A line more of a conversation that is kept: its numbers grow by what the entry brings, and the others stand.
pub line_tallies : (t : Terms) (lines : List Line) (xs : List Row) (r : Row) (ys : List Row) (core : Core) (line : Line) (next : Row) (bs : Both Brought)
    → Tallies t lines (xs ++ r ∷ ys) core.convos → HasNoId line.conv (kept_in xs) → HasNoId line.conv (kept_in ys) → number_of r ≡ line.conv → number_of next ≡ number_of r
    → next.sums ≡ all_brought r.sums bs
    → ((c : Convo) → find_convo line.conv core.convos ≡ Some c → BringsBoth (plain t) c line.act bs)
    → Tallies t (lines ++ line ∷ []) (xs ++ next ∷ ys) (core_after (plain t) core line).convos
line_tallies t lines xs r ys core line next bs h ids_x ids_y at same sums brings =
    subst (Tallies t (lines ++ line ∷ []) (xs ++ next ∷ ys)) (sym convos_are)
    (tally_joined t (lines ++ line ∷ []) xs next ys s.before (record { id = line.conv; convo = after (plain t) s.here.convo line.act }) s.behind
    (others_tallied t lines line xs s.before s.earlier ids_x)
    (tally_push t lines line r next s.here bs s.one (sym here_id) same sums (brings s.here.convo known))
    (others_tallied t lines line ys s.behind s.later ids_y))
  where
    s : TallySplit t lines xs r ys core.convos
    s = tally_split t lines xs r ys core.convos h

    here_id : s.here.id ≡ line.conv
    here_id = s.one.number ∙ at

    before_ids : NoneHas line.conv s.before
    before_ids = tallied_none t lines line.conv xs s.before s.earlier ids_x

    known : find_convo line.conv core.convos ≡ Some s.here.convo
    known = ap (find_convo line.conv) s.is ∙ find_at line.conv s.before s.here s.behind before_ids here_id

    convos_are : (core_after (plain t) core line).convos ≡ s.before ++ record { id = line.conv; convo = after (plain t) s.here.convo line.act } ∷ s.behind
    convos_are =
        (λ i. put_convo line.conv (after (plain t) (found_is core line s.here.convo known i) line.act) (s.is i))
        ∙ put_at line.conv (after (plain t) s.here.convo line.act) s.before s.here s.behind before_ids here_id

-- The entries of a core of datagrams.

-- a conversation that is found at its number is the one that is kept
pub found_talks : (first : ℕ) (waiting : List Told) (xs : List Held) (k : Held) (ys : List Held) (finished : Option ℕ) (core : Core) (c : Convo) → StandsForCore first (xs ++ k ∷ ys) waiting finished core
    → HasNoId k.talk.id xs → find_convo k.talk.id core.convos ≡ Some c → TalksFor k.live k.talk c
found_talks first waiting xs k ys finished core c st ids e = subst (TalksFor k.live k.talk) same s.one.talks
  where
    s : Split first waiting xs k ys core.convos
    s = split first waiting xs k ys core.convos st.all

    known : find_convo k.talk.id core.convos ≡ Some s.here.convo
    known = ap (find_convo k.talk.id) s.is ∙ find_at k.talk.id s.before s.here s.behind (none_has first waiting k.talk.id xs s.before s.earlier ids) s.one.id

    same : s.here.convo ≡ c
    same = cc (known, e)

-- a datagram, of a conversation that is kept
pub seg_tallies : (t : Terms) (first : ℕ) (lines : List Line) (xs : List Row) (k : Talk) (sums : Both Sums) (ys : List Row) (waiting : List Told) (finished : Option ℕ) (core : Core)
    (p : Packet) (looks : List LookEntry) (asked : List Ask) (over : List OpenChunk) (f : Flow) (counts : Counts) (taken : ℕ) (next : Talk)
    → StandsForCore first (kept_in xs ++ record { live = true; talk = k } ∷ kept_in ys) waiting finished core
    → Tallies t lines (xs ++ record { kept = record { live = true; talk = k }; sums = sums } ∷ ys) core.convos
    → HasNoId k.id (kept_in xs) → HasNoId k.id (kept_in ys) → next.id ≡ k.id
    → ((c : Convo) → TalksFor true k c → Does t (of_way (way_in k p) c.directions) (Arrives (segment_of (plain t) c p p.now) looks) asked over f counts)
    → counts ≡ taken_of (length p.payload) taken
    → Tallies t (lines ++ record { conv = k.id; act = Seg p p.now looks [] } ∷ [])
    (xs ++ record { kept = record { live = true; talk = next }; sums = with_entry (way_in k p) (length p.payload) taken over sums } ∷ ys)
    (core_after (plain t) core (record { conv = k.id; act = Seg p p.now looks [] })).convos
seg_tallies t first lines xs k sums ys waiting finished core p looks asked over f counts taken next st h ids_x ids_y same does counts_is =
    line_tallies t lines xs (record { kept = record { live = true; talk = k }; sums = sums }) ys core (record { conv = k.id; act = Seg p p.now looks [] })
    (record { kept = record { live = true; talk = next }; sums = with_entry (way_in k p) (length p.payload) taken over sums })
    (with_way (way_in k p) (record { payload = length p.payload; taken = taken; over = over }) (both nothing_brought))
    h ids_x ids_y refl same (sym (entry_sums (way_in k p) (length p.payload) taken over sums)) brings
  where
    brings : (c : Convo) → find_convo k.id core.convos ≡ Some c
        → BringsBoth (plain t) c (Seg p p.now looks []) (with_way (way_in k p) (record { payload = length p.payload; taken = taken; over = over }) (both nothing_brought))
    brings c e =
        let talks : TalksFor true k c = found_talks first waiting (kept_in xs) (record { live = true; talk = k }) (kept_in ys) finished core c st ids_x e in
        seg_brings t k c p p.now looks [] asked over f counts taken true talks (does c talks) counts_is

-- an answer: no number changes
pub answer_tallies : (t : Terms) (lines : List Line) (xs : List Row) (r : Row) (ys : List Row) (core : Core) (conv event : ℕ) (advice : Advice) (frees : List Free)
    → Tallies t lines (xs ++ r ∷ ys) core.convos → HasNoId conv (kept_in xs) → HasNoId conv (kept_in ys) → number_of r ≡ conv
    → Tallies t (lines ++ record { conv = conv; act = Answer event advice frees } ∷ []) (xs ++ r ∷ ys) (core_after (plain t) core (record { conv = conv; act = Answer event advice frees })).convos
answer_tallies t lines xs r ys core conv event advice frees h ids_x ids_y at =
    line_tallies t lines xs r ys core (record { conv = conv; act = Answer event advice frees }) r (both nothing_brought) h ids_x ids_y at refl (sym (same_sums r.sums))
    (λ c e. answer_brings (plain t) c event advice frees)

-- an End, at the end of the capture
pub end_tallies : (t : Terms) (last first : ℕ) (lines : List Line) (xs : List Row) (k : Talk) (sums : Both Sums) (ys : List Row) (waiting : List Told) (finished : Option ℕ) (core : Core) (next : Talk)
    → StandsForCore first (kept_in xs ++ record { live = true; talk = k } ∷ kept_in ys) waiting finished core
    → Tallies t lines (xs ++ record { kept = record { live = true; talk = k }; sums = sums } ∷ ys) core.convos
    → HasNoId k.id (kept_in xs) → HasNoId k.id (kept_in ys) → next.id ≡ k.id
    → Tallies t (lines ++ record { conv = k.id; act = End last Finish [] [] } ∷ [])
    (xs ++ record { kept = record { live = false; talk = next }; sums = with_end (chunk_list k.fore.chunk) (chunk_list k.back.chunk) sums } ∷ ys)
    (core_after (plain t) core (record { conv = k.id; act = End last Finish [] [] })).convos
end_tallies t last first lines xs k sums ys waiting finished core next st h ids_x ids_y same =
    line_tallies t lines xs (record { kept = record { live = true; talk = k }; sums = sums }) ys core (record { conv = k.id; act = End last Finish [] [] })
    (record { kept = record { live = false; talk = next }; sums = with_end (chunk_list k.fore.chunk) (chunk_list k.back.chunk) sums })
    (ended_with k) h ids_x ids_y refl same (sym (end_sums k sums))
    (λ c e. end_brings t k c last Finish [] [] true (found_talks first waiting (kept_in xs) (record { live = true; talk = k }) (kept_in ys) finished core c st ids_x e))

-- A datagram that opens a conversation.

-- its first packet goes fore
pub first_way : (p : Packet) → way_in (new_talk p) p ≡ Fore
first_way p = ap (λ b. cond b Fore Back) (by p.toward)
  where
    by : (toward : Toward) → same_toward toward toward ≡ true
    by Up = refl
    by Down = refl

no_totals : (t : Terms) (p : Packet) (way : Way) → HasSums no_sums (total_of (plain t) (new_convo p) way [])
no_totals t p Fore = record { payload = refl; delivered = refl; counts = refl; gaps = refl; gap_bytes = refl }
no_totals t p Back = record { payload = refl; delivered = refl; counts = refl; gaps = refl; gap_bytes = refl }

found_new : (core : Core) (p : Packet) (looks : List LookEntry) → find_convo p.number core.convos ≡ None → found_by core (record { conv = p.number; act = Seg p p.now looks [] }) ≡ new_convo p
found_new core p looks e = rw (found_by, e) refl

pub new_tallies : (t : Terms) (lines : List Line) (rows : List Row) (core : Core) (p : Packet) (looks : List LookEntry) (asked : List Ask) (over : List OpenChunk) (f : Flow) (counts : Counts) (taken : ℕ) (next : Talk)
    → core_at (plain t) idle_core lines ≡ core → Tallies t lines rows core.convos → HasNoId p.number (kept_in rows) → is_tcp p ≡ false → next.id ≡ p.number
    → Does t (of_way (way_in (new_talk p) p) (new_convo p).directions) (Arrives (segment_of (plain t) (new_convo p) p p.now) looks) asked over f counts
    → counts ≡ taken_of (length p.payload) taken
    → Tallies t (lines ++ record { conv = p.number; act = Seg p p.now looks [] } ∷ [])
    (rows ++ record { kept = record { live = true; talk = next }; sums = with_entry (way_in (new_talk p) p) (length p.payload) taken over (both no_sums) } ∷ [])
    (core_after (plain t) core (record { conv = p.number; act = Seg p p.now looks [] })).convos
new_tallies t lines rows core p looks asked over f counts taken next is h ids udp same does counts_is =
    subst (Tallies t (lines ++ line ∷ []) (rows ++ row ∷ [])) (sym convos_are)
    (tally_joined t (lines ++ line ∷ []) rows row [] core.convos (record { id = p.number; convo = after (plain t) (new_convo p) act }) []
    (others_tallied t lines line rows core.convos h ids)
    (tally_push t lines line opened row (record { id = p.number; convo = new_convo p }) bs before refl refl (sym (entry_sums (way_in (new_talk p) p) (length p.payload) taken over (both no_sums)))
    (seg_brings t (new_talk p) (new_convo p) p p.now looks [] asked over f counts taken true (new_talks p udp) does counts_is))
    tt)
  where
    act : Act
    act = Seg p p.now looks []

    line : Line
    line = record { conv = p.number; act = act }

    bs : Both Brought
    bs = with_way (way_in (new_talk p) p) (record { payload = length p.payload; taken = taken; over = over }) (both nothing_brought)

    row : Row
    row = record { kept = record { live = true; talk = next }; sums = with_entry (way_in (new_talk p) p) (length p.payload) taken over (both no_sums) }

    opened : Row
    opened = record { kept = record { live = true; talk = next }; sums = both no_sums }

    none : find_convo p.number core.convos ≡ None
    none = find_none p.number core.convos (tallied_none t lines p.number rows core.convos h ids)

    no_lines : history p.number lines ≡ []
    no_lines = no_history (plain t) idle_core lines p.number (ap (λ (c : Core). find_convo p.number c.convos) is ∙ none)

    before : HasTally t lines opened (record { id = p.number; convo = new_convo p })
    before = record {
      number = sym same;
      convo_is = ap (convo_after (plain t) (new_convo p)) no_lines;
      fore = subst (λ (acts : List Act). HasSums no_sums (total_of (plain t) (new_convo p) Fore acts)) (sym no_lines) (no_totals t p Fore);
      back = subst (λ (acts : List Act). HasSums no_sums (total_of (plain t) (new_convo p) Back acts)) (sym no_lines) (no_totals t p Back);
    }

    convos_are : (core_after (plain t) core line).convos ≡ core.convos ++ record { id = p.number; convo = after (plain t) (new_convo p) act } ∷ []
    convos_are =
        ap (λ (c : Convo). put_convo p.number (after (plain t) c act) core.convos) (found_new core p looks none)
        ∙ put_new p.number (after (plain t) (new_convo p) act) core.convos (tallied_none t lines p.number rows core.convos h ids)

-- The core behind a line more of its book.

pub core_next : (terms : Terms) (lines : List Line) (core : Core) (line : Line) → core_at terms idle_core lines ≡ core → core_at terms idle_core (lines ++ line ∷ []) ≡ core_after terms core line
core_next terms lines core line is = core_at_push terms idle_core lines line ∙ ap (λ (c : Core). core_after terms c line) is

pub tallies_next : (t : Terms) (lines : List Line) (rows : List Row) (core : Core) (line : Line) → core_at (plain t) idle_core lines ≡ core
    → Tallies t (lines ++ line ∷ []) rows (core_after (plain t) core line).convos → Tallies t (lines ++ line ∷ []) rows (core_at (plain t) idle_core (lines ++ line ∷ [])).convos
tallies_next t lines rows core line is h = subst (λ (c : Core). Tallies t (lines ++ line ∷ []) rows c.convos) (sym (core_next (plain t) lines core line is)) h
