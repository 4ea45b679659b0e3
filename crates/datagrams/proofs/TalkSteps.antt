-- What entries do to a conversation of datagrams, by what is kept of it.
use Rattle.std.specs.Prelude.{◌≡◌, refl, ℕ, suc, Bool, true, false, cond, not, ◌&&◌, ◌%◌, ◌/◌, ◌==◌, List, [], ◌∷◌, ◌++◌, map, Option, None, Some}
use Rattle.std.proofs.lemmas.List.{map-append}
use Rattle.std.proofs.Common.{sym, ◌∙◌, ap, subst, arith, append-nil}
use Rattle.evring.specs.Advice.{no_advice}
use Rattle.evring.specs.declared.reason.Reason.{Reason}
use Rattle.evring.specs.declared.reason.Reason.TheVariants.{Reset, Closed, Finish}
use Rattle.evring.specs.declared.way.Way.{Way}
use Rattle.evring.specs.declared.way.Way.TheVariants.{Fore, Back}
use Rattle.histbook.specs.declared.look_entry.LookEntry.{LookEntry}
use Rattle.prio_budget.specs.declared.free.Free.{Free}
use Rattle.streamdefs.specs.Lists.{is_empty}
use Rattle.streamdefs.specs.Both.{Both, both, of_way, with_way}
use Rattle.streamdefs.specs.Packet.{Packet, is_tcp, has_rst}
use Rattle.streamdefs.specs.Terms.{Terms}
use Rattle.cutclass.specs.declared.cut.Cut.{Cut}
use Rattle.cutclass.specs.declared.cut.Cut.TheVariants.{Unset}
use Rattle.cutclass.specs.InForce.{first_set}
use Rattle.streamdefs.specs.Reorder.{Charge}
use Rattle.streamdefs.specs.View.{Ask}
use Rattle.streamdefs.specs.Pending.{Piece}
use Rattle.streamdefs.specs.Direction.{Direction, Deed, Kind, Counts, no_counts, direction_after, asks_by, pieces_by, spares_by, untouched}
use Rattle.streamdefs.specs.Direction.Kind.{Datagrams}
use Rattle.streamdefs.specs.Direction.Deed.{Arrives, Ends}
use Rattle.streamdefs.specs.Convo.{Convo, Kept, Delivery, Event, new_convo, is_live, way_of, kind_of, segment_of, cutoff_in_force, carrying, after, is_done, given_back, answered_event, charges_of, keep_after}
use Rattle.streamdefs.specs.Convo.Act.{Seg, Answer, End}
use Rattle.streamdefs.specs.Convo.Event.{New, Chunk, Ended}
use Rattle.datagrams.specs.Flow.{Flow, OpenChunk, StandsFor, IsDatagram, plain, piece_for, dry, charge_for, chunk_list}
use Rattle.datagrams.specs.Talk.{Talk, TalksFor, with_flow, way_in, delivered, ended}
use Rattle.datagrams.proofs.DirectionSteps.{does_end}
use Rattle.datagrams.specs.Steps.{Does, DoesEnd, DoesOne}

-- a new direction
pub dry_stands : StandsFor dry untouched
dry_stands = record { sent = refl; front = refl; behind = omega arith; held = refl; hole = refl; fin = refl; copy = refl; gap = refl; bytes = refl; whole = tt }

-- a new conversation
pub new_talks : (p : Packet) → is_tcp p ≡ false → TalksFor true (record { id = p.number; key = p.key; toward = p.toward; fore = dry; back = dry }) (new_convo p)
new_talks p udp = record { key = refl; udp = udp; toward = refl; fore = dry_stands; back = dry_stands; own = refl; advised = refl; kept = refl; alive_is = refl }

cond_false : (b : Bool) (x y : Kind) → b ≡ false → cond b x y ≡ y
cond_false b x y e = ap (λ v. cond v x y) e

kind_is : (t : Terms) (c : Convo) → is_tcp c.first ≡ false → kind_of (plain t) c ≡ Datagrams
kind_is t c udp = cond_false _ _ _ udp

cutoff_is : (t : Terms) (c : Convo) (way : Way) → c.own ≡ both Unset → cutoff_in_force (plain t) c way ≡ None
cutoff_is t c way own = ap (λ cuts. first_set (of_way way cuts ∷ Unset ∷ of_way way unset ∷ Unset ∷ [])) own ∙ by way
  where
    unset : Both Cut
    unset = both Unset

    by : (way : Way) → first_set (of_way way unset ∷ Unset ∷ of_way way unset ∷ Unset ∷ []) ≡ None
    by Fore = refl
    by Back = refl

-- a packet of a live conversation is a datagram
pub is_datagram : (t : Terms) (k : Talk) (c : Convo) (p : Packet) (now : ℕ) → TalksFor true k c → is_tcp p ≡ false → IsDatagram (segment_of (plain t) c p now) p.payload
is_datagram t k c p now st udp = record {
  payload_is = refl;
  fin = ap (λ b. b && (p.flags % 2 == 1)) udp;
  cutoff = cutoff_is t c (way_of c p) st.own;
  live = (λ i. st.alive_is i && not (udp i && ((p.flags / 4) % 2 == 1)));
}

pub way_is : (k : Talk) (c : Convo) (p : Packet) (alive : Bool) → TalksFor alive k c → way_of c p ≡ way_in k p
way_is k c p alive st = ap (λ toward. cond (Rattle.streamdefs.specs.Packet.same_toward toward p.toward) Fore Back) st.toward

append_cond : {X : Type 0} (xs : List X) (b : Bool) → xs ++ cond b [] [] ≡ xs
append_cond xs true = append-nil xs
append_cond xs false = append-nil xs

carrying_none : (way : Way) (pieces : List Piece) → carrying way [] pieces ≡ map (λ piece. record { way = way; piece = piece; kept = [] }) pieces
carrying_none way [] = refl
carrying_none way (piece ∷ pieces) = ap (λ ds. record { way = way; piece = piece; kept = [] } ∷ ds) (carrying_none way pieces)

delivered_map : (way : Way) (over : List OpenChunk) → map Chunk (map (λ piece. record { way = way; piece = piece; kept = [] }) (map piece_for over)) ≡ map (delivered way) over
delivered_map way [] = refl
delivered_map way (o ∷ over) = ap (λ es. delivered way o ∷ es) (delivered_map way over)

no_kept : (way : Way) → of_way way (both {X = List Kept} []) ≡ []
no_kept Fore = refl
no_kept Back = refl

-- the deliveries of a step, where nothing is kept
chunks_of : (c : Convo) (way : Way) (pieces : List Piece) (over : List OpenChunk) → c.kept ≡ both [] → pieces ≡ map piece_for over
    → map Chunk (carrying way (of_way way c.kept) pieces) ≡ map (delivered way) over
chunks_of c way pieces over kept is =
    ap (λ ks. map Chunk (carrying way (of_way way ks) pieces)) kept ∙ ap (λ k. map Chunk (carrying way k pieces)) (no_kept way)
    ∙ ap (λ ps. map Chunk (carrying way [] ps)) is ∙ ap (map Chunk) (carrying_none way (map piece_for over)) ∙ delivered_map way over

both_none : (b : Bool) (way : Way) (kept : Both (List Kept)) → kept ≡ both [] → cond b kept (with_way way [] kept) ≡ both []
both_none true way kept e = e
both_none false Fore kept e = ap (with_way Fore []) e
both_none false Back kept e = ap (with_way Back []) e

-- the directions with another one for a way
flows_with : (k : Talk) (c : Convo) (w : Way) (f : Flow) (d : Direction) → StandsFor k.fore c.directions.fore → StandsFor k.back c.directions.back → StandsFor f d
    → StandsFor (with_flow w f k).fore (with_way w d c.directions).fore × StandsFor (with_flow w f k).back (with_way w d c.directions).back
flows_with k c Fore f d fore back new = (new, back)
flows_with k c Back f d fore back new = (fore, new)

same_key_with : (k : Talk) (w : Way) (f : Flow) → (with_flow w f k).key ≡ k.key
same_key_with k Fore f = refl
same_key_with k Back f = refl

same_toward_with : (k : Talk) (w : Way) (f : Flow) → (with_flow w f k).toward ≡ k.toward
same_toward_with k Fore f = refl
same_toward_with k Back f = refl

-- no FIN came, so a conversation is not closed
not_done : (t : Terms) (c : Convo) → c.directions.fore.fin ≡ None → is_done (plain t) c Fore ≡ false
not_done t c e = λ i. is_done (plain t) (record c { directions = record c.directions { fore = record c.directions.fore { fin = e i } } }) Fore

no_ending : (live rst fore back : Bool) (reset closed : Reason × ℕ) → rst ≡ false → fore ≡ false → cond live (cond rst (Some reset) (cond (fore && back) (Some closed) None)) None ≡ None
no_ending true rst fore back reset closed r f = λ i. cond (r i) (Some reset) (cond (f i && back) (Some closed) None)
no_ending false rst fore back reset closed r f = refl

-- a datagram's entry
pub does_seg : (t : Terms) (k : Talk) (c : Convo) (p : Packet) (now : ℕ) (looks : List LookEntry) (asked : List Ask) (over : List OpenChunk) (f : Flow) (counts : Counts)
    → TalksFor true k c → is_tcp p ≡ false
    → Does t (of_way (way_in k p) c.directions) (Arrives (segment_of (plain t) c p now) looks) asked over f counts
    → DoesOne t c (Seg p now looks []) asked (cond (is_empty c.events) (New ∷ []) [] ++ map (delivered (way_in k p)) over) (with_flow (way_in k p) f k)
does_seg t k c p now looks asked over f counts st udp does = record {
  asks_are = append_cond (asks_by (plain t) (kind_of (plain t) c) (of_way (way_of c p) c.directions) entry) _ ∙ (λ i. asks_by (plain t) (kind i) (of_way (way i) c.directions) entry) ∙ does.asks;
  events_are =
      append-nil (first ++ map Chunk (carrying (way_of c p) (of_way (way_of c p) c.kept) (pieces_by (plain t) (kind_of (plain t) c) (of_way (way_of c p) c.directions) entry) ++ []))
      ∙ ap (λ ds. first ++ map Chunk ds) (append-nil (carrying (way_of c p) (of_way (way_of c p) c.kept) (pieces_by (plain t) (kind_of (plain t) c) (of_way (way_of c p) c.directions) entry)))
      ∙ ap (λ es. first ++ es) (chunks_of c (way_of c p) (pieces_by (plain t) (kind_of (plain t) c) (of_way (way_of c p) c.directions) entry) over st.kept ((λ i. pieces_by (plain t) (kind i) (of_way (way i) c.directions) entry) ∙ does.pieces))
      ∙ ap (λ w. first ++ map (delivered w) over) way;
  none_released = ap (λ cs. (cs ++ []) ++ []) ((λ i. spares_by (plain t) (kind i) (of_way (way i) c.directions) entry) ∙ does.spares);
  none_ending = no_ending (is_live c) (has_rst p) (is_done (plain t) later Fore) (is_done (plain t) later Back) (Reset, now) (Closed, now) (ap (λ b. b && ((p.flags / 4) % 2 == 1)) udp) (not_done t later both_stand.0.fin);
  stands = stands_behind;
}
  where
    entry : Deed
    entry = Arrives (segment_of (plain t) c p now) looks

    later : Convo
    later = after (plain t) c (Seg p now looks [])

    first : List Event
    first = cond (is_empty c.events) (New ∷ []) []

    kind : kind_of (plain t) c ≡ Datagrams
    kind = kind_is t c st.udp

    way : way_of c p ≡ way_in k p
    way = way_is k c p true st

    both_stand : StandsFor (with_flow (way_in k p) f k).fore (after (plain t) c (Seg p now looks [])).directions.fore × StandsFor (with_flow (way_in k p) f k).back (after (plain t) c (Seg p now looks [])).directions.back
    both_stand =
        let made = flows_with k c (way_in k p) f (direction_after (plain t) Datagrams (of_way (way_in k p) c.directions) entry) st.fore st.back does.stands in
        let P : Kind → Way → Type 0 = λ kn w. StandsFor (with_flow (way_in k p) f k).fore (with_way w (direction_after (plain t) kn (of_way w c.directions) entry) c.directions).fore
        × StandsFor (with_flow (way_in k p) f k).back (with_way w (direction_after (plain t) kn (of_way w c.directions) entry) c.directions).back in
        subst (λ (kn : Kind). P kn (way_of c p)) (sym kind) (subst (λ (w : Way). P Datagrams w) (sym way) made)

    stands_behind : TalksFor true (with_flow (way_in k p) f k) (after (plain t) c (Seg p now looks []))
    stands_behind = record {
      key = st.key ∙ sym (same_key_with k (way_in k p) f);
      udp = st.udp;
      toward = st.toward ∙ sym (same_toward_with k (way_in k p) f);
      fore = both_stand.0;
      back = both_stand.1;
      own = st.own;
      advised = st.advised;
      kept = both_none _ (way_of c p) c.kept st.kept;
      alive_is = st.alive_is;
    }

no_charge : (b : Bool) → cond b (charges_of []) [] ≡ []
no_charge true = refl
no_charge false = refl

pub does_finish : (t : Terms) (k : Talk) (c : Convo) (at : ℕ) → TalksFor true k c
    → DoesEnd t c (End at Finish [] []) (map (delivered Fore) (chunk_list k.fore.chunk) ++ map (delivered Back) (chunk_list k.back.chunk) ++ Ended Finish ∷ []) (ended k)
does_finish t k c at st = record {
  asks_are = refl;
  events_are = ap (λ es. es ++ Ended Finish ∷ []) (
      map-append Chunk fore_given (back_given ++ [])
      ∙ ap (λ ds. map Chunk fore_given ++ map Chunk ds) (append-nil back_given)
      ∙ (λ i. fore_chunks i ++ back_chunks i)
      );
  none_released = λ i. (fore_spares i ++ fore_unshown i) ++ ((back_spares i ++ back_unshown i) ++ []);
  stands = record {
    key = st.key;
    udp = st.udp;
    toward = st.toward;
    fore = subst (λ (kn : Kind). StandsFor (record k.fore { chunk = None }) (direction_after (plain t) kn c.directions.fore (Ends at))) (sym kind) fore.stands;
    back = subst (λ (kn : Kind). StandsFor (record k.back { chunk = None }) (direction_after (plain t) kn c.directions.back (Ends at))) (sym kind) back.stands;
    own = st.own;
    advised = st.advised;
    kept = refl;
    alive_is = refl;
  };
}
  where
    kind : kind_of (plain t) c ≡ Datagrams
    kind = kind_is t c st.udp

    fore : Does t c.directions.fore (Ends at) [] (chunk_list k.fore.chunk) (record k.fore { chunk = None }) no_counts
    fore = does_end t k.fore c.directions.fore at st.fore

    back : Does t c.directions.back (Ends at) [] (chunk_list k.back.chunk) (record k.back { chunk = None }) no_counts
    back = does_end t k.back c.directions.back at st.back

    fore_pieces : List Piece
    fore_pieces = pieces_by (plain t) (kind_of (plain t) c) c.directions.fore (Ends at)

    back_pieces : List Piece
    back_pieces = pieces_by (plain t) (kind_of (plain t) c) c.directions.back (Ends at)

    fore_given : List Delivery
    fore_given = carrying Fore c.kept.fore fore_pieces

    back_given : List Delivery
    back_given = carrying Back c.kept.back back_pieces

    fore_chunks : map Chunk fore_given ≡ map (delivered Fore) (chunk_list k.fore.chunk)
    fore_chunks = chunks_of c Fore fore_pieces (chunk_list k.fore.chunk) st.kept (ap (λ kn. pieces_by (plain t) kn c.directions.fore (Ends at)) kind ∙ fore.pieces)

    back_chunks : map Chunk back_given ≡ map (delivered Back) (chunk_list k.back.chunk)
    back_chunks = chunks_of c Back back_pieces (chunk_list k.back.chunk) st.kept (ap (λ kn. pieces_by (plain t) kn c.directions.back (Ends at)) kind ∙ back.pieces)

    fore_spares : spares_by (plain t) (kind_of (plain t) c) c.directions.fore (Ends at) ≡ []
    fore_spares = ap (λ kn. spares_by (plain t) kn c.directions.fore (Ends at)) kind ∙ fore.spares

    back_spares : spares_by (plain t) (kind_of (plain t) c) c.directions.back (Ends at) ≡ []
    back_spares = ap (λ kn. spares_by (plain t) kn c.directions.back (Ends at)) kind ∙ back.spares

    fore_unshown : cond (is_empty fore_pieces) (charges_of c.kept.fore) [] ≡ []
    fore_unshown = ap (λ (ks : Both (List Kept)). cond (is_empty fore_pieces) (charges_of ks.fore) []) st.kept ∙ no_charge (is_empty fore_pieces)

    back_unshown : cond (is_empty back_pieces) (charges_of c.kept.back) [] ≡ []
    back_unshown = ap (λ (ks : Both (List Kept)). cond (is_empty back_pieces) (charges_of ks.back) []) st.kept ∙ no_charge (is_empty back_pieces)

keep_same : (c : Convo) (event : Option Event) → keep_after c no_advice event ≡ c.kept
keep_same c None = refl
keep_same c (Some New) = refl
keep_same c (Some (Chunk d)) = refl
keep_same c (Some (Ended reason)) = refl

-- an answer without advice
pub answered_stands : (t : Terms) (k : Talk) (c : Convo) (alive : Bool) (event : ℕ) (frees : List Free) → TalksFor alive k c → TalksFor alive k (after (plain t) c (Answer event no_advice frees))
answered_stands t k c alive event frees st = by (is_live c) refl
  where
    fields : (own : Both Cut) (kept : Both (List Kept)) → own ≡ both Unset → kept ≡ both [] → TalksFor alive k (record c { own = own; kept = kept; answered = suc c.answered })
    fields own kept o e = record {
      key = st.key;
      udp = st.udp;
      toward = st.toward;
      fore = st.fore;
      back = st.back;
      own = o;
      advised = st.advised;
      kept = e;
      alive_is = st.alive_is;
    }

    by : (b : Bool) → is_live c ≡ b → TalksFor alive k (cond b (record c { own = c.own; kept = keep_after c no_advice (answered_event c); answered = suc c.answered }) (record c { answered = suc c.answered }))
    by true e = fields c.own (keep_after c no_advice (answered_event c)) st.own (keep_same c (answered_event c) ∙ st.kept)
    by false e = fields c.own c.kept st.own st.kept

-- the charges that it gives back
pub given_charges : (c : Convo) (way : Way) (o : OpenChunk) → answered_event c ≡ Some (delivered way o) → given_back c no_advice (answered_event c) ≡ map charge_for o.parts
given_charges c way o e = ap (given_back c no_advice) e ∙ by (is_live c)
  where
    charges : List Charge
    charges = map charge_for o.parts

    by : (b : Bool) → cond (b && false) [] (charges ++ []) ≡ charges
    by true = append-nil charges
    by false = append-nil charges
