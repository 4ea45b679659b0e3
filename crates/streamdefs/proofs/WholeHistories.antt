-- What each entry keeps, over every history of a conversation: order, what fast mode and UDP hold, and that the deliveries are the
-- flow, each byte once at its position.
use Rattle.std.specs.Prelude.{◌≡◌, refl, ℕ, zero, suc, ◌+◌, ◌≤◌, ◌<◌, ◌==◌, Bool, true, false, cond, List, [], ◌∷◌, ◌++◌, length, drop, filter}
use Rattle.std.proofs.Common.{sym, ◌∙◌, ap, subst, arith, append-nil}
use mathlib.Core.List.{append_assoc}
use Rattle.evring.specs.declared.advice.Advice.{Advice}
use Rattle.evring.specs.declared.way.Way.{Way}
use Rattle.evring.specs.declared.way.Way.TheVariants.{Fore, Back}
use Rattle.histbook.specs.declared.look_entry.LookEntry.{LookEntry}
use Rattle.streamdefs.specs.Lists.{how_many}
use Rattle.streamdefs.specs.Both.{Both, of_way, with_way, same_way}
use Rattle.streamdefs.specs.Packet.{Packet}
use Rattle.streamdefs.specs.Terms.{Terms}
use Rattle.streamdefs.specs.Reorder.{Placed}
use Rattle.streamdefs.specs.View.{passed}
use Rattle.streamdefs.specs.Pending.{Piece}
use Rattle.streamdefs.specs.Direction.{Kind, Direction, Segment, Deed, untouched, direction_after, pieces_by, pending_by, gone_by, view_after, held_with, impatience}
use Rattle.streamdefs.specs.Direction.Kind.{Strict, Fast, Datagrams}
use Rattle.streamdefs.specs.Direction.Deed.{Arrives, Falls_due, Ends}
use Rattle.streamdefs.specs.Convo.{Act, Convo, Kept, Delivery, new_convo, kind_of, way_of, segment_of, is_live, asks_in, carrying, deliveries_in, after, after_answer, convo_after, along}
use Rattle.streamdefs.specs.Convo.Act.{Seg, Answer, Time, End}
use Rattle.streamdefs.specs.Totals.{deliveries_of}
use Rattle.streamdefs.specs.FastMode.{WaitsForNothing}
use Rattle.streamdefs.specs.Ordered.{Rises, IsOrdered}
use Rattle.streamdefs.specs.Once.{numbered, places, delivered_at, direction_of, IsDelivered, EachOnce}
use Rattle.streamdefs.proofs.Accounted.{ended_waits}
use Rattle.streamdefs.proofs.FastRule.{passed_always, drop_all}
use Rattle.streamdefs.proofs.OrderedViews.{ordered_after}
use Rattle.streamdefs.proofs.Places.{fresh_at, places_append, EndsAt, delivered_at_places}

-- One direction, one entry.

passes_all : (terms : Terms) (kind : Kind) (front : ℕ) (hs : List Placed) → WaitsForNothing kind → drop (length (passed (impatience terms kind) front hs)) hs ≡ []
passes_all terms Strict front hs w = absurd w
passes_all terms Fast front hs w = ap (λ (gone : List Placed). drop (length gone) hs) (passed_always front hs) ∙ drop_all hs
passes_all terms Datagrams front hs w = ap (λ (gone : List Placed). drop (length gone) hs) (passed_always front hs) ∙ drop_all hs

drop_none : (n : ℕ) → drop {A = Placed} n [] ≡ []
drop_none zero = refl
drop_none (suc n) = refl

arrived_bare : (terms : Terms) (kind : Kind) (d : Direction) (s : Segment) (looks : List LookEntry) (live : Bool) → WaitsForNothing kind → d.view.held ≡ []
    → (view_after terms kind d (Arrives (record s { live = live }) looks)).held ≡ []
arrived_bare terms kind d s looks true w e = passes_all terms kind d.view.front (held_with terms kind d (Arrives (record s { live = true }) looks)) w
arrived_bare terms kind d s looks false w e = e

bare_after : (terms : Terms) (kind : Kind) (d : Direction) (deed : Deed) → WaitsForNothing kind → d.view.held ≡ [] → (view_after terms kind d deed).held ≡ []
bare_after terms kind d (Arrives s looks) w e = arrived_bare terms kind d s looks s.live w e
bare_after terms kind d (Falls_due at looks) w e = ap (λ hs. drop (length (gone_by terms kind d (Falls_due at looks))) hs) e ∙ drop_none (length (gone_by terms kind d (Falls_due at looks)))
bare_after terms kind d (Ends at) w e = ap (λ hs. drop (length (gone_by terms kind d (Ends at))) hs) e ∙ drop_none (length (gone_by terms kind d (Ends at)))

-- what a history of which these bytes were delivered has made of a direction
record Tells (kind : Kind) (done : List (ℕ × ℕ)) (d : Direction) : Type 0 where
  ordered : IsOrdered d.view
  ends : EndsAt d.view.front d.pending.bytes
  same : done ++ places d.pending.bytes ≡ places d.view.flow
  bare : WaitsForNothing kind → d.view.held ≡ []

tells_first : (kind : Kind) → Tells kind [] untouched
tells_first kind = record { ordered = record { held = tt; flow = tt; front = refl }; ends = tt; same = refl; bare = λ w. refl }

tells_step : (terms : Terms) (kind : Kind) (d : Direction) (deed : Deed) (done : List (ℕ × ℕ)) → Tells kind done d → Tells kind (done ++ fresh_at (pieces_by terms kind d deed)) (direction_after terms kind d deed)
tells_step terms kind d deed done t =
    let ordered = ordered_after terms kind d deed t.ordered in
    let here = delivered_at_places terms kind d deed t.ordered ordered t.ends in
    record {
      ordered = ordered;
      ends = here.1;
      same = append_assoc done (fresh_at (pieces_by terms kind d deed)) (places (pending_by terms kind d deed).bytes) ∙ ap (λ xs. done ++ xs) here.0
          ∙ sym (append_assoc done (places d.pending.bytes) (places (gone_by terms kind d deed))) ∙ ap (λ xs. xs ++ places (gone_by terms kind d deed)) t.same
          ∙ sym (places_append d.view.flow (gone_by terms kind d deed));
      bare = λ w. bare_after terms kind d deed w (t.bare w);
    }

-- Deliveries of one direction.

abbrev told : Way → List Delivery → List (ℕ × ℕ)
told way ds = delivered_at (filter (λ d. same_way way d.way) ds)

one_more : (d : Delivery) (ds : List Delivery) (b : Bool) → delivered_at (cond b (d ∷ ds) ds) ≡ cond b (numbered d.piece.start d.piece.fresh) [] ++ delivered_at ds
one_more d ds true = refl
one_more d ds false = refl

told_append : (way : Way) (ds es : List Delivery) → told way (ds ++ es) ≡ told way ds ++ told way es
told_append way [] es = refl
told_append way (d ∷ ds) es =
    one_more d (filter (λ d. same_way way d.way) (ds ++ es)) (same_way way d.way) ∙ ap (λ xs. cond (same_way way d.way) (numbered d.piece.start d.piece.fresh) [] ++ xs) (told_append way ds es)
    ∙ sym (append_assoc (cond (same_way way d.way) (numbered d.piece.start d.piece.fresh) []) (told way ds) (told way es))
    ∙ ap (λ xs. xs ++ told way es) (sym (one_more d (filter (λ d. same_way way d.way) ds) (same_way way d.way)))

carried : (way w : Way) (kept : List Kept) (ps : List Piece) → told way (carrying w kept ps) ≡ cond (same_way way w) (fresh_at ps) []
carried Fore Fore kept [] = refl
carried Fore Back kept [] = refl
carried Back Fore kept [] = refl
carried Back Back kept [] = refl
carried Fore Fore kept (p ∷ ps) = ap (λ xs. numbered p.start p.fresh ++ xs) (carried Fore Fore [] ps)
carried Fore Back kept (p ∷ ps) = carried Fore Back [] ps
carried Back Fore kept (p ∷ ps) = carried Back Fore [] ps
carried Back Back kept (p ∷ ps) = ap (λ xs. numbered p.start p.fresh ++ xs) (carried Back Back [] ps)

carried_last : (way w : Way) (kept : List Kept) (ps : List Piece) → told way (carrying w kept ps ++ []) ≡ cond (same_way way w) (fresh_at ps) []
carried_last way w kept ps = ap (told way) (append-nil (carrying w kept ps)) ∙ carried way w kept ps

-- One conversation, one entry.

same_by : (c : Convo) (a b : Convo) (which : Bool) → a.directions ≡ c.directions → b.directions ≡ c.directions → (cond which a b).directions ≡ c.directions
same_by c a b true h g = h
same_by c a b false h g = g

first_by : (c : Convo) (a b : Convo) (which : Bool) → a.first ≡ c.first → b.first ≡ c.first → (cond which a b).first ≡ c.first
first_by c a b true h g = h
first_by c a b false h g = g

answer_directions : (c : Convo) (advice : Advice) → (after_answer c advice).directions ≡ c.directions
answer_directions c advice = same_by c _ _ (is_live c) refl refl

answer_first : (c : Convo) (advice : Advice) → (after_answer c advice).first ≡ c.first
answer_first c advice = first_by c _ _ (is_live c) refl refl

first_stays : (terms : Terms) (c : Convo) (act : Act) → (after terms c act).first ≡ c.first
first_stays terms c (Answer event advice frees) = answer_first c advice
first_stays terms c (Seg p now looks frees) = refl
first_stays terms c (Time at looks frees) = refl
first_stays terms c (End at reason looks frees) = refl

same_kind : (terms : Terms) (c e : Convo) → e.first ≡ c.first → kind_of terms e ≡ kind_of terms c
same_kind terms c e h = ap (λ p. kind_of terms (new_convo p)) h

-- nothing is delivered
tells_nothing : (kind : Kind) (done more : List (ℕ × ℕ)) (d : Direction) → more ≡ [] → Tells kind done d → Tells kind (done ++ more) d
tells_nothing kind done more d e t = subst (λ xs. Tells kind xs d) (sym (ap (λ xs. done ++ xs) e ∙ append-nil done)) t

tells_pieces : (kind : Kind) (done more fresh : List (ℕ × ℕ)) (d : Direction) → more ≡ fresh → Tells kind (done ++ fresh) d → Tells kind (done ++ more) d
tells_pieces kind done more fresh d e t = subst (λ xs. Tells kind (done ++ xs) d) (sym e) t

module _ (terms : Terms) (c : Convo) (deed : Deed) (done : List (ℕ × ℕ)) where
  pieces : (w : Way) → List Piece
  pieces w = pieces_by terms (kind_of terms c) (of_way w c.directions) deed

  seg_tells : (w way : Way) → Tells (kind_of terms c) done (of_way way c.directions)
      → Tells (kind_of terms c) (done ++ told way (carrying w (of_way w c.kept) (pieces w) ++ [])) (of_way way (with_way w (direction_after terms (kind_of terms c) (of_way w c.directions) deed) c.directions))
  unfolding pieces
  seg_tells Fore Fore t = tells_pieces (kind_of terms c) done _ _ _ (carried_last Fore Fore c.kept.fore (pieces Fore)) (tells_step terms (kind_of terms c) c.directions.fore deed done t)
  seg_tells Back Back t = tells_pieces (kind_of terms c) done _ _ _ (carried_last Back Back c.kept.back (pieces Back)) (tells_step terms (kind_of terms c) c.directions.back deed done t)
  seg_tells Fore Back t = tells_nothing (kind_of terms c) done _ _ (carried_last Back Fore c.kept.fore (pieces Fore)) t
  seg_tells Back Fore t = tells_nothing (kind_of terms c) done _ _ (carried_last Fore Back c.kept.back (pieces Back)) t

module _ (terms : Terms) (c : Convo) (f b : Deed) (done : List (ℕ × ℕ)) where
  fore : List Piece
  fore = pieces_by terms (kind_of terms c) c.directions.fore f

  back : List Piece
  back = pieces_by terms (kind_of terms c) c.directions.back b

  fore_told : told Fore (carrying Fore c.kept.fore fore ++ (carrying Back c.kept.back back ++ [])) ≡ fresh_at fore
  fore_told =
      told_append Fore (carrying Fore c.kept.fore fore) (carrying Back c.kept.back back ++ []) ∙ ap (λ xs. xs ++ told Fore (carrying Back c.kept.back back ++ [])) (carried Fore Fore c.kept.fore fore)
      ∙ ap (λ xs. fresh_at fore ++ xs) (carried_last Fore Back c.kept.back back) ∙ append-nil (fresh_at fore)

  back_told : told Back (carrying Fore c.kept.fore fore ++ (carrying Back c.kept.back back ++ [])) ≡ fresh_at back
  back_told =
      told_append Back (carrying Fore c.kept.fore fore) (carrying Back c.kept.back back ++ []) ∙ ap (λ xs. xs ++ told Back (carrying Back c.kept.back back ++ [])) (carried Back Fore c.kept.fore fore)
      ∙ carried_last Back Back c.kept.back back

  fore_tells : Tells (kind_of terms c) done c.directions.fore
      → Tells (kind_of terms c) (done ++ told Fore (carrying Fore c.kept.fore fore ++ (carrying Back c.kept.back back ++ []))) (direction_after terms (kind_of terms c) c.directions.fore f)
  unfolding fore back
  fore_tells t = tells_pieces (kind_of terms c) done _ _ _ fore_told (tells_step terms (kind_of terms c) c.directions.fore f done t)

  back_tells : Tells (kind_of terms c) done c.directions.back
      → Tells (kind_of terms c) (done ++ told Back (carrying Fore c.kept.fore fore ++ (carrying Back c.kept.back back ++ []))) (direction_after terms (kind_of terms c) c.directions.back b)
  unfolding fore back
  back_tells t = tells_pieces (kind_of terms c) done _ _ _ back_told (tells_step terms (kind_of terms c) c.directions.back b done t)

-- the looks that a Time's first direction leaves
abbrev left : Terms → Convo → ℕ → List LookEntry → List LookEntry
left terms c at looks = drop (length (asks_in terms c (Fore, Falls_due at looks))) looks

act_tells : (terms : Terms) (way : Way) (c : Convo) (act : Act) (done : List (ℕ × ℕ)) → Tells (kind_of terms c) done (of_way way c.directions)
    → Tells (kind_of terms c) (done ++ told way (deliveries_in terms c act)) (of_way way (after terms c act).directions)
unfolding seg_tells pieces fore_tells back_tells fore back
act_tells terms way c (Answer event advice frees) done t =
    tells_nothing (kind_of terms c) done [] _ refl (subst (λ (ds : Both Direction). Tells (kind_of terms c) done (of_way way ds)) (sym (answer_directions c advice)) t)
act_tells terms way c (Seg p now looks frees) done t = seg_tells terms c (Arrives (segment_of terms c p now) looks) done (way_of c p) way t
act_tells terms Fore c (Time at looks frees) done t = fore_tells terms c (Falls_due at looks) (Falls_due at (left terms c at looks)) done t
act_tells terms Back c (Time at looks frees) done t = back_tells terms c (Falls_due at looks) (Falls_due at (left terms c at looks)) done t
act_tells terms Fore c (End at reason looks frees) done t = fore_tells terms c (Ends at) (Ends at) done t
act_tells terms Back c (End at reason looks frees) done t = back_tells terms c (Ends at) (Ends at) done t

-- Along a history.

all_tell : (terms : Terms) (way : Way) (c : Convo) (acts : List Act) (done : List (ℕ × ℕ)) → Tells (kind_of terms c) done (of_way way c.directions)
    → Tells (kind_of terms c) (done ++ told way (along terms (deliveries_in terms) c acts)) (of_way way (convo_after terms c acts).directions)
all_tell terms way c [] done t = tells_nothing (kind_of terms c) done [] _ refl t
all_tell terms way c (act ∷ acts) done t =
    let kinds = same_kind terms c (after terms c act) (first_stays terms c act) in
    let done_then = done ++ told way (deliveries_in terms c act) in
    let then = subst (λ k. Tells k done_then (of_way way (after terms c act).directions)) (sym kinds) (act_tells terms way c act done t) in
    let all = subst (λ k. Tells k (done_then ++ told way (along terms (deliveries_in terms) (after terms c act) acts)) (of_way way (convo_after terms (after terms c act) acts).directions)) kinds
    (all_tell terms way (after terms c act) acts done_then then) in
    subst (λ xs. Tells (kind_of terms c) xs (of_way way (convo_after terms (after terms c act) acts).directions))
    (append_assoc done (told way (deliveries_in terms c act)) (told way (along terms (deliveries_in terms) (after terms c act) acts))
    ∙ ap (λ xs. done ++ xs) (sym (told_append way (deliveries_in terms c act) (along terms (deliveries_in terms) (after terms c act) acts)))) all

new_tells : (terms : Terms) (way : Way) (first : Packet) → Tells (kind_of terms (new_convo first)) [] (of_way way (new_convo first).directions)
new_tells terms Fore first = tells_first (kind_of terms (new_convo first))
new_tells terms Back first = tells_first (kind_of terms (new_convo first))

whole : (terms : Terms) (first : Packet) (way : Way) (acts : List Act)
    → Tells (kind_of terms (new_convo first)) (delivered_at (deliveries_of terms (new_convo first) way acts)) (direction_of way (convo_after terms (new_convo first) acts))
whole terms first way acts = all_tell terms way (new_convo first) acts [] (new_tells terms way first)

pub so_far_delivered : (terms : Terms) (first : Packet) (way : Way) (acts : List Act)
    → IsDelivered (deliveries_of terms (new_convo first) way acts) (direction_of way (convo_after terms (new_convo first) acts))
so_far_delivered terms first way acts = (whole terms first way acts).same

pub all_ordered : (terms : Terms) (first : Packet) (way : Way) (acts : List Act) → IsOrdered (direction_of way (convo_after terms (new_convo first) acts)).view
all_ordered terms first way acts = (whole terms first way acts).ordered

pub all_bare : (terms : Terms) (first : Packet) (way : Way) (acts : List Act) → WaitsForNothing (kind_of terms (new_convo first))
    → (direction_of way (convo_after terms (new_convo first) acts)).view.held ≡ []
all_bare terms first way acts w = (whole terms first way acts).bare w

-- Once the conversation has ended nothing is pending.

nothing_left : (ps : List Placed) (n : ℕ) → n + length ps ≡ 0 → ps ≡ []
nothing_left [] n h = refl
nothing_left (p ∷ ps) n h = absurd (omega arith)

pub at_end_delivered : (terms : Terms) (first : Packet) (way : Way) (acts : List Act) → is_live (convo_after terms (new_convo first) acts) ≡ false
    → delivered_at (deliveries_of terms (new_convo first) way acts) ≡ places (direction_of way (convo_after terms (new_convo first) acts)).view.flow
at_end_delivered terms first way acts dead =
    let d = direction_of way (convo_after terms (new_convo first) acts) in
    sym (append-nil (delivered_at (deliveries_of terms (new_convo first) way acts)))
    ∙ ap (λ ps. delivered_at (deliveries_of terms (new_convo first) way acts) ++ places ps) (sym (nothing_left d.pending.bytes (length d.view.held) (ended_waits terms first way acts dead)))
    ∙ so_far_delivered terms first way acts

-- A position that rises stands once.

-- how many of these bytes stand at a position
at_position : ℕ → List (ℕ × ℕ) → ℕ
at_position position bytes = how_many (λ b. b.0 == position) bytes

none_by : (position low : ℕ) (p : Placed) (rest : ℕ) (b : Bool) → (p.at == position) ≡ b → low ≤ p.at → position < low → rest ≡ 0 → cond b (suc rest) rest ≡ 0
none_by position low p rest true e l h none = absurd (grind arith)
none_by position low p rest false e l h none = none

none_at : (position low : ℕ) (ps : List Placed) → Rises low ps → position < low → at_position position (places ps) ≡ 0
unfolding at_position
none_at position low [] r l = refl
none_at position low (p ∷ ps) r l =
    let low_at : low ≤ p.at = r.0 in
    none_by position low p (at_position position (places ps)) (p.at == position) refl low_at l (none_at position (suc p.at) ps r.1 (omega arith))

once_by : (position : ℕ) (p : Placed) (rest : ℕ) (b : Bool) → (p.at == position) ≡ b → (position < suc p.at → rest ≡ 0) → rest ≤ 1 → cond b (suc rest) rest ≤ 1
once_by position p rest true e none h = let here : position < suc p.at = grind arith in omega (arith, none here)
once_by position p rest false e none h = h

once_each : (position low : ℕ) (ps : List Placed) → Rises low ps → at_position position (places ps) ≤ 1
unfolding at_position
once_each position low [] r = omega arith
once_each position low (p ∷ ps) r = once_by position p (at_position position (places ps)) (p.at == position) refl (none_at position (suc p.at) ps r.1) (once_each position (suc p.at) ps r.1)

more_by : (a b c : ℕ) (here : Bool) → a ≡ b + c → cond here (suc a) a ≡ cond here (suc b) b + c
more_by a b c true h = omega (arith, h)
more_by a b c false h = h

how_append : (position : ℕ) (xs ys : List (ℕ × ℕ)) → at_position position (xs ++ ys) ≡ at_position position xs + at_position position ys
unfolding at_position
how_append position [] ys = omega arith
how_append position (x ∷ xs) ys = more_by (at_position position (xs ++ ys)) (at_position position xs) (at_position position ys) (x.0 == position) (how_append position xs ys)

pub each_once : (terms : Terms) (first : Packet) (way : Way) (acts : List Act) → EachOnce (delivered_at (deliveries_of terms (new_convo first) way acts))
unfolding at_position
each_once terms first way acts position =
    let t = whole terms first way acts in
    let d = direction_of way (convo_after terms (new_convo first) acts) in
    omega (
      arith,
      ap (at_position position) t.same,
      how_append position (delivered_at (deliveries_of terms (new_convo first) way acts)) (places d.pending.bytes),
      once_each position 0 d.view.flow t.ordered.flow,
    )
