-- Along a history each payload byte is delivered, waits, or has one of the other classes.
use Rattle.std.specs.Prelude.{◌≡◌, refl, ℕ, suc, ◌+◌, Bool, true, false, cond, List, [], ◌∷◌, ◌++◌, length, filter, drop, is_none}
use Rattle.std.proofs.Common.{sym, ◌∙◌, ap, arith, append-nil}
use Rattle.std.proofs.Math.ListN.{length-append}
use Rattle.prio_budget.specs.declared.free.Free.{Free}
use Rattle.evring.specs.declared.advice.Advice.{Advice}
use Rattle.evring.specs.declared.reason.Reason.{Reason}
use Rattle.evring.specs.declared.way.Way.{Way}
use Rattle.evring.specs.declared.way.Way.TheVariants.{Fore, Back}
use Rattle.histbook.specs.declared.look_entry.LookEntry.{LookEntry}
use Rattle.streamdefs.specs.Lists.{or_else}
use Rattle.streamdefs.specs.Both.{Both, of_way, with_way, same_way}
use Rattle.streamdefs.specs.Packet.{Packet}
use Rattle.streamdefs.specs.Terms.{Terms}
use Rattle.streamdefs.specs.Reorder.{Placed}
use Rattle.streamdefs.specs.Pending.{Piece, bytes_in, fresh_in}
use Rattle.streamdefs.specs.Direction.{Kind, Direction, Segment, Deed, Counts, no_counts, sum_of, counts_by, direction_after, pieces_by, pending_by, gone_by}
use Rattle.streamdefs.specs.Direction.Deed.{Arrives, Falls_due, Ends}
use Rattle.streamdefs.specs.Convo.{Act, Convo, Kept, Delivery, kind_of, way_of, segment_of, is_live, asks_in, carrying, deliveries_in, counts_in, after, convo_after, along, new_convo, answered_event, own_after, keep_after}
use Rattle.streamdefs.specs.Convo.Act.{Seg, Answer, Time, End}
use Rattle.streamdefs.specs.Totals.{total_of, deliveries_of, fresh_bytes, counts_of}
use Rattle.streamdefs.specs.Accounts.{waiting_in, waiting_of, IsAccountedWith, IsAccounted}
use Rattle.streamdefs.proofs.CountedOnce.{counted_once}
use Rattle.streamdefs.proofs.Conserved.{conserved}
use Rattle.streamdefs.proofs.Delivered.{delivered}
use Rattle.streamdefs.proofs.FastRule.{passed_always, drop_all}

-- One direction, one entry.

length_bytes : (ps : List Placed) → length (bytes_in ps) ≡ length ps
length_bytes [] = refl
length_bytes (p ∷ ps) = ap suc (length_bytes ps)

stays : (terms : Terms) (kind : Kind) (d : Direction) (deed : Deed)
    → waiting_in (direction_after terms kind d deed) + length (fresh_in (pieces_by terms kind d deed)) ≡ waiting_in d + (counts_by kind d deed).taken
stays terms kind d deed =
    omega (
      arith,
      conserved terms kind d deed,
      ap length (delivered terms kind d deed),
      length-append (fresh_in (pieces_by terms kind d deed)) (bytes_in (pending_by terms kind d deed).bytes),
      length-append (bytes_in d.pending.bytes) (bytes_in (gone_by terms kind d deed)),
      length_bytes (pending_by terms kind d deed).bytes,
      length_bytes d.pending.bytes,
      length_bytes (gone_by terms kind d deed),
    )

sent : (terms : Terms) (kind : Kind) (d : Direction) (deed : Deed) → (direction_after terms kind d deed).sent ≡ d.sent + sum_of (counts_by kind d deed)
sent terms kind d (Arrives s looks) = ap (λ n. d.sent + n) (sym (counted_once kind d s looks))
sent terms kind d (Falls_due at looks) = omega arith
sent terms kind d (Ends at) = omega arith

-- Deliveries of one direction.

abbrev of_way_bytes : Way → List Delivery → ℕ
of_way_bytes way ds = fresh_bytes (filter (λ d. same_way way d.way) ds)

one_more : (d : Delivery) (ds : List Delivery) (b : Bool) → fresh_bytes (cond b (d ∷ ds) ds) ≡ cond b (length d.piece.fresh) 0 + fresh_bytes ds
one_more d ds true = refl
one_more d ds false = omega arith

bytes_append : (way : Way) (ds es : List Delivery) → of_way_bytes way (ds ++ es) ≡ of_way_bytes way ds + of_way_bytes way es
bytes_append way [] es = omega arith
bytes_append way (d ∷ ds) es =
    omega (arith, one_more d (filter (λ d. same_way way d.way) (ds ++ es)) (same_way way d.way), one_more d (filter (λ d. same_way way d.way) ds) (same_way way d.way), bytes_append way ds es)

length_fresh : (p : Piece) (ps : List Piece) → length (fresh_in (p ∷ ps)) ≡ length p.fresh + length (fresh_in ps)
length_fresh p ps = length-append p.fresh (fresh_in ps)

carried : (way w : Way) (kept : List Kept) (ps : List Piece) → of_way_bytes way (carrying w kept ps) ≡ cond (same_way way w) (length (fresh_in ps)) 0
carried Fore Fore kept [] = refl
carried Fore Back kept [] = refl
carried Back Fore kept [] = refl
carried Back Back kept [] = refl
carried Fore Fore kept (p ∷ ps) = omega (arith, length_fresh p ps, carried Fore Fore [] ps)
carried Fore Back kept (p ∷ ps) = carried Fore Back [] ps
carried Back Fore kept (p ∷ ps) = carried Back Fore [] ps
carried Back Back kept (p ∷ ps) = omega (arith, length_fresh p ps, carried Back Back [] ps)

carried_last : (way w : Way) (kept : List Kept) (ps : List Piece) → of_way_bytes way (carrying w kept ps ++ []) ≡ cond (same_way way w) (length (fresh_in ps)) 0
carried_last way w kept ps = ap (of_way_bytes way) (append-nil (carrying w kept ps)) ∙ carried way w kept ps

-- One conversation, one entry.

advised : Convo → Advice → Convo
advised c advice = record c {
  own = own_after c advice (answered_event c);
  advised = or_else advice.priority c.advised;
  kept = keep_after c advice (answered_event c);
  answered = suc c.answered;
}

same_directions : (c : Convo) (advice : Advice) (b : Bool) → (cond b (advised c advice) (record c { answered = suc c.answered })).directions ≡ c.directions
unfolding advised
same_directions c advice true = refl
same_directions c advice false = refl

same_ended : (c : Convo) (advice : Advice) (b : Bool) → (cond b (advised c advice) (record c { answered = suc c.answered })).ended ≡ c.ended
unfolding advised
same_ended c advice true = refl
same_ended c advice false = refl

-- what a segment does
module _ (terms : Terms) (c : Convo) (deed : Deed) where
  pieces : (w : Way) → List Piece
  pieces w = pieces_by terms (kind_of terms c) (of_way w c.directions) deed

  moved : Way → Both Direction
  moved w = with_way w (direction_after terms (kind_of terms c) (of_way w c.directions) deed) c.directions

  counted : Way → Way → Counts
  counted Fore Fore = counts_by (kind_of terms c) c.directions.fore deed
  counted Back Back = counts_by (kind_of terms c) c.directions.back deed
  counted Fore Back = no_counts
  counted Back Fore = no_counts

  seg_stays : (w way : Way) → waiting_in (of_way way (moved w)) + of_way_bytes way (carrying w (of_way w c.kept) (pieces w) ++ []) ≡ waiting_in (of_way way c.directions) + (counted w way).taken
  unfolding pieces moved counted
  seg_stays Fore Fore = omega (arith, stays terms (kind_of terms c) c.directions.fore deed, carried_last Fore Fore c.kept.fore (pieces Fore))
  seg_stays Back Back = omega (arith, stays terms (kind_of terms c) c.directions.back deed, carried_last Back Back c.kept.back (pieces Back))
  seg_stays Fore Back = omega (arith, carried_last Back Fore c.kept.fore (pieces Fore))
  seg_stays Back Fore = omega (arith, carried_last Fore Back c.kept.back (pieces Back))

  seg_sent : (w way : Way) → (of_way way (moved w)).sent ≡ (of_way way c.directions).sent + sum_of (counted w way)
  unfolding moved counted
  seg_sent Fore Fore = sent terms (kind_of terms c) c.directions.fore deed
  seg_sent Back Back = sent terms (kind_of terms c) c.directions.back deed
  seg_sent Fore Back = omega arith
  seg_sent Back Fore = omega arith

-- what an entry of both directions does
module _ (terms : Terms) (c : Convo) (f b : Deed) where
  fore : List Piece
  fore = pieces_by terms (kind_of terms c) c.directions.fore f

  back : List Piece
  back = pieces_by terms (kind_of terms c) c.directions.back b

  fore_stays : waiting_in (direction_after terms (kind_of terms c) c.directions.fore f) + of_way_bytes Fore (carrying Fore c.kept.fore fore ++ (carrying Back c.kept.back back ++ []))
      ≡ waiting_in c.directions.fore + (counts_by (kind_of terms c) c.directions.fore f).taken
  unfolding fore back
  fore_stays =
      omega (
        arith,
        stays terms (kind_of terms c) c.directions.fore f,
        bytes_append Fore (carrying Fore c.kept.fore fore) (carrying Back c.kept.back back ++ []),
        carried Fore Fore c.kept.fore fore,
        carried_last Fore Back c.kept.back back,
      )

  back_stays : waiting_in (direction_after terms (kind_of terms c) c.directions.back b) + of_way_bytes Back (carrying Fore c.kept.fore fore ++ (carrying Back c.kept.back back ++ []))
      ≡ waiting_in c.directions.back + (counts_by (kind_of terms c) c.directions.back b).taken
  unfolding fore back
  back_stays =
      omega (
        arith,
        stays terms (kind_of terms c) c.directions.back b,
        bytes_append Back (carrying Fore c.kept.fore fore) (carrying Back c.kept.back back ++ []),
        carried Back Fore c.kept.fore fore,
        carried_last Back Back c.kept.back back,
      )

-- the looks that a Time's first direction leaves
abbrev left : Terms → Convo → ℕ → List LookEntry → List LookEntry
left terms c at looks = drop (length (asks_in terms c (Fore, Falls_due at looks))) looks

act_stays : (terms : Terms) (way : Way) (c : Convo) (act : Act)
    → waiting_of way (after terms c act) + of_way_bytes way (deliveries_in terms c act) ≡ waiting_of way c + (counts_in terms c way act).taken
unfolding seg_stays pieces moved counted fore_stays back_stays fore back advised
act_stays terms way c (Answer event advice frees) = omega (arith, ap (λ (ds : Both Direction). waiting_in (of_way way ds)) (same_directions c advice (is_live c)))
act_stays terms way c (Seg p now looks frees) = by (way_of c p) way
  where
    deed : Deed
    deed = Arrives (segment_of terms c p now) looks

    by : (w v : Way) → waiting_in (of_way v (moved terms c deed w)) + of_way_bytes v (carrying w (of_way w c.kept) (pieces terms c deed w) ++ []) ≡ waiting_in (of_way v c.directions) + (counted terms c deed w v).taken
    by w v = seg_stays terms c deed w v
act_stays terms Fore c (Time at looks frees) = fore_stays terms c (Falls_due at looks) (Falls_due at (left terms c at looks))
act_stays terms Back c (Time at looks frees) = back_stays terms c (Falls_due at looks) (Falls_due at (left terms c at looks))
act_stays terms Fore c (End at reason looks frees) = fore_stays terms c (Ends at) (Ends at)
act_stays terms Back c (End at reason looks frees) = back_stays terms c (Ends at) (Ends at)

act_sent : (terms : Terms) (way : Way) (c : Convo) (act : Act) → (of_way way (after terms c act).directions).sent ≡ (of_way way c.directions).sent + sum_of (counts_in terms c way act)
unfolding moved counted advised
act_sent terms way c (Answer event advice frees) = omega (arith, ap (λ (ds : Both Direction). (of_way way ds).sent) (same_directions c advice (is_live c)))
act_sent terms way c (Seg p now looks frees) = seg_sent terms c (Arrives (segment_of terms c p now) looks) (way_of c p) way
act_sent terms Fore c (Time at looks frees) = sent terms (kind_of terms c) c.directions.fore (Falls_due at looks)
act_sent terms Back c (Time at looks frees) = sent terms (kind_of terms c) c.directions.back (Falls_due at (left terms c at looks))
act_sent terms Fore c (End at reason looks frees) = sent terms (kind_of terms c) c.directions.fore (Ends at)
act_sent terms Back c (End at reason looks frees) = sent terms (kind_of terms c) c.directions.back (Ends at)

-- Along a history.

all_stays : (terms : Terms) (way : Way) (c : Convo) (acts : List Act)
    → waiting_of way (convo_after terms c acts) + fresh_bytes (deliveries_of terms c way acts) ≡ waiting_of way c + (counts_of terms c way acts).taken
all_stays terms way c [] = refl
all_stays terms way c (act ∷ acts) =
    omega (arith, act_stays terms way c act, all_stays terms way (after terms c act) acts, bytes_append way (deliveries_in terms c act) (along terms (deliveries_in terms) (after terms c act) acts))

all_sent : (terms : Terms) (way : Way) (c : Convo) (acts : List Act) → (of_way way (convo_after terms c acts).directions).sent ≡ (of_way way c.directions).sent + sum_of (counts_of terms c way acts)
all_sent terms way c [] = omega arith
all_sent terms way c (act ∷ acts) = omega (arith, act_sent terms way c act, all_sent terms way (after terms c act) acts)

new_waits : (way : Way) (first : Packet) → waiting_of way (new_convo first) ≡ 0
new_waits Fore first = refl
new_waits Back first = refl

new_sent : (way : Way) (first : Packet) → (of_way way (new_convo first).directions).sent ≡ 0
new_sent Fore first = refl
new_sent Back first = refl

-- what came is delivered, waits, or has another class
pub accounted : (terms : Terms) (first : Packet) (way : Way) (acts : List Act)
    → IsAccountedWith (waiting_of way (convo_after terms (new_convo first) acts)) (total_of terms (new_convo first) way acts)
accounted terms first way acts = omega (arith, all_stays terms way (new_convo first) acts, all_sent terms way (new_convo first) acts, new_waits way first, new_sent way first)

-- After the End nothing waits.

ends_empty : (terms : Terms) (kind : Kind) (d : Direction) (at : ℕ) → waiting_in (direction_after terms kind d (Ends at)) ≡ 0
ends_empty terms kind d at =
    omega (arith, ap (λ (hs : List Placed). length (drop (length hs) d.view.held)) (passed_always d.view.front d.view.held) ∙ ap (λ (hs : List Placed). length hs) (drop_all d.view.held))

end_empties : (terms : Terms) (way : Way) (c : Convo) (at : ℕ) (reason : Reason) (looks : List LookEntry) (frees : List Free) → waiting_of way (after terms c (End at reason looks frees)) ≡ 0
end_empties terms Fore c at reason looks frees = ends_empty terms (kind_of terms c) c.directions.fore at
end_empties terms Back c at reason looks frees = ends_empty terms (kind_of terms c) c.directions.back at

dead_counts : (kind : Kind) (d : Direction) (s : Segment) (looks : List LookEntry) → s.live ≡ false → (counts_by kind d (Arrives s looks)).taken ≡ 0
dead_counts kind d s looks e = ap (λ live. (counts_by kind d (Arrives (record s { live = live }) looks)).taken) e

dead_takes : (terms : Terms) (way : Way) (c : Convo) (act : Act) → is_live c ≡ false → (counts_in terms c way act).taken ≡ 0
unfolding counted
dead_takes terms way c (Answer event advice frees) e = refl
dead_takes terms way c (Time at looks frees) e = refl
dead_takes terms way c (End at reason looks frees) e = refl
dead_takes terms way c (Seg p now looks frees) e = by (way_of c p) way
  where
    s : Segment
    s = segment_of terms c p now

    by : (w v : Way) → (counted terms c (Arrives s looks) w v).taken ≡ 0
    by Fore Fore = dead_counts (kind_of terms c) c.directions.fore s looks (rw e refl)
    by Back Back = dead_counts (kind_of terms c) c.directions.back s looks (rw e refl)
    by Fore Back = refl
    by Back Fore = refl

quiet : (terms : Terms) (way : Way) (c : Convo) (act : Act) → is_live c ≡ false → waiting_of way c ≡ 0 → waiting_of way (after terms c act) ≡ 0
quiet terms way c act dead empty = omega (arith, act_stays terms way c act, dead_takes terms way c act dead)

still_quiet : (terms : Terms) (way : Way) (c : Convo) (act : Act) → (is_live c ≡ false → waiting_of way c ≡ 0) → is_live (after terms c act) ≡ false → waiting_of way (after terms c act) ≡ 0
unfolding advised
still_quiet terms way c (Seg p now looks frees) h dead = quiet terms way c (Seg p now looks frees) dead (h dead)
still_quiet terms way c (Time at looks frees) h dead = quiet terms way c (Time at looks frees) dead (h dead)
still_quiet terms way c (End at reason looks frees) h dead = end_empties terms way c at reason looks frees
still_quiet terms way c (Answer event advice frees) h dead =
    let e : is_live c ≡ false = sym (ap is_none (same_ended c advice (is_live c))) ∙ dead in
    quiet terms way c (Answer event advice frees) e (h e)

all_quiet : (terms : Terms) (way : Way) (c : Convo) (acts : List Act) → (is_live c ≡ false → waiting_of way c ≡ 0) → is_live (convo_after terms c acts) ≡ false → waiting_of way (convo_after terms c acts) ≡ 0
all_quiet terms way c [] h dead = h dead
all_quiet terms way c (act ∷ acts) h dead = all_quiet terms way (after terms c act) acts (still_quiet terms way c act h) dead

-- nothing waits in a conversation that has ended
pub ended_waits : (terms : Terms) (first : Packet) (way : Way) (acts : List Act) → is_live (convo_after terms (new_convo first) acts) ≡ false → waiting_of way (convo_after terms (new_convo first) acts) ≡ 0
ended_waits terms first way acts dead = all_quiet terms way (new_convo first) acts (λ e. new_waits way first) dead

-- of a conversation that has ended each byte that came is delivered or has another class
pub accounted_at_end : (terms : Terms) (first : Packet) (way : Way) (acts : List Act) → is_live (convo_after terms (new_convo first) acts) ≡ false → IsAccounted (total_of terms (new_convo first) way acts)
accounted_at_end terms first way acts dead = omega (arith, accounted terms first way acts, all_quiet terms way (new_convo first) acts (λ e. new_waits way first) dead)
