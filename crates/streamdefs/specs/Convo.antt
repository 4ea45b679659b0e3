-- One conversation: what its history makes of it, and what each entry asks for, hands over and gives back.
use Rattle.std.specs.Prelude.{ℕ, suc, ◌+◌, ◌%◌, ◌^◌, Bool, true, false, cond, not, ◌&&◌, ◌||◌, ◌==◌, nat_le, List, [], ◌∷◌, ◌++◌, length, drop, map, flat_map, Option, Some, None, unwrap_or, is_none, slice_get}
use Rattle.prio_budget.specs.declared.free.Free.{Free}
use Rattle.evring.specs.declared.advice.Advice.{Advice}
use Rattle.evring.specs.declared.reason.Reason.{Reason}
use Rattle.evring.specs.declared.reason.Reason.TheVariants.{Reset, Closed}
use Rattle.evring.specs.declared.way.Way.{Way}
use Rattle.evring.specs.declared.way.Way.TheVariants.{Fore, Back}
use Rattle.histbook.specs.declared.look_entry.LookEntry.{LookEntry}
use Rattle.streamkey.specs.declared.key.Key.{Key}
use Rattle.streamkey.specs.declared.toward.Toward.{Toward}
use Rattle.streamdefs.specs.Lists.{is_empty, or_else}
use Rattle.streamdefs.specs.Both.{Both, of_way, with_way, both}
use Rattle.streamdefs.specs.Packet.{Packet, is_tcp, has_syn, has_fin, has_rst, same_toward}
use Rattle.streamdefs.specs.Marks.{mark}
use Rattle.cutclass.specs.declared.cut.Cut.{Cut}
use Rattle.cutclass.specs.declared.cut.Cut.TheVariants as cuts
use Rattle.cutclass.specs.InForce.{Class, first_set}
use Rattle.overpolicy.specs.declared.mode.Mode.{Mode}
use Rattle.overpolicy.specs.declared.mode.Mode.TheVariants as modes
use Rattle.streamdefs.specs.Terms.{Terms}
use Rattle.streamdefs.specs.Reorder.{Charge}
use Rattle.streamdefs.specs.View.{Ask}
use Rattle.streamdefs.specs.Pending.{Piece}
use Rattle.streamdefs.specs.Direction.{Kind, Segment, Deed, Direction, untouched, direction_after, asks_by, pieces_by, spares_by, counts_by, Counts, no_counts, dues_in}
use Rattle.streamdefs.specs.Direction.Kind.{Strict, Fast, Datagrams}
use Rattle.streamdefs.specs.Direction.Deed.{Arrives, Falls_due, Ends}

-- An entry of a conversation's history, with the packet itself in place of its number, and with its looks and frees so far.
pub data Act : Type 0 where
  Seg : Packet → ℕ → List LookEntry → List Free → Act
  Answer : ℕ → Advice → List Free → Act
  Time : ℕ → List LookEntry → List Free → Act
  End : ℕ → Reason → List LookEntry → List Free → Act

-- a kept delivery: what was shown of it, and its charges
pub record Kept : Type 0 where
  pub shown : List ℕ
  pub charges : List Charge

-- a delivery, with the kept ones that ride with it
pub record Delivery : Type 0 where
  pub way : Way
  pub piece : Piece
  pub kept : List Kept

-- a conversation begins, has a delivery, or ends
pub data Event : Type 0 where
  New : Event
  Chunk : Delivery → Event
  Ended : Reason → Event

-- What a handler and a delivery line see of an event: of a new conversation its key and the way of its first packet; of a
-- delivery the key, the direction, the position of its first fresh byte, the gap before it, the length of its copy, the kept
-- bytes, and copy and fresh bytes; of an end its reason.
pub data Seen : Type 0 where
  Created : Key → Toward → Seen
  Data : (key : Key) (way : Way) (start gap over : ℕ) (kept shown : List ℕ) → Seen
  Over : Reason → Seen

-- that of an event, by the conversation's first packet
abbrev pub seen_of : Packet → Event → Seen
seen_of first New = Created first.key first.toward
seen_of first (Chunk d) = Data first.key d.way d.piece.start d.piece.gap (length d.piece.copy) (flat_map (λ k. k.shown) d.kept) (d.piece.copy ++ d.piece.fresh)
seen_of first (Ended reason) = Over reason

-- What a prefix of its history makes of a conversation: the two directions, the cutoffs and the priority that advice set,
-- the kept deliveries, the events so far and how many of them are answered, the clock of its last packet before its End,
-- and why it ended.
pub record Convo : Type 0 where
  pub first : Packet
  pub directions : Both Direction
  pub own : Both Cut
  pub advised : Option ℕ
  pub kept : Both (List Kept)
  pub events : List Event
  pub answered : ℕ
  pub clock : ℕ
  pub ended : Option Reason

-- before its first entry, which is the first packet's
abbrev pub new_convo : Packet → Convo
new_convo first = record {
  first = first;
  directions = both untouched;
  own = both cuts.Unset;
  advised = None;
  kept = both [];
  events = [];
  answered = 0;
  clock = first.now;
  ended = None;
}

-- it has not ended
abbrev pub is_live : Convo → Bool
is_live c = is_none c.ended

-- the direction of a packet: fore is the first packet's
abbrev pub way_of : Convo → Packet → Way
way_of c p = cond (same_toward c.first.toward p.toward) Fore Back

-- the class of its first packet
abbrev pub class_of : Terms → Convo → Option Class
class_of terms c = terms.class c.first.key c.first.toward

-- the cutoff of a class
abbrev pub class_cutoff : Option Class → Cut
class_cutoff None = cuts.Unset
class_cutoff (Some class) = class.cutoff

-- the cutoff in force: the first set one of the stream's own, the class's, the direction's, the default
abbrev pub cutoff_in_force : Terms → Convo → Way → Option ℕ
cutoff_in_force terms c way = first_set (of_way way c.own ∷ class_cutoff (class_of terms c) ∷ of_way way terms.cutoffs ∷ terms.default ∷ [])

-- the priority of a class, and 0 where there is none
abbrev pub class_priority : Option Class → ℕ
class_priority None = 0
class_priority (Some class) = class.priority

-- the priority in force: the last advised one, else the class's, else 0
abbrev pub priority_in_force : Terms → Convo → ℕ
priority_in_force terms c = unwrap_or c.advised (class_priority (class_of terms c))

-- the mark of an ask; the same for all asks of an entry
abbrev pub mark_for : Terms → Convo → Ask → ℕ
mark_for terms c ask = mark terms.marks (priority_in_force terms c)

-- strict or fast TCP, or UDP
abbrev pub kind_of : Terms → Convo → Kind
kind_of terms c = cond (is_tcp c.first) (kind terms.mode) Datagrams
  where
    kind : Mode → Kind
    kind modes.Strict = Strict
    kind modes.Fast = Fast

-- a packet as its direction sees it
abbrev pub segment_of : Terms → Convo → Packet → ℕ → Segment
segment_of terms c p now = record {
  seq = p.seq;
  syn = has_syn p;
  fin = has_fin p;
  declared = p.declared;
  payload = p.payload;
  moment = now;
  cutoff = cutoff_in_force terms c (way_of c p);
  live = is_live c && not (has_rst p);
}

-- an entry as one direction sees it
abbrev pub Step : Type 0
Step = Way × Deed

-- The steps of an entry, fore before back: a packet is one of its direction's, an answer none. A later direction has the
-- looks that the asks of the earlier one leave.
abbrev pub steps : Terms → Convo → Act → List Step
steps terms c (Seg p now looks frees) = (way_of c p, Arrives (segment_of terms c p now) looks) ∷ []
steps terms c (Answer event advice frees) = []
steps terms c (Time at looks frees) =
    let fore = Falls_due at looks in
    let asked = length (asks_by terms (kind_of terms c) c.directions.fore fore) in
    (Fore, fore) ∷ (Back, Falls_due at (drop asked looks)) ∷ []
steps terms c (End at reason looks frees) = (Fore, Ends at) ∷ (Back, Ends at) ∷ []

-- the looks of an entry
abbrev pub looks_in : Act → List LookEntry
looks_in (Seg p now looks frees) = looks
looks_in (Answer event advice frees) = []
looks_in (Time at looks frees) = looks
looks_in (End at reason looks frees) = looks

-- its frees
abbrev pub frees_in : Act → List Free
frees_in (Seg p now looks frees) = frees
frees_in (Answer event advice frees) = frees
frees_in (Time at looks frees) = frees
frees_in (End at reason looks frees) = frees

-- the asks of a step
abbrev pub asks_in : Terms → Convo → Step → List Ask
asks_in terms c step = asks_by terms (kind_of terms c) (of_way step.0 c.directions) step.1

-- The asks of an entry, fore before back, given its looks so far: those that have their look, and the next one.
abbrev pub asks : Terms → Convo → Act → List Ask
asks terms c act = all (looks_in act) (steps terms c act)
  where
    all : List LookEntry → List Step → List Ask
    all looks [] = []
    all looks (step ∷ rest) =
        let here = asks_in terms c step in
        here ++ cond (nat_le (length here) (length looks)) (all (drop (length here) looks) rest) []

-- what a step hands over
abbrev pub pieces_in : Terms → Convo → Step → List Piece
pieces_in terms c step = pieces_by terms (kind_of terms c) (of_way step.0 c.directions) step.1

-- deliveries of a direction, of which the first carries what is kept
abbrev pub carrying : Way → List Kept → List Piece → List Delivery
carrying way kept [] = []
carrying way kept (piece ∷ pieces) = record { way = way; piece = piece; kept = kept } ∷ carrying way [] pieces

-- the deliveries of an entry
abbrev pub deliveries_in : Terms → Convo → Act → List Delivery
deliveries_in terms c act = flat_map (λ step. carrying step.0 (of_way step.0 c.kept) (pieces_in terms c step)) (steps terms c act)

-- the events of an entry: New, for a conversation's first; its deliveries; Ended, for an End
abbrev pub events_in : Terms → Convo → Act → List Event
events_in terms c act = opening_of act ++ map Chunk (deliveries_in terms c act) ++ ending_of act
  where
    opening_of : Act → List Event
    opening_of (Seg p now looks frees) = cond (is_empty c.events) (New ∷ []) []
    opening_of _ = []

    ending_of : Act → List Event
    ending_of (End at reason looks frees) = Ended reason ∷ []
    ending_of _ = []

-- the event that an answer is to: the answers of a conversation come in the order of its events
abbrev pub answered_event : Convo → Option Event
answered_event c = slice_get c.events c.answered

-- a delivery as it is kept, behind those that rode with it
abbrev pub kept_of : Delivery → List Kept
kept_of d = d.kept ++ record { shown = d.piece.copy ++ d.piece.fresh; charges = d.piece.charges } ∷ []

-- the charges of kept deliveries
abbrev pub charges_of : List Kept → List Charge
charges_of kept = flat_map (λ k. k.charges) kept

-- the charges that an answer to this event gives back: of a delivery that isn't kept, or that comes after the End
abbrev pub given_back : Convo → Advice → Option Event → List Charge
given_back c advice (Some (Chunk d)) = cond (is_live c && advice.keep) [] (charges_of (kept_of d))
given_back c advice _ = []

-- whether an entry is an End
abbrev pub is_end : Act → Bool
is_end (End at reason looks frees) = true
is_end _ = false

-- the spare copies of a step
abbrev pub spares_in : Terms → Convo → Step → List Charge
spares_in terms c step = spares_by terms (kind_of terms c) (of_way step.0 c.directions) step.1

-- the kept deliveries that a step gives back: of an End that hands nothing over in their direction
abbrev pub unshown_in : Terms → Convo → Act → Step → List Charge
unshown_in terms c act step = cond (is_end act && is_empty (pieces_in terms c step)) (charges_of (of_way step.0 c.kept)) []

-- the charges that an entry gives back, in order
abbrev pub released : Terms → Convo → Act → List Charge
released terms c (Answer event advice frees) = given_back c advice (answered_event c)
released terms c act = flat_map (λ step. spares_in terms c step ++ unshown_in terms c act step) (steps terms c act)

-- the counts of an entry's bytes in one direction
abbrev pub counts_in : Terms → Convo → Way → Act → Counts
counts_in terms c way (Seg p now looks frees) = here (way_of c p) way
  where
    here : Way → Way → Counts
    here Fore Fore = counts_by (kind_of terms c) c.directions.fore (Arrives (segment_of terms c p now) looks)
    here Back Back = counts_by (kind_of terms c) c.directions.back (Arrives (segment_of terms c p now) looks)
    here Fore Back = no_counts
    here Back Fore = no_counts
counts_in terms c way _ = no_counts

-- both directions after these steps
abbrev pub stepped : Terms → Kind → List Step → Both Direction → Both Direction
stepped terms kind [] ds = ds
stepped terms kind (step ∷ rest) ds = stepped terms kind rest (with_way step.0 (direction_after terms kind (of_way step.0 ds) step.1) ds)

-- what is kept once these steps have made their deliveries
abbrev pub left_kept : Terms → Convo → List Step → Both (List Kept) → Both (List Kept)
left_kept terms c [] kept = kept
left_kept terms c (step ∷ rest) kept = left_kept terms c rest (cond (is_empty (pieces_in terms c step)) kept (with_way step.0 [] kept))

-- the cutoffs that advice sets: of both directions for New, and of the delivery's for a delivery; discard overrides
abbrev pub own_after : Convo → Advice → Option Event → Both Cut
own_after c advice event = cond advice.discard (both (cuts.At 0)) (set advice.cutoff event)
  where
    set : Option ℕ → Option Event → Both Cut
    set (Some position) (Some New) = both (cuts.At position)
    set (Some position) (Some (Chunk d)) = with_way d.way (cuts.At position) c.own
    set _ _ = c.own

-- what is kept after an answer: a delivery goes behind those that rode with it to the end of its direction's
abbrev pub keep_after : Convo → Advice → Option Event → Both (List Kept)
keep_after c advice (Some (Chunk d)) = cond advice.keep (with_way d.way (of_way d.way c.kept ++ kept_of d) c.kept) c.kept
keep_after c advice _ = c.kept

-- after an answer; after the End advice changes nothing
abbrev pub after_answer : Convo → Advice → Convo
after_answer c advice = cond (is_live c) advised (record c { answered = suc c.answered })
  where
    advised : Convo
    advised = record c {
      own = own_after c advice (answered_event c);
      advised = or_else advice.priority c.advised;
      kept = keep_after c advice (answered_event c);
      answered = suc c.answered;
    }

-- after the steps of an entry
abbrev pub after_steps : Terms → Convo → Act → Convo
after_steps terms c act = record c {
  directions = stepped terms (kind_of terms c) (steps terms c act) c.directions;
  kept = cond (is_end act) (both []) (left_kept terms c (steps terms c act) c.kept);
  events = c.events ++ events_in terms c act;
}

-- the conversation after an entry
abbrev pub after : Terms → Convo → Act → Convo
after terms c (Answer event advice frees) = after_answer c advice
after terms c (Seg p now looks frees) = record (after_steps terms c (Seg p now looks frees)) { clock = cond (is_live c) now c.clock }
after terms c (Time at looks frees) = after_steps terms c (Time at looks frees)
after terms c (End at reason looks frees) = record (after_steps terms c (End at reason looks frees)) { ended = Some reason }

-- a conversation after a history, of which the first entry is its first packet's
abbrev pub convo_after : Terms → Convo → List Act → Convo
convo_after terms c [] = c
convo_after terms c (act ∷ acts) = convo_after terms (after terms c act) acts

-- what each entry of a history gives, in order
abbrev pub along : {X : Type 0} → Terms → (Convo → Act → List X) → Convo → List Act → List X
along terms f c [] = []
along terms f c (act ∷ acts) = f c act ++ along terms f (after terms c act) acts

-- a FIN came in this direction, and its front is at least at the FIN position or at the cutoff in force
abbrev pub is_done : Terms → Convo → Way → Bool
is_done terms c way = done (of_way way c.directions).fin
  where
    reached : Option ℕ → Bool
    reached None = false
    reached (Some position) = nat_le position (of_way way c.directions).view.front

    done : Option ℕ → Bool
    done None = false
    done (Some fin) = reached (Some fin) || reached (cutoff_in_force terms c way)

-- the End that both directions make due
abbrev pub closing : Terms → Convo → ℕ → Option (Reason × ℕ)
closing terms c at = cond (is_done terms c Fore && is_done terms c Back) (Some (Closed, at)) None

-- the End that an entry of a live conversation makes due: a packet with RST, else one or a Time behind which both are done
abbrev pub ending : Terms → Convo → Act → Option (Reason × ℕ)
ending terms c act = cond (is_live c) (by act) None
  where
    by : Act → Option (Reason × ℕ)
    by (Seg p now looks frees) = cond (has_rst p) (Some (Reset, now)) (closing terms (after terms c act) now)
    by (Time at looks frees) = closing terms (after terms c act) at
    by _ = None

-- the moments at which holes and flushes of a live conversation fall due
abbrev pub time_dues : Terms → Convo → List ℕ
time_dues terms c = cond (is_live c) (dues_in terms c.directions.fore ++ dues_in terms c.directions.back) []

-- the moment at which a live conversation has been idle for the idle time
abbrev pub idle_dues : Terms → Convo → List ℕ
idle_dues terms c = cond (is_live c) ((c.clock + terms.idle) ∷ []) []

-- a packet with SYN whose direction has another base belongs to a new conversation
abbrev pub has_other_base : Convo → Packet → Bool
has_other_base c p = has_syn p && other (of_way (way_of c p) c.directions).base
  where
    other : Option ℕ → Bool
    other None = false
    other (Some base) = not (base == (p.seq + 1) % 2 ^ 32)
