-- What is kept of a conversation, and what it stands for.
use Rattle.convo.specs.Directions.{DirStands, dir_kind, dir_asked}
use Rattle.flowdir.specs.Kept.{Kept as DirKept}
use Rattle.std.specs.Prelude.{◌≡◌, ⊤, ℕ, ◌+◌, ◌≤◌, ◌^◌, Bool, true, false, cond, not, ◌&&◌, ◌||◌, nat_le, is_none, max, List, [], ◌∷◌, ◌++◌, map, drop, Option, Some, None}
use Rattle.evring.specs.declared.way.Way.{Way}
use Rattle.evring.specs.declared.way.Way.TheVariants.{Fore, Back}
use Rattle.evring.specs.declared.reason.Reason.{Reason}
use Rattle.evring.specs.declared.reason.Reason.TheVariants.{Closed, Reset}
use Rattle.flowdir.specs.declared.counts.Counts.{Counts}
use Rattle.streamdefs.specs.Lists.{is_empty}
use Rattle.streamdefs.specs.Both.{Both, of_way}
use Rattle.cutclass.specs.declared.cut.Cut.{Cut}
use Rattle.cutclass.specs.declared.cutoffs.Cutoffs.{Cutoffs}
use Rattle.cutclass.specs.InForce.{first_set}
use Rattle.streamkey.specs.declared.toward.Toward.{Toward}
use Rattle.streamdefs.specs.Terms.{Terms}
use Rattle.streamdefs.specs.Packet.{Packet as Accepted, has_rst, has_syn, has_fin, same_toward}
use Rattle.convo.specs.declared.convo_set.ConvoSet.{ConvoSet}
use Rattle.streamdefs.specs.Reorder.{Charge}
use Rattle.streamdefs.specs.Pending.{Piece}
use Rattle.streamdefs.specs.Direction.{Direction, Kind, Segment}
use Rattle.streamdefs.specs.Direction.Next.{Rests as Wants_nothing}
use Rattle.streamdefs.specs.Convo.{Act, Event as EventMade, Kept as KeptPiece, carrying, kind_of, class_cutoff, class_priority, events_in}
use Rattle.streamdefs.specs.Convo.Event.{New as NewMade, Chunk as ChunkMade, Ended as EndedMade}
use Rattle.streamdefs.specs.Want.{next_move}
use Rattle.flowdir.specs.Boundary.Phase.{Rests as DirRests}
use Rattle.convo.specs.Seen.{kept_for, IsEvent}
use Rattle.convo.specs.Settled.{AreSettled}
use Rattle.convo.specs.declared.want.Want.{Want}
use Rattle.convo.specs.declared.want.Want.TheVariants.{Ask, Free as FreeWant, Emit, Rest}
use Rattle.convo.specs.Halves.{Hands, weight_of_half}
use Rattle.convo.specs.Going.{charges_going, weight_of_charges}
use Rattle.convo.specs.Counted.{CountsUp}
use Rattle.convo.specs.Talk.{Talk, talk_after, kept_count}
use Rattle.convo.specs.declared.half.Half.{Half}
use Rattle.convo.specs.declared.talk.Convo.{Convo}
use Rattle.convo.specs.declared.origin.Origin.{Origin}
use Rattle.convo.specs.declared.stage.Stage.{Stage}
use Rattle.convo.specs.declared.stage.Stage.TheVariants as at

-- the other direction
abbrev pub other : Way → Way
other Fore = Back
other Back = Fore

abbrev pub half_of : {C : Type 0} → Way → Convo C → Half C
half_of Fore x = x.fore
half_of Back x = x.back

-- a direction in its place
abbrev pub with_dir : {C : Type 0} → Way → DirKept C → Convo C → Convo C
with_dir Fore d x = record x { fore = record x.fore { dir = d } }
with_dir Back d x = record x { back = record x.back { dir = d } }

-- its origin is that of the conversation's first packet
pub record HasOrigin (t : Terms) (origin : Origin) (first : Accepted) : Type 0 where
  pub number : first.number ≡ origin.number
  pub key : first.key ≡ origin.key
  pub toward : first.toward ≡ origin.toward
  pub priority : class_priority (t.class first.key first.toward) ≡ origin.priority
  pub cut : class_cutoff (t.class first.key first.toward) ≡ origin.cut

-- what is kept beside the directions
pub record IsPlain (t : Terms) (origin : Origin) (own : Both Cut) (advised : Option ℕ) (clock : ℕ) (ended : Option Reason) (owed : Option (Reason × ℕ)) (k : Talk) : Type 0 where
  pub origin_is : HasOrigin t origin k.convo.first
  pub own_is : k.convo.own ≡ own
  pub advised_is : k.convo.advised ≡ advised
  pub clock_is : k.convo.clock ≡ clock
  pub ended_is : k.convo.ended ≡ ended
  pub owed_is : k.owed ≡ owed
  pub early : clock ≤ 2 ^ 62
  pub settled : AreSettled t k.convo.directions

-- the cutoffs that advice set
abbrev pub own_of : {C : Type 0} → Convo C → Both Cut
own_of x = record { fore = x.fore.own; back = x.back.own }

-- nothing is handed over, or given back
pub record IsQuiet {C : Type 0} (paid : C → Charge) (t : Terms) (x : Convo C) (k : Talk) : Type 0 where
  pub plain : IsPlain t x.origin (own_of x) x.advised x.clock x.ended x.owed k
  pub kept : k.convo.kept ≡ record { fore = map (kept_for paid) x.fore.kept; back = map (kept_for paid) x.back.kept }
  pub begun : is_empty k.convo.events ≡ not x.begun
  pub opens : x.opens ≡ false
  pub over : x.over ≡ None
  pub fore_first : x.fore.first ≡ None
  pub back_first : x.back.first ≡ None
  pub gone : charges_going x.going ≡ []
  pub fore_sums : CountsUp x.fore.counts x.fore.gaps x.fore.gap_bytes k.sums.fore []
  pub back_sums : CountsUp x.back.counts x.back.gaps x.back.gap_bytes k.sums.back []

-- both directions are of the conversation's kind
pub record HasKind {C : Type 0} (here : Kind) (fore back : DirKept C) : Type 0 where
  pub fore_is : dir_kind fore ≡ here
  pub back_is : dir_kind back ≡ here

-- at rest
pub record IsResting {C : Type 0} (paid : C → Charge) (t : Terms) (x : Convo C) (k : Talk) : Type 0 where
  pub quiet : IsQuiet paid t x k
  pub kinds : HasKind (kind_of t k.convo) x.fore.dir x.back.dir
  pub fore : DirStands paid x.fore.dir k.convo.directions.fore DirRests []
  pub back : DirStands paid x.back.dir k.convo.directions.back DirRests []
  pub stage : x.stage ≡ at.Resting

-- events that are to be handed over: the beginning, the deliveries of both directions, the end
abbrev pub news : Bool → List EventMade
news true = NewMade ∷ []
news false = []

abbrev pub ends : Option Reason → List EventMade
ends None = []
ends (Some reason) = EndedMade reason ∷ []

-- what stays kept where pieces are handed over
abbrev pub left_by : List Piece → List KeptPiece → List KeptPiece
left_by pieces kept = cond (is_empty pieces) kept []

-- these events are to be handed over, with the pieces of both directions; then it stands for that conversation
pub record IsHanding {C : Type 0} (paid : C → Charge) (t : Terms) (x : Convo C) (k : Talk) (fore back : List Piece) (events : List EventMade) : Type 0 where
  pub plain : IsPlain t x.origin (own_of x) x.advised x.clock x.ended x.owed k
  pub kinds : HasKind (kind_of t k.convo) x.fore.dir x.back.dir
  pub fore_hands : Hands paid x.fore k.convo.directions.fore fore
  pub back_hands : Hands paid x.back k.convo.directions.back back
  pub kept : k.convo.kept ≡ record { fore = left_by fore (map (kept_for paid) x.fore.kept); back = left_by back (map (kept_for paid) x.back.kept) }
  pub events_are : events ≡ news x.opens ++ (map ChunkMade (carrying Fore (map (kept_for paid) x.fore.kept) fore ++ carrying Back (map (kept_for paid) x.back.kept) back) ++ ends x.over)
  pub begun : is_empty k.convo.events ≡ (not x.begun && is_empty events)
  pub gone : charges_going x.going ≡ []
  pub fore_sums : CountsUp x.fore.counts x.fore.gaps x.fore.gap_bytes k.sums.fore fore
  pub back_sums : CountsUp x.back.counts x.back.gaps x.back.gap_bytes k.sums.back back
  pub stage : x.stage ≡ at.Events

-- some pieces are handed over with these events
pub record IsLeft {C : Type 0} (paid : C → Charge) (t : Terms) (x : Convo C) (k : Talk) (events : List EventMade) : Type 0 where
  pub fore : List Piece
  pub back : List Piece
  pub handing : IsHanding paid t x k fore back events

-- the first of the events is handed over, where there is one
abbrev pub HandsOver : {C : Type 0} → (C → Charge) → Accepted → Type 0 → (List EventMade → Type 0) → List EventMade → Want C → Type 0
HandsOver paid first Rested Left [] Rest = Rested
HandsOver paid first Rested Left (e ∷ events) (Emit event) = IsEvent paid first e event × Left events
HandsOver paid first Rested Left _ _ = ⊥

-- the events behind the first so many of an entry are to be handed over
pub record IsEmitting {C : Type 0} (paid : C → Charge) (t : Terms) (x : Convo C) (k : Talk) (act : Act) (emitted : ℕ) : Type 0 where
  pub moved : next_move t k.convo act ≡ Wants_nothing
  pub left : IsLeft paid t x (talk_after t k act) (drop emitted (events_in t k.convo act))

-- the charges of a conversation
abbrev pub weight_of_convo : {C : Type 0} → (C → ℕ) → Convo C → ℕ
weight_of_convo w x = weight_of_half w x.fore + weight_of_half w x.back + weight_of_charges w (charges_going x.going)

-- the direction of a packet of one way, where the first packet's is another
abbrev pub way_by : Toward → Toward → Way
way_by first packet = cond (same_toward first packet) Fore Back

-- the cutoff of a direction
abbrev pub of_cutoffs : Cutoffs → Way → Cut
of_cutoffs cutoffs Fore = cutoffs.fore
of_cutoffs cutoffs Back = cutoffs.back

-- the cutoff in force
abbrev pub cutoff_by : Cut → Cut → Cutoffs → Way → Option ℕ
cutoff_by own class cutoffs way = first_set (own ∷ class ∷ of_cutoffs cutoffs way ∷ cutoffs.default ∷ [])

-- a FIN came, and the front is at least at its position or at the cutoff in force
abbrev pub is_reached : ℕ → Option ℕ → Bool
is_reached front None = false
is_reached front (Some position) = nat_le position front

abbrev pub done_by : Option ℕ → ℕ → Option ℕ → Bool
done_by None front cutoff = false
done_by (Some fin) front cutoff = nat_le fin front || is_reached front cutoff

-- a packet as its direction sees it
abbrev pub arrival : {C : Type 0} → Convo C → ConvoSet → Way → Accepted → Segment
arrival x set way p = record {
  seq = p.seq;
  syn = has_syn p;
  fin = has_fin p;
  declared = p.declared;
  payload = p.payload;
  moment = p.now;
  cutoff = cutoff_by (of_way way (own_of x)) x.origin.cut set.cutoffs way;
  live = is_none x.ended && not (has_rst p);
}

-- the End that is due where both directions are done
abbrev pub closing_by : Bool → Bool → ℕ → Option (Reason × ℕ)
closing_by fore back moment = cond (fore && back) (Some (Closed, moment)) None

-- the End that is due behind a segment
abbrev pub owed_by_segment : Bool → Bool → ℕ → Option (Reason × ℕ) → Option (Reason × ℕ)
owed_by_segment live reset moment closed = cond live (cond reset (Some (Reset, moment)) closed) None

-- whether a direction is done
abbrev pub done_of : {C : Type 0} → Convo C → ConvoSet → Way → Direction → Bool
done_of x set way d = done_by d.fin d.view.front (cutoff_by (of_way way (own_of x)) x.origin.cut set.cutoffs way)

-- a conversation whose directions have made their moves at a segment
abbrev pub finished_segment : {C : Type 0} → Option (Reason × ℕ) → ℕ → Convo C → Convo C
finished_segment owed moment x = record x { owed = owed; clock = cond (is_none x.ended) moment x.clock; opens = not x.begun; stage = at.Events }

-- other counts of a direction
abbrev pub with_counts : {C : Type 0} → Way → Counts → Convo C → Convo C
with_counts Fore counts x = record x { fore = record x.fore { counts = counts } }
with_counts Back counts x = record x { back = record x.back { counts = counts } }

abbrev pub counts_with : Counts → Counts → Counts
counts_with a b = record {
  duplicate = kept_count (a.duplicate + b.duplicate);
  late = kept_count (a.late + b.late);
  cut = kept_count (a.cut + b.cut);
  taken = kept_count (a.taken + b.taken);
  shed = kept_count (a.shed + b.shed);
}

-- the moment of a segment under way can be added to
abbrev pub IsSoon : Stage → Type 0
IsSoon (at.Segment way now reset) = now ≤ 2 ^ 62
IsSoon _ = ⊤

-- a direction is at work at an entry, the other one rests
pub record IsMidway {C : Type 0} (paid : C → Charge) (t : Terms) (x : Convo C) (k : Talk) (way : Way) : Type 0 where
  pub quiet : IsQuiet paid t x k
  pub kinds : HasKind (kind_of t k.convo) x.fore.dir x.back.dir
  pub there : DirStands paid (half_of (other way) x).dir (of_way (other way) k.convo.directions) DirRests []
  pub soon : IsSoon x.stage

-- the bytes of the ask that waits
abbrev pub asked_at : {C : Type 0} → Convo C → Stage → Option ℕ
asked_at x (at.Segment way now reset) = dir_asked (half_of way x).dir
asked_at x (at.Time moment way) = dir_asked (half_of way x).dir
asked_at x (at.End moment reason way) = dir_asked (half_of way x).dir
asked_at x _ = None

abbrev pub asked_of : {C : Type 0} → Convo C → Option ℕ
asked_of x = asked_at x x.stage

-- the number of the last packet
abbrev pub last_of : {C : Type 0} → Convo C → ℕ
last_of x = max x.fore.dir.last x.back.dir.last

-- nothing more is wanted
abbrev pub IsRest : {C : Type 0} → Want C → Type 0
IsRest (Ask bytes mark) = ⊥
IsRest (FreeWant charge) = ⊥
IsRest (Emit event) = ⊥
IsRest Rest = ⊤

-- an ask is for a byte at least, up to a mark within the limit
abbrev pub IsAskWithin : {C : Type 0} → ℕ → Want C → Type 0
IsAskWithin limit (Ask bytes mark) = (1 ≤ bytes) × (mark ≤ limit)
IsAskWithin limit (FreeWant charge) = ⊤
IsAskWithin limit (Emit event) = ⊤
IsAskWithin limit Rest = ⊤

-- a direction in its place, with what is kept beside it
abbrev pub with_half : {C : Type 0} → Way → Half C → Convo C → Convo C
with_half Fore h x = record x { fore = h }
with_half Back h x = record x { back = h }

-- the lesser of two moments
abbrev pub least_by : Option ℕ → Option ℕ → Option ℕ
least_by None b = b
least_by (Some a) None = Some a
least_by (Some a) (Some b) = Some (cond (nat_le a b) a b)
