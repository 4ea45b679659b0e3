-- What is kept of a direction, and what it stands for.
use Rattle.std.specs.Prelude.{◌≡◌, ⊤, ℕ, suc, ◌+◌, ◌*◌, ◌<◌, ◌≤◌, ◌^◌, Bool, false, cond, not, ◌||◌, ◌==◌, List, [], ◌∷◌, length, drop, Option, Some, None, ℤ}
use Rattle.histbook.specs.declared.look_entry.LookEntry.{LookEntry}
use Rattle.streamdefs.specs.Terms.{Terms}
use Rattle.streamdefs.specs.Lists.{is_empty}
use Rattle.streamdefs.specs.Reorder.{Charge}
use Rattle.streamdefs.specs.Pending.{Piece}
use Rattle.streamdefs.specs.View.{always}
use Rattle.streamdefs.specs.Direction.{Kind, Direction, Segment, Deed, Counts, base_with, fin_after, direction_after, no_counts}
use Rattle.streamdefs.specs.Direction.Deed.{Arrives}
use Rattle.reorder.specs.Frags.{Frag, Ascends, pass, put, cells_of}
use Rattle.flowdir.specs.Classes.{counts_taken}
use Rattle.flowdir.specs.Lane.{Lane, LaneStands, lane_after, spared_lane, cut_lane}
use Rattle.reorder.specs.Frags.{EndBy}
use Rattle.flowdir.specs.declared.step.Step.{Step}
use Rattle.flowdir.specs.declared.step.Step.TheVariants.{Ask, Free, Done}
use Rattle.flowdir.specs.Asking.{Wait, WaitClear, Asking}
use Rattle.flowdir.specs.Closing.{Closing, Copying, shut_lane, copy_at}
use Rattle.flowdir.specs.declared.cuts.Cuts.{Cuts}
use Rattle.flowdir.specs.declared.advance.Advance.{Advance}
use Rattle.flowdir.specs.declared.advance.Advance.TheVariants.{Stay, From}
use Rattle.flowdir.specs.Passing.{taken_by}
use Rattle.flowdir.specs.Meeting.{Meets}
use Rattle.flowdir.specs.Boundary.{Phase, kind_of}
use Rattle.flowdir.specs.Boundary.Phase.{Rests, Works}
use Rattle.flowdir.specs.declared.dir_mode.DirMode.{DirMode}
use Rattle.flowdir.specs.declared.dir_mode.DirMode.TheVariants.{Strict, Fast, Udp}
use Rattle.flowdir.specs.declared.rule.Rule.{Rule}
use Rattle.flowdir.specs.declared.rule.Rule.TheVariants.{Never, Above, Always}
use Rattle.flowdir.specs.declared.work.Work.{Work}
use Rattle.flowdir.specs.declared.work.Work.TheVariants.{Idle as WorkIdle, Runs as WorkRuns, Copies as WorkCopies, Giving as WorkGiving, Failed as WorkFailed}
use Rattle.flowdir.specs.declared.under.Under.{Under as CodeUnder}
use Rattle.flowdir.specs.declared.head.Head.{Head}
use Rattle.flowdir.specs.Counting.{classes_of}
use Rattle.flowdir.specs.Waits.{waits_of, bytes_waiting, WaitEnd}

-- What is under way: nothing; runs that wait, of a segment that starts there; a copy of the last bytes that were handed over,
-- which waits for its grant; charges that are to be given back; or memory was wanting, and nothing but to give back all
-- charges is left.
pub data Working : Type 0 where
  Idle : Working
  Runs : ℤ → List Wait → Working
  Copies : List ℕ → Working
  Giving : Working
  Failed : Working

-- The entry under way: its moment, where the front was before it, whether nothing was held, and its counts so far.
pub record Under : Type 0 where
  pub moment : ℕ
  pub front : ℕ
  pub bare : Bool
  pub counts : Counts

pub record Kept (C : Type 0) : Type 0 where
  pub mode : DirMode
  pub base : Option ℕ
  pub sent : ℕ
  pub fin : Option ℕ
  pub last : ℕ
  pub hole : Option ℕ
  pub lane : Lane C
  pub frags : List (Frag C)
  pub under : Under
  pub work : Working

-- base, sum of lengths and FIN position behind a segment
pub record HeadIs {C : Type 0} (k : Kept C) (kind : Kind) (d : Direction) (s : Segment) : Type 0 where
  pub base : k.base ≡ Some (base_with d s)
  pub sent : k.sent ≡ d.sent + length s.payload
  pub fin : k.fin ≡ fin_after kind d s

-- at rest
pub record RestsFor {C : Type 0} (paid : C → Charge) (k : Kept C) (d : Direction) (pieces : List Piece) : Type 0 where
  pub meets : Meets paid k.lane k.frags d
  pub lane : LaneStands paid k.lane d.view.flow d.pending pieces []
  pub base : d.base ≡ k.base
  pub sent : d.sent ≡ k.sent
  pub fin : d.fin ≡ k.fin
  pub hole : d.hole ≡ k.hole

-- what stays of a direction while a segment's runs are asked for
pub record Stays {C : Type 0} (paid : C → Charge) (k : Kept C) (kind : Kind) (d : Direction) (s : Segment) (pieces : List Piece) : Type 0 where
  pub lane : LaneStands paid k.lane d.view.flow d.pending pieces []
  pub front : d.view.front ≡ k.lane.front
  pub head : HeadIs k kind d s
  pub hole : d.hole ≡ k.hole
  pub moment : k.under.moment ≡ s.moment
  pub before : k.under.front ≡ d.view.front
  pub bare : k.under.bare ≡ is_empty d.view.held

pub record RunsFor {C : Type 0} (paid : C → Charge) (k : Kept C) (start : ℤ) (waits : List Wait) (t : Terms) (kind : Kind) (d : Direction) (s : Segment) (looks : List LookEntry) (given : ℕ) (pieces : List Piece) : Type 0 where
  pub asking : Asking paid t kind d s looks start k.frags waits k.under.counts
  pub stays : Stays paid k kind d s pieces
  pub none : given ≡ 0

-- base, sum of lengths, FIN position and hole behind an entry
pub record Settles {C : Type 0} (k : Kept C) (t : Terms) (kind : Kind) (d : Direction) (deed : Deed) : Type 0 where
  pub base : (direction_after t kind d deed).base ≡ k.base
  pub sent : (direction_after t kind d deed).sent ≡ k.sent
  pub fin : (direction_after t kind d deed).fin ≡ k.fin
  pub hole : (direction_after t kind d deed).hole ≡ k.hole

-- a copy is asked for
pub record CopiesFor {C : Type 0} (paid : C → Charge) (k : Kept C) (bytes : List ℕ) (t : Terms) (kind : Kind) (d : Direction) (deed : Deed) (given : ℕ) (pieces : List Piece) : Type 0 where
  pub copying : Copying paid t kind d deed bytes k.lane k.frags k.under.counts pieces
  pub behind : Settles k t kind d deed
  pub none : given ≡ 0

-- charges are given back, and the next one is on its way
pub record GivesFor {C : Type 0} (paid : C → Charge) (k : Kept C) (t : Terms) (kind : Kind) (d : Direction) (deed : Deed) (given : ℕ) (pieces : List Piece) : Type 0 where
  pub closing : Closing paid t kind d deed given k.lane k.frags k.under.counts pieces
  pub behind : Settles k t kind d deed

-- What a direction stands for.
abbrev pub StandsFor : {C : Type 0} → (C → Charge) → Kept C → Direction → Phase → List Piece → Type 0
StandsFor paid k d phase pieces = by k.work phase
  where
    by : Working → Phase → Type 0
    by Idle Rests = RestsFor paid k d pieces
    by (Runs start (w ∷ ws)) (Works t (Arrives s looks) given) = RunsFor paid k start (w ∷ ws) t (kind_of k.mode) d s looks given pieces
    by (Copies bytes) (Works t deed given) = CopiesFor paid k bytes t (kind_of k.mode) d deed given pieces
    by Giving (Works t deed given) = GivesFor paid k t (kind_of k.mode) d deed (suc given) pieces
    by _ _ = ⊥

-- what an entry stands for once what it passed is cut
abbrev pub ShutFor : {C : Type 0} → (C → Charge) → Kept C → Terms → Direction → Deed → List Piece → Type 0
ShutFor paid k t d deed pieces = by k.work
  where
    by : Working → Type 0
    by Giving = GivesFor paid k t (kind_of k.mode) d deed 0 pieces
    by (Copies bytes) = CopiesFor paid k bytes t (kind_of k.mode) d deed 0 pieces
    by _ = ⊥

-- there is room for the first one
abbrev pub HasRoom : ℕ → List Wait → Type 0
HasRoom room [] = ⊤
HasRoom room (w ∷ ws) = 0 < room

abbrev pub RunsSound : {C : Type 0} → ℕ → ℕ → ℕ → List (Frag C) → Working → Type 0
RunsSound front most room fs (Runs start waits) = HasRoom room waits × WaitClear front fs waits × WaitEnd most waits
RunsSound front most room fs Idle = ⊤
RunsSound front most room fs (Copies bytes) = ⊤
RunsSound front most room fs Giving = ⊤
RunsSound front most room fs Failed = ⊤

-- a copy that waits has bytes, and stands alone
abbrev pub IsBare : {C : Type 0} → Lane C → List ℕ → Type 0
IsBare lane bytes = (lane.chunk ≡ None) × (lane.copy ≡ None) × (0 < length bytes) × (length bytes < 2 ^ 32)

abbrev pub CopySound : {C : Type 0} → Lane C → Working → Type 0
CopySound lane (Copies bytes) = IsBare lane bytes
CopySound lane _ = ⊤

-- what is true while memory was there
pub record IsKept {C : Type 0} (last room : ℕ) (lane : Lane C) (fs : List (Frag C)) (work : Working) : Type 0 where
  pub last_is : last ≤ 2 ^ 22
  pub front : lane.front ≤ last * 2 ^ 32
  pub ascends : Ascends lane.front fs
  pub ends : EndBy (last * 2 ^ 32) fs
  pub runs : RunsSound lane.front (last * 2 ^ 32) room fs work
  pub copy : CopySound lane work

abbrev pub IsSoundAt : {C : Type 0} → ℕ → ℕ → Lane C → List (Frag C) → Working → Type 0
IsSoundAt last room lane fs Failed = ⊤
IsSoundAt last room lane fs Idle = IsKept last room lane fs Idle
IsSoundAt last room lane fs (Runs start waits) = IsKept last room lane fs (Runs start waits)
IsSoundAt last room lane fs (Copies bytes) = IsKept last room lane fs (Copies bytes)
IsSoundAt last room lane fs Giving = IsKept last room lane fs Giving

-- few bytes were taken and wait
abbrev pub HasFew : ℕ → Working → Type 0
HasFew taken (Runs start waits) = taken + bytes_waiting waits ≤ 262144
HasFew taken Idle = ⊤
HasFew taken (Copies bytes) = ⊤
HasFew taken Giving = ⊤
HasFew taken Failed = ⊤

abbrev pub IsLive : Working → Type 0
IsLive Failed = ⊥
IsLive Idle = ⊤
IsLive (Runs start waits) = ⊤
IsLive (Copies bytes) = ⊤
IsLive Giving = ⊤

-- a copy is asked for
abbrev pub IsCopying : Working → Type 0
IsCopying (Copies bytes) = ⊤
IsCopying _ = ⊥

-- a moment that can be added to
abbrev pub IsEarly : Option ℕ → Type 0
IsEarly None = ⊤
IsEarly (Some since) = since ≤ 2 ^ 62

-- runs of a segment are asked for
abbrev pub IsRunning : Working → Type 0
IsRunning (Runs start waits) = ⊤
IsRunning _ = ⊥

-- all that an entry passes is passed and cut
abbrev pub IsShut : Working → Type 0
IsShut (Copies bytes) = ⊤
IsShut Giving = ⊤
IsShut _ = ⊥

-- since when a hole stands, with what is held now
abbrev pub hole_now : {C : Type 0} → ℕ → ℕ → ℕ → Bool → Option ℕ → List (Frag C) → Option ℕ
hole_now moment before front bare since [] = None
hole_now moment before front bare since (f ∷ fs) = cond (not (before == front) || bare) (Some moment) since

-- the copy to be asked for behind a cut, if it has a byte
abbrev pub copying : List ℕ → Working
copying [] = Giving
copying (b ∷ bs) = Copies (b ∷ bs)

-- what is kept once parts were passed, and the last delivery is cut
abbrev pub finished : {C : Type 0} → Cuts → Lane C → List (Frag C) → Kept C → Kept C
finished cuts lane fs k = record k {
  lane = shut_lane cuts lane;
  frags = fs;
  hole = hole_now k.under.moment k.under.front lane.front k.under.bare k.hole fs;
  work = copying (copy_at cuts lane);
}

-- what the code keeps of these
abbrev pub working_for : Work → Working
working_for WorkIdle = Idle
working_for (WorkRuns start waits) = Runs start (waits_of waits.items)
working_for (WorkCopies bytes) = Copies bytes
working_for WorkGiving = Giving
working_for WorkFailed = Failed

abbrev pub under_for : CodeUnder → Under
under_for u = record { moment = u.moment; front = u.front; bare = u.bare; counts = classes_of u.counts }

-- which holes are jumped as segments come
abbrev pub rule_for : DirMode → ℕ → Rule
rule_for Strict most = Above most
rule_for Fast most = Always
rule_for Udp most = Always

-- the number of bytes that are asked for
abbrev pub bytes_next : Working → Option ℕ
bytes_next (Runs start (w ∷ ws)) = Some (length w.bytes)
bytes_next (Runs start []) = None
bytes_next Idle = None
bytes_next (Copies bytes) = Some (length bytes)
bytes_next Giving = None
bytes_next Failed = None

-- the next spare charge goes out, or the entry is done
abbrev pub GivesNext : {C : Type 0} → Kept C → Kept C → Step C → Type 0
GivesNext k k' (Free c) = (k.lane.spares ≡ c ∷ k'.lane.spares) × (k' ≡ record k { lane = record k.lane { spares = k'.lane.spares } })
GivesNext k k' (Done counts) = (k.lane.spares ≡ []) × (classes_of counts ≡ k.under.counts) × (k' ≡ record k { work = Idle })
GivesNext k k' (Ask bytes) = ⊥

-- so many bytes are asked for, or charges are given back
abbrev pub AsksOrGives : {C : Type 0} → Option ℕ → Kept C → Kept C → Step C → Type 0
AsksOrGives (Some bytes) k k' step = (step ≡ Ask bytes) × (k' ≡ k) × (0 < bytes)
AsksOrGives None k k' step = GivesNext k k' step

-- what follows once what an entry passes is cut
abbrev pub GoesOn : {C : Type 0} → Kept C → Kept C → Step C → Type 0
GoesOn k k' step = AsksOrGives (bytes_next k.work) k k' step

-- what is kept once an entry passed what it does, and cut it
abbrev pub advanced : {C : Type 0} → Advance → Cuts → Kept C → Kept C
advanced way cuts k = finished cuts (lane_after k.under.moment k.lane (taken_by way k.frags)) (drop (length (taken_by way k.frags)) k.frags) k

-- how a segment passes, and how it cuts
abbrev pub way_for : DirMode → ℕ → ℕ → Advance
way_for mode most front = From front (rule_for mode most)

abbrev pub cuts_for : ℕ → ℕ → Cuts
cuts_for least overlap = record { chunk = least; overlap = overlap; flush = 0; at = 0 }

-- the first run that waits is asked for; where none waits, parts are passed and cut
abbrev pub AsksBy : {C : Type 0} → Option ℕ → Cuts → ℕ → Kept C → Kept C → Step C → Type 0
AsksBy (Some bytes) cuts most k k' step = (step ≡ Ask bytes) × (k' ≡ k) × (0 < bytes)
AsksBy None cuts most k k' step = GoesOn (advanced (way_for k.mode most k.lane.front) cuts k) k' step

abbrev pub AsksNext : {C : Type 0} → Cuts → ℕ → Kept C → Kept C → Step C → Type 0
AsksNext cuts most k k' step = AsksBy (bytes_next k.work) cuts most k k' step

-- The ask was answered: the first run is granted by a charge, or the runs that wait are shed.
abbrev pub with_charge : {C : Type 0} → C → Kept C → Kept C
with_charge {C = C} charge k = by k.work
  where
    by : Working → Kept C
    by (Runs start (w ∷ ws)) = record k {
      frags = put (record { at = w.at; cells = cells_of start w.bytes; charge = charge }) k.frags;
      under = record k.under { counts = counts_taken (length w.bytes) k.under.counts };
      work = Runs start ws;
    }
    by (Runs start []) = k
    by (Copies bytes) = record k { lane = record k.lane { copy = Some (bytes, charge) }; work = Giving }
    by Idle = k
    by Giving = k
    by Failed = k

abbrev pub with_none : {C : Type 0} → Kept C → Kept C
with_none {C = C} k = by k.work
  where
    by : Working → Kept C
    by (Runs start ws) = record k { work = Runs start [] }
    by (Copies bytes) = record k { work = Giving }
    by Idle = k
    by Giving = k
    by Failed = k

abbrev pub with_answer : {C : Type 0} → Option C → Kept C → Kept C
with_answer (Some charge) k = with_charge charge k
with_answer None k = with_none k

-- there are few of them, and at least one
abbrev pub IsFewNext : Working → Type 0
IsFewNext (Runs start (w ∷ ws)) = (0 < length w.bytes) × (length w.bytes < 2 ^ 32)
IsFewNext (Runs start []) = ⊤
IsFewNext Idle = ⊤
IsFewNext (Copies bytes) = (0 < length bytes) × (length bytes < 2 ^ 32)
IsFewNext Giving = ⊤
IsFewNext Failed = ⊤

-- a segment's runs are under way
abbrev pub Enters : {C : Type 0} → (C → Charge) → Kept C → Terms → Direction → Segment → List Piece → Type 0
Enters paid k t d s pieces = by k.work
  where
    by : Working → Type 0
    by (Runs start ws) = RunsFor paid k start ws t (kind_of k.mode) d s [] 0 pieces
    by _ = ⊥

-- base, sum of lengths and FIN position behind a segment, as the code has them
pub record HeadFor (head : Head) (kind : Kind) (d : Direction) (s : Segment) : Type 0 where
  pub base : head.base.0 ≡ base_with d s
  pub sent : head.sent ≡ d.sent + length s.payload
  pub fin : head.fin ≡ fin_after kind d s

-- What is under way behind a step: what was asked for waits for its grant, a charge goes out, or nothing.
abbrev pub Leaves : {C : Type 0} → Step C → Working → Type 0
Leaves (Ask bytes) work = (bytes_next work ≡ Some bytes) × (0 < bytes)
Leaves (Free c) work = work ≡ Giving
Leaves (Done counts) work = work ≡ Idle

-- what is kept once a direction ended
abbrev pub ended_with : {C : Type 0} → Lane C → List (Frag C) → Kept C → Kept C
ended_with lane fs k = record k {
  lane = spared_lane (cut_lane lane);
  frags = fs;
  hole = None;
  under = record k.under { counts = no_counts };
  work = Giving;
}

abbrev pub ended_on : {C : Type 0} → ℕ → Kept C → Kept C
ended_on at k = ended_with (lane_after at k.lane (pass always k.lane.front k.frags)) (drop (length (pass always k.lane.front k.frags)) k.frags) k

-- the counts of a segment that is not live
abbrev pub late_of : ℕ → Counts
late_of late = record no_counts { late = late }

-- an entry begins that brings no byte to be kept
abbrev pub entered : {C : Type 0} → ℕ → Counts → Kept C → Kept C
entered moment counts k = record k { under = record { moment = moment; front = k.lane.front; bare = is_empty k.frags; counts = counts } }

-- whether a hole falls due at a moment
abbrev pub is_due : ℕ → ℕ → Option ℕ → Bool
is_due hole at None = false
is_due hole at (Some since) = since + hole == at

-- where the first part begins, or the front
abbrev pub first_at : {C : Type 0} → ℕ → List (Frag C) → ℕ
first_at front [] = front
first_at front (f ∷ fs) = f.at

-- what an entry of time passes, and when it hands over
abbrev pub due_way : {C : Type 0} → ℕ → ℕ → Kept C → Advance
due_way hole at k = cond (is_due hole at k.hole) (From (first_at k.lane.front k.frags) Never) Stay

abbrev pub due_cuts : ℕ → ℕ → ℕ → ℕ → Cuts
due_cuts least overlap flush at = record { chunk = least; overlap = overlap; flush = flush; at = at }
