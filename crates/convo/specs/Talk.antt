-- A conversation after a prefix of its history, with the End that its last entry made due and its sums; and an entry of it.
use Rattle.std.specs.Prelude.{◌≡◌, ⊤, ℕ, ◌-◌, ◌^◌, ◌≤◌, Bool, true, false, cond, nat_le, List, [], ◌∷◌, ◌++◌, length, map, filter, Option, Some, None, min, option_map}
use Rattle.evring.specs.declared.way.Way.{Way}
use Rattle.evring.specs.declared.way.Way.TheVariants.{Fore, Back}
use Rattle.evring.specs.declared.advice.Advice.{Advice}
use Rattle.evring.specs.declared.reason.Reason.{Reason}
use Rattle.streamkey.specs.declared.key.Key.{Key}
use Rattle.streamkey.specs.declared.toward.Toward.{Toward}
use Rattle.cutclass.specs.declared.class_rule.ClassRule.{ClassRule}
use Rattle.cutclass.specs.InForce.{Class, first_class}
use Rattle.convo.specs.declared.convo_set.ConvoSet.{ConvoSet}
use Rattle.streamdefs.specs.Both.{Both, both, same_way}
use Rattle.streamdefs.specs.Terms.{Terms}
use Rattle.streamdefs.specs.Packet.{Packet as Accepted}
use Rattle.streamdefs.specs.Reorder.{Charge}
use Rattle.streamdefs.specs.View.{Gap}
use Rattle.streamdefs.specs.Direction.{Counts, no_counts}
use Rattle.streamdefs.specs.Convo.{Act, Convo, Event as EventMade, Kept as KeptPiece, new_convo, after, ending, counts_in, deliveries_in, kept_of, charges_of, answered_event, time_dues, idle_dues}
use Rattle.streamdefs.specs.Convo.Event.{New as NewMade, Chunk as ChunkMade, Ended as EndedMade}
use Rattle.streamdefs.specs.Convo.Act.{Seg, Answer as AnswerAct, Time, End}
use Rattle.streamdefs.specs.Totals.{plus, gaps_before}
use Rattle.streamdefs.specs.Lists.{total}
use Rattle.flowdir.specs.declared.counts.Counts.{Counts as KeptCounts}
use Rattle.convo.specs.declared.dir_total.DirTotal.{DirTotal}
use Rattle.streamdefs.specs.Want.{want}
use Rattle.streamdefs.specs.Want.Want.{Rest as RestWanted}
use Rattle.flowdir.specs.Boundary.{HasShape, IsTimely, least_of}
use Rattle.convo.specs.Seen.{IsWant, kept_for}
use Rattle.convo.specs.declared.want.Want.{Want}
use Rattle.convo.specs.declared.want.Want.TheVariants.{Ask, Free, Emit, Rest}
use Rattle.chunkpart.specs.ChunkParts.{ChunkParts}
use Rattle.prio_budget.specs.declared.free.Free.{Free as FreeMade}
use Rattle.convo.specs.declared.answered_event.AnsweredEvent.{AnsweredEvent}
use Rattle.convo.specs.declared.answered_event.AnsweredEvent.TheVariants as answered

-- what a rule of classes gives
abbrev pub given_by : ClassRule → Class
given_by rule = record { priority = rule.priority; cutoff = rule.cut }

-- settings as the definitions have them, with times that can be added to a moment
pub record SetsUp (set : ConvoSet) (t : Terms) : Type 0 where
  pub shape : HasShape set.shape t
  pub timely : IsTimely set.shape
  pub patient : set.shape.idle ≤ 2 ^ 62
  pub mode : t.mode ≡ set.shape.mode
  pub idle : t.idle ≡ set.shape.idle
  pub default : t.default ≡ set.cutoffs.default
  pub cutoffs : t.cutoffs ≡ record { fore = set.cutoffs.fore; back = set.cutoffs.back }
  pub marks : t.marks ≡ record { limit = set.marks.limit; base = set.marks.base; priorities = set.marks.count }
  pub class : (key : Key) (toward : Toward) → t.class key toward ≡ option_map given_by (first_class set.cutoffs.classes key toward)

-- what is counted of a direction: the classes of its bytes, and the gaps before its deliveries
pub record Sums : Type 0 where
  pub counts : Counts
  pub gaps : List Gap

-- The conversation, the End that its last entry made due, Answers aside, and what is counted of both directions.
pub record Talk : Type 0 where
  pub convo : Convo
  pub owed : Option (Reason × ℕ)
  pub sums : Both Sums

abbrev pub no_sums : Sums
no_sums = record { counts = no_counts; gaps = [] }

-- before its first entry
abbrev pub new_talk : Accepted → Talk
new_talk first = record { convo = new_convo first; owed = None; sums = both no_sums }

-- the End that is due behind an entry
abbrev pub owed_after : Terms → Talk → Act → Option (Reason × ℕ)
owed_after t k (AnswerAct event advice frees) = k.owed
owed_after t k (Seg p now looks frees) = ending t k.convo (Seg p now looks frees)
owed_after t k (Time at looks frees) = ending t k.convo (Time at looks frees)
owed_after t k (End at reason looks frees) = ending t k.convo (End at reason looks frees)

-- what is counted of a direction behind an entry
abbrev pub sums_after : Terms → Convo → Act → Way → Sums → Sums
sums_after t c act way s = record {
  counts = plus s.counts (counts_in t c way act);
  gaps = s.gaps ++ gaps_before (filter (λ d. same_way way d.way) (deliveries_in t c act));
}

-- behind an entry
abbrev pub talk_after : Terms → Talk → Act → Talk
talk_after t k act = record {
  convo = after t k.convo act;
  owed = owed_after t k act;
  sums = record { fore = sums_after t k.convo act Fore k.sums.fore; back = sums_after t k.convo act Back k.sums.back };
}

-- behind a history
abbrev pub talk_at : Terms → Talk → List Act → Talk
talk_at t k [] = k
talk_at t k (act ∷ acts) = talk_at t (talk_after t k act) acts

-- what is under way: nothing, or an entry with its looks and frees so far, of which so many events are handed over
pub data Phase : Type 0 where
  Still : Phase
  Under : Act → ℕ → Phase

-- What a call answers is what the entry wants next; with `Rest` it is complete.
abbrev pub IsWantOf : {C : Type 0} → (C → Charge) → (Talk → Phase → Type 0) → Terms → Talk → Act → ℕ → Want C → Type 0
IsWantOf paid Stands t k act emitted Rest = (want t k.convo act emitted ≡ RestWanted) × Stands (talk_after t k act) Still
IsWantOf paid Stands t k act emitted (Ask bytes mark) = IsWant paid k.convo.first (want t k.convo act emitted) (Ask bytes mark) × Stands k (Under act emitted)
IsWantOf paid Stands t k act emitted (Free charge) = IsWant paid k.convo.first (want t k.convo act emitted) (Free charge) × Stands k (Under act emitted)
IsWantOf paid Stands t k act emitted (Emit event) = IsWant paid k.convo.first (want t k.convo act emitted) (Emit event) × Stands k (Under act emitted)

-- the bytes that a want asks for
abbrev pub asked_in : {C : Type 0} → Want C → Option ℕ
asked_in (Ask bytes mark) = Some bytes
asked_in (Free charge) = None
asked_in (Emit event) = None
asked_in Rest = None

-- an answer says which event it is to
abbrev pub IsOf : AnsweredEvent → EventMade → Type 0
IsOf answered.New NewMade = ⊤
IsOf (answered.Chunk way) (ChunkMade d) = way ≡ d.way
IsOf answered.Ended (EndedMade reason) = ⊤
IsOf _ _ = ⊥

-- the deliveries that come back with the answer to an event, and the charges that its worker gave back: either all or none
abbrev pub back_with : Advice → EventMade → List KeptPiece
back_with advice (ChunkMade d) = cond advice.keep (kept_of d) []
back_with advice _ = []

abbrev pub owed_for : Advice → EventMade → List Charge
owed_for advice (ChunkMade d) = cond advice.keep [] (charges_of (kept_of d))
owed_for advice _ = []

-- an answer to the conversation's next event, as its worker owes it: its advice, its frees and the chunks that come back
pub record IsAnswerTo {C : Type 0} (paid : C → Charge) (c : Convo) (of : AnsweredEvent) (advice : Advice) (frees : List FreeMade) (kept : List (ChunkParts C)) (e : EventMade) : Type 0 where
  pub next : answered_event c ≡ Some e
  pub of_it : IsOf of e
  pub given : length frees ≡ length (owed_for advice e)
  pub returned : map (kept_for paid) kept ≡ back_with advice e

-- the sooner of a moment for a Time and one for the End of `idle`: at one moment the Time
abbrev pub sooner_of : Option ℕ → Option ℕ → Option (ℕ × Bool)
sooner_of None None = None
sooner_of None (Some idle) = Some (idle, true)
sooner_of (Some time) None = Some (time, false)
sooner_of (Some time) (Some idle) = cond (nat_le time idle) (Some (time, false)) (Some (idle, true))

abbrev pub due_of : Terms → Convo → Option (ℕ × Bool)
due_of t c = sooner_of (least_of (time_dues t c)) (least_of (idle_dues t c))

-- the bytes of gaps
abbrev pub bytes_in_gaps : List Gap → ℕ
bytes_in_gaps gaps = total (λ g. g.len) gaps

-- a count that is kept stands still at the end of its type
abbrev pub kept_count : ℕ → ℕ
kept_count n = min n (2 ^ 64 - 1)

-- counts that are kept
abbrev pub kept_counts : Counts → KeptCounts
kept_counts c = record { duplicate = kept_count c.duplicate; late = kept_count c.late; cut = kept_count c.cut; taken = kept_count c.taken; shed = kept_count c.shed }

-- the totals of a direction, by what is counted of it
pub record IsTotal (first : Accepted) (way : Way) (s : Sums) (total : DirTotal) : Type 0 where
  pub conv : total.conv ≡ first.number
  pub way_is : total.way ≡ way
  pub counts : total.counts ≡ kept_counts s.counts
  pub gaps : total.gaps ≡ kept_count (length s.gaps)
  pub gap_bytes : total.gap_bytes ≡ kept_count (bytes_in_gaps s.gaps)
