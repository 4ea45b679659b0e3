-- What a table keeps, against a core's course.
use Rattle.std.specs.Prelude.{◌≡◌, ⊤, ℕ, suc, ◌<◌, Bool, true, false, ◌==◌, cond, List, [], ◌∷◌, ◌++◌, take, drop, map, Option, Some, None, slice_get}
use Rattle.evring.specs.declared.reason.Reason.{Reason}
use Rattle.histbook.specs.declared.look_entry.LookEntry.{LookEntry}
use Rattle.histbook.specs.declared.core_entry.CoreEntry.{CoreEntry}
use Rattle.histbook.specs.declared.entry.Entry.{Entry}
use Rattle.histbook.specs.declared.entry.Entry.TheVariants as E
use Rattle.prio_budget.specs.declared.free.Free.{Free}
use Rattle.indexmap.specs.IndexMap.{get}
use Rattle.std.specs.FinMap.{get as moment_in}
use Rattle.deadlines.specs.Dues.{Dues}
use Rattle.coretable.specs.Moments.{moment_of}
use Rattle.streamdefs.specs.Both.{Both, both}
use Rattle.streamkey.specs.declared.key.Key.{Key}
use Rattle.streamkey.specs.contracts.key.KeyPartialEq.TheImpl as key_eq
use Rattle.streamdefs.specs.Terms.{Terms}
use Rattle.streamdefs.specs.Convo.{Act, Convo, after, events_in, is_live}
use Rattle.streamdefs.specs.Convo.Act.{Seg, Answer, Time, End}
use Rattle.streamdefs.specs.Packet.{Packet, no_packet}
use Rattle.streamdefs.specs.Core.{Line, Core, Open, Told, Owed, history, found_by, put_convo, latest_of, is_answer}
use Rattle.coretable.specs.Course.{Course, Job, Under, core_of}
use Rattle.coretable.specs.Course.Job.{Nothing, Takes, Closes}
use Rattle.coretable.specs.Orderly.{waiting_of}
use Rattle.convo.specs.Talk.{Talk, Phase, Sums, IsOf, due_of, no_sums, new_talk, talk_at}
use Rattle.convo.specs.Talk.Phase.{Still, Under as UnderWay}
use Rattle.convo.specs.Seen.{packet_of}
use Rattle.evring.specs.declared.event.Event.{Event as Event_}
use Rattle.evring.specs.declared.event.Event.TheVariants as V
use Rattle.convo.specs.declared.answered_event.AnsweredEvent.{AnsweredEvent}
use Rattle.convo.specs.declared.answered_event.AnsweredEvent.TheVariants as answered
use Rattle.coretable.specs.declared.slot.Slot.{Slot}
use Rattle.coretable.specs.declared.unanswered.Unanswered.{Unanswered}
use Rattle.coretable.specs.declared.owed.Owed.{Owed as OwedAt}
use Rattle.coretable.specs.declared.entry_kind.EntryKind.{EntryKind}
use Rattle.coretable.specs.declared.entry_kind.EntryKind.TheVariants as D
use Rattle.coretable.specs.declared.job.Job.{Job as Kept}
use Rattle.coretable.specs.declared.job.Job.TheVariants as J
use Rattle.coretable.specs.declared.active.Active.{Active}
use Rattle.coretable.specs.declared.desk.Desk.{Desk}

-- an entry as the book has it
abbrev pub entry_in : Act → Entry
entry_in (Seg p now looks frees) = E.Seg p.number now looks frees
entry_in (Answer event advice frees) = E.Answer event advice frees
entry_in (Time at looks frees) = E.Time at looks frees
entry_in (End at reason looks frees) = E.End at reason looks frees

abbrev pub entry_of : Line → CoreEntry
entry_of line = record { conv = line.conv; entry = entry_in line.act }

abbrev pub entry_for : EntryKind → List LookEntry → List Free → Entry
entry_for (D.Seg packet now) looks frees = E.Seg packet now looks frees
entry_for (D.Answer event advice) looks frees = E.Answer event advice frees
entry_for (D.Time at) looks frees = E.Time at looks frees
entry_for (D.End at reason) looks frees = E.End at reason looks frees

-- the conversations, with that of the entry under way
abbrev pub with_under : Terms → Core → Option Under → List Open
with_under t core None = core.convos
with_under t core (Some u) = put_convo u.line.conv (found_by core u.line) core.convos

abbrev pub present : Terms → Course → List Open
present t m = with_under t (core_of t m) m.under

-- the conversation whose entry is under way
abbrev pub hole_of : Option Under → Option ℕ
hole_of None = None
hole_of (Some u) = Some u.line.conv

-- the events that are unanswered: those of the core, and those of the entry under way that were handed over
abbrev pub unanswered_with : Terms → Core → Option Under → List Told
unanswered_with t core None = waiting_of core
unanswered_with t core (Some u) =
    cond (is_answer u.line.act) (drop (suc core.answered) core.events)
    (waiting_of core ++ map (λ event. record { conv = u.line.conv; event = event }) (take u.emitted (events_in t (found_by core u.line) u.line.act)))

-- what is known of a conversation beside what the core has of it: the End that its last entry made due, and its sums
pub record Beside : Type 0 where
  pub owed : Option (Reason × ℕ)
  pub sums : Both Sums

abbrev pub beside : Convo → Beside → Talk
beside c b = record { convo = c; owed = b.owed; sums = b.sums }

-- before its first entry
abbrev pub nothing_beside : Beside
nothing_beside = record { owed = None; sums = both no_sums }

-- the packet with which an entry opens a conversation
abbrev pub opened_by : Act → Packet
opened_by (Seg p now looks frees) = p
opened_by _ = no_packet

-- what a history makes of a conversation, from its first packet on
abbrev pub talk_by : Terms → List Act → Talk
talk_by t [] = new_talk no_packet
talk_by t (act ∷ acts) = talk_at t (new_talk (opened_by act)) (act ∷ acts)

-- the talk of a conversation after the lines of the book under its number
abbrev pub talk_of : Terms → List Line → ℕ → Talk
talk_of t lines id = talk_by t (history id lines)

-- what these lines give beside the conversation
abbrev pub beside_of : Terms → List Line → ℕ → Beside
beside_of t lines id = record { owed = (talk_of t lines id).owed; sums = (talk_of t lines id).sums }

-- What is kept of a conversation recalls its history: it stands for what the core has of it, with the End and the sums that
-- its lines in the book give.
abbrev pub Recalls : {T : Type 0} → (T → Talk → Phase → Type 0) → Terms → List Line → Open → T → Type 0
Recalls Stands t lines o x = Stands x (beside o.convo (beside_of t lines o.id)) Still

-- the talk before the entry under way
abbrev pub talk_before : Terms → Course → Under → Talk
talk_before t m u = beside (found_by (core_of t m) u.line) (beside_of t m.lines u.line.conv)

-- A slot stands for a conversation; where its entry is under way, what is kept of it is elsewhere.
abbrev pub IsHole : Option ℕ → ℕ → Bool
IsHole None id = false
IsHole (Some n) id = n == id

abbrev pub KeepsTalk : {T : Type 0} → (Open → T → Type 0) → Bool → Open → Option T → Type 0
KeepsTalk Is true o talk = talk ≡ None
KeepsTalk Is false o None = ⊥
KeepsTalk Is false o (Some x) = Is o x

pub record IsSlotOf {T : Type 0} (Is : Open → T → Type 0) (hole : Option ℕ) (o : Open) (s : Slot T) : Type 0 where
  pub number : s.number ≡ o.id
  pub key : s.key ≡ o.convo.first.key
  pub clock : s.clock ≡ o.convo.clock
  pub talk : KeepsTalk Is (IsHole hole o.id) o s.talk

-- all of them, in order
abbrev pub AreSlots : {T : Type 0} → (Open → T → Type 0) → Option ℕ → List Open → List (Slot T) → Type 0
AreSlots Is hole [] [] = ⊤
AreSlots Is hole [] (s ∷ ss) = ⊥
AreSlots Is hole (o ∷ os) [] = ⊥
AreSlots Is hole (o ∷ os) (s ∷ ss) = IsSlotOf Is hole o s × AreSlots Is hole os ss

-- the moment at which each falls due is known by its place, but for the one that is elsewhere
abbrev pub IsDueIn : Terms → Option ℕ → Dues → ℕ → Option Open → Type 0
IsDueIn t hole index place None = moment_in index place ≡ None
IsDueIn t hole index place (Some o) = IsHole hole o.id ≡ false → moment_in index place ≡ moment_of (due_of t o.convo)

abbrev pub AreDue : Terms → Option ℕ → List Open → Dues → Type 0
AreDue t hole os index = (place : ℕ) → IsDueIn t hole index place (slice_get os place)

-- the index has the place of a key's last conversation
abbrev pub IsIndexed : List Open → Option ℕ → Option Open → Type 0
IsIndexed os None None = ⊤
IsIndexed os (Some place) (Some o) = slice_get os place ≡ Some o
IsIndexed os _ _ = ⊥

-- the conversation of that number stands at a place
abbrev pub ids_of : List Open → List ℕ
ids_of os = map (λ o. o.id) os

-- an event that waits
abbrev pub AreUnanswered : List ℕ → List Unanswered → List Told → Type 0
AreUnanswered ids [] [] = ⊤
AreUnanswered ids [] (t ∷ ts) = ⊥
AreUnanswered ids (q ∷ qs) [] = ⊥
AreUnanswered ids (q ∷ qs) (t ∷ ts) = (slice_get ids q.place ≡ Some t.conv) × IsOf q.of t.event × AreUnanswered ids qs ts

-- the End that is owed
abbrev pub IsOwedAt : List ℕ → Option OwedAt → Option Owed → Type 0
IsOwedAt ids None None = ⊤
IsOwedAt ids (Some a) (Some o) = (slice_get ids a.place ≡ Some o.conv) × (a.reason ≡ o.reason) × (a.at ≡ o.at)
IsOwedAt ids _ _ = ⊥

-- what isn't worked off
abbrev pub job_of : Kept → Job
job_of J.Nothing = Nothing
job_of (J.Takes p) = Takes (packet_of p)
job_of (J.Closes at) = Closes at

-- the first so many have ended
abbrev pub AreEnded : ℕ → List Open → Type 0
AreEnded n os = (k : ℕ) (o : Open) → k < n → slice_get os k ≡ Some o → is_live o.convo ≡ false

abbrev pub owed_place : ℕ → Option (Reason × ℕ) → Option OwedAt
owed_place place None = None
owed_place place (Some ending) = Some (record { place = place; reason = ending.0; at = ending.1 })

-- what a complete entry leaves of the number of answers, and of the End that is owed
abbrev pub answered_by : EntryKind → ℕ → ℕ
answered_by (D.Answer event advice) answered = event
answered_by (D.Seg packet now) answered = answered
answered_by (D.Time at) answered = answered
answered_by (D.End at reason) answered = answered

abbrev pub owed_by_kind : EntryKind → Option OwedAt → Option OwedAt → Option OwedAt
owed_by_kind (D.Answer event advice) old new = old
owed_by_kind (D.Seg packet now) old new = new
owed_by_kind (D.Time at) old new = new
owed_by_kind (D.End at reason) old new = new

-- the place that the index has of a key
abbrev pub place_of : {T : Type 0} → Desk T → Key → Option ℕ
place_of desk key = get key_eq.eq-value.it desk.index key

-- What a table keeps beside the entry under way stands for a core's course.
pub record Keeps {T : Type 0} (Stands : T → Talk → Phase → Type 0) (t : Terms) (m : Course) (desk : Desk T) : Type 0 where
  pub slots : AreSlots (Recalls Stands t m.lines) (hole_of m.under) (present t m) desk.slots.items
  pub index : (key : Key) → IsIndexed (present t m) (place_of desk key) (latest_of key (present t m))
  pub dues : AreDue t (hole_of m.under) (present t m) desk.dues
  pub queue : AreUnanswered (ids_of (present t m)) desk.unanswered.items (unanswered_with t (core_of t m) m.under)
  pub book : desk.book.items ≡ map entry_of m.lines
  pub answered : desk.answered ≡ (core_of t m).answered
  pub owed : IsOwedAt (ids_of (present t m)) desk.owed (core_of t m).owed
  pub job : job_of desk.job ≡ m.job
  pub cursor : AreEnded desk.cursor (present t m)

-- the clock of a conversation's last packet before its End, behind an entry
abbrev pub clock_by : EntryKind → Bool → ℕ → ℕ
clock_by (D.Seg packet now) true clock = now
clock_by _ live clock = clock

-- The entry under way: where its conversation stands, and the entry so far.
pub record IsActive {T : Type 0} (t : Terms) (m : Course) (u : Under) (a : Active T) : Type 0 where
  pub under : m.under ≡ Some u
  pub place : slice_get (present t m) a.place ≡ Some (record { id = u.line.conv; convo = found_by (core_of t m) u.line })
  pub number : a.number ≡ u.line.conv
  pub entry : entry_for a.kind a.looks.items a.frees.items ≡ entry_in u.line.act
  pub clock : a.clock ≡ (after t (found_by (core_of t m) u.line) u.line.act).clock

-- its conversation stands for what it was before the entry, and for so much of the entry
pub record Works {T : Type 0} (Stands : T → Talk → Phase → Type 0) (t : Terms) (m : Course) (u : Under) (a : Active T) : Type 0 where
  pub active : IsActive t m u a
  pub talk : Stands a.talk (talk_before t m u) (UnderWay u.line.act u.emitted)

-- which event it is
abbrev pub kind_of : {C : Type 0} → Event_ C → AnsweredEvent
kind_of (V.New conv proto source target) = answered.New
kind_of (V.Chunk conv way key kept chunk) = answered.Chunk way
kind_of (V.Ended conv reason) = answered.Ended
