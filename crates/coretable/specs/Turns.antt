-- How far the entry under way is, and what a table comes to.
use Rattle.std.specs.Prelude.{◌≡◌, ⊤, ◌⊎◌, ℕ, List, Option, Some, None}
use Rattle.histbook.specs.declared.look_entry.LookEntry.{LookEntry}
use Rattle.prio_budget.specs.declared.free.Free.{Free}
use Rattle.streamdefs.specs.Terms.{Terms}
use Rattle.streamdefs.specs.Reorder.{Charge}
use Rattle.streamdefs.specs.View.{Ask as Request}
use Rattle.streamdefs.specs.Direction.Next.{Rests as NoMove}
use Rattle.streamdefs.specs.Convo.{Event as EventMade}
use Rattle.streamdefs.specs.Want.{Want as Wanted, next_move}
use Rattle.streamdefs.specs.Want.Want.{Reserve, Release, Emit as EmitWanted}
use Rattle.streamdefs.specs.Core.{found_by}
use Rattle.coretable.specs.Course.{Course, Comes, Under, Stop, After, step, core_of, want_of, looked, freed, emitted}
use Rattle.coretable.specs.Course.Step.{Goes, Stops}
use Rattle.coretable.specs.Lawfully.{IsSound}
use Rattle.streamdefs.specs.Lawful.{Handler}
use Rattle.coretable.specs.Course.Stop.{Wants, Fills, Rests, Finishes}
use Rattle.flowdir.specs.Boundary.{IsLookOf}
use Rattle.convo.specs.Seen.{IsEvent}
use Rattle.convo.specs.Talk.{Talk, Phase, IsAnswerTo}
use Rattle.convo.specs.Talk.Phase.{Still}
use Rattle.convo.specs.declared.answered_event.AnsweredEvent.{AnsweredEvent}
use Rattle.evring.specs.declared.advice.Advice.{Advice}
use Rattle.chunkpart.specs.ChunkParts.{ChunkParts}
use Rattle.streamdefs.specs.Convo.Act.{Answer}
use Rattle.coretable.specs.declared.active.Active.{Active}
use Rattle.coretable.specs.declared.desk.Desk.{Desk}
use Rattle.coretable.specs.declared.stage.Stage.{Stage}
use Rattle.coretable.specs.declared.stage.Stage.TheVariants as S
use Rattle.coretable.specs.declared.turn.Turn.{Turn}
use Rattle.coretable.specs.declared.turn.Turn.TheVariants as T
use Rattle.coretable.specs.Standing.{talk_before, Keeps, IsActive, Works}

-- no event is handed over before all is asked and given back
abbrev pub IsFresh : Terms → Course → Under → Type 0
IsFresh t m u = (u.emitted ≡ 0) ⊎ (next_move t (found_by (core_of t m) u.line) u.line.act ≡ NoMove)

-- the entry under way, which wants that next
pub record AtWant {D : Type 0} (Stands : D → Talk → Phase → Type 0) (t : Terms) (m : Course) (desk : Desk D) (a : Active D) (w : Wanted) : Type 0 where
  pub u : Under
  pub keeps : Keeps Stands t m desk
  pub works : Works Stands t m u a
  pub fresh : IsFresh t m u
  pub wants : want_of t m u ≡ w

-- the same, before an answer that the course has already
pub record AtLook {C D : Type 0} (paid : C → Charge) (Stands : D → Talk → Phase → Type 0) (t : Terms) (m : Course) (desk : Desk D) (a : Active D) (look : LookEntry) (granted : Option C) : Type 0 where
  pub before : Course
  pub request : Request
  pub mark : ℕ
  pub at : AtWant Stands t before desk a (Reserve request mark)
  pub is : m ≡ looked before at.u look
  pub answers : IsLookOf paid granted look

pub record AtFree {D : Type 0} (Stands : D → Talk → Phase → Type 0) (t : Terms) (m : Course) (desk : Desk D) (a : Active D) (free : Free) : Type 0 where
  pub before : Course
  pub charge : Charge
  pub at : AtWant Stands t before desk a (Release charge)
  pub is : m ≡ freed before at.u free

pub record AtEvent {D : Type 0} (Stands : D → Talk → Phase → Type 0) (t : Terms) (m : Course) (desk : Desk D) (a : Active D) : Type 0 where
  pub before : Course
  pub u : Under
  pub event : EventMade
  pub keeps : Keeps Stands t m desk
  pub works : Works Stands t before u a
  pub fresh : IsFresh t before u
  pub wants : want_of t before u ≡ EmitWanted event
  pub is : m ≡ emitted before u

-- an answer that is to go to its conversation, whose entry is under way
pub record AtAnswer {C D : Type 0} (paid : C → Charge) (Stands : D → Talk → Phase → Type 0) (t : Terms) (m : Course) (desk : Desk D) (a : Active D) (of : AnsweredEvent) (advice : Advice) (kept : List (ChunkParts C)) : Type 0 where
  pub u : Under
  pub number : ℕ
  pub frees : List Free
  pub event : EventMade
  pub keeps : Keeps Stands t m desk
  pub active : IsActive t m u a
  pub none : u.emitted ≡ 0
  pub line : u.line.act ≡ Answer number advice frees
  pub talk : Stands a.talk (talk_before t m u) Still
  pub answers : IsAnswerTo paid (found_by (core_of t m) u.line) of advice frees kept event

-- How far it is.
abbrev pub IsAt : {C D : Type 0} → (C → Charge) → (D → Talk → Phase → Type 0) → Terms → Course → Desk D → Stage C D → Type 0
IsAt paid Stands t m desk S.Rests = (m.under ≡ None) × Keeps Stands t m desk
IsAt paid Stands t m desk (S.Asked active bytes mark) = (request : Request) × (request.bytes ≡ bytes) × AtWant Stands t m desk active (Reserve request mark)
IsAt paid Stands t m desk (S.Told active look granted) = AtLook paid Stands t m desk active look granted
IsAt paid Stands t m desk (S.Again active bytes mark) = (request : Request) × (request.bytes ≡ bytes) × AtWant Stands t m desk active (Reserve request mark)
IsAt paid Stands t m desk (S.Returned active of advice kept) = AtAnswer paid Stands t m desk active of advice kept
IsAt paid Stands t m desk (S.Freeing active bytes stamp) = (charge : Charge) × (charge.bytes ≡ bytes) × AtWant Stands t m desk active (Release charge)
IsAt paid Stands t m desk (S.Freed active free) = AtFree Stands t m desk active free
IsAt paid Stands t m desk (S.Emitted active) = AtEvent Stands t m desk active

-- What a table comes to is what the course stops at.
abbrev pub IsTurnAt : {C : Type 0} → (C → Charge) → Terms → Course → Stop → Turn C → Type 0
IsTurnAt paid t m (Wants (Reserve request upto)) (T.Ask bytes mark) = (request.bytes ≡ bytes) × (upto ≡ mark)
IsTurnAt paid t m (Wants (Release charge)) (T.Free c) = paid c ≡ charge
IsTurnAt paid t m (Wants (EmitWanted made)) (T.Emit event) = (u : Under) × (m.under ≡ Some u) × IsEvent paid (found_by (core_of t m) u.line).first made event
IsTurnAt paid t m Fills T.Full = ⊤
IsTurnAt paid t m Rests T.Ready = ⊤
IsTurnAt paid t m Finishes T.Over = ⊤
IsTurnAt paid t m _ _ = ⊥

-- An event is handed over at once.
abbrev pub behind_turn : {C : Type 0} → Course → Turn C → Course
behind_turn m (T.Emit event) = handed m.under
  where
    handed : Option Under → Course
    handed None = m
    handed (Some u) = emitted m u
behind_turn m _ = m

-- What a step comes to: the course goes on by an entry that is complete, or it stops.
abbrev pub Settles : {C D : Type 0} → (C → Charge) → (D → Talk → Phase → Type 0) → Terms → Course → Desk D → Stage C D → Option (Turn C) → Type 0
Settles paid Stands t m desk stage None = (next : Course) × (step t m ≡ Goes next) × IsAt paid Stands t next desk stage
Settles paid Stands t m desk stage (Some turn) = (stop : Stop) × (step t m ≡ Stops stop) × IsTurnAt paid t m stop turn × IsAt paid Stands t (behind_turn m turn) desk stage

-- A table goes on: after so many silent steps of the course, one more, or it stops.
abbrev pub Moves : {C D : Type 0} → (C → Charge) → (D → Talk → Phase → Type 0) → Terms → Course → Desk D → Stage C D → Option (Turn C) → Type 0
Moves paid Stands t m desk stage turn = (n : ℕ) × (there : Course) × After t n m there × Settles paid Stands t there desk stage turn

-- It has come so far by silent steps.
abbrev pub HasCome : {C D : Type 0} → (C → Charge) → (D → Talk → Phase → Type 0) → Terms → ℕ → Handler → Course → Desk D → Stage C D → Type 0
HasCome paid Stands t last handler m desk stage = (n : ℕ) × (there : Course) × After t n m there × IsSound t last handler there × IsAt paid Stands t there desk stage

-- The turn is what the course stops at, after so many silent steps, and the table stands for the course behind it.
abbrev pub ComesTo : {C D : Type 0} → (C → Charge) → (D → Talk → Phase → Type 0) → Terms → Course → Desk D → Stage C D → Turn C → Type 0
ComesTo paid Stands t m desk stage turn = (n : ℕ) × (there : Course) × (stop : Stop) × Comes t n m stop there × IsTurnAt paid t there stop turn × IsAt paid Stands t (behind_turn there turn) desk stage
