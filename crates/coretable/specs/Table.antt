-- A core's table, in every mode, and the course that it stands for.
use Rattle.std.specs.Prelude.{◌≡◌, ⊤, ℕ, ◌+◌, ◌<◌, Bool, true, false, ◌&&◌, is_none, [], length, Option, Some, None}
use Rattle.std.specs.FinMap.{empty as none_due}
use Rattle.indexmap.specs.IndexMap.{IsEmpty}
use Rattle.histbook.specs.declared.look_entry.LookEntry.{LookEntry}
use Rattle.prio_budget.specs.declared.answered.Answered.{Answered}
use Rattle.prio_budget.specs.declared.answered.Answered.TheVariants as A
use Rattle.prio_budget.specs.Answers.{IsDecided}
use Rattle.streamkey.specs.declared.input.Input.{Input}
use Rattle.streamkey.specs.declared.input.Input.TheVariants as I
use Rattle.streamdefs.specs.Terms.{Terms}
use Rattle.streamdefs.specs.Reorder.{Charge}
use Rattle.streamdefs.specs.Lawful.{Handler}
use Rattle.convo.specs.Talk.{SetsUp}
use Rattle.convo.specs.declared.talk.Convo.{Convo}
use Rattle.coretable.specs.Course.{Course, Under, Stop, Comes, looked, step}
use Rattle.coretable.specs.Course.Job.{Nothing}
use Rattle.coretable.specs.Course.Step.{Stops}
use Rattle.coretable.specs.Course.Stop.{Finishes}
use Rattle.coretable.specs.Held.{StandsFor}
use Rattle.coretable.specs.Lawfully.{IsSound}
use Rattle.coretable.specs.Turns.{HasCome, IsAt, IsTurnAt, Moves, behind_turn}
use Rattle.coretable.specs.Turns.{ComesTo as StageComesTo}
use Rattle.coretable.specs.Fits.{Fits, IsAskWithin, IsDone, IsLeft, events_by, is_rest, pause_of, pause_at, is_rest_at, unanswered_of, is_closing}
use Rattle.coretable.specs.Weighed.{weight_of_desk, weight_of_stage, weight_of_hand}
use Rattle.coretable.specs.declared.desk.Desk.{Desk}
use Rattle.coretable.specs.declared.job.Job.TheVariants as J
use Rattle.coretable.specs.declared.hand.Hand.{Hand}
use Rattle.coretable.specs.declared.state.State.{State}
use Rattle.coretable.specs.declared.state.State.TheVariants as M
use Rattle.coretable.specs.declared.stage.Stage.{Stage}
use Rattle.coretable.specs.declared.turn.Turn.{Turn}
use Rattle.coretable.specs.declared.turn.Turn.TheVariants as T
use Rattle.coretable.specs.declared.pause.Pause.{Pause}
use Rattle.coretable.specs.declared.pause.Pause.TheVariants.{Still, Asked, Freeing}
use Rattle.coretable.specs.declared.table.CoreTable.{CoreTable}

-- before any input nothing is kept, and nothing waits
pub record KeepsNothing {D : Type 0} (desk : Desk D) : Type 0 where
  pub slots : desk.slots.items ≡ []
  pub index : IsEmpty desk.index
  pub dues : desk.dues ≡ none_due
  pub unanswered : desk.unanswered.items ≡ []
  pub book : desk.book.items ≡ []
  pub answered : desk.answered ≡ 0
  pub owed : desk.owed ≡ None
  pub job : desk.job ≡ J.Nothing
  pub cursor : desk.cursor ≡ 0

-- in drain mode: the charge whose release is awaited
abbrev pub pause_in : Option (ℕ × ℕ) → Pause
pause_in None = Still
pause_in (Some charge) = Freeing charge.0 charge.1

abbrev pub pause_by : {C D : Type 0} → State C D → Pause
pause_by (M.Works stage) = pause_at stage
pause_by (M.Drains hand freeing) = pause_in freeing

-- what it waits for before it goes on
abbrev pub paused : {C : Type 0} → CoreTable C → Pause
paused x = pause_by x.state

-- nothing is in hand
abbrev pub is_empty : {C : Type 0} → Hand C → Bool
is_empty hand = is_none hand.talk && (is_none hand.charge && (is_none hand.kept && is_none hand.chunk))

abbrev pub rests_by : {C D : Type 0} → State C D → Bool
rests_by (M.Works stage) = is_rest_at stage
rests_by (M.Drains hand freeing) = is_none freeing && is_empty hand

-- an answer can be taken
abbrev pub rests : {C : Type 0} → CoreTable C → Bool
rests x = rests_by x.state

abbrev pub calm_by : {C D : Type 0} → State C D → Bool
calm_by (M.Works stage) = true
calm_by (M.Drains hand freeing) = false

-- it isn't in drain mode
abbrev pub calm : {C : Type 0} → CoreTable C → Bool
calm x = calm_by x.state

-- an input can be loaded
abbrev pub is_ready : {C : Type 0} → CoreTable C → Bool
is_ready x = x.ready

-- its last turn was the last one
abbrev pub is_over : {C : Type 0} → CoreTable C → Bool
is_over x = x.over

-- the capture's end was loaded
abbrev pub closes : {C : Type 0} → CoreTable C → Bool
closes x = is_closing x.desk.job

-- so many events are unanswered
abbrev pub unanswered : {C : Type 0} → CoreTable C → ℕ
unanswered x = unanswered_of x.desk

-- the most that the marks of its asks can be
abbrev pub limit : {C : Type 0} → CoreTable C → ℕ
limit x = x.set.marks.limit

-- an ask that waits may be granted
abbrev pub asks_by : Pause → ℕ
asks_by (Asked bytes mark) = 1
asks_by Still = 0
asks_by (Freeing bytes stamp) = 0

-- at most so many grants can still come
abbrev pub grants_left : {C : Type 0} → CoreTable C → ℕ
grants_left x = x.grants + asks_by (paused x)

abbrev pub weight_by : {C : Type 0} → (C → ℕ) → State C (Convo C) → ℕ
weight_by w (M.Works stage) = weight_of_stage w stage
weight_by w (M.Drains hand freeing) = weight_of_hand w hand

-- the charges that it holds, summed by a weight
abbrev pub weight : {C : Type 0} → (C → ℕ) → CoreTable C → ℕ
weight w x = weight_of_desk w x.desk + weight_by w x.state

-- A calm table stands for a course that is lawful so far; where it is ready, the course waits for an input, and where it is
-- over, the course is worked off.
abbrev pub IsAtState : {C : Type 0} → (C → Charge) → Terms → Course → Desk (Convo C) → State C (Convo C) → Type 0
IsAtState paid t m desk (M.Works stage) = IsAt paid (StandsFor paid t) t m desk stage
IsAtState paid t m desk (M.Drains hand freeing) = ⊥

pub record Stands {C : Type 0} (paid : C → Charge) (t : Terms) (last : ℕ) (handler : Handler) (m : Course) (x : CoreTable C) : Type 0 where
  pub sets : SetsUp x.set t
  pub sound : IsSound t last handler m
  pub at : IsAtState paid t m x.desk x.state
  pub waits : x.ready ≡ true → (m.under ≡ None) × (m.job ≡ Nothing)
  pub ends : x.over ≡ true → step t m ≡ Stops Finishes

-- The turn is what the course stops at, after so many silent steps, and the table stands for the course behind it.
pub record ComesTo {C : Type 0} (paid : C → Charge) (t : Terms) (last : ℕ) (handler : Handler) (m : Course) (x : CoreTable C) (turn : Turn C) : Type 0 where
  pub turns : ℕ
  pub there : Course
  pub stop : Stop
  pub comes : Comes t turns m stop there
  pub is_turn : IsTurnAt paid t there stop turn
  pub stands : Stands paid t last handler (behind_turn there turn) x

-- a granted charge is of the asked bytes, and has the look's stamp
abbrev pub IsPaid : {C : Type 0} → (C → Charge) → ℕ → Answered C → Type 0
IsPaid paid bytes (A.Granted charge look) = ((paid charge).bytes ≡ bytes) × ((paid charge).stamp ≡ look.stamp)
IsPaid paid bytes (A.Past look) = ⊤
IsPaid paid bytes (A.Spent look) = ⊤
IsPaid paid bytes (A.Moved first look) = ⊤

-- an answer that decides the ask that waits
abbrev pub IsAwaited : {C : Type 0} → (C → Charge) → Pause → Answered C → Type 0
IsAwaited paid (Asked bytes mark) answered = IsDecided bytes mark answered × IsPaid paid bytes answered
IsAwaited paid Still answered = ⊥
IsAwaited paid (Freeing bytes stamp) answered = ⊥

-- a release of the charge that waits comes after its grant
abbrev pub IsReleasedAt : Pause → (bytes stamp : ℕ) → Type 0
IsReleasedAt (Freeing bytes granted) freed stamp = (freed ≡ bytes) × (granted < stamp)
IsReleasedAt Still freed stamp = ⊥
IsReleasedAt (Asked bytes mark) freed stamp = ⊥

-- the look of an answer: none where the budget had moved, or its stamps are spent
abbrev pub look_of : {C : Type 0} → Pause → Answered C → Option LookEntry
look_of (Asked bytes mark) (A.Granted charge look) = Some (record { asked = bytes; granted = true; look = look })
look_of (Asked bytes mark) (A.Past look) = Some (record { asked = bytes; granted = false; look = look })
look_of _ _ = None

-- the course once an ask was answered
abbrev pub changed : (Course → Under → Course) → Course → Option Under → Course
changed change m None = m
changed change m (Some u) = change m u

abbrev pub under_way : (Course → Under → Course) → Course → Course
under_way change m = changed change m m.under

abbrev pub told_course : Option LookEntry → Course → Course
told_course None m = m
told_course (Some look) m = under_way (λ m u. looked m u look) m

-- the stamps are spent
abbrev pub is_spent : {C : Type 0} → Answered C → Bool
is_spent (A.Granted charge look) = false
is_spent (A.Past look) = false
is_spent (A.Spent look) = true
is_spent (A.Moved first look) = false

-- the weight of what came with an answer
abbrev pub granted_weight : {C : Type 0} → (C → ℕ) → Answered C → ℕ
granted_weight w (A.Granted charge look) = w charge
granted_weight w (A.Past look) = 0
granted_weight w (A.Spent look) = 0
granted_weight w (A.Moved first look) = 0

abbrev pub grants_in : {C : Type 0} → Answered C → ℕ
grants_in (A.Granted charge look) = 1
grants_in (A.Past look) = 0
grants_in (A.Spent look) = 0
grants_in (A.Moved first look) = 0

-- whether an input is the capture's end
abbrev pub is_finish : Input → Bool
is_finish (I.Packet packet) = false
is_finish (I.Finish now) = true

-- the payload of an input
abbrev pub payload_of : Input → ℕ
payload_of (I.Packet packet) = length packet.payload
payload_of (I.Finish now) = 0

-- a turn that a table in drain mode may come to
abbrev pub OnlyDrains : {C : Type 0} → Turn C → Type 0
OnlyDrains (T.Ask bytes mark) = ⊥
OnlyDrains (T.Free charge) = ⊤
OnlyDrains (T.Emit event) = ⊥
OnlyDrains T.Full = ⊤
OnlyDrains T.Ready = ⊤
OnlyDrains T.Over = ⊤

-- an ask that waits is void where the table gives up
abbrev pub pause_given_up : Pause → Pause
pause_given_up Still = Still
pause_given_up (Asked bytes mark) = Still
pause_given_up (Freeing bytes stamp) = Freeing bytes stamp

-- the stamp of an answer that says that the stamps are spent
abbrev pub spent_by : {C : Type 0} → Option ℕ → Answered C → Option ℕ
spent_by before (A.Granted charge look) = before
spent_by before (A.Past look) = before
spent_by before (A.Spent look) = Some look.stamp
spent_by before (A.Moved first look) = before

-- whether a turn is that one
abbrev pub readies : {C : Type 0} → Turn C → Bool
readies (T.Ask bytes mark) = false
readies (T.Free charge) = false
readies (T.Emit event) = false
readies T.Full = false
readies T.Ready = true
readies T.Over = false

abbrev pub finishes : {C : Type 0} → Turn C → Bool
finishes (T.Ask bytes mark) = false
finishes (T.Free charge) = false
finishes (T.Emit event) = false
finishes T.Full = false
finishes T.Ready = false
finishes T.Over = true

-- one for which no charge goes out
abbrev pub IsDrained : {C : Type 0} → Turn C → Type 0
IsDrained (T.Ask bytes mark) = ⊥
IsDrained (T.Free charge) = ⊥
IsDrained (T.Emit event) = ⊥
IsDrained T.Full = ⊤
IsDrained T.Ready = ⊤
IsDrained T.Over = ⊤

-- A calm table has gone on: how far the entry under way is fits the turn.
pub record GoesBy {C : Type 0} (paid : C → Charge) (old new : CoreTable C) (turn : Option (Turn C)) : Type 0 where
  pub stage : Stage C (Convo C)
  pub works : new.state ≡ M.Works stage
  pub fits : Fits paid (limit old) old.desk new.desk stage turn

-- it found no memory, and is in drain mode
pub record FallsInto {C : Type 0} (old new : CoreTable C) : Type 0 where
  pub hand : Hand C
  pub drains : new.state ≡ M.Drains hand None
  pub left : IsLeft old.desk new.desk

-- Its course has gone on by a step; it has come so far by silent steps; it has come to a turn.
pub record Stepped {C : Type 0} (paid : C → Charge) (t : Terms) (m : Course) (x : CoreTable C) (turn : Option (Turn C)) : Type 0 where
  pub stage : Stage C (Convo C)
  pub works : x.state ≡ M.Works stage
  pub moves : Moves paid (StandsFor paid t) t m x.desk stage turn

pub record Going {C : Type 0} (paid : C → Charge) (t : Terms) (last : ℕ) (handler : Handler) (m : Course) (x : CoreTable C) : Type 0 where
  pub stage : Stage C (Convo C)
  pub works : x.state ≡ M.Works stage
  pub comes : HasCome paid (StandsFor paid t) t last handler m x.desk stage

pub record Arrived {C : Type 0} (paid : C → Charge) (t : Terms) (m : Course) (x : CoreTable C) (turn : Turn C) : Type 0 where
  pub stage : Stage C (Convo C)
  pub works : x.state ≡ M.Works stage
  pub comes : StageComesTo paid (StandsFor paid t) t m x.desk stage turn

-- What a table is behind a turn, in every mode: it waits for what the turn asks for, what is unanswered grows by an event that
-- is handed over, and in drain mode it only gives charges out, and has none where it comes to a rest.
pub record TurnsTo {C : Type 0} (paid : C → Charge) (old new : CoreTable C) (turn : Turn C) : Type 0 where
  pub pause : paused new ≡ pause_of paid turn
  pub rest : rests new ≡ is_rest turn
  pub ready : is_ready new ≡ readies turn
  pub over : is_over new ≡ finishes turn
  pub within : IsAskWithin (limit old) turn
  pub done : IsDone (closes new) (unanswered new) turn
  pub closing : closes new ≡ closes old
  pub events : unanswered new ≡ unanswered old + events_by (Some turn)
  pub mode : calm new ≡ calm old
  pub drains : calm old ≡ false → OnlyDrains turn
  pub drained : calm old ≡ false → IsDrained turn → (w : C → ℕ) → weight w new ≡ 0

-- it found no memory: it is in drain mode, and waits for nothing
pub record FindsNoMemory {C : Type 0} (old new : CoreTable C) : Type 0 where
  pub mode : calm new ≡ false
  pub pause : paused new ≡ Still
  pub ready : is_ready new ≡ false
  pub over : is_over new ≡ false
  pub closing : closes new ≡ closes old
  pub events : unanswered new ≡ unanswered old
