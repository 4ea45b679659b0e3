-- What a step comes to, whatever course the table stands for.
use Rattle.std.specs.Prelude.{◌≡◌, ⊤, ℕ, ◌+◌, ◌≤◌, Bool, true, false, length, Option, Some, None}
use Rattle.streamdefs.specs.Reorder.{Charge}
use Rattle.coretable.specs.declared.job.Job.{Job}
use Rattle.coretable.specs.declared.job.Job.TheVariants as J
use Rattle.coretable.specs.declared.desk.Desk.{Desk}
use Rattle.coretable.specs.declared.stage.Stage.{Stage}
use Rattle.coretable.specs.declared.stage.Stage.TheVariants as S
use Rattle.coretable.specs.declared.turn.Turn.{Turn}
use Rattle.coretable.specs.declared.turn.Turn.TheVariants as T
use Rattle.coretable.specs.declared.pause.Pause.{Pause}
use Rattle.coretable.specs.declared.pause.Pause.TheVariants.{Still, Asked, Freeing}

-- what is waited for before the entry under way goes on
abbrev pub pause_at : {C D : Type 0} → Stage C D → Pause
pause_at S.Rests = Still
pause_at (S.Returned active of advice kept) = Still
pause_at (S.Asked active bytes mark) = Asked bytes mark
pause_at (S.Again active bytes mark) = Still
pause_at (S.Told active look granted) = Still
pause_at (S.Freeing active bytes stamp) = Freeing bytes stamp
pause_at (S.Freed active free) = Still
pause_at (S.Emitted active) = Still

-- what a turn waits for
abbrev pub pause_of : {C : Type 0} → (C → Charge) → Turn C → Pause
pause_of paid (T.Ask bytes mark) = Asked bytes mark
pause_of paid (T.Free charge) = Freeing (paid charge).bytes (paid charge).stamp
pause_of paid (T.Emit event) = Still
pause_of paid T.Full = Still
pause_of paid T.Ready = Still
pause_of paid T.Over = Still

abbrev pub pause_for : {C : Type 0} → (C → Charge) → Option (Turn C) → Pause
pause_for paid None = Still
pause_for paid (Some turn) = pause_of paid turn

-- whether no entry is under way
abbrev pub is_rest_at : {C D : Type 0} → Stage C D → Bool
is_rest_at S.Rests = true
is_rest_at _ = false

-- whether none is under way behind a turn
abbrev pub is_rest : {C : Type 0} → Turn C → Bool
is_rest (T.Ask bytes mark) = false
is_rest (T.Free charge) = false
is_rest (T.Emit event) = false
is_rest T.Full = true
is_rest T.Ready = true
is_rest T.Over = true

-- an entry that is complete without a turn leaves none under way
abbrev pub is_rest_for : {C : Type 0} → Option (Turn C) → Bool
is_rest_for None = true
is_rest_for (Some turn) = is_rest turn

-- one event more is unanswered behind a turn
abbrev pub events_by : {C : Type 0} → Option (Turn C) → ℕ
events_by (Some (T.Emit event)) = 1
events_by _ = 0

-- an ask is for a byte at least, up to a mark within the limit
abbrev pub IsAskWithin : {C : Type 0} → ℕ → Turn C → Type 0
IsAskWithin limit (T.Ask bytes mark) = (1 ≤ bytes) × (mark ≤ limit)
IsAskWithin limit _ = ⊤

-- whether the capture's end was loaded
abbrev pub is_closing : Job → Bool
is_closing J.Nothing = false
is_closing (J.Takes packet) = false
is_closing (J.Closes at) = true

-- how many events are unanswered
abbrev pub unanswered_of : {D : Type 0} → Desk D → ℕ
unanswered_of desk = length desk.unanswered.items

-- Full comes only while an event is unanswered; ready only before the capture's end; over only behind it, with each event
-- answered.
abbrev pub IsDone : {C : Type 0} → (closing : Bool) → (unanswered : ℕ) → Turn C → Type 0
IsDone closing unanswered T.Full = 1 ≤ unanswered
IsDone closing unanswered T.Ready = closing ≡ false
IsDone closing unanswered T.Over = (closing ≡ true) × (unanswered ≡ 0)
IsDone closing unanswered _ = ⊤

abbrev pub OfTurn : {C : Type 0} → (Turn C → Type 0) → Option (Turn C) → Type 0
OfTurn P None = ⊤
OfTurn P (Some turn) = P turn

-- a step: how far the entry under way is fits the turn, and what waits grows by an event that is handed over
pub record Fits {C D : Type 0} (paid : C → Charge) (limit : ℕ) (old new : Desk D) (stage : Stage C D) (turn : Option (Turn C)) : Type 0 where
  pub pause : pause_at stage ≡ pause_for paid turn
  pub rests : is_rest_at stage ≡ is_rest_for turn
  pub within : OfTurn (IsAskWithin limit) turn
  pub done : OfTurn (IsDone (is_closing new.job) (unanswered_of new)) turn
  pub closing : is_closing new.job ≡ is_closing old.job
  pub unanswered : unanswered_of new ≡ unanswered_of old + events_by turn

-- a step that found no memory: what waits is what waited
pub record IsLeft {D : Type 0} (old new : Desk D) : Type 0 where
  pub closing : is_closing new.job ≡ is_closing old.job
  pub unanswered : unanswered_of new ≡ unanswered_of old
