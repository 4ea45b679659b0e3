-- The charges of what a table keeps, summed by a weight.
use Rattle.std.specs.Prelude.{ℕ, ◌+◌, List, [], ◌∷◌, Option, Some, None, Result, Ok, Err}
use Rattle.flowdir.specs.Boundary.{weight_of, weight_of_chunk}
use Rattle.convo.specs.declared.talk.Convo.{Convo}
use Rattle.convo.specs.Standing.{weight_of_convo}
use Rattle.convo.specs.Weights.{weight_of_chunks, weight_of_event}
use Rattle.coretable.specs.Held.{weight_of_some}
use Rattle.coretable.specs.declared.slot.Slot.{Slot}
use Rattle.coretable.specs.declared.active.Active.{Active}
use Rattle.coretable.specs.declared.desk.Desk.{Desk}
use Rattle.coretable.specs.declared.stage.Stage.{Stage}
use Rattle.coretable.specs.declared.stage.Stage.TheVariants as S
use Rattle.coretable.specs.declared.turn.Turn.{Turn}
use Rattle.coretable.specs.declared.turn.Turn.TheVariants as T
use Rattle.coretable.specs.declared.hand.Hand.{Hand}

-- the sizes of what slots keep, where it is there
abbrev pub size_of : {T : Type 0} → (T → ℕ) → Option T → ℕ
size_of size None = 0
size_of size (Some talk) = size talk

abbrev pub size_of_slots : {T : Type 0} → (T → ℕ) → List (Slot T) → ℕ
size_of_slots size [] = 0
size_of_slots size (slot ∷ slots) = size_of size slot.talk + size_of_slots size slots

-- of a conversation, where it is there
abbrev pub weight_of_talk : {C : Type 0} → (C → ℕ) → Option (Convo C) → ℕ
weight_of_talk w talk = size_of (weight_of_convo w) talk

abbrev pub weight_of_slots : {C : Type 0} → (C → ℕ) → List (Slot (Convo C)) → ℕ
weight_of_slots w slots = size_of_slots (weight_of_convo w) slots

-- of all that is kept beside the entry under way
abbrev pub weight_of_desk : {C : Type 0} → (C → ℕ) → Desk (Convo C) → ℕ
weight_of_desk w desk = weight_of_slots w desk.slots.items

-- of the entry under way
abbrev pub weight_of_active : {C : Type 0} → (C → ℕ) → Active (Convo C) → ℕ
weight_of_active w active = weight_of_convo w active.talk

abbrev pub weight_of_stage : {C : Type 0} → (C → ℕ) → Stage C (Convo C) → ℕ
weight_of_stage w S.Rests = 0
weight_of_stage w (S.Returned active of advice kept) = weight_of_active w active + weight_of_chunks w kept
weight_of_stage w (S.Asked active bytes mark) = weight_of_active w active
weight_of_stage w (S.Again active bytes mark) = weight_of_active w active
weight_of_stage w (S.Told active look granted) = weight_of_active w active + weight_of w granted
weight_of_stage w (S.Freeing active bytes stamp) = weight_of_active w active
weight_of_stage w (S.Freed active free) = weight_of_active w active
weight_of_stage w (S.Emitted active) = weight_of_active w active

-- what a turn gives out
abbrev pub weight_of_turn : {C : Type 0} → (C → ℕ) → Turn C → ℕ
weight_of_turn w (T.Ask bytes mark) = 0
weight_of_turn w (T.Free charge) = w charge
weight_of_turn w (T.Emit event) = weight_of_event w event
weight_of_turn w T.Full = 0
weight_of_turn w T.Ready = 0
weight_of_turn w T.Over = 0

abbrev pub weight_of_next : {C : Type 0} → (C → ℕ) → Option (Turn C) → ℕ
weight_of_next w None = 0
weight_of_next w (Some turn) = weight_of_turn w turn

-- what is in hand where a step found no memory
abbrev pub weight_of_hand : {C : Type 0} → (C → ℕ) → Hand C → ℕ
weight_of_hand w hand = weight_of_talk w hand.talk + (weight_of w hand.charge + (weight_of_some w hand.kept + weight_of_chunk w hand.chunk))

-- of what a step comes to
abbrev pub weight_of_step : {C : Type 0} → (C → ℕ) → Result (Stage C (Convo C) × Option (Turn C)) (Hand C) → ℕ
weight_of_step w (Ok step) = weight_of_stage w step.0 + weight_of_next w step.1
weight_of_step w (Err hand) = weight_of_hand w hand

-- of an entry that begins
abbrev pub weight_of_begun : {C : Type 0} → (C → ℕ) → Result (Stage C (Convo C)) (Hand C) → ℕ
weight_of_begun w (Ok stage) = weight_of_stage w stage
weight_of_begun w (Err hand) = weight_of_hand w hand
