-- What a worker has in hand, what is due for it, and what it says next.
use Rattle.std.specs.Prelude.{◌≡◌, ◌<◌, ⊤, ℕ, Bool, true, false, cond, List, [], ◌∷◌, ◌++◌, map, length, Option, Some, None, option_map, slice_get, unwrap_or}
use Rattle.prio_budget.specs.declared.free.Free.{Free}
use Rattle.chunkpart.specs.ChunkParts.{ChunkParts}
use Rattle.evring.specs.declared.advice.Advice.{Advice}
use Rattle.evring.specs.declared.answer.Answer.{Answer}
use Rattle.evring.specs.declared.event.Event.{Event}
use Rattle.evring.specs.declared.event.Event.TheVariants.{Chunk}
use Rattle.evring.specs.Charges.{charges_in, charges_back}
use Rattle.streamdefs.specs.Handler.{event_line}
use Rattle.streamdefs.specs.Lawful.{Handler}
use Rattle.handler.specs.Seen.{conv_of, seen_in}
use Rattle.workrun.specs.declared.work_turn.WorkTurn.{WorkTurn}
use Rattle.workrun.specs.declared.work_turn.WorkTurn.TheVariants as turns
use Rattle.workrun.specs.Pause.{Pause}
use Rattle.workrun.specs.Pause.Pause.{Still, Freeing}

-- the event in hand, with its core; the advice, once the handler stated it and the line was written; and the releases done for it
pub record Hand (C : Type 0) : Type 0 where
  pub core : ℕ
  pub event : Event C
  pub advice : Option Advice
  pub frees : List Free

-- what a worker has: the event in hand, and the cores of the events that it answered
pub record AtWork (C : Type 0) : Type 0 where
  pub hand : Option (Hand C)
  pub served : List ℕ

-- what a handler states of an event
abbrev pub stated_of : {C : Type 0} → Handler → Event C → Advice
stated_of handler e = handler (conv_of e) (seen_in e)

-- an event as it comes into the hand
abbrev pub taken : {C : Type 0} → ℕ → Event C → Hand C
taken core event = record { core = core; event = event; advice = None; frees = [] }

-- the charges that the worker gives back: those of an event whose chunks aren't kept
abbrev pub owed_for : {C : Type 0} → Advice → Event C → List C
owed_for advice e = cond advice.keep [] (charges_in e)

-- the chunks that come back: those that rode with a chunk that is kept, then it
abbrev pub kept_for : {C : Type 0} → Advice → Event C → List (ChunkParts C)
kept_for advice (Chunk conv way key kept chunk) = cond advice.keep (kept ++ chunk ∷ []) []
kept_for advice _ = []

-- the advice to the event in hand: that which was stated, else that which the handler states now
abbrev pub advice_of : {C : Type 0} → Handler → Hand C → Advice
advice_of handler h = unwrap_or h.advice (stated_of handler h.event)

-- the next charge that is owed for it
abbrev pub next_owed : {C : Type 0} → Handler → Hand C → Option C
next_owed handler h = slice_get (owed_for (advice_of handler h) h.event) (length h.frees)

-- An answer is right for an event: it has the advice that the handler states; the kept chunks are those that rode with it
-- and its own, where the advice keeps, else none; and the releases are those of its charges, where it doesn't keep.
pub record IsRight {C : Type 0} (amount : C → ℕ) (handler : Handler) (e : Event C) (a : Answer C) : Type 0 where
  pub advice : a.advice ≡ stated_of handler e
  pub kept : a.kept ≡ kept_for a.advice e
  pub frees : map (λ free. free.bytes) a.frees ≡ map amount (owed_for a.advice e)

-- An answer is the one to the event in hand: no charge is owed any more, it goes to the event's core, it is right and has the
-- releases that were done, and isn't one of drain mode.
pub record IsAnswer {C : Type 0} (amount : C → ℕ) (handler : Handler) (h : Hand C) (core : ℕ) (a : Answer C) : Type 0 where
  pub done : next_owed handler h ≡ None
  pub core_is : core ≡ h.core
  pub right : IsRight amount handler h.event a
  pub frees : a.frees ≡ h.frees
  pub drained : a.drained ≡ false

-- A turn is what is to be done for the event in hand: the next charge that is owed, or the answer where none is; nothing, where
-- there is no event.
abbrev pub IsWork : {C : Type 0} → (C → ℕ) → Handler → Option (Hand C) → WorkTurn C → Type 0
IsWork amount handler (Some h) (turns.Free charge) = next_owed handler h ≡ Some charge
IsWork amount handler (Some h) (turns.Answer core answer) = IsAnswer amount handler h core answer
IsWork amount handler None turns.Ready = ⊤
IsWork amount handler _ _ = ⊥

-- the event in hand, with its advice
abbrev pub with_advice : {C : Type 0} → Handler → Hand C → Hand C
with_advice handler h = record h { advice = Some (advice_of handler h) }

-- the event in hand, with one release more
abbrev pub with_free : {C : Type 0} → Free → Hand C → Hand C
with_free free h = record h { frees = h.frees ++ free ∷ [] }

-- the event in hand behind a turn: with its advice, and none behind the answer
abbrev pub hand_behind : {C : Type 0} → Handler → Option (Hand C) → WorkTurn C → Option (Hand C)
hand_behind handler hand (turns.Free charge) = option_map (with_advice handler) hand
hand_behind handler hand (turns.Answer core answer) = None
hand_behind handler hand turns.Ready = hand

-- the cores of the events that were answered, behind a turn
abbrev pub served_behind : {C : Type 0} → List ℕ → WorkTurn C → List ℕ
served_behind served (turns.Answer core answer) = served ++ core ∷ []
served_behind served _ = served

-- what a worker has behind a turn
abbrev pub behind : {C : Type 0} → Handler → AtWork C → WorkTurn C → AtWork C
behind handler x turn = record { hand = hand_behind handler x.hand turn; served = served_behind x.served turn }

-- a line, unless it was written
abbrev pub unless_told : Option Advice → List ℕ → List ℕ
unless_told None line = line
unless_told (Some advice) line = []

-- the line of the event in hand, unless it was written
abbrev pub line_due : {C : Type 0} → Option (Hand C) → List ℕ
line_due None = []
line_due (Some h) = unless_told h.advice (event_line (conv_of h.event) (seen_in h.event))

-- what a worker has where a charge that was out is released
abbrev pub freed : {C : Type 0} → Free → AtWork C → AtWork C
freed free x = record x { hand = option_map (with_free free) x.hand }

-- In every mode

-- the charges that a turn gives out: the one that is to be released, or those of the answer
abbrev pub charges_out : {C : Type 0} → WorkTurn C → List C
charges_out (turns.Free charge) = charge ∷ []
charges_out (turns.Answer core answer) = charges_back answer
charges_out turns.Ready = []

-- what a turn waits for
abbrev pub pause_of : {C : Type 0} → (amount stamp : C → ℕ) → WorkTurn C → Pause
pause_of amount stamp (turns.Free charge) = Freeing (amount charge) (stamp charge)
pause_of amount stamp _ = Still

-- a core's event is in hand behind a turn: the same as before, and none behind an answer
abbrev pub core_behind : {C : Type 0} → Option ℕ → WorkTurn C → Option ℕ
core_behind core (turns.Answer of_core answer) = None
core_behind core _ = core

-- the releases done for the event in hand, behind a turn
abbrev pub frees_behind : {C : Type 0} → List Free → WorkTurn C → List Free
frees_behind frees (turns.Answer core answer) = []
frees_behind frees _ = frees

-- charges go out for the event in hand behind a turn that gives one out
abbrev pub begun_behind : {C : Type 0} → WorkTurn C → Bool
begun_behind (turns.Free charge) = true
begun_behind _ = false

-- a turn for an event leaves less to do for it
abbrev pub Lowers : {C : Type 0} → (old new : ℕ) → WorkTurn C → Type 0
Lowers old new turns.Ready = new ≡ old
Lowers old new _ = new < old
