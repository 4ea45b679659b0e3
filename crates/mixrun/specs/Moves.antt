-- The moves of a core and of a worker: what each changes of what its actor has, and of the budget.
use Rattle.std.specs.Prelude.{◌≡◌, ℕ, suc, ◌+◌, ◌-◌, ◌^◌, ◌<◌, ◌≤◌, cond, nat_le, List, [], ◌∷◌, ◌++◌, length, drop, Option, Some, None, slice_get}
use Rattle.prio_budget.specs.declared.free.Free.{Free}
use Rattle.prio_budget.specs.declared.look.Look.{Look}
use Rattle.histbook.specs.Budget.{BudgetMove}
use Rattle.histbook.specs.Budget as budget
use Rattle.histbook.specs.Moves.{grant_of}
use Rattle.evring.specs.declared.advice.Advice.{Advice}
use Rattle.histbook.specs.declared.look_entry.LookEntry.{LookEntry}
use Rattle.streamdefs.specs.Terms.{Terms}
use Rattle.streamdefs.specs.Reorder.{Charge}
use Rattle.streamdefs.specs.Convo.{Event, charges_of, kept_of, seen_of}
use Rattle.streamdefs.specs.Convo.Act.{Answer}
use Rattle.streamdefs.specs.Convo.Event.{Chunk}
use Rattle.streamdefs.specs.Core.{Line, Core, found_by}
use Rattle.streamdefs.specs.Lawful.{Handler}
use Rattle.streamdefs.specs.Want.Want.{Reserve, Release, Emit}
use Rattle.coretable.specs.Course.{Course, Under, core_of, Stop, looked, freed, emitted, begun, loaded, closing}
use Rattle.coretable.specs.Course.Stop.{Wants, Rests}
use Rattle.mixrun.specs.Moment.{Input, Given, Reply, AtCore, InHand, Pair}
use Rattle.mixrun.specs.Moment.Input.{Brings, Ends}

-- The budget

-- the look of an ask, up to a mark
abbrev pub look_at : Pair → (bytes mark : ℕ) → LookEntry
look_at p bytes mark = record { asked = bytes; granted = nat_le (p.used + bytes) mark; look = record { stamp = p.stamp; found = p.used } }

-- the free of a charge
abbrev pub free_at : Pair → Charge → Free
free_at p charge = record { stamp = p.stamp; bytes = charge.bytes }

-- the pair behind a look, and behind a free
abbrev pub behind_look : Pair → LookEntry → Pair
behind_look p look = cond look.granted (record { stamp = suc p.stamp; used = p.used + look.asked }) p

abbrev pub behind_free : Pair → Free → Pair
behind_free p free = record { stamp = suc p.stamp; used = p.used - free.bytes }

-- A core

-- an input is loaded, an ask has its look, a charge is given back, an event is given, an answer is taken back
pub data CoreMove : Type 0 where
  Loads : Input → CoreMove
  Asks : LookEntry → CoreMove
  Frees : Free → CoreMove
  Emits : Given → CoreMove
  TakesBack : Reply → CoreMove

-- something done to the entry under way
abbrev pub under_way : (Course → Under → Course) → Course → Course
under_way f m = by m.under
  where
    by : Option Under → Course
    by None = m
    by (Some u) = f m u

-- an input loaded
abbrev pub with_input : Course → Input → Course
with_input m (Brings p) = loaded m p
with_input m (Ends at) = closing m at

-- the entry of an answer, which has the number of the core's next event
abbrev pub answer_line : Core → Reply → Line
answer_line core r = record { conv = r.given.conv; act = Answer (suc core.answered) r.advice r.frees }

-- what the core has behind a move
abbrev pub moved : Terms → CoreMove → AtCore → AtCore
moved terms (Loads input) a = record a { inputs = drop 1 a.inputs; course = with_input a.course input }
moved terms (Asks look) a = record a { course = under_way (λ m u. looked m u look) a.course }
moved terms (Frees free) a = record a { course = under_way (λ m u. freed m u free) a.course }
moved terms (Emits given) a = record a { course = under_way emitted a.course; events = a.events ++ given ∷ [] }
moved terms (TakesBack r) a = record a { course = begun a.course (answer_line (core_of terms a.course) r); answers = drop 1 a.answers }

-- the budget behind a move
abbrev pub pair_behind : CoreMove → Pair → Pair
pair_behind (Asks look) p = behind_look p look
pair_behind (Frees free) p = behind_free p free
pair_behind _ p = p

-- the moves of the budget that a move makes, and its looks
abbrev pub budget_moves : CoreMove → List BudgetMove
budget_moves (Asks look) = grant_of look
budget_moves (Frees free) = budget.Release free ∷ []
budget_moves _ = []

abbrev pub budget_looks : CoreMove → List Look
budget_looks (Asks look) = look.look ∷ []
budget_looks _ = []

-- the first of some
abbrev pub IsFirst : {X : Type 0} → X → List X → Type 0
IsFirst x xs = slice_get xs 0 ≡ Some x

-- an event of the entry under way, with what is seen of it
abbrev pub given_of : Terms → Course → Under → Event → Given
given_of terms m u event = record { conv = u.line.conv; event = event; seen = seen_of (found_by (core_of terms m) u.line).first event }

-- the event that is given is that of the entry under way
abbrev pub IsGivenBy : Terms → Course → Given → Event → Type 0
IsGivenBy terms m given event = by m.under
  where
    by : Option Under → Type 0
    by None = ⊥
    by (Some u) = given ≡ given_of terms m u event

-- A move is what the core stopped for: an input, where it rests; else what the entry under way wants, a look by the present pair
-- while its stamp is below 2^31, a free of an earlier charge that has no more bytes than are used, or an event.
abbrev pub Serves : Terms → Pair → AtCore → CoreMove → Stop → Type 0
Serves terms p a (Loads input) Rests = IsFirst input a.inputs
Serves terms p a (Asks look) (Wants (Reserve ask mark)) = (look ≡ look_at p ask.bytes mark) × (p.stamp < 2 ^ 31)
Serves terms p a (Frees free) (Wants (Release charge)) = (free ≡ free_at p charge) × (charge.bytes ≤ p.used) × (charge.stamp < p.stamp)
Serves terms p a (Emits given) (Wants (Emit event)) = IsGivenBy terms a.course given event
Serves terms p a _ _ = ⊥

-- A worker

-- the advice to the event in hand: that which was stated, else that which the handler states now
abbrev pub advice_of : Handler → InHand → Advice
advice_of handler h = stated h.advice
  where
    stated : Option Advice → Advice
    stated (Some advice) = advice
    stated None = handler h.given.conv h.given.seen

-- the charges that the worker gives back: those of a delivery that isn't kept
abbrev pub owed_for : Event → Advice → List Charge
owed_for (Chunk d) advice = cond advice.keep [] (charges_of (kept_of d))
owed_for _ advice = []

-- the next one of them
abbrev pub next_owed : Handler → InHand → Option Charge
next_owed handler h = slice_get (owed_for h.given.event (advice_of handler h)) (length h.frees)

-- the answer, where none is owed any more
abbrev pub reply_of : Handler → InHand → Reply
reply_of handler h = record { given = h.given; advice = advice_of handler h; frees = h.frees }

-- the hand with the advice, and with one free more
abbrev pub given_back : Handler → Free → InHand → InHand
given_back handler free h = record h { advice = Some (advice_of handler h); frees = h.frees ++ free ∷ [] }

-- an event as it comes into the hand
abbrev pub taken : ℕ → Given → InHand
taken core given = record { core = core; given = given; advice = None; frees = [] }
