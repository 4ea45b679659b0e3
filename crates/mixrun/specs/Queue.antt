-- The events of each core wait in one order: those whose answers come back, that in a worker's hand, those given.
use Rattle.std.specs.Prelude.{◌≡◌, ⊤, ℕ, ◌+◌, ◌%◌, ◌≤◌, ◌⊎◌, ◌==◌, cond, List, [], ◌∷◌, ◌++◌, length, take, drop, map, Option, Some, None, slice_get}
use Rattle.evring.specs.declared.advice.Advice.{Advice}
use Rattle.prio_budget.specs.declared.free.Free.{Free}
use Rattle.streamdefs.specs.Reorder.{Charge}
use Rattle.streamdefs.specs.Terms.{Terms}
use Rattle.streamdefs.specs.Direction.Next.{Rests}
use Rattle.streamdefs.specs.Convo.{Convo, events_in, seen_of}
use Rattle.streamdefs.specs.Want.{next_move}
use Rattle.streamdefs.specs.Core.{Core, Told, Open, found_by, find_convo, put_convo, is_answer}
use Rattle.streamdefs.specs.Lawful.{Handler, handler_at}
use Rattle.streamdefs.specs.Lists.{Each}
use Rattle.coretable.specs.Course.{Course, Under, core_of}
use Rattle.mixrun.specs.Moment.{Setup, Given, Reply, AtCore, InHand, AtWorker, Moment}
use Rattle.mixrun.specs.Moves.{answer_line, owed_for}

-- A core

-- an event, as the core has it
abbrev pub told_of : Given → Told
told_of g = record { conv = g.conv; event = g.event }

-- the events of the entry under way that were given
abbrev pub told_under : Terms → Core → Option Under → List Told
told_under t core None = []
told_under t core (Some u) = map (λ event. record { conv = u.line.conv; event = event }) (take u.emitted (events_in t (found_by core u.line) u.line.act))

-- all events of a core that were given
abbrev pub told_by : Terms → Course → List Told
told_by t m = (core_of t m).events ++ told_under t (core_of t m) m.under

-- how many of them have an answer in the book, that under way among them
abbrev pub answers_under : Option Under → ℕ
answers_under None = 0
answers_under (Some u) = cond (is_answer u.line.act) 1 0

abbrev pub answered_by : Terms → Course → ℕ
answered_by t m = (core_of t m).answered + answers_under m.under

-- its conversations, that of the entry under way among them
abbrev pub convos_with : Core → Option Under → List Open
convos_with core None = core.convos
convos_with core (Some u) = put_convo u.line.conv (found_by core u.line) core.convos

-- what is seen of an event is what its conversation shows
abbrev pub IsSeen : List Open → Given → Type 0
IsSeen os g = (c : Convo) × (find_convo g.conv os ≡ Some c) × (g.seen ≡ seen_of c.first g.event)

-- events are given once the entry has all its looks and frees
abbrev pub IsEmitting : Terms → Course → Type 0
IsEmitting t m = by m.under
  where
    by : Option Under → Type 0
    by None = ⊤
    by (Some u) = (u.emitted ≡ 0) ⊎ (next_move t (found_by (core_of t m) u.line) u.line.act ≡ Rests)

-- a core's events that have no answer in the book are these
pub record Waits (t : Terms) (m : Course) (waiting : List Given) : Type 0 where
  pub within : answered_by t m ≤ length (told_by t m)
  pub queue : drop (answered_by t m) (told_by t m) ≡ map told_of waiting
  pub seen : Each (IsSeen (convos_with (core_of t m) m.under)) waiting
  pub emitting : IsEmitting t m

-- A worker

-- the bytes of frees, and of charges
abbrev pub free_bytes : List Free → List ℕ
free_bytes frees = map (λ f. f.bytes) frees

abbrev pub charge_bytes : List Charge → List ℕ
charge_bytes charges = map (λ c. c.bytes) charges

-- advice that was stated is the handler's
abbrev pub IsAdvice : Handler → Given → Option Advice → Type 0
IsAdvice handler g None = ⊤
IsAdvice handler g (Some advice) = advice ≡ handler g.conv g.seen

-- the event in hand is of one of the worker's cores; the advice is the handler's; the frees are the first of those that it makes due, and none
-- comes before the advice
pub record IsHand (s : Setup) (w : ℕ) (h : InHand) : Type 0 where
  pub own : h.core % length s.handlers ≡ w
  pub advice : IsAdvice (handler_at s.handlers w) h.given h.advice
  pub frees : free_bytes h.frees ≡ take (length h.frees) (charge_bytes (owed_for h.given.event (handler_at s.handlers w h.given.conv h.given.seen)))

-- an answer has the handler's advice, and the frees that it makes due
pub record IsReply (handler : Handler) (r : Reply) : Type 0 where
  pub advice : r.advice ≡ handler r.given.conv r.given.seen
  pub frees : free_bytes r.frees ≡ charge_bytes (owed_for r.given.event r.advice)

-- An answer is the next that a course may take: no entry is under way, and it is to the first event that is unanswered, with what
-- the handler advises of it, and with the frees that this makes due.
pub record IsNext (t : Terms) (handler : Handler) (m : Course) (reply : Reply) : Type 0 where
  pub at_rest : m.under ≡ None
  pub event : slice_get (core_of t m).events (core_of t m).answered ≡ Some (record { conv = reply.given.conv; event = reply.given.event })
  pub advice : reply.advice ≡ handler reply.given.conv (seen_of (found_by (core_of t m) (answer_line (core_of t m) reply)).first reply.given.event)
  pub frees : free_bytes reply.frees ≡ charge_bytes (owed_for reply.given.event reply.advice)

-- A moment

-- the event of a core that its worker has in hand
abbrev pub in_hand : ℕ → Option AtWorker → List Given
in_hand c None = []
in_hand c (Some x) = by x.hand
  where
    by : Option InHand → List Given
    by None = []
    by (Some h) = cond (h.core == c) (h.given ∷ []) []

-- the events of a core that wait, in their order
abbrev pub waiting : Setup → ℕ → Moment → AtCore → List Given
waiting s c m a = map (λ r. r.given) a.answers ++ in_hand c (slice_get m.workers (c % length s.handlers)) ++ a.events

-- each core's events wait in order, and hands and answers are in order
pub record InOrder (s : Setup) (m : Moment) : Type 0 where
  pub waits : (c : ℕ) (a : AtCore) → slice_get m.cores c ≡ Some a → Waits s.terms a.course (waiting s c m a)
  pub replies : (c : ℕ) (a : AtCore) → slice_get m.cores c ≡ Some a → Each (IsReply (handler_at s.handlers (c % length s.handlers))) a.answers
  pub hands : (w : ℕ) (x : AtWorker) (h : InHand) → slice_get m.workers w ≡ Some x → x.hand ≡ Some h → IsHand s w h
