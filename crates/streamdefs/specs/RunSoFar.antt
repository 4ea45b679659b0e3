-- A run at a moment: the books of all cores with their entries under way, the answers that no core has taken back yet, and the
-- workers' lists with what the workers have in hand. When it is lawful so far.
use Rattle.std.specs.Prelude.{◌≡◌, ⊤, ℕ, ◌%◌, ◌≤◌, ◌⊎◌, true, cond, ◌==◌, nat_lt, List, [], ◌++◌, length, map, take, flat_map, Option, Some, None, slice_get}
use Rattle.std.specs.Option.{option_to_list}
use Rattle.std.specs.List.{list_all}
use Rattle.prio_budget.specs.declared.free.Free.{Free}
use Rattle.histbook.specs.Budget.{IsSettled}
use Rattle.streamdefs.specs.Lists.{how_many, Each, EachNumbered, IsPrefixOf}
use Rattle.streamdefs.specs.Reorder.{Charge}
use Rattle.streamdefs.specs.Packet.{Packet}
use Rattle.streamdefs.specs.Terms.{Terms}
use Rattle.streamdefs.specs.Convo.{Event, kept_of, charges_of, events_in}
use Rattle.streamdefs.specs.Convo.Event.{New, Chunk, Ended}
use Rattle.streamdefs.specs.Core.{Line, Told, idle_core, found_by, core_at}
use Rattle.streamdefs.specs.Lawful.{Handler, CoreRun, Run, Lawful, AllEnded, segs_in, handler_at}
use Rattle.streamdefs.specs.Order.{AreAboveCharges, Rise, FreesInOrder, AreAllAbove, OneHistory, all_moves, frees_of_answers, along_served}
use Rattle.streamdefs.specs.SoFar.{EachSoFar, LawfulSoFar, HistorySoFar}

-- A core at a moment: the packets offered to it, its complete entries, the entry under way, of whose events so many were
-- handed over, and of each answer that it has not taken back the frees that the worker did.
pub record CoreSoFar : Type 0 where
  pub packets : List Packet
  pub lines : List Line
  pub under : Option Line
  pub given : ℕ
  pub answers : List (List Free)

-- an event in a worker's hand: its core, and the frees done for it
pub record InHand : Type 0 where
  pub core : ℕ
  pub frees : List Free

-- a worker at a moment
pub record WorkerSoFar : Type 0 where
  pub served : List ℕ
  pub hand : Option InHand

pub record RunSoFar : Type 0 where
  pub terms : Terms
  pub last : ℕ
  pub handlers : List Handler
  pub cores : List CoreSoFar
  pub workers : List WorkerSoFar

-- a core's part, with its complete entries
abbrev pub part_of : RunSoFar → ℕ → CoreSoFar → CoreRun
part_of r core c = record {
  terms = r.terms;
  last = r.last;
  packets = c.packets;
  handler = handler_at r.handlers (core % length r.handlers);
  lines = c.lines;
}

-- its entries, the one under way among them
abbrev pub entries : CoreSoFar → List Line
entries c = c.lines ++ option_to_list c.under

-- the frees of the workers for it, one list for each answer: those in its book, and those that it has not taken back
abbrev pub answers_of : CoreSoFar → List (List Free)
answers_of c = frees_of_answers (entries c) ++ c.answers

-- the frees done for an event in hand
abbrev pub frees_in_hand : WorkerSoFar → List Free
frees_in_hand w = flat_map (λ h. h.frees) (option_to_list w.hand)

-- the frees that no entry has yet
abbrev pub frees_outside : RunSoFar → List Free
frees_outside r = flat_map (λ c. flat_map (λ frees. frees) c.answers) r.cores ++ flat_map frees_in_hand r.workers

-- the events that were handed over: those of the complete entries, and the first of the entry under way
abbrev pub told_so_far : Terms → CoreSoFar → List Told
told_so_far terms c = (core_at terms idle_core c.lines).events ++ flat_map (λ line. take c.given (told line)) (option_to_list c.under)
  where
    told : Line → List Told
    told line = map (λ event. record { conv = line.conv; event = event }) (events_in terms (found_by (core_at terms idle_core c.lines) line) line.act)

-- the charges that a worker gives back for an event that isn't kept: those that rode with a delivery, then its own
abbrev pub charges_due : Event → List Charge
charges_due (Chunk d) = charges_of (kept_of d)
charges_due New = []
charges_due (Ended reason) = []

-- frees that a worker does for an event: the first of its charges, in order, each above its charge
abbrev pub AreFreesFor : Option Told → List Free → Type 0
AreFreesFor None frees = ⊥
AreFreesFor (Some told) frees =
    IsPrefixOf (map (λ free. free.bytes) frees) (map (λ charge. charge.bytes) (charges_due told.event)) × AreAboveCharges (charges_due told.event) frees

-- those of an answer: of all its charges, or of none where it keeps them
abbrev pub AreAllFreesFor : Option Told → List Free → Type 0
AreAllFreesFor told frees = AreFreesFor told frees × ((frees ≡ []) ⊎ AreAll told)
  where
    AreAll : Option Told → Type 0
    AreAll None = ⊥
    AreAll (Some told) = length frees ≡ length (charges_due told.event)

-- the answers that a core has not taken back are to its next events, in order
abbrev pub AnswersSoFar : Terms → CoreSoFar → Type 0
AnswersSoFar terms c = EachNumbered (λ n frees. AreAllFreesFor (slice_get (told_so_far terms c) n) frees) (length (frees_of_answers (entries c))) c.answers

-- an event in hand is the next one of a core of that worker
abbrev pub HandSoFar : RunSoFar → ℕ → WorkerSoFar → Type 0
HandSoFar r worker w = of_hand w.hand
  where
    of_core : InHand → Option CoreSoFar → Type 0
    of_core h None = ⊥
    of_core h (Some c) = AreFreesFor (slice_get (told_so_far r.terms c) (length (answers_of c))) h.frees

    of_hand : Option InHand → Type 0
    of_hand None = ⊤
    of_hand (Some h) = (h.core % length r.handlers ≡ worker) × of_core h (slice_get r.cores h.core)

-- how often a worker has served a core: once for each answer so far
abbrev pub times_answered : RunSoFar → ℕ → ℕ → CoreSoFar → ℕ
times_answered r worker core c = cond (core % length r.handlers == worker) (length (answers_of c)) 0

-- the workers' lists so far: a list has each of its worker's cores as often as that core has answers, and nothing else
abbrev pub ServedSoFar : RunSoFar → Type 0
ServedSoFar r =
    EachNumbered (λ worker w.
    EachNumbered (λ core c. how_many (λ k. k == core) w.served ≡ times_answered r worker core c) 0 r.cores
    × (list_all (λ k. nat_lt k (length r.cores)) w.served ≡ true)) 0 r.workers
    × (length r.workers ≡ length r.handlers)

-- the frees of each entry rise, each above its charge, also those of the entry under way
abbrev pub FreesRiseSoFar : CoreRun → Option Line → Type 0
FreesRiseSoFar run under = EachSoFar run under (FreesInOrder run.terms) (FreesInOrder run.terms)

-- a look of a core is above what its earlier entries granted and freed, also one of the entry under way
abbrev pub LooksRiseSoFar : CoreSoFar → Type 0
LooksRiseSoFar c = AreAllAbove [] (entries c)

-- a worker's frees rise along its list, and those in its hand are above them
abbrev pub WorkersRiseSoFar : RunSoFar → Type 0
WorkersRiseSoFar r = Each (λ w. Rise (along_served (map answers_of r.cores) [] w.served ++ frees_in_hand w)) r.workers

-- no Time is later than the last clock
abbrev pub TimesSoFar : RunSoFar → Type 0
TimesSoFar r = Each (λ c. (core_at r.terms idle_core (entries c)).timed ≤ r.last) r.cores

-- a run that is lawful so far: its books and lists, its budget history, and the order in the actors
pub record LawfulRunSoFar (r : RunSoFar) : Type 0 where
  pub books : EachNumbered (λ core c. LawfulSoFar (part_of r core c) c.under) 0 r.cores
  pub times : TimesSoFar r
  pub answers : Each (AnswersSoFar r.terms) r.cores
  pub hands : EachNumbered (HandSoFar r) 0 r.workers
  pub served : ServedSoFar r
  pub history : HistorySoFar r.terms.marks.limit (flat_map entries r.cores) (frees_outside r)
  pub frees : EachNumbered (λ core c. FreesRiseSoFar (part_of r core c) c.under) 0 r.cores
  pub looks : Each LooksRiseSoFar r.cores
  pub workers : WorkersRiseSoFar r

-- the run that a moment has come to: what was offered, the complete entries, and the workers' lists
abbrev pub run_of : RunSoFar → Run
run_of r = record {
  terms = r.terms;
  last = r.last;
  arrivals = map (λ c. c.packets) r.cores;
  books = map (λ c. c.lines) r.cores;
  served = map (λ w. w.served) r.workers;
  handlers = r.handlers;
}

-- A core that has nothing left to do: no entry is under way, no answer waits, each packet has its entry, each conversation has
-- ended, and each event is answered.
pub record IsDone (r : RunSoFar) (c : CoreSoFar) : Type 0 where
  pub under : c.under ≡ None
  pub waiting : c.answers ≡ []
  pub segs : segs_in c.lines ≡ map (λ p. (p, p.now)) c.packets
  pub ends : AllEnded (core_at r.terms idle_core c.lines)
  pub answered : (core_at r.terms idle_core c.lines).answered ≡ length (core_at r.terms idle_core c.lines).events

-- nothing is missing: all cores are done, no worker has an event in hand, and all that was granted was freed
pub record IsWhole (r : RunSoFar) : Type 0 where
  pub cores : Each (IsDone r) r.cores
  pub hands : Each (λ w. w.hand ≡ None) r.workers
  pub settled : IsSettled (all_moves (run_of r))

-- what is lawful so far, with nothing missing, is lawful
abbrev pub WholeIsLawful : Type 0
WholeIsLawful = (r : RunSoFar) → LawfulRunSoFar r → IsWhole r → Lawful (run_of r) × OneHistory (run_of r)
