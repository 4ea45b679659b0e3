-- The lawful journal, in nine parts.
use Rattle.std.specs.Prelude.{◌≡◌, ⊤, ℕ, suc, ◌+◌, ◌%◌, ◌^◌, ◌<◌, ◌≤◌, Bool, true, false, cond, not, ◌&&◌, ◌==◌, nat_lt, nat_le, List, [], ◌∷◌, length, map, flat_map, Option, Some, None, slice_get}
use Rattle.std.specs.List.{list_all}
use Rattle.evring.specs.Advice.{no_advice}
use Rattle.evring.specs.declared.advice.Advice.{Advice}
use Rattle.evring.specs.declared.reason.Reason.TheVariants.{Reset, Closed, Idle, Replaced, Finish}
use Rattle.histbook.specs.declared.look_entry.LookEntry.{LookEntry}
use Rattle.streamdefs.specs.Lists.{how_many, EachNumbered, or_nothing}
use Rattle.streamdefs.specs.Packet.{Packet, same_key}
use Rattle.streamdefs.specs.Terms.{Terms}
use Rattle.streamdefs.specs.View.{Ask}
use Rattle.streamdefs.specs.Convo.{Act, Convo, Seen, seen_of, asks, released, looks_in, frees_in, mark_for, is_live, has_other_base}
use Rattle.streamdefs.specs.Convo.Act.{Seg, Answer, Time, End}
use Rattle.streamdefs.specs.Core.{Line, Core, Owed, Told, Due, idle_core, find_convo, found_by, conversation_of, dues, first_due, core_at, Along}

-- what a handler states of an event, from the conversation's number and what it sees of the event
abbrev pub Handler : Type 0
Handler = ℕ → Seen → Advice

-- One core's part of a run: the packets accepted for it, its book, the last clock, and the handler of its worker.
pub record CoreRun : Type 0 where
  pub terms : Terms
  pub last : ℕ
  pub packets : List Packet
  pub handler : Handler
  pub lines : List Line

-- a law of each entry of the book, given what the entries before it made of the core
abbrev pub EachEntry : CoreRun → (Core → Line → Type 0) → Type 0
EachEntry run Law = Along run.terms Law idle_core run.lines

-- the core after the whole book
abbrev pub at_end : CoreRun → Core
at_end run = core_at run.terms idle_core run.lines

-- 1. SEGS. The Segs of a core are its accepted packets, in order, each once, with their clocks.

-- the packets of the Segs, with their clocks
abbrev pub segs_in : List Line → List (Packet × ℕ)
segs_in lines = flat_map (λ line. of line.act) lines
  where
    of : Act → List (Packet × ℕ)
    of (Seg p now looks frees) = (p, now) ∷ []
    of _ = []

abbrev pub Segs : CoreRun → Type 0
Segs run = segs_in run.lines ≡ map (λ p. (p, p.now)) run.packets

-- 2. CONVERSATIONS. Each Seg stands under its conversation. One with SYN finds no other base under a live conversation.

-- of one entry
abbrev pub StandsUnder : Terms → Core → Line → Type 0
StandsUnder terms core line = law line.act
  where
    law : Act → Type 0
    law (Seg p now looks frees) =
        (line.conv ≡ conversation_of terms core p now) × ((is_live (found_by core line) && has_other_base (found_by core line) p) ≡ false)
    law _ = ⊤

abbrev pub Conversations : CoreRun → Type 0
Conversations run = EachEntry run (StandsUnder run.terms)

-- 3. DUES. Before a Seg, and before an End of `replaced` or `finish`, nothing of the core is due. Each Time and each End of
-- `idle` is the first due of the core, and is no later than the core's next Seg or the last clock.

-- nothing of the core is due at a moment up to this one
abbrev pub NothingDue : Terms → Core → ℕ → Type 0
NothingDue terms core now = list_all (λ d. nat_lt now d.at) (dues terms core) ≡ true

-- the first due of the core is this
abbrev pub IsFirstDue : Terms → Core → Due → Type 0
IsFirstDue terms core d = first_due (dues terms core) ≡ Some d

-- of one entry; a Seg is no earlier than any Time or End of `idle` before it
abbrev pub IsInTime : Terms → Core → Line → Type 0
IsInTime terms core line = law line.act
  where
    law : Act → Type 0
    law (Seg p now looks frees) = NothingDue terms core now × (core.timed ≤ now)
    law (Time at looks frees) = IsFirstDue terms core (record { at = at; conv = line.conv; idle = false })
    law (End at Idle looks frees) = IsFirstDue terms core (record { at = at; conv = line.conv; idle = true })
    law (End at Replaced looks frees) = NothingDue terms core at
    law (End at Finish looks frees) = NothingDue terms core at
    law _ = ⊤

abbrev pub Dues : CoreRun → Type 0
Dues run = EachEntry run (IsInTime run.terms) × ((at_end run).timed ≤ run.last)

-- 4. ENDS. Each conversation has one End.

-- the End that the last entry made due comes next, and no other of `reset` or `closed`
abbrev pub PaysOwed : Option Owed → Line → Type 0
PaysOwed (Some owed) line = paid line.act
  where
    paid : Act → Type 0
    paid (End at reason looks frees) = (line.conv ≡ owed.conv) × (reason ≡ owed.reason) × (at ≡ owed.at)
    paid (Answer event advice frees) = ⊤
    paid _ = ⊥
PaysOwed None line = free line.act
  where
    free : Act → Type 0
    free (End at Reset looks frees) = ⊥
    free (End at Closed looks frees) = ⊥
    free _ = ⊤

-- a packet that replaces a conversation: with SYN, of its key, where its direction has another base, at the moment of the End
abbrev pub Replaces : Option Convo → ℕ → Act → Type 0
Replaces (Some c) at (Seg p now looks frees) = ((same_key c.first.key p.key && has_other_base c p) ≡ true) × (now ≡ at)
Replaces c at (Answer event advice frees) = ⊤
Replaces c at act = ⊥

-- behind an End of `replaced` comes the packet that replaces the conversation
abbrev pub FollowsReplaced : Core → Option Line → Act → Type 0
FollowsReplaced core None act = ⊤
FollowsReplaced core (Some last) act = behind last.act
  where
    behind : Act → Type 0
    behind (End at Replaced looks frees) = Replaces (find_convo last.conv core.convos) at act
    behind _ = ⊤

-- behind an End of `finish` come no Seg and no such End of a lower number
abbrev pub FinishesInOrder : Option ℕ → ℕ → Act → Type 0
FinishesInOrder (Some last) id (Seg p now looks frees) = ⊥
FinishesInOrder (Some last) id (End at Finish looks frees) = last < id
FinishesInOrder finished id act = ⊤

-- an End is that of a conversation that opened and is live, and one of `finish` comes at the last clock
abbrev pub EndsLive : ℕ → Option Convo → Act → Type 0
EndsLive last (Some c) (End at Finish looks frees) = (is_live c ≡ true) × (at ≡ last)
EndsLive last (Some c) (End at reason looks frees) = is_live c ≡ true
EndsLive last None (End at reason looks frees) = ⊥
EndsLive last c act = ⊤

-- of one entry
abbrev pub EndsOnce : ℕ → Core → Line → Type 0
EndsOnce last core line =
    PaysOwed core.owed line × FollowsReplaced core core.last line.act × FinishesInOrder core.finished line.conv line.act
    × EndsLive last (find_convo line.conv core.convos) line.act

-- each conversation has ended, and no packet of a replaced one is missing
abbrev pub AllEnded : Core → Type 0
AllEnded core = (list_all (λ o. not (is_live o.convo)) core.convos ≡ true) × closed core.last
  where
    closed_by : Act → Type 0
    closed_by (End at Replaced looks frees) = ⊥
    closed_by _ = ⊤

    closed : Option Line → Type 0
    closed (Some last) = closed_by last.act
    closed None = ⊤

abbrev pub Ends : CoreRun → Type 0
Ends run = EachEntry run (EndsOnce run.last) × AllEnded (at_end run)

-- 5. ANSWERS. One for each event, in the order of the core's events, with the advice that the handler states.

-- of one entry: an answer is to the core's next event
abbrev pub IsNextAnswer : Handler → Core → Line → Type 0
IsNextAnswer handler core line = law line.act
  where
    fits : Advice → Option Told → Type 0
    fits advice None = ⊥
    fits advice (Some told) = (told.conv ≡ line.conv) × (advice ≡ handler line.conv (seen_of (found_by core line).first told.event))

    law : Act → Type 0
    law (Answer event advice frees) = (event ≡ suc core.answered) × fits advice (slice_get core.events core.answered)
    law _ = ⊤

abbrev pub Answers : CoreRun → Type 0
Answers run = EachEntry run (IsNextAnswer run.handler) × ((at_end run).answered ≡ length (at_end run).events)

-- 6. WINDOW. Fewer than 256 events are unanswered before each other entry.

-- of one entry, by the number of events that may not be reached
abbrev pub HasRoomFor : ℕ → Core → Line → Type 0
HasRoomFor most core line = law line.act
  where
    law : Act → Type 0
    law (Answer event advice frees) = ⊤
    law _ = length core.events < core.answered + most

-- of one entry
abbrev pub HasRoom : Core → Line → Type 0
HasRoom = HasRoomFor 256

abbrev pub Window : CoreRun → Type 0
Window run = EachEntry run HasRoom

-- 7. LOOKS. One for each ask, in order. It is granted exactly where what it found and its bytes are at most its mark.

-- the look of an ask
abbrev pub IsLookFor : Terms → Convo → LookEntry → Ask → Type 0
IsLookFor terms c look ask =
    (look.asked ≡ ask.bytes) × (look.granted ≡ nat_le (look.look.found + look.asked) (mark_for terms c ask)) × (look.look.stamp < 2 ^ 31)

-- the looks of these asks, one each
abbrev pub AreLooksFor : Terms → Convo → List LookEntry → List Ask → Type 0
AreLooksFor terms c [] [] = ⊤
AreLooksFor terms c [] (ask ∷ rest) = ⊥
AreLooksFor terms c (look ∷ looks) [] = ⊥
AreLooksFor terms c (look ∷ looks) (ask ∷ rest) = IsLookFor terms c look ask × AreLooksFor terms c looks rest

-- of one entry
abbrev pub HasLooks : Terms → Core → Line → Type 0
HasLooks terms core line = AreLooksFor terms (found_by core line) (looks_in line.act) (asks terms (found_by core line) line.act)

abbrev pub Looks : CoreRun → Type 0
Looks run = EachEntry run (HasLooks run.terms)

-- 8. FREES. Byte for byte and in order, the charges that the entry gives back.

-- the bytes of the entry's frees
abbrev pub freed_bytes : Line → List ℕ
freed_bytes line = map (λ free. free.bytes) (frees_in line.act)

-- the bytes of the charges that it gives back
abbrev pub released_bytes : Terms → Core → Line → List ℕ
released_bytes terms core line = map (λ charge. charge.bytes) (released terms (found_by core line) line.act)

-- of one entry
abbrev pub HasFrees : Terms → Core → Line → Type 0
HasFrees terms core line = freed_bytes line ≡ released_bytes terms core line

abbrev pub Frees : CoreRun → Type 0
Frees run = EachEntry run (HasFrees run.terms)

-- a core's book that is lawful: all parts but the workers' lists
pub record LawfulBook (run : CoreRun) : Type 0 where
  pub segs : Segs run
  pub conversations : Conversations run
  pub dues : Dues run
  pub ends : Ends run
  pub answers : Answers run
  pub window : Window run
  pub looks : Looks run
  pub frees : Frees run

-- A run: the accepted packets of each core, the last clock, the cores' books, the workers' lists and their handlers.
pub record Run : Type 0 where
  pub terms : Terms
  pub last : ℕ
  pub arrivals : List (List Packet)
  pub books : List (List Line)
  pub served : List (List ℕ)
  pub handlers : List Handler

-- a worker's handler
abbrev pub handler_at : List Handler → ℕ → Handler
handler_at handlers worker = stated (slice_get handlers worker)
  where
    stated : Option Handler → Handler
    stated None = λ conv event. no_advice
    stated (Some handler) = handler

-- a core's part; its worker is the core's number modulo the number of workers
abbrev pub core_run : Run → ℕ → List Line → CoreRun
core_run run core lines = record {
  terms = run.terms;
  last = run.last;
  packets = or_nothing (slice_get run.arrivals core);
  handler = handler_at run.handlers (core % length run.handlers);
  lines = lines;
}

-- a part, of each core
abbrev pub EachCore : Run → (CoreRun → Type 0) → Type 0
EachCore run Part = EachNumbered (λ core lines. Part (core_run run core lines)) 0 run.books

-- the first part of a run: each core has a book
abbrev pub HasSegs : Run → Type 0
HasSegs run = EachCore run Segs × (length run.books ≡ length run.arrivals)

-- 9. SERVED. A worker's list has each of its cores as often as that core has events, and nothing else.

-- how often a worker serves a core
abbrev pub times_served : Run → ℕ → ℕ → List Line → ℕ
times_served run worker core lines = cond (core % length run.handlers == worker) (length (at_end (core_run run core lines)).events) 0

-- each worker has a list
abbrev pub Served : Run → Type 0
Served run =
    EachNumbered (λ worker list.
    EachNumbered (λ core lines. how_many (λ c. c == core) list ≡ times_served run worker core lines) 0 run.books
    × (list_all (λ c. nat_lt c (length run.books)) list ≡ true)) 0 run.served
    × (length run.served ≡ length run.handlers)

-- a run whose journal is lawful
pub record Lawful (run : Run) : Type 0 where
  pub segs : HasSegs run
  pub conversations : EachCore run Conversations
  pub dues : EachCore run Dues
  pub ends : EachCore run Ends
  pub answers : EachCore run Answers
  pub window : EachCore run Window
  pub looks : EachCore run Looks
  pub frees : EachCore run Frees
  pub served : Served run
