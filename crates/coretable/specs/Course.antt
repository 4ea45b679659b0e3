-- What one core does with its inputs: which entry it begins next, and what the entry under way wants.
use Rattle.std.specs.Prelude.{◌≡◌, ℕ, zero, suc, ◌+◌, Bool, cond, not, ◌&&◌, nat_lt, nat_le, List, [], ◌∷◌, ◌++◌, length, Option, Some, None}
use Rattle.prio_budget.specs.declared.free.Free.{Free}
use Rattle.histbook.specs.declared.look_entry.LookEntry.{LookEntry}
use Rattle.evring.specs.declared.advice.Advice.{Advice}
use Rattle.evring.specs.declared.reason.Reason.TheVariants.{Idle, Replaced, Finish}
use Rattle.streamdefs.specs.Packet.{Packet, is_tcp, has_syn}
use Rattle.streamdefs.specs.Terms.{Terms}
use Rattle.streamdefs.specs.Convo.{Act, is_live, has_other_base}
use Rattle.streamdefs.specs.Convo.Act.{Seg, Answer, Time, End}
use Rattle.streamdefs.specs.Want.{Want, want, with_look, with_free}
use Rattle.streamdefs.specs.Want.Want.{Rest}
use Rattle.streamdefs.specs.Core.{Line, Core, Open, Owed, Due, idle_core, core_at, found_by, latest_of, dues, first_due}

-- what was loaded and has not begun to be worked off: nothing, a packet whose Seg has not begun, or the end of the capture
pub data Job : Type 0 where
  Nothing : Job
  Takes : Packet → Job
  Closes : ℕ → Job

-- an entry under way, with its looks and frees so far, and how many of its events were handed over
pub record Under : Type 0 where
  pub line : Line
  pub emitted : ℕ

-- One core so far: the packets that were loaded, the number of the last one, the clock of the last input, the complete
-- entries, the entry under way, and what isn't worked off.
pub record Course : Type 0 where
  pub packets : List Packet
  pub number : ℕ
  pub clock : ℕ
  pub lines : List Line
  pub under : Option Under
  pub job : Job

-- before any input
abbrev pub no_course : Course
no_course = record { packets = []; number = 0; clock = 0; lines = []; under = None; job = Nothing }

-- what the complete entries make of the core
abbrev pub core_of : Terms → Course → Core
core_of terms m = core_at terms idle_core m.lines

-- what a core does next where no entry is under way: it begins an entry, waits for an input, or is done with the last one
pub data Choice : Type 0 where
  Begins : Line → Choice
  Waits : Choice
  Closed : Choice

-- the entry of what is due
abbrev pub due_line : Due → Line
due_line d = record { conv = d.conv; act = cond d.idle (End d.at Idle [] []) (Time d.at [] []) }

-- what is due first of a core, up to a moment
abbrev pub due_by : Terms → Core → ℕ → Option Due
due_by terms core now = up_to (first_due (dues terms core))
  where
    up_to : Option Due → Option Due
    up_to None = None
    up_to (Some d) = cond (nat_lt now d.at) None (Some d)

-- a packet's entry, under a conversation
abbrev pub seg_line : ℕ → Packet → Line
seg_line conv p = record { conv = conv; act = Seg p p.now [] [] }

-- a packet that belongs to a conversation that has ended: of TCP, without SYN, within the idle time
abbrev pub is_late : Terms → Open → Packet → Bool
is_late terms o p = is_tcp p && not (has_syn p) && nat_lt p.now (o.convo.clock + terms.idle)

-- for a packet, by its key's last conversation: the End of one that it replaces, or the packet's own entry
abbrev pub packet_line : Terms → Packet → Option Open → Line
packet_line terms p None = seg_line p.number p
packet_line terms p (Some o) = cond (is_live o.convo) live (seg_line (cond (is_late terms o p) o.id p.number) p)
  where
    live : Line
    live = cond (has_other_base o.convo p) (record { conv = o.id; act = End p.now Replaced [] [] }) (seg_line o.id p)

-- the first of these that is live
abbrev pub first_live : List Open → Option Open
first_live [] = None
first_live (o ∷ os) = cond (is_live o.convo) (Some o) (first_live os)

-- at the end of the capture: the End of the first conversation that is live
abbrev pub closing_choice : ℕ → Option Open → Choice
closing_choice at None = Closed
closing_choice at (Some o) = Begins (record { conv = o.id; act = End at Finish [] [] })

-- what is due comes first
abbrev pub due_first : Option Due → Choice → Choice
due_first (Some d) next = Begins (due_line d)
due_first None next = next

-- by what isn't worked off
abbrev pub job_choice : Terms → Core → Job → Choice
job_choice terms core Nothing = Waits
job_choice terms core (Takes p) = due_first (due_by terms core p.now) (Begins (packet_line terms p (latest_of p.key core.convos)))
job_choice terms core (Closes at) = due_first (due_by terms core at) (closing_choice at (first_live core.convos))

-- an End that is owed comes first
abbrev pub choice : Terms → Core → Job → Choice
choice terms core job = by core.owed
  where
    by : Option Owed → Choice
    by (Some owed) = Begins (record { conv = owed.conv; act = End owed.at owed.reason [] [] })
    by None = job_choice terms core job

-- what isn't worked off once an entry has begun
abbrev pub job_behind : Act → Job → Job
job_behind (Seg p now looks frees) job = Nothing
job_behind _ job = job

-- fewer than 256 events are unanswered
abbrev pub has_room : Core → Bool
has_room core = nat_lt (length core.events) (core.answered + 256)

-- each event is answered
abbrev pub is_answered : Core → Bool
is_answered core = nat_le (length core.events) core.answered

-- an entry with these looks and frees
abbrev pub dressed : List LookEntry → List Free → Act → Act
dressed looks frees (Seg p now l f) = Seg p now looks frees
dressed looks frees (Answer event advice f) = Answer event advice frees
dressed looks frees (Time at l f) = Time at looks frees
dressed looks frees (End at reason l f) = End at reason looks frees

abbrev pub dressed_line : List LookEntry → List Free → Line → Line
dressed_line looks frees line = record { conv = line.conv; act = dressed looks frees line.act }

-- with an entry begun
abbrev pub begun : Course → Line → Course
begun m line = record m { under = Some (record { line = line; emitted = 0 }); job = job_behind line.act m.job }

-- the answer to the core's next event, with the frees that its worker did
abbrev pub answer_line : Core → ℕ → Advice → List Free → Line
answer_line core conv advice frees = record { conv = conv; act = Answer (suc core.answered) advice frees }

-- with another look, free or event of the entry under way
abbrev pub looked : Course → Under → LookEntry → Course
looked m u look = record m { under = Some (record u { line = record u.line { act = with_look look u.line.act } }) }

abbrev pub freed : Course → Under → Free → Course
freed m u free = record m { under = Some (record u { line = record u.line { act = with_free free u.line.act } }) }

abbrev pub emitted : Course → Under → Course
emitted m u = record m { under = Some (record u { emitted = suc u.emitted }) }

-- with the entry under way complete
abbrev pub completed : Course → Under → Course
completed m u = record m { lines = m.lines ++ u.line ∷ []; under = None }

-- with a packet, or the end of the capture, loaded
abbrev pub loaded : Course → Packet → Course
loaded m p = record m { packets = m.packets ++ p ∷ []; number = p.number; clock = p.now; job = Takes p }

abbrev pub closing : Course → ℕ → Course
closing m at = record m { clock = at; job = Closes at }

-- what the entry under way wants
abbrev pub want_of : Terms → Course → Under → Want
want_of terms m u = want terms (found_by (core_of terms m) u.line) u.line.act u.emitted

-- what a core comes to next: a want of the entry under way, no room for an entry or an answer that is missing, an input, or
-- the end of its book
pub data Stop : Type 0 where
  Wants : Want → Stop
  Fills : Stop
  Rests : Stop
  Finishes : Stop

-- One step to it: an entry that wants nothing more is complete, and one begins where there is room; else the core stops.
pub data Step : Type 0 where
  Goes : Course → Step
  Stops : Stop → Step

-- by what the entry under way wants
abbrev pub under_step : Course → Under → Want → Step
under_step m u Rest = Goes (completed m u)
under_step m u w = Stops (Wants w)

-- where none is under way
abbrev pub choice_step : Core → Course → Choice → Step
choice_step core m (Begins line) = cond (has_room core) (Goes (begun m line)) (Stops Fills)
choice_step core m Waits = Stops Rests
choice_step core m Closed = cond (is_answered core) (Stops Finishes) (Stops Fills)

abbrev pub step : Terms → Course → Step
step terms m = by m.under
  where
    by : Option Under → Step
    by (Some u) = under_step m u (want_of terms m u)
    by None = choice_step (core_of terms m) m (choice terms (core_of terms m) m.job)

-- where a step goes on, this of what it goes on to
abbrev pub GoesOn : (Course → Type 0) → Step → Type 0
GoesOn P (Goes next) = P next
GoesOn P (Stops stop) = ⊥

-- after so many steps a core is there
abbrev pub After : Terms → ℕ → Course → Course → Type 0
After terms zero m m' = m ≡ m'
After terms (suc n) m m' = GoesOn (λ next. After terms n next m') (step terms m)

-- after so many steps it stops there
abbrev pub Comes : Terms → ℕ → Course → Stop → Course → Type 0
Comes terms n m stop m' = After terms n m m' × (step terms m' ≡ Stops stop)
