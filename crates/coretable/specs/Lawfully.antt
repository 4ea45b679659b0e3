-- A core's course so far, against the definitions of the lawful journal.
use Rattle.std.specs.Prelude.{◌≡◌, ℕ, ◌≤◌, List, [], ◌∷◌, ◌++◌, length, map, Option, Some, None, slice_get}
use Rattle.evring.specs.declared.advice.Advice.{Advice}
use Rattle.histbook.specs.declared.look_entry.LookEntry.{LookEntry}
use Rattle.prio_budget.specs.declared.free.Free.{Free}
use Rattle.streamdefs.specs.Lists.{IsPrefixOf}
use Rattle.streamdefs.specs.Packet.{Packet}
use Rattle.streamdefs.specs.Terms.{Terms}
use Rattle.streamdefs.specs.Convo.{Convo, seen_of, given_back}
use Rattle.streamdefs.specs.Core.{Line, Core, Told, idle_core, core_after, found_by, find_convo, Along}
use Rattle.streamdefs.specs.Lawful.{Handler, CoreRun, StandsUnder, IsInTime, EndsOnce, IsNextAnswer, HasRoom, HasLooks, HasFrees, segs_in}
use Rattle.coretable.specs.Course.{Course, Job, Under, core_of, dressed_line}
use Rattle.coretable.specs.Course.Job.{Takes}
use Rattle.coretable.specs.Orderly.{IsOrderly}
use Rattle.coretable.specs.Wanted.{IsWantedSoFar}

-- what the lawful journal says of an entry as it begins
pub record MayBegin (terms : Terms) (last : ℕ) (handler : Handler) (core : Core) (line : Line) : Type 0 where
  pub conversations : StandsUnder terms core line
  pub dues : IsInTime terms core line
  pub ends : EndsOnce last core line
  pub answers : IsNextAnswer handler core line
  pub window : HasRoom core line

-- of a complete one
pub record IsLawfulEntry (terms : Terms) (last : ℕ) (handler : Handler) (core : Core) (line : Line) : Type 0 where
  pub begins : MayBegin terms last handler core line
  pub looks : HasLooks terms core line
  pub frees : HasFrees terms core line

-- An entry under way: it may begin whatever its looks and frees are, and leaves an orderly core; those so far came as it
-- wanted them.
pub record IsUnderWay (terms : Terms) (last number clock : ℕ) (handler : Handler) (job : Job) (core : Core) (line : Line) : Type 0 where
  pub fits : (looks : List LookEntry) (frees : List Free) → MayBegin terms last handler core (dressed_line looks frees line)
      × IsOrderly terms last number clock job (core_after terms core (dressed_line looks frees line))
  pub wanted : IsWantedSoFar terms (found_by core line) line.act
  pub answered : core.answered ≤ length core.events

abbrev pub StandsStill : Terms → (last number clock : ℕ) → Handler → Job → Core → Option Under → Type 0
StandsStill terms last number clock handler job core None = IsOrderly terms last number clock job core
StandsStill terms last number clock handler job core (Some u) = IsUnderWay terms last number clock handler job core u.line

-- the line under way, and the packet that waits
abbrev pub under_lines : Option Under → List Line
under_lines None = []
under_lines (Some u) = u.line ∷ []

abbrev pub waiting_segs : Job → List (Packet × ℕ)
waiting_segs (Takes p) = (p, p.now) ∷ []
waiting_segs _ = []

-- A core's course that is lawful so far.
pub record IsSound (terms : Terms) (last : ℕ) (handler : Handler) (m : Course) : Type 0 where
  pub laws : Along terms (IsLawfulEntry terms last handler) idle_core m.lines
  pub segs : segs_in (m.lines ++ under_lines m.under) ++ waiting_segs m.job ≡ map (λ p. (p, p.now)) m.packets
  pub stands : StandsStill terms last m.number m.clock handler m.job (core_of terms m) m.under

-- the run that it is a part of
abbrev pub run_at : Terms → ℕ → Handler → Course → CoreRun
run_at terms last handler m = record { terms = terms; last = last; packets = m.packets; handler = handler; lines = m.lines }

abbrev pub line_at : Course → Option Line
line_at m = of m.under
  where
    of : Option Under → Option Line
    of None = None
    of (Some u) = Some u.line

-- the answer to the core's next event states what the handler does, and its frees are the first of what it gives back
pub record IsStated (terms : Terms) (handler : Handler) (core : Core) (told : Told) (advice : Advice) (frees : List Free) : Type 0 where
  pub next : slice_get core.events core.answered ≡ Some told
  pub stated : (c : Convo) → find_convo told.conv core.convos ≡ Some c → advice ≡ handler told.conv (seen_of c.first told.event)
  pub freed : (c : Convo) → find_convo told.conv core.convos ≡ Some c
      → IsPrefixOf (map (λ free. free.bytes) frees) (map (λ charge. charge.bytes) (given_back c advice (Some told.event)))
