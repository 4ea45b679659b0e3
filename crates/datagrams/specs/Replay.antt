-- A replay of datagrams so far, against the definitions of the lawful journal.
use Rattle.std.specs.Prelude.{◌≡◌, ℕ, List, [], map, ◌++◌, length, take, flat_map, Option, Some, None}
use Rattle.evring.specs.Advice.{no_advice}
use Rattle.streamkey.specs.declared.key.Key.{Key}
use Rattle.streamkey.specs.declared.toward.Toward.{Toward}
use Rattle.streamdefs.specs.Lists.{Each}
use Rattle.streamdefs.specs.Packet.{Packet}
use Rattle.streamdefs.specs.Terms.{Terms}
use Rattle.streamdefs.specs.Reorder.{Charge}
use Rattle.streamdefs.specs.Handler.{event_line}
use Rattle.streamdefs.specs.Convo.{Convo, Event, Seen, seen_of, charges_of, kept_of}
use Rattle.streamdefs.specs.Convo.Event.{New, Chunk, Ended}
use Rattle.streamdefs.specs.Convo.Seen.{Created, Data, Over}
use Rattle.streamdefs.specs.Core.{Line, Core, Open, Told, idle_core, core_at, find_convo, Along}
use Rattle.streamdefs.specs.Lawful.{Handler, StandsUnder, IsInTime, EndsOnce, IsNextAnswer, HasRoom, HasLooks, HasFrees, segs_in}
use Rattle.streamdefs.specs.WorkerText.{lines_of}
use Rattle.datagrams.specs.Assembled.{FreesAbove}
use Rattle.datagrams.specs.Table.{Kept, StandsForCore}

-- a handler that advises nothing
abbrev pub silent : Handler
silent = λ conv seen. no_advice

-- what the lawful journal says of one entry
pub record IsLawfulEntry (terms : Terms) (last : ℕ) (core : Core) (line : Line) : Type 0 where
  pub conversations : StandsUnder terms core line
  pub dues : IsInTime terms core line
  pub ends : EndsOnce last core line
  pub answers : IsNextAnswer silent core line
  pub window : HasRoom core line
  pub looks : HasLooks terms core line
  pub frees : HasFrees terms core line

-- the charges that an event's answer gives back
abbrev pub charges_in : Event → List Charge
charges_in (Chunk d) = charges_of (kept_of d)
charges_in _ = []

-- what a handler sees of an event, by the key and the way of the first packet
abbrev pub seen_by : Key → Toward → Event → Seen
seen_by key toward New = Created key toward
seen_by key toward (Chunk d) = Data key d.way d.piece.start d.piece.gap (length d.piece.copy) (flat_map (λ k. k.shown) d.kept) (d.piece.copy ++ d.piece.fresh)
seen_by key toward (Ended reason) = Over reason

-- the line of an event, where its conversation opened
abbrev pub line_told : Told → Option Convo → List ℕ
line_told told None = []
line_told told (Some c) = event_line told.conv (seen_of c.first told.event)

-- the line of an event of a core with these conversations
abbrev pub line_among : List Open → Told → List ℕ
line_among os told = line_told told (find_convo told.conv os)

-- the conversation of each event opened
abbrev pub IsOpened : List Open → Told → Type 0
IsOpened os told = (c : Convo) × (find_convo told.conv os ≡ Some c)

-- that of each event of a core
abbrev pub AllOpened : Core → Type 0
AllOpened core = Each (IsOpened core.convos) core.events

-- The entries so far are lawful, their Segs are those packets, what is kept stands for the core, so many events are
-- answered, and the text of those is written.
pub record Replayed (terms : Terms) (last first : ℕ) (done : List Packet) (lines : List Line) (table : List Kept) (waiting : List Told) (finished : Option ℕ) (answered : ℕ) (text : List ℕ) : Type 0 where
  pub laws : Along terms (IsLawfulEntry terms last) idle_core lines
  pub above : Along terms (FreesAbove terms) idle_core lines
  pub segs : segs_in lines ≡ map (λ p. (p, p.now)) done
  pub opened : AllOpened (core_at terms idle_core lines)
  pub stands : StandsForCore first table waiting finished (core_at terms idle_core lines)
  pub count : (core_at terms idle_core lines).answered ≡ answered
  pub written : flat_map (λ l. l) (take (core_at terms idle_core lines).answered (lines_of (core_at terms idle_core lines))) ≡ text
