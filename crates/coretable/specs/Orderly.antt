-- What is true of a core between two entries, whatever its book is.
use Rattle.std.specs.Prelude.{◌≡◌, ⊤, ℕ, suc, ◌<◌, ◌≤◌, true, false, ◌==◌, List, [], ◌∷◌, length, drop, map, filter, Option, Some, None}
use Rattle.evring.specs.declared.reason.Reason.{Reason}
use Rattle.evring.specs.declared.reason.Reason.TheVariants.{Reset, Closed, Replaced}
use Rattle.streamdefs.specs.Lists.{Each}
use Rattle.streamdefs.specs.Terms.{Terms}
use Rattle.streamdefs.specs.Convo.{Act, Convo, Event, is_live, has_other_base}
use Rattle.streamdefs.specs.Convo.Act.{End}
use Rattle.streamdefs.specs.Core.{Line, Core, Open, Told, Owed, find_convo, latest_of}
use Rattle.streamdefs.specs.Lawful.{NothingDue}
use Rattle.coretable.specs.Course.{Job}
use Rattle.coretable.specs.Course.Job.{Nothing, Takes, Closes}

-- the numbers of conversations rise, and each has that of its first packet
abbrev pub Rises : ℕ → List Open → Type 0
Rises from [] = ⊤
Rises from (o ∷ os) = (from ≤ o.id) × (o.convo.first.number ≡ o.id) × Rises (suc o.id) os

-- they are below that number
abbrev pub AreBelow : ℕ → List Open → Type 0
AreBelow n os = Each (λ o. o.id < n) os

-- the number below which they are: that of a packet that waits, else the one behind the last packet's
abbrev pub bound : ℕ → Job → ℕ
bound number (Takes p) = p.number
bound number _ = suc number

-- the moment up to which Times and Ends of `idle` came
abbrev pub IsInTurn : (number clock : ℕ) → Job → Type 0
IsInTurn number clock Nothing = ⊤
IsInTurn number clock (Takes p) = (p.now ≡ clock) × (p.number ≡ number)
IsInTurn number clock (Closes at) = at ≡ clock

-- the reason of an End that follows at once
abbrev pub IsAtOnce : Reason → Type 0
IsAtOnce Reset = ⊤
IsAtOnce Closed = ⊤
IsAtOnce _ = ⊥

-- only a live conversation is owed an End
abbrev pub IsOwed : List Open → Option Owed → Type 0
IsOwed os None = ⊤
IsOwed os (Some owed) = ((c : Convo) × (find_convo owed.conv os ≡ Some c) × (is_live c ≡ true)) × IsAtOnce owed.reason

-- where the capture's end is worked off, every live conversation is behind the one that ended last; else none has ended by it
abbrev pub IsBehind : Option ℕ → Open → Type 0
IsBehind None o = ⊤
IsBehind (Some id) o = is_live o.convo ≡ true → id < o.id

abbrev pub IsClosing : ℕ → Job → Option ℕ → List Open → Type 0
IsClosing last (Closes at) finished os = (at ≡ last) × Each (IsBehind finished) os
IsClosing last _ finished os = finished ≡ None

-- A packet that waits behind the End of a conversation that it replaces: its key's last conversation is that one, which has
-- another base in its direction, and nothing of the core is due.
abbrev pub IsReplacing : Terms → Core → (conv at : ℕ) → Job → Type 0
IsReplacing terms core conv at (Takes p) =
    (c : Convo) × (latest_of p.key core.convos ≡ Some (record { id = conv; convo = c })) × (is_live c ≡ false) × (has_other_base c p ≡ true) × (p.now ≡ at)
    × (core.owed ≡ None) × NothingDue terms core p.now
IsReplacing terms core conv at _ = ⊥

abbrev pub IsFollowed : Terms → Core → Job → Option Line → Type 0
IsFollowed terms core job None = ⊤
IsFollowed terms core job (Some last) = by last.act
  where
    by : Act → Type 0
    by (End at Replaced looks frees) = IsReplacing terms core last.conv at job
    by _ = ⊤

-- the events of one conversation
abbrev pub own : ℕ → List Told → List Event
own id told = map (λ t. t.event) (filter (λ t. t.conv == id) told)

-- those of a conversation that are unanswered are those of the core's; one that isn't there has none
abbrev pub IsAnsweredFor : List Told → ℕ → Option Convo → Type 0
IsAnsweredFor waiting id None = own id waiting ≡ []
IsAnsweredFor waiting id (Some c) = (drop c.answered c.events ≡ own id waiting) × (c.answered ≤ length c.events)

-- the events that are unanswered
abbrev pub waiting_of : Core → List Told
waiting_of core = drop core.answered core.events

pub record IsOrderly (terms : Terms) (last number clock : ℕ) (job : Job) (core : Core) : Type 0 where
  pub rises : Rises 0 core.convos
  pub below : AreBelow (bound number job) core.convos
  pub timed : core.timed ≤ clock
  pub turn : IsInTurn number clock job
  pub owed : IsOwed core.convos core.owed
  pub closes : IsClosing last job core.finished core.convos
  pub followed : IsFollowed terms core job core.last
  pub answered : core.answered ≤ length core.events
  pub unanswered : (id : ℕ) → IsAnsweredFor (waiting_of core) id (find_convo id core.convos)
