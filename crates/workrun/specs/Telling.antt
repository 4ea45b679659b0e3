-- What telling an event does.
use Rattle.std.specs.Prelude.{◌≡◌, ℕ, ◌≤◌, List, [], ◌∷◌, ◌++◌, Option, Result, IsErrOf}
use Rattle.scap_world.specs.Causes.{Rose}
use Rattle.scap_world.specs.Contents.{extended}
use Rattle.scap_world.specs.declared.fault.WorldFault.{WorldFault}
use Rattle.scap_world.specs.declared.fault.WorldFault.TheVariants as world
use Rattle.evring.specs.declared.advice.Advice.{Advice}
use Rattle.streamdefs.specs.Convo.{Seen}
use Rattle.streamdefs.specs.Handler.{event_line}
use Rattle.streamdefs.specs.Lawful.{Handler}
use Rattle.workrun.specs.declared.work_fault.WorkFault.{WorkFault}
use Rattle.workrun.specs.declared.work_fault.WorkFault.TheVariants.{Memory, Write}
use Rattle.workrun.specs.declared.scribe.Scribe.{Scribe}

-- what a fault of the sink is to a worker
abbrev pub fault_of : WorldFault → WorkFault
fault_of world.Memory = Memory
fault_of world.Failed = Write

-- a count of faults never falls, and `Write` is answered only where it rose
pub record HasCause {T : Type 0} (before now : ℕ) (result : Result T WorkFault) : Type 0 where
  pub later : before ≤ now
  pub write : IsErrOf result Write → Rose before now

-- an event of a core was told: the advice is the handler's, the sink has gained the event's line, and the list the core
pub record IsTold {H K : Type 0} (stated : H → Handler) (held : K → Option (List ℕ)) (before after : Scribe H K) (core conv : ℕ) (seen : Seen) (advice : Advice) : Type 0 where
  pub advice_is : advice ≡ stated before.handler conv seen
  pub line : held after.sink ≡ extended (held before.sink) (event_line conv seen)
  pub served : after.served ≡ before.served ++ core ∷ []
