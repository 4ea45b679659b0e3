use Rattle.std.specs.Prelude.{ℕ, zero, suc, ◌+◌, ◌-◌, ◌≤◌, ◌^◌, max, min, Result, Ok, Err, IsErrOf}
use Rattle.scap_world.specs.declared.fault.WorldFault.{WorldFault}
use Rattle.scap_world.specs.declared.fault.WorldFault.TheVariants.{Memory, Failed}

-- a count that goes up by one, and stands still from the end of its type on
abbrev pub raised : ℕ → ℕ
raised n = max n (min (n + 1) (2 ^ 64 - 1))

-- a count that has gone up, or stands at the end of its type
abbrev pub Rose : ℕ → ℕ → Type 0
Rose before now = min (before + 1) (2 ^ 64 - 1) ≤ now

-- a count never falls, and `Failed` is answered only where it rose
pub record HasCause {T : Type 0} (before now : ℕ) (result : Result T WorldFault) : Type 0 where
  pub later : before ≤ now
  pub failed : IsErrOf result Failed → Rose before now

-- what stands after a call: the one, or the other where memory was wanting
abbrev pub unless_memory : {T X : Type 0} → Result T WorldFault → X → X → X
unless_memory (Ok value) new old = new
unless_memory (Err Failed) new old = new
unless_memory (Err Memory) new old = old

-- a count after a call with that answer: it goes up by a failure alone
abbrev pub counted : {T : Type 0} → Result T WorldFault → ℕ → ℕ
counted (Ok value) n = n
counted (Err Failed) n = raised n
counted (Err Memory) n = n

-- a count once a file is ended on which so many calls failed: it goes up where any did
abbrev pub ended : ℕ → ℕ → ℕ
ended zero n = n
ended (suc faults) n = raised n
