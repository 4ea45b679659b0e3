-- What a handler advises.
use Rattle.std.specs.Prelude.{false, None}
use Rattle.evring.specs.declared.advice.Advice.{Advice}

-- the advice that wants nothing
abbrev pub no_advice : Advice
no_advice = record { keep = false; discard = false; cutoff = None; priority = None }
