-- When conversations fall due, by an index of moments: each one's moment stands under its place in the core's list.
use Rattle.std.specs.Prelude.{◌≡◌, ℕ, Bool, Option, Some, None}
use Rattle.std.specs.FinMap.{get}
use Rattle.deadlines.specs.Dues.{Dues}
use Rattle.streamdefs.specs.Terms.{Terms}
use Rattle.streamdefs.specs.Core.{Open}
use Rattle.convo.specs.Talk.{due_of}

-- the moment of a due
abbrev pub moment_of : Option (ℕ × Bool) → Option ℕ
moment_of None = None
moment_of (Some due) = Some due.0

-- What the index has at a place: the moment at which the conversation that stands there falls due. It has none for one that
-- has nothing due, and none where no conversation stands.
abbrev pub IsDueAt : Terms → Dues → ℕ → Option Open → Type 0
IsDueAt t index place None = get index place ≡ None
IsDueAt t index place (Some o) = get index place ≡ moment_of (due_of t o.convo)
