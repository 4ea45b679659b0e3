-- The words of the rule of fast TCP and of UDP.
use Rattle.std.specs.Prelude.{◌≡◌, ⊤, ℕ, ◌-◌, true, List, [], ◌∷◌}
use Rattle.streamdefs.specs.Reorder.{Placed}
use Rattle.streamdefs.specs.View.{least}
use Rattle.streamdefs.specs.Pending.{Block}
use Rattle.streamdefs.specs.Direction.{Kind, Direction, Segment}
use Rattle.streamdefs.specs.Direction.Kind.{Strict, Fast, Datagrams}

-- a direction that waits for nothing: fast TCP, or UDP
abbrev pub WaitsForNothing : Kind → Type 0
WaitsForNothing Strict = ⊥
WaitsForNothing Fast = ⊤
WaitsForNothing Datagrams = ⊤

-- no list, or one
abbrev pub IsOneAtMost : List (List Placed) → Type 0
IsOneAtMost [] = ⊤
IsOneAtMost (run ∷ []) = ⊤
IsOneAtMost (run ∷ next ∷ rest) = ⊥

-- a live segment comes to such a direction, which holds nothing
pub record ComesFast (kind : Kind) (d : Direction) (s : Segment) : Type 0 where
  pub waits : WaitsForNothing kind
  pub held : d.view.held ≡ []
  pub live : s.live ≡ true

-- a run behind the gap from a front to its begin
abbrev pub block_behind : ℕ → List Placed → Block
block_behind front run = record { gap = least front run - front; bytes = run }
