-- The order of a view: held bytes and flow rise, and the front stands behind the flow.
use Rattle.std.specs.Prelude.{◌≡◌, ⊤, ℕ, suc, ◌≤◌, List, [], ◌∷◌}
use Rattle.streamdefs.specs.Reorder.{Placed}
use Rattle.streamdefs.specs.View.{View, front_after}

-- ascending positions, from one on, each once
abbrev pub Rises : ℕ → List Placed → Type 0
Rises low [] = ⊤
Rises low (p ∷ ps) = (low ≤ p.at) × Rises (suc p.at) ps

pub record IsOrdered (view : View) : Type 0 where
  pub held : Rises view.front view.held
  pub flow : Rises 0 view.flow
  pub front : front_after 0 view.flow ≡ view.front
