use Rattle.std.proofs.Common.{◌≡◌, ◌<◌, ℕ, get_or, false, length}
use Rattle.capfilter.specs.Nodes.{trees, tree_at}
use Rattle.capfilter.specs.Truth.{truth}
use Rattle.capfilter.proofs.node.last_holds.Given as goal

-- each node so far has the truth of its tree
abbrev pub invariant-loop-i : goal.invariant-loop-i
invariant-loop-i l =
    record {
      room : length l.values ≡ 512;
      so_far : (k : ℕ) → k < l.i → get_or l.values k false ≡ truth (tree_at (trees l.nodes) k) l.key l.toward;
    }
