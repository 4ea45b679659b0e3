use Rattle.std.specs.Prelude.{◌≡◌, ℕ, ◌-◌, ◌<◌, ◌≤◌, List, [], ◌∷◌, ◌++◌, length, slice_index_or, slice_get, Some, Bool, false, not, ◌&&◌, ◌||◌}
use Rattle.streamkey.specs.KeyParts.{KeyParts}
use Rattle.streamkey.specs.declared.toward.Toward.{Toward}
use Rattle.capfilter.specs.Truth.{prim_holds}
use Rattle.capfilter.specs.Canonical.{canonical}
use Rattle.capfilter.specs.Fit.{IsFit}
use Rattle.capfilter.specs.declared.prim.Primitive.TheVariants.{Tcp}
use Rattle.capfilter.specs.declared.limits.TheConstants.{MOST_TOKENS}
use Rattle.capfilter.specs.declared.node.Node.{Node}
use Rattle.capfilter.specs.declared.node.Node.TheVariants as nodes
use Rattle.capfilter.specs.Expr.{Expr, Test, Not, And, Or}

-- How a list of nodes stands for a tree: each node names others that stand before it, and the last one is the root.

abbrev pub tree_at : List Expr → ℕ → Expr
tree_at trees i = slice_index_or trees i (Test Tcp)

-- the tree that a node makes of the trees before it
abbrev pub tree_of : List Expr → Node → Expr
tree_of trees (nodes.Test prim) = Test prim
tree_of trees (nodes.Not i) = Not (tree_at trees i)
tree_of trees (nodes.And i j) = And (tree_at trees i) (tree_at trees j)
tree_of trees (nodes.Or i j) = Or (tree_at trees i) (tree_at trees j)

-- the trees with those of further nodes behind them
abbrev pub grown : List Expr → List Node → List Expr
grown trees [] = trees
grown trees (n ∷ ns) = grown (trees ++ tree_of trees n ∷ []) ns

-- the tree of each node
abbrev pub trees : List Node → List Expr
trees = grown []

abbrev pub root : List Node → Expr
root ns = tree_at (trees ns) (length ns - 1)

-- a node names only nodes before that place
abbrev pub IsBelow : ℕ → Node → Type 0
IsBelow i (nodes.Test prim) = Unit {0}
IsBelow i (nodes.Not j) = j < i
IsBelow i (nodes.And j k) = (j < i) × (k < i)
IsBelow i (nodes.Or j k) = (j < i) × (k < i)

abbrev pub AreBelow : List Node → Type 0
AreBelow ns = (i : ℕ) (n : Node) → slice_get ns i ≡ Some n → IsBelow i n

-- what a node says where the nodes before it say that
abbrev pub node_says : List Bool → Node → KeyParts → Toward → Bool
node_says values (nodes.Test prim) key toward = prim_holds prim key toward
node_says values (nodes.Not i) key toward = not (slice_index_or values i false)
node_says values (nodes.And i j) key toward = slice_index_or values i false && slice_index_or values j false
node_says values (nodes.Or i j) key toward = slice_index_or values i false || slice_index_or values j false

-- the nodes of a filter, of which there are at most as many as tokens, and its text
pub record IsFilter (ns : List Node) (text : List ℕ) : Type 0 where
  pub some : 0 < length ns
  pub few : length ns ≤ MOST_TOKENS
  pub below : AreBelow ns
  pub shown : text ≡ canonical (root ns)
  pub fit : IsFit (root ns)
