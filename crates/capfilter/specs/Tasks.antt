use Rattle.std.specs.Prelude.{ℕ, ◌≡◌, ◌+◌, ◌<◌, List, [], ◌∷◌, ◌++◌, codes, flat_map, reverse}
use Rattle.capfilter.specs.declared.printer.Task.{Task}
use Rattle.capfilter.specs.declared.printer.Task.TheVariants.{Show, AndWord, OrWord, Close}
use Rattle.capfilter.specs.Expr.{Expr, Test, Not, And, Or}
use Rattle.capfilter.specs.declared.node.Node.{Node}
use Rattle.capfilter.specs.declared.node.Node.TheVariants as nodes
use Rattle.capfilter.specs.Canonical.{canonical, prim_text}
use Rattle.capfilter.specs.Nodes.{tree_at}

-- What is still to be printed of a tree: the last task comes first.

abbrev pub task_text : List Expr → Task → List ℕ
task_text trees (Show i) = canonical (tree_at trees i)
task_text trees AndWord = codes " and "
task_text trees OrWord = codes " or "
task_text trees Close = codes ")"

abbrev pub to_print : List Expr → List Task → List ℕ
to_print trees tasks = flat_map (task_text trees) (reverse tasks)

-- how many steps printing a tree takes at most
abbrev pub size : Expr → ℕ
size (Test prim) = 1
size (Not inner) = 1 + size inner
size (And left right) = 4 + (size left + size right)
size (Or left right) = 4 + (size left + size right)

abbrev pub task_size : List Expr → Task → ℕ
task_size trees (Show i) = size (tree_at trees i)
task_size trees AndWord = 1
task_size trees OrWord = 1
task_size trees Close = 1

abbrev pub total_size : List Expr → List Task → ℕ
total_size trees [] = 0
total_size trees (t ∷ ts) = task_size trees t + total_size trees ts

-- a task names one of the first n trees
abbrev pub IsTaskOf : ℕ → Task → Type 0
IsTaskOf n (Show i) = i < n
IsTaskOf n AndWord = Unit {0}
IsTaskOf n OrWord = Unit {0}
IsTaskOf n Close = Unit {0}

abbrev pub AreTasksOf : ℕ → List Task → Type 0
AreTasksOf n [] = Unit {0}
AreTasksOf n (t ∷ ts) = IsTaskOf n t × AreTasksOf n ts

-- what printing the begin of a node appends to the text and to the tasks
abbrev pub node_head : Node → List ℕ
node_head (nodes.Test prim) = prim_text prim
node_head (nodes.Not i) = codes "not "
node_head (nodes.And i j) = codes "("
node_head (nodes.Or i j) = codes "("

abbrev pub node_tasks : Node → List Task
node_tasks (nodes.Test prim) = []
node_tasks (nodes.Not i) = Show i ∷ []
node_tasks (nodes.And i j) = Close ∷ Show j ∷ AndWord ∷ Show i ∷ []
node_tasks (nodes.Or i j) = Close ∷ Show j ∷ OrWord ∷ Show i ∷ []

pub record Puts (node : Node) (before after : List ℕ) (old new : List Task) : Type 0 where
  pub text : after ≡ before ++ node_head node
  pub tasks : new ≡ old ++ node_tasks node
