use Rattle.std.proofs.Common.{◌≡◌, ◌<◌, ℕ, ◌+◌, List, [], ◌∷◌, ◌++◌, length, get_or, sym, ◌∙◌, ap, arith, subst, codes, flat_map, reverse}
use Rattle.std.proofs.lemmas.List.{append-nil, reverse-append}
use Rattle.std.proofs.lemmas.Grind.{flat_map-append}
use mathlib.Core.List.{append_assoc}
use Rattle.capfilter.specs.declared.node.Node.{Node}
use Rattle.capfilter.specs.declared.node.Node.TheVariants as nodes
use Rattle.capfilter.specs.declared.printer.Task.{Task}
use Rattle.capfilter.specs.Expr.{Expr}
use Rattle.capfilter.specs.Canonical.{canonical, prim_text}
use Rattle.capfilter.specs.Nodes.{tree_at, tree_of, trees, IsBelow, AreBelow}
use Rattle.capfilter.specs.Tasks.{task_text, to_print, size, task_size, total_size, IsTaskOf, AreTasksOf, node_head, node_tasks, Puts}
use Rattle.capfilter.proofs.NodeLemmas.{tree_there, below_node}

to_print-append : (ts : List Expr) (xs ys : List Task) → to_print ts (xs ++ ys) ≡ flat_map (task_text ts) (reverse ys) ++ to_print ts xs
to_print-append ts xs ys = ap (flat_map (task_text ts)) (reverse-append xs ys) ∙ flat_map-append (task_text ts) (reverse ys) (reverse xs)

-- the last task is printed first
pub to_print-last : (ts : List Expr) (xs : List Task) (t : Task) → to_print ts (xs ++ t ∷ []) ≡ task_text ts t ++ to_print ts xs
to_print-last ts xs t = to_print-append ts xs (t ∷ []) ∙ ap (λ (l : List ℕ). l ++ to_print ts xs) (append-nil (task_text ts t))

-- what a node begins with and leaves is the text of its tree
head_and_rest : (ts : List Expr) (n : Node) → node_head n ++ flat_map (task_text ts) (reverse (node_tasks n)) ≡ canonical (tree_of ts n)
head_and_rest ts (nodes.Test prim) = append-nil (prim_text prim)
head_and_rest ts (nodes.Not i) = ap (λ (l : List ℕ). codes "not " ++ l) (append-nil (canonical (tree_at ts i)))
head_and_rest ts (nodes.And i j) = ap (λ (l : List ℕ). codes "(" ++ (canonical (tree_at ts i) ++ (codes " and " ++ (canonical (tree_at ts j) ++ l)))) (append-nil (codes ")"))
head_and_rest ts (nodes.Or i j) = ap (λ (l : List ℕ). codes "(" ++ (canonical (tree_at ts i) ++ (codes " or " ++ (canonical (tree_at ts j) ++ l)))) (append-nil (codes ")"))

total_size-append : (ts : List Expr) (xs ys : List Task) → total_size ts (xs ++ ys) ≡ total_size ts xs + total_size ts ys
total_size-append ts [] ys = omega arith
total_size-append ts (x ∷ xs) ys = omega (arith, total_size-append ts xs ys)

tasks_are_less : (ts : List Expr) (n : Node) → total_size ts (node_tasks n) < size (tree_of ts n)
tasks_are_less ts (nodes.Test prim) = omega arith
tasks_are_less ts (nodes.Not i) = omega arith
tasks_are_less ts (nodes.And i j) = omega arith
tasks_are_less ts (nodes.Or i j) = omega arith

AreTasksOf-append : (k : ℕ) (xs ys : List Task) → AreTasksOf k xs → AreTasksOf k ys → AreTasksOf k (xs ++ ys)
AreTasksOf-append k [] ys h g = g
AreTasksOf-append k (x ∷ xs) ys h g = (h.0, AreTasksOf-append k xs ys h.1 g)

pub AreTasksOf-last : (k : ℕ) (xs : List Task) (t : Task) → AreTasksOf k (xs ++ t ∷ []) → AreTasksOf k xs × IsTaskOf k t
AreTasksOf-last k [] t h = (tt, h.0)
AreTasksOf-last k (x ∷ xs) t h = let rest = AreTasksOf-last k xs t h.1 in ((h.0, rest.0), rest.1)

tasks_within : (k i : ℕ) (n : Node) → i < k → IsBelow i n → AreTasksOf k (node_tasks n)
tasks_within k i (nodes.Test prim) h below = tt
tasks_within k i (nodes.Not j) h below = (omega arith, tt)
tasks_within k i (nodes.And j l) h below = (tt, (omega (arith, below.1), (tt, (omega (arith, below.0), tt))))
tasks_within k i (nodes.Or j l) h below = (tt, (omega (arith, below.1), (tt, (omega (arith, below.0), tt))))

module _ (ns : List Node) (i : ℕ) (d : Node) (within : i < length ns) (below : AreBelow ns)
    (before after : List ℕ) (old new : List Task) (puts : Puts (get_or ns i d) before after old new) where
  pub put_text : after ++ to_print (trees ns) new ≡ before ++ (canonical (tree_at (trees ns) i) ++ to_print (trees ns) old)
  put_text =
      let ts : List Expr = trees ns in
      let n : Node = get_or ns i d in
      ap (λ (l : List ℕ). l ++ to_print ts new) puts.text
      ∙ ap (λ (l : List Task). (before ++ node_head n) ++ to_print ts l) puts.tasks
      ∙ ap (λ (l : List ℕ). (before ++ node_head n) ++ l) (to_print-append ts old (node_tasks n))
      ∙ append_assoc before (node_head n) (flat_map (task_text ts) (reverse (node_tasks n)) ++ to_print ts old)
      ∙ ap (λ (l : List ℕ). before ++ l) (sym (append_assoc (node_head n) (flat_map (task_text ts) (reverse (node_tasks n))) (to_print ts old)))
      ∙ ap (λ (l : List ℕ). before ++ (l ++ to_print ts old)) (head_and_rest ts n ∙ ap canonical (sym (tree_there ns i d within below)))

  pub put_less : total_size (trees ns) new < size (tree_at (trees ns) i) + total_size (trees ns) old
  put_less =
      let ts : List Expr = trees ns in
      let n : Node = get_or ns i d in
      let all : total_size ts new ≡ total_size ts old + total_size ts (node_tasks n) = ap (total_size ts) puts.tasks ∙ total_size-append ts old (node_tasks n) in
      let less : total_size ts (node_tasks n) < size (tree_of ts n) = tasks_are_less ts n in
      let same : size (tree_at ts i) ≡ size (tree_of ts n) = ap size (tree_there ns i d within below) in
      omega (arith, all, less, same)

  pub put_within : AreTasksOf (length ns) old → AreTasksOf (length ns) new
  put_within h =
      subst (AreTasksOf (length ns)) (sym puts.tasks) (AreTasksOf-append (length ns) old (node_tasks (get_or ns i d)) h (tasks_within (length ns) i (get_or ns i d) within (below_node ns i d within below)))

pub total_size-last : (ts : List Expr) (xs : List Task) (t : Task) → total_size ts (xs ++ t ∷ []) ≡ task_size ts t + total_size ts xs
total_size-last ts xs t = total_size-append ts xs (t ∷ []) ∙ omega arith
