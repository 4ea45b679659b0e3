use Rattle.std.proofs.Common.{◌≡◌, ◌<◌, ◌≢◌, ℕ, suc, zero, ◌+◌, Bool, false, not, ◌&&◌, ◌||◌, List, [], ◌∷◌, ◌++◌, length, get_or, Some, sym, ◌∙◌, ap, refl, arith, subst}
use Rattle.std.specs.Prelude.{slice_get}
use Rattle.std.proofs.lemmas.List.{length-append}
use Rattle.std.proofs.Common.{set, below_more, get_or-set_other, get_or-set_same}
use Rattle.std.proofs.lemmas.Option.{slice_get-get_or}
use Rattle.std.proofs.Math.ListN.{get_or-append}
use Rattle.std.proofs.Math.Seq.{get_or-append_seam}
use Rattle.streamkey.specs.KeyParts.{KeyParts}
use Rattle.streamkey.specs.declared.toward.Toward.{Toward}
use Rattle.capfilter.specs.declared.node.Node.{Node}
use Rattle.capfilter.specs.declared.node.Node.TheVariants as nodes
use Rattle.capfilter.specs.declared.prim.Primitive.TheVariants.{Tcp}
use Rattle.capfilter.specs.Expr.{Expr, Test, Not, And, Or}
use Rattle.capfilter.specs.Truth.{truth}
use Rattle.capfilter.specs.Nodes.{tree_at, tree_of, grown, trees, IsBelow, AreBelow, node_says}

pub grown-append : (ts : List Expr) (ns ms : List Node) → grown ts (ns ++ ms) ≡ grown (grown ts ns) ms
grown-append ts [] ms = refl
grown-append ts (n ∷ ns) ms = grown-append (ts ++ tree_of ts n ∷ []) ns ms

pub length-grown : (ts : List Expr) (ns : List Node) → length (grown ts ns) ≡ length ts + length ns
length-grown ts [] = omega arith
length-grown ts (n ∷ ns) =
    let step : length (ts ++ tree_of ts n ∷ []) ≡ length ts + 1 = length-append ts (tree_of ts n ∷ []) in
    length-grown (ts ++ tree_of ts n ∷ []) ns ∙ omega (arith, step)

get_or_last : (ts : List Expr) (t : Expr) → get_or (ts ++ t ∷ []) (length ts + 0) (Test Tcp) ≡ t
get_or_last ts t =
    let none : length ts + 0 ≡ length ts = omega arith in
    ap (λ (k : ℕ). get_or (ts ++ t ∷ []) k (Test Tcp)) none ∙ get_or-append_seam ts t [] (Test Tcp)

-- the trees that stand already stay
pub grown_front : (ts : List Expr) (ns : List Node) (i : ℕ) (d : Expr) → i < length ts → get_or (grown ts ns) i d ≡ get_or ts i d
grown_front ts [] i d h = refl
grown_front ts (n ∷ ns) i d h =
    let step : length (ts ++ tree_of ts n ∷ []) ≡ length ts + 1 = length-append ts (tree_of ts n ∷ []) in
    let front : get_or (ts ++ tree_of ts n ∷ []) i d ≡ get_or ts i d = get_or-append ts (tree_of ts n ∷ []) d i h in
    grown_front (ts ++ tree_of ts n ∷ []) ns i d (omega arith) ∙ front

-- a node that looks at trees which stand in both
same_tree : (ts us : List Expr) (i : ℕ) (n : Node) → IsBelow i n → ((k : ℕ) → k < i → tree_at us k ≡ tree_at ts k) → tree_of us n ≡ tree_of ts n
same_tree ts us i (nodes.Test prim) h same = refl
same_tree ts us i (nodes.Not j) h same = ap Not (same j h)
same_tree ts us i (nodes.And j k) h same = ap (λ (e : Expr). And e (tree_at us k)) (same j h.0) ∙ ap (And (tree_at ts j)) (same k h.1)
same_tree ts us i (nodes.Or j k) h same = ap (λ (e : Expr). Or e (tree_at us k)) (same j h.0) ∙ ap (Or (tree_at ts j)) (same k h.1)

-- the tree of a node is made of the trees that the node names
grown_at : (ts : List Expr) (ns : List Node) (i : ℕ) (n : Node) → slice_get ns i ≡ Some n → IsBelow (length ts + i) n → tree_at (grown ts ns) (length ts + i) ≡ tree_of (grown ts ns) n
grown_at ts [] i n h below = absurd (cc)
grown_at ts (m ∷ ns) zero n h below =
    let same : m ≡ n = cc in
    let all : List Expr = grown (ts ++ tree_of ts m ∷ []) ns in
    let longer : length (ts ++ tree_of ts m ∷ []) ≡ length ts + 1 = length-append ts (tree_of ts m ∷ []) in
    let here : get_or all (length ts + 0) (Test Tcp) ≡ tree_of ts m =
    grown_front (ts ++ tree_of ts m ∷ []) ns (length ts + 0) (Test Tcp) (omega arith) ∙ get_or_last ts (tree_of ts m) in
    let keeps : tree_of all n ≡ tree_of ts n = same_tree ts all (length ts + 0) n below (λ k less. grown_front (ts ++ tree_of ts m ∷ []) ns k (Test Tcp) (omega arith) ∙ get_or-append ts (tree_of ts m ∷ []) (Test Tcp) k (omega arith)) in
    here ∙ ap (tree_of ts) same ∙ sym keeps
grown_at ts (m ∷ ns) (suc i) n h below =
    let longer : length (ts ++ tree_of ts m ∷ []) ≡ length ts + 1 = length-append ts (tree_of ts m ∷ []) in
    let place : length (ts ++ tree_of ts m ∷ []) + i ≡ length ts + suc i = omega arith in
    let all : List Expr = grown (ts ++ tree_of ts m ∷ []) ns in
    ap (tree_at all) (sym place) ∙ grown_at (ts ++ tree_of ts m ∷ []) ns i n h (subst (λ (k : ℕ). IsBelow k n) (sym place) below)

pub tree_of_node : (ns : List Node) (i : ℕ) (n : Node) → slice_get ns i ≡ Some n → IsBelow i n → tree_at (trees ns) i ≡ tree_of (trees ns) n
tree_of_node ns i n h below =
    let place : 0 + i ≡ i = omega arith in
    ap (tree_at (trees ns)) (sym place) ∙ grown_at [] ns i n h (subst (λ (k : ℕ). IsBelow k n) (sym place) below)

-- the truth of a tree from those of the trees that its node names
pub node_says_truth : (ts : List Expr) (values : List Bool) (i : ℕ) (n : Node) (key : KeyParts) (toward : Toward) → IsBelow i n
    → ((k : ℕ) → k < i → get_or values k false ≡ truth (tree_at ts k) key toward) → node_says values n key toward ≡ truth (tree_of ts n) key toward
node_says_truth ts values i (nodes.Test prim) key toward below h = refl
node_says_truth ts values i (nodes.Not j) key toward below h = ap not (h j below)
node_says_truth ts values i (nodes.And j k) key toward below h =
    ap (λ (b : Bool). b && get_or values k false) (h j below.0) ∙ ap (λ (b : Bool). truth (tree_at ts j) key toward && b) (h k below.1)
node_says_truth ts values i (nodes.Or j k) key toward below h =
    ap (λ (b : Bool). b || get_or values k false) (h j below.0) ∙ ap (λ (b : Bool). truth (tree_at ts j) key toward || b) (h k below.1)

pub below_node : (ns : List Node) (i : ℕ) (d : Node) → i < length ns → AreBelow ns → IsBelow i (get_or ns i d)
below_node ns i d within below = below i (get_or ns i d) (slice_get-get_or ns i d within)

-- the tree of the node at a place
pub tree_there : (ns : List Node) (i : ℕ) (d : Node) → i < length ns → AreBelow ns → tree_at (trees ns) i ≡ tree_of (trees ns) (get_or ns i d)
tree_there ns i d within below = tree_of_node ns i (get_or ns i d) (slice_get-get_or ns i d within) (below_node ns i d within below)

-- the values with that of a node more
pub values_more : (ns : List Node) (values : List Bool) (i : ℕ) (d : Node) (v : Bool) (key : KeyParts) (toward : Toward) → i < length ns → i < length values → AreBelow ns
    → ((k : ℕ) → k < i → get_or values k false ≡ truth (tree_at (trees ns) k) key toward)
    → v ≡ node_says values (get_or ns i d) key toward
    → (k : ℕ) → k < i + 1 → get_or (set values i v) k false ≡ truth (tree_at (trees ns) k) key toward
values_more ns values i d v key toward within room below so_far says =
    below_more (λ (k : ℕ). get_or (set values i v) k false ≡ truth (tree_at (trees ns) k) key toward) i
    (λ k less. let other : k ≢ i = omega arith in rw get_or-set_other (so_far k less))
    (get_or-set_same values i v false room ∙ says
    ∙ node_says_truth (trees ns) values i (get_or ns i d) key toward (below_node ns i d within below) so_far
    ∙ sym (ap (λ (e : Expr). truth e key toward) (tree_there ns i d within below)))
