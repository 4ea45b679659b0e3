use Rattle.std.proofs.Common.{◌≡◌, ◌≤◌, ◌<◌, ℕ, suc, zero, ◌+◌, ◌-◌, List, [], ◌∷◌, ◌++◌, length, map, reverse, Some, sym, ◌∙◌, ap, refl, arith, subst, ◌⊎◌, inl, inr}
use Rattle.std.specs.Prelude.{slice_get}
use Rattle.std.proofs.lemmas.List.{length-append, reverse-append, map-append, length-reverse, length-map}
use Rattle.std.proofs.lemmas.Option.{same_Some}
use Rattle.std.proofs.Math.ListN.{get_or-append}
use Rattle.std.proofs.Math.Seq.{get_or-append_seam}
use Rattle.capfilter.specs.declared.node.Node.{Node}
use Rattle.capfilter.specs.declared.node.Node.TheVariants as nodes
use Rattle.capfilter.specs.declared.parser.Frame as code_frame
use Rattle.capfilter.specs.declared.parser.Frame.TheVariants as frames
use Rattle.capfilter.specs.declared.prim.Primitive.{Primitive}
use Rattle.capfilter.specs.declared.prim.Primitive.TheVariants.{Tcp}
use Rattle.capfilter.specs.Expr.{Expr, Test}
use Rattle.capfilter.specs.Nodes.{tree_at, tree_of, trees, root, IsBelow, AreBelow}
use Rattle.capfilter.specs.Reader.{Frame, NotFrame, OpenFrame, AndFrame, OrFrame, levels, completed}
use Rattle.capfilter.specs.Parser.{frame_of, frames_of, IsFrameOf, AreFramesOf, AreParts, joined, level_of}
use Rattle.capfilter.proofs.NodeLemmas.{grown-append, length-grown}

-- the trees of one node more
trees-push : (ns : List Node) (n : Node) → trees (ns ++ n ∷ []) ≡ trees ns ++ tree_of (trees ns) n ∷ []
trees-push ns n = grown-append [] ns (n ∷ [])

length-trees : (ns : List Node) → length (trees ns) ≡ length ns
length-trees ns = length-grown [] ns ∙ omega arith

pub root-push : (ns : List Node) (n : Node) → root (ns ++ n ∷ []) ≡ tree_of (trees ns) n
root-push ns n =
    let long : length (ns ++ n ∷ []) ≡ length ns + 1 = length-append ns (n ∷ []) in
    let last : length (ns ++ n ∷ []) - 1 ≡ length (trees ns) = omega (arith, length-trees ns) in
    ap (λ (ts : List Expr). tree_at ts (length (ns ++ n ∷ []) - 1)) (trees-push ns n) ∙ ap (tree_at (trees ns ++ tree_of (trees ns) n ∷ [])) last
    ∙ get_or-append_seam (trees ns) (tree_of (trees ns) n) [] (Test Tcp)

tree_stays : (ns : List Node) (n : Node) (i : ℕ) → i < length ns → tree_at (trees (ns ++ n ∷ [])) i ≡ tree_at (trees ns) i
tree_stays ns n i h =
    ap (λ (ts : List Expr). tree_at ts i) (trees-push ns n) ∙ get_or-append (trees ns) (tree_of (trees ns) n ∷ []) (Test Tcp) i (omega (arith, length-trees ns))

frame_stays : (ns : List Node) (n : Node) (f : code_frame.Frame) → IsFrameOf (length ns) f → frame_of (trees (ns ++ n ∷ [])) f ≡ frame_of (trees ns) f
frame_stays ns n frames.Not h = refl
frame_stays ns n frames.Open h = refl
frame_stays ns n (frames.And left) h = ap AndFrame (tree_stays ns n left h)
frame_stays ns n (frames.Or left) h = ap OrFrame (tree_stays ns n left h)

frames_map : (ns : List Node) (n : Node) (fs : List code_frame.Frame) → AreFramesOf (length ns) fs → map (frame_of (trees (ns ++ n ∷ []))) fs ≡ map (frame_of (trees ns)) fs
frames_map ns n [] h = refl
frames_map ns n (f ∷ fs) h = ap (λ (x : Frame). x ∷ map (frame_of (trees (ns ++ n ∷ []))) fs) (frame_stays ns n f h.0) ∙ ap (λ (l : List Frame). frame_of (trees ns) f ∷ l) (frames_map ns n fs h.1)

-- frames stand for the same behind one node more
pub frames_stay : (ns : List Node) (n : Node) (fs : List code_frame.Frame) → AreFramesOf (length ns) fs → frames_of (ns ++ n ∷ []) fs ≡ frames_of ns fs
frames_stay ns n fs h = ap (λ (l : List Frame). reverse l) (frames_map ns n fs h)

-- the last frame is the innermost
pub frames-push : (ns : List Node) (fs : List code_frame.Frame) (f : code_frame.Frame) → frames_of ns (fs ++ f ∷ []) ≡ frame_of (trees ns) f ∷ frames_of ns fs
frames-push ns fs f = ap (λ (l : List Frame). reverse l) (map-append (frame_of (trees ns)) fs (f ∷ [])) ∙ reverse-append (map (frame_of (trees ns)) fs) (frame_of (trees ns) f ∷ [])

AreFramesOf-push : (n : ℕ) (fs : List code_frame.Frame) (f : code_frame.Frame) → AreFramesOf n fs → IsFrameOf n f → AreFramesOf n (fs ++ f ∷ [])
AreFramesOf-push n [] f h g = (g, tt)
AreFramesOf-push n (x ∷ xs) f h g = (h.0, AreFramesOf-push n xs f h.1 g)

AreFramesOf-pop : (n : ℕ) (fs : List code_frame.Frame) (f : code_frame.Frame) → AreFramesOf n (fs ++ f ∷ []) → AreFramesOf n fs × IsFrameOf n f
AreFramesOf-pop n [] f h = (tt, h.0)
AreFramesOf-pop n (x ∷ xs) f h = let rest = AreFramesOf-pop n xs f h.1 in ((h.0, rest.0), rest.1)

IsFrameOf-more : (n m : ℕ) (f : code_frame.Frame) → n ≤ m → IsFrameOf n f → IsFrameOf m f
IsFrameOf-more n m frames.Not le h = tt
IsFrameOf-more n m frames.Open le h = tt
IsFrameOf-more n m (frames.And left) le h = omega arith
IsFrameOf-more n m (frames.Or left) le h = omega arith

AreFramesOf-more : (n m : ℕ) (fs : List code_frame.Frame) → n ≤ m → AreFramesOf n fs → AreFramesOf m fs
AreFramesOf-more n m [] le h = tt
AreFramesOf-more n m (f ∷ fs) le h = (IsFrameOf-more n m f le h.0, AreFramesOf-more n m fs le h.1)

-- an element of a list with one more
get_push : (ns : List Node) (n : Node) (i : ℕ) (m : Node) → slice_get (ns ++ n ∷ []) i ≡ Some m → (slice_get ns i ≡ Some m) ⊎ ((i ≡ length ns) × (n ≡ m))
get_push [] n zero m h = inr (refl, same_Some n m h)
get_push [] n (suc i) m h = absurd (cc)
get_push (x ∷ xs) n zero m h = inl h
get_push (x ∷ xs) n (suc i) m h = on (get_push xs n i m h)
  where
    on : (slice_get xs i ≡ Some m) ⊎ ((i ≡ length xs) × (n ≡ m)) → (slice_get xs i ≡ Some m) ⊎ ((suc i ≡ length (x ∷ xs)) × (n ≡ m))
    on (inl h) = inl h
    on (inr h) = let e = h.0 in inr (omega arith, h.1)

-- nodes with one more that names only those
pub below-push : (ns : List Node) (n : Node) → AreBelow ns → IsBelow (length ns) n → AreBelow (ns ++ n ∷ [])
below-push ns n below last i m h = by_case (get_push ns n i m h)
  where
    by_case : (slice_get ns i ≡ Some m) ⊎ ((i ≡ length ns) × (n ≡ m)) → IsBelow i m
    by_case (inl h) = below i m h
    by_case (inr h) = subst (λ (x : Node). IsBelow i x) h.1 (subst (λ (k : ℕ). IsBelow k n) (sym h.0) last)

-- a node more, with the frames as they are
pub parts-node : (ns : List Node) (fs : List code_frame.Frame) (ls : ℕ) (n : Node) → AreParts ns fs ls → IsBelow (length ns) n → AreParts (ns ++ n ∷ []) fs ls
parts-node ns fs ls n parts below =
    let long : length (ns ++ n ∷ []) ≡ length ns + 1 = length-append ns (n ∷ []) in
    record {
      below = below-push ns n parts.below below;
      within = AreFramesOf-more (length ns) (length (ns ++ n ∷ [])) fs (omega arith) parts.within;
      counted = parts.counted ∙ ap levels (sym (frames_stay ns n fs parts.within));
    }

levels-frame : (ts : List Expr) (f : code_frame.Frame) (fs : List Frame) → levels (frame_of ts f ∷ fs) ≡ level_of f + levels fs
levels-frame ts frames.Not fs = refl
levels-frame ts frames.Open fs = refl
levels-frame ts (frames.And left) fs = omega arith
levels-frame ts (frames.Or left) fs = omega arith

-- a frame less
pub parts-pop : (ns : List Node) (fs : List code_frame.Frame) (f : code_frame.Frame) (ls : ℕ) → AreParts ns (fs ++ f ∷ []) ls → AreParts ns fs (ls - level_of f)
parts-pop ns fs f ls parts =
    let all : ls ≡ level_of f + levels (frames_of ns fs) = parts.counted ∙ ap levels (frames-push ns fs f) ∙ levels-frame (trees ns) f (frames_of ns fs) in
    record { below = parts.below; within = (AreFramesOf-pop (length ns) fs f parts.within).0; counted = omega arith }

-- a frame more
pub parts-push : (ns : List Node) (fs : List code_frame.Frame) (f : code_frame.Frame) (ls : ℕ) → AreParts ns fs ls → IsFrameOf (length ns) f → AreParts ns (fs ++ f ∷ []) (ls + level_of f)
parts-push ns fs f ls parts h =
    let counted = parts.counted in
    let all : levels (frames_of ns (fs ++ f ∷ [])) ≡ level_of f + levels (frames_of ns fs) = ap levels (frames-push ns fs f) ∙ levels-frame (trees ns) f (frames_of ns fs) in
    record { below = parts.below; within = AreFramesOf-push (length ns) fs f parts.within h; counted = omega arith }

-- what a frame makes of the last node
joined_below : (ns : List Node) (f : code_frame.Frame) (node : Node) → 0 < length ns → IsFrameOf (length ns) f → joined f (length ns - 1) ≡ Some node → IsBelow (length ns) node
joined_below ns frames.Not node some h e = let less : length ns - 1 < length ns = omega arith in subst (IsBelow (length ns)) (same_Some _ node e) less
joined_below ns frames.Open node some h e = absurd (cc)
joined_below ns (frames.And left) node some h e = let less : length ns - 1 < length ns = omega arith in subst (IsBelow (length ns)) (same_Some _ node e) (h, less)
joined_below ns (frames.Or left) node some h e = let less : length ns - 1 < length ns = omega arith in subst (IsBelow (length ns)) (same_Some _ node e) (h, less)

joined_completes : (ns : List Node) (f : code_frame.Frame) (node : Node) (fs : List Frame) → joined f (length ns - 1) ≡ Some node
    → completed (frame_of (trees ns) f ∷ fs) (root ns) ≡ completed fs (tree_of (trees ns) node)
joined_completes ns frames.Not node fs e = ap (λ (n : Node). completed fs (tree_of (trees ns) n)) (same_Some (nodes.Not (length ns - 1)) node e)
joined_completes ns frames.Open node fs e = absurd (cc)
joined_completes ns (frames.And left) node fs e = ap (λ (n : Node). completed fs (tree_of (trees ns) n)) (same_Some (nodes.And left (length ns - 1)) node e)
joined_completes ns (frames.Or left) node fs e = ap (λ (n : Node). completed fs (tree_of (trees ns) n)) (same_Some (nodes.Or left (length ns - 1)) node e)

module _ (ns : List Node) (fs : List code_frame.Frame) (f : code_frame.Frame) (ls : ℕ) (node : Node) (some : 0 < length ns) (parts : AreParts ns (fs ++ f ∷ []) ls) (joins : joined f (length ns - 1) ≡ Some node) where
  pub closed_parts : AreParts (ns ++ node ∷ []) fs (ls - level_of f)
  closed_parts = parts-node ns fs (ls - level_of f) node (parts-pop ns fs f ls parts) (joined_below ns f node some (AreFramesOf-pop (length ns) fs f parts.within).1 joins)

  pub closed_state : completed (frames_of (ns ++ node ∷ []) fs) (root (ns ++ node ∷ [])) ≡ completed (frames_of ns (fs ++ f ∷ [])) (root ns)
  closed_state =
      ap (λ (l : List Frame). completed l (root (ns ++ node ∷ []))) (frames_stay ns node fs (AreFramesOf-pop (length ns) fs f parts.within).0)
      ∙ ap (completed (frames_of ns fs)) (root-push ns node)
      ∙ sym (joined_completes ns f node (frames_of ns fs) joins)
      ∙ ap (λ (l : List Frame). completed l (root ns)) (sym (frames-push ns fs f))

levels_at_most : (fs : List Frame) → levels fs ≤ length fs
levels_at_most [] = omega arith
levels_at_most (NotFrame ∷ fs) = let h = levels_at_most fs in omega (arith, h)
levels_at_most (OpenFrame ∷ fs) = let h = levels_at_most fs in omega (arith, h)
levels_at_most (AndFrame left ∷ fs) = let h = levels_at_most fs in omega (arith, h)
levels_at_most (OrFrame left ∷ fs) = let h = levels_at_most fs in omega (arith, h)

-- no more levels than frames
pub levels_few : (ns : List Node) (fs : List code_frame.Frame) → levels (frames_of ns fs) ≤ length fs
levels_few ns fs =
    omega (arith, levels_at_most (frames_of ns fs), length-reverse (map (frame_of (trees ns)) fs), length-map fs (frame_of (trees ns)))

pub level_names_none : (n : ℕ) (f : code_frame.Frame) → level_of f ≡ 1 → IsFrameOf n f
level_names_none n frames.Not e = tt
level_names_none n frames.Open e = tt
level_names_none n (frames.And left) e = absurd (omega arith)
level_names_none n (frames.Or left) e = absurd (omega arith)

-- the state behind an operand that is whole
pub operand_state : (ns ms : List Node) (fs : List code_frame.Frame) (prim : Primitive) → AreFramesOf (length ns) fs → ms ≡ ns ++ nodes.Test prim ∷ []
    → completed (frames_of ms fs) (root ms) ≡ completed (frames_of ns fs) (Test prim)
operand_state ns ms fs prim within e =
    ap (λ (l : List Node). completed (frames_of l fs) (root l)) e
    ∙ ap (λ (l : List Frame). completed l (root (ns ++ nodes.Test prim ∷ []))) (frames_stay ns (nodes.Test prim) fs within)
    ∙ ap (completed (frames_of ns fs)) (root-push ns (nodes.Test prim))
