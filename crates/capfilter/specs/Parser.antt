use Rattle.std.specs.Prelude.{◌≡◌, ℕ, ◌+◌, ◌<◌, ◌≤◌, Bool, true, false, List, [], ◌∷◌, length, map, reverse, Option, Some, None}
use Rattle.capfilter.specs.declared.node.Node.{Node}
use Rattle.capfilter.specs.declared.node.Node.TheVariants as nodes
use Rattle.capfilter.specs.declared.parser.Parser.{Parser}
use Rattle.capfilter.specs.declared.parser.Frame as code_frame
use Rattle.capfilter.specs.declared.parser.Frame.TheVariants as frames
use Rattle.capfilter.specs.declared.parser.Next as code_next
use Rattle.capfilter.specs.declared.parser.Next.TheVariants as nexts
use Rattle.capfilter.specs.Expr.{Expr}
use Rattle.capfilter.specs.Nodes.{tree_at, trees, root, AreBelow}
use Rattle.capfilter.specs.Reader.{Frame, NotFrame, OpenFrame, AndFrame, OrFrame, Next, Operand, Word_of_end, Text_of_end, Operator, State, levels}

-- What a parser's nodes and frames stand for.

abbrev pub frame_of : List Expr → code_frame.Frame → Frame
frame_of trees frames.Not = NotFrame
frame_of trees frames.Open = OpenFrame
frame_of trees (frames.And left) = AndFrame (tree_at trees left)
frame_of trees (frames.Or left) = OrFrame (tree_at trees left)

-- the last frame is the innermost
abbrev pub frames_of : List Node → List code_frame.Frame → List Frame
frames_of ns fs = reverse (map (frame_of (trees ns)) fs)

-- the operand is the tree of the last node
abbrev pub next_of : List Node → code_next.Next → Next
next_of ns nexts.Operand = Operand
next_of ns (nexts.WordOfEnd side) = Word_of_end side
next_of ns (nexts.TextOfEnd side field) = Text_of_end side field
next_of ns nexts.Operator = Operator (root ns)

abbrev pub state_of : Parser → State
state_of p = record { frames = frames_of p.nodes.items p.frames.items; next = next_of p.nodes.items p.next }

-- a frame names one of the first n nodes
abbrev pub IsFrameOf : ℕ → code_frame.Frame → Type 0
IsFrameOf n frames.Not = Unit {0}
IsFrameOf n frames.Open = Unit {0}
IsFrameOf n (frames.And left) = left < n
IsFrameOf n (frames.Or left) = left < n

abbrev pub AreFramesOf : ℕ → List code_frame.Frame → Type 0
AreFramesOf n [] = Unit {0}
AreFramesOf n (f ∷ fs) = IsFrameOf n f × AreFramesOf n fs

-- an operand is there where one is said to be
abbrev pub IsThere : ℕ → code_next.Next → Type 0
IsThere n nexts.Operand = Unit {0}
IsThere n (nexts.WordOfEnd side) = Unit {0}
IsThere n (nexts.TextOfEnd side field) = Unit {0}
IsThere n nexts.Operator = 0 < n

-- nodes and frames that belong together, with the number of open levels
pub record AreParts (ns : List Node) (fs : List code_frame.Frame) (open_levels : ℕ) : Type 0 where
  pub below : AreBelow ns
  pub within : AreFramesOf (length ns) fs
  pub counted : open_levels ≡ levels (frames_of ns fs)

-- a node or a frame takes a token
pub record IsParser (p : Parser) : Type 0 where
  pub parts : AreParts p.nodes.items p.frames.items p.levels
  pub few : length p.nodes.items + length p.frames.items ≤ p.count
  pub there : IsThere (length p.nodes.items) p.next

-- the last frame, where it waits for the last node, is made a node with it
abbrev pub joined : code_frame.Frame → ℕ → Option Node
joined frames.Not last = Some (nodes.Not last)
joined frames.Open last = None
joined (frames.And left) last = Some (nodes.And left last)
joined (frames.Or left) last = Some (nodes.Or left last)

abbrev pub level_of : code_frame.Frame → ℕ
level_of frames.Not = 1
level_of frames.Open = 1
level_of (frames.And left) = 0
level_of (frames.Or left) = 0

-- no join waits, and no `not`
abbrev pub IsFresh : List Frame → Type 0
IsFresh [] = Unit {0}
IsFresh (NotFrame ∷ fs) = ⊥
IsFresh (OpenFrame ∷ fs) = Unit {0}
IsFresh (AndFrame left ∷ fs) = ⊥
IsFresh (OrFrame left ∷ fs) = ⊥

-- room for one token more
abbrev pub HasRoom : Parser → Type 0
HasRoom p = length p.nodes.items + length p.frames.items < p.count

-- whether a parser went on, and to which state
abbrev pub Went : Bool → Option State → Parser → Type 0
Went true o p = (o ≡ Some (state_of p)) × IsParser p
Went false o p = o ≡ None
