use Rattle.std.specs.Prelude.{◌≡◌, ℕ, ◌+◌, Bool, ◌||◌, List, [], ◌∷◌, length, Option, Some, None, is_some, nat_le, if◌then◌else◌}
use Rattle.std.specs.Option.{option_map, option_and_then}
use Rattle.capfilter.specs.declared.limits.TheConstants.{MOST_LEVELS, MOST_TOKENS}
use Rattle.capfilter.specs.declared.word.Word.{Word}
use Rattle.capfilter.specs.declared.word.Word.TheVariants as words
use Rattle.capfilter.specs.declared.end_test.Field.{Field}
use Rattle.capfilter.specs.declared.end_test.Field.TheVariants as fields
use Rattle.capfilter.specs.declared.prim.Side.{Side}
use Rattle.capfilter.specs.declared.prim.Side.TheVariants as sides
use Rattle.capfilter.specs.declared.prim.Primitive.TheVariants.{Tcp, Udp, Ip, Ip6, OfEnd}
use Rattle.capfilter.specs.declared.filter_error.FilterKind.{FilterKind}
use Rattle.capfilter.specs.declared.filter_error.FilterKind.TheVariants as kinds
use Rattle.capfilter.specs.Expr.{Expr, Test, Not, And, Or}
use Rattle.capfilter.specs.Words.{word}
use Rattle.capfilter.specs.Ends.{end_test, is_end_test}
use Rattle.capfilter.specs.declared.filter_error.FilterError.{FilterError}
use Rattle.capfilter.specs.declared.filter_error.FilterError.TheVariants as errors
use Rattle.capfilter.specs.Tokens.{Token, tokens}

-- How tokens are read from the left. The grammar is no part of it.

-- what is open, the innermost first: a `not`, a bracket, or a join that waits for its right operand
pub data Frame : Type 0 where
  NotFrame : Frame
  OpenFrame : Frame
  AndFrame : (left : Expr) → Frame
  OrFrame : (left : Expr) → Frame

-- what comes next: an operand, one of the words of an end, what stands behind that word, or a join or bracket behind an operand
pub data Next : Type 0 where
  Operand : Next
  Word_of_end : (side : Side) → Next
  Text_of_end : (side : Side) (field : Field) → Next
  Operator : (operand : Expr) → Next

pub record State : Type 0 where
  pub frames : List Frame
  pub next : Next

abbrev pub start : State
start = record { frames = []; next = Operand }

-- how many levels of `not` and brackets are open
abbrev pub levels : List Frame → ℕ
levels [] = 0
levels (NotFrame ∷ frames) = 1 + levels frames
levels (OpenFrame ∷ frames) = 1 + levels frames
levels (AndFrame left ∷ frames) = levels frames
levels (OrFrame left ∷ frames) = levels frames

-- an operand is whole: it closes what waits for it
abbrev pub completed : List Frame → Expr → State
completed [] e = record { frames = []; next = Operator e }
completed (NotFrame ∷ frames) e = completed frames (Not e)
completed (OpenFrame ∷ frames) e = record { frames = OpenFrame ∷ frames; next = Operator e }
completed (AndFrame left ∷ frames) e = completed frames (And left e)
completed (OrFrame left ∷ frames) e = completed frames (Or left e)

-- a closing bracket behind an operand
abbrev pub closed : List Frame → Expr → Option State
closed [] e = None
closed (NotFrame ∷ frames) e = None
closed (OpenFrame ∷ frames) e = Some (completed frames e)
closed (AndFrame left ∷ frames) e = None
closed (OrFrame left ∷ frames) e = None

abbrev pub field_of : Word → Option Field
field_of words.And = None
field_of words.Or = None
field_of words.Not = None
field_of words.Open = None
field_of words.Close = None
field_of words.Tcp = None
field_of words.Udp = None
field_of words.Ip = None
field_of words.Ip6 = None
field_of words.Source = None
field_of words.Target = None
field_of words.Host = Some fields.Host
field_of words.Net = Some fields.Net
field_of words.Port = Some fields.Port

abbrev pub goes_to : List Frame → Next → Option State
goes_to frames next = Some (record { frames = frames; next = next })

abbrev pub at_operand : List Frame → Word → Option State
at_operand frames words.And = None
at_operand frames words.Or = None
at_operand frames words.Not = goes_to (NotFrame ∷ frames) Operand
at_operand frames words.Open = goes_to (OpenFrame ∷ frames) Operand
at_operand frames words.Close = None
at_operand frames words.Tcp = Some (completed frames (Test Tcp))
at_operand frames words.Udp = Some (completed frames (Test Udp))
at_operand frames words.Ip = Some (completed frames (Test Ip))
at_operand frames words.Ip6 = Some (completed frames (Test Ip6))
at_operand frames words.Source = goes_to frames (Word_of_end sides.Source)
at_operand frames words.Target = goes_to frames (Word_of_end sides.Target)
at_operand frames words.Host = goes_to frames (Text_of_end sides.Either fields.Host)
at_operand frames words.Net = goes_to frames (Text_of_end sides.Either fields.Net)
at_operand frames words.Port = goes_to frames (Text_of_end sides.Either fields.Port)

abbrev pub at_word_of_end : Side → List Frame → Word → Option State
at_word_of_end side frames w = option_map (λ field. record { frames = frames; next = Text_of_end side field }) (field_of w)

abbrev pub at_operator : Expr → List Frame → Word → Option State
at_operator e frames words.And = goes_to (AndFrame e ∷ frames) Operand
at_operator e frames words.Or = goes_to (OrFrame e ∷ frames) Operand
at_operator e frames words.Not = None
at_operator e frames words.Open = None
at_operator e frames words.Close = closed frames e
at_operator e frames words.Tcp = None
at_operator e frames words.Udp = None
at_operator e frames words.Ip = None
at_operator e frames words.Ip6 = None
at_operator e frames words.Source = None
at_operator e frames words.Target = None
at_operator e frames words.Host = None
at_operator e frames words.Net = None
at_operator e frames words.Port = None

-- the state behind a word, where it may stand there
abbrev pub at_word : List Frame → Next → Word → Option State
at_word frames Operand w = at_operand frames w
at_word frames (Word_of_end side) w = at_word_of_end side frames w
at_word frames (Text_of_end side field) w = None
at_word frames (Operator e) w = at_operator e frames w

-- the state behind a token, where it may stand there
abbrev pub step : List Frame → Next → List ℕ → Option State
step frames Operand token = option_and_then (at_operand frames) (word token)
step frames (Word_of_end side) token = option_and_then (at_word_of_end side frames) (word token)
step frames (Text_of_end side field) token = option_map (λ t. completed frames (Test (OfEnd side t))) (end_test field token)
step frames (Operator e) token = option_and_then (at_operator e frames) (word token)

-- of which kind the fault of a token is that may not stand there
abbrev pub is_known : List ℕ → Bool
is_known token = is_some (word token) || is_end_test token

abbrev pub fault_kind : Next → List ℕ → FilterKind
fault_kind Operand token = if is_known token then kinds.Unexpected else kinds.Token
fault_kind (Word_of_end side) token = if is_known token then kinds.Unexpected else kinds.Token
fault_kind (Text_of_end side field) token = kinds.Value
fault_kind (Operator e) token = if is_known token then kinds.Unexpected else kinds.Token

-- what reading ends with
pub data Outcome : Type 0 where
  Parsed : (e : Expr) → Outcome
  Refused : (at : ℕ) (kind : FilterKind) → Outcome

abbrev pub at_end : ℕ → List Frame → Next → Outcome
at_end end frames Operand = Refused end kinds.End
at_end end frames (Word_of_end side) = Refused end kinds.End
at_end end frames (Text_of_end side field) = Refused end kinds.End
at_end end [] (Operator e) = Parsed e
at_end end (frame ∷ frames) (Operator e) = Refused end kinds.End

-- behind a step: the kind where there is none
abbrev pub behind_step : (State → Outcome) → ℕ → FilterKind → Option State → Outcome
behind_step more at kind None = Refused at kind
behind_step more at kind (Some s) = if nat_le (levels s.frames) MOST_LEVELS then more s else Refused at kinds.Deep

-- reads the tokens, of which that many were read before
abbrev pub read : ℕ → ℕ → State → List Token → Outcome
read end count s [] = at_end end s.frames s.next
read end count s (t ∷ ts) =
    if nat_le MOST_TOKENS count then Refused t.at kinds.Long
    else behind_step (λ s. read end (count + 1) s ts) t.at (fault_kind s.next t.bytes) (step s.frames s.next t.bytes)

-- what reading a text ends with
abbrev pub outcome : List ℕ → Outcome
outcome text = read (length text) 0 start (tokens 0 text)

-- want of memory, or the fault
abbrev pub IsRefusal : Outcome → FilterError → Type 0
IsRefusal o errors.Memory = Unit {0}
IsRefusal o (errors.Fault fault) = o ≡ Refused fault.at fault.kind
