use Rattle.std.specs.Prelude.{◌≡◌, ℕ, ◌<◌, ◌≤◌, ◌⊎◌, List, [], ◌∷◌, ◌++◌, length, map, Some}
use Rattle.capfilter.specs.declared.limits.TheConstants.{MOST_LEVELS, MOST_TOKENS}
use Rattle.capfilter.specs.declared.word.Word.{Word}
use Rattle.capfilter.specs.declared.end_test.Field.{Field}
use Rattle.capfilter.specs.declared.end_test.EndTest.{EndTest}
use Rattle.capfilter.specs.declared.filter_error.FilterKind.{FilterKind}
use Rattle.capfilter.specs.declared.filter_error.FilterKind.TheVariants as kinds
use Rattle.capfilter.specs.declared.filter_error.FilterFault.{FilterFault}
use Rattle.capfilter.specs.declared.filter_error.FilterError.{FilterError}
use Rattle.capfilter.specs.declared.filter_error.FilterError.TheVariants as errors
use Rattle.capfilter.specs.Expr.{Expr}
use Rattle.capfilter.specs.Words.{spelling}
use Rattle.capfilter.specs.Ends.{end_test}
use Rattle.capfilter.specs.Tokens.{Token, tokens}
use Rattle.capfilter.specs.Grammar.{Tokens, IsExprOf, Begins, BeginsAny}

-- What is read and what is refused: docs/FORMATS.md, "Filters".

abbrev pub bytes_of : List Token → Tokens
bytes_of = map (λ t. t.bytes)

-- a text is a filter where its tokens, no more than the most, are an expression of at most the most levels
pub record Reads (text : List ℕ) (e : Expr) : Type 0 where
  pub few : length (tokens 0 text) ≤ MOST_TOKENS
  pub is : IsExprOf MOST_LEVELS (bytes_of (tokens 0 text)) e

abbrev pub IsWord : List ℕ → Type 0
IsWord token = (w : Word) × (token ≡ spelling w)

-- an address, a net or a port
abbrev pub IsEndTest : List ℕ → Type 0
IsEndTest token = (field : Field) × (t : EndTest) × (end_test field token ≡ Some t)

-- behind these tokens some expression has an address, a net or a port
abbrev pub ExpectsEndTest : Tokens → Type 0
ExpectsEndTest before = (token : List ℕ) × IsEndTest token × BeginsAny (before ++ token ∷ [])

-- some expression has the token there, and none of at most the most levels
abbrev pub OpensTooMany : Tokens → List ℕ → Type 0
OpensTooMany before token = BeginsAny (before ++ token ∷ []) × (¬ Begins MOST_LEVELS (before ++ token ∷ []))

-- of which kind the fault of a token is, behind tokens that some filter begins with
abbrev pub IsKind : Tokens → List ℕ → FilterKind → Type 0
IsKind before token kinds.Long = MOST_TOKENS ≤ length before
IsKind before token kinds.Deep = (length before < MOST_TOKENS) × OpensTooMany before token
IsKind before token kinds.Value = (length before < MOST_TOKENS) × (¬ BeginsAny (before ++ token ∷ [])) × ExpectsEndTest before
IsKind before token kinds.Unexpected = (length before < MOST_TOKENS) × (¬ BeginsAny (before ++ token ∷ [])) × (¬ ExpectsEndTest before) × (IsWord token ⊎ IsEndTest token)
IsKind before token kinds.Token = (length before < MOST_TOKENS) × (¬ BeginsAny (before ++ token ∷ [])) × (¬ ExpectsEndTest before) × (¬ (IsWord token ⊎ IsEndTest token))
IsKind before token kinds.End = ⊥

-- the fault of a token: what stands before it is without one
pub record IsFaultAt (all : List Token) (fault : FilterFault) : Type 0 where
  pub before : List Token
  pub token : Token
  pub behind : List Token
  pub split : all ≡ before ++ token ∷ behind
  pub place : fault.at ≡ token.at
  pub few : length before ≤ MOST_TOKENS
  pub begins : Begins MOST_LEVELS (bytes_of before)
  pub kind : IsKind (bytes_of before) token.bytes fault.kind

-- the text ends too early
pub record EndsEarly (text : List ℕ) (fault : FilterFault) : Type 0 where
  pub place : fault.at ≡ length text
  pub kind : fault.kind ≡ kinds.End
  pub few : length (tokens 0 text) ≤ MOST_TOKENS
  pub begins : Begins MOST_LEVELS (bytes_of (tokens 0 text))
  pub unfinished : (e : Expr) → ¬ IsExprOf MOST_LEVELS (bytes_of (tokens 0 text)) e

-- the fault of a text
abbrev pub IsFault : List ℕ → FilterFault → Type 0
IsFault text fault = IsFaultAt (tokens 0 text) fault ⊎ EndsEarly text fault

-- want of memory, or such a fault
abbrev pub IsMemoryOr : (FilterFault → Type 0) → FilterError → Type 0
IsMemoryOr P errors.Memory = Unit {0}
IsMemoryOr P (errors.Fault fault) = P fault
