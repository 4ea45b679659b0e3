use Rattle.std.specs.Prelude.{◌≡◌, ℕ, zero, suc, ◌⊎◌, List, [], ◌∷◌, ◌++◌, Some}
use Rattle.capfilter.specs.declared.word.Word.{Word}
use Rattle.capfilter.specs.declared.word.Word.TheVariants as words
use Rattle.capfilter.specs.declared.end_test.Field.{Field}
use Rattle.capfilter.specs.declared.end_test.Field.TheVariants as fields
use Rattle.capfilter.specs.declared.prim.Side.{Side}
use Rattle.capfilter.specs.declared.prim.Side.TheVariants as sides
use Rattle.capfilter.specs.declared.prim.Primitive.{Primitive}
use Rattle.capfilter.specs.declared.prim.Primitive.TheVariants.{Tcp, Udp, Ip, Ip6, OfEnd}
use Rattle.capfilter.specs.Expr.{Expr, Test, Not, And, Or}
use Rattle.capfilter.specs.Words.{spelling}
use Rattle.capfilter.specs.Ends.{end_test}

-- The grammar, as a relation between tokens and trees: docs/FORMATS.md, "Filters".

-- the tokens of a text, each by its bytes
abbrev pub Tokens : Type 0
Tokens = List (List ℕ)

abbrev pub side_words : Side → Tokens
side_words sides.Either = []
side_words sides.Source = spelling words.Source ∷ []
side_words sides.Target = spelling words.Target ∷ []

abbrev pub field_word : Field → Word
field_word fields.Host = words.Host
field_word fields.Net = words.Net
field_word fields.Port = words.Port

-- prim = "tcp" | "udp" | "ip" | "ip6" | [ "src" | "dst" ] ( "host" address | "net" address "/" bits | "port" number )
abbrev pub IsPrim : Tokens → Primitive → Type 0
IsPrim ts Tcp = ts ≡ spelling words.Tcp ∷ []
IsPrim ts Udp = ts ≡ spelling words.Udp ∷ []
IsPrim ts Ip = ts ≡ spelling words.Ip ∷ []
IsPrim ts Ip6 = ts ≡ spelling words.Ip6 ∷ []
IsPrim ts (OfEnd side t) = (field : Field) × (text : List ℕ) × (end_test field text ≡ Some t) × (ts ≡ side_words side ++ spelling (field_word field) ∷ text ∷ [])

-- two operands with a word between them
abbrev pub IsJoin : (Tokens → Type 0) → Word → (Tokens → Type 0) → Tokens → Type 0
IsJoin Left word Right ts = (front back : Tokens) × (ts ≡ front ++ spelling word ∷ back) × Left front × Right back

-- expr = term { ("and" | "or") term }, over what a term is: the last join is the outermost
abbrev pub IsExpr : (Tokens → Expr → Type 0) → Tokens → Expr → Type 0
IsExpr Term ts (Test prim) = Term ts (Test prim)
IsExpr Term ts (Not inner) = Term ts (Not inner)
IsExpr Term ts (And left right) = Term ts (And left right) ⊎ IsJoin (λ front. IsExpr Term front left) words.And (λ back. Term back right) ts
IsExpr Term ts (Or left right) = Term ts (Or left right) ⊎ IsJoin (λ front. IsExpr Term front left) words.Or (λ back. Term back right) ts

abbrev pub IsPrimTerm : Tokens → Expr → Type 0
IsPrimTerm ts (Test prim) = IsPrim ts prim
IsPrimTerm ts (Not inner) = ⊥
IsPrimTerm ts (And left right) = ⊥
IsPrimTerm ts (Or left right) = ⊥

abbrev pub IsNegation : (Tokens → Expr → Type 0) → Tokens → Expr → Type 0
IsNegation Term ts (Test prim) = ⊥
IsNegation Term ts (Not inner) = (rest : Tokens) × (ts ≡ spelling words.Not ∷ rest) × Term rest inner
IsNegation Term ts (And left right) = ⊥
IsNegation Term ts (Or left right) = ⊥

abbrev pub IsBracketed : (Tokens → Expr → Type 0) → Tokens → Expr → Type 0
IsBracketed Term ts e = (inner : Tokens) × (ts ≡ spelling words.Open ∷ inner ++ spelling words.Close ∷ []) × IsExpr Term inner e

-- term = "not" term | "(" expr ")" | prim, with at most that many levels of `not` and brackets
abbrev pub IsTerm : ℕ → Tokens → Expr → Type 0
IsTerm zero ts e = IsPrimTerm ts e
IsTerm (suc n) ts e = IsPrimTerm ts e ⊎ IsNegation (IsTerm n) ts e ⊎ IsBracketed (IsTerm n) ts e

-- an expression with at most that many levels
abbrev pub IsExprOf : ℕ → Tokens → Expr → Type 0
IsExprOf n = IsExpr (IsTerm n)

-- some expression with at most that many levels begins with these tokens
abbrev pub Begins : ℕ → Tokens → Type 0
Begins n ts = (more : Tokens) × (e : Expr) × IsExprOf n (ts ++ more) e

-- some expression begins with these tokens
abbrev pub BeginsAny : Tokens → Type 0
BeginsAny ts = (n : ℕ) × Begins n ts
