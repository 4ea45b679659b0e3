use Rattle.std.specs.Prelude.{◌≡◌, ℕ, ◌+◌, ◌/◌, ◌%◌, ◌≤◌, ◌⊎◌, ◌↔◌, true, List, [], ◌∷◌, length, take, max, flat_map}
use Rattle.capfilter.specs.declared.filter_error.FilterFault.{FilterFault}
use Rattle.capfilter.specs.Expr.{Expr, Test, Not, And, Or}
use Rattle.capfilter.specs.Tokens.{tokens}
use Rattle.capfilter.specs.Truth.{agree}
use Rattle.capfilter.specs.Fit.{AreBytes}
use Rattle.capfilter.specs.declared.limits.TheConstants.{MOST_LEVELS, MOST_TOKENS}
use Rattle.capfilter.specs.Canonical.{canonical}
use Rattle.capfilter.specs.Faults.{Reads, IsFault}

-- What follows from the definitions.

-- how many levels a canonical text opens
abbrev pub depth : Expr → ℕ
depth (Test prim) = 0
depth (Not inner) = 1 + depth inner
depth (And left right) = 1 + max (depth left) (depth right)
depth (Or left right) = 1 + max (depth left) (depth right)

-- the canonical text is within the limits
pub record IsWithinLimits (e : Expr) : Type 0 where
  pub few : length (tokens 0 (canonical e)) ≤ MOST_TOKENS
  pub shallow : depth e ≤ MOST_LEVELS

abbrev pub HasOneTree : List ℕ → Type 0
HasOneTree text = (e f : Expr) → Reads text e → Reads text f → e ≡ f

abbrev pub HasOneFault : List ℕ → Type 0
HasOneFault text = (f g : FilterFault) → IsFault text f → IsFault text g → f ≡ g

-- a tree or a fault, and not both
pub record IsReadOrRefused (text : List ℕ) : Type 0 where
  pub one : ((e : Expr) × Reads text e) ⊎ ((f : FilterFault) × IsFault text f)
  pub apart : (e : Expr) (f : FilterFault) → Reads text e → ¬ IsFault text f

-- the eight bits of a byte, the high one first
abbrev pub byte_bits : ℕ → List ℕ
byte_bits b = b / 128 % 2 ∷ b / 64 % 2 ∷ b / 32 % 2 ∷ b / 16 % 2 ∷ b / 8 % 2 ∷ b / 4 % 2 ∷ b / 2 % 2 ∷ b % 2 ∷ []

abbrev pub bits_of : List ℕ → List ℕ
bits_of = flat_map byte_bits

-- bytes of one length agree where their first n bits are the same
abbrev pub AgreesByBits : ℕ → List ℕ → List ℕ → Type 0
AgreesByBits n a b = AreBytes a → AreBytes b → length a ≡ length b → (agree n a b ≡ true) ↔ (take n (bits_of a) ≡ take n (bits_of b))
