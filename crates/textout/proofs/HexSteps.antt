-- The digits of a front of some bytes, and of one byte more.
use Rattle.std.proofs.Common.{◌≡◌, ℕ, zero, suc, Bool, true, ◌&&◌, inl, inr, arith, nat_eq, ◌+◌, ◌/◌, ◌%◌, ◌<◌, List, [], ◌∷◌, ◌++◌, length, take, get_or, slice_index, ap, refl, sym, ◌∙◌, append_assoc, add-one}
use Rattle.std.proofs.Math.Seq.{take-suc}
use Rattle.std.specs.Char.{digit_char}
use Rattle.std.proofs.lemmas.Bool.{and_parts, cases_lt, eqb-true}
use Rattle.hex.specs.Hex.{encode_with, lower_digits}

digits_behind : (t xs : List ℕ) (x : ℕ) → encode_with t (xs ++ x ∷ []) ≡ encode_with t xs ++ (slice_index t (x / 16) ∷ slice_index t (x % 16) ∷ [])
unfolding encode_with
digits_behind t [] x = refl
digits_behind t (y ∷ ys) x = ap (λ (l : List ℕ). slice_index t (y / 16) ∷ slice_index t (y % 16) ∷ l) (digits_behind t ys x)

-- one byte more, whose digits are appended one behind the other
pub digits_more : (t xs : List ℕ) (i high low : ℕ) (o before between after : List ℕ) → i < length xs → before ≡ o ++ encode_with t (take i xs)
    → high ≡ slice_index t (get_or xs i 0 / 16) → low ≡ slice_index t (get_or xs i 0 % 16)
    → between ≡ before ++ high ∷ [] → after ≡ between ++ low ∷ [] → after ≡ o ++ encode_with t (take (i + 1) xs)
digits_more t xs i high low o before between after within e h l p q =
    let x = get_or xs i 0 in
    let two = slice_index t (x / 16) ∷ slice_index t (x % 16) ∷ [] in
    q ∙ ap (λ (b : List ℕ). b ++ low ∷ []) p ∙ append_assoc before (high ∷ []) (low ∷ [])
    ∙ ap (λ (n : ℕ). before ++ n ∷ low ∷ []) h ∙ ap (λ (n : ℕ). before ++ slice_index t (x / 16) ∷ n ∷ []) l
    ∙ ap (λ (b : List ℕ). b ++ two) e ∙ append_assoc o (encode_with t (take i xs)) two
    ∙ ap (λ (b : List ℕ). o ++ b) (sym (digits_behind t (take i xs) x) ∙ ap (encode_with t) (sym (take-suc xs i 0 within)) ∙ ap (λ (n : ℕ). encode_with t (take n xs)) (sym (add-one i)))

-- the table has the digits of std
abbrev is_char : ℕ → Bool
is_char d = nat_eq (slice_index lower_digits d) (digit_char d)

abbrev are_chars : ℕ → Bool
are_chars zero = true
are_chars (suc n) = is_char n && are_chars n

is_char-at : (n d : ℕ) → are_chars n ≡ true → d < n → is_char d ≡ true
is_char-at zero d h lt = absurd (omega arith)
is_char-at (suc n) d h lt =
    let parts = and_parts (is_char n) (are_chars n) h in
    elim (cases_lt d n) [
      | inl below ↦ is_char-at n d parts.1 below
      | inr top ↦ let e : d ≡ n = omega arith in rw e parts.0
    ]

pub digit_is_char : (d : ℕ) → d < 16 → slice_index lower_digits d ≡ digit_char d
digit_is_char d lt = eqb-true (slice_index lower_digits d) (digit_char d) (is_char-at 16 d refl lt)
