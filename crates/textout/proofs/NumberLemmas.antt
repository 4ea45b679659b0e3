use Rattle.std.proofs.Common.{◌≡◌, ◌≤◌, ◌<◌, ◌⊎◌, ◌&&◌, ℕ, ◌+◌, ◌*◌, ◌^◌, Bool, true, false, List, length, take, get_or, Some, None, sym, ◌∙◌, ap, arith, nat_eq, inl, inr}
use Rattle.std.specs.Str.Parse.{digits_value}
use Rattle.std.specs.Char.{digit_value, is_digit}
use Rattle.std.specs.List.{list_all}
use Rattle.std.proofs.lemmas.List.Folds.{list_all_more, list_all_at}
use Rattle.std.proofs.lemmas.Int.Digits.{digits_value_more}
use Rattle.std.proofs.lemmas.Str.Parse.{digits_value-take-le}
use Rattle.std.proofs.lemmas.Bool.Decides.{nat_tests}
use Rattle.textout.specs.Numbers.{number}

-- a digit more
pub value_more : (radix value : ℕ) (ds : List ℕ) (i : ℕ) → i < length ds → value ≡ digits_value radix (take i ds)
    → value * radix + digit_value (get_or ds i 0) ≡ digits_value radix (take (i + 1) ds)
value_more radix value ds i within v = ap (λ (n : ℕ). n * radix + digit_value (get_or ds i 0)) v ∙ sym (digits_value_more radix ds i within)

pub digits_more : (radix : ℕ) (ds : List ℕ) (i : ℕ) → i < length ds → list_all (λ c. is_digit c radix) (take i ds) ≡ true → is_digit (get_or ds i 0) radix ≡ true
    → list_all (λ c. is_digit c radix) (take (i + 1) ds) ≡ true
digits_more radix ds i within h this =
    list_all_more (λ c. is_digit c radix) ds i 0 within ∙ (ap (λ (b : Bool). b && is_digit (get_or ds i 0) radix) h ∙ this)

-- a byte that is no digit, or a front that writes too much
pub no_value : (radix value : ℕ) (ds : List ℕ) (i : ℕ) → 1 ≤ radix → i < length ds → value ≡ digits_value radix (take i ds)
    → (is_digit (get_or ds i 0) radix ≡ false) ⊎ (2 ^ 64 ≤ value * radix + digit_value (get_or ds i 0))
    → (list_all (λ c. is_digit c radix) ds ≡ false) ⊎ (2 ^ 64 ≤ digits_value radix ds)
no_value radix value ds i low within v h =
    elim h [
      | inl e ↦ inl (list_all_at (λ c. is_digit c radix) ds i 0 within e)
      | inr much ↦ let more = value_more radix value ds i within v in inr (omega (arith, more, digits_value-take-le radix ds (i + 1) low))
    ]

none_for : (radix most greatest : ℕ) (ds : List ℕ) → (list_all (λ c. is_digit c radix) ds ≡ false) → number radix most greatest ds ≡ None
none_for radix most greatest ds h = grind (arith, nat_tests)

pub number_above : (radix most greatest : ℕ) (ds : List ℕ) → greatest < digits_value radix ds → number radix most greatest ds ≡ None
number_above radix most greatest ds h = grind (arith, nat_tests)

pub number_none : (radix most greatest : ℕ) (ds : List ℕ) → greatest < 2 ^ 64 → (list_all (λ c. is_digit c radix) ds ≡ false) ⊎ (2 ^ 64 ≤ digits_value radix ds)
    → number radix most greatest ds ≡ None
number_none radix most greatest ds fits h = elim h [ inl e ↦ none_for radix most greatest ds e | inr much ↦ number_above radix most greatest ds (omega arith) ]

pub number_empty : (radix most greatest : ℕ) (ds : List ℕ) → length ds ≡ 0 → number radix most greatest ds ≡ None
number_empty radix most greatest ds h = grind (arith, nat_tests)

pub number_long : (radix most greatest : ℕ) (ds : List ℕ) → most < length ds → number radix most greatest ds ≡ None
number_long radix most greatest ds h = grind (arith, nat_tests)

pub number_some : (radix most greatest : ℕ) (ds : List ℕ) → 0 < length ds → length ds ≤ most → list_all (λ c. is_digit c radix) ds ≡ true
    → digits_value radix ds ≤ greatest → number radix most greatest ds ≡ Some (digits_value radix ds)
number_some radix most greatest ds some few all high = grind (arith, nat_tests)

-- what an `is_empty` says
pub is_empty : (n : ℕ) (b : Bool) → b ≡ nat_eq n 0 → b ≡ true → n ≡ 0
is_empty n b e h = grind (arith, nat_tests)

pub is_not_empty : (n : ℕ) (b : Bool) → b ≡ nat_eq n 0 → b ≡ false → 0 < n
is_not_empty n b e h = grind (arith, nat_tests)
