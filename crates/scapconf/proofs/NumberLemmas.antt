-- A number in a range is one that is not above the greatest, where it is not below the least.
use Rattle.std.proofs.Common.{◌≡◌, ◌≤◌, ◌<◌, ◌&&◌, ℕ, Bool, true, false, cond, List, Option, Some, None, sym, ◌∙◌, arith, refl, nat_eq, nat_le}
use Rattle.std.specs.Str.Parse.{digits_value}
use Rattle.std.proofs.lemmas.Bool.Decides.{nat_tests}
use Rattle.textout.specs.Numbers.{are_digits}
use Rattle.textout.specs.Numbers as texts
use Rattle.scapconf.specs.Numbers.{number}

none_by : (digits low high : Bool) (n : ℕ) → cond (digits && high) (Some n) None ≡ None → cond (digits && (low && high)) (Some n) None ≡ None
none_by true true high n h = h
none_by true false high n h = refl
none_by false low high n h = refl

some_by : (digits low high : Bool) (n v : ℕ) → cond (digits && high) (Some n) None ≡ Some v → low ≡ true → cond (digits && (low && high)) (Some n) None ≡ Some v
some_by true true high n v h e = h
some_by true false high n v h e = absurd (cc)
some_by false low high n v h e = absurd (cc)

low_by : (digits low high : Bool) (n : ℕ) → low ≡ false → cond (digits && (low && high)) (Some n) None ≡ None
low_by true true high n e = absurd (cc)
low_by true false high n e = refl
low_by false low high n e = refl

value_by : (digits high : Bool) (n v : ℕ) → cond (digits && high) (Some n) None ≡ Some v → n ≡ v
value_by true true n v h = cc
value_by true false n v h = absurd (cc)
value_by false high n v h = absurd (cc)

is_at_least : (least n : ℕ) → least ≤ n → nat_le least n ≡ true
is_at_least least n h = grind (arith, nat_tests)

is_below : (least n : ℕ) → n < least → nat_le least n ≡ false
is_below least n h = grind (arith, nat_tests)

module _ (most least greatest : ℕ) (ds : List ℕ) where
  pub number_none : texts.number 10 most greatest ds ≡ None → number most least greatest ds ≡ None
  unfolding number
  number_none = none_by (are_digits 10 most ds) (nat_le least (digits_value 10 ds)) (nat_le (digits_value 10 ds) greatest) (digits_value 10 ds)

  pub number_below : (v : ℕ) → texts.number 10 most greatest ds ≡ Some v → v < least → number most least greatest ds ≡ None
  unfolding number
  number_below v h low =
      let same = value_by (are_digits 10 most ds) (nat_le (digits_value 10 ds) greatest) (digits_value 10 ds) v h in
      low_by (are_digits 10 most ds) (nat_le least (digits_value 10 ds)) (nat_le (digits_value 10 ds) greatest) (digits_value 10 ds) (is_below least (digits_value 10 ds) (omega arith))

  pub number_some : (v : ℕ) → texts.number 10 most greatest ds ≡ Some v → least ≤ v → number most least greatest ds ≡ Some v
  unfolding number
  number_some v h low =
      let same = value_by (are_digits 10 most ds) (nat_le (digits_value 10 ds) greatest) (digits_value 10 ds) v h in
      some_by (are_digits 10 most ds) (nat_le least (digits_value 10 ds)) (nat_le (digits_value 10 ds) greatest) (digits_value 10 ds) v h (is_at_least least (digits_value 10 ds) (omega arith))

-- what an `is_empty` says
pub is_not_empty : (n : ℕ) (b : Bool) → b ≡ nat_eq n 0 → b ≡ false → 0 < n
is_not_empty n b e h = grind (arith, nat_tests)
