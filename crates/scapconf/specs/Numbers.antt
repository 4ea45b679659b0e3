use Rattle.std.specs.Prelude.{ℕ, Bool, ◌&&◌, List, Option, Some, None, nat_le, if◌then◌else◌}
use Rattle.std.specs.Str.Parse.{digits_value}
use Rattle.textout.specs.Numbers.{are_digits}

abbrev pub is_between : (least greatest n : ℕ) → Bool
is_between least greatest n = nat_le least n && nat_le n greatest

-- the number in a range that one to `most` decimal digits write; zeros may lead
unfoldable pub number : (most least greatest : ℕ) → List ℕ → Option ℕ
number most least greatest ds =
    if are_digits 10 most ds && is_between least greatest (digits_value 10 ds) then Some (digits_value 10 ds) else None
