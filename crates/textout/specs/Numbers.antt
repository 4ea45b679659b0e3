use Rattle.std.specs.Prelude.{ℕ, Bool, ◌&&◌, List, length, Option, Some, None, nat_lt, nat_le, if◌then◌else◌}
use Rattle.std.specs.List.{list_all}
use Rattle.std.specs.Char.{is_digit}
use Rattle.std.specs.Str.Parse.{digits_value}

-- one to `most` digits of a radix, and nothing else
abbrev pub are_digits : (radix most : ℕ) → List ℕ → Bool
are_digits radix most ds = nat_lt 0 (length ds) && nat_le (length ds) most && list_all (λ c. is_digit c radix) ds

-- the number that one to `most` digits of a radix write, where it is at most the greatest; zeros may lead
abbrev pub number : (radix most greatest : ℕ) → List ℕ → Option ℕ
number radix most greatest ds =
    if are_digits radix most ds && nat_le (digits_value radix ds) greatest then Some (digits_value radix ds) else None
