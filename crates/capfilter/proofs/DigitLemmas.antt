use Rattle.std.proofs.Common.{◌≡◌, ◌≤◌, ◌<◌, ◌&&◌, not, ℕ, ◌^◌, Bool, true, false, List, [], ◌∷◌, ◌++◌, length, Some, ◌∙◌, ap, refl, arith, nat_eq, slice_index}
use Rattle.std.specs.List.{list_all, onto_first}
use Rattle.std.specs.Char.{digit_char, digit_value, is_digit}
use Rattle.std.specs.Str.Parse.{AllDigits, digits_value}
use Rattle.std.specs.Fmt.{decimal}
use Rattle.std.proofs.lemmas.Fmt.{decimal_is_IsNumeral, length-decimal-le}
use Rattle.std.proofs.lemmas.List.Splits.{slice_split-cons_yes, slice_split-cons_no}
use Rattle.std.proofs.lemmas.Bool.Decides.{nat_tests}
use Rattle.hex.specs.Hex.{lower_digits}
use Rattle.textout.specs.Numbers.{number}
use Rattle.textout.proofs.HexSteps.{digit_is_char}
use Rattle.capfilter.specs.Numbers.{parts}
use Rattle.capfilter.specs.Tokens.{is_plain}

-- no such byte is in a list
abbrev pub lacks : ℕ → List ℕ → Bool
lacks byte = list_all (λ b. not (nat_eq b byte))

same_byte : (b byte : ℕ) → b ≡ byte → nat_eq b byte ≡ true
same_byte b byte e = grind (arith, nat_tests)

and_parts : (a b : Bool) → (a && b) ≡ true → (a ≡ true) × (b ≡ true)
and_parts true b h = (refl, h)
and_parts false b h = absurd (cc)

not_true : (b : Bool) → not b ≡ true → b ≡ false
not_true true h = absurd (cc)
not_true false h = refl

-- a list without the byte is one part
pub parts-lacks : (byte : ℕ) (xs : List ℕ) → lacks byte xs ≡ true → parts byte xs ≡ xs ∷ []
parts-lacks byte [] h = refl
parts-lacks byte (x ∷ xs) h =
    let both = and_parts (not (nat_eq x byte)) (lacks byte xs) h in
    slice_split-cons_no (λ b. nat_eq b byte) x xs (not_true (nat_eq x byte) both.0) ∙ ap (onto_first x) (parts-lacks byte xs both.1)

-- the first part ends at the first such byte
pub parts-at : (byte : ℕ) (xs rest : List ℕ) → lacks byte xs ≡ true → parts byte (xs ++ byte ∷ rest) ≡ xs ∷ parts byte rest
parts-at byte [] rest h = slice_split-cons_yes (λ b. nat_eq b byte) byte rest (same_byte byte byte refl)
parts-at byte (x ∷ xs) rest h =
    let both = and_parts (not (nat_eq x byte)) (lacks byte xs) h in
    slice_split-cons_no (λ b. nat_eq b byte) x (xs ++ byte ∷ rest) (not_true (nat_eq x byte) both.0) ∙ ap (onto_first x) (parts-at byte xs rest both.1)

-- bytes that pass a test
pub all-append : (p : ℕ → Bool) (xs ys : List ℕ) → list_all p xs ≡ true → list_all p ys ≡ true → list_all p (xs ++ ys) ≡ true
all-append p [] ys h g = g
all-append p (x ∷ xs) ys h g =
    let both = and_parts (p x) (list_all p xs) h in
    ap (λ (b : Bool). b && list_all p (xs ++ ys)) both.0 ∙ all-append p xs ys both.1 g

pub all_digits : (radix : ℕ) (p : ℕ → Bool) → ((c : ℕ) → digit_value c < radix → p c ≡ true) → (ds : List ℕ) → AllDigits radix ds → list_all p ds ≡ true
all_digits radix p each [] h = refl
all_digits radix p each (c ∷ ds) h = ap (λ (b : Bool). b && list_all p ds) (each c h.0) ∙ all_digits radix p each ds h.1

digit_is_digit : (radix c : ℕ) → digit_value c < radix → is_digit c radix ≡ true
digit_is_digit radix c h = grind (arith, nat_tests)

-- a decimal digit is no byte of any other kind
digit_is_plain : (c : ℕ) → digit_value c < 16 → is_plain c ≡ true
digit_is_plain c h = grind (arith, nat_tests)

digit_lacks : (byte c : ℕ) → 16 ≤ digit_value byte → digit_value c < 16 → not (nat_eq c byte) ≡ true
digit_lacks byte c h g = by_case (nat_eq c byte) refl
  where
    by_case : (b : Bool) → nat_eq c byte ≡ b → not b ≡ true
    by_case true e = let same : c ≡ byte = grind (arith, nat_tests) in let v : digit_value c ≡ digit_value byte = ap digit_value same in absurd (omega arith)
    by_case false e = refl

pub AllDigits-more : (radix more : ℕ) (ds : List ℕ) → radix ≤ more → AllDigits radix ds → AllDigits more ds
AllDigits-more radix more [] le h = tt
AllDigits-more radix more (c ∷ ds) le h = let first = h.0 in (omega arith, AllDigits-more radix more ds le h.1)

-- texts of digits
pub digits_plain : (radix : ℕ) (ds : List ℕ) → radix ≤ 16 → AllDigits radix ds → list_all is_plain ds ≡ true
digits_plain radix ds le h = all_digits 16 is_plain digit_is_plain ds (AllDigits-more radix 16 ds le h)

pub digits_lack : (byte radix : ℕ) (ds : List ℕ) → radix ≤ 16 → 16 ≤ digit_value byte → AllDigits radix ds → lacks byte ds ≡ true
digits_lack byte radix ds le other h = all_digits 16 (λ b. not (nat_eq b byte)) (λ c. digit_lacks byte c other) ds (AllDigits-more radix 16 ds le h)

number_by : (radix most limit : ℕ) (ds : List ℕ) → 0 < length ds → length ds ≤ most → list_all (λ c. is_digit c radix) ds ≡ true → digits_value radix ds ≤ limit
    → number radix most limit ds ≡ Some (digits_value radix ds)
number_by radix most limit ds some few all within = grind (arith, nat_tests)

-- digits are read as what they write
pub number_gives : (radix most limit : ℕ) (ds : List ℕ) → 0 < length ds → length ds ≤ most → AllDigits radix ds → digits_value radix ds ≤ limit
    → number radix most limit ds ≡ Some (digits_value radix ds)
number_gives radix most limit ds some few all within = number_by radix most limit ds some few (all_digits radix (λ c. is_digit c radix) (digit_is_digit radix) ds all) within

-- a decimal text is read as its number
pub number-decimal : (most limit n : ℕ) → 0 < most → n < 10 ^ most → n ≤ limit → n < 2 ^ 64 → number 10 most limit (decimal n) ≡ Some n
number-decimal most limit n some fits within small =
    let is = decimal_is_IsNumeral n small in
    let value : digits_value 10 (decimal n) ≡ n = is.1 in
    let few : length (decimal n) ≤ most = length-decimal-le most n some fits small in
    number_gives 10 most limit (decimal n) is.0.0 few is.0.1 (omega arith) ∙ ap (λ (m : ℕ). Some m) value

pub decimal_plain : (n : ℕ) → n < 2 ^ 64 → list_all is_plain (decimal n) ≡ true
decimal_plain n small = digits_plain 10 (decimal n) (omega arith) (decimal_is_IsNumeral n small).0.1

pub decimal_lacks : (byte n : ℕ) → 16 ≤ digit_value byte → n < 2 ^ 64 → lacks byte (decimal n) ≡ true
decimal_lacks byte n other small = digits_lack byte 10 (decimal n) (omega arith) other (decimal_is_IsNumeral n small).0.1

-- hexadecimal digits
char_back : (d : ℕ) → d < 16 → digit_value (digit_char d) ≡ d
char_back d h = grind (arith, nat_tests)

pub digit_back : (d : ℕ) → d < 16 → digit_value (slice_index lower_digits d) ≡ d
digit_back d h = ap digit_value (digit_is_char d h) ∙ char_back d h

pub decimal_digits : (n : ℕ) → n < 256 → AllDigits 16 (decimal n)
decimal_digits n h = AllDigits-more 10 16 (decimal n) (omega arith) (decimal_is_IsNumeral n (omega arith)).0.1
