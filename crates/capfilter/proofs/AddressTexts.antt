use Rattle.std.proofs.Common.{◌≡◌, ◌≤◌, ◌<◌, ◌&&◌, not, ℕ, suc, zero, ◌+◌, ◌*◌, ◌/◌, ◌%◌, Bool, true, false, cond, List, [], ◌∷◌, ◌++◌, length, Option, Some, None, sym, ◌∙◌, ap, refl, arith, nat_eq, flat_map, slice_index}
use Rattle.std.specs.Option.{option_map, option_and_then, option_or}
use Rattle.std.specs.List.{list_all}
use Rattle.std.specs.Char.{digit_char, digit_value}
use Rattle.std.specs.Str.Parse.{AllDigits, digits_value}
use Rattle.std.specs.Fmt.{decimal}
use Rattle.std.proofs.lemmas.List.{append-nil}
use Rattle.std.proofs.lemmas.Bool.Decides.{nat_tests}
use mathlib.Core.List.{append_assoc}
use Rattle.streamkey.specs.declared.addr.Addr.{Addr}
use Rattle.streamkey.specs.declared.addr.Addr.TheVariants.{V4, V6}
use Rattle.capfilter.specs.Numbers.{numbers, with_first, parts}
use Rattle.capfilter.specs.Addresses.{octet, group, of_octets, version_4, round_gap, of_groups, of_texts, group_bytes, version_6, address}
use Rattle.hex.specs.Hex.{encode_with, lower_digits}
use Rattle.textout.specs.Addresses.{dotted, grouped}
use Rattle.textout.proofs.HexSteps.{digit_is_char}
use Rattle.capfilter.specs.Canonical.{address_text}
use Rattle.capfilter.specs.Fit.{AreBytes, IsFitAddress}
use Rattle.capfilter.proofs.DigitLemmas.{lacks, parts-lacks, parts-at, all-append, digits_lack, number_gives, number-decimal, decimal_lacks, digit_back, decimal_digits}

-- four numbers joined by dots, taken apart
four : (a b c d : ℕ) → List ℕ
four a b c d = decimal a ++ (46 ∷ (decimal b ++ (46 ∷ (decimal c ++ (46 ∷ decimal d)))))

dotted_is_four : (a b c d : ℕ) → dotted (a ∷ b ∷ c ∷ d ∷ []) ≡ four a b c d
unfolding dotted four
dotted_is_four a b c d =
    simp append_assoc

octet-decimal : (n : ℕ) → n < 256 → octet (decimal n) ≡ Some n
octet-decimal n h = number-decimal 3 255 n (omega arith) (omega arith) (omega arith) (omega arith)

module _ (a b c d : ℕ) (fa : a < 256) (fb : b < 256) (fc : c < 256) (fd : d < 256) where
  four_parts : parts 46 (four a b c d) ≡ decimal a ∷ decimal b ∷ decimal c ∷ decimal d ∷ []
  unfolding four
  four_parts =
      parts-at 46 (decimal a) (decimal b ++ (46 ∷ (decimal c ++ (46 ∷ decimal d)))) (decimal_lacks 46 a (omega arith) (omega arith))
      ∙ ap (λ (ps : List (List ℕ)). decimal a ∷ ps) (parts-at 46 (decimal b) (decimal c ++ (46 ∷ decimal d)) (decimal_lacks 46 b (omega arith) (omega arith))
      ∙ ap (λ (ps : List (List ℕ)). decimal b ∷ ps) (parts-at 46 (decimal c) (decimal d) (decimal_lacks 46 c (omega arith) (omega arith))
      ∙ ap (λ (ps : List (List ℕ)). decimal c ∷ ps) (parts-lacks 46 (decimal d) (decimal_lacks 46 d (omega arith) (omega arith)))))

  four_read : version_4 (four a b c d) ≡ Some (V4 (a ∷ b ∷ c ∷ d ∷ []))
  unfolding version_4
  four_read =
      ap (λ (ps : List (List ℕ)). option_and_then of_octets (numbers 4 octet ps)) four_parts
      ∙ ap (λ (o : Option ℕ). option_and_then of_octets (option_and_then (λ n. with_first n (numbers 3 octet (decimal b ∷ decimal c ∷ decimal d ∷ []))) o)) (octet-decimal a fa)
      ∙ ap (λ (o : Option ℕ). option_and_then of_octets (with_first a (option_and_then (λ n. with_first n (numbers 2 octet (decimal c ∷ decimal d ∷ []))) o))) (octet-decimal b fb)
      ∙ ap (λ (o : Option ℕ). option_and_then of_octets (with_first a (with_first b (option_and_then (λ n. with_first n (numbers 1 octet (decimal d ∷ []))) o)))) (octet-decimal c fc)
      ∙ ap (λ (o : Option ℕ). option_and_then of_octets (with_first a (with_first b (with_first c (option_and_then (λ n. with_first n (numbers 0 octet [])) o))))) (octet-decimal d fd)

-- a byte as two lower-case hexadecimal digits
abbrev hex_digit : ℕ → ℕ
hex_digit d = slice_index lower_digits d

abbrev hex_byte : ℕ → List ℕ
hex_byte b = hex_digit (b / 16) ∷ hex_digit (b % 16) ∷ []

-- the digits of a byte and of a group
hex_digits : (x : ℕ) → x < 256 → AllDigits 16 (hex_byte x)
hex_digits x h =
    let high : x / 16 < 16 = omega arith in
    let low : x % 16 < 16 = omega arith in
    let first : digit_value (hex_digit (x / 16)) < 16 = omega (arith, digit_back (x / 16) high) in
    let second : digit_value (hex_digit (x % 16)) < 16 = omega (arith, digit_back (x % 16) low) in
    (first, (second, tt))

-- the text of a group, and of some groups
abbrev group_text : ℕ × ℕ → List ℕ
group_text p = hex_byte p.0 ++ hex_byte p.1

abbrev pairs_text : List (ℕ × ℕ) → List ℕ
pairs_text [] = []
pairs_text (p ∷ []) = group_text p
pairs_text (p ∷ q ∷ ps) = group_text p ++ (58 ∷ pairs_text (q ∷ ps))

abbrev ArePairs : List (ℕ × ℕ) → Type 0
ArePairs [] = Unit {0}
ArePairs (p ∷ ps) = ((p.0 < 256) × (p.1 < 256)) × ArePairs ps

abbrev group_value : ℕ × ℕ → ℕ
group_value p = p.0 * 256 + p.1

abbrev group_values : List (ℕ × ℕ) → List ℕ
group_values [] = []
group_values (p ∷ ps) = group_value p ∷ group_values ps

abbrev group_texts : List (ℕ × ℕ) → List (List ℕ)
group_texts [] = []
group_texts (p ∷ ps) = group_text p ∷ group_texts ps

abbrev in_a_row : List (ℕ × ℕ) → List ℕ
in_a_row [] = []
in_a_row (p ∷ ps) = p.0 ∷ p.1 ∷ in_a_row ps

AllDigits-append : (xs ys : List ℕ) → AllDigits 16 xs → AllDigits 16 ys → AllDigits 16 (xs ++ ys)
AllDigits-append [] ys h g = g
AllDigits-append (x ∷ xs) ys h g = (h.0, AllDigits-append xs ys h.1 g)

group_digits : (p : ℕ × ℕ) → p.0 < 256 → p.1 < 256 → AllDigits 16 (group_text p)
group_digits p a b = AllDigits-append (hex_byte p.0) (hex_byte p.1) (hex_digits p.0 a) (hex_digits p.1 b)

group_is : (a b : ℕ) → a < 256 → b < 256 → digits_value 16 (hex_byte a ++ hex_byte b) ≡ a * 256 + b
group_is a b fa fb =
    let x : a / 16 < 16 = omega arith in
    let y : a % 16 < 16 = omega arith in
    let z : b / 16 < 16 = omega arith in
    let w : b % 16 < 16 = omega arith in
    omega (arith, digit_back (a / 16) x, digit_back (a % 16) y, digit_back (b / 16) z, digit_back (b % 16) w)

group_read : (p : ℕ × ℕ) → p.0 < 256 → p.1 < 256 → group (group_text p) ≡ Some (group_value p)
group_read p a b =
    let value : digits_value 16 (group_text p) ≡ group_value p = group_is p.0 p.1 a b in
    number_gives 16 4 65535 (group_text p) (omega arith) (omega arith) (group_digits p a b) (omega arith) ∙ ap (λ (n : ℕ). Some n) value

groups_read : (ps : List (ℕ × ℕ)) (most : ℕ) → ArePairs ps → length ps ≤ most → numbers most group (group_texts ps) ≡ Some (group_values ps)
groups_read [] most h few = numbers_none most
  where
    numbers_none : (most : ℕ) → numbers most group [] ≡ Some []
    numbers_none zero = refl
    numbers_none (suc n) = refl
groups_read (p ∷ ps) zero h few = absurd (omega arith)
groups_read (p ∷ ps) (suc most) h few =
    ap (option_and_then (λ n. with_first n (numbers most group (group_texts ps)))) (group_read p h.0.0 h.0.1)
    ∙ ap (with_first (group_value p)) (groups_read ps most h.1 (omega arith))

pairs_parts : (p : ℕ × ℕ) (ps : List (ℕ × ℕ)) → ArePairs (p ∷ ps) → parts 58 (pairs_text (p ∷ ps)) ≡ group_texts (p ∷ ps)
pairs_parts p [] h = parts-lacks 58 (group_text p) (digits_lack 58 16 (group_text p) (omega arith) (omega arith) (group_digits p h.0.0 h.0.1))
pairs_parts p (q ∷ ps) h =
    parts-at 58 (group_text p) (pairs_text (q ∷ ps)) (digits_lack 58 16 (group_text p) (omega arith) (omega arith) (group_digits p h.0.0 h.0.1))
    ∙ ap (λ (l : List (List ℕ)). group_text p ∷ l) (pairs_parts q ps h.1)

pairs_pass : (test : ℕ → Bool) → ((ds : List ℕ) → AllDigits 16 ds → list_all test ds ≡ true) → test 58 ≡ true → (ps : List (ℕ × ℕ)) → ArePairs ps → list_all test (pairs_text ps) ≡ true
pairs_pass test digits colon [] h = refl
pairs_pass test digits colon (p ∷ []) h = digits (group_text p) (group_digits p h.0.0 h.0.1)
pairs_pass test digits colon (p ∷ q ∷ ps) h =
    all-append test (group_text p) (58 ∷ pairs_text (q ∷ ps)) (digits (group_text p) (group_digits p h.0.0 h.0.1))
    (ap (λ (b : Bool). b && list_all test (pairs_text (q ∷ ps))) colon ∙ pairs_pass test digits colon (q ∷ ps) h.1)

-- no `::` in them
no_gap_digit : (x : ℕ) (xs : List ℕ) → nat_eq x 58 ≡ false → round_gap xs ≡ None → round_gap (x ∷ xs) ≡ None
no_gap_digit x [] e h = refl
no_gap_digit x (y ∷ ys) e h =
    ap (λ (b : Bool). cond (b && nat_eq y 58) (Some ([], ys)) (option_map (λ halves. (x ∷ halves.0, halves.1)) (round_gap (y ∷ ys)))) e
    ∙ ap (option_map (λ (halves : List ℕ × List ℕ). (x ∷ halves.0, halves.1))) h

no_gap_colon : (y : ℕ) (ys : List ℕ) → nat_eq y 58 ≡ false → round_gap (y ∷ ys) ≡ None → round_gap (58 ∷ y ∷ ys) ≡ None
no_gap_colon y ys e h =
    ap (λ (b : Bool). cond b (Some ([], ys)) (option_map (λ halves. (58 ∷ halves.0, halves.1)) (round_gap (y ∷ ys)))) e
    ∙ ap (option_map (λ (halves : List ℕ × List ℕ). (58 ∷ halves.0, halves.1))) h

char_no_colon : (d : ℕ) → d < 16 → nat_eq (digit_char d) 58 ≡ false
char_no_colon d h = grind (arith, nat_tests)

digit_no_colon : (d : ℕ) → d < 16 → nat_eq (hex_digit d) 58 ≡ false
digit_no_colon d h = ap (λ (n : ℕ). nat_eq n 58) (digit_is_char d h) ∙ char_no_colon d h

no_gap_group : (p : ℕ × ℕ) (xs : List ℕ) → p.0 < 256 → p.1 < 256 → round_gap xs ≡ None → round_gap (group_text p ++ xs) ≡ None
no_gap_group p xs a b h =
    no_gap_digit (hex_digit (p.0 / 16)) (hex_digit (p.0 % 16) ∷ hex_digit (p.1 / 16) ∷ hex_digit (p.1 % 16) ∷ xs) (digit_no_colon (p.0 / 16) (omega arith))
    (no_gap_digit (hex_digit (p.0 % 16)) (hex_digit (p.1 / 16) ∷ hex_digit (p.1 % 16) ∷ xs) (digit_no_colon (p.0 % 16) (omega arith))
    (no_gap_digit (hex_digit (p.1 / 16)) (hex_digit (p.1 % 16) ∷ xs) (digit_no_colon (p.1 / 16) (omega arith))
    (no_gap_digit (hex_digit (p.1 % 16)) xs (digit_no_colon (p.1 % 16) (omega arith)) h)))

no_gap_before : (p : ℕ × ℕ) (ps : List (ℕ × ℕ)) → p.0 < 256 → round_gap (pairs_text (p ∷ ps)) ≡ None → round_gap (58 ∷ pairs_text (p ∷ ps)) ≡ None
no_gap_before p [] a h = no_gap_colon (hex_digit (p.0 / 16)) _ (digit_no_colon (p.0 / 16) (omega arith)) h
no_gap_before p (q ∷ ps) a h = no_gap_colon (hex_digit (p.0 / 16)) _ (digit_no_colon (p.0 / 16) (omega arith)) h

no_gap : (p : ℕ × ℕ) (ps : List (ℕ × ℕ)) → ArePairs (p ∷ ps) → round_gap (pairs_text (p ∷ ps)) ≡ None
no_gap p [] h = ap round_gap (sym (append-nil (group_text p))) ∙ no_gap_group p [] h.0.0 h.0.1 refl
no_gap p (q ∷ ps) h = no_gap_group p (58 ∷ pairs_text (q ∷ ps)) h.0.0 h.0.1 (no_gap_before q ps h.1.0.0 (no_gap q ps h.1))

no_octets : (o : Option ℕ) → option_and_then of_octets (option_and_then (λ n. with_first n (Some [])) o) ≡ None
no_octets None = refl
no_octets (Some n) = refl

-- such a text is no address of version 4
not_version_4 : (text : List ℕ) → lacks 46 text ≡ true → version_4 text ≡ None
unfolding version_4
not_version_4 text h = ap (λ (ps : List (List ℕ)). option_and_then of_octets (numbers 4 octet ps)) (parts-lacks 46 text h) ∙ no_octets (octet text)

bytes_of_value : (a b : ℕ) → a < 256 → b < 256 → group_bytes (a * 256 + b) ≡ a ∷ b ∷ []
bytes_of_value a b fa fb =
    let high : (a * 256 + b) / 256 ≡ a = omega arith in
    let low : (a * 256 + b) % 256 ≡ b = omega arith in
    ap (λ (n : ℕ). n ∷ (a * 256 + b) % 256 ∷ []) high ∙ ap (λ (n : ℕ). a ∷ n ∷ []) low

values_back : (ps : List (ℕ × ℕ)) → ArePairs ps → flat_map group_bytes (group_values ps) ≡ in_a_row ps
values_back [] h = refl
values_back (p ∷ ps) h =
    ap (λ (l : List ℕ). l ++ flat_map group_bytes (group_values ps)) (bytes_of_value p.0 p.1 h.0.0 h.0.1) ∙ ap (λ (l : List ℕ). p.0 ∷ p.1 ∷ l) (values_back ps h.1)

length-values : (ps : List (ℕ × ℕ)) → length (group_values ps) ≡ length ps
length-values [] = refl
length-values (p ∷ ps) = ap suc (length-values ps)

pairs_read : (p : ℕ × ℕ) (ps : List (ℕ × ℕ)) → ArePairs (p ∷ ps) → length (p ∷ ps) ≡ 8 → version_6 (pairs_text (p ∷ ps)) ≡ Some (V6 (in_a_row (p ∷ ps)))
unfolding version_6
pairs_read p ps h eight =
    let all : List (ℕ × ℕ) = p ∷ ps in
    let long : nat_eq (length (group_values (p ∷ ps))) 8 ≡ true = is_eight (length (group_values (p ∷ ps))) (length-values (p ∷ ps) ∙ eight) in
    ap (λ (o : Option (List ℕ × List ℕ)). of_texts o (pairs_text (p ∷ ps))) (no_gap p ps h)
    ∙ ap (λ (l : List (List ℕ)). option_and_then of_groups (numbers 8 group l)) (pairs_parts p ps h)
    ∙ ap (option_and_then of_groups) (groups_read (p ∷ ps) 8 h (omega arith))
    ∙ ap (λ (b : Bool). cond b (Some (V6 (flat_map group_bytes (group_values (p ∷ ps))))) None) long
    ∙ ap (λ (l : List ℕ). Some (V6 l)) (values_back (p ∷ ps) h)
  where
    is_eight : (n : ℕ) → n ≡ 8 → nat_eq n 8 ≡ true
    is_eight n e = grind (arith, nat_tests)

-- sixteen bytes in the two ways
grouped_is : (a0 a1 a2 a3 a4 a5 a6 a7 a8 a9 a10 a11 a12 a13 a14 a15 : ℕ) → grouped (a0 ∷ a1 ∷ a2 ∷ a3 ∷ a4 ∷ a5 ∷ a6 ∷ a7 ∷ a8 ∷ a9 ∷ a10 ∷ a11 ∷ a12 ∷ a13 ∷ a14 ∷ a15 ∷ []) ≡ pairs_text ((a0, a1) ∷ (a2, a3) ∷ (a4, a5) ∷ (a6, a7) ∷ (a8, a9) ∷ (a10, a11) ∷ (a12, a13) ∷ (a14, a15) ∷ [])
unfolding grouped encode_with
grouped_is a0 a1 a2 a3 a4 a5 a6 a7 a8 a9 a10 a11 a12 a13 a14 a15 =
    simp append_assoc

sixteen_read : (a0 a1 a2 a3 a4 a5 a6 a7 a8 a9 a10 a11 a12 a13 a14 a15 : ℕ) → AreBytes (a0 ∷ a1 ∷ a2 ∷ a3 ∷ a4 ∷ a5 ∷ a6 ∷ a7 ∷ a8 ∷ a9 ∷ a10 ∷ a11 ∷ a12 ∷ a13 ∷ a14 ∷ a15 ∷ []) → address (grouped (a0 ∷ a1 ∷ a2 ∷ a3 ∷ a4 ∷ a5 ∷ a6 ∷ a7 ∷ a8 ∷ a9 ∷ a10 ∷ a11 ∷ a12 ∷ a13 ∷ a14 ∷ a15 ∷ [])) ≡ Some (V6 (a0 ∷ a1 ∷ a2 ∷ a3 ∷ a4 ∷ a5 ∷ a6 ∷ a7 ∷ a8 ∷ a9 ∷ a10 ∷ a11 ∷ a12 ∷ a13 ∷ a14 ∷ a15 ∷ []))
unfolding address
sixteen_read a0 a1 a2 a3 a4 a5 a6 a7 a8 a9 a10 a11 a12 a13 a14 a15 h =
    let ps : List (ℕ × ℕ) = (a0, a1) ∷ (a2, a3) ∷ (a4, a5) ∷ (a6, a7) ∷ (a8, a9) ∷ (a10, a11) ∷ (a12, a13) ∷ (a14, a15) ∷ [] in
    let fit : ArePairs ps = ((h.0, h.1.0), ((h.1.1.0, h.1.1.1.0), ((h.1.1.1.1.0, h.1.1.1.1.1.0), ((h.1.1.1.1.1.1.0, h.1.1.1.1.1.1.1.0), ((h.1.1.1.1.1.1.1.1.0, h.1.1.1.1.1.1.1.1.1.0), ((h.1.1.1.1.1.1.1.1.1.1.0, h.1.1.1.1.1.1.1.1.1.1.1.0), ((h.1.1.1.1.1.1.1.1.1.1.1.1.0, h.1.1.1.1.1.1.1.1.1.1.1.1.1.0), ((h.1.1.1.1.1.1.1.1.1.1.1.1.1.1.0, h.1.1.1.1.1.1.1.1.1.1.1.1.1.1.1.0), tt)))))))) in
    ap address (grouped_is a0 a1 a2 a3 a4 a5 a6 a7 a8 a9 a10 a11 a12 a13 a14 a15)
    ∙ ap (λ (o : Option Addr). option_or o (version_6 (pairs_text ps))) (not_version_4 (pairs_text ps) (pairs_pass (λ b. not (nat_eq b 46)) (λ ds d. digits_lack 46 16 ds (omega arith) (omega arith) d) refl ps fit))
    ∙ pairs_read (a0, a1) ((a2, a3) ∷ (a4, a5) ∷ (a6, a7) ∷ (a8, a9) ∷ (a10, a11) ∷ (a12, a13) ∷ (a14, a15) ∷ []) fit refl

-- an address is read from its text
pub address-text : (a : Addr) → IsFitAddress a → address (address_text a) ≡ Some a
unfolding address
address-text (V4 []) h = let long = h.0 in absurd (omega arith)
address-text (V4 (a0 ∷ [])) h = let long = h.0 in absurd (omega arith)
address-text (V4 (a0 ∷ a1 ∷ [])) h = let long = h.0 in absurd (omega arith)
address-text (V4 (a0 ∷ a1 ∷ a2 ∷ [])) h = let long = h.0 in absurd (omega arith)
address-text (V4 (a ∷ b ∷ c ∷ d ∷ [])) h =
    ap address (dotted_is_four a b c d) ∙ ap (λ (o : Option Addr). option_or o (version_6 (four a b c d))) (four_read a b c d h.1.0 h.1.1.0 h.1.1.1.0 h.1.1.1.1.0)
address-text (V4 (a ∷ b ∷ c ∷ d ∷ e ∷ more)) h = let long = h.0 in absurd (omega arith)
address-text (V6 []) h = let long = h.0 in absurd (omega arith)
address-text (V6 (a0 ∷ [])) h = let long = h.0 in absurd (omega arith)
address-text (V6 (a0 ∷ a1 ∷ [])) h = let long = h.0 in absurd (omega arith)
address-text (V6 (a0 ∷ a1 ∷ a2 ∷ [])) h = let long = h.0 in absurd (omega arith)
address-text (V6 (a0 ∷ a1 ∷ a2 ∷ a3 ∷ [])) h = let long = h.0 in absurd (omega arith)
address-text (V6 (a0 ∷ a1 ∷ a2 ∷ a3 ∷ a4 ∷ [])) h = let long = h.0 in absurd (omega arith)
address-text (V6 (a0 ∷ a1 ∷ a2 ∷ a3 ∷ a4 ∷ a5 ∷ [])) h = let long = h.0 in absurd (omega arith)
address-text (V6 (a0 ∷ a1 ∷ a2 ∷ a3 ∷ a4 ∷ a5 ∷ a6 ∷ [])) h = let long = h.0 in absurd (omega arith)
address-text (V6 (a0 ∷ a1 ∷ a2 ∷ a3 ∷ a4 ∷ a5 ∷ a6 ∷ a7 ∷ [])) h = let long = h.0 in absurd (omega arith)
address-text (V6 (a0 ∷ a1 ∷ a2 ∷ a3 ∷ a4 ∷ a5 ∷ a6 ∷ a7 ∷ a8 ∷ [])) h = let long = h.0 in absurd (omega arith)
address-text (V6 (a0 ∷ a1 ∷ a2 ∷ a3 ∷ a4 ∷ a5 ∷ a6 ∷ a7 ∷ a8 ∷ a9 ∷ [])) h = let long = h.0 in absurd (omega arith)
address-text (V6 (a0 ∷ a1 ∷ a2 ∷ a3 ∷ a4 ∷ a5 ∷ a6 ∷ a7 ∷ a8 ∷ a9 ∷ a10 ∷ [])) h = let long = h.0 in absurd (omega arith)
address-text (V6 (a0 ∷ a1 ∷ a2 ∷ a3 ∷ a4 ∷ a5 ∷ a6 ∷ a7 ∷ a8 ∷ a9 ∷ a10 ∷ a11 ∷ [])) h = let long = h.0 in absurd (omega arith)
address-text (V6 (a0 ∷ a1 ∷ a2 ∷ a3 ∷ a4 ∷ a5 ∷ a6 ∷ a7 ∷ a8 ∷ a9 ∷ a10 ∷ a11 ∷ a12 ∷ [])) h = let long = h.0 in absurd (omega arith)
address-text (V6 (a0 ∷ a1 ∷ a2 ∷ a3 ∷ a4 ∷ a5 ∷ a6 ∷ a7 ∷ a8 ∷ a9 ∷ a10 ∷ a11 ∷ a12 ∷ a13 ∷ [])) h = let long = h.0 in absurd (omega arith)
address-text (V6 (a0 ∷ a1 ∷ a2 ∷ a3 ∷ a4 ∷ a5 ∷ a6 ∷ a7 ∷ a8 ∷ a9 ∷ a10 ∷ a11 ∷ a12 ∷ a13 ∷ a14 ∷ [])) h = let long = h.0 in absurd (omega arith)
address-text (V6 (a0 ∷ a1 ∷ a2 ∷ a3 ∷ a4 ∷ a5 ∷ a6 ∷ a7 ∷ a8 ∷ a9 ∷ a10 ∷ a11 ∷ a12 ∷ a13 ∷ a14 ∷ a15 ∷ [])) h = sixteen_read a0 a1 a2 a3 a4 a5 a6 a7 a8 a9 a10 a11 a12 a13 a14 a15 h.1
address-text (V6 (a0 ∷ a1 ∷ a2 ∷ a3 ∷ a4 ∷ a5 ∷ a6 ∷ a7 ∷ a8 ∷ a9 ∷ a10 ∷ a11 ∷ a12 ∷ a13 ∷ a14 ∷ a15 ∷ x ∷ more)) h = let long = h.0 in absurd (omega arith)

-- and has plain bytes alone, without a slash
four_pass : (test : ℕ → Bool) → ((ds : List ℕ) → AllDigits 16 ds → list_all test ds ≡ true) → test 46 ≡ true → (a b c d : ℕ) → a < 256 → b < 256 → c < 256 → d < 256 → list_all test (four a b c d) ≡ true
unfolding four
four_pass test digits dot a b c d fa fb fc fd =
    let one = λ (n : ℕ) (h : n < 256). digits (decimal n) (decimal_digits n h) in
    let onto = λ (xs : List ℕ) (h : list_all test xs ≡ true). ap (λ (x : Bool). x && list_all test xs) dot ∙ h in
    all-append test (decimal a) _ (one a fa) (onto _ (all-append test (decimal b) _ (one b fb) (onto _ (all-append test (decimal c) _ (one c fc) (onto _ (one d fd))))))

pub address_passes : (test : ℕ → Bool) → ((ds : List ℕ) → AllDigits 16 ds → list_all test ds ≡ true) → test 46 ≡ true → test 58 ≡ true → (a : Addr) → IsFitAddress a → list_all test (address_text a) ≡ true
address_passes test digits dot colon (V4 []) h = let long = h.0 in absurd (omega arith)
address_passes test digits dot colon (V4 (a0 ∷ [])) h = let long = h.0 in absurd (omega arith)
address_passes test digits dot colon (V4 (a0 ∷ a1 ∷ [])) h = let long = h.0 in absurd (omega arith)
address_passes test digits dot colon (V4 (a0 ∷ a1 ∷ a2 ∷ [])) h = let long = h.0 in absurd (omega arith)
address_passes test digits dot colon (V4 (a ∷ b ∷ c ∷ d ∷ [])) h =
    ap (list_all test) (dotted_is_four a b c d) ∙ four_pass test digits dot a b c d h.1.0 h.1.1.0 h.1.1.1.0 h.1.1.1.1.0
address_passes test digits dot colon (V4 (a ∷ b ∷ c ∷ d ∷ e ∷ more)) h = let long = h.0 in absurd (omega arith)
address_passes test digits dot colon (V6 []) h = let long = h.0 in absurd (omega arith)
address_passes test digits dot colon (V6 (a0 ∷ [])) h = let long = h.0 in absurd (omega arith)
address_passes test digits dot colon (V6 (a0 ∷ a1 ∷ [])) h = let long = h.0 in absurd (omega arith)
address_passes test digits dot colon (V6 (a0 ∷ a1 ∷ a2 ∷ [])) h = let long = h.0 in absurd (omega arith)
address_passes test digits dot colon (V6 (a0 ∷ a1 ∷ a2 ∷ a3 ∷ [])) h = let long = h.0 in absurd (omega arith)
address_passes test digits dot colon (V6 (a0 ∷ a1 ∷ a2 ∷ a3 ∷ a4 ∷ [])) h = let long = h.0 in absurd (omega arith)
address_passes test digits dot colon (V6 (a0 ∷ a1 ∷ a2 ∷ a3 ∷ a4 ∷ a5 ∷ [])) h = let long = h.0 in absurd (omega arith)
address_passes test digits dot colon (V6 (a0 ∷ a1 ∷ a2 ∷ a3 ∷ a4 ∷ a5 ∷ a6 ∷ [])) h = let long = h.0 in absurd (omega arith)
address_passes test digits dot colon (V6 (a0 ∷ a1 ∷ a2 ∷ a3 ∷ a4 ∷ a5 ∷ a6 ∷ a7 ∷ [])) h = let long = h.0 in absurd (omega arith)
address_passes test digits dot colon (V6 (a0 ∷ a1 ∷ a2 ∷ a3 ∷ a4 ∷ a5 ∷ a6 ∷ a7 ∷ a8 ∷ [])) h = let long = h.0 in absurd (omega arith)
address_passes test digits dot colon (V6 (a0 ∷ a1 ∷ a2 ∷ a3 ∷ a4 ∷ a5 ∷ a6 ∷ a7 ∷ a8 ∷ a9 ∷ [])) h = let long = h.0 in absurd (omega arith)
address_passes test digits dot colon (V6 (a0 ∷ a1 ∷ a2 ∷ a3 ∷ a4 ∷ a5 ∷ a6 ∷ a7 ∷ a8 ∷ a9 ∷ a10 ∷ [])) h = let long = h.0 in absurd (omega arith)
address_passes test digits dot colon (V6 (a0 ∷ a1 ∷ a2 ∷ a3 ∷ a4 ∷ a5 ∷ a6 ∷ a7 ∷ a8 ∷ a9 ∷ a10 ∷ a11 ∷ [])) h = let long = h.0 in absurd (omega arith)
address_passes test digits dot colon (V6 (a0 ∷ a1 ∷ a2 ∷ a3 ∷ a4 ∷ a5 ∷ a6 ∷ a7 ∷ a8 ∷ a9 ∷ a10 ∷ a11 ∷ a12 ∷ [])) h = let long = h.0 in absurd (omega arith)
address_passes test digits dot colon (V6 (a0 ∷ a1 ∷ a2 ∷ a3 ∷ a4 ∷ a5 ∷ a6 ∷ a7 ∷ a8 ∷ a9 ∷ a10 ∷ a11 ∷ a12 ∷ a13 ∷ [])) h = let long = h.0 in absurd (omega arith)
address_passes test digits dot colon (V6 (a0 ∷ a1 ∷ a2 ∷ a3 ∷ a4 ∷ a5 ∷ a6 ∷ a7 ∷ a8 ∷ a9 ∷ a10 ∷ a11 ∷ a12 ∷ a13 ∷ a14 ∷ [])) h = let long = h.0 in absurd (omega arith)
address_passes test digits dot colon (V6 (a0 ∷ a1 ∷ a2 ∷ a3 ∷ a4 ∷ a5 ∷ a6 ∷ a7 ∷ a8 ∷ a9 ∷ a10 ∷ a11 ∷ a12 ∷ a13 ∷ a14 ∷ a15 ∷ [])) h =
    ap (list_all test) (grouped_is a0 a1 a2 a3 a4 a5 a6 a7 a8 a9 a10 a11 a12 a13 a14 a15) ∙ pairs_pass test digits colon ((a0, a1) ∷ (a2, a3) ∷ (a4, a5) ∷ (a6, a7) ∷ (a8, a9) ∷ (a10, a11) ∷ (a12, a13) ∷ (a14, a15) ∷ []) ((h.1.0, h.1.1.0), ((h.1.1.1.0, h.1.1.1.1.0), ((h.1.1.1.1.1.0, h.1.1.1.1.1.1.0), ((h.1.1.1.1.1.1.1.0, h.1.1.1.1.1.1.1.1.0), ((h.1.1.1.1.1.1.1.1.1.0, h.1.1.1.1.1.1.1.1.1.1.0), ((h.1.1.1.1.1.1.1.1.1.1.1.0, h.1.1.1.1.1.1.1.1.1.1.1.1.0), ((h.1.1.1.1.1.1.1.1.1.1.1.1.1.0, h.1.1.1.1.1.1.1.1.1.1.1.1.1.1.0), ((h.1.1.1.1.1.1.1.1.1.1.1.1.1.1.1.0, h.1.1.1.1.1.1.1.1.1.1.1.1.1.1.1.1.0), tt))))))))
address_passes test digits dot colon (V6 (a0 ∷ a1 ∷ a2 ∷ a3 ∷ a4 ∷ a5 ∷ a6 ∷ a7 ∷ a8 ∷ a9 ∷ a10 ∷ a11 ∷ a12 ∷ a13 ∷ a14 ∷ a15 ∷ x ∷ more)) h = let long = h.0 in absurd (omega arith)
