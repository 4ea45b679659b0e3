use Rattle.std.proofs.Common.{◌≡◌, ◌≤◌, ◌<◌, not, ℕ, suc, zero, ◌^◌, Bool, true, false, cond, List, [], ◌∷◌, ◌++◌, length, get_or, Some, None, ◌∙◌, ap, refl, arith, nat_eq}
use Rattle.std.specs.Option.{option_map, option_and_then}
use Rattle.std.specs.List.{list_all}
use Rattle.std.specs.Fmt.{decimal}
use Rattle.std.proofs.lemmas.Fmt.{first_decimal, decimal_digit}
use Rattle.std.proofs.lemmas.Bool.Decides.{nat_tests}
use Rattle.streamkey.specs.declared.addr.Addr.{Addr}
use Rattle.streamkey.specs.declared.addr.Addr.TheVariants.{V4, V6}
use Rattle.capfilter.specs.declared.end_test.EndTest.{EndTest}
use Rattle.capfilter.specs.declared.end_test.EndTest.TheVariants.{Host, Net, Port}
use Rattle.capfilter.specs.declared.end_test.Field.{Field}
use Rattle.capfilter.specs.declared.end_test.Field.TheVariants as fields
use Rattle.textout.specs.Numbers.{number}
use Rattle.capfilter.specs.Ends.{width, has_leading_zero, bits, net_parts, end_test}
use Rattle.capfilter.specs.Tokens.{is_plain}
use Rattle.capfilter.specs.Canonical.{address_text}
use Rattle.capfilter.specs.Fit.{IsFitTest}
use Rattle.capfilter.proofs.DigitLemmas.{parts-lacks, parts-at, all-append, digits_plain, digits_lack, number-decimal, decimal_plain, decimal_lacks}
use Rattle.capfilter.proofs.AddressTexts.{address-text, address_passes}

-- the word that a test begins with, and what stands behind it
abbrev pub test_field : EndTest → Field
test_field (Host a) = fields.Host
test_field (Net a n) = fields.Net
test_field (Port port) = fields.Port

abbrev pub value_text : EndTest → List ℕ
value_text (Host a) = address_text a
value_text (Net a n) = address_text a ++ (47 ∷ decimal n)
value_text (Port port) = decimal port

-- no zero leads a decimal text
leading : (ds : List ℕ) → (1 < length ds → 48 < get_or ds 0 0) → has_leading_zero ds ≡ false
leading [] h = refl
leading (x ∷ []) h = refl
leading (x ∷ y ∷ ds) h = apart x (h (omega arith))
  where
    apart : (x : ℕ) → 48 < x → nat_eq x 48 ≡ false
    apart x h = grind (arith, nat_tests)

no_leading_zero : (n : ℕ) → n < 2 ^ 64 → has_leading_zero (decimal n) ≡ false
no_leading_zero zero small = ap has_leading_zero (decimal_digit 0 (omega arith))
no_leading_zero (suc n) small = leading (decimal (suc n)) (λ long. first_decimal (suc n) (omega arith) small)

bits-decimal : (most n : ℕ) → n ≤ most → most ≤ 128 → bits most (decimal n) ≡ Some n
bits-decimal most n le small =
    ap (λ (b : Bool). cond b None (number 10 3 most (decimal n))) (no_leading_zero n (omega arith))
    ∙ number-decimal 3 most n (omega arith) (omega arith) le (omega arith)

width_small : (a : Addr) → width a ≤ 128
width_small (V4 bytes) = omega arith
width_small (V6 bytes) = omega arith

-- a test is read from its text
pub test-text : (t : EndTest) → IsFitTest t → end_test (test_field t) (value_text t) ≡ Some t
unfolding end_test
test-text (Host a) h = ap (option_map (λ a. Host a)) (address-text a h)
test-text (Net a n) h =
    let small : n ≤ 128 = omega (arith, width_small a, h.1) in
    ap net_parts (parts-at 47 (address_text a) (decimal n) (address_passes (λ b. not (nat_eq b 47)) (λ ds d. digits_lack 47 16 ds (omega arith) (omega arith) d) refl refl a h.0)
    ∙ ap (λ (ps : List (List ℕ)). address_text a ∷ ps) (parts-lacks 47 (decimal n) (decimal_lacks 47 n (omega arith) (omega arith))))
    ∙ ap (option_and_then (λ address. option_map (λ n. Net address n) (bits (width address) (decimal n)))) (address-text a h.0)
    ∙ ap (option_map (λ n. Net a n)) (bits-decimal (width a) n h.1 (width_small a))
test-text (Port port) h = ap (option_map (λ n. Port n)) (number-decimal 5 65535 port (omega arith) (omega arith) (omega arith) (omega arith))

-- and that is one token
pub test_plain : (t : EndTest) → IsFitTest t → list_all is_plain (value_text t) ≡ true
test_plain (Host a) h = address_passes is_plain (λ ds d. digits_plain 16 ds (omega arith) d) refl refl a h
test_plain (Net a n) h =
    let small : n ≤ 128 = omega (arith, width_small a, h.1) in
    all-append is_plain (address_text a) (47 ∷ decimal n) (address_passes is_plain (λ ds d. digits_plain 16 ds (omega arith) d) refl refl a h.0) (decimal_plain n (omega arith))
test_plain (Port port) h = decimal_plain port (omega arith)
