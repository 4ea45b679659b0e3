-- The canonical text of a filter is ASCII.
use Rattle.std.proofs.Common.{◌≡◌, ◌≤◌, ◌<◌, ◌&&◌, ℕ, ◌^◌, Bool, true, false, List, [], ◌∷◌, ◌++◌, ◌∙◌, ap, refl, arith, codes, nat_le}
use Rattle.std.specs.List.{list_all}
use Rattle.std.specs.Str.{IsAscii, IsUtf8}
use Rattle.std.specs.Fmt.{decimal}
use Rattle.std.specs.Char.{digit_value}
use Rattle.std.specs.Str.Parse.{AllDigits}
use Rattle.std.proofs.lemmas.Bool.{and_parts}
use Rattle.std.proofs.lemmas.Bool.Decides.{nat_tests}
use Rattle.std.proofs.lemmas.Fmt.{decimal_is_IsNumeral}
use Rattle.std.proofs.lemmas.Str.{IsUtf8-from_ascii}
use Rattle.std.proofs.lemmas.Str.Ascii.{IsAscii-nil, IsAscii-cons}
use Rattle.streamkey.specs.declared.addr.Addr.{Addr}
use Rattle.streamkey.specs.declared.addr.Addr.TheVariants.{V4, V6}
use Rattle.capfilter.specs.declared.end_test.EndTest.{EndTest}
use Rattle.capfilter.specs.declared.end_test.EndTest.TheVariants.{Host, Net, Port}
use Rattle.capfilter.specs.declared.prim.Side.TheVariants as sides
use Rattle.capfilter.specs.declared.prim.Primitive.{Primitive}
use Rattle.capfilter.specs.declared.prim.Primitive.TheVariants.{Tcp, Udp, Ip, Ip6, OfEnd}
use Rattle.capfilter.specs.Expr.{Expr, Test, Not, And, Or}
use Rattle.capfilter.specs.Ends.{width}
use Rattle.capfilter.specs.Canonical.{address_text, test_text, prim_text, canonical}
use Rattle.capfilter.specs.Fit.{IsFitAddress, IsFitTest, IsFitPrim, IsFit}
use Rattle.capfilter.proofs.DigitLemmas.{all-append, all_digits, AllDigits-more}
use Rattle.capfilter.proofs.AddressTexts.{address_passes}

-- whether a byte is ASCII
abbrev low : ℕ → Bool
low b = nat_le b 127

low_means : (b : ℕ) → low b ≡ true → b < 128
low_means b h = grind (arith, nat_tests)

digit_low : (c : ℕ) → digit_value c < 16 → low c ≡ true
digit_low c h = grind (arith, nat_tests)

digits_low : (ds : List ℕ) → AllDigits 16 ds → list_all low ds ≡ true
digits_low = all_digits 16 low digit_low

decimal_low : (n : ℕ) → n < 2 ^ 64 → list_all low (decimal n) ≡ true
decimal_low n small = digits_low (decimal n) (AllDigits-more 10 16 (decimal n) (omega arith) (decimal_is_IsNumeral n small).0.1)

address_low : (a : Addr) → IsFitAddress a → list_all low (address_text a) ≡ true
address_low = address_passes low digits_low refl refl

width_small : (a : Addr) (n : ℕ) → n ≤ width a → n < 2 ^ 64
width_small (V4 bytes) n h = omega arith
width_small (V6 bytes) n h = omega arith

test_low : (t : EndTest) → IsFitTest t → list_all low (test_text t) ≡ true
unfolding test_text
test_low (Host a) h = all-append low (codes "host ") (address_text a) refl (address_low a h)
test_low (Net a n) h =
    all-append low ((codes "net " ++ address_text a) ++ codes "/") (decimal n)
    (all-append low (codes "net " ++ address_text a) (codes "/") (all-append low (codes "net ") (address_text a) refl (address_low a h.0)) refl)
    (decimal_low n (width_small a n h.1))
test_low (Port port) h = all-append low (codes "port ") (decimal port) refl (decimal_low port (omega arith))

prim_low : (prim : Primitive) → IsFitPrim prim → list_all low (prim_text prim) ≡ true
prim_low Tcp h = refl
prim_low Udp h = refl
prim_low Ip h = refl
prim_low Ip6 h = refl
prim_low (OfEnd sides.Either t) h = test_low t h
prim_low (OfEnd sides.Source t) h = all-append low (codes "src ") (test_text t) refl (test_low t h)
prim_low (OfEnd sides.Target t) h = all-append low (codes "dst ") (test_text t) refl (test_low t h)

join_low : (x word y : List ℕ) → list_all low x ≡ true → list_all low word ≡ true → list_all low y ≡ true → list_all low (codes "(" ++ (x ++ (word ++ (y ++ codes ")")))) ≡ true
join_low x word y h w g =
    all-append low (codes "(") (x ++ (word ++ (y ++ codes ")"))) refl
    (all-append low x (word ++ (y ++ codes ")")) h (all-append low word (y ++ codes ")") w (all-append low y (codes ")") g refl)))

expr_low : (e : Expr) → IsFit e → list_all low (canonical e) ≡ true
expr_low (Test prim) h = prim_low prim h
expr_low (Not inner) h = all-append low (codes "not ") (canonical inner) refl (expr_low inner h)
expr_low (And left right) h = join_low (canonical left) (codes " and ") (canonical right) (expr_low left h.0) refl (expr_low right h.1)
expr_low (Or left right) h = join_low (canonical left) (codes " or ") (canonical right) (expr_low left h.0) refl (expr_low right h.1)

ascii : (xs : List ℕ) → list_all low xs ≡ true → IsAscii xs
ascii [] h = IsAscii-nil
ascii (x ∷ xs) h = let both = and_parts (low x) (list_all low xs) h in IsAscii-cons x xs (low_means x both.0) (ascii xs both.1)

pub canonical_text : (e : Expr) → IsFit e → IsUtf8 (canonical e)
canonical_text e h = IsUtf8-from_ascii (canonical e) (ascii (canonical e) (expr_low e h))
