use Rattle.std.proofs.Common.{◌≡◌, ◌≤◌, ◌<◌, ◌&&◌, ℕ, suc, zero, ◌+◌, ◌-◌, ◌*◌, ◌/◌, ◌%◌, Bool, true, false, cond, List, [], ◌∷◌, ◌++◌, length, Option, Some, None, refl, arith, nat_eq, nat_le, subst, ◌⊎◌, inl, inr, flat_map, replicate}
use Rattle.std.specs.Option.{option_map, option_and_then, option_or}
use Rattle.std.specs.Str.Parse.{digits_value}
use Rattle.std.proofs.lemmas.Option.{option_and_then_some, cond_some, same_Some}
use Rattle.std.proofs.lemmas.Bool.Decides.{nat_tests}
use Rattle.streamkey.specs.declared.addr.Addr.{Addr}
use Rattle.streamkey.specs.declared.addr.Addr.TheVariants.{V4, V6}
use Rattle.capfilter.specs.declared.end_test.EndTest.{EndTest}
use Rattle.capfilter.specs.declared.end_test.EndTest.TheVariants as tests
use Rattle.capfilter.specs.declared.end_test.Field.{Field}
use Rattle.capfilter.specs.declared.end_test.Field.TheVariants as fields
use Rattle.capfilter.specs.declared.prim.Primitive.{Primitive}
use Rattle.capfilter.specs.declared.prim.Primitive.TheVariants.{Tcp, Udp, Ip, Ip6, OfEnd}
use Rattle.capfilter.specs.Expr.{Expr, Test, Not, And, Or}
use Rattle.textout.specs.Numbers.{number, are_digits}
use Rattle.capfilter.specs.Numbers.{numbers, with_first, parts}
use Rattle.capfilter.specs.Addresses.{octet, group, of_octets, version_4, round_gap, groups, some_groups, of_groups, of_halves, of_texts, group_bytes, version_6, address}
use Rattle.capfilter.specs.Ends.{width, has_leading_zero, bits, net_parts, end_test}
use Rattle.capfilter.specs.Grammar.{Tokens, IsPrim, IsExpr, IsPrimTerm, IsNegation, IsBracketed, IsTerm, IsExprOf}
use Rattle.capfilter.specs.Fit.{AreBytes, IsFitAddress, IsFitTest, IsFitPrim, IsFit}

-- numbers within a limit
abbrev AreUpTo : ℕ → List ℕ → Type 0
AreUpTo limit [] = Unit {0}
AreUpTo limit (n ∷ ns) = (n ≤ limit) × AreUpTo limit ns

AreUpTo-append : (limit : ℕ) (xs ys : List ℕ) → AreUpTo limit xs → AreUpTo limit ys → AreUpTo limit (xs ++ ys)
AreUpTo-append limit [] ys h g = g
AreUpTo-append limit (x ∷ xs) ys h g = (h.0, AreUpTo-append limit xs ys h.1 g)

zeros_up_to : (limit k : ℕ) → AreUpTo limit (replicate k 0)
zeros_up_to limit zero = tt
zeros_up_to limit (suc k) = (omega arith, zeros_up_to limit k)

test_within : (a b limit : ℕ) (c : Bool) → cond (c && nat_le a limit) (Some a) None ≡ Some b → b ≤ limit
test_within a b limit true h = grind (arith, nat_tests)
test_within a b limit false h = absurd (cc)

-- a number that is read is within its limit
number_within : (radix most limit : ℕ) (ds : List ℕ) (n : ℕ) → number radix most limit ds ≡ Some n → n ≤ limit
number_within radix most limit ds n h = test_within (digits_value radix ds) n limit (are_digits radix most ds) h

numbers_within : (limit most : ℕ) (read : List ℕ → Option ℕ) → ((ds : List ℕ) (n : ℕ) → read ds ≡ Some n → n ≤ limit)
    → (ps : List (List ℕ)) (ns : List ℕ) → numbers most read ps ≡ Some ns → AreUpTo limit ns
numbers_within limit zero read each [] ns h = subst (AreUpTo limit) (same_Some [] ns h) tt
numbers_within limit (suc most) read each [] ns h = subst (AreUpTo limit) (same_Some [] ns h) tt
numbers_within limit zero read each (p ∷ ps) ns h = absurd (cc)
numbers_within limit (suc most) read each (p ∷ ps) ns h = by_first (read p) refl h (numbers_within limit most read each ps)
  where
    by_rest : (n : ℕ) → n ≤ limit → (o : Option (List ℕ)) → with_first n o ≡ Some ns → ((ms : List ℕ) → o ≡ Some ms → AreUpTo limit ms) → AreUpTo limit ns
    by_rest n le None h rest = absurd (cc)
    by_rest n le (Some ms) h rest = subst (AreUpTo limit) (same_Some (n ∷ ms) ns h) (le, rest ms refl)

    by_first : (o : Option ℕ) → read p ≡ o → option_and_then (λ n. with_first n (numbers most read ps)) o ≡ Some ns → ((ms : List ℕ) → numbers most read ps ≡ Some ms → AreUpTo limit ms) → AreUpTo limit ns
    by_first None e h rest = absurd (cc)
    by_first (Some n) e h rest = by_rest n (each p n e) (numbers most read ps) h rest

bytes_up_to : (ns : List ℕ) → AreUpTo 255 ns → AreBytes ns
bytes_up_to [] h = tt
bytes_up_to (n ∷ ns) h = let le = h.0 in (omega arith, bytes_up_to ns h.1)

group_bytes_fit : (ns : List ℕ) → AreUpTo 65535 ns → AreBytes (flat_map group_bytes ns)
group_bytes_fit [] h = tt
group_bytes_fit (n ∷ ns) h =
    let le = h.0 in
    let high : n / 256 < 256 = omega arith in
    let low : n % 256 < 256 = omega arith in
    (high, (low, group_bytes_fit ns h.1))

group_bytes_long : (ns : List ℕ) → length (flat_map group_bytes ns) ≡ 2 * length ns
group_bytes_long [] = omega arith
group_bytes_long (n ∷ ns) = let rest = group_bytes_long ns in omega arith

octets_fit : (ns : List ℕ) (a : Addr) → AreUpTo 255 ns → of_octets ns ≡ Some a → IsFitAddress a
octets_fit ns a h e =
    let both = cond_some (nat_eq (length ns) 4) (V4 ns) a e in
    subst IsFitAddress both.1 (is_four (length ns) both.0, bytes_up_to ns h)
  where
    is_four : (n : ℕ) → nat_eq n 4 ≡ true → n ≡ 4
    is_four n e = grind (arith, nat_tests)

is_eight : (n : ℕ) → nat_eq n 8 ≡ true → n ≡ 8
is_eight n e = grind (arith, nat_tests)

groups_fit : (ns : List ℕ) (a : Addr) → AreUpTo 65535 ns → of_groups ns ≡ Some a → IsFitAddress a
groups_fit ns a h e =
    let both = cond_some (nat_eq (length ns) 8) (V6 (flat_map group_bytes ns)) a e in
    let eight = is_eight (length ns) both.0 in
    let long : length (flat_map group_bytes ns) ≡ 16 = omega (arith, group_bytes_long ns, eight) in
    subst IsFitAddress both.1 (long, group_bytes_fit ns h)

halves_fit : (front back : List ℕ) (a : Addr) → AreUpTo 65535 front → AreUpTo 65535 back → of_halves front back ≡ Some a → IsFitAddress a
halves_fit front back a f b e = by_room (nat_le (length front + length back) 7) e
  where
    by_room : (c : Bool) → cond c (of_groups (front ++ replicate (8 - (length front + length back)) 0 ++ back)) None ≡ Some a → IsFitAddress a
    by_room true e = groups_fit _ a (AreUpTo-append 65535 (front ++ replicate (8 - (length front + length back)) 0) back (AreUpTo-append 65535 front (replicate (8 - (length front + length back)) 0) f (zeros_up_to 65535 (8 - (length front + length back)))) b) e
    by_room false e = absurd (cc)

some_groups_within : (text ns : List ℕ) → some_groups text ≡ Some ns → AreUpTo 65535 ns
some_groups_within [] ns h = subst (AreUpTo 65535) (same_Some [] ns h) tt
some_groups_within (x ∷ xs) ns h = numbers_within 65535 8 group (number_within 16 4 65535) (parts 58 (x ∷ xs)) ns h

texts_fit : (o : Option (List ℕ × List ℕ)) (text : List ℕ) (a : Addr) → of_texts o text ≡ Some a → IsFitAddress a
texts_fit None text a h =
    option_and_then_some of_groups (groups text) a h (λ ns e g. groups_fit ns a (numbers_within 65535 8 group (number_within 16 4 65535) (parts 58 text) ns e) g)
texts_fit (Some halves) text a h =
    option_and_then_some (λ front. option_and_then (λ back. of_halves front back) (some_groups halves.1)) (some_groups halves.0) a h
    (λ front e g. option_and_then_some (λ back. of_halves front back) (some_groups halves.1) a g
    (λ back f k. halves_fit front back a (some_groups_within halves.0 front e) (some_groups_within halves.1 back f) k))

version_4_fit : (text : List ℕ) (a : Addr) → version_4 text ≡ Some a → IsFitAddress a
unfolding version_4
version_4_fit text a h =
    option_and_then_some of_octets (numbers 4 octet (parts 46 text)) a h (λ ns e g. octets_fit ns a (numbers_within 255 4 octet (number_within 10 3 255) (parts 46 text) ns e) g)

version_6_fit : (text : List ℕ) (a : Addr) → version_6 text ≡ Some a → IsFitAddress a
unfolding version_6
version_6_fit text a h = texts_fit (round_gap text) text a h

or_fit : (o p : Option Addr) (a : Addr) → ((x : Addr) → o ≡ Some x → IsFitAddress x) → ((x : Addr) → p ≡ Some x → IsFitAddress x) → option_or o p ≡ Some a → IsFitAddress a
or_fit None p a f g h = g a h
or_fit (Some x) p a f g h = f a h

-- an address that is read has its bytes
address_fit : (text : List ℕ) (a : Addr) → address text ≡ Some a → IsFitAddress a
unfolding address
address_fit text a h = or_fit (version_4 text) (version_6 text) a (version_4_fit text) (version_6_fit text) h

bits_within : (most : ℕ) (ds : List ℕ) (n : ℕ) → bits most ds ≡ Some n → n ≤ most
bits_within most ds n h = by_zero (has_leading_zero ds) h
  where
    by_zero : (b : Bool) → cond b None (number 10 3 most ds) ≡ Some n → n ≤ most
    by_zero true h = absurd (cc)
    by_zero false h = number_within 10 3 most ds n h

map_fit : {A : Type 0} (f : A → EndTest) (o : Option A) (t : EndTest) → option_map f o ≡ Some t → ((x : A) → o ≡ Some x → IsFitTest (f x)) → IsFitTest t
map_fit f None t h each = absurd (cc)
map_fit f (Some x) t h each = subst IsFitTest (same_Some (f x) t h) (each x refl)

net_fit : (ps : List (List ℕ)) (t : EndTest) → net_parts ps ≡ Some t → IsFitTest t
net_fit [] t h = absurd (cc)
net_fit (a ∷ []) t h = absurd (cc)
net_fit (a ∷ b ∷ []) t h =
    option_and_then_some (λ x. option_map (λ n. tests.Net x n) (bits (width x) b)) (address a) t h
    (λ x e g. map_fit (λ n. tests.Net x n) (bits (width x) b) t g (λ n f. (address_fit a x e, bits_within (width x) b n f)))
net_fit (a ∷ b ∷ c ∷ more) t h = absurd (cc)

test_fit : (field : Field) (text : List ℕ) (t : EndTest) → end_test field text ≡ Some t → IsFitTest t
unfolding end_test
test_fit fields.Host text t h = map_fit (λ a. tests.Host a) (address text) t h (λ a e. address_fit text a e)
test_fit fields.Net text t h = net_fit (parts 47 text) t h
test_fit fields.Port text t h = map_fit (λ n. tests.Port n) (number 10 5 65535 text) t h (λ n e. port_fit n (number_within 10 5 65535 text n e))
  where
    port_fit : (n : ℕ) → n ≤ 65535 → n < 65536
    port_fit n le = omega arith

prim_fit : (ts : Tokens) (prim : Primitive) → IsPrim ts prim → IsFitPrim prim
prim_fit ts Tcp h = tt
prim_fit ts Udp h = tt
prim_fit ts Ip h = tt
prim_fit ts Ip6 h = tt
prim_fit ts (OfEnd side t) (field, text, is, e) = test_fit field text t is

prim_term_fit : (ts : Tokens) (e : Expr) → IsPrimTerm ts e → IsFit e
prim_term_fit ts (Test prim) h = prim_fit ts prim h
prim_term_fit ts (Not inner) h = absurd h
prim_term_fit ts (And left right) h = absurd h
prim_term_fit ts (Or left right) h = absurd h

expr_fit : (Term : Tokens → Expr → Type 0) → ((ts : Tokens) (e : Expr) → Term ts e → IsFit e) → (e : Expr) (ts : Tokens) → IsExpr Term ts e → IsFit e
expr_fit Term fit (Test prim) ts h = fit ts (Test prim) h
expr_fit Term fit (Not inner) ts h = fit ts (Not inner) h
expr_fit Term fit (And left right) ts (inl h) = fit ts (And left right) h
expr_fit Term fit (And left right) ts (inr (front, back, e, l, r)) = (expr_fit Term fit left front l, fit back right r)
expr_fit Term fit (Or left right) ts (inl h) = fit ts (Or left right) h
expr_fit Term fit (Or left right) ts (inr (front, back, e, l, r)) = (expr_fit Term fit left front l, fit back right r)

negation_fit : (Term : Tokens → Expr → Type 0) → ((ts : Tokens) (e : Expr) → Term ts e → IsFit e) → (e : Expr) (ts : Tokens) → IsNegation Term ts e → IsFit e
negation_fit Term fit (Test prim) ts h = absurd h
negation_fit Term fit (Not inner) ts (rest, e, h) = fit rest inner h
negation_fit Term fit (And left right) ts h = absurd h
negation_fit Term fit (Or left right) ts h = absurd h

term_cases_fit : (Term : Tokens → Expr → Type 0) → ((ts : Tokens) (e : Expr) → Term ts e → IsFit e) → (ts : Tokens) (e : Expr)
    → IsPrimTerm ts e ⊎ IsNegation Term ts e ⊎ IsBracketed Term ts e → IsFit e
term_cases_fit Term fit ts e (inl h) = prim_term_fit ts e h
term_cases_fit Term fit ts e (inr (inl h)) = negation_fit Term fit e ts h
term_cases_fit Term fit ts e (inr (inr (inner, is, h))) = expr_fit Term fit e inner h

term_fit : (n : ℕ) (ts : Tokens) (e : Expr) → IsTerm n ts e → IsFit e
term_fit zero ts e h = prim_term_fit ts e h
term_fit (suc n) ts e h = term_cases_fit (IsTerm n) (term_fit n) ts e h

-- the numbers of an expression are in their ranges
pub fit_of_expr : (n : ℕ) (ts : Tokens) (e : Expr) → IsExprOf n ts e → IsFit e
fit_of_expr n ts e h = expr_fit (IsTerm n) (term_fit n) e ts h
