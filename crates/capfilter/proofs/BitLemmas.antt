use Rattle.std.proofs.Common.{◌≡◌, ◌≤◌, ◌<◌, ◌&&◌, ℕ, suc, zero, ◌+◌, ◌-◌, ◌/◌, ◌%◌, ◌^◌, Bool, true, false, cond, List, [], ◌∷◌, ◌++◌, length, take, sym, ◌∙◌, ap, refl, arith, nat_eq, nat_le}
use Rattle.std.proofs.Math.Seq.{take-append-add}
use Rattle.std.proofs.lemmas.List.{take-append-le}
use Rattle.std.proofs.lemmas.Bool.Decides.{nat_tests}
use Rattle.capfilter.specs.Truth.{agree}
use Rattle.capfilter.specs.Fit.{AreBytes}
use Rattle.capfilter.specs.Laws.{byte_bits, bits_of}

equal_test : (a b : ℕ) → nat_eq a b ≡ true → a ≡ b
equal_test a b h = grind (arith, nat_tests)

test_equal : (a b : ℕ) → a ≡ b → nat_eq a b ≡ true
test_equal a b h = grind (arith, nat_tests)

-- the high bits of a byte are those of its quotient
bits_0 : (x y : ℕ) → x < 256 → y < 256 → x / 256 ≡ y / 256 → take 0 (byte_bits x) ≡ take 0 (byte_bits y)
bits_0 x y fx fy q =
    refl

back_0 : (x y : ℕ) → x < 256 → y < 256 → take 0 (byte_bits x) ≡ take 0 (byte_bits y) → x / 256 ≡ y / 256
back_0 x y fx fy h =
    omega arith

bits_1 : (x y : ℕ) → x < 256 → y < 256 → x / 128 ≡ y / 128 → take 1 (byte_bits x) ≡ take 1 (byte_bits y)
bits_1 x y fx fy q =
    let e0 : x / 128 % 2 ≡ y / 128 % 2 = omega arith in
    cc

back_1 : (x y : ℕ) → x < 256 → y < 256 → take 1 (byte_bits x) ≡ take 1 (byte_bits y) → x / 128 ≡ y / 128
back_1 x y fx fy h =
    let e0 : x / 128 % 2 ≡ y / 128 % 2 = cc in
    omega arith

bits_2 : (x y : ℕ) → x < 256 → y < 256 → x / 64 ≡ y / 64 → take 2 (byte_bits x) ≡ take 2 (byte_bits y)
bits_2 x y fx fy q =
    let e0 : x / 128 % 2 ≡ y / 128 % 2 = omega arith in
    let e1 : x / 64 % 2 ≡ y / 64 % 2 = omega arith in
    cc

back_2 : (x y : ℕ) → x < 256 → y < 256 → take 2 (byte_bits x) ≡ take 2 (byte_bits y) → x / 64 ≡ y / 64
back_2 x y fx fy h =
    let e0 : x / 128 % 2 ≡ y / 128 % 2 = cc in
    let e1 : x / 64 % 2 ≡ y / 64 % 2 = cc in
    omega arith

bits_3 : (x y : ℕ) → x < 256 → y < 256 → x / 32 ≡ y / 32 → take 3 (byte_bits x) ≡ take 3 (byte_bits y)
bits_3 x y fx fy q =
    let e0 : x / 128 % 2 ≡ y / 128 % 2 = omega arith in
    let e1 : x / 64 % 2 ≡ y / 64 % 2 = omega arith in
    let e2 : x / 32 % 2 ≡ y / 32 % 2 = omega arith in
    cc

back_3 : (x y : ℕ) → x < 256 → y < 256 → take 3 (byte_bits x) ≡ take 3 (byte_bits y) → x / 32 ≡ y / 32
back_3 x y fx fy h =
    let e0 : x / 128 % 2 ≡ y / 128 % 2 = cc in
    let e1 : x / 64 % 2 ≡ y / 64 % 2 = cc in
    let e2 : x / 32 % 2 ≡ y / 32 % 2 = cc in
    omega arith

bits_4 : (x y : ℕ) → x < 256 → y < 256 → x / 16 ≡ y / 16 → take 4 (byte_bits x) ≡ take 4 (byte_bits y)
bits_4 x y fx fy q =
    let e0 : x / 128 % 2 ≡ y / 128 % 2 = omega arith in
    let e1 : x / 64 % 2 ≡ y / 64 % 2 = omega arith in
    let e2 : x / 32 % 2 ≡ y / 32 % 2 = omega arith in
    let e3 : x / 16 % 2 ≡ y / 16 % 2 = omega arith in
    cc

back_4 : (x y : ℕ) → x < 256 → y < 256 → take 4 (byte_bits x) ≡ take 4 (byte_bits y) → x / 16 ≡ y / 16
back_4 x y fx fy h =
    let e0 : x / 128 % 2 ≡ y / 128 % 2 = cc in
    let e1 : x / 64 % 2 ≡ y / 64 % 2 = cc in
    let e2 : x / 32 % 2 ≡ y / 32 % 2 = cc in
    let e3 : x / 16 % 2 ≡ y / 16 % 2 = cc in
    omega arith

bits_5 : (x y : ℕ) → x < 256 → y < 256 → x / 8 ≡ y / 8 → take 5 (byte_bits x) ≡ take 5 (byte_bits y)
bits_5 x y fx fy q =
    let e0 : x / 128 % 2 ≡ y / 128 % 2 = omega arith in
    let e1 : x / 64 % 2 ≡ y / 64 % 2 = omega arith in
    let e2 : x / 32 % 2 ≡ y / 32 % 2 = omega arith in
    let e3 : x / 16 % 2 ≡ y / 16 % 2 = omega arith in
    let e4 : x / 8 % 2 ≡ y / 8 % 2 = omega arith in
    cc

back_5 : (x y : ℕ) → x < 256 → y < 256 → take 5 (byte_bits x) ≡ take 5 (byte_bits y) → x / 8 ≡ y / 8
back_5 x y fx fy h =
    let e0 : x / 128 % 2 ≡ y / 128 % 2 = cc in
    let e1 : x / 64 % 2 ≡ y / 64 % 2 = cc in
    let e2 : x / 32 % 2 ≡ y / 32 % 2 = cc in
    let e3 : x / 16 % 2 ≡ y / 16 % 2 = cc in
    let e4 : x / 8 % 2 ≡ y / 8 % 2 = cc in
    omega arith

bits_6 : (x y : ℕ) → x < 256 → y < 256 → x / 4 ≡ y / 4 → take 6 (byte_bits x) ≡ take 6 (byte_bits y)
bits_6 x y fx fy q =
    let e0 : x / 128 % 2 ≡ y / 128 % 2 = omega arith in
    let e1 : x / 64 % 2 ≡ y / 64 % 2 = omega arith in
    let e2 : x / 32 % 2 ≡ y / 32 % 2 = omega arith in
    let e3 : x / 16 % 2 ≡ y / 16 % 2 = omega arith in
    let e4 : x / 8 % 2 ≡ y / 8 % 2 = omega arith in
    let e5 : x / 4 % 2 ≡ y / 4 % 2 = omega arith in
    cc

back_6 : (x y : ℕ) → x < 256 → y < 256 → take 6 (byte_bits x) ≡ take 6 (byte_bits y) → x / 4 ≡ y / 4
back_6 x y fx fy h =
    let e0 : x / 128 % 2 ≡ y / 128 % 2 = cc in
    let e1 : x / 64 % 2 ≡ y / 64 % 2 = cc in
    let e2 : x / 32 % 2 ≡ y / 32 % 2 = cc in
    let e3 : x / 16 % 2 ≡ y / 16 % 2 = cc in
    let e4 : x / 8 % 2 ≡ y / 8 % 2 = cc in
    let e5 : x / 4 % 2 ≡ y / 4 % 2 = cc in
    omega arith

bits_7 : (x y : ℕ) → x < 256 → y < 256 → x / 2 ≡ y / 2 → take 7 (byte_bits x) ≡ take 7 (byte_bits y)
bits_7 x y fx fy q =
    let e0 : x / 128 % 2 ≡ y / 128 % 2 = omega arith in
    let e1 : x / 64 % 2 ≡ y / 64 % 2 = omega arith in
    let e2 : x / 32 % 2 ≡ y / 32 % 2 = omega arith in
    let e3 : x / 16 % 2 ≡ y / 16 % 2 = omega arith in
    let e4 : x / 8 % 2 ≡ y / 8 % 2 = omega arith in
    let e5 : x / 4 % 2 ≡ y / 4 % 2 = omega arith in
    let e6 : x / 2 % 2 ≡ y / 2 % 2 = omega arith in
    cc

back_7 : (x y : ℕ) → x < 256 → y < 256 → take 7 (byte_bits x) ≡ take 7 (byte_bits y) → x / 2 ≡ y / 2
back_7 x y fx fy h =
    let e0 : x / 128 % 2 ≡ y / 128 % 2 = cc in
    let e1 : x / 64 % 2 ≡ y / 64 % 2 = cc in
    let e2 : x / 32 % 2 ≡ y / 32 % 2 = cc in
    let e3 : x / 16 % 2 ≡ y / 16 % 2 = cc in
    let e4 : x / 8 % 2 ≡ y / 8 % 2 = cc in
    let e5 : x / 4 % 2 ≡ y / 4 % 2 = cc in
    let e6 : x / 2 % 2 ≡ y / 2 % 2 = cc in
    omega arith

bits_8 : (x y : ℕ) → x < 256 → y < 256 → x ≡ y → take 8 (byte_bits x) ≡ take 8 (byte_bits y)
bits_8 x y fx fy q =
    ap byte_bits q

back_8 : (x y : ℕ) → x < 256 → y < 256 → take 8 (byte_bits x) ≡ take 8 (byte_bits y) → x ≡ y
back_8 x y fx fy h =
    let e0 : x / 128 % 2 ≡ y / 128 % 2 = cc in
    let e1 : x / 64 % 2 ≡ y / 64 % 2 = cc in
    let e2 : x / 32 % 2 ≡ y / 32 % 2 = cc in
    let e3 : x / 16 % 2 ≡ y / 16 % 2 = cc in
    let e4 : x / 8 % 2 ≡ y / 8 % 2 = cc in
    let e5 : x / 4 % 2 ≡ y / 4 % 2 = cc in
    let e6 : x / 2 % 2 ≡ y / 2 % 2 = cc in
    let e7 : x % 2 ≡ y % 2 = cc in
    omega arith

-- part of a byte
part_to : (n : ℕ) → n < 8 → (x y : ℕ) → x < 256 → y < 256 → x / 2 ^ (8 - n) ≡ y / 2 ^ (8 - n) → take n (byte_bits x) ≡ take n (byte_bits y)
part_to zero less x y fx fy q = bits_0 x y fx fy q
part_to (suc zero) less x y fx fy q = bits_1 x y fx fy q
part_to (suc (suc zero)) less x y fx fy q = bits_2 x y fx fy q
part_to (suc (suc (suc zero))) less x y fx fy q = bits_3 x y fx fy q
part_to (suc (suc (suc (suc zero)))) less x y fx fy q = bits_4 x y fx fy q
part_to (suc (suc (suc (suc (suc zero))))) less x y fx fy q = bits_5 x y fx fy q
part_to (suc (suc (suc (suc (suc (suc zero)))))) less x y fx fy q = bits_6 x y fx fy q
part_to (suc (suc (suc (suc (suc (suc (suc zero))))))) less x y fx fy q = bits_7 x y fx fy q
part_to (suc (suc (suc (suc (suc (suc (suc (suc n)))))))) less x y fx fy q = absurd (omega arith)

part_back : (n : ℕ) → n < 8 → (x y : ℕ) → x < 256 → y < 256 → take n (byte_bits x) ≡ take n (byte_bits y) → x / 2 ^ (8 - n) ≡ y / 2 ^ (8 - n)
part_back zero less x y fx fy h = back_0 x y fx fy h
part_back (suc zero) less x y fx fy h = back_1 x y fx fy h
part_back (suc (suc zero)) less x y fx fy h = back_2 x y fx fy h
part_back (suc (suc (suc zero))) less x y fx fy h = back_3 x y fx fy h
part_back (suc (suc (suc (suc zero)))) less x y fx fy h = back_4 x y fx fy h
part_back (suc (suc (suc (suc (suc zero))))) less x y fx fy h = back_5 x y fx fy h
part_back (suc (suc (suc (suc (suc (suc zero)))))) less x y fx fy h = back_6 x y fx fy h
part_back (suc (suc (suc (suc (suc (suc (suc zero))))))) less x y fx fy h = back_7 x y fx fy h
part_back (suc (suc (suc (suc (suc (suc (suc (suc n)))))))) less x y fx fy h = absurd (omega arith)

-- eight bits and more
whole_front : (n x : ℕ) (rest : List ℕ) → 8 ≤ n → take n (byte_bits x ++ rest) ≡ byte_bits x ++ take (n - 8) rest
whole_front n x rest h =
    let split : n ≡ 8 + (n - 8) = omega arith in
    ap (λ (k : ℕ). take k (byte_bits x ++ rest)) split ∙ take-append-add (byte_bits x) rest (n - 8)

part_front : (n x : ℕ) (rest : List ℕ) → n < 8 → take n (byte_bits x ++ rest) ≡ take n (byte_bits x)
part_front n x rest h = take-append-le n (byte_bits x) rest (omega arith)

-- two lists of eight and more
heads : (x y : ℕ) (xs ys : List ℕ) → byte_bits x ++ xs ≡ byte_bits y ++ ys → (byte_bits x ≡ byte_bits y) × (xs ≡ ys)
heads x y xs ys h = (cc, cc)

and_both : (a b : Bool) → (a && b) ≡ true → (a ≡ true) × (b ≡ true)
and_both true b h = (refl, h)
and_both false b h = absurd (cc)

agree_to : (n x y : ℕ) (xs ys : List ℕ) → x < 256 → y < 256 → (agree (n - 8) xs ys ≡ true → take (n - 8) (bits_of xs) ≡ take (n - 8) (bits_of ys))
    → (b : Bool) → nat_le 8 n ≡ b → cond b (nat_eq x y && agree (n - 8) xs ys) (nat_eq (x / 2 ^ (8 - n)) (y / 2 ^ (8 - n))) ≡ true
    → take n (byte_bits x ++ bits_of xs) ≡ take n (byte_bits y ++ bits_of ys)
agree_to n x y xs ys fx fy rest true e h =
    let long = long_means n e in
    let both = and_both (nat_eq x y) (agree (n - 8) xs ys) h in
    whole_front n x (bits_of xs) long
    ∙ ap (λ (k : ℕ). byte_bits k ++ take (n - 8) (bits_of xs)) (equal_test x y both.0)
    ∙ ap (λ (l : List ℕ). byte_bits y ++ l) (rest both.1)
    ∙ sym (whole_front n y (bits_of ys) long)
  where
    long_means : (n : ℕ) → nat_le 8 n ≡ true → 8 ≤ n
    long_means n e = grind (arith, nat_tests)
agree_to n x y xs ys fx fy rest false e h =
    let short = short_means n e in
    part_front n x (bits_of xs) short ∙ part_to n short x y fx fy (equal_test (x / 2 ^ (8 - n)) (y / 2 ^ (8 - n)) h) ∙ sym (part_front n y (bits_of ys) short)
  where
    short_means : (n : ℕ) → nat_le 8 n ≡ false → n < 8
    short_means n e = grind (arith, nat_tests)

agree_back : (n x y : ℕ) (xs ys : List ℕ) → x < 256 → y < 256 → (take (n - 8) (bits_of xs) ≡ take (n - 8) (bits_of ys) → agree (n - 8) xs ys ≡ true)
    → (b : Bool) → nat_le 8 n ≡ b → take n (byte_bits x ++ bits_of xs) ≡ take n (byte_bits y ++ bits_of ys)
    → cond b (nat_eq x y && agree (n - 8) xs ys) (nat_eq (x / 2 ^ (8 - n)) (y / 2 ^ (8 - n))) ≡ true
agree_back n x y xs ys fx fy rest true e h =
    let long = long_means n e in
    let both = heads x y (take (n - 8) (bits_of xs)) (take (n - 8) (bits_of ys)) (sym (whole_front n x (bits_of xs) long) ∙ h ∙ whole_front n y (bits_of ys) long) in
    ap (λ (c : Bool). c && agree (n - 8) xs ys) (test_equal x y (back_8 x y fx fy both.0)) ∙ rest both.1
  where
    long_means : (n : ℕ) → nat_le 8 n ≡ true → 8 ≤ n
    long_means n e = grind (arith, nat_tests)
agree_back n x y xs ys fx fy rest false e h =
    let short = short_means n e in
    test_equal (x / 2 ^ (8 - n)) (y / 2 ^ (8 - n)) (part_back n short x y fx fy (sym (part_front n x (bits_of xs) short) ∙ h ∙ part_front n y (bits_of ys) short))
  where
    short_means : (n : ℕ) → nat_le 8 n ≡ false → n < 8
    short_means n e = grind (arith, nat_tests)

pub agrees_to : (n : ℕ) (a b : List ℕ) → AreBytes a → AreBytes b → length a ≡ length b → agree n a b ≡ true → take n (bits_of a) ≡ take n (bits_of b)
agrees_to n [] [] fa fb e h = refl
agrees_to n [] (y ∷ ys) fa fb e h = absurd (omega arith)
agrees_to n (x ∷ xs) [] fa fb e h = absurd (omega arith)
agrees_to n (x ∷ xs) (y ∷ ys) fa fb e h = agree_to n x y xs ys fa.0 fb.0 (agrees_to (n - 8) xs ys fa.1 fb.1 (omega arith)) (nat_le 8 n) refl h

pub agrees_back : (n : ℕ) (a b : List ℕ) → AreBytes a → AreBytes b → length a ≡ length b → take n (bits_of a) ≡ take n (bits_of b) → agree n a b ≡ true
agrees_back n [] [] fa fb e h = refl
agrees_back n [] (y ∷ ys) fa fb e h = absurd (omega arith)
agrees_back n (x ∷ xs) [] fa fb e h = absurd (omega arith)
agrees_back n (x ∷ xs) (y ∷ ys) fa fb e h = agree_back n x y xs ys fa.0 fb.0 (agrees_back (n - 8) xs ys fa.1 fb.1 (omega arith)) (nat_le 8 n) refl h
