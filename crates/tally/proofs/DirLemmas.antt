-- Lists of directions that ascend: one has all of some elements, and it is in the report's order.
use Rattle.std.proofs.Common.{◌≡◌, ℕ, zero, suc, ◌+◌, ◌*◌, ◌≤◌, ◌<◌, ◌≢◌, ◌⊎◌, inl, inr, Bool, true, false, List, [], ◌∷◌, ◌++◌, length, refl, ap, sym, ◌∙◌, subst, arith, map, flat_map}
use Rattle.std.specs.Prelude.{⊤, cond, nat_lt, ◌==◌}
use Rattle.std.specs.List.{Contains, sum_by}
use Rattle.std.specs.List.Sorted.{IsPermutation}
use Rattle.std.proofs.lemmas.Bool.Decides.{nat_tests}
use Rattle.std.proofs.lemmas.List.{append_assoc}
use Rattle.std.proofs.lemmas.List.Sums.{sum_by-cons}
use Rattle.std.proofs.lemmas.Grind.{flat_map-append}
use Rattle.std.proofs.lemmas.List.Sorted.{Contains-permutation, IsPermutation-append_comm, IsPermutation-append_left, IsPermutation-append_right, IsPermutation-refl, IsPermutation-sym, IsPermutation-trans, sum_by-IsPermutation}
use Rattle.evring.specs.declared.way.Way.{Way}
use Rattle.evring.specs.declared.way.Way.TheVariants.{Fore, Back}
use Rattle.convo.specs.declared.dir_total.DirTotal.{DirTotal}
use Rattle.streamdefs.specs.Lists.{Each, how_many, total}
use Rattle.streamdefs.specs.Terms.{Terms}
use Rattle.streamdefs.specs.Core.{Line}
use Rattle.streamdefs.specs.Totals.{Total, gap_bytes}
use Rattle.streamdefs.specs.Report.{Tallied, tallied_on, by_number, put_tallied, bytes_line, dir_line, numbers_of}
use Rattle.tally.specs.Totals.{payload_of, line_of}
use Rattle.tally.specs.Dirs.{Ascend, joined, place_of}
use Rattle.tally.specs.DirLaws.{AreApart, OneList, SumsAreTheCores, RunIsInOrder, LinesAreTheReports, IsWhole, dir_of, dirs_of, dirs_on}
use Rattle.tally.proofs.MergeLemmas.{From, Rises, rises, ascend}

-- Elements

abbrev Has : List DirTotal → DirTotal → Type 0
Has [] z = ⊥
Has (x ∷ xs) z = (x ≡ z) ⊎ Has xs z

has : (xs : List DirTotal) (z : DirTotal) → Contains xs z → Has xs z
has [] z (k, l, e) = absurd (omega (arith, l))
has (x ∷ xs) z (zero, l, e) = inl e
has (x ∷ xs) z (suc k, l, e) = inr (has xs z (k, omega (arith, l), e))

contains : (xs : List DirTotal) (z : DirTotal) → Has xs z → Contains xs z
contains [] z h = absurd h
contains (x ∷ xs) z (inl e) = (0, omega arith, e)
contains (x ∷ xs) z (inr h) = behind (contains xs z h)
  where
    behind : Contains xs z → Contains (x ∷ xs) z
    behind (k, l, e) = (suc k, omega (arith, l), e)

has_same : (xs ys : List DirTotal) (z : DirTotal) → IsPermutation xs ys → Has xs z → Has ys z
has_same xs ys z p h = has ys z (Contains-permutation xs ys z p (contains xs z h))

each_has : (P : DirTotal → Type 0) (xs : List DirTotal) (z : DirTotal) → Each P xs → Has xs z → P z
each_has P [] z e h = absurd h
each_has P (x ∷ xs) z e (inl same) = subst P same e.0
each_has P (x ∷ xs) z e (inr h) = each_has P xs z e.1 h

-- Places that rise

abbrev Beyond : DirTotal → List DirTotal → Type 0
Beyond x ys = Each (λ (y : DirTotal). place_of x < place_of y) ys

abbrev Strict : List DirTotal → Type 0
Strict [] = ⊤
Strict (x ∷ xs) = Beyond x xs × Strict xs

abbrev taken : ℕ → List DirTotal → ℕ
taken place xs = how_many (λ (d : DirTotal). place_of d == place) xs

first_taken : (x : DirTotal) (xs : List DirTotal) → taken (place_of x) (x ∷ xs) ≡ suc (taken (place_of x) xs)
first_taken x xs = by (place_of x == place_of x) refl
  where
    by : (b : Bool) → (place_of x == place_of x) ≡ b → cond b (suc (taken (place_of x) xs)) (taken (place_of x) xs) ≡ suc (taken (place_of x) xs)
    by true t = refl
    by false t = absurd (grind (arith, nat_tests, t))

behind_taken : (place : ℕ) (x : DirTotal) (xs : List DirTotal) → taken place xs ≤ taken place (x ∷ xs)
behind_taken place x xs = by (place_of x == place)
  where
    by : (b : Bool) → taken place xs ≤ cond b (suc (taken place xs)) (taken place xs)
    by true = omega arith
    by false = omega arith

apart_behind : (x : DirTotal) (xs : List DirTotal) → AreApart (x ∷ xs) → AreApart xs
apart_behind x xs a place = omega (arith, a place, behind_taken place x xs)

free : (place : ℕ) (xs : List DirTotal) → taken place xs ≤ 0 → Each (λ (y : DirTotal). place_of y ≢ place) xs
free place [] l = tt
free place (x ∷ xs) l = by (free place xs) (place_of x == place) refl l
  where
    Rest : Type 0
    Rest = taken place xs ≤ 0 → Each (λ (y : DirTotal). place_of y ≢ place) xs

    by : Rest → (b : Bool) → (place_of x == place) ≡ b → cond b (suc (taken place xs)) (taken place xs) ≤ 0 → Each (λ (y : DirTotal). place_of y ≢ place) (x ∷ xs)
    by rest true t l = absurd (omega (arith, l))
    by rest false t l = ((λ e. grind (arith, nat_tests, t, e)), rest l)

none_there : (x : DirTotal) (xs : List DirTotal) → AreApart (x ∷ xs) → Each (λ (y : DirTotal). place_of y ≢ place_of x) xs
none_there x xs a = free (place_of x) xs (omega (arith, a (place_of x), first_taken x xs))

strict : (xs : List DirTotal) → Rises xs → AreApart xs → Strict xs
strict [] r a = tt
strict (x ∷ xs) r a = (beyond xs r.0 (none_there x xs a), strict xs r.1 (apart_behind x xs a))
  where
    beyond : (ys : List DirTotal) → From x ys → Each (λ (y : DirTotal). place_of y ≢ place_of x) ys → Beyond x ys
    beyond [] f n = tt
    beyond (y ∷ ys) f n = ((let low = f.0 in let other = n.0 in grind (arith, low, other)), beyond ys f.1 n.1)

one_order : (xs ys : List DirTotal) → Strict xs → Strict ys → ((z : DirTotal) → Has xs z → Has ys z) → ((z : DirTotal) → Has ys z → Has xs z) → xs ≡ ys
one_order [] [] s t f g = refl
one_order [] (y ∷ ys) s t f g = absurd (g y (inl refl))
one_order (x ∷ xs) [] s t f g = absurd (f x (inl refl))
one_order (x ∷ xs) (y ∷ ys) s t f g = by (one_order xs ys s.1 t.1) (f x (inl refl)) (g y (inl refl))
  where
    Rest : Type 0
    Rest = ((z : DirTotal) → Has xs z → Has ys z) → ((z : DirTotal) → Has ys z → Has xs z) → xs ≡ ys

    left : x ≡ y → (z : DirTotal) → Has xs z → Has (y ∷ ys) z → Has ys z
    left e z h (inr k) = k
    left e z h (inl same) = absurd (let far = each_has (λ (w : DirTotal). place_of x < place_of w) xs z s.0 h in omega (arith, far, ap place_of e, ap place_of same))

    right : x ≡ y → (z : DirTotal) → Has ys z → Has (x ∷ xs) z → Has xs z
    right e z h (inr k) = k
    right e z h (inl same) = absurd (let far = each_has (λ (w : DirTotal). place_of y < place_of w) ys z t.0 h in omega (arith, far, ap place_of e, ap place_of same))

    equal : Rest → x ≡ y → x ∷ xs ≡ y ∷ ys
    equal rest e = λ i. e i ∷ rest (λ z h. left e z h (f z (inr h))) (λ z h. right e z h (g z (inr h))) i

    by : Rest → Has (y ∷ ys) x → Has (x ∷ xs) y → x ∷ xs ≡ y ∷ ys
    by rest (inl e) k = equal rest (sym e)
    by rest (inr h) (inl e) = equal rest e
    by rest (inr h) (inr k) =
        let high = each_has (λ (w : DirTotal). place_of y < place_of w) ys x t.0 h in
        let low = each_has (λ (w : DirTotal). place_of x < place_of w) xs y s.0 k in
        absurd (omega (arith, high, low))

-- Sums do not look at the order

sum_is : (f : DirTotal → ℕ) (xs : List DirTotal) → sum_by f xs ≡ total f xs
sum_is f [] = refl
sum_is f (x ∷ xs) = sum_by-cons f x xs ∙ ap (λ n. f x + n) (sum_is f xs)

total_same : (f : DirTotal → ℕ) (xs ys : List DirTotal) → IsPermutation xs ys → total f ys ≡ total f xs
total_same f xs ys p = sym (sum_is f ys) ∙ sum_by-IsPermutation f xs ys p ∙ sum_is f xs

abbrev one_if : Bool → ℕ
one_if b = cond b 1 0

many_is : (test : DirTotal → Bool) (xs : List DirTotal) → how_many test xs ≡ total (λ x. one_if (test x)) xs
many_is test [] = refl
many_is test (x ∷ xs) = by (test x) ∙ ap (λ n. one_if (test x) + n) (many_is test xs)
  where
    by : (b : Bool) → cond b (suc (how_many test xs)) (how_many test xs) ≡ one_if b + how_many test xs
    by true = omega arith
    by false = omega arith

apart_same : (xs ys : List DirTotal) → IsPermutation xs ys → AreApart xs → AreApart ys
apart_same xs ys p a place =
    omega (arith, a place, many_is (λ d. place_of d == place) ys ∙ total_same (λ x. one_if (place_of x == place)) xs ys p ∙ sym (many_is (λ d. place_of d == place) xs))

one_of : (pool xs ys : List DirTotal) → AreApart pool → Ascend xs → Ascend ys → IsPermutation pool xs → IsPermutation pool ys → xs ≡ ys
one_of pool xs ys a up also p q =
    one_order xs ys (strict xs (rises xs up) (apart_same pool xs p a)) (strict ys (rises ys also) (apart_same pool ys q a))
    (λ z h. has_same pool ys z q (has_same xs pool z (IsPermutation-sym pool xs p) h)) (λ z h. has_same pool xs z p (has_same ys pool z (IsPermutation-sym pool ys q) h))

pub one_list : OneList
one_list cores xs ys = one_of (joined cores) xs ys

pub sums_are : SumsAreTheCores
sums_are cores all p =
    λ i. bytes_line (same payload_of i) (same (λ d. d.counts.taken) i) (same (λ d. d.counts.duplicate) i) (same (λ d. d.counts.late) i) (same (λ d. d.counts.cut) i) (same (λ d. d.counts.shed) i)
  where
    same : (f : DirTotal → ℕ) → total f all ≡ total f (joined cores)
    same f = total_same f (joined cores) all p

-- The report's order

abbrev NumbersRise : List Tallied → Type 0
NumbersRise [] = ⊤
NumbersRise (t ∷ ts) = Each (λ (u : Tallied). t.conv ≤ u.conv) ts × NumbersRise ts

abbrev all_of : List Tallied → List DirTotal
all_of ts = flat_map dirs_of ts

each_put : (P : Tallied → Type 0) (t : Tallied) (us : List Tallied) → P t → Each P us → Each P (put_tallied t us)
each_put P t [] p e = (p, tt)
each_put P t (u ∷ us) p e = by (nat_lt t.conv u.conv) (each_put P t us p e.1)
  where
    by : (b : Bool) → Each P (put_tallied t us) → Each P (cond b (t ∷ u ∷ us) (u ∷ put_tallied t us))
    by true more = (p, e)
    by false more = (e.0, more)

later : (a b : ℕ) (us : List Tallied) → a ≤ b → Each (λ (u : Tallied). b ≤ u.conv) us → Each (λ (u : Tallied). a ≤ u.conv) us
later a b [] l e = tt
later a b (u ∷ us) l e = (omega (arith, l, e.0), later a b us l e.1)

put_rises : (t : Tallied) (us : List Tallied) → NumbersRise us → NumbersRise (put_tallied t us)
put_rises t [] r = (tt, tt)
put_rises t (u ∷ us) r = by (nat_lt t.conv u.conv) refl (put_rises t us r.1)
  where
    by : (b : Bool) → nat_lt t.conv u.conv ≡ b → NumbersRise (put_tallied t us) → NumbersRise (cond b (t ∷ u ∷ us) (u ∷ put_tallied t us))
    by true e more = let low : t.conv ≤ u.conv = grind (arith, nat_tests, e) in ((low, later t.conv u.conv us low r.0), r)
    by false e more = let low : u.conv ≤ t.conv = grind (arith, nat_tests, e) in (each_put (λ (v : Tallied). u.conv ≤ v.conv) t us low r.0, more)

numbers_rise : (ts : List Tallied) → NumbersRise (by_number ts)
numbers_rise [] = tt
numbers_rise (t ∷ ts) = put_rises t (by_number ts) (numbers_rise ts)

-- one list before another turned round, with a rest behind them
turned : (xs ys zs : List DirTotal) → IsPermutation (xs ++ (ys ++ zs)) (ys ++ (xs ++ zs))
turned xs ys zs =
    subst (λ (x : List DirTotal × List DirTotal). IsPermutation x.0 x.1) (λ i. (append_assoc xs ys zs i, append_assoc ys xs zs i))
    (IsPermutation-append_left zs (xs ++ ys) (ys ++ xs) (IsPermutation-append_comm xs ys))

put_same : (t : Tallied) (us : List Tallied) → IsPermutation (dirs_of t ++ all_of us) (all_of (put_tallied t us))
put_same t [] = IsPermutation-refl (dirs_of t ++ [])
put_same t (u ∷ us) = by (nat_lt t.conv u.conv) (put_same t us)
  where
    by : (b : Bool) → IsPermutation (dirs_of t ++ all_of us) (all_of (put_tallied t us)) → IsPermutation (dirs_of t ++ (dirs_of u ++ all_of us)) (all_of (cond b (t ∷ u ∷ us) (u ∷ put_tallied t us)))
    by true more = IsPermutation-refl (dirs_of t ++ (dirs_of u ++ all_of us))
    by false more = IsPermutation-trans _ _ _ (turned (dirs_of t) (dirs_of u) (all_of us)) (IsPermutation-append_right (dirs_of u) _ _ more)

number_same : (ts : List Tallied) → IsPermutation (all_of ts) (all_of (by_number ts))
number_same [] = IsPermutation-refl []
number_same (t ∷ ts) = IsPermutation-trans _ _ _ (IsPermutation-append_right (dirs_of t) _ _ (number_same ts)) (put_same t (by_number ts))

fore_first : (x : DirTotal) (n : ℕ) (ts : List Tallied) → place_of x ≤ 2 * n → Each (λ (u : Tallied). n ≤ u.conv) ts → From x (all_of ts)
fore_first x n [] l e = tt
fore_first x n (u ∷ us) l e = (omega (arith, l, e.0), (omega (arith, l, e.0), fore_first x n us l e.1))

others_later : (n : ℕ) (ts : List Tallied) → Each (λ (u : Tallied). n ≤ u.conv) ts → Each (λ (y : DirTotal). place_of y ≢ 2 * n + 0) (all_of ts) → Each (λ (u : Tallied). n + 1 ≤ u.conv) ts
others_later n [] e f = tt
others_later n (u ∷ us) e f = (above (f.0), others_later n us e.1 f.1.1)
  where
    above : (2 * u.conv + 0) ≢ (2 * n + 0) → n + 1 ≤ u.conv
    above other = by (nat_lt n u.conv) refl
      where
        by : (b : Bool) → nat_lt n u.conv ≡ b → n + 1 ≤ u.conv
        by true t = grind (arith, nat_tests, t)
        by false t = let high : u.conv ≤ n = grind (arith, nat_tests, t) in absurd (other (omega (arith, high, e.0)))

all_rise : (ts : List Tallied) → NumbersRise ts → AreApart (all_of ts) → Rises (all_of ts)
all_rise [] r a = tt
all_rise (t ∷ ts) r a =
    let fore : DirTotal = dir_of t.conv Fore t.totals.fore in
    let back : DirTotal = dir_of t.conv Back t.totals.back in
    let above = others_later t.conv ts r.0 (none_there fore (back ∷ all_of ts) a).1 in
    ((omega arith, fore_first fore t.conv ts (omega arith) r.0), (fore_first back (t.conv + 1) ts (omega arith) above, all_rise ts r.1 (apart_behind back (all_of ts) (apart_behind fore (back ∷ all_of ts) a))))

joined_are : (terms : Terms) (books : List (List Line)) → joined (map (dirs_on terms) books) ≡ all_of (flat_map (tallied_on terms) books)
joined_are terms [] = refl
joined_are terms (book ∷ books) = ap (λ l. dirs_on terms book ++ l) (joined_are terms books) ∙ sym (flat_map-append dirs_of (tallied_on terms book) (flat_map (tallied_on terms) books))

in_order : (ts : List Tallied) (pool all : List DirTotal) → pool ≡ all_of ts → AreApart pool → Ascend all → IsPermutation pool all → all ≡ all_of (by_number ts)
in_order ts pool all e a up p =
    let same : IsPermutation pool (all_of (by_number ts)) = subst (λ (l : List DirTotal). IsPermutation l (all_of (by_number ts))) (sym e) (number_same ts) in
    one_of pool all (all_of (by_number ts)) a up (ascend _ (all_rise (by_number ts) (numbers_rise ts) (apart_same pool _ same a))) p same

pub run_is_in_order : RunIsInOrder
run_is_in_order run all a up p = in_order (flat_map (tallied_on run.terms) run.books) _ all (joined_are run.terms run.books) a up p

-- The lines

line_is : (conv : ℕ) (way : Way) (t : Total) → IsWhole t → line_of (dir_of conv way t) ≡ dir_line conv way (numbers_of t)
line_is conv way t w = ap (λ (x : ℕ × ℕ). dir_line conv way (x.0 ∷ x.1 ∷ t.counts.duplicate ∷ t.counts.late ∷ t.counts.cut ∷ t.counts.shed ∷ length t.gaps ∷ gap_bytes t ∷ [])) whole
  where
    whole : ◌≡◌ {A = ℕ × ℕ} (payload_of (dir_of conv way t), t.counts.taken) (t.payload, t.delivered)
    whole = λ i. (sym w.0 i, sym w.1 i)

pub lines_are : LinesAreTheReports
lines_are [] e = refl
lines_are (t ∷ ts) e =
    sym (append_assoc (line_of (dir_of t.conv Fore t.totals.fore)) (line_of (dir_of t.conv Back t.totals.back)) (flat_map line_of (all_of ts)))
    ∙ (λ i. (line_is t.conv Fore t.totals.fore e.0.0 i ++ line_is t.conv Back t.totals.back e.0.1 i) ++ lines_are ts e.1 i)
