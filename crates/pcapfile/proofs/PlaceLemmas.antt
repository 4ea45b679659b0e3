use Rattle.std.proofs.Common.{◌≡◌, ℕ, ◌+◌, ◌*◌, ◌≤◌, ◌<◌, Bool, true, false, cond, ◌⊎◌, inl, inr, List, ◌++◌, length, take, drop, refl, ap, ◌∙◌, subst, arith, nat_eq, nat_lt, nat_le, length-append, length-drop}
use Rattle.std.proofs.lemmas.Bool.Decides.{nat_tests}
use Rattle.std.proofs.lemmas.List.{drop-append-le, take-append-le}
use Rattle.byteorder.specs.Numbers.{big_from-append, little_from-append}
use Rattle.pcapfile.specs.declared.head.FileHead.{FileHead}
use Rattle.pcapfile.specs.declared.frame.Frame.{Frame}
use Rattle.pcapfile.specs.Format.{header_len, longest, len_at, fraction_at}
use Rattle.pcapfile.specs.Head.{number}
use Rattle.pcapfile.specs.Laws.{IsCut, IsTooBig, IsPastHeader, IsPastRecord}
use Rattle.pcapfile.specs.Capture.{Limits, End, Whole, Cut, TooBig, TooLong, Place, Ends, Holds, place_of, record_at, len_of, moment_of, is_past}

-- the record that a header begins
abbrev pub made : FileHead → ℕ → List ℕ → Frame
made head at rest = record { at = at; moment = moment_of head rest; bytes = take (len_of head rest) (drop header_len rest) }

-- when a place holds a record
pub record IsRecord (head : FileHead) (limits : Limits) (at count : ℕ) (rest : List ℕ) : Type 0 where
  pub within : count < limits.frames
  pub short : len_of head rest ≤ longest
  pub whole : header_len + len_of head rest ≤ length rest
  pub inside : at + (header_len + len_of head rest) ≤ limits.bytes

-- what tests of numbers tell
le_true : (a b : ℕ) → nat_le a b ≡ true → a ≤ b
le_true a b h = grind (arith, nat_tests)

le_false : (a b : ℕ) → nat_le a b ≡ false → b < a
le_false a b h = grind (arith, nat_tests)

pub lt_false : (a b : ℕ) → nat_lt a b ≡ false → b ≤ a
lt_false a b h = grind (arith, nat_tests)

lt_true : (a b : ℕ) → nat_lt a b ≡ true → a < b
lt_true a b h = grind (arith, nat_tests)

eq_true : (a b : ℕ) → nat_eq a b ≡ true → a ≡ b
eq_true a b h = grind (arith, nat_tests)

not_empty : (n : ℕ) → nat_eq n 0 ≡ false → 0 < n
not_empty n h = grind (arith, nat_tests)

past_true : (most at len : ℕ) (rest : List ℕ) → is_past most at len rest ≡ true → (most < at + len) × (most < at + length rest)
past_true most at len rest h = (grind (arith, nat_tests), grind (arith, nat_tests))

past_false : (most at len : ℕ) (rest : List ℕ) → len ≤ length rest → is_past most at len rest ≡ false → at + len ≤ most
past_false most at len rest k h = grind (arith, nat_tests)

-- a test that leads to an end where it holds, of what holds a record
passes : (b : Bool) (e : End) (p : Place) (f : Frame) → cond b (Ends e) p ≡ Holds f → (b ≡ false) × (p ≡ Holds f)
passes true e p f h = absurd (cc)
passes false e p f h = (refl, h)

-- a test that leads to an end where it holds, of what ends
ends : (b : Bool) (e g : End) (p : Place) → cond b (Ends e) p ≡ Ends g → ((b ≡ true) × (e ≡ g)) ⊎ ((b ≡ false) × (p ≡ Ends g))
ends true e g p h = inl (refl, cc)
ends false e g p h = inr (refl, h)

holds_same : (f g : Frame) → Holds f ≡ Holds g → f ≡ g
holds_same f g h = cc

record_at-holds : (head : FileHead) (limits : Limits) (at count : ℕ) (rest : List ℕ) (f : Frame) → count < limits.frames → record_at head limits at rest ≡ Holds f
    → IsRecord head limits at count rest × (made head at rest ≡ f)
unfolding record_at
record_at-holds head limits at count rest f k h =
    let one = passes _ _ _ f h in
    let two = passes _ _ _ f one.1 in
    let three = passes _ _ _ f two.1 in
    let a : nat_lt longest (len_of head rest) ≡ false = one.0 in
    let b : is_past limits.bytes at (header_len + len_of head rest) rest ≡ false = two.0 in
    let d : nat_lt (length rest) (header_len + len_of head rest) ≡ false = three.0 in
    let small : len_of head rest ≤ longest = grind (arith, nat_tests) in
    let whole : header_len + len_of head rest ≤ length rest = grind (arith, nat_tests) in
    (record { within = k; short = small; whole = whole; inside = grind (arith, nat_tests) }, holds_same _ _ three.1)

-- where a place holds a record, it is the one that the header begins
pub place_of-holds : (head : FileHead) (limits : Limits) (at count : ℕ) (rest : List ℕ) (f : Frame) → place_of head limits at count rest ≡ Holds f
    → IsRecord head limits at count rest × (made head at rest ≡ f)
unfolding place_of
place_of-holds head limits at count rest f h =
    let one = passes (nat_eq (length rest) 0) Whole _ f h in
    let two = passes (nat_le limits.frames count) TooLong _ f one.1 in
    let three = passes (is_past limits.bytes at header_len rest) TooLong _ f two.1 in
    let four = passes (nat_lt (length rest) header_len) (Cut (length rest)) _ f three.1 in
    let b : nat_le limits.frames count ≡ false = two.0 in
    let within : count < limits.frames = grind (arith, nat_tests) in
    record_at-holds head limits at count rest f within four.1

-- and the other way round
pub place_of-record : (head : FileHead) (limits : Limits) (at count : ℕ) (rest : List ℕ) → IsRecord head limits at count rest
    → place_of head limits at count rest ≡ Holds (made head at rest)
unfolding place_of record_at
place_of-record head limits at count rest r =
    let a : count < limits.frames = r.within in
    let b : len_of head rest ≤ longest = r.short in
    let d : header_len + len_of head rest ≤ length rest = r.whole in
    let e : at + (header_len + len_of head rest) ≤ limits.bytes = r.inside in
    grind (arith, nat_tests)

-- the numbers of a header are the same where more bytes stand behind it
number-append : (big : Bool) (n : ℕ) (xs ys : List ℕ) → n ≤ length xs → number big n (xs ++ ys) ≡ number big n xs
number-append true n xs ys h = big_from-append n xs ys h
number-append false n xs ys h = little_from-append n xs ys h

number_at-append : (big : Bool) (at : ℕ) (xs ys : List ℕ) → at + 4 ≤ length xs → number big 4 (drop at (xs ++ ys)) ≡ number big 4 (drop at xs)
number_at-append big at xs ys h =
    ap (number big 4) (drop-append-le at xs ys (omega arith)) ∙ number-append big 4 (drop at xs) ys (omega (arith, length-drop at xs))

pub len_of-append : (head : FileHead) (rest more : List ℕ) → header_len ≤ length rest → len_of head (rest ++ more) ≡ len_of head rest
len_of-append head rest more h = number_at-append head.big len_at rest more (omega arith)

moment_with : Bool → ℕ → ℕ → ℕ
moment_with nanos seconds fraction = seconds * 1000000000 + cond nanos fraction (fraction * 1000)

pub moment_of-append : (head : FileHead) (rest more : List ℕ) → header_len ≤ length rest → moment_of head (rest ++ more) ≡ moment_of head rest
unfolding moment_with
moment_of-append head rest more h =
    ap (λ (n : ℕ). moment_with head.nanos n (number head.big 4 (drop fraction_at (rest ++ more)))) (number-append head.big 4 rest more (omega arith)) ∙ ap (λ (n : ℕ). moment_with head.nanos (number head.big 4 rest) n) (number_at-append head.big fraction_at rest more (omega arith))

pub IsRecord-append : (head : FileHead) (limits : Limits) (at count : ℕ) (rest more : List ℕ) → IsRecord head limits at count rest → IsRecord head limits at count (rest ++ more)
IsRecord-append head limits at count rest more r =
    let whole : header_len + len_of head rest ≤ length rest = r.whole in
    let same : len_of head (rest ++ more) ≡ len_of head rest = len_of-append head rest more (omega arith) in
    let longer = length-append rest more in
    record { within = r.within; short = omega (arith, r.short); whole = omega arith; inside = omega (arith, r.inside) }

pub made-append : (head : FileHead) (limits : Limits) (at count : ℕ) (rest more : List ℕ) → IsRecord head limits at count rest → made head at (rest ++ more) ≡ made head at rest
made-append head limits at count rest more r =
    let whole : header_len + len_of head rest ≤ length rest = r.whole in
    let begun : header_len ≤ length rest = omega arith in
    let with : ℕ → List ℕ → Frame = λ moment bytes. record { at = at; moment = moment; bytes = bytes } in
    let same_len = len_of-append head rest more begun in
    let same_bytes : take (len_of head (rest ++ more)) (drop header_len (rest ++ more)) ≡ take (len_of head rest) (drop header_len rest) =
    ap (λ (n : ℕ). take n (drop header_len (rest ++ more))) same_len ∙ ap (take (len_of head rest)) (drop-append-le header_len rest more begun) ∙ take-append-le (len_of head rest) (drop header_len rest) more (omega (arith, length-drop header_len rest)) in
    ap (λ (n : ℕ). with n (take (len_of head (rest ++ more)) (drop header_len (rest ++ more)))) (moment_of-append head rest more begun) ∙ ap (with (moment_of head rest)) same_bytes

-- a record stays where more bytes come
pub place_of-holds-append : (head : FileHead) (limits : Limits) (at count : ℕ) (rest more : List ℕ) (f : Frame) → place_of head limits at count rest ≡ Holds f
    → place_of head limits at count (rest ++ more) ≡ Holds f
place_of-holds-append head limits at count rest more f h =
    let found = place_of-holds head limits at count rest f h in
    place_of-record head limits at count (rest ++ more) (IsRecord-append head limits at count rest more found.0) ∙ ap Holds (made-append head limits at count rest more found.0 ∙ found.1)

-- where there is a reason for an end, the place has that end
pub place_of-big : (head : FileHead) (limits : Limits) (at count : ℕ) (rest : List ℕ) → IsTooBig head limits at count rest
    → place_of head limits at count rest ≡ Ends (TooBig at (len_of head rest))
unfolding place_of record_at
place_of-big head limits at count rest r =
    let a : count < limits.frames = r.within in
    let b : header_len ≤ length rest = r.begun in
    let d : at + header_len ≤ limits.bytes = r.inside in
    let e : longest < len_of head rest = r.big in
    grind (arith, nat_tests)

pub place_of-many : (head : FileHead) (limits : Limits) (at count : ℕ) (rest : List ℕ) → 0 < length rest → limits.frames ≤ count
    → place_of head limits at count rest ≡ Ends TooLong
unfolding place_of
place_of-many head limits at count rest h k = grind (arith, nat_tests)

pub place_of-past_header : (head : FileHead) (limits : Limits) (at count : ℕ) (rest : List ℕ) → IsPastHeader limits at rest
    → place_of head limits at count rest ≡ Ends TooLong
unfolding place_of
place_of-past_header head limits at count rest r =
    let a : 0 < length rest = r.more in
    let b : limits.bytes < at + header_len = r.past in
    let d : limits.bytes < at + length rest = r.file in
    grind (arith, nat_tests)

pub place_of-past_record : (head : FileHead) (limits : Limits) (at count : ℕ) (rest : List ℕ) → IsPastRecord head limits at count rest
    → place_of head limits at count rest ≡ Ends TooLong
unfolding place_of record_at
place_of-past_record head limits at count rest r =
    let a : count < limits.frames = r.within in
    let b : header_len ≤ length rest = r.begun in
    let d : at + header_len ≤ limits.bytes = r.inside in
    let e : len_of head rest ≤ longest = r.short in
    let f : limits.bytes < at + (header_len + len_of head rest) = r.past in
    let g : limits.bytes < at + length rest = r.file in
    grind (arith, nat_tests)

-- a test that leads to another end
other : (b : Bool) (e g : End) (p : Place) → (e ≡ g → ⊥) → cond b (Ends e) p ≡ Ends g → (b ≡ false) × (p ≡ Ends g)
other true e g p apart h = absurd (apart (cc))
other false e g p apart h = (refl, h)

-- what is left behind the first four tests, where they lead to other ends
behind_header : (head : FileHead) (limits : Limits) (at count : ℕ) (rest : List ℕ) (e : End) → (Whole ≡ e → ⊥) → (TooLong ≡ e → ⊥) → (Cut (length rest) ≡ e → ⊥)
    → place_of head limits at count rest ≡ Ends e → (count < limits.frames) × (header_len ≤ length rest) × (at + header_len ≤ limits.bytes) × (record_at head limits at rest ≡ Ends e)
unfolding place_of
behind_header head limits at count rest e w l c h =
    let one = other (nat_eq (length rest) 0) Whole e _ w h in
    let two = other (nat_le limits.frames count) TooLong e _ l one.1 in
    let three = other (is_past limits.bytes at header_len rest) TooLong e _ l two.1 in
    let four = other (nat_lt (length rest) header_len) (Cut (length rest)) e _ c three.1 in
    let a : nat_le limits.frames count ≡ false = two.0 in
    let b : is_past limits.bytes at header_len rest ≡ false = three.0 in
    let d : nat_lt (length rest) header_len ≡ false = four.0 in
    let begun : header_len ≤ length rest = grind (arith, nat_tests) in
    (grind (arith, nat_tests), begun, grind (arith, nat_tests), four.1)

too_big : (b : Bool) (at len a n : ℕ) (p : Place) → (p ≡ Ends (TooBig a n) → ⊥) → cond b (Ends (TooBig at len)) p ≡ Ends (TooBig a n) → (b ≡ true) × (at ≡ a) × (len ≡ n)
too_big true at len a n p apart h = (refl, cc, cc)
too_big false at len a n p apart h = absurd (apart h)

-- where a place is too big, it says its offset and the captured length
pub place_of-too_big : (head : FileHead) (limits : Limits) (at count : ℕ) (rest : List ℕ) (a n : ℕ) → place_of head limits at count rest ≡ Ends (TooBig a n)
    → IsTooBig head limits at count rest × (at ≡ a) × (len_of head rest ≡ n)
unfolding record_at
place_of-too_big head limits at count rest a n h =
    let behind = behind_header head limits at count rest (TooBig a n) (λ q. cc) (λ q. cc) (λ q. cc) h in
    let found = too_big (nat_lt longest (len_of head rest)) at (len_of head rest) a n _ (λ q.
    let one = other (is_past limits.bytes at (header_len + len_of head rest) rest) TooLong (TooBig a n) _ (λ e. cc) q in
    let two = other (nat_lt (length rest) (header_len + len_of head rest)) (Cut (length rest)) (TooBig a n) _ (λ e. cc) one.1 in
    let no : Holds (made head at rest) ≡ Ends (TooBig a n) = two.1 in
    cc) behind.3 in
    let t : nat_lt longest (len_of head rest) ≡ true = found.0 in
    (record { within = behind.0; begun = behind.1; inside = behind.2; big = grind (arith, nat_tests) }, found.1, found.2)

-- where a place is too long, the most records were read, or the header or the record ends past the most bytes
pub place_of-too_long : (head : FileHead) (limits : Limits) (at count : ℕ) (rest : List ℕ) → place_of head limits at count rest ≡ Ends TooLong
    → (0 < length rest) × ((limits.frames ≤ count) ⊎ (IsPastHeader limits at rest ⊎ IsPastRecord head limits at count rest))
unfolding place_of record_at
place_of-too_long head limits at count rest h =
    let one = other (nat_eq (length rest) 0) Whole TooLong _ (λ q. cc) h in
    let left = not_empty (length rest) one.0 in
    elim (ends (nat_le limits.frames count) TooLong TooLong _ one.1) [
      | inl many ↦ (left, inl (le_true limits.frames count many.0))
      | inr few ↦ elim (ends (is_past limits.bytes at header_len rest) TooLong TooLong _ few.1) [
        | inl header ↦
            let past = past_true limits.bytes at header_len rest header.0 in
            (left, inr (inl (record { more = left; past = past.0; file = past.1 })))
        | inr inside ↦
            let four = other (nat_lt (length rest) header_len) (Cut (length rest)) TooLong _ (λ q. cc) inside.1 in
            let begun = lt_false (length rest) header_len four.0 in
            let five = other (nat_lt longest (len_of head rest)) (TooBig at (len_of head rest)) TooLong _ (λ q. cc) four.1 in
            elim (ends (is_past limits.bytes at (header_len + len_of head rest) rest) TooLong TooLong _ five.1) [
              | inl body ↦
                  let past = past_true limits.bytes at (header_len + len_of head rest) rest body.0 in (
                    left,
                    inr (inr (record {
                      within = le_false limits.frames count few.0;
                      begun = begun;
                      inside = past_false limits.bytes at header_len rest begun inside.0;
                      short = lt_false longest (len_of head rest) five.0;
                      past = past.0;
                      file = past.1;
                    })),
                  )
              | inr rest_inside ↦
                  let seven = other (nat_lt (length rest) (header_len + len_of head rest)) (Cut (length rest)) TooLong _ (λ q. cc) rest_inside.1 in
                  let no : Holds (made head at rest) ≡ Ends TooLong = seven.1 in
                  absurd (cc)
            ]
      ]
    ]

-- where a place ends a whole capture nothing is left
pub place_of-whole : (head : FileHead) (limits : Limits) (at count : ℕ) (rest : List ℕ) → place_of head limits at count rest ≡ Ends Whole → length rest ≡ 0
unfolding place_of record_at
place_of-whole head limits at count rest h =
    elim (ends (nat_eq (length rest) 0) Whole Whole _ h) [
      | inl empty ↦ eq_true (length rest) 0 empty.0
      | inr left ↦
          let two = other (nat_le limits.frames count) TooLong Whole _ (λ q. cc) left.1 in
          let three = other (is_past limits.bytes at header_len rest) TooLong Whole _ (λ q. cc) two.1 in
          let four = other (nat_lt (length rest) header_len) (Cut (length rest)) Whole _ (λ q. cc) three.1 in
          let five = other (nat_lt longest (len_of head rest)) (TooBig at (len_of head rest)) Whole _ (λ q. cc) four.1 in
          let six = other (is_past limits.bytes at (header_len + len_of head rest) rest) TooLong Whole _ (λ q. cc) five.1 in
          let seven = other (nat_lt (length rest) (header_len + len_of head rest)) (Cut (length rest)) Whole _ (λ q. cc) six.1 in
          let no : Holds (made head at rest) ≡ Ends Whole = seven.1 in
          absurd (cc)
    ]

cut_same : (m n : ℕ) → Cut m ≡ Cut n → m ≡ n
cut_same m n h = cc

le_of_lt : (a b : ℕ) → a < b → a ≤ b
le_of_lt a b h = omega arith

-- the reason for a cut, with the length of what is left in place of its number
cut_with : (head : FileHead) (limits : Limits) (at count : ℕ) (rest : List ℕ) (n : ℕ) → length rest ≡ n → 0 < length rest → count < limits.frames → at + length rest ≤ limits.bytes
    → (length rest < header_len) ⊎ ((len_of head rest ≤ longest) × (length rest < header_len + len_of head rest)) → IsCut head limits at count rest n
cut_with head limits at count rest n same some within inside why =
    subst (λ (m : ℕ). IsCut head limits at count rest m) same (record { left = refl; some = some; partial = why; within = within; inside = inside })

-- a test that is false, where a number is not past the most
not_past : (most at len : ℕ) (rest : List ℕ) → length rest ≤ len → is_past most at len rest ≡ false → at + length rest ≤ most
not_past most at len rest short h = grind (arith, nat_tests)

-- where a place is cut, what is left is said, and why it is no record
pub place_of-cut : (head : FileHead) (limits : Limits) (at count : ℕ) (rest : List ℕ) (n : ℕ) → place_of head limits at count rest ≡ Ends (Cut n) → IsCut head limits at count rest n
unfolding place_of record_at
place_of-cut head limits at count rest n h =
    let one = other (nat_eq (length rest) 0) Whole (Cut n) _ (λ q. cc) h in
    let left = not_empty (length rest) one.0 in
    let two = other (nat_le limits.frames count) TooLong (Cut n) _ (λ q. cc) one.1 in
    let within = le_false limits.frames count two.0 in
    let three = other (is_past limits.bytes at header_len rest) TooLong (Cut n) _ (λ q. cc) two.1 in
    elim (ends (nat_lt (length rest) header_len) (Cut (length rest)) (Cut n) _ three.1) [
      | inl header ↦
          let same = cut_same (length rest) n header.1 in
          let short = lt_true (length rest) header_len header.0 in
          let inside = not_past limits.bytes at header_len rest (le_of_lt (length rest) header_len short) three.0 in
          cut_with head limits at count rest n same left within inside (inl short)
      | inr begun ↦
          let five = other (nat_lt longest (len_of head rest)) (TooBig at (len_of head rest)) (Cut n) _ (λ q. cc) begun.1 in
          let six = other (is_past limits.bytes at (header_len + len_of head rest) rest) TooLong (Cut n) _ (λ q. cc) five.1 in
          elim (ends (nat_lt (length rest) (header_len + len_of head rest)) (Cut (length rest)) (Cut n) _ six.1) [
            | inl body ↦
                let same = cut_same (length rest) n body.1 in
                let short = lt_true (length rest) (header_len + len_of head rest) body.0 in
                let inside = not_past limits.bytes at (header_len + len_of head rest) rest (le_of_lt (length rest) (header_len + len_of head rest) short) six.0 in
                cut_with head limits at count rest n same left within inside (inr (lt_false longest (len_of head rest) five.0, short))
            | inr whole ↦
                let no : Holds (made head at rest) ≡ Ends (Cut n) = whole.1 in
                absurd (cc)
          ]
    ]

-- and the other way round
cut_header : (head : FileHead) (limits : Limits) (at count : ℕ) (rest : List ℕ) → 0 < length rest → count < limits.frames → at + length rest ≤ limits.bytes → length rest < header_len
    → place_of head limits at count rest ≡ Ends (Cut (length rest))
unfolding place_of
cut_header head limits at count rest some within inside short = grind (arith, nat_tests)

cut_record : (head : FileHead) (limits : Limits) (at count : ℕ) (rest : List ℕ) → 0 < length rest → count < limits.frames → at + length rest ≤ limits.bytes → len_of head rest ≤ longest
    → length rest < header_len + len_of head rest → place_of head limits at count rest ≡ Ends (Cut (length rest))
unfolding place_of record_at
cut_record head limits at count rest some within inside short long = grind (arith, nat_tests)

pub place_of-partial : (head : FileHead) (limits : Limits) (at count : ℕ) (rest : List ℕ) (n : ℕ) → IsCut head limits at count rest n → place_of head limits at count rest ≡ Ends (Cut n)
place_of-partial head limits at count rest n r =
    let left : length rest ≡ n = r.left in
    let same : Ends (Cut (length rest)) ≡ Ends (Cut n) = ap (λ (m : ℕ). Ends (Cut m)) left in
    let some : 0 < n = r.some in
    let inside : at + n ≤ limits.bytes = r.inside in
    let some_left : 0 < length rest = omega arith in
    let inside_left : at + length rest ≤ limits.bytes = omega arith in
    let by_reason : (n < header_len) ⊎ ((len_of head rest ≤ longest) × (n < header_len + len_of head rest)) → place_of head limits at count rest ≡ Ends (Cut (length rest)) =
    λ reason. elim reason [
      | inl short ↦ cut_header head limits at count rest some_left r.within inside_left (omega arith)
      | inr long ↦ cut_record head limits at count rest some_left r.within inside_left long.0 (omega (arith, long.1))
    ] in
    by_reason r.partial ∙ same

pub place_of-nothing : (head : FileHead) (limits : Limits) (at count : ℕ) (rest : List ℕ) → length rest ≡ 0 → place_of head limits at count rest ≡ Ends Whole
unfolding place_of
place_of-nothing head limits at count rest h = grind (arith, nat_tests)

-- a fault stays where more bytes come
pub place_of-too_big-append : (head : FileHead) (limits : Limits) (at count : ℕ) (rest more : List ℕ) (a n : ℕ) → place_of head limits at count rest ≡ Ends (TooBig a n)
    → place_of head limits at count (rest ++ more) ≡ Ends (TooBig a n)
place_of-too_big-append head limits at count rest more a n h =
    let found = place_of-too_big head limits at count rest a n h in
    let begun : header_len ≤ length rest = found.0.begun in
    let big : longest < len_of head rest = found.0.big in
    let same = len_of-append head rest more begun in
    let longer = length-append rest more in
    let still : IsTooBig head limits at count (rest ++ more) = record { within = found.0.within; begun = omega arith; inside = found.0.inside; big = omega arith } in
    place_of-big head limits at count (rest ++ more) still ∙ ap (λ (m : ℕ). Ends (TooBig m (len_of head (rest ++ more)))) found.1 ∙ ap (λ (m : ℕ). Ends (TooBig a m)) (same ∙ found.2)

past_header-append : (limits : Limits) (at : ℕ) (rest more : List ℕ) → IsPastHeader limits at rest → IsPastHeader limits at (rest ++ more)
past_header-append limits at rest more r =
    let a : 0 < length rest = r.more in
    let b : limits.bytes < at + header_len = r.past in
    let d : limits.bytes < at + length rest = r.file in
    let longer = length-append rest more in
    record { more = omega arith; past = b; file = omega arith }

past_record-append : (head : FileHead) (limits : Limits) (at count : ℕ) (rest more : List ℕ) → IsPastRecord head limits at count rest → IsPastRecord head limits at count (rest ++ more)
past_record-append head limits at count rest more r =
    let b : header_len ≤ length rest = r.begun in
    let e : len_of head rest ≤ longest = r.short in
    let f : limits.bytes < at + (header_len + len_of head rest) = r.past in
    let g : limits.bytes < at + length rest = r.file in
    let same = len_of-append head rest more b in
    let longer = length-append rest more in
    record { within = r.within; begun = omega arith; inside = r.inside; short = omega arith; past = omega arith; file = omega arith }

pub place_of-too_long-append : (head : FileHead) (limits : Limits) (at count : ℕ) (rest more : List ℕ) → place_of head limits at count rest ≡ Ends TooLong
    → place_of head limits at count (rest ++ more) ≡ Ends TooLong
place_of-too_long-append head limits at count rest more h =
    let found = place_of-too_long head limits at count rest h in
    let left : 0 < length rest = found.0 in
    let longer = length-append rest more in
    elim found.1 [
      | inl many ↦ place_of-many head limits at count (rest ++ more) (omega arith) many
      | inr past ↦ elim past [
        | inl header ↦ place_of-past_header head limits at count (rest ++ more) (past_header-append limits at rest more header)
        | inr body ↦ place_of-past_record head limits at count (rest ++ more) (past_record-append head limits at count rest more body)
      ]
    ]
