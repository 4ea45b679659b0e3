use Rattle.std.proofs.Common.{◌≡◌, ◌≤◌, ◌<◌, ℕ, ◌+◌, ◌-◌, List, [], ◌∷◌, ◌++◌, length, take, set, Option, Some, None, sym, ◌∙◌, ap, refl, arith}
use Rattle.std.specs.Option.{option_map}
use Rattle.std.proofs.Common.{Bool, true, false, cond, nat_eq, ◌&&◌, get_or, drop, replicate}
use Rattle.std.proofs.lemmas.List.{take_more, take_more_set, drop_all, append-nil, length-append, length-drop, length-replicate, take-replicate, drop-replicate}
use Rattle.std.proofs.Math.Seq.{take-append-add}
use Rattle.std.proofs.lemmas.Bool.Decides.{nat_tests}
use Rattle.std.proofs.lemmas.Grind.{common_steps}
use borrow.Rule.Slice.PartMut.{put_mid}
use mathlib.Core.List.{append_assoc}
use Rattle.capfilter.specs.Numbers.{with_first}
use Rattle.std.proofs.Common.{◌*◌, ◌/◌, ◌%◌, flat_map}
use Rattle.std.proofs.Math.ListN.{length-set}
use Rattle.std.proofs.lemmas.Grind.{flat_map-append}
use Rattle.capfilter.specs.Addresses.{round_gap, group_bytes}

-- a list with others in front of it
abbrev pub in_front : List ℕ → Option (List ℕ) → Option (List ℕ)
in_front xs = option_map (λ ys. xs ++ ys)

pub in_front_none : (r : Option (List ℕ)) → r ≡ in_front [] r
in_front_none None = refl
in_front_none (Some ys) = refl

pub in_front_more : (xs : List ℕ) (n : ℕ) (r : Option (List ℕ)) → in_front xs (with_first n r) ≡ in_front (xs ++ n ∷ []) r
in_front_more xs n None = refl
in_front_more xs n (Some ys) = ap Some (sym (append_assoc xs (n ∷ []) ys))

-- zeros between two lists
pub filled_is : (front back : List ℕ) (n m : ℕ) → length front ≡ n → length back ≡ m → n + m ≤ 8
    → put_mid (8 - m) (8 - (8 - m)) (front ++ drop n (replicate 8 0)) back ≡ front ++ replicate (8 - (n + m)) 0 ++ back
filled_is front back n m f b fits =
    let zeros : ◌≡◌ {A = List ℕ} (drop n (replicate 8 0)) (replicate (8 - n) 0) = drop-replicate n 8 0 in
    let long : length (front ++ replicate (8 - n) 0) ≡ 8 = simp (length-append, length-replicate) (omega arith) in
    let place : 8 - m ≡ length front + (8 - (n + m)) = omega arith in
    let head : take (8 - m) (front ++ replicate (8 - n) 0) ≡ front ++ replicate (8 - (n + m)) 0 =
    ap (λ (k : ℕ). take k (front ++ replicate (8 - n) 0)) place
    ∙ take-append-add front (replicate (8 - n) 0) (8 - (n + m))
    ∙ ap (λ (xs : List ℕ). front ++ xs) (take-replicate (8 - (n + m)) (8 - n) 0 (omega arith)) in
    let tail : drop (8 - (8 - m)) (drop (8 - m) (front ++ replicate (8 - n) 0)) ≡ [] =
    drop_all (8 - (8 - m)) (drop (8 - m) (front ++ replicate (8 - n) 0)) (simp length-drop (omega arith)) in
    ap (λ (zs : List ℕ). put_mid (8 - m) (8 - (8 - m)) (front ++ zs) back) zeros
    ∙ ap (λ (xs : List ℕ). xs ++ (back ++ drop (8 - (8 - m)) (drop (8 - m) (front ++ replicate (8 - n) 0)))) head
    ∙ ap (λ (xs : List ℕ). (front ++ replicate (8 - (n + m)) 0) ++ (back ++ xs)) tail
    ∙ ap (λ (xs : List ℕ). (front ++ replicate (8 - (n + m)) 0) ++ xs) (append-nil back)

-- what stands before and behind the gap, with a front more
abbrev pub onto_front : List ℕ → Option (List ℕ × List ℕ) → Option (List ℕ × List ℕ)
onto_front xs = option_map (λ halves. (xs ++ halves.0, halves.1))

onto_front_more : (xs : List ℕ) (x : ℕ) (r : Option (List ℕ × List ℕ)) → onto_front xs (option_map (λ halves. (x ∷ halves.0, halves.1)) r) ≡ onto_front (xs ++ x ∷ []) r
onto_front_more xs x None = refl
onto_front_more xs x (Some halves) = ap (λ (l : List ℕ). Some (l, halves.1)) (sym (append_assoc xs (x ∷ []) halves.0))

pub onto_front_none : (r : Option (List ℕ × List ℕ)) → r ≡ onto_front [] r
onto_front_none None = refl
onto_front_none (Some halves) = refl

module _ (text : List ℕ) (i : ℕ) (within : i + 1 < length text) where
  two : drop i text ≡ get_or text i 0 ∷ get_or text (i + 1) 0 ∷ drop (i + 2) text
  two =
      let first : drop i text ≡ get_or text i 0 ∷ drop (i + 1) text = grind (arith, common_steps) in
      let second : drop (i + 1) text ≡ get_or text (i + 1) 0 ∷ drop (i + 2) text = grind (arith, common_steps) in
      first ∙ ap (λ (xs : List ℕ). get_or text i 0 ∷ xs) second

  gap_when : (b : Bool) → (nat_eq (get_or text i 0) 58 && nat_eq (get_or text (i + 1) 0) 58) ≡ b → round_gap (drop i text)
      ≡ cond b (Some ([], drop (i + 2) text)) (option_map (λ halves. (get_or text i 0 ∷ halves.0, halves.1)) (round_gap (get_or text (i + 1) 0 ∷ drop (i + 2) text)))
  gap_when b e = ap round_gap two
      ∙ ap (λ (c : Bool). cond c (Some ([], drop (i + 2) text)) (option_map (λ halves. (get_or text i 0 ∷ halves.0, halves.1)) (round_gap (get_or text (i + 1) 0 ∷ drop (i + 2) text)))) e

  -- the gap begins here
  pub gap_here : round_gap text ≡ onto_front (take i text) (round_gap (drop i text)) → get_or text i 0 ≡ 58 → get_or text (i + 1) 0 ≡ 58
      → round_gap text ≡ Some (take i text, drop (i + 2) text)
  gap_here so_far a b =
      so_far ∙ ap (onto_front (take i text)) (gap_when true (grind (arith, nat_tests))) ∙ ap (λ (l : List ℕ). Some (l, drop (i + 2) text)) (append-nil (take i text))

  -- it begins further on
  pub gap_later : round_gap text ≡ onto_front (take i text) (round_gap (drop i text)) → ((get_or text i 0 ≡ 58) → (get_or text (i + 1) 0 ≡ 58) → ⊥)
      → round_gap text ≡ onto_front (take (i + 1) text) (round_gap (drop (i + 1) text))
  gap_later so_far h =
      let second : get_or text (i + 1) 0 ∷ drop (i + 2) text ≡ drop (i + 1) text = grind (arith, common_steps) in
      so_far ∙ ap (onto_front (take i text)) (gap_when false (grind (arith, nat_tests)))
      ∙ onto_front_more (take i text) (get_or text i 0) (round_gap (get_or text (i + 1) 0 ∷ drop (i + 2) text))
      ∙ ap (λ (l : List ℕ). onto_front (take i text ++ get_or text i 0 ∷ []) (round_gap l)) second
      ∙ ap (λ (l : List ℕ). onto_front l (round_gap (drop (i + 1) text))) (sym (take_more text i 0 (omega arith)))

-- a text of one byte or none has no gap
short_none : (xs : List ℕ) → length xs ≤ 1 → round_gap xs ≡ None
short_none [] h = refl
short_none (x ∷ []) h = refl
short_none (x ∷ y ∷ xs) h = absurd (omega arith)

pub gap_nowhere : (text : List ℕ) (i : ℕ) → length text ≤ i + 1 → round_gap text ≡ onto_front (take i text) (round_gap (drop i text)) → round_gap text ≡ None
gap_nowhere text i past so_far = so_far ∙ ap (onto_front (take i text)) (short_none (drop i text) (simp length-drop (omega arith)))

-- the two bytes of a group more
pub bytes_more : (bytes all : List ℕ) (i : ℕ) → i < length all → 2 * i + 1 < length bytes → take (2 * i) bytes ≡ flat_map group_bytes (take i all)
    → take (2 * (i + 1)) (set (set bytes (2 * i) (get_or all i 0 / 256)) (2 * i + 1) (get_or all i 0 % 256)) ≡ flat_map group_bytes (take (i + 1) all)
bytes_more bytes all i within room so_far =
    let g : ℕ = get_or all i 0 in
    let first : List ℕ = set bytes (2 * i) (g / 256) in
    let long : 2 * i + 1 < length first = rw (length-set bytes (2 * i) (g / 256)) room in
    let twice : 2 * (i + 1) ≡ 2 * i + 1 + 1 = omega arith in
    ap (λ (k : ℕ). take k (set first (2 * i + 1) (g % 256))) twice
    ∙ take_more_set first (2 * i + 1) (g % 256) long
    ∙ ap (λ (xs : List ℕ). xs ++ g % 256 ∷ []) (take_more_set bytes (2 * i) (g / 256) (omega arith))
    ∙ append_assoc (take (2 * i) bytes) (g / 256 ∷ []) (g % 256 ∷ [])
    ∙ ap (λ (xs : List ℕ). xs ++ group_bytes g) so_far
    ∙ sym (flat_map-append group_bytes (take i all) (g ∷ []))
    ∙ ap (flat_map group_bytes) (sym (take_more all i 0 within))
