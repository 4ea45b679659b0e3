use Rattle.std.proofs.Common.{◌≡◌, ◌≤◌, ◌<◌, ◌&&◌, ℕ, ◌+◌, ◌-◌, Bool, true, false, cond, List, [], ◌∷◌, ◌++◌, length, take, drop, get_or, Some, None, sym, ◌∙◌, ap, refl, arith, ltb, nat_eq, subst}
use Rattle.std.specs.List.{slice_split, position_or_len, position, before_first, after_first}
use Rattle.std.specs.Str.Parse.{digits_value}
use Rattle.std.proofs.lemmas.List.Splits.{slice_split_none, slice_split_first}
use Rattle.std.proofs.lemmas.List.{take-append-drop}
use Rattle.std.proofs.lemmas.List.Folds.{list_all_more}
use Rattle.std.proofs.lemmas.Int.Digits.{digits_value_more}
use Rattle.std.specs.Char.{digit_value, is_digit}
use Rattle.std.specs.List.{list_all}
use Rattle.std.proofs.Common.{◌*◌}
use Rattle.std.proofs.lemmas.List.Sums.{fails_before_first, passes_at_first}
use Rattle.std.proofs.lemmas.Str.Parse.{digits_value-take-le}
use Rattle.std.proofs.lemmas.Bool.Decides.{nat_tests}
use Rattle.std.proofs.lemmas.Grind.{common_steps}
use Rattle.std.specs.List.{onto_first}
use Rattle.capfilter.specs.Numbers.{parts}
use Rattle.capfilter.specs.Ends.{net_parts}

module _ {X : Type 0} (p : X → Bool) where
  whole : (xs : List X) → (b : Bool) → ltb (position_or_len p xs) (length xs) ≡ b → cond b (Some (position_or_len p xs)) None ≡ None → slice_split p xs ≡ xs ∷ []
  whole xs true e h = absurd (cc)
  whole xs false e h =
      let past : length xs ≤ position_or_len p xs = grind (arith, nat_tests) in
      slice_split_none p xs (λ k d within. fails_before_first p xs k d (omega arith))

  -- where no element passes the list is its one part
  pub parts_none : (xs : List X) → position p xs ≡ None → slice_split p xs ≡ xs ∷ []
  parts_none xs h = whole xs _ refl h

  cut_at : (xs : List X) (i : ℕ) (b : Bool) → ltb (position_or_len p xs) (length xs) ≡ b → cond b (Some (position_or_len p xs)) None ≡ Some i
      → (position_or_len p xs ≡ i) × (i < length xs)
  cut_at xs i true e h =
      let same : position_or_len p xs ≡ i = cc in
      (same, grind (arith, nat_tests))
  cut_at xs i false e h = absurd (cc)

  -- the first element that passes ends the first part
  pub parts_some : (xs : List X) (d : X) (i : ℕ) → position p xs ≡ Some i → slice_split p xs ≡ take i xs ∷ slice_split p (drop (i + 1) xs)
  parts_some xs d i h =
      let at = cut_at xs i _ refl h in
      let first : slice_split p xs ≡ before_first p xs ∷ slice_split p (after_first p xs) = slice_split_first p xs d (omega (arith, at.0, at.1)) in
      subst (λ (n : ℕ). slice_split p xs ≡ take n xs ∷ slice_split p (drop (n + 1) xs)) at.0 first

  pub found_at : (xs : List X) (d : X) (i : ℕ) → position p xs ≡ Some i → (i < length xs) × (p (get_or xs i d) ≡ true)
  found_at xs d i h =
      let at = cut_at xs i _ refl h in
      (at.1, subst (λ (n : ℕ). p (get_or xs n d) ≡ true) at.0 (passes_at_first p xs d (omega (arith, at.0, at.1))))

-- what is left of a list is all of it
pub rest_taken : (xs : List ℕ) (i : ℕ) → take (length xs - i) (drop i xs) ≡ drop i xs
rest_taken xs i = grind (arith, common_steps)

-- a list at the place of one of its bytes
pub split_there : (xs : List ℕ) (i byte : ℕ) → i < length xs → nat_eq (get_or xs i 0) byte ≡ true → xs ≡ take i xs ++ byte ∷ drop (i + 1) xs
split_there xs i byte within there =
    let same : get_or xs i 0 ≡ byte = grind (arith, nat_tests) in
    let e : drop i xs ≡ get_or xs i 0 ∷ drop (i + 1) xs = grind (arith, common_steps) in
    sym (take-append-drop i xs) ∙ ap (λ ys. take i xs ++ ys) (e ∙ ap (λ n. n ∷ drop (i + 1) xs) same)

-- a text has one part or more
parts_are_some : (byte : ℕ) (xs : List ℕ) → (part : List ℕ) × (more : List (List ℕ)) × (parts byte xs ≡ part ∷ more)
parts_are_some byte [] = ([], [], refl)
parts_are_some byte (x ∷ xs) = by_test (nat_eq x byte) (onto (parts_are_some byte xs))
  where
    onto : ((part : List ℕ) × (more : List (List ℕ)) × (parts byte xs ≡ part ∷ more)) → (part : List ℕ) × (more : List (List ℕ)) × (onto_first x (parts byte xs) ≡ part ∷ more)
    onto p = (x ∷ p.0, p.1, ap (onto_first x) p.2)

    by_test : (b : Bool) → ((part : List ℕ) × (more : List (List ℕ)) × (onto_first x (parts byte xs) ≡ part ∷ more))
        → (part : List ℕ) × (more : List (List ℕ)) × (cond b ([] ∷ parts byte xs) (onto_first x (parts byte xs)) ≡ part ∷ more)
    by_test true p = ([], parts byte xs, refl)
    by_test false p = p

-- a net has one slash
pub no_net : (all a rest b more : List ℕ) → parts 47 all ≡ a ∷ parts 47 rest → parts 47 rest ≡ b ∷ parts 47 more → net_parts (parts 47 all) ≡ None
no_net all a rest b more e f =
    let p = parts_are_some 47 more in
    ap net_parts e ∙ ap (λ (ps : List (List ℕ)). net_parts (a ∷ ps)) f ∙ ap (λ (ps : List (List ℕ)). net_parts (a ∷ b ∷ ps)) p.2
