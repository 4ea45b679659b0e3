use Rattle.std.proofs.Common.{◌≡◌, ◌≤◌, ◌<◌, ℕ, zero, suc, ◌+◌, ◌-◌, Bool, true, false, not, cond, List, [], ◌∷◌, ◌++◌, length, take, drop, get_or, Some, None, sym, ◌∙◌, ap, refl, arith, ltb, nat_eq, subst, filter, length-take}
use Rattle.std.specs.List.{slice_split, position_or_len, position, before_first, after_first, onto_first}
use Rattle.std.specs.Str.Lines.{lines, lines_of_parts, strip_carriage_return}
use Rattle.std.proofs.lemmas.List.Splits.{slice_split_none, slice_split_first, slice_split-cons_yes}
use Rattle.std.proofs.lemmas.List.Sums.{fails_before_first, passes_at_first}
use Rattle.std.proofs.lemmas.Bool.Decides.{nat_tests}
use Rattle.std.proofs.lemmas.Grind.{common_steps}
use Rattle.linewords.proofs.SplitLemmas.{split_whole, split_first, rest_taken, nothing_left}

-- Lines are parts of a text.

-- a text that is split has a part
some_part : (p : ℕ → Bool) (xs : List ℕ) → (part : List ℕ) × (more : List (List ℕ)) × (slice_split p xs ≡ part ∷ more)
some_part p [] = ([], [], refl)
some_part p (x ∷ xs) = by_test (p x) (some_part p xs)
  where
    by_test : (b : Bool) → ((part : List ℕ) × (more : List (List ℕ)) × (slice_split p xs ≡ part ∷ more))
        → (part : List ℕ) × (more : List (List ℕ)) × (cond b ([] ∷ slice_split p xs) (onto_first x (slice_split p xs)) ≡ part ∷ more)
    by_test true q = ([], slice_split p xs, refl)
    by_test false q = (x ∷ q.0, q.1, ap (onto_first x) q.2)

not_empty : (xs : List ℕ) → 0 < length xs → nat_eq (length xs) 0 ≡ false
not_empty xs some = grind (arith, nat_tests)

-- the last line has no line feed
pub lines_last : (text : List ℕ) → 0 < length text → position (λ b. nat_eq b 10) text ≡ None → lines text ≡ text ∷ lines (take (length text - length text) (drop (length text) text))
lines_last text some h =
    ap lines_of_parts (split_whole (λ b. nat_eq b 10) text h) ∙ ap (λ (b : Bool). cond b [] (text ∷ [])) (not_empty text some)
    ∙ ap (λ (rest : List ℕ). text ∷ lines rest) (sym (nothing_left text))

lines_by : (line : List ℕ) (rest : List ℕ) → ((part : List ℕ) × (more : List (List ℕ)) × (slice_split (λ b. nat_eq b 10) rest ≡ part ∷ more))
    → lines_of_parts (line ∷ slice_split (λ b. nat_eq b 10) rest) ≡ strip_carriage_return line ∷ lines rest
lines_by line rest q = ap (λ (ps : List (List ℕ)). lines_of_parts (line ∷ ps)) q.2 ∙ ap (λ (ps : List (List ℕ)). strip_carriage_return line ∷ lines_of_parts ps) (sym q.2)

-- a line and what follows its line feed
pub lines_first : (text : List ℕ) (at : ℕ) → position (λ b. nat_eq b 10) text ≡ Some at
    → lines text ≡ strip_carriage_return (take at text) ∷ lines (take (length text - (at + 1)) (drop (at + 1) text))
lines_first text at h =
    ap lines_of_parts (split_first (λ b. nat_eq b 10) text 0 at h) ∙ lines_by (take at text) (drop (at + 1) text) (some_part (λ b. nat_eq b 10) (drop (at + 1) text))
    ∙ ap (λ (rest : List ℕ). strip_carriage_return (take at text) ∷ lines rest) (sym (rest_taken text (at + 1)))
