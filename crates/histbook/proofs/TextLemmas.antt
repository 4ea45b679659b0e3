-- The text of numbered parts grows by one part, and that of a worker's runs is that of its list.
use Rattle.std.proofs.Common.{◌≡◌, ℕ, ◌+◌, ◌^◌, ◌<◌, List, [], ◌∷◌, ◌++◌, length, take, get_or, ap, sym, ◌∙◌, subst, arith, add-one}
use Rattle.std.specs.Prelude.{flat_map}
use Rattle.std.specs.List.{enumerate_from}
use Rattle.std.proofs.lemmas.List.{flat_map_more, length-take-le}
use Rattle.std.proofs.Math.Seq.{take-suc}
use Rattle.histbook.specs.Runs.{AreRunsOf, AreBelow, HasShortRuns, runs_of}
use Rattle.histbook.specs.JournalText.{from_line, served_lines}
use Rattle.histbook.proofs.RunsLemmas.{kept_are_longest}

module _ {A : Type 0} where
  numbered_behind : (n : ℕ) (xs : List A) (x : A) → enumerate_from n (xs ++ x ∷ []) ≡ enumerate_from n xs ++ (n + length xs, x) ∷ []
  numbered_behind n [] x = ap (λ (k : ℕ). (k, x) ∷ []) (omega arith)
  numbered_behind n (y ∷ ys) x =
      let place : n + 1 + length ys ≡ n + length (y ∷ ys) = omega arith in
      ap (λ (l : List (ℕ × A)). (n, y) ∷ l) (numbered_behind (n + 1) ys x ∙ ap (λ (k : ℕ). enumerate_from (n + 1) ys ++ (k, x) ∷ []) place)

  numbered_more : (xs : List A) (i : ℕ) (x : A) → i < length xs → x ≡ get_or xs i x → enumerate_from 0 (take (i + 1) xs) ≡ enumerate_from 0 (take i xs) ++ (i, x) ∷ []
  numbered_more xs i x within at =
      let place : 0 + length (take i xs) ≡ i = omega (arith, length-take-le i xs (omega arith)) in
      ap (λ (n : ℕ). enumerate_from 0 (take n xs)) (add-one i)
      ∙ ap (λ (l : List A). enumerate_from 0 l) (take-suc xs i x within ∙ ap (λ (y : A). take i xs ++ y ∷ []) (sym at))
      ∙ numbered_behind 0 (take i xs) x ∙ ap (λ (k : ℕ). enumerate_from 0 (take i xs) ++ (k, x) ∷ []) place

  -- one part more of a text
  pub part_gained : (f : ℕ × A → List ℕ) (xs : List A) (i : ℕ) (x : A) (o before after : List ℕ) → i < length xs → x ≡ get_or xs i x
      → before ≡ o ++ flat_map f (enumerate_from 0 (take i xs)) → after ≡ before ++ f (i, x) → after ≡ o ++ flat_map f (enumerate_from 0 (take (i + 1) xs))
  part_gained f xs i x o before after within at p q =
      q ∙ ap (λ (l : List ℕ). l ++ f (i, x)) p ∙ flat_map_more f o (enumerate_from 0 (take i xs)) (i, x)
      ∙ ap (λ (l : List (ℕ × A)). o ++ flat_map f l) (sym (numbered_more xs i x within at))

pub kept_are_runs : (list : List ℕ) (runs : List (ℕ × ℕ)) → AreRunsOf list runs → HasShortRuns list → runs ≡ runs_of list
kept_are_runs list runs r short =
    let below = subst (λ (l : List ℕ). AreBelow (2 ^ 64) (runs_of l)) (sym r.stand_for) short in
    sym (kept_are_longest runs r.kept below) ∙ ap runs_of r.stand_for

pub runs_written : (list : List ℕ) (runs : List (ℕ × ℕ)) → AreRunsOf list runs → HasShortRuns list → flat_map from_line runs ≡ served_lines list
runs_written list runs r short = ap (λ (l : List (ℕ × ℕ)). flat_map from_line l) (kept_are_runs list runs r short)
