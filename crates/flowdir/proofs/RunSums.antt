-- The positions of free ranges.
use Rattle.std.specs.Prelude.{◌≡◌, refl, ℕ, suc, ◌+◌, ◌-◌, ◌<◌, ◌≤◌, ◌^◌, Bool, true, false, cond, nat_lt, List, [], ◌∷◌, ◌++◌, length, map, min, max, take, drop, ℤ}
use Rattle.std.proofs.Common.{◌∙◌, ap, arith, append-nil}
use Rattle.std.proofs.lemmas.Bool.Decides.{nat_tests}
use Rattle.std.proofs.lemmas.List.{length-drop, length-take}
use Rattle.streamdefs.specs.Lists.{Each}
use Rattle.streamdefs.specs.Ranges.{Range, between}
use Rattle.streamdefs.specs.Reorder.{placed_from}
use Rattle.streamdefs.specs.Direction.{lengths}
use Rattle.reorder.specs.Frags.{Frag, end_of, free, range_for}
use Rattle.reorder.specs.declared.run.Run.{Run}
use Rattle.reorder.proofs.FreeRuns.{IsWithin}
use Rattle.flowdir.specs.Classes.{sum_of_runs}
use Rattle.flowdir.specs.Asking.{placed_wait}
use Rattle.flowdir.specs.Waits.{wait_in}

between_few : (from m : ℕ) (rest : List Range) → sum_of_runs (between from m ++ rest) ≡ (m - from) + sum_of_runs rest
between_few from m rest = by (nat_lt from m) refl
  where
    by : (b : Bool) → nat_lt from m ≡ b → sum_of_runs (cond b (record { at = from; len = m - from } ∷ []) [] ++ rest) ≡ (m - from) + sum_of_runs rest
    by true e = refl
    by false e = few (grind (arith, nat_tests))
      where
        few : m ≤ from → sum_of_runs rest ≡ (m - from) + sum_of_runs rest
        few h = omega arith

pub free_le : {C : Type 0} (from to : ℕ) (fs : List (Frag C)) → sum_of_runs (free from to fs) ≤ to - from
free_le from to [] = by (nat_lt from to)
  where
    by : (b : Bool) → sum_of_runs (cond b (record { at = from; len = to - from } ∷ []) []) ≤ to - from
    by true = omega arith
    by false = omega arith
free_le from to (f ∷ fs) = omega (arith, between_few from (min f.at to) (free (max from (end_of f)) to fs), free_le (max from (end_of f)) to fs)

between_count : (from m : ℕ) (rest : List Range) → length (between from m ++ rest) ≤ (m - from) + length rest
between_count from m rest = by (nat_lt from m) refl
  where
    by : (b : Bool) → nat_lt from m ≡ b → length (cond b (record { at = from; len = m - from } ∷ []) [] ++ rest) ≤ (m - from) + length rest
    by true e = grind (arith, nat_tests)
    by false e = omega arith

pub free_count : {C : Type 0} (from to : ℕ) (fs : List (Frag C)) → length (free from to fs) ≤ to - from
free_count from to [] = omega (arith, between_count from to [], ap length (append-nil (between from to)))
free_count from to (f ∷ fs) = omega (arith, between_count from (min f.at to) (free (max from (end_of f)) to fs), free_count (max from (end_of f)) to fs)

pub free_few : {C : Type 0} (from n : ℕ) (runs : List Run) (fs : List (Frag C)) → map range_for runs ≡ free from (from + n) fs → n ≤ 262144 → sum_of_runs (map range_for runs) < 2 ^ 64
free_few from n runs fs e h = omega (arith, ap sum_of_runs e, free_le from (from + n) fs)

-- the runs' bytes are as many
pub waits_few : (start : ℤ) (lo : ℕ) (bytes : List ℕ) (rs : List Range) → Each (IsWithin lo (lo + length bytes)) rs → lengths (map (placed_wait start) (map (wait_in lo bytes) rs)) ≡ sum_of_runs rs
waits_few start lo bytes [] w = refl
waits_few start lo bytes (r ∷ rs) w = (λ i. run_length i + waits_few start lo bytes rs w.1 i)
  where
    placed_length : (at : ℕ) (bs : List ℕ) → length (placed_from at start bs) ≡ length bs
    placed_length at [] = refl
    placed_length at (b ∷ bs) = ap suc (placed_length (suc at) bs)

    run_length : length (placed_from r.at start (take r.len (drop (r.at - lo) bytes))) ≡ r.len
    run_length = placed_length r.at (take r.len (drop (r.at - lo) bytes)) ∙ length-take r.len (drop (r.at - lo) bytes) ∙ ap (min r.len) (length-drop (r.at - lo) bytes) ∙ omega (arith, w.0.0, w.0.2)
