-- The runs that a segment brings.
use Rattle.std.specs.Prelude.{◌≡◌, refl, ℕ, ◌+◌, ◌-◌, ◌≤◌, List, [], ◌∷◌, length, map, min, take, drop, ℤ}
use Rattle.std.proofs.Common.{sym, ◌∙◌, ap, subst, arith}
use Rattle.std.proofs.lemmas.List.{length-drop, length-take, length-map}
use Rattle.overpolicy.specs.declared.policy.Policy.{Policy}
use Rattle.streamdefs.specs.Lists.{Each}
use Rattle.streamdefs.specs.Ranges.{Range}
use Rattle.reorder.specs.Frags.{Frag, Ascends, AreClear, free, overlaid, overlaid_one}
use Rattle.reorder.proofs.FreeRuns.{free_within, IsWithin}
use Rattle.reorder.proofs.Spread.{free_clear}
use Rattle.reorder.proofs.Overlay.{overlaid_ascends, overlaid_free}
use Rattle.flowdir.specs.Classes.{sum_of_runs}
use Rattle.flowdir.specs.Asking.{Wait, WaitClear}
use Rattle.flowdir.specs.Waits.{wait_in, bytes_waiting, WaitEnd, AreFresh}
use Rattle.flowdir.proofs.Asked.{waits_clear}
use Rattle.flowdir.proofs.RunSums.{free_le, free_count}

wait_length : (lo : ℕ) (bytes : List ℕ) (r : Range) → IsWithin lo (lo + length bytes) r → length (take r.len (drop (r.at - lo) bytes)) ≡ r.len
wait_length lo bytes r w = length-take r.len (drop (r.at - lo) bytes) ∙ ap (min r.len) (length-drop (r.at - lo) bytes) ∙ omega (arith, w.0, w.2)

waits_end : (lo : ℕ) (bytes : List ℕ) (rs : List Range) → length bytes ≤ 262144 → Each (IsWithin lo (lo + length bytes)) rs → WaitEnd (lo + length bytes) (map (wait_in lo bytes) rs)
waits_end lo bytes [] f w = tt
waits_end lo bytes (r ∷ rs) f w = (omega (arith, wait_length lo bytes r w.0, w.0.2), omega (arith, wait_length lo bytes r w.0, w.0.0, w.0.2), waits_end lo bytes rs f w.1)

waits_sum : (lo : ℕ) (bytes : List ℕ) (rs : List Range) → Each (IsWithin lo (lo + length bytes)) rs → bytes_waiting (map (wait_in lo bytes) rs) ≡ sum_of_runs rs
waits_sum lo bytes [] w = refl
waits_sum lo bytes (r ∷ rs) w = λ i. wait_length lo bytes r w.0 i + waits_sum lo bytes rs w.1 i

pub fresh : {C : Type 0} (front low : ℕ) (policy : Policy) (start : ℤ) (inner : List ℕ) (fs fs' : List (Frag C)) (ws : List Wait) → Ascends front fs → length inner ≤ 262144
    → ws ≡ map (wait_in low inner) (free low (low + length inner) fs) → fs' ≡ overlaid policy start low inner fs → AreFresh low (low + length inner) fs' ws
fresh {C = C} front low policy start inner fs fs' ws a f e g = subst (λ (x : List (Frag C) × List Wait). AreFresh low (low + length inner) x.0 x.1) (λ i. (sym g i, sym e i)) made
  where
    over : List (Frag C)
    over = overlaid policy start low inner fs

    rs : List Range
    rs = free low (low + length inner) fs

    within : Each (IsWithin low (low + length inner)) rs
    within = free_within low (low + length inner) fs

    made : AreFresh low (low + length inner) over (map (wait_in low inner) rs)
    made = record {
      clear = waits_clear low low inner over rs within (subst (λ qs. AreClear low over qs) (overlaid_free policy start low inner low (low + length inner) fs) (free_clear front low (low + length inner) over (overlaid_ascends policy start low inner front fs a)));
      ends = waits_end low inner rs f within;
      few = omega (arith, waits_sum low inner rs within, free_le low (low + length inner) fs);
    }

end_wider : (high more : ℕ) (ws : List Wait) → high ≤ more → WaitEnd high ws → WaitEnd more ws
end_wider high more [] h w = tt
end_wider high more (x ∷ ws) h w = (omega (arith, w.0), w.1, end_wider high more ws h w.2)

pub fresh_wider : {C : Type 0} (low low' high more : ℕ) (fs : List (Frag C)) (ws : List Wait) → AreFresh low high fs ws → low ≡ low' → high ≤ more → AreFresh low' more fs ws
fresh_wider low low' high more fs ws f e h = record { clear = subst (λ n. WaitClear n fs ws) e f.clear; ends = end_wider high more ws h f.ends; few = f.few }

-- There are no more runs than bytes, and what is covered stays as many parts.
pub runs_few : {C : Type 0} (low : ℕ) (inner : List ℕ) (fs : List (Frag C)) (ws : List Wait) → ws ≡ map (wait_in low inner) (free low (low + length inner) fs) → length ws ≤ length inner
runs_few low inner fs ws e = omega (arith, ap length e, length-map (free low (low + length inner) fs) (wait_in low inner), free_count low (low + length inner) fs)

pub parts_same : {C : Type 0} (policy : Policy) (start : ℤ) (low : ℕ) (inner : List ℕ) (fs fs' : List (Frag C)) → fs' ≡ overlaid policy start low inner fs → length fs' ≡ length fs
parts_same policy start low inner fs fs' e = ap length e ∙ length-map fs (overlaid_one policy start low inner)
