-- Numbers by steps.
use Rattle.std.proofs.Common.{◌≡◌, ℕ, zero, suc, ◌+◌, ◌-◌, ◌*◌, ◌/◌, ◌%◌, ◌<◌, ◌≤◌, map, length, refl, ap, ◌∙◌, arith}
use Rattle.std.specs.Prelude.{Some, slice_get, option_map}
use Rattle.std.proofs.Math.Nat.{mul-le-mul_left, mul-suc, mul_comm, mul-div-le, le-mul_of_pos_right, add-mul-mod_self_left, mod-eq_of_lt}
use Rattle.std.proofs.lemmas.Nat.{le-div}
use Rattle.std.proofs.lemmas.Option.{slice_get-map}
use Rattle.workrun.specs.Circle.{numbers, count_of}

-- a place below the count is that of a number below the number of cores
pub step_within : (f s c p : ℕ) → f < s → s ≤ c → p < count_of f s c → f + s * p < c
step_within f s c p h k lt =
    let low : s * suc p ≤ s * ((c - f + s - 1) / s) = mul-le-mul_left s (omega arith) in
    omega (arith, mul-div-le (c - f + s - 1) s, low, mul-suc s p)

le_by_steps : (s n y : ℕ) → 0 < s → s * n + 1 ≤ y + s → n ≤ y
le_by_steps s zero y h k = omega arith
le_by_steps s (suc m) y h k = omega (arith, mul-suc s m, le-mul_of_pos_right m h, mul_comm m s)

-- there is a place
pub count_pos : (f s c : ℕ) → f < s → s ≤ c → 0 < count_of f s c
count_pos f s c h k = le-div 1 (c - f + s - 1) s (omega arith) (omega arith)

-- there are at most as many as cores
pub count_few : (f s c : ℕ) → f < s → s ≤ c → count_of f s c ≤ c
count_few f s c h k =
    let most : (c - f + s - 1) / s ≤ c - f = le_by_steps s ((c - f + s - 1) / s) (c - f) (omega arith) (omega (arith, mul-div-le (c - f + s - 1) s)) in
    omega arith

pub numbers_get : (from count k : ℕ) → k < count → slice_get (numbers from count) k ≡ Some (from + k)
numbers_get from zero k h = absurd (omega arith)
numbers_get from (suc count) zero h = ap Some (omega arith)
numbers_get from (suc count) (suc k) h = numbers_get (suc from) count k (omega arith) ∙ ap Some (omega arith)

pub round_get : (f : ℕ → ℕ) (count k : ℕ) → k < count → slice_get (map f (numbers 0 count)) k ≡ Some (f k)
round_get f count k h =
    let there : slice_get (numbers 0 count) k ≡ Some k = numbers_get 0 count k h ∙ ap Some (omega arith) in
    slice_get-map f (numbers 0 count) k ∙ ap (option_map f) there

pub length_numbers : (from count : ℕ) → length (numbers from count) ≡ count
length_numbers from zero = refl
length_numbers from (suc count) = ap suc (length_numbers (suc from) count)

-- a number by steps from one below the step is that one modulo the step
pub step_mod : (f s p : ℕ) → f < s → (f + s * p) % s ≡ f
step_mod f s p h = add-mul-mod_self_left f s p ∙ mod-eq_of_lt h
