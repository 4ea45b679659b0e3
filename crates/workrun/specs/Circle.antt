-- The cores of a worker, and the order in which it looks at them.
use Rattle.std.specs.Prelude.{◌≡◌, ℕ, zero, suc, ◌+◌, ◌-◌, ◌*◌, ◌/◌, ◌%◌, ◌<◌, List, [], ◌∷◌, map}

-- so many numbers from one on
abbrev pub numbers : (from count : ℕ) → List ℕ
numbers from zero = []
numbers from (suc count) = from ∷ numbers (suc from) count

-- how many numbers from the first one on, by steps, are below the number of cores
abbrev pub count_of : (first step cores : ℕ) → ℕ
count_of first step cores = (cores - first + step - 1) / step

-- the cores of a worker, ascending
abbrev pub own_cores : (first step cores : ℕ) → List ℕ
own_cores first step cores = map (λ place. first + step * place) (numbers 0 (count_of first step cores))

-- all its cores from the one at a place on, round
abbrev pub round_from : (first step cores at : ℕ) → List ℕ
round_from first step cores at = map (λ turn. first + step * ((at + turn) % count_of first step cores)) (numbers 0 (count_of first step cores))

-- the place of a core among them
abbrev pub place_of : (first step core : ℕ) → ℕ
place_of first step core = (core - first) / step

-- a core is one of them: a number below the number of cores that is the first one modulo the step
abbrev pub IsOwn : (first step cores core : ℕ) → Type 0
IsOwn first step cores core = (core % step ≡ first) × (core < cores)
