-- The list of the cores that a worker served, and its runs of equal neighbours, each a core and how often it stands there.
use Rattle.std.specs.Prelude.{◌≡◌, ◌≢◌, ℕ, ◌+◌, ◌^◌, ◌<◌, ◌≤◌, nat_eq, if◌then◌else◌, List, [], ◌∷◌, replicate, flat_map}

-- the list that runs stand for: each core as often as its run counts
abbrev pub spread : List (ℕ × ℕ) → List ℕ
spread = flat_map (λ run. replicate run.1 run.0)

-- a run before others: it joins the first of them, where that is of its core
abbrev pub with_run : ℕ → ℕ → List (ℕ × ℕ) → List (ℕ × ℕ)
with_run core count [] = (core, count) ∷ []
with_run core count (run ∷ runs) = if nat_eq run.0 core then (core, count + run.1) ∷ runs else (core, count) ∷ run ∷ runs

-- the longest runs of equal neighbours in a list
abbrev pub runs_of : List ℕ → List (ℕ × ℕ)
runs_of [] = []
runs_of (core ∷ cores) = with_run core 1 (runs_of cores)

-- the core isn't that of the run behind
abbrev pub IsOther : ℕ → List (ℕ × ℕ) → Type 0
IsOther core [] = Unit {0}
IsOther core (next ∷ runs) = core ≢ next.0

-- each counts at least one, and neighbours are of different cores
abbrev pub AreLongest : List (ℕ × ℕ) → Type 0
AreLongest [] = Unit {0}
AreLongest (run ∷ runs) = (1 ≤ run.1) × IsOther run.0 runs × AreLongest runs

-- a run isn't of the core of the one behind it, unless the two together are too many for a number of 64 bits
abbrev pub IsApart : ℕ × ℕ → List (ℕ × ℕ) → Type 0
IsApart run [] = Unit {0}
IsApart run (next ∷ runs) = run.0 ≡ next.0 → 2 ^ 64 ≤ run.1 + next.1

-- runs as they are kept: each counts at least one event, and no two neighbours could be one
abbrev pub AreKept : List (ℕ × ℕ) → Type 0
AreKept [] = Unit {0}
AreKept (run ∷ runs) = (1 ≤ run.1) × IsApart run runs × AreKept runs

-- the runs of a list, as they are kept
pub record AreRunsOf (list : List ℕ) (runs : List (ℕ × ℕ)) : Type 0 where
  pub stand_for : spread runs ≡ list
  pub kept : AreKept runs

-- each run is at most that long
abbrev pub AreBelow : ℕ → List (ℕ × ℕ) → Type 0
AreBelow limit [] = Unit {0}
AreBelow limit (run ∷ runs) = (run.1 < limit) × AreBelow limit runs

-- a list with fewer than 2^64 equal ones side by side
abbrev pub HasShortRuns : List ℕ → Type 0
HasShortRuns list = AreBelow (2 ^ 64) (runs_of list)
