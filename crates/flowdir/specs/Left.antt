-- How much a direction may still do before a further segment comes.
use Rattle.std.specs.Prelude.{ℕ, ◌+◌, ◌*◌, ◌<◌, ◌≤◌, ◌++◌, length, Option, Some, None, option_map, option_to_list}
use Rattle.flowdir.specs.Boundary.{least_of}
use Rattle.flowdir.specs.Closing.{flush_at}
use Rattle.flowdir.specs.Kept.{Kept, Working}
use Rattle.flowdir.specs.Kept.Working.{Idle, Runs, Copies, Giving, Failed}

-- one where there is one
abbrev pub count_of : {A : Type 0} → Option A → ℕ
count_of None = 0
count_of (Some x) = 1

-- Each part that is held may open a chunk, and behind each chunk that is handed over a copy may be granted.
abbrev pub grants_held : {C : Type 0} → Kept C → ℕ
grants_held k = length k.frags + count_of k.lane.chunk

-- with what is under way: a run that waits may be granted, and be held then
abbrev pub grants_with : Working → ℕ → ℕ
grants_with Failed n = 0
grants_with Idle n = n
grants_with Giving n = n
grants_with (Copies bytes) n = 1 + n
grants_with (Runs start waits) n = 2 * length waits + n

-- at most so many grants can still come
abbrev pub grants_left : {C : Type 0} → Kept C → ℕ
grants_left k = grants_with k.work (grants_held k)

-- What is left to do: a part is passed, a chunk is cut and taken, a copy is asked for and given back, a hole is passed.
abbrev pub work_held : {C : Type 0} → Kept C → ℕ
work_held k = 10 * length k.frags + 6 * count_of k.lane.chunk + count_of k.lane.copy + length k.lane.closed + length k.lane.spares + 2 * count_of k.hole

abbrev pub work_with : Working → ℕ → ℕ
work_with Failed n = 0
work_with Idle n = n
work_with Giving n = 1 + n
work_with (Copies bytes) n = 3 + n
work_with (Runs start waits) n = 14 * length waits + n

abbrev pub work_left : {C : Type 0} → Kept C → ℕ
work_left k = work_with k.work (work_held k)

-- at most so many grants and so much work are left more than before
pub record Adds {C : Type 0} (grants work : ℕ) (k k' : Kept C) : Type 0 where
  pub grants_most : grants_left k' ≤ grants_left k + grants
  pub work_most : work_left k' ≤ work_left k + work

-- less is left to do, and behind a grant one grant less can come
pub record Lowers {C : Type 0} (granted : Option C) (k k' : Kept C) : Type 0 where
  pub grants_less : grants_left k' + count_of granted ≤ grants_left k
  pub work_less : work_left k' < work_left k

-- when a hole or a flush falls due, by what is kept
abbrev pub due_at : {C : Type 0} → ℕ → ℕ → Kept C → Option ℕ
due_at hole flush k = least_of (option_to_list (option_map (λ since. since + hole) k.hole) ++ option_to_list (flush_at flush k.lane))
