-- One direction, as its conversation sees it.
use Rattle.std.specs.Prelude.{◌≡◌, ⊤, ℕ, ◌+◌, ◌<◌, ◌≤◌, ◌==◌, cond, List, Option, Some, None}
use Rattle.streamdefs.specs.Reorder.{Charge}
use Rattle.streamdefs.specs.Pending.{Piece}
use Rattle.streamdefs.specs.Direction.{Direction, Kind}
use Rattle.flowdir.specs.Boundary.{Phase, kind_of}
use Rattle.flowdir.specs.Kept.{Kept as DirKept, StandsFor, bytes_next}
use Rattle.flowdir.specs.Left.{count_of, due_at, grants_left, work_left}
use Rattle.flowdir.specs.Passing.{weight_of_all}
use Rattle.flowdir.specs.declared.step.Step.{Step}
use Rattle.flowdir.specs.declared.step.Step.TheVariants.{Ask, Free, Done}

-- What it stands for. It is a record, so that what is said of conversations doesn't open it.
pub record DirStands {C : Type 0} (paid : C → Charge) (k : DirKept C) (d : Direction) (phase : Phase) (pieces : List Piece) : Type 0 where
  pub stands : StandsFor paid k d phase pieces

-- its kind
abbrev pub dir_kind : {C : Type 0} → DirKept C → Kind
dir_kind k = kind_of k.mode

-- the bytes of its ask that waits
abbrev pub dir_asked : {C : Type 0} → DirKept C → Option ℕ
dir_asked k = bytes_next k.work

-- a weight over its charges
unfoldable pub dir_weight : {C : Type 0} → (C → ℕ) → DirKept C → ℕ
dir_weight w k = weight_of_all w k.lane k.frags

-- how many grants can still come to it, and how much it may still do
unfoldable pub dir_grants : {C : Type 0} → DirKept C → ℕ
dir_grants k = grants_left k

unfoldable pub dir_work : {C : Type 0} → DirKept C → ℕ
dir_work k = work_left k

-- when a hole or a flush falls due, by what it keeps
unfoldable pub dir_due : {C : Type 0} → ℕ → ℕ → DirKept C → Option ℕ
dir_due hole flush k = due_at hole flush k

-- at most so many grants and so much work are left more than before
pub record DirAdds {C : Type 0} (grants work : ℕ) (k k' : DirKept C) : Type 0 where
  pub grants_most : dir_grants k' ≤ dir_grants k + grants
  pub work_most : dir_work k' ≤ dir_work k + work

-- less is left to do, and behind a grant one grant less can come
pub record DirLowers {C : Type 0} (granted : Option C) (k k' : DirKept C) : Type 0 where
  pub grants_less : dir_grants k' + count_of granted ≤ dir_grants k
  pub work_less : dir_work k' < dir_work k

-- 1 where it is due at this moment
abbrev pub due_now : ℕ → Option ℕ → ℕ
due_now at None = 0
due_now at (Some m) = cond (m == at) 1 0

-- what comes behind a step that is the last one
abbrev pub if_done : {C : Type 0} → Step C → ℕ → ℕ
if_done (Ask bytes) n = 0
if_done (Free charge) n = 0
if_done (Done counts) n = n

-- what falls due at a moment is done
pub record DirFalls {C : Type 0} (hole flush at : ℕ) (k k' : DirKept C) (step : Step C) : Type 0 where
  pub grants_most : dir_grants k' ≤ dir_grants k
  pub work_most : dir_work k' + due_now at (dir_due hole flush k) ≤ dir_work k
  pub busy : 1 ≤ due_now at (dir_due hole flush k) + if_done step 1

-- the bytes of the ask that waits behind a step; behind the last one nobody asks
abbrev pub IsAskedBehind : {C : Type 0} → DirKept C → Step C → Type 0
IsAskedBehind k (Done counts) = ⊤
IsAskedBehind k (Ask bytes) = dir_asked k ≡ Some bytes
IsAskedBehind k (Free charge) = dir_asked k ≡ None

-- it is due at no moment, or behind this one
abbrev pub IsBehind : ℕ → Option ℕ → Type 0
IsBehind at None = ⊤
IsBehind at (Some m) = at < m
