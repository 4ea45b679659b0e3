-- How much a conversation may still do before something further comes to it.
use Rattle.std.specs.Prelude.{ℕ, ◌+◌, ◌*◌, ◌<◌, ◌≤◌, cond, Option}
use Rattle.evring.specs.declared.way.Way.TheVariants.{Fore, Back}
use Rattle.flowdir.specs.Left.{count_of}
use Rattle.convo.specs.Directions.{dir_due, dir_grants, dir_work}
use Rattle.convo.specs.Standing.{least_by}
use Rattle.convo.specs.declared.half.Half.{Half}
use Rattle.convo.specs.declared.stage.Stage.{Stage}
use Rattle.convo.specs.declared.stage.Stage.TheVariants as at
use Rattle.convo.specs.declared.talk.Convo.{Convo}
use Rattle.convo.specs.declared.want.Want.{Want}
use Rattle.convo.specs.declared.want.Want.TheVariants.{Ask, Free, Emit, Rest}

-- at most so many grants can still come
abbrev pub grants_left : {C : Type 0} → Convo C → ℕ
grants_left x = dir_grants x.fore.dir + dir_grants x.back.dir

-- what is left to do in a direction: its own work, and a chunk that was looked for
abbrev pub work_of_half : {C : Type 0} → Half C → ℕ
work_of_half h = 8 * (dir_work h.dir + count_of h.first)

-- a direction gives out work: so much less is left there
pub record Gives {C : Type 0} (given : ℕ) (h h' : Half C) : Type 0 where
  pub grants_most : dir_grants h'.dir ≤ dir_grants h.dir
  pub work_most : work_of_half h' + given ≤ work_of_half h

-- The stages that are still to come. A segment's may tell of the beginning, those of an end tell of it.
abbrev pub stage_work : Stage → ℕ
stage_work at.Resting = 0
stage_work (at.Segment way now reset) = 4
stage_work (at.Time moment way) = 1
stage_work (at.End moment reason Fore) = 5
stage_work (at.Unshown moment reason Fore) = 5
stage_work (at.End moment reason Back) = 4
stage_work (at.Unshown moment reason Back) = 4
stage_work at.Answered = 1
stage_work at.Events = 1

-- What is left to do: work in both directions, stages, and the events of the beginning and the end. Charges that wait
-- to go back are no work.
abbrev pub work_left : {C : Type 0} → Convo C → ℕ
work_left x = work_of_half x.fore + work_of_half x.back + stage_work x.stage + cond x.opens 3 0 + 3 * count_of x.over

-- What a want costs where it is given out. An event costs more, since its answer is an entry of its own. A charge that
-- goes back costs nothing: there is one charge less to give.
abbrev pub price_of : {C : Type 0} → Want C → ℕ
price_of (Ask bytes mark) = 1
price_of (Free charge) = 0
price_of (Emit event) = 3
price_of Rest = 1

-- at most so many grants and so much work are left more than before
pub record Adds {C : Type 0} (grants work : ℕ) (x x' : Convo C) : Type 0 where
  pub grants_most : grants_left x' ≤ grants_left x + grants
  pub work_most : work_left x' ≤ work_left x + work

-- less is left to do, and behind a grant one grant less can come
pub record Lowers {C : Type 0} (granted : Option C) (x x' : Convo C) : Type 0 where
  pub grants_less : grants_left x' + count_of granted ≤ grants_left x
  pub work_less : work_left x' < work_left x

-- A call that brings so many grants and so much work pays for what it wants next, and for a grant, out of what is left.
pub record Pays {C : Type 0} (granted : Option C) (grants work : ℕ) (want : Want C) (x x' : Convo C) : Type 0 where
  pub grants_most : grants_left x' + count_of granted ≤ grants_left x + grants
  pub work_most : work_left x' + price_of want ≤ work_left x + work

-- when a hole or a flush falls due, by what is kept: the sooner one of both directions
abbrev pub due_at : {C : Type 0} → ℕ → ℕ → Convo C → Option ℕ
due_at hole flush x = least_by (dir_due hole flush x.fore.dir) (dir_due hole flush x.back.dir)
