-- The frees that each worker did, along its list of served cores, at every moment.
use Rattle.std.specs.Prelude.{◌≡◌, ℕ, ◌<◌, cond, List, [], ◌++◌, map, Some, slice_get}
use Rattle.prio_budget.specs.declared.free.Free.{Free}
use Rattle.streamdefs.specs.Lists.{Each}
use Rattle.streamdefs.specs.Order.{Rise, frees_of_answers, along_served}
use Rattle.mixrun.specs.Moment.{Reply, AtCore, AtWorker, Moment}
use Rattle.mixrun.specs.AtMoment.{lines_in, frees_in_hand}

-- what a worker freed for an answer: nothing where its chunks are kept
abbrev pub frees_done : Reply → List Free
frees_done r = cond r.advice.keep [] r.frees

-- the same for each answer of a core: those of its entries, then those that it has not taken back
abbrev pub answers_at : AtCore → List (List Free)
answers_at a = frees_of_answers (lines_in a.course) ++ map frees_done a.answers

-- the frees of a worker: along its list, then those for the event in hand
abbrev pub frees_along : List (List (List Free)) → AtWorker → List Free
frees_along answers x = along_served answers [] x.served ++ frees_in_hand x

-- they rise, and none has reached this stamp
pub record RisesAlong (answers : List (List (List Free))) (n : ℕ) (x : AtWorker) : Type 0 where
  pub rises : Rise (frees_along answers x)
  pub below : Each (λ f. f.stamp < n) (frees_along answers x)

-- those of each worker
abbrev pub WorkersRising : Moment → Type 0
WorkersRising m = (w : ℕ) (x : AtWorker) → slice_get m.workers w ≡ Some x → RisesAlong (map answers_at m.cores) m.pair.stamp x
