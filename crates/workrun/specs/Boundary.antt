-- What contracts see of a worker.
use Rattle.std.specs.Prelude.{◌≡◌, ℕ, Bool, true, cond, is_some, List, [], ◌∷◌, ◌++◌, Option, Some, None}
use Rattle.prio_budget.specs.declared.free.Free.{Free}
use Rattle.prio_budget.specs.History.{total}
use Rattle.streamdefs.specs.Lawful.{Handler}
use Rattle.prio_budget.specs.declared.charge.Charge.{Ghosts as ChargeGhosts}
use Rattle.scap_world.specs.declared.sink.Sink.{Ghosts as SinkGhosts}
use Rattle.handler.specs.declared.handler.Handler.{Ghosts as HandlerGhosts}
use Rattle.workrun.specs.declared.worker.Worker.{Worker}
use Rattle.workrun.specs.AtWork.{AtWork, Hand}
use Rattle.workrun.specs.Circle.{round_from}
use Rattle.workrun.specs.InWork.{charges_of_work, core_in, frees_in, has_begun, left_in, pause_in}
use Rattle.workrun.specs.Pause.{Pause}
use Rattle.workrun.specs.Steps.{HasInHand}

module _ {H K C : Type 0} {h : HandlerGhosts H} {k : SinkGhosts K} {c : ChargeGhosts C} where
  -- its handler, and its sink
  abbrev pub handler_of : Worker H K C h k c → H
  handler_of w = w.scribe.handler

  abbrev pub sink_of : Worker H K C h k c → K
  sink_of w = w.scribe.sink

  -- it isn't in drain mode
  abbrev pub calm_of : Worker H K C h k c → Bool
  calm_of w = w.calm

  -- its cores: the numbers below the last that are the first modulo the second
  abbrev pub first_of : Worker H K C h k c → ℕ
  first_of w = w.circle.first

  abbrev pub step_of : Worker H K C h k c → ℕ
  step_of w = w.circle.step

  abbrev pub cores_of : Worker H K C h k c → ℕ
  cores_of w = w.circle.cores

  -- the order in which it looks at them
  abbrev pub order_of : Worker H K C h k c → List ℕ
  order_of w = round_from w.circle.first w.circle.step w.circle.cores w.circle.at

  -- what it waits for
  abbrev pub pause : Worker H K C h k c → Pause
  pause w = pause_in w.work

  -- of the event in hand: its core, the releases done for it, and its charges that are still here
  abbrev pub core_in_hand : Worker H K C h k c → Option ℕ
  core_in_hand w = core_in w.work

  abbrev pub frees_in_hand : Worker H K C h k c → List Free
  frees_in_hand w = frees_in w.work

  abbrev pub charges_in_hand : Worker H K C h k c → List C
  charges_in_hand w = charges_of_work w.work

  -- these summed by a weight
  abbrev pub weight : (C → ℕ) → Worker H K C h k c → ℕ
  weight by w = total by (charges_of_work w.work)

  -- its charges go out: the first turn for it is done
  abbrev pub begun : Worker H K C h k c → Bool
  begun w = has_begun w.work

  -- what is left to do for it: to give each charge out, to release it, and to answer
  abbrev pub work_left : Worker H K C h k c → ℕ
  work_left w = left_in w.work

-- the core of the event in hand, where the handler was told of it
abbrev pub told_of : {C : Type 0} → Option (Hand C) → List ℕ
told_of None = []
told_of (Some h) = cond (is_some h.advice) (h.core ∷ []) []

-- A worker stands for the event in hand and the list of the cores that it served, where it never came into drain mode.
pub record Stands {H K C : Type 0} {h : HandlerGhosts H} {k : SinkGhosts K} {c : ChargeGhosts C} (amount stamp : C → ℕ) (stated : H → Handler) (x : AtWork C) (w : Worker H K C h k c) : Type 0 where
  pub calm : w.calm ≡ true
  pub hand : HasInHand amount stamp (stated w.scribe.handler) x.hand w.work
  pub served : w.scribe.served ≡ x.served ++ told_of x.hand
