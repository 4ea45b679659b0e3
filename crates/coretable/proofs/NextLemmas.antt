-- What a table is behind a turn, in every mode.
use Rattle.std.specs.Prelude.{◌≡◌, refl, ℕ, ◌+◌, true, false, Option, Some, None, Result, Ok, Err, OnErr}
use Rattle.std.proofs.Common.{◌∙◌, ap, sym, subst, arith}
use Rattle.std.specs.Result.{is_err}
use Rattle.streamdefs.specs.Reorder.{Charge}
use Rattle.convo.specs.declared.talk.Convo.{Convo}
use Rattle.coretable.specs.Fits.{IsAskWithin, IsDone, events_by, is_closing, is_rest, pause_for, pause_of, unanswered_of, IsLeft}
use Rattle.coretable.specs.Table.{FallsInto, FindsNoMemory, asks_by, GoesBy, IsDrained, OnlyDrains, TurnsTo, calm, calm_by, closes, finishes, limit, pause_by, pause_in, paused, pause_given_up, readies, rests, rests_by, unanswered, weight, weight_by}
use Rattle.coretable.specs.Weighed.{weight_of_desk, weight_of_turn}
use Rattle.coretable.specs.declared.desk.Desk.{Desk}
use Rattle.coretable.specs.declared.hand.Hand.{Hand}
use Rattle.coretable.specs.declared.pause.Pause.TheVariants.{Still}
use Rattle.coretable.specs.declared.state.State.{State}
use Rattle.coretable.specs.declared.state.State.TheVariants as M
use Rattle.coretable.specs.declared.table.CoreTable.{CoreTable}
use Rattle.coretable.specs.declared.turn.Turn.{Turn}
use Rattle.coretable.specs.declared.turn.Turn.TheVariants as T
use Rattle.coretable.proofs.StandLemmas.{not_true}

-- no turn of drain mode asks, or hands an event over
drained_within : {C : Type 0} (most : ℕ) (turn : Turn C) → OnlyDrains turn → IsAskWithin most turn
drained_within most (T.Ask bytes mark) d = absurd d
drained_within most (T.Free charge) d = tt
drained_within most (T.Emit event) d = absurd d
drained_within most T.Full d = tt
drained_within most T.Ready d = tt
drained_within most T.Over d = tt

drained_events : {C : Type 0} (turn : Turn C) → OnlyDrains turn → events_by (Some turn) ≡ 0
drained_events (T.Ask bytes mark) d = absurd d
drained_events (T.Free charge) d = refl
drained_events (T.Emit event) d = absurd d
drained_events T.Full d = refl
drained_events T.Ready d = refl
drained_events T.Over d = refl

no_more : (now before events : ℕ) → now ≡ before → events ≡ 0 → now ≡ before + events
no_more now before events e z = omega (arith, e, z)

module _ {C : Type 0} (paid : C → Charge) where
  -- A table that has gone on, with the turn noted.
  pub turns_by : (o x y : CoreTable C) (turn : Turn C) → calm o ≡ true → GoesBy paid o x (Some turn) → y.desk ≡ x.desk → y.state ≡ x.state → y.ready ≡ readies turn → y.over ≡ finishes turn → TurnsTo paid o y turn
  turns_by o x y turn works g desk state ready over = record {
    pause = ap pause_by (state ∙ g.works) ∙ g.fits.pause;
    rest = ap rests_by (state ∙ g.works) ∙ g.fits.rests;
    ready = ready;
    over = over;
    within = g.fits.within;
    done = subst (λ (d : Desk (Convo C)). IsDone (is_closing d.job) (unanswered_of d) turn) (sym desk) g.fits.done;
    closing = ap (λ (d : Desk (Convo C)). is_closing d.job) desk ∙ g.fits.closing;
    events = ap unanswered_of desk ∙ g.fits.unanswered;
    mode = ap calm_by (state ∙ g.works) ∙ sym works;
    drains = λ d. absurd (not_true (calm o) d works);
    drained = λ d. absurd (not_true (calm o) d works);
  }

  -- A table in drain mode, with the turn noted.
  pub drains_by : (o x y : CoreTable C) (turn : Turn C) → calm o ≡ false → calm x ≡ false → paused x ≡ pause_of paid turn → rests x ≡ is_rest turn → OnlyDrains turn → IsDone (closes x) (unanswered x) turn
      → (IsDrained turn → (w : C → ℕ) → weight w x ≡ 0) → closes x ≡ closes o → unanswered x ≡ unanswered o
      → y.desk ≡ x.desk → y.state ≡ x.state → y.ready ≡ readies turn → y.over ≡ finishes turn → TurnsTo paid o y turn
  drains_by o x y turn old calms pause rest only done none closing events desk state ready over = record {
    pause = ap pause_by state ∙ pause;
    rest = ap rests_by state ∙ rest;
    ready = ready;
    over = over;
    within = drained_within (limit o) turn only;
    done = subst (λ (d : Desk (Convo C)). IsDone (is_closing d.job) (unanswered_of d) turn) (sym desk) done;
    closing = ap (λ (d : Desk (Convo C)). is_closing d.job) desk ∙ closing;
    events = no_more (unanswered y) (unanswered o) (events_by (Some turn)) (ap unanswered_of desk ∙ events) (drained_events turn only);
    mode = ap calm_by state ∙ calms ∙ sym old;
    drains = λ d. only;
    drained = λ d e w. same_weight w ∙ none e w;
  }
    where
      same_weight : (w : C → ℕ) → weight w y ≡ weight w x
      same_weight w = (λ i. weight_of_desk w (desk i) + weight_by w (state i))

-- A table that found no memory.
pub falls_by : {C : Type 0} (o x : CoreTable C) → FallsInto o x → x.ready ≡ false → x.over ≡ false → FindsNoMemory o x
falls_by o x f ready over = record {
  mode = ap calm_by f.drains;
  pause = ap pause_by f.drains;
  ready = ready;
  over = over;
  closing = f.left.closing;
  events = f.left.unanswered;
}

module _ {C : Type 0} (paid : C → Charge) where
  -- a turn that takes a grant waits for an answer, hands no event over, and gives no charge out
  asked_pause : (turn : Turn C) → asks_by (pause_of paid turn) ≡ 1 → pause_given_up (pause_of paid turn) ≡ Still
  asked_pause (T.Ask bytes mark) e = refl
  asked_pause (T.Free charge) e = absurd cc
  asked_pause (T.Emit event) e = absurd cc
  asked_pause T.Full e = absurd cc
  asked_pause T.Ready e = absurd cc
  asked_pause T.Over e = absurd cc

  asked_events : (turn : Turn C) → asks_by (pause_of paid turn) ≡ 1 → events_by (Some turn) ≡ 0
  asked_events (T.Ask bytes mark) e = refl
  asked_events (T.Free charge) e = absurd cc
  asked_events (T.Emit event) e = absurd cc
  asked_events T.Full e = absurd cc
  asked_events T.Ready e = absurd cc
  asked_events T.Over e = absurd cc

  pub asked_weight : (w : C → ℕ) (turn : Turn C) → asks_by (pause_of paid turn) ≡ 1 → weight_of_turn w turn ≡ 0
  asked_weight w (T.Ask bytes mark) e = refl
  asked_weight w (T.Free charge) e = absurd cc
  asked_weight w (T.Emit event) e = absurd cc
  asked_weight w T.Full e = refl
  asked_weight w T.Ready e = refl
  asked_weight w T.Over e = refl

  nothing_added : (now before events : ℕ) → now ≡ before + events → events ≡ 0 → now ≡ before
  nothing_added now before events e z = omega (arith, e, z)

  -- A table that has no grant left for an ask, and gave up.
  pub gives_up_by : (o x y : CoreTable C) (turn : Turn C) → GoesBy paid o x (Some turn) → asks_by (pause_of paid turn) ≡ 1 → calm y ≡ false → paused y ≡ pause_given_up (paused x) → y.desk ≡ x.desk → y.ready ≡ false → y.over ≡ false
      → FindsNoMemory o y
  gives_up_by o x y turn g asks mode pause desk ready over = record {
    mode = mode;
    pause = pause ∙ ap pause_given_up (ap pause_by g.works ∙ g.fits.pause) ∙ asked_pause turn asks;
    ready = ready;
    over = over;
    closing = ap (λ (d : Desk (Convo C)). is_closing d.job) desk ∙ g.fits.closing;
    events = ap unanswered_of desk ∙ nothing_added (unanswered x) (unanswered o) (events_by (Some turn)) g.fits.unanswered (asked_events turn asks);
  }

-- A call that failed.
pub when_err : {A E : Type 0} {P : Type 0} (r : Result A E) → OnErr r P → is_err r ≡ true → P
when_err (Ok a) h e = absurd cc
when_err (Err x) h e = h

pub unpriced : (now price before : ℕ) → now + price ≡ before → price ≡ 0 → now ≡ before
unpriced now price before e z = omega (arith, e, z)

-- A step without a turn: what waits is what waited.
pub silently : {C : Type 0} (paid : C → Charge) (o x y : CoreTable C) (turn : Option (Turn C)) → turn ≡ None → IsLeft o.desk x.desk → GoesBy paid x y turn → IsLeft o.desk y.desk
silently paid o x y turn none left g = record {
  closing = g.fits.closing ∙ left.closing;
  unanswered = unpriced' (unanswered_of y.desk) (unanswered_of x.desk) (events_by turn) (unanswered_of o.desk) g.fits.unanswered (ap events_by none) left.unanswered;
}
  where
    unpriced' : (now before events first : ℕ) → now ≡ before + events → events ≡ 0 → before ≡ first → now ≡ first
    unpriced' now before events first e z f = omega (arith, e, z, f)

pub silent_pause : {C : Type 0} (paid : C → Charge) (x y : CoreTable C) (turn : Option (Turn C)) → turn ≡ None → GoesBy paid x y turn → paused y ≡ Still
silent_pause paid x y turn none g = ap pause_by g.works ∙ g.fits.pause ∙ ap (pause_for paid) none

-- A table that gave up where it waited for nothing.
no_release : (freeing : Option (ℕ × ℕ)) → pause_in freeing ≡ Still → freeing ≡ None
no_release None e = refl
no_release (Some charge) e = absurd cc

drains_at : {C : Type 0} (state : State C (Convo C)) → calm_by state ≡ false → pause_by state ≡ Still → (hand : Hand C) × (state ≡ M.Drains hand None)
drains_at (M.Works stage) c p = absurd cc
drains_at (M.Drains hand freeing) c p = (hand, ap (M.Drains hand) (no_release freeing p))

pub falls_into : {C : Type 0} (o x y : CoreTable C) → IsLeft o.desk x.desk → paused x ≡ Still → calm y ≡ false → paused y ≡ pause_given_up (paused x) → y.desk ≡ x.desk → FallsInto o y
falls_into {C = C} o x y left still calm pause desk =
    let there = drains_at y.state calm (pause ∙ ap pause_given_up still) in
    record {
      hand = there.0;
      drains = there.1;
      left = subst (λ (d : Desk (Convo C)). IsLeft o.desk d) (sym desk) left;
    }
