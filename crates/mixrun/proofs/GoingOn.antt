-- Each actor is idle or makes exactly one step, and tables stay stopped.
use Rattle.std.proofs.Common.{◌≡◌, ℕ, zero, suc, ◌<◌, ◌⊎◌, inl, inr, Bool, true, false, List, [], ◌∷◌, Some, refl, sym, subst, arith, replicate, length, slice_get}
use Rattle.coretable.specs.Course.{Stop, step}
use Rattle.coretable.specs.Course.Step.{Stops}
use Rattle.coretable.specs.Course.Stop.{Rests}
use Rattle.mixrun.specs.declared.actor.Actor.TheVariants as actors
use Rattle.mixrun.specs.Moment.{Setup, AtCore, Moment}
use Rattle.mixrun.specs.Moves.{moved}
use Rattle.mixrun.specs.Steps.{Settles, MovesCore, TakesOne, GivesOne, AnswersOne, opening_core}
use Rattle.mixrun.specs.Schedule.{IsIdle}
use Rattle.mixrun.specs.Holds.{Holds}
use Rattle.mixrun.specs.GoesOn.{CanGoOn, HaveStopped, StoppedAtFirst, StepsStop, OffersStop, ActsOnce, EachGoesOn}
use Rattle.mixrun.proofs.QueueSteps.{at_each}
use Rattle.mixrun.proofs.ScheduleSteps.{acts_same}
use Rattle.mixrun.proofs.ActorMoves.{Does, Needs, does}

core_there : (cores : List AtCore) (c : ℕ) → c < length cores → (at : AtCore) × (slice_get cores c ≡ Some at)
core_there [] c l = absurd (omega arith)
core_there (x ∷ cores) zero l = (x, refl)
core_there (x ∷ cores) (suc c) l = core_there cores c (omega arith)

needs_of : (s : Setup) (m : Moment) → Holds s m → HaveStopped s m → CanGoOn s m → Needs ⊥ s m
needs_of s m holds stopped can = record {
  stops = λ c a is. inr (stopped c a is);
  stamps = λ c a ask mark is e. inr (can.stamps c a ask mark is e);
  releases = λ c a charge is e. inr (can.releases c a charge is e);
  owed = λ w x h charge is has e. inr (can.owed w x h charge is has e);
  settles = λ c a move is may. inr (can.settles c a move is may);
  known = λ w x h is has. inr (core_there m.cores h.core (holds.freed.known w x h is has));
}

pub each_goes_on : EachGoesOn
each_goes_on s m actor holds stopped can = by (does ⊥ s m (needs_of s m holds stopped can) actor)
  where
    by : Does ⊥ s m actor → IsIdle s m actor ⊎ ActsOnce s actor m
    by (inl never) = absurd never
    by (inr (inl idle)) = inl idle
    by (inr (inr (n, acts))) = inr (n, acts, λ k other. acts_same s m k n actor other acts)

-- Tables stay stopped

opening_at : (count c : ℕ) (a : AtCore) → slice_get (replicate count opening_core) c ≡ Some a → a ≡ opening_core
opening_at zero c a e = absurd cc
opening_at (suc count) zero a e = cc
opening_at (suc count) (suc c) a e = opening_at count c a e

pub stopped_at_first : StoppedAtFirst
stopped_at_first s cores workers c a there = (Rests, subst (λ (x : AtCore). step s.terms x.course ≡ Stops Rests) (sym (opening_at cores c a there)) refl)

abbrev HasStopped : Setup → ℕ → AtCore → Type 0
HasStopped s c a = (stop : Stop) × (step s.terms a.course ≡ Stops stop)

core_stops : (s : Setup) (c : ℕ) (back : Bool) (m n : Moment) → MovesCore s c back m n → HaveStopped s m → HaveStopped s n
core_stops s c back m n g h = at_each (HasStopped s) m.cores n.cores c g.before g.after g.is_it g.cores (settled g.steps.settles) (λ d a other there. h d a there)
  where
    settled : Settles s.terms (moved s.terms g.move g.before) g.after → HasStopped s c g.after
    settled (k, stop, comes, is) = (stop, comes.1)

worker_stops : (s : Setup) (w : ℕ) (m n : Moment) → TakesOne s w m n ⊎ GivesOne s w m n ⊎ AnswersOne s w m n → HaveStopped s m → HaveStopped s n
worker_stops s w m n (inl g) h = at_each (HasStopped s) m.cores n.cores g.core g.at _ g.is_core g.cores (h g.core g.at g.is_core) (λ d a other there. h d a there)
worker_stops s w m n (inr (inl g)) h = λ c a there. h c a (subst (λ (l : List AtCore). slice_get l c ≡ Some a) g.cores there)
worker_stops s w m n (inr (inr g)) h = at_each (HasStopped s) m.cores n.cores g.hand.core g.at _ g.is_core g.cores (h g.hand.core g.at g.is_core) (λ d a other there. h d a there)

pub steps_stop : StepsStop
steps_stop s m n (actors.Core c) g h = core_stops s c false m n g h
steps_stop s m n (actors.Back c) g h = core_stops s c true m n g h
steps_stop s m n (actors.Work w) g h = worker_stops s w m n g h

pub offers_stop : OffersStop
offers_stop s m n c input g h = at_each (HasStopped s) m.cores n.cores c g.at _ g.is_it g.cores (h c g.at g.is_it) (λ d a other there. h d a there)
