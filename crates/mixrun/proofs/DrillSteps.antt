-- What is still to come for each core stays in order through a drill, and so does all that holds at every moment.
use Rattle.std.proofs.Common.{◌≡◌, ℕ, ◌==◌, ◌⊎◌, inl, inr, Bool, true, false, List, [], ◌∷◌, ◌++◌, Option, Some, refl, ap, sym, ◌∙◌, subst, arith, append_assoc, length, drop, set, slice_get}
use Rattle.std.proofs.lemmas.List.{length-set}
use Rattle.std.proofs.lemmas.Bool.Decides.{nat_tests}
use Rattle.streamdefs.specs.Packet.{Packet}
use Rattle.mixrun.specs.declared.actor.Actor.{Actor}
use Rattle.mixrun.specs.declared.actor.Actor.TheVariants as actors
use Rattle.mixrun.specs.Moment.{Setup, Input, AtCore, Moment}
use Rattle.mixrun.specs.Moment.Input.{Brings, Ends}
use Rattle.mixrun.specs.Steps.{Steps, MovesCore, TakesOne, GivesOne, AnswersOne, Offers}
use Rattle.mixrun.specs.Ledger.{AreMarks}
use Rattle.mixrun.specs.Books.{AreLoadable}
use Rattle.mixrun.specs.Holds.{Holds}
use Rattle.mixrun.specs.Schedule.{AreAllIdle, actors_at}
use Rattle.mixrun.specs.Drill.{Offer, OffersAll, OffersNext, Pick, PlainStep, PickedStep, Drills, picks_by, Drilled, for_core, coming, IsBehind, AreBehind}
use Rattle.mixrun.specs.Drill.Pick.{Names, Offering, Unnamed}
use Rattle.mixrun.proofs.QueueSteps.{at_each}
use Rattle.mixrun.proofs.HoldLaws.{steps_keep, offers_keep}
use Rattle.mixrun.proofs.ScheduleSteps.{acts_step}
use Rattle.mixrun.proofs.ScheduleRuns.{first_step}
use Rattle.mixrun.proofs.DrillCourse.{core_behind}

-- Inputs

none_joined : (xs ys : List Input) → xs ++ ys ≡ [] → xs ≡ []
none_joined [] ys h = refl
none_joined (x ∷ xs) ys h = absurd cc

front_loadable : (last number clock : ℕ) (xs ys : List Input) → AreLoadable last number clock (xs ++ ys) → AreLoadable last number clock xs
front_loadable last number clock [] ys h = tt
front_loadable last number clock (Brings p ∷ xs) ys h = (h.0, h.1, h.2, front_loadable last p.number p.now xs ys h.3)
front_loadable last number clock (Ends at ∷ xs) ys h = (h.0, h.1, none_joined xs ys h.2)

-- Steps

module _ (s : Setup) (packets : ℕ → List Packet) (left : ℕ → List Input) (m n : Moment) (h : AreBehind s packets left m) where
  abbrev Fits : ℕ → AtCore → Type 0
  Fits c a = IsBehind s.last (packets c) a.course (a.inputs ++ left c)

  core_step : (c : ℕ) (back : Bool) → MovesCore s c back m n → AreBehind s packets left n
  core_step c back g =
      at_each Fits m.cores n.cores c g.before g.after g.is_it g.cores
      (core_behind s.terms s.last (packets c) g.move g.before m.pair g.after n.pair (left c) g.steps (h c g.before g.is_it)) (λ d a other there. h d a there)

  worker_step : (w : ℕ) → TakesOne s w m n ⊎ GivesOne s w m n ⊎ AnswersOne s w m n → AreBehind s packets left n
  worker_step w (inl g) = at_each Fits m.cores n.cores g.core g.at (record g.at { events = drop 1 g.at.events }) g.is_core g.cores (h g.core g.at g.is_core) (λ d a other there. h d a there)
  worker_step w (inr (inl g)) = λ c a there. h c a (subst (λ (l : List AtCore). slice_get l c ≡ Some a) g.cores there)
  worker_step w (inr (inr g)) = at_each Fits m.cores n.cores g.hand.core g.at _ g.is_core g.cores (h g.hand.core g.at g.is_core) (λ d a other there. h d a there)

  pub step_behind : (actor : Actor) → Steps s actor m n → AreBehind s packets left n
  step_behind (actors.Core c) g = core_step c false g
  step_behind (actors.Back c) g = core_step c true g
  step_behind (actors.Work w) g = worker_step w g

-- the number of cores stays
set_size : (xs ys : List AtCore) (i : ℕ) (y : AtCore) → ys ≡ set xs i y → length ys ≡ length xs
set_size xs ys i y e = ap length e ∙ length-set xs i y

pub step_size : (s : Setup) (m n : Moment) (actor : Actor) → Steps s actor m n → length n.cores ≡ length m.cores
step_size s m n (actors.Core c) g = set_size m.cores n.cores c g.after g.cores
step_size s m n (actors.Back c) g = set_size m.cores n.cores c g.after g.cores
step_size s m n (actors.Work w) (inl g) = set_size m.cores n.cores g.core _ g.cores
step_size s m n (actors.Work w) (inr (inl g)) = ap length g.cores
step_size s m n (actors.Work w) (inr (inr g)) = set_size m.cores n.cores g.hand.core _ g.cores

-- Offers

self_is : (n : ℕ) → (n == n) ≡ true
self_is n = grind (arith, nat_tests)

own_comes : (c : ℕ) (input : Input) (offer : Offer) → for_core c ((c, input) ∷ offer) ≡ input ∷ for_core c offer
own_comes c input offer = rw (self_is c) refl

other_comes : (c d : ℕ) (input : Input) (offer : Offer) → (c == d) ≡ false → for_core d ((c, input) ∷ offer) ≡ for_core d offer
other_comes c d input offer e = rw e refl

-- What is known in a drill: what holds at every moment, what is still to come, and the number of cores.
pub record InDrill (s : Setup) (packets : ℕ → List Packet) (size : ℕ) (left : ℕ → List Input) (m : Moment) : Type 0 where
  pub holds : Holds s m
  pub behind : AreBehind s packets left m
  pub cores : length m.cores ≡ size

module _ (s : Setup) (packets : ℕ → List Packet) (size : ℕ) where
  one_offered : (core : ℕ) (input : Input) (offer : Offer) (rest : ℕ → List Input) (m n : Moment) → Offers core input m n
      → InDrill s packets size (λ c. for_core c ((core, input) ∷ offer) ++ rest c) m → InDrill s packets size (λ c. for_core c offer ++ rest c) n
  one_offered core input offer rest m n g h = record {
    holds = offers_keep s m n core input g fits h.holds;
    behind = at_each (λ c a. IsBehind s.last (packets c) a.course (a.inputs ++ (for_core c offer ++ rest c))) m.cores n.cores core g.at _ g.is_it g.cores
        (subst (λ (l : List Input). IsBehind s.last (packets core) g.at.course l) (joined g.at) (h.behind core g.at g.is_it))
        (λ d a other there. subst (λ (l : List Input). IsBehind s.last (packets d) a.course (a.inputs ++ (l ++ rest d))) (other_comes core d input offer other) (h.behind d a there));
    cores = set_size m.cores n.cores core _ g.cores ∙ h.cores;
  }
    where
      joined : (a : AtCore) → a.inputs ++ (for_core core ((core, input) ∷ offer) ++ rest core) ≡ (a.inputs ++ input ∷ []) ++ (for_core core offer ++ rest core)
      joined a = ap (λ (l : List Input). a.inputs ++ (l ++ rest core)) (own_comes core input offer) ∙ sym (append_assoc a.inputs (input ∷ []) (for_core core offer ++ rest core))

      fits : (a : AtCore) → slice_get m.cores core ≡ Some a → AreLoadable s.last a.course.number a.course.clock (a.inputs ++ input ∷ [])
      fits a there =
          front_loadable s.last a.course.number a.course.clock (a.inputs ++ input ∷ []) (for_core core offer ++ rest core)
          (subst (λ (l : List Input). AreLoadable s.last a.course.number a.course.clock l) (joined a) (h.behind core a there).loadable)

  all_offered : (offer : Offer) (rest : ℕ → List Input) (m n : Moment) → OffersAll offer m n → InDrill s packets size (λ c. for_core c offer ++ rest c) m → InDrill s packets size rest n
  all_offered [] rest m n g h = subst (λ (x : Moment). InDrill s packets size rest x) (sym g) h
  all_offered (one ∷ offer) rest m n (k, g, further) h = all_offered offer rest k n further (one_offered one.0 one.1 offer rest m k g h)

  module _ (marks : AreMarks s.terms.marks) where
    stepped : (left : ℕ → List Input) (m n : Moment) (actor : Actor) → Steps s actor m n → InDrill s packets size left m → InDrill s packets size left n
    stepped left m n actor g h = record {
      holds = steps_keep s m n actor marks g h.holds;
      behind = step_behind s packets left m n h.behind actor g;
      cores = step_size s m n actor g ∙ h.cores;
    }

    abbrev At : List Offer → Moment → Type 0
    At offers m = InDrill s packets size (λ c. coming c offers) m

    moved_on : (offers left : List Offer) (m n : Moment) (actor : Actor) → Steps s actor m n → left ≡ offers → At offers m → At left n
    moved_on offers left m n actor g e h = subst (λ (l : List Offer). At l n) (sym e) (stepped (λ c. coming c offers) m n actor g h)

    next_offered : (offers left : List Offer) (m n : Moment) → OffersNext offers m left n → At offers m → At left n
    next_offered [] left m n g h = absurd g
    next_offered (offer ∷ offers) left m n (e, g) h = subst (λ (l : List Offer). At l n) (sym e) (all_offered offer (λ c. coming c offers) m n g h)

    plain : (all : List Actor) (offers left : List Offer) (m n : Moment) → PlainStep s all offers m left n → At offers m → At left n
    plain all offers left m n (inl (g, e)) h = let one = first_step s all m n g in moved_on offers left m n one.0 one.1 e h
    plain all offers left m n (inr (idle, g)) h = next_offered offers left m n g h

    picked : (all : List Actor) (pick : Pick) (offers left : List Offer) (m n : Moment) → PickedStep s all pick offers m left n → At offers m → At left n
    picked all (Names actor) offers left m n (inl (g, e)) h = moved_on offers left m n actor (acts_step s m n actor g) e h
    picked all (Names actor) offers left m n (inr (idle, g)) h = plain all offers left m n g h
    picked all Offering offers left m n (inl g) h = next_offered offers left m n g h
    picked all Offering offers left m n (inr (none, g)) h = plain all offers left m n g h
    picked all Unnamed offers left m n g h = plain all offers left m n g h

    drill_ends : (all : List Actor) (picks : List Pick) (offers : List Offer) (m n : Moment) → Drills s all picks offers m n → At offers m → At [] n × AreAllIdle s n
    drill_ends all [] offers m n (same, idle, none) h =
        (subst (λ (x : List Offer × Moment). At x.0 x.1) (λ i. (none i, sym same i)) h, subst (λ (x : Moment). AreAllIdle s x) (sym same) idle)
    drill_ends all (pick ∷ picks) offers m n (k, left, g, rest) h = drill_ends all picks left k n rest (picked all pick offers left m k g h)

    pub drilled_ends : (seed : Option ℕ) (offers : List Offer) (m n : Moment) → Drilled s seed offers m n → At offers m → At [] n × AreAllIdle s n
    drilled_ends seed offers m n run h = drill_ends (actors_at m) (picks_by (actors_at m) seed run.count) offers m n run.drills h

pub drills_hold : (s : Setup) (seed : Option ℕ) (offers : List Offer) (packets : ℕ → List Packet) (m n : Moment) → AreMarks s.terms.marks → AreBehind s packets (λ c. coming c offers) m → Drilled s seed offers m n → Holds s m → Holds s n
drills_hold s seed offers packets m n marks behind run h = (drilled_ends s packets (length m.cores) marks seed offers m n run (record { holds = h; behind = behind; cores = refl })).0.holds
