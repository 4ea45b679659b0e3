-- A moment and a schedule, or a seed, determine a run, which is so many steps of the machine.
use Rattle.std.proofs.Common.{◌≡◌, ℕ, zero, suc, ◌≤◌, inl, inr, List, [], ◌∷◌, refl, ap, sym, ◌∙◌, subst, arith, length}
use Rattle.mixrun.specs.declared.actor.Actor.{Actor}
use Rattle.mixrun.specs.Moment.{Setup, Moment}
use Rattle.mixrun.specs.Steps.{Steps}
use Rattle.mixrun.specs.Ledger.{AreMarks}
use Rattle.mixrun.specs.Holds.{Holds}
use Rattle.mixrun.specs.Schedule.{IsIdle, AreAllIdle, Acts, Runs, FirstActs, ActsFor, Follows, drawn, state_behind, named, names_by, actors_at, Seeded, Reaches}
use Rattle.mixrun.proofs.ScheduleSteps.{acts_same, acts_step, idle_no_step}
use Rattle.mixrun.proofs.HoldLaws.{steps_keep}

pub idle_or_acts : {R : Type 0} (s : Setup) (m n : Moment) (actor : Actor) → IsIdle s m actor → Acts s actor m n → R
idle_or_acts s m n actor idle acts = absurd (idle_no_step s m n actor idle (acts_step s m n actor acts))

-- Runs by actors

pub runs_same : (s : Setup) (schedule : List Actor) (m : Moment) (moved others : ℕ) (n k : Moment) → Runs s schedule m moved n → Runs s schedule m others k → (moved ≡ others) × (n ≡ k)
runs_same s [] m moved others n k h g = (h.0 ∙ sym g.0, h.1 ∙ sym g.1)
runs_same s (actor ∷ schedule) m moved others n k (inl (x, left, acts, one, rest)) (inl (y, less, does, other, further)) =
    let same = acts_same s m x y actor acts does in
    let both = runs_same s schedule y left less n k (subst (λ (z : Moment). Runs s schedule z left n) same rest) further in
    (one ∙ ap suc both.0 ∙ sym other, both.1)
runs_same s (actor ∷ schedule) m moved others n k (inl (x, left, acts, one, rest)) (inr (idle, further)) = idle_or_acts s m x actor idle acts
runs_same s (actor ∷ schedule) m moved others n k (inr (idle, rest)) (inl (y, less, does, other, further)) = idle_or_acts s m y actor idle does
runs_same s (actor ∷ schedule) m moved others n k (inr (idle, rest)) (inr (quiet, further)) = runs_same s schedule m moved others n k rest further

pub runs_reach : (s : Setup) (schedule : List Actor) (m n : Moment) (moved : ℕ) → Runs s schedule m moved n → Reaches s moved m n × (moved ≤ length schedule)
runs_reach s [] m n moved h = (subst (λ (k : ℕ). Reaches s k m n) (sym h.0) h.1, omega arith)
runs_reach s (actor ∷ schedule) m n moved (inl (x, left, acts, one, rest)) =
    let further = runs_reach s schedule x n left rest in
    (subst (λ (k : ℕ). Reaches s k m n) (sym one) (x, actor, acts_step s m x actor acts, further.0), omega (arith, further.1))
runs_reach s (actor ∷ schedule) m n moved (inr (idle, rest)) = let further = runs_reach s schedule m n moved rest in (further.0, omega (arith, further.1))

-- Runs by names

pub first_same : (s : Setup) (all : List Actor) (m n k : Moment) → FirstActs s all m n → FirstActs s all m k → n ≡ k
first_same s [] m n k h g = absurd h
first_same s (actor ∷ others) m n k (inl acts) (inl does) = acts_same s m n k actor acts does
first_same s (actor ∷ others) m n k (inl acts) (inr (idle, rest)) = idle_or_acts s m n actor idle acts
first_same s (actor ∷ others) m n k (inr (idle, rest)) (inl does) = idle_or_acts s m k actor idle does
first_same s (actor ∷ others) m n k (inr (idle, rest)) (inr (quiet, further)) = first_same s others m n k rest further

for_same : (s : Setup) (all : List Actor) (name : Actor) (m n k : Moment) → ActsFor s all name m n → ActsFor s all name m k → n ≡ k
for_same s all name m n k (inl acts) (inl does) = acts_same s m n k name acts does
for_same s all name m n k (inl acts) (inr (idle, rest)) = idle_or_acts s m n name idle acts
for_same s all name m n k (inr (idle, rest)) (inl does) = idle_or_acts s m k name idle does
for_same s all name m n k (inr (idle, rest)) (inr (quiet, further)) = first_same s all m n k rest further

-- a step of the machine
pub first_step : (s : Setup) (all : List Actor) (m n : Moment) → FirstActs s all m n → (actor : Actor) × Steps s actor m n
first_step s [] m n h = absurd h
first_step s (actor ∷ others) m n (inl acts) = (actor, acts_step s m n actor acts)
first_step s (actor ∷ others) m n (inr (idle, rest)) = first_step s others m n rest

for_step : (s : Setup) (all : List Actor) (name : Actor) (m n : Moment) → ActsFor s all name m n → (actor : Actor) × Steps s actor m n
for_step s all name m n (inl acts) = (name, acts_step s m n name acts)
for_step s all name m n (inr (idle, rest)) = first_step s all m n rest

-- which there is not where all are idle
pub first_not_idle : (s : Setup) (all : List Actor) (m n : Moment) → AreAllIdle s m → FirstActs s all m n → ⊥
first_not_idle s [] m n idle h = h
first_not_idle s (actor ∷ others) m n idle (inl acts) = idle_or_acts s m n actor (idle actor) acts
first_not_idle s (actor ∷ others) m n idle (inr (quiet, rest)) = first_not_idle s others m n idle rest

for_not_idle : {R : Type 0} (s : Setup) (all : List Actor) (name : Actor) (m n : Moment) → AreAllIdle s m → ActsFor s all name m n → R
for_not_idle s all name m n idle (inl acts) = idle_or_acts s m n name (idle name) acts
for_not_idle s all name m n idle (inr (quiet, rest)) = absurd (first_not_idle s all m n idle rest)

-- Runs by a seed

seeded_same : (s : Setup) (all : List Actor) (state c d : ℕ) (m n k : Moment) → Follows s all (names_by all state c) m n → AreAllIdle s n → Follows s all (names_by all state d) m k → AreAllIdle s k → (c ≡ d) × (n ≡ k)
seeded_same s all state zero zero m n k h idle g quiet = (refl, h ∙ sym g)
seeded_same s all state zero (suc d) m n k h idle (x, acts, rest) quiet =
    for_not_idle s all (named all (drawn state)) m x (subst (λ (z : Moment). AreAllIdle s z) h idle) acts
seeded_same s all state (suc c) zero m n k (x, acts, rest) idle g quiet =
    for_not_idle s all (named all (drawn state)) m x (subst (λ (z : Moment). AreAllIdle s z) g quiet) acts
seeded_same s all state (suc c) (suc d) m n k (x, acts, rest) idle (y, does, further) quiet =
    let same = for_same s all (named all (drawn state)) m x y acts does in
    let both = seeded_same s all (drawn state) c d y n k (subst (λ (z : Moment). Follows s all (names_by all (drawn state) c) z n) same rest) idle further quiet in
    (ap suc both.0, both.1)

pub seeds_same : (s : Setup) (state : ℕ) (m : Moment) (behind other : ℕ) (n k : Moment) → Seeded s state m behind n → Seeded s state m other k → (behind ≡ other) × (n ≡ k)
seeds_same s state m behind other n k h g =
    let both = seeded_same s (actors_at m) state h.count g.count m n k h.follows h.idle g.follows g.idle in
    (h.state_is ∙ ap (state_behind state) both.0 ∙ sym g.state_is, both.1)

follows_reach : (s : Setup) (all : List Actor) (state c : ℕ) (m n : Moment) → Follows s all (names_by all state c) m n → Reaches s c m n
follows_reach s all state zero m n h = h
follows_reach s all state (suc c) m n (x, acts, rest) =
    let one = for_step s all (named all (drawn state)) m x acts in
    (x, one.0, one.1, follows_reach s all (drawn state) c x n rest)

pub seeds_reach : (s : Setup) (state : ℕ) (m n : Moment) (behind : ℕ) → (run : Seeded s state m behind n) → Reaches s run.count m n
seeds_reach s state m n behind run = follows_reach s (actors_at m) state run.count m n run.follows

-- What holds at every moment

pub steps_lead_on : (s : Setup) (m n : Moment) (count : ℕ) → AreMarks s.terms.marks → Reaches s count m n → Holds s m → Holds s n
steps_lead_on s m n zero marks reach h = subst (λ (z : Moment). Holds s z) (sym reach) h
steps_lead_on s m n (suc count) marks (k, actor, step, rest) h = steps_lead_on s k n count marks rest (steps_keep s m k actor marks step h)
