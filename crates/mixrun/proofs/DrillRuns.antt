-- Where a drill ends is determined.
use Rattle.std.proofs.Common.{◌≡◌, ℕ, zero, suc, inl, inr, List, [], ◌∷◌, ◌++◌, Option, Some, None, sym, ◌∙◌, subst, set, slice_get}
use Rattle.mixrun.specs.declared.actor.Actor.{Actor}
use Rattle.mixrun.specs.Moment.{Setup, Input, Moment}
use Rattle.mixrun.specs.Steps.{Offers}
use Rattle.mixrun.specs.Schedule.{AreAllIdle, actors_at, drawn}
use Rattle.mixrun.specs.Drill.{Offer, OffersAll, OffersNext, Pick, PlainStep, PickedStep, Drills, pick_by, picks_by, Drilled}
use Rattle.mixrun.specs.Drill.Pick.{Names, Offering, Unnamed}
use Rattle.mixrun.proofs.ScheduleSteps.{acts_same, moment_same, same_some}
use Rattle.mixrun.proofs.ScheduleRuns.{idle_or_acts, first_same, first_not_idle}

offer_same : (core : ℕ) (input : Input) (m n k : Moment) → Offers core input m n → Offers core input m k → n ≡ k
offer_same core input m n k h g =
    let at = same_some (slice_get m.cores core) h.at g.at h.is_it g.is_it in
    moment_same n k (h.cores ∙ (λ i. set m.cores core (record (at i) { inputs = (at i).inputs ++ input ∷ [] })) ∙ sym g.cores) (h.workers ∙ sym g.workers) (h.pair ∙ sym g.pair)

all_same : (offer : Offer) (m n k : Moment) → OffersAll offer m n → OffersAll offer m k → n ≡ k
all_same [] m n k h g = h ∙ sym g
all_same (one ∷ offer) m n k (x, h, rest) (y, g, further) =
    let same = offer_same one.0 one.1 m x y h g in
    all_same offer y n k (subst (λ (z : Moment). OffersAll offer z n) same rest) further

-- what is left, and the moment
abbrev Same : (left other : List Offer) → (n k : Moment) → Type 0
Same left other n k = (left ≡ other) × (n ≡ k)

next_same : (offers : List Offer) (m : Moment) (left other : List Offer) (n k : Moment) → OffersNext offers m left n → OffersNext offers m other k → Same left other n k
next_same [] m left other n k h g = absurd h
next_same (offer ∷ offers) m left other n k (e, h) (f, g) = (e ∙ sym f, all_same offer m n k h g)

plain_same : (s : Setup) (all : List Actor) (offers : List Offer) (m : Moment) (left other : List Offer) (n k : Moment) → PlainStep s all offers m left n → PlainStep s all offers m other k → Same left other n k
plain_same s all offers m left other n k (inl (h, e)) (inl (g, f)) = (e ∙ sym f, first_same s all m n k h g)
plain_same s all offers m left other n k (inl (h, e)) (inr (idle, g)) = absurd (first_not_idle s all m n idle h)
plain_same s all offers m left other n k (inr (idle, h)) (inl (g, f)) = absurd (first_not_idle s all m k idle g)
plain_same s all offers m left other n k (inr (idle, h)) (inr (quiet, g)) = next_same offers m left other n k h g

none_next : {R : Type 0} (offers : List Offer) (m : Moment) (left : List Offer) (n : Moment) → offers ≡ [] → OffersNext offers m left n → R
none_next [] m left n e h = absurd h
none_next (offer ∷ offers) m left n e h = absurd cc

pick_same : (s : Setup) (all : List Actor) (pick : Pick) (offers : List Offer) (m : Moment) (left other : List Offer) (n k : Moment) → PickedStep s all pick offers m left n → PickedStep s all pick offers m other k
    → Same left other n k
pick_same s all (Names actor) offers m left other n k (inl (h, e)) (inl (g, f)) = (e ∙ sym f, acts_same s m n k actor h g)
pick_same s all (Names actor) offers m left other n k (inl (h, e)) (inr (idle, g)) = idle_or_acts s m n actor idle h
pick_same s all (Names actor) offers m left other n k (inr (idle, h)) (inl (g, f)) = idle_or_acts s m k actor idle g
pick_same s all (Names actor) offers m left other n k (inr (idle, h)) (inr (quiet, g)) = plain_same s all offers m left other n k h g
pick_same s all Offering offers m left other n k (inl h) (inl g) = next_same offers m left other n k h g
pick_same s all Offering offers m left other n k (inl h) (inr (none, g)) = none_next offers m left n none h
pick_same s all Offering offers m left other n k (inr (none, h)) (inl g) = none_next offers m other k none g
pick_same s all Offering offers m left other n k (inr (none, h)) (inr (nothing, g)) = plain_same s all offers m left other n k h g
pick_same s all Unnamed offers m left other n k h g = plain_same s all offers m left other n k h g

-- a drill that is over has no step
over_plain : {R : Type 0} (s : Setup) (all : List Actor) (offers : List Offer) (m : Moment) (left : List Offer) (n : Moment) → AreAllIdle s m → offers ≡ [] → PlainStep s all offers m left n → R
over_plain s all offers m left n idle none (inl (h, e)) = absurd (first_not_idle s all m n idle h)
over_plain s all offers m left n idle none (inr (quiet, h)) = none_next offers m left n none h

over_pick : {R : Type 0} (s : Setup) (all : List Actor) (pick : Pick) (offers : List Offer) (m : Moment) (left : List Offer) (n : Moment) → AreAllIdle s m → offers ≡ [] → PickedStep s all pick offers m left n → R
over_pick s all (Names actor) offers m left n idle none (inl (h, e)) = idle_or_acts s m n actor (idle actor) h
over_pick s all (Names actor) offers m left n idle none (inr (quiet, h)) = over_plain s all offers m left n idle none h
over_pick s all Offering offers m left n idle none (inl h) = none_next offers m left n none h
over_pick s all Offering offers m left n idle none (inr (nothing, h)) = over_plain s all offers m left n idle none h
over_pick s all Unnamed offers m left n idle none h = over_plain s all offers m left n idle none h

-- Drills by picks that go on in one way

one_step : {R : Type 0} (s : Setup) (all : List Actor) (pick : Pick) (picks others : List Pick) (offers : List Offer) (m n k : Moment)
    → ((left : List Offer) (x : Moment) → Drills s all picks left x n → Drills s all others left x k → R)
    → Drills s all (pick ∷ picks) offers m n → Drills s all (pick ∷ others) offers m k → R
one_step s all pick picks others offers m n k then (x, left, h, rest) (y, other, g, further) =
    let same = pick_same s all pick offers m left other x y h g in
    then other y (subst (λ (z : List Offer × Moment). Drills s all picks z.0 z.1 n) (λ i. (same.0 i, same.1 i)) rest) further

over_now : {R : Type 0} (s : Setup) (all : List Actor) (pick : Pick) (others : List Pick) (offers : List Offer) (m k : Moment) → AreAllIdle s m → offers ≡ [] → Drills s all (pick ∷ others) offers m k → R
over_now s all pick others offers m k idle none (y, other, g, further) = over_pick s all pick offers m other y idle none g

plain_drills : (s : Setup) (all : List Actor) (c d : ℕ) (offers : List Offer) (m n k : Moment) → Drills s all (picks_by all None c) offers m n → Drills s all (picks_by all None d) offers m k → n ≡ k
plain_drills s all zero zero offers m n k h g = h.0 ∙ sym g.0
plain_drills s all zero (suc d) offers m n k h g = over_now s all Unnamed (picks_by all None d) offers m k h.1 h.2 g
plain_drills s all (suc c) zero offers m n k h g = over_now s all Unnamed (picks_by all None c) offers m n g.1 g.2 h
plain_drills s all (suc c) (suc d) offers m n k h g =
    one_step s all Unnamed (picks_by all None c) (picks_by all None d) offers m n k (λ left x rest further. plain_drills s all c d left x n k rest further) h g

seed_drills : (s : Setup) (all : List Actor) (state c d : ℕ) (offers : List Offer) (m n k : Moment) → Drills s all (picks_by all (Some state) c) offers m n → Drills s all (picks_by all (Some state) d) offers m k → n ≡ k
seed_drills s all state zero zero offers m n k h g = h.0 ∙ sym g.0
seed_drills s all state zero (suc d) offers m n k h g = over_now s all (pick_by all (drawn state)) (picks_by all (Some (drawn state)) d) offers m k h.1 h.2 g
seed_drills s all state (suc c) zero offers m n k h g = over_now s all (pick_by all (drawn state)) (picks_by all (Some (drawn state)) c) offers m n g.1 g.2 h
seed_drills s all state (suc c) (suc d) offers m n k h g =
    one_step s all (pick_by all (drawn state)) (picks_by all (Some (drawn state)) c) (picks_by all (Some (drawn state)) d) offers m n k
    (λ left x rest further. seed_drills s all (drawn state) c d left x n k rest further) h g

pub drills_same : (s : Setup) (seed : Option ℕ) (offers : List Offer) (m n k : Moment) → Drilled s seed offers m n → Drilled s seed offers m k → n ≡ k
drills_same s None offers m n k h g = plain_drills s (actors_at m) h.count g.count offers m n k h.drills g.drills
drills_same s (Some seed) offers m n k h g = seed_drills s (actors_at m) seed h.count g.count offers m n k h.drills g.drills
