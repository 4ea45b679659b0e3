-- The order of a drill: whose step comes next, and when the next of the capture is offered.
use Rattle.std.specs.Prelude.{◌≡◌, ℕ, suc, ◌<◌, ◌≤◌, ◌⊎◌, ◌==◌, cond, List, [], ◌∷◌, ◌++◌, length, map, flat_map, filter, replicate, Option, Some, None, slice_get}
use Rattle.streamdefs.specs.Packet.{Packet}
use Rattle.streamdefs.specs.Case.{numbers}
use Rattle.coretable.specs.Course.{Course, Job}
use Rattle.coretable.specs.Course.Job.{Nothing, Takes, Closes}
use Rattle.mixrun.specs.declared.actor.Actor.{Actor}
use Rattle.mixrun.specs.Moment.{Setup, Input, AtCore, Moment}
use Rattle.mixrun.specs.Moment.Input.{Brings, Ends}
use Rattle.mixrun.specs.Steps.{Offers}
use Rattle.mixrun.specs.AtMoment.{packet_in}
use Rattle.mixrun.specs.Books.{AreLoadable}
use Rattle.mixrun.specs.Schedule.{IsIdle, AreAllIdle, Acts, FirstActs, actors_at, number_below, states}

-- What is offered

-- inputs that are offered at once, each to its core
abbrev pub Offer : Type 0
Offer = List (ℕ × Input)

abbrev pub OffersAll : Offer → Moment → Moment → Type 0
OffersAll [] m n = n ≡ m
OffersAll (one ∷ offer) m n = (k : Moment) × Offers one.0 one.1 m k × OffersAll offer k n

-- of a capture: each packet to its core, and then the end to every core
abbrev pub offers_of : (Packet → ℕ) → (cores last : ℕ) → List Packet → List Offer
offers_of core_of cores last packets = map (λ p. (core_of p, Brings p) ∷ []) packets ++ map (λ core. (core, Ends last)) (numbers 0 cores) ∷ []

-- the next of these is offered
abbrev pub OffersNext : List Offer → Moment → List Offer → Moment → Type 0
OffersNext [] m left n = ⊥
OffersNext (offer ∷ offers) m left n = (left ≡ offers) × OffersAll offer m n

-- Whose step is next

-- what names a step: an actor, the next offer, or nothing
pub data Pick : Type 0 where
  Names : Actor → Pick
  Offering : Pick
  Unnamed : Pick

-- where nothing does, the first actor that isn't idle makes its step; where all are idle, the next is offered
abbrev pub PlainStep : Setup → List Actor → List Offer → Moment → List Offer → Moment → Type 0
PlainStep s all offers m left n = (FirstActs s all m n × (left ≡ offers)) ⊎ (AreAllIdle s m × OffersNext offers m left n)

-- the same where the named actor is idle, or nothing is left to offer
abbrev pub PickedStep : Setup → List Actor → Pick → List Offer → Moment → List Offer → Moment → Type 0
PickedStep s all (Names actor) offers m left n = (Acts s actor m n × (left ≡ offers)) ⊎ (IsIdle s m actor × PlainStep s all offers m left n)
PickedStep s all Offering offers m left n = OffersNext offers m left n ⊎ ((offers ≡ []) × PlainStep s all offers m left n)
PickedStep s all Unnamed offers m left n = PlainStep s all offers m left n

-- a step for each, until every actor is idle and nothing is left to offer
abbrev pub Drills : Setup → List Actor → List Pick → List Offer → Moment → Moment → Type 0
Drills s all [] offers m n = (n ≡ m) × AreAllIdle s m × (offers ≡ [])
Drills s all (pick ∷ picks) offers m n = (k : Moment) × (left : List Offer) × PickedStep s all pick offers m left k × Drills s all picks left k n

-- what a draw names: the actor at the drawn place, and behind the last one the offer
abbrev pub pick_by : List Actor → (state : ℕ) → Pick
pick_by all state = at (slice_get all (number_below (suc (length all)) state))
  where
    at : Option Actor → Pick
    at (Some actor) = Names actor
    at None = Offering

-- so many steps without a seed, and with one
abbrev pub picks_by : List Actor → (seed : Option ℕ) → (count : ℕ) → List Pick
picks_by all None count = replicate count Unnamed
picks_by all (Some seed) count = map (pick_by all) (states seed count)

-- A drill of these offers.
pub record Drilled (s : Setup) (seed : Option ℕ) (offers : List Offer) (m n : Moment) : Type 0 where
  pub count : ℕ
  pub drills : Drills s (actors_at m) (picks_by (actors_at m) seed count) offers m n

-- What a core is still to get

-- of an offer, and of all that are left
abbrev pub for_core : ℕ → Offer → List Input
for_core c [] = []
for_core c (one ∷ offer) = cond (one.0 == c) (one.1 ∷ for_core c offer) (for_core c offer)

abbrev pub coming : ℕ → List Offer → List Input
coming c offers = flat_map (for_core c) offers

-- inputs of which the last, and no other, is the end
abbrev pub HasItsEnd : List Input → Type 0
HasItsEnd [] = ⊥
HasItsEnd (Brings p ∷ inputs) = HasItsEnd inputs
HasItsEnd (Ends at ∷ inputs) = inputs ≡ []

-- what may follow what was loaded last: nothing behind the end
abbrev pub IsEnding : Job → List Input → Type 0
IsEnding Nothing inputs = HasItsEnd inputs
IsEnding (Takes p) inputs = HasItsEnd inputs
IsEnding (Closes at) inputs = inputs ≡ []

-- A core's course with what it is still to load: that may be loaded in turn, has its end, and brings the rest of its packets.
pub record IsBehind (last : ℕ) (packets : List Packet) (m : Course) (inputs : List Input) : Type 0 where
  pub loadable : AreLoadable last m.number m.clock inputs
  pub ends : IsEnding m.job inputs
  pub packets_are : m.packets ++ flat_map packet_in inputs ≡ packets

-- that of each core, with all that comes for it
abbrev pub AreBehind : Setup → (packets : ℕ → List Packet) → (left : ℕ → List Input) → Moment → Type 0
AreBehind s packets left m = (c : ℕ) (a : AtCore) → slice_get m.cores c ≡ Some a → IsBehind s.last (packets c) a.course (a.inputs ++ left c)

-- the packets of a capture that are a core's
abbrev pub share_of : (Packet → ℕ) → List Packet → ℕ → List Packet
share_of core_of packets c = filter (λ p. core_of p == c) packets

-- packets as they are accepted: their numbers rise, and clocks don't fall up to the last one
abbrev pub AreAccepted : (last number clock : ℕ) → List Packet → Type 0
AreAccepted last number clock [] = clock ≤ last
AreAccepted last number clock (p ∷ packets) = (number < p.number) × (clock ≤ p.now) × AreAccepted last p.number p.now packets
