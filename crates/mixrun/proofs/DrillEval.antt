-- Small drills without a seed, turn by turn: which actor makes the step, by the order of the actors, and what it does; and where the next is
-- offered.
use Rattle.std.proofs.Common.{◌≡◌, ℕ, zero, suc, ◌-◌, ◌^◌, ◌<◌, ◌⊎◌, inl, inr, Bool, true, false, List, [], ◌∷◌, ◌++◌, Option, Some, None, refl, sym, subst, arith, length, replicate, set, slice_get}
use Rattle.std.specs.Prelude.{⊤, nat_lt, nat_le}
use Rattle.std.proofs.lemmas.Option.{slice_get_within}
use Rattle.std.proofs.lemmas.Bool.Decides.{nat_tests}
use Rattle.prio_budget.specs.declared.free.Free.{Free}
use Rattle.histbook.specs.declared.look_entry.LookEntry.{LookEntry}
use Rattle.evring.specs.declared.reason.Reason.{Reason}
use Rattle.evring.specs.declared.reason.Reason.TheVariants.{Finish}
use Rattle.streamdefs.specs.Packet.{Packet}
use Rattle.streamdefs.specs.Terms.{Terms}
use Rattle.streamdefs.specs.Reorder.{Charge}
use Rattle.streamdefs.specs.Convo.{Event}
use Rattle.streamdefs.specs.Convo.Event.{New, Chunk, Ended}
use Rattle.streamdefs.specs.Rows.{datagram, datagram_from, free, got}
use Rattle.coretable.specs.Course.{Course, Stop, Step, step, GoesOn, After, Comes}
use Rattle.coretable.specs.Course.Step.{Goes, Stops}
use Rattle.mixrun.specs.declared.actor.Actor.{Actor}
use Rattle.mixrun.specs.declared.actor.Actor.TheVariants.{Back, Work, Core}
use Rattle.mixrun.specs.Moment.{Setup, AtCore, Pair, Moment}
use Rattle.mixrun.specs.Moment.Input.{Brings, Ends}
use Rattle.mixrun.specs.Moves.{CoreMove, free_at}
use Rattle.mixrun.specs.Moves.CoreMove.{Loads as MoveLoads, Asks as MoveAsks, Frees as MoveFrees, Emits as MoveEmits, TakesBack as MoveTakesBack}
use Rattle.mixrun.specs.Steps.{Offers, opening}
use Rattle.mixrun.specs.Schedule.{IsIdle, AreAllIdle, Acts, FirstActs, actors_of}
use Rattle.mixrun.specs.Drill.{Offer, OffersAll, OffersNext, Drills, offers_of}
use Rattle.mixrun.specs.Drill.Pick.{Unnamed}
use Rattle.mixrun.specs.GoesOn.{IsOut}
use Rattle.mixrun.specs.Rows.{small}
use Rattle.mixrun.proofs.ActorMoves.{Does, Needs, does}

-- Drills by their turns

-- an event in short: a new conversation, the bytes of a delivery, an end
data Told : Type 0 where
  Opens : Told
  Shows : List ℕ → Told
  Closes : Reason → Told

-- What a step does: a core loads a packet, or the end, asks, gives back, gives an event, or takes an answer back; a worker takes an event
-- of a core, gives back, or answers.
data Done : Type 0 where
  Loads : (number : ℕ) → Done
  LoadsEnd : Done
  Asks : LookEntry → Done
  Frees : Free → Done
  Emits : Told → Done
  TakesBack : Told → Done
  Takes : (core : ℕ) → Told → Done
  GivesBack : Free → Done
  Answers : Told → Done

-- whose step it is, and what it does, or the offer of the next
data Turn : Type 0 where
  By : Actor → Done → Turn
  Next : Turn

abbrev told_by : Event → Told
told_by New = Opens
told_by (Chunk d) = Shows d.piece.fresh
told_by (Ended reason) = Closes reason

abbrev done_by : CoreMove → Done
done_by (MoveLoads (Brings p)) = Loads p.number
done_by (MoveLoads (Ends at)) = LoadsEnd
done_by (MoveAsks look) = Asks look
done_by (MoveFrees free) = Frees free
done_by (MoveEmits given) = Emits (told_by given.event)
done_by (MoveTakesBack reply) = TakesBack (told_by reply.given.event)

-- what an actor's step does
abbrev done_in : (s : Setup) (actor : Actor) (m n : Moment) → Acts s actor m n → Done
done_in s (Back c) m n g = done_by g.move
done_in s (Core c) m n g = done_by g.move
done_in s (Work w) m n (inl (t, in_turn)) = Takes t.core (told_by t.given.event)
done_in s (Work w) m n (inr (inl g)) = GivesBack (free_at m.pair g.charge)
done_in s (Work w) m n (inr (inr g)) = Answers (told_by g.hand.given.event)

-- an actor makes its step, which does this, and all before it are idle
abbrev IsFirstToAct : Setup → List Actor → Actor → Done → Moment → Moment → Type 0
IsFirstToAct s [] actor done m n = ⊥
IsFirstToAct s (one ∷ others) actor done m n = ((one ≡ actor) × (acts : Acts s one m n) × (done_in s one m n acts ≡ done)) ⊎ (IsIdle s m one × IsFirstToAct s others actor done m n)

-- a drill without a seed that has these turns
abbrev Tells : Setup → List Actor → List Turn → List Offer → Moment → Moment → Type 0
Tells s all [] offers m n = (n ≡ m) × AreAllIdle s m × (offers ≡ [])
Tells s all (By actor done ∷ turns) offers m n = (k : Moment) × IsFirstToAct s all actor done m k × Tells s all turns offers k n
Tells s all (Next ∷ turns) offers m n = (k : Moment) × (left : List Offer) × AreAllIdle s m × OffersNext offers m left k × Tells s all turns left k n

first_acts : (s : Setup) (all : List Actor) (actor : Actor) (done : Done) (m n : Moment) → IsFirstToAct s all actor done m n → FirstActs s all m n
first_acts s [] actor done m n h = absurd h
first_acts s (one ∷ others) actor done m n (inl (same, acts, is)) = inl acts
first_acts s (one ∷ others) actor done m n (inr (idle, rest)) = inr (idle, first_acts s others actor done m n rest)

-- it is one by the definition
is_drill : (s : Setup) (all : List Actor) (turns : List Turn) (offers : List Offer) (m n : Moment) → Tells s all turns offers m n → Drills s all (replicate (length turns) Unnamed) offers m n
is_drill s all [] offers m n h = h
is_drill s all (By actor done ∷ turns) offers m n (k, first, rest) = (k, offers, inl (first_acts s all actor done m k first, refl), is_drill s all turns offers k n rest)
is_drill s all (Next ∷ turns) offers m n (k, left, idle, next, rest) = (k, left, inr (idle, next), is_drill s all turns left k n rest)

-- Worked out

-- what is not found
abbrev Maybe : Type 0 → Type 0
Maybe X = ⊤ ⊎ X

-- where a table stops, after at most so many steps
abbrev comes_within : (fuel : ℕ) (terms : Terms) (m : Course) → Maybe ((n : ℕ) × (stop : Stop) × (there : Course) × Comes terms n m stop there)
comes_within zero terms m = inl tt
comes_within (suc fuel) terms m = by (step terms m) refl (λ next. comes_within fuel terms next)
  where
    longer : (next : Course) → step terms m ≡ Goes next → Maybe ((n : ℕ) × (stop : Stop) × (there : Course) × Comes terms n next stop there)
        → Maybe ((n : ℕ) × (stop : Stop) × (there : Course) × Comes terms n m stop there)
    longer next e (inl none) = inl none
    longer next e (inr (n, stop, there, comes)) = inr (suc n, stop, there, (subst (λ (st : Step). GoesOn (λ k. After terms n k there) st) (sym e) comes.0, comes.1))

    by : (st : Step) → step terms m ≡ st → ((next : Course) → Maybe ((n : ℕ) × (stop : Stop) × (there : Course) × Comes terms n next stop there))
        → Maybe ((n : ℕ) × (stop : Stop) × (there : Course) × Comes terms n m stop there)
    by (Stops stop) e further = inr (0, stop, m, (refl, e))
    by (Goes next) e further = longer next e (further next)

abbrev is_stop : (terms : Terms) (m : Course) → Maybe ((stop : Stop) × (step terms m ≡ Stops stop))
is_stop terms m = by (step terms m) refl
  where
    by : (st : Step) → step terms m ≡ st → Maybe ((stop : Stop) × (step terms m ≡ Stops stop))
    by (Stops stop) e = inr (stop, e)
    by (Goes next) e = inl tt

abbrev is_below : (a b : ℕ) → Maybe (a < b)
is_below a b = by (nat_lt a b) refl
  where
    by : (t : Bool) → nat_lt a b ≡ t → Maybe (a < b)
    by true t = inr (grind (arith, nat_tests, t))
    by false t = inl tt

abbrev is_out : (p : Pair) (charge : Charge) → Maybe (IsOut p charge)
is_out p charge = by (nat_le charge.bytes p.used) refl (is_below charge.stamp p.stamp)
  where
    by : (t : Bool) → nat_le charge.bytes p.used ≡ t → Maybe (charge.stamp < p.stamp) → Maybe (IsOut p charge)
    by true t (inr early) = inr (grind (arith, nat_tests, t), early)
    by true t (inl none) = inl tt
    by false t early = inl tt

abbrev core_at : (cores : List AtCore) (c : ℕ) → Maybe ((at : AtCore) × (slice_get cores c ≡ Some at))
core_at cores c = by (slice_get cores c) refl
  where
    by : (o : Option AtCore) → slice_get cores c ≡ o → Maybe ((at : AtCore) × (slice_get cores c ≡ Some at))
    by None e = inl tt
    by (Some at) e = inr (at, e)

-- tables stop within eight steps here, and all else is looked up
abbrev needs_at : (s : Setup) (m : Moment) → Needs ⊤ s m
needs_at s m = record {
  stops = λ c a is. is_stop s.terms a.course;
  stamps = λ c a ask mark is e. is_below m.pair.stamp (2 ^ 31);
  releases = λ c a charge is e. is_out m.pair charge;
  owed = λ w x h charge is has e. is_out m.pair charge;
  settles = λ c a move is may. comes_within 8 s.terms _;
  known = λ w x h is has. core_at m.cores h.core;
}

module _ (s : Setup) where
  abbrev idle_at : (m : Moment) (actor : Actor) → Maybe (IsIdle s m actor)
  idle_at m actor = by (does ⊤ s m (needs_at s m) actor)
    where
      by : Does ⊤ s m actor → Maybe (IsIdle s m actor)
      by (inr (inl idle)) = inr idle
      by _ = inl tt

  -- so many of a kind
  abbrev each_below : (m : Moment) (kind : ℕ → Actor) (k : ℕ) → Maybe ((c : ℕ) → c < k → IsIdle s m (kind c))
  each_below m kind zero = inr (λ c l. absurd (omega (arith, l)))
  each_below m kind (suc k) = both (idle_at m (kind k)) (each_below m kind k)
    where
      at : IsIdle s m (kind k) → ((c : ℕ) → c < k → IsIdle s m (kind c)) → (c : ℕ) → c < suc k → Maybe (c < k) → IsIdle s m (kind c)
      at idle before c l (inr less) = before c less
      at idle before c l (inl none) = by (nat_lt c k) refl
        where
          by : (t : Bool) → nat_lt c k ≡ t → IsIdle s m (kind c)
          by true t = before c (grind (arith, nat_tests, t))
          by false t =
              let low : ¬ (c < k) = grind (arith, nat_tests, t) in
              let same : k ≡ c = omega (arith, l, low) in
              subst (λ (i : ℕ). IsIdle s m (kind i)) same idle

      both : Maybe (IsIdle s m (kind k)) → Maybe ((c : ℕ) → c < k → IsIdle s m (kind c)) → Maybe ((c : ℕ) → c < suc k → IsIdle s m (kind c))
      both (inr idle) (inr before) = inr (λ c l. at idle before c l (is_below c k))
      both _ _ = inl tt

  abbrev all_idle : (m : Moment) → Maybe (AreAllIdle s m)
  all_idle m = by (each_below m Back (length m.cores)) (each_below m Work (length m.workers)) (each_below m Core (length m.cores))
    where
      each : ((c : ℕ) → c < length m.cores → IsIdle s m (Back c)) → ((w : ℕ) → w < length m.workers → IsIdle s m (Work w)) → ((c : ℕ) → c < length m.cores → IsIdle s m (Core c)) → AreAllIdle s m
      each backs works cores (Back c) = λ a there. backs c (slice_get_within m.cores c a there) a there
      each backs works cores (Work w) = λ x there. works w (slice_get_within m.workers w x there) x there
      each backs works cores (Core c) = λ a there. cores c (slice_get_within m.cores c a there) a there

      by : Maybe ((c : ℕ) → c < length m.cores → IsIdle s m (Back c)) → Maybe ((w : ℕ) → w < length m.workers → IsIdle s m (Work w)) → Maybe ((c : ℕ) → c < length m.cores → IsIdle s m (Core c)) → Maybe (AreAllIdle s m)
      by (inr backs) (inr works) (inr cores) = inr (each backs works cores)
      by _ _ _ = inl tt

  -- the first that isn't idle, and where it comes to
  abbrev First : List Actor → Moment → Type 0
  First all m = (actor : Actor) × (done : Done) × (n : Moment) × IsFirstToAct s all actor done m n

  abbrev first_of : (all : List Actor) (m : Moment) → Maybe (First all m)
  first_of [] m = inl tt
  first_of (one ∷ others) m = by (does ⊤ s m (needs_at s m) one) (first_of others m)
    where
      behind : IsIdle s m one → Maybe (First others m) → Maybe (First (one ∷ others) m)
      behind idle (inr (actor, done, n, rest)) = inr (actor, done, n, inr (idle, rest))
      behind idle (inl none) = inl tt

      by : Does ⊤ s m one → Maybe (First others m) → Maybe (First (one ∷ others) m)
      by (inl none) further = inl tt
      by (inr (inl idle)) further = behind idle further
      by (inr (inr (n, acts))) further = inr (one, done_in s one m n acts, n, inl (refl, acts, refl))

  abbrev offered_all : (offer : Offer) (m : Moment) → Maybe ((n : Moment) × OffersAll offer m n)
  offered_all [] m = inr (m, refl)
  offered_all (one ∷ offer) m = by (core_at m.cores one.0) (λ k. offered_all offer k)
    where
      further : (k : Moment) → Offers one.0 one.1 m k → Maybe ((n : Moment) × OffersAll offer k n) → Maybe ((n : Moment) × OffersAll (one ∷ offer) m n)
      further k it (inl none) = inl tt
      further k it (inr (n, rest)) = inr (n, (k, it, rest))

      by : Maybe ((at : AtCore) × (slice_get m.cores one.0 ≡ Some at)) → ((k : Moment) → Maybe ((n : Moment) × OffersAll offer k n)) → Maybe ((n : Moment) × OffersAll (one ∷ offer) m n)
      by (inl none) rest = inl tt
      by (inr (at, there)) rest =
          let k : Moment = record m { cores = set m.cores one.0 (record at { inputs = at.inputs ++ one.1 ∷ [] }) } in
          further k (record { at = at; is_it = there; cores = refl; workers = refl; pair = refl }) (rest k)

  -- a whole drill, of at most so many steps
  abbrev Whole : List Actor → List Offer → Moment → Type 0
  Whole all offers m = (turns : List Turn) × (n : Moment) × Tells s all turns offers m n

  abbrev whole : (fuel : ℕ) (all : List Actor) (offers : List Offer) (m : Moment) → Maybe (Whole all offers m)
  whole zero all offers m = inl tt
  whole (suc fuel) all offers m = by (first_of all m) (all_idle m) offers (λ left k. whole fuel all left k)
    where
      Rest : Type 0
      Rest = (left : List Offer) (k : Moment) → Maybe (Whole all left k)

      acted : (offers : List Offer) (actor : Actor) (done : Done) (k : Moment) → IsFirstToAct s all actor done m k → Maybe (Whole all offers k) → Maybe (Whole all offers m)
      acted offers actor done k first (inl none) = inl tt
      acted offers actor done k first (inr (turns, n, rest)) = inr (By actor done ∷ turns, n, (k, first, rest))

      brought : (offer : Offer) (left : List Offer) (k : Moment) → AreAllIdle s m → OffersAll offer m k → Maybe (Whole all left k) → Maybe (Whole all (offer ∷ left) m)
      brought offer left k idle it (inl none) = inl tt
      brought offer left k idle it (inr (turns, n, rest)) = inr (Next ∷ turns, n, (k, left, idle, (refl, it), rest))

      next : (offer : Offer) (left : List Offer) → AreAllIdle s m → Maybe ((n : Moment) × OffersAll offer m n) → Rest → Maybe (Whole all (offer ∷ left) m)
      next offer left idle (inl none) rest = inl tt
      next offer left idle (inr (k, it)) rest = brought offer left k idle it (rest left k)

      still : (offers : List Offer) → AreAllIdle s m → Rest → Maybe (Whole all offers m)
      still [] idle rest = inr ([], m, (refl, idle, refl))
      still (offer ∷ left) idle rest = next offer left idle (offered_all offer m) rest

      by : Maybe (First all m) → Maybe (AreAllIdle s m) → (offers : List Offer) → Rest → Maybe (Whole all offers m)
      by (inr (actor, done, k, first)) idle offers rest = acted offers actor done k first (rest offers k)
      by (inl none) (inr idle) offers rest = still offers idle rest
      by (inl none) (inl other) offers rest = inl tt

-- The drill of a capture goes by these turns.
abbrev GoesBy : Setup → (Packet → ℕ) → (cores : ℕ) → List Packet → List Turn → Type 0
GoesBy s core_of cores packets turns =
    (n : Moment) × Tells s (actors_of cores (length s.handlers)) turns (offers_of core_of cores s.last packets) (opening cores (length s.handlers)) n

abbrev turns_in : (s : Setup) (all : List Actor) (offers : List Offer) (m : Moment) → Maybe (Whole s all offers m) → Option (List Turn)
turns_in s all offers m (inl none) = None
turns_in s all offers m (inr (turns, n, it)) = Some turns

no_turns : {R : Type 0} (turns : List Turn) → None ≡ Some turns → R
no_turns turns e = absurd cc

same_turns : (others turns : List Turn) → Some others ≡ Some turns → others ≡ turns
same_turns others turns e = cc

found : (s : Setup) (all : List Actor) (offers : List Offer) (m : Moment) (it : Maybe (Whole s all offers m)) (turns : List Turn) → turns_in s all offers m it ≡ Some turns → (n : Moment) × Tells s all turns offers m n
found s all offers m (inl none) turns e = no_turns turns e
found s all offers m (inr (others, n, it)) turns e = (n, subst (λ (l : List Turn). Tells s all l offers m n) (same_turns others turns e) it)

-- at most so many steps show it
goes_by : (fuel : ℕ) (s : Setup) (core_of : Packet → ℕ) (cores : ℕ) (packets : List Packet) (turns : List Turn)
    → turns_in s (actors_of cores (length s.handlers)) (offers_of core_of cores s.last packets) (opening cores (length s.handlers))
    (whole s fuel (actors_of cores (length s.handlers)) (offers_of core_of cores s.last packets) (opening cores (length s.handlers))) ≡ Some turns → GoesBy s core_of cores packets turns
goes_by fuel s core_of cores packets turns e = found s _ _ _ (whole s fuel _ _ _) turns e

-- The drills

abbrev sole : Packet → ℕ
sole p = 0

abbrev ab : List ℕ
ab = 97 ∷ 98 ∷ []

abbrev cd : List ℕ
cd = 99 ∷ 100 ∷ []

abbrev abcd : List ℕ
abcd = 97 ∷ 98 ∷ 99 ∷ 100 ∷ []

-- Of no packet: the end is offered to the core, which loads it and is over.
abbrev ending_turns : List Turn
ending_turns =
    Next ∷ By (Core 0) LoadsEnd ∷ []

nothing_comes : GoesBy small sole 1 [] ending_turns
nothing_comes = goes_by 8 small sole 1 [] ending_turns refl

-- Of one datagram that fills a chunk: it is offered; the core loads it, asks, and gives the new conversation's event, which the worker
-- takes and answers. The answer waits while the entry is under way: the core gives the chunk. Now the answer goes back; the worker
-- takes the chunk, gives its bytes back and answers; this answer goes back. All are idle, and the end is offered: the core loads it
-- and gives the end's event; the worker takes it and answers; and the last answer goes back.
abbrev full_turns : List Turn
full_turns =
    Next ∷ By (Core 0) (Loads 1) ∷ By (Core 0) (Asks (got 4 0 0)) ∷ By (Core 0) (Emits Opens)
    ∷ By (Work 0) (Takes 0 Opens) ∷ By (Work 0) (Answers Opens)
    ∷ By (Core 0) (Emits (Shows abcd)) ∷ By (Back 0) (TakesBack Opens)
    ∷ By (Work 0) (Takes 0 (Shows abcd)) ∷ By (Work 0) (GivesBack (free 4 1)) ∷ By (Work 0) (Answers (Shows abcd))
    ∷ By (Back 0) (TakesBack (Shows abcd))
    ∷ Next ∷ By (Core 0) LoadsEnd ∷ By (Core 0) (Emits (Closes Finish))
    ∷ By (Work 0) (Takes 0 (Closes Finish)) ∷ By (Work 0) (Answers (Closes Finish))
    ∷ By (Back 0) (TakesBack (Closes Finish)) ∷ []

full_chunk : GoesBy small sole 1 (datagram 1 0 abcd ∷ []) full_turns
full_chunk = goes_by 20 small sole 1 (datagram 1 0 abcd ∷ []) full_turns refl

-- Of one that leaves its chunk open: with the end the core gives the chunk, which the worker takes, gives back and answers; then the
-- end's event, which completes the entry, so that the answer to the chunk goes back before the worker takes the end's.
abbrev open_turns : List Turn
open_turns =
    Next ∷ By (Core 0) (Loads 1) ∷ By (Core 0) (Asks (got 2 0 0)) ∷ By (Core 0) (Emits Opens)
    ∷ By (Work 0) (Takes 0 Opens) ∷ By (Work 0) (Answers Opens)
    ∷ By (Back 0) (TakesBack Opens)
    ∷ Next ∷ By (Core 0) LoadsEnd ∷ By (Core 0) (Emits (Shows ab))
    ∷ By (Work 0) (Takes 0 (Shows ab)) ∷ By (Work 0) (GivesBack (free 2 1)) ∷ By (Work 0) (Answers (Shows ab))
    ∷ By (Core 0) (Emits (Closes Finish)) ∷ By (Back 0) (TakesBack (Shows ab))
    ∷ By (Work 0) (Takes 0 (Closes Finish)) ∷ By (Work 0) (Answers (Closes Finish))
    ∷ By (Back 0) (TakesBack (Closes Finish)) ∷ []

open_chunk : GoesBy small sole 1 (datagram 1 0 ab ∷ []) open_turns
open_chunk = goes_by 20 small sole 1 (datagram 1 0 ab ∷ []) open_turns refl

-- the first packet to core 0, the second one to core 1
abbrev in_turn : Packet → ℕ
in_turn p = p.number - 1

-- Of two such datagrams on two cores with one worker: each is worked off before the next is offered. The end is offered to both cores
-- at once, and what core 0 begins is whole before core 1 loads it, since core 0 stands before it.
abbrev both_turns : List Turn
both_turns =
    Next ∷ By (Core 0) (Loads 1) ∷ By (Core 0) (Asks (got 2 0 0)) ∷ By (Core 0) (Emits Opens)
    ∷ By (Work 0) (Takes 0 Opens) ∷ By (Work 0) (Answers Opens)
    ∷ By (Back 0) (TakesBack Opens)
    ∷ Next ∷ By (Core 1) (Loads 2) ∷ By (Core 1) (Asks (got 2 1 2)) ∷ By (Core 1) (Emits Opens)
    ∷ By (Work 0) (Takes 1 Opens) ∷ By (Work 0) (Answers Opens)
    ∷ By (Back 1) (TakesBack Opens)
    ∷ Next ∷ By (Core 0) LoadsEnd ∷ By (Core 0) (Emits (Shows ab))
    ∷ By (Work 0) (Takes 0 (Shows ab)) ∷ By (Work 0) (GivesBack (free 2 2)) ∷ By (Work 0) (Answers (Shows ab))
    ∷ By (Core 0) (Emits (Closes Finish)) ∷ By (Back 0) (TakesBack (Shows ab))
    ∷ By (Work 0) (Takes 0 (Closes Finish)) ∷ By (Work 0) (Answers (Closes Finish))
    ∷ By (Back 0) (TakesBack (Closes Finish))
    ∷ By (Core 1) LoadsEnd ∷ By (Core 1) (Emits (Shows cd))
    ∷ By (Work 0) (Takes 1 (Shows cd)) ∷ By (Work 0) (GivesBack (free 2 3)) ∷ By (Work 0) (Answers (Shows cd))
    ∷ By (Core 1) (Emits (Closes Finish)) ∷ By (Back 1) (TakesBack (Shows cd))
    ∷ By (Work 0) (Takes 1 (Closes Finish)) ∷ By (Work 0) (Answers (Closes Finish))
    ∷ By (Back 1) (TakesBack (Closes Finish)) ∷ []

two_cores : GoesBy small in_turn 2 (datagram 1 0 ab ∷ datagram_from 5001 2 0 cd ∷ []) both_turns
two_cores = goes_by 40 small in_turn 2 (datagram 1 0 ab ∷ datagram_from 5001 2 0 cd ∷ []) both_turns refl
