-- Each step of the machine keeps the books lawful.
use Rattle.std.proofs.Common.{◌≡◌, ℕ, ◌+◌, ◌^◌, ◌<◌, ◌≤◌, ◌⊎◌, inl, inr, Bool, true, false, cond, ◌&&◌, List, [], ◌∷◌, ◌++◌, Option, Some, None, refl, ap, sym, ◌∙◌, subst, arith, map, take, drop, length, slice_get}
use Rattle.std.specs.Prelude.{nat_le}
use Rattle.evring.specs.declared.advice.Advice.{Advice}
use Rattle.prio_budget.specs.declared.free.Free.{Free}
use Rattle.histbook.specs.declared.look_entry.LookEntry.{LookEntry}
use Rattle.streamdefs.specs.Lists.{Each, IsPrefixOf}
use Rattle.streamdefs.specs.Terms.{Terms}
use Rattle.streamdefs.specs.View.{Ask}
use Rattle.streamdefs.specs.Reorder.{Charge}
use Rattle.streamdefs.specs.Marks.{mark}
use Rattle.streamdefs.specs.Convo.{Convo, Event, seen_of, given_back, is_live, priority_in_force, charges_of, kept_of}
use Rattle.streamdefs.specs.Convo.Event.{New, Chunk, Ended}
use Rattle.streamdefs.specs.Core.{Line, Core, Open, Owed, Due, found_by, find_convo}
use Rattle.streamdefs.specs.Lawful.{Handler, IsLookFor}
use Rattle.streamdefs.specs.Want.{Want}
use Rattle.streamdefs.specs.Want.Want.{Reserve, Release as Lets_go, Emit, Rest}
use Rattle.coretable.specs.Course.{Course, Job, Under, Choice, Stop, step, core_of, want_of, choice, job_choice, closing_choice, due_first, due_by, under_step, choice_step, has_room, is_answered, first_live, begun, looked, freed, emitted, Comes}
use Rattle.coretable.specs.Course.Job.{Nothing, Takes, Closes}
use Rattle.coretable.specs.Course.Choice.{Begins, Waits, Closed}
use Rattle.coretable.specs.Course.Step.{Goes, Stops}
use Rattle.coretable.specs.Course.Stop.{Wants, Fills, Rests, Finishes}
use Rattle.coretable.specs.Lawfully.{IsSound}
use Rattle.coretable.proofs.Soundness.{load_is_sound, closing_is_sound, step_is_sound, look_is_sound, free_is_sound, emit_is_sound, answer_is_sound}
use Rattle.mixrun.specs.declared.actor.Actor.{Actor}
use Rattle.mixrun.specs.declared.actor.Actor.TheVariants as actors
use Rattle.mixrun.specs.Moment.{Setup, Input, Given, Reply, AtCore, Pair, Moment}
use Rattle.mixrun.specs.Moment.Input.{Brings, Ends}
use Rattle.mixrun.specs.Moves.{CoreMove, moved, under_way, with_input, look_at, free_at, owed_for, Serves, IsFirst}
use Rattle.mixrun.specs.Moves.CoreMove.{Loads, Asks, Frees, Emits, TakesBack}
use Rattle.mixrun.specs.Steps.{MayMove, MovesCore, TakesOne, GivesOne, AnswersOne, Steps}
use Rattle.mixrun.specs.Queue.{told_of, Waits as Queued, IsReply, IsSeen, convos_with, free_bytes, charge_bytes, InOrder, IsNext}
use Rattle.mixrun.specs.Books.{AreLoadable, IsFed, AreFed, handler_of}
use Rattle.mixrun.proofs.CoreSums.{wanting_entry, first_of}
use Rattle.mixrun.proofs.SilentSteps.{runs, Going, goes_on}
use Rattle.mixrun.proofs.SilentSteps.Going.{Completing, Beginning}
use Rattle.mixrun.proofs.BudgetSteps.{marked_by}
use Rattle.mixrun.proofs.CoreQueue.{at_under, is_next}
use Rattle.mixrun.proofs.QueueSteps.{at_each}

-- A core that waits for an input has no entry under way, and nothing loaded.

closing_waits : (at : ℕ) (o : Option Open) → closing_choice at o ≡ Waits → ⊥
closing_waits at None h = cc
closing_waits at (Some o) h = cc

first_waits : (due : Option Due) (next : Choice) → due_first due next ≡ Waits → next ≡ Waits
first_waits None next h = h
first_waits (Some d) next h = absurd cc

begins_waits : (line : Line) → Begins line ≡ Waits → ⊥
begins_waits line h = cc

rests_job : (t : Terms) (core : Core) (job : Job) → job_choice t core job ≡ Waits → job ≡ Nothing
rests_job t core Nothing h = refl
rests_job t core (Takes p) h = absurd (begins_waits _ (first_waits (due_by t core p.now) _ h))
rests_job t core (Closes at) h = absurd (closing_waits at (first_live core.convos) (first_waits (due_by t core at) _ h))

rests_choice : (t : Terms) (core : Core) (job : Job) (o : Option Owed) → core.owed ≡ o → choice t core job ≡ Waits → job ≡ Nothing
rests_choice t core job None e h = let g = rw (choice, e) at h in rests_job t core job g
rests_choice t core job (Some owed) e h = let g = rw (choice, e) at h in absurd cc

rests_by : (t : Terms) (m : Course) (c : Choice) → choice t (core_of t m) m.job ≡ c → choice_step (core_of t m) m c ≡ Stops Rests → m.job ≡ Nothing
rests_by t m (Begins line) e g = absurd (by (has_room (core_of t m)) g)
  where
    by : (b : Bool) → cond b (Goes (begun m line)) (Stops Fills) ≡ Stops Rests → ⊥
    by true g = cc
    by false g = cc
rests_by t m Waits e g = rests_choice t (core_of t m) m.job (core_of t m).owed refl e
rests_by t m Closed e g = absurd (by (is_answered (core_of t m)) g)
  where
    by : (b : Bool) → cond b (Stops Finishes) (Stops Fills) ≡ Stops Rests → ⊥
    by true g = cc
    by false g = cc

under_rests : (m : Course) (u : Under) (w : Want) → under_step m u w ≡ Stops Rests → ⊥
under_rests m u (Reserve ask k) g = cc
under_rests m u (Lets_go charge) g = cc
under_rests m u (Emit event) g = cc
under_rests m u Rest g = cc

pub rests_at : (t : Terms) (m : Course) → step t m ≡ Stops Rests → (m.under ≡ None) × (m.job ≡ Nothing)
rests_at t m h = by m.under refl
  where
    by : (o : Option Under) → m.under ≡ o → (m.under ≡ None) × (m.job ≡ Nothing)
    by None e = (e, rests_by t m (choice t (core_of t m) m.job) refl (let g = rw (step, e) at h in g))
    by (Some u) e = absurd (under_rests m u (want_of t m u) (let g = rw (step, e) at h in g))

-- What an answer gives back is what its worker gave, where it isn't kept.

whole : {A : Type 0} (xs : List A) → xs ≡ take (length xs) xs
whole [] = refl
whole (x ∷ xs) = ap (λ ys. x ∷ ys) (whole xs)

none_first : (xs ys : List ℕ) → xs ≡ [] → IsPrefixOf xs ys
none_first xs ys e = subst (λ (l : List ℕ). IsPrefixOf l ys) (sym e) refl

first_of_given : (c : Convo) (advice : Advice) (event : Event) (frees : List Free) → free_bytes frees ≡ charge_bytes (owed_for event advice)
    → IsPrefixOf (free_bytes frees) (charge_bytes (given_back c advice (Some event)))
first_of_given c advice New frees h = none_first (free_bytes frees) _ h
first_of_given c advice (Ended reason) frees h = none_first (free_bytes frees) _ h
first_of_given c advice (Chunk d) frees h = by advice.keep (is_live c) h
  where
    by : (keep live : Bool) → free_bytes frees ≡ charge_bytes (cond keep [] (charges_of (kept_of d))) → IsPrefixOf (free_bytes frees) (charge_bytes (cond (live && keep) [] (charges_of (kept_of d))))
    by true live h = none_first (free_bytes frees) _ h
    by false true h = subst (λ (l : List ℕ). IsPrefixOf (free_bytes frees) l) h (whole (free_bytes frees))
    by false false h = subst (λ (l : List ℕ). IsPrefixOf (free_bytes frees) l) h (whole (free_bytes frees))

-- A step of a core

module _ (t : Terms) (last : ℕ) (handler : Handler) where
  abbrev Fed : AtCore → Type 0
  Fed a = IsFed t last handler a

  -- the numbers stay through what a table does by itself
  silent_numbers : (n : ℕ) (m m' : Course) (inputs : List Input) → ((x next : Course) → step t x ≡ Goes next → AreLoadable last x.number x.clock inputs → AreLoadable last next.number next.clock inputs)
  silent_numbers n m m' inputs x next e h = by (goes_on t x next e)
    where
      by : Going t x next → AreLoadable last next.number next.clock inputs
      by (Completing u under w same) = subst (λ (y : Course). AreLoadable last y.number y.clock inputs) (sym same) h
      by (Beginning line none fresh room same) = subst (λ (y : Course). AreLoadable last y.number y.clock inputs) (sym same) h

  silent_clock : (x next : Course) → step t x ≡ Goes next → x.clock ≤ last → next.clock ≤ last
  silent_clock x next e h = by (goes_on t x next e)
    where
      by : Going t x next → next.clock ≤ last
      by (Completing u under w same) = subst (λ (y : Course). y.clock ≤ last) (sym same) h
      by (Beginning line none fresh room same) = subst (λ (y : Course). y.clock ≤ last) (sym same) h

  settles : (a b : AtCore) (n : ℕ) (stop : Stop) → Comes t n a.course stop b.course → b ≡ record a { course = b.course } → Fed a → Fed b
  settles a b n stop comes same h = record {
    sound = runs t (IsSound t last handler) (λ m next e s. step_is_sound t last handler m next s e) n a.course b.course comes.0 h.sound;
    inputs = subst (λ (l : List Input). AreLoadable last b.course.number b.course.clock l) (sym (ap (λ (x : AtCore). x.inputs) same))
        (runs t (λ m. AreLoadable last m.number m.clock a.inputs) (silent_numbers n a.course b.course a.inputs) n a.course b.course comes.0 h.inputs);
    until = runs t (λ m. m.clock ≤ last) silent_clock n a.course b.course comes.0 h.until;
  }

  loads : (input : Input) (rest : List Input) (m : Course) → m.under ≡ None → m.job ≡ Nothing → IsSound t last handler m → AreLoadable last m.number m.clock (input ∷ rest)
      → IsSound t last handler (with_input m input) × AreLoadable last (with_input m input).number (with_input m input).clock rest × ((with_input m input).clock ≤ last)
  loads (Brings p) rest m none nothing s h = (load_is_sound t last handler m p s none nothing h.0 h.1, h.3, h.2)
  loads (Ends at) rest m none nothing s h = (closing_is_sound t last handler m at s none nothing h.0 h.1, subst (λ (l : List Input). AreLoadable last m.number at l) (sym h.2) tt, omega (arith, h.0))

  module _ (p : Pair) (hand : List Given) (a : AtCore) (f : Fed a) where
    with_under : (change : Course → Under → Course) (u : Under) → a.course.under ≡ Some u → IsSound t last handler (change a.course u)
        → AreLoadable last (change a.course u).number (change a.course u).clock a.inputs → (change a.course u).clock ≤ last → (events : List Given) → Fed (record { inputs = a.inputs; course = under_way change a.course; events = events; answers = a.answers })
    with_under change u under s l c events =
        let same : under_way change a.course ≡ change a.course u = at_under change a.course u under in
        record {
          sound = subst (IsSound t last handler) (sym same) s;
          inputs = subst (λ (m : Course). AreLoadable last m.number m.clock a.inputs) (sym same) l;
          until = subst (λ (m : Course). m.clock ≤ last) (sym same) c;
        }

    asks : (look : LookEntry) (ask : Ask) (k : ℕ) → step t a.course ≡ Stops (Wants (Reserve ask k)) → look ≡ look_at p ask.bytes k → p.stamp < 2 ^ 31 → Fed (moved t (Asks look) a)
    asks look ask k e is early =
        let entry = wanting_entry t a.course (Reserve ask k) e in
        let c : Convo = found_by (core_of t a.course) entry.0.line in
        let marked : k ≡ mark t.marks (priority_in_force t c) = marked_by t c entry.0.line.act entry.0.emitted ask k _ refl entry.2 in
        let fits : IsLookFor t c (look_at p ask.bytes k) ask = (refl, ap (nat_le (p.used + ask.bytes)) marked, early) in
        with_under (λ m u. looked m u look) entry.0 entry.1
        (look_is_sound t last handler a.course entry.0 ask k look f.sound entry.1 entry.2 (subst (λ (l : LookEntry). IsLookFor t c l ask) (sym is) fits)) f.inputs f.until a.events

    frees : (free : Free) (charge : Charge) → step t a.course ≡ Stops (Wants (Lets_go charge)) → free ≡ free_at p charge → Fed (moved t (Frees free) a)
    frees free charge e is =
        let entry = wanting_entry t a.course (Lets_go charge) e in
        with_under (λ m u. freed m u free) entry.0 entry.1
        (free_is_sound t last handler a.course entry.0 charge free f.sound entry.1 entry.2 (ap (λ (x : Free). x.bytes) is)) f.inputs f.until a.events

    emits : (given : Given) (event : Event) → step t a.course ≡ Stops (Wants (Emit event)) → Fed (moved t (Emits given) a)
    emits given event e =
        let entry = wanting_entry t a.course (Emit event) e in
        with_under emitted entry.0 entry.1 (emit_is_sound t last handler a.course entry.0 f.sound entry.1) f.inputs f.until (a.events ++ given ∷ [])

    -- an answer is the one that the core's next event has
    takes_back : (reply : Reply) → a.course.under ≡ None → IsNext t handler a.course reply → ((c : Convo) → find_convo reply.given.conv (core_of t a.course).convos ≡ Some c
        → reply.advice ≡ handler reply.given.conv (seen_of c.first reply.given.event)) → Fed (moved t (TakesBack reply) a)
    takes_back reply none next stated = record {
      sound = answer_is_sound t last handler a.course (told_of reply.given) reply.advice reply.frees f.sound none
          (record { next = next.event; stated = stated; freed = λ c e. first_of_given c reply.advice reply.given.event reply.frees next.frees });
      inputs = f.inputs;
      until = f.until;
    }

    moves : (move : CoreMove) → MayMove t p a move
        → ((reply : Reply) → a.course.under ≡ None → IsFirst reply a.answers → IsNext t handler a.course reply × ((c : Convo) → find_convo reply.given.conv (core_of t a.course).convos ≡ Some c → reply.advice ≡ handler reply.given.conv (seen_of c.first reply.given.event)))
        → Fed (moved t move a)
    moves (Loads input) may next = by may.0 may.1 may.2
      where
        by : (stop : Stop) → step t a.course ≡ Stops stop → Serves t p a (Loads input) stop → Fed (moved t (Loads input) a)
        by Rests e s =
            let free = rests_at t a.course e in
            let there = loads input (drop 1 a.inputs) a.course free.0 free.1 f.sound (subst (AreLoadable last a.course.number a.course.clock) (first_of input a.inputs s) f.inputs) in
            record { sound = there.0; inputs = there.1; until = there.2 }
        by (Wants (Reserve ask k)) e s = absurd s
        by (Wants (Lets_go charge)) e s = absurd s
        by (Wants (Emit event)) e s = absurd s
        by (Wants Rest) e s = absurd s
        by Fills e s = absurd s
        by Finishes e s = absurd s
    moves (Asks look) may next = by may.0 may.1 may.2
      where
        by : (stop : Stop) → step t a.course ≡ Stops stop → Serves t p a (Asks look) stop → Fed (moved t (Asks look) a)
        by (Wants (Reserve ask k)) e s = asks look ask k e s.0 s.1
        by (Wants (Lets_go charge)) e s = absurd s
        by (Wants (Emit event)) e s = absurd s
        by (Wants Rest) e s = absurd s
        by Fills e s = absurd s
        by Rests e s = absurd s
        by Finishes e s = absurd s
    moves (Frees free) may next = by may.0 may.1 may.2
      where
        by : (stop : Stop) → step t a.course ≡ Stops stop → Serves t p a (Frees free) stop → Fed (moved t (Frees free) a)
        by (Wants (Lets_go charge)) e s = frees free charge e s.0
        by (Wants (Reserve ask k)) e s = absurd s
        by (Wants (Emit event)) e s = absurd s
        by (Wants Rest) e s = absurd s
        by Fills e s = absurd s
        by Rests e s = absurd s
        by Finishes e s = absurd s
    moves (Emits given) may next = by may.0 may.1 may.2
      where
        by : (stop : Stop) → step t a.course ≡ Stops stop → Serves t p a (Emits given) stop → Fed (moved t (Emits given) a)
        by (Wants (Emit event)) e s = emits given event e
        by (Wants (Lets_go charge)) e s = absurd s
        by (Wants (Reserve ask k)) e s = absurd s
        by (Wants Rest) e s = absurd s
        by Fills e s = absurd s
        by Rests e s = absurd s
        by Finishes e s = absurd s
    moves (TakesBack reply) may next = let is = next reply may.0 may.1 in takes_back reply may.0 is.0 is.1

-- The first answer is stated, since events wait in order.
pub stated_first : (t : Terms) (handler : Handler) (a : AtCore) (hand : List Given) → Queued t a.course (map (λ r. r.given) a.answers ++ hand ++ a.events) → Each (IsReply handler) a.answers
    → (reply : Reply) → a.course.under ≡ None → IsFirst reply a.answers
    → IsNext t handler a.course reply × ((c : Convo) → find_convo reply.given.conv (core_of t a.course).convos ≡ Some c → reply.advice ≡ handler reply.given.conv (seen_of c.first reply.given.event))
stated_first t handler a hand q replies reply none first =
    let parts : map (λ r. r.given) a.answers ++ hand ++ a.events ≡ reply.given ∷ (map (λ r. r.given) (drop 1 a.answers) ++ hand ++ a.events) =
    ap (λ (l : List Reply). map (λ r. r.given) l ++ hand ++ a.events) (first_of reply a.answers first) in
    let queue = subst (λ (l : List Given). Queued t a.course l) parts q in
    let fine : IsReply handler reply = (subst (Each (IsReply handler)) (first_of reply a.answers first) replies).0 in
    (is_next t handler a.course reply (map (λ r. r.given) (drop 1 a.answers) ++ hand ++ a.events) none queue fine, λ c e. shown c e (queue.seen.0) fine)
  where
    shown : (c : Convo) → find_convo reply.given.conv (core_of t a.course).convos ≡ Some c → IsSeen (convos_with (core_of t a.course) a.course.under) reply.given → IsReply handler reply
        → reply.advice ≡ handler reply.given.conv (seen_of c.first reply.given.event)
    shown c e seen fine =
        let here : IsSeen (core_of t a.course).convos reply.given = rw none at seen in
        let both : Some here.0 ≡ Some c = sym here.1 ∙ e in
        let same : here.0 ≡ c = cc in
        fine.advice ∙ ap (handler reply.given.conv) (here.2 ∙ ap (λ (d : Convo). seen_of d.first reply.given.event) same)

-- A step of the machine
module _ (s : Setup) (m n : Moment) (order : InOrder s m) (fed : AreFed s m) where
  same_course : (c : ℕ) (a : AtCore) (events : List Given) (answers : List Reply) → IsFed s.terms s.last (handler_of s c) a → IsFed s.terms s.last (handler_of s c) (record { inputs = a.inputs; course = a.course; events = events; answers = answers })
  same_course c a events answers h = record { sound = h.sound; inputs = h.inputs; until = h.until }

  core_fed : (c : ℕ) (back : Bool) → MovesCore s c back m n → AreFed s n
  core_fed c back h =
      at_each (λ d a. IsFed s.terms s.last (handler_of s d) a) m.cores n.cores c h.before h.after h.is_it h.cores
      (settles s.terms s.last (handler_of s c) (moved s.terms h.move h.before) h.after h.steps.settles.0 h.steps.settles.1 h.steps.settles.2 h.steps.settles.3
      (moves s.terms s.last (handler_of s c) m.pair [] h.before (fed c h.before h.is_it) h.move h.steps.may
      (stated_first s.terms (handler_of s c) h.before _ (order.waits c h.before h.is_it) (order.replies c h.before h.is_it))))
      (λ d a other there. fed d a there)

  worker_fed : (w : ℕ) → TakesOne s w m n ⊎ GivesOne s w m n ⊎ AnswersOne s w m n → AreFed s n
  worker_fed w (inl h) =
      at_each (λ d a. IsFed s.terms s.last (handler_of s d) a) m.cores n.cores h.core h.at (record h.at { events = drop 1 h.at.events }) h.is_core h.cores
      (same_course h.core h.at (drop 1 h.at.events) h.at.answers (fed h.core h.at h.is_core)) (λ d a other there. fed d a there)
  worker_fed w (inr (inl h)) = λ c a there. fed c a (subst (λ (l : List AtCore). slice_get l c ≡ Some a) h.cores there)
  worker_fed w (inr (inr h)) =
      at_each (λ d a. IsFed s.terms s.last (handler_of s d) a) m.cores n.cores h.hand.core h.at _ h.is_core h.cores
      (same_course h.hand.core h.at h.at.events _ (fed h.hand.core h.at h.is_core)) (λ d a other there. fed d a there)

  pub stays_fed : (actor : Actor) → Steps s actor m n → AreFed s n
  stays_fed (actors.Core c) h = core_fed c false h
  stays_fed (actors.Back c) h = core_fed c true h
  stays_fed (actors.Work w) h = worker_fed w h
