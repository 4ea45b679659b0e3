-- Each step of the machine keeps what was given back in order: a free has the stamp of the present pair, which is above its charge
-- and above each earlier free.
use Rattle.std.proofs.Common.{◌≡◌, ℕ, suc, ◌≤◌, ◌<◌, inl, inr, Bool, true, false, cond, List, [], ◌∷◌, ◌++◌, Option, Some, None, refl, ap, sym, ◌∙◌, subst, arith, append-nil, map, flat_map, drop, length, slice_get}
use Rattle.std.specs.Prelude.{◌&&◌, set}
use Rattle.std.proofs.lemmas.List.{length-append, length-map, length-set}
use Rattle.prio_budget.specs.declared.free.Free.{Free}
use Rattle.evring.specs.declared.advice.Advice.{Advice}
use Rattle.histbook.specs.declared.look_entry.LookEntry.{LookEntry}
use Rattle.histbook.specs.Budget.{BudgetMove, Release, stamp_of}
use Rattle.histbook.specs.Budget as book
use Rattle.histbook.proofs.BudgetLemmas.{stamps_inside, each_of}
use Rattle.streamdefs.specs.Lists.{Each}
use Rattle.streamdefs.specs.Terms.{Terms}
use Rattle.streamdefs.specs.Reorder.{Charge}
use Rattle.streamdefs.specs.View.{Ask}
use Rattle.streamdefs.specs.Convo.{Act, Convo, Event, released, looks_in, frees_in, given_back, answered_event, is_live, charges_of, kept_of}
use Rattle.streamdefs.specs.Convo.Act.{Seg, Answer, Time, End}
use Rattle.streamdefs.specs.Convo.Event.{New, Chunk, Ended}
use Rattle.streamdefs.specs.Want.{want, with_look, with_free}
use Rattle.streamdefs.specs.Want.Want.{Reserve, Release as Lets_go, Emit, Rest}
use Rattle.streamdefs.specs.Core.{Line, Core, idle_core, found_by, is_answer, core_after, core_at, Along}
use Rattle.streamdefs.specs.Lawful.{Handler, handler_at}
use Rattle.streamdefs.specs.Order.{AreAboveCharges, Rise, FreesInOrder, floor_behind, floors_of, moves_of}
use Rattle.streamdefs.proofs.Histories.{found_is}
use Rattle.streamdefs.proofs.Pushes.{Along_push}
use Rattle.coretable.specs.Course.{Course, Under, Stop, step, core_of, want_of, looked, freed, emitted}
use Rattle.coretable.specs.Course.Step.{Stops}
use Rattle.coretable.specs.Course.Stop.{Wants, Fills, Rests, Finishes}
use Rattle.coretable.specs.Wanted.{IsWantedSoFar}
use Rattle.coretable.specs.Lawfully.{IsSound}
use Rattle.coretable.proofs.Wants.{released_next, asks_before_releases}
use Rattle.coretable.proofs.Soundness.{at_rest, under_way as under_way_is, found_look, found_free}
use Rattle.coretable.proofs.Answers.{next_of}
use Rattle.coretable.proofs.Entered.{each_end}
use Rattle.coretable.proofs.WantLemmas.{got_within}
use Rattle.mixrun.specs.declared.actor.Actor.{Actor}
use Rattle.mixrun.specs.declared.actor.Actor.TheVariants as actors
use Rattle.mixrun.specs.Moment.{Setup, Reply, AtCore, InHand, AtWorker, Pair, Moment}
use Rattle.mixrun.specs.Moment.Input.{Brings, Ends}
use Rattle.mixrun.specs.Moves.{CoreMove, moved, under_way, answer_line, Serves, owed_for, advice_of, reply_of, given_back as hand_with, free_at}
use Rattle.mixrun.specs.Moves.CoreMove.{Loads, Asks, Frees, Emits, TakesBack}
use Rattle.mixrun.specs.Steps.{MayMove, CoreStep, MovesCore, TakesOne, GivesOne, AnswersOne, Steps}
use Rattle.mixrun.specs.AtMoment.{lines_in, lines_at, frees_in_hand, frees_waiting, frees_at, moves_at}
use Rattle.mixrun.specs.Ledger.{IsBalanced}
use Rattle.mixrun.specs.Queue.{InOrder, IsNext, free_bytes, charge_bytes}
use Rattle.mixrun.specs.Books.{AreFed, IsFed, handler_of}
use Rattle.mixrun.specs.Freed.{AreFreesOf, IsSettled, IsSettledUnder, IsFreedReply, IsFreedHand, AreFreed, FreesRising}
use Rattle.mixrun.proofs.CoreSums.{wanting_entry, first_of, CanAsk, asks_as_entry}
use Rattle.mixrun.proofs.SilentSteps.{Going, came}
use Rattle.mixrun.proofs.SilentSteps.Going.{Completing, Beginning}
use Rattle.mixrun.proofs.CoreQueue.{at_under}
use Rattle.mixrun.proofs.BookSteps.{stated_first}
use Rattle.mixrun.proofs.LinesIn.{lines_under, lines_rest}
use Rattle.mixrun.proofs.QueueSteps.{at_each}
use Rattle.mixrun.proofs.RiseSteps.{both_parts, of_flat, at_place, each_last, all_low}

-- One free more

above_more : (charges : List Charge) (frees : List Free) (charge : Charge) (free : Free) → AreAboveCharges charges frees → slice_get charges (length frees) ≡ Some charge → charge.stamp < free.stamp
    → AreAboveCharges charges (frees ++ free ∷ [])
above_more [] [] charge free h e l = absurd cc
above_more (c ∷ cs) [] charge free h e l = let same : c ≡ charge = cc in (subst (λ (x : Charge). x.stamp < free.stamp) (sym same) l, tt)
above_more [] (f ∷ fs) charge free h e l = absurd h
above_more (c ∷ cs) (f ∷ fs) charge free h e l = (h.0, above_more cs fs charge free h.1 e l)

pub rise_more : (frees : List Free) (free : Free) → Rise frees → Each (λ f. f.stamp < free.stamp) frees → Rise (frees ++ free ∷ [])
rise_more [] free r e = tt
rise_more (f ∷ []) free r e = (e.0, tt)
rise_more (f ∷ g ∷ fs) free r e = (r.0, rise_more (g ∷ fs) free r.1 e.1)

more : (charges : List Charge) (frees : List Free) (charge : Charge) (free : Free) → AreFreesOf charges frees → slice_get charges (length frees) ≡ Some charge → charge.stamp < free.stamp
    → Each (λ f. f.stamp < free.stamp) frees → AreFreesOf charges (frees ++ free ∷ [])
more charges frees charge free h e l below = (above_more charges frees charge free h.0 e l, rise_more frees free h.1 below)

-- An entry with one look or free more, or without any

abbrev Frees_of : Terms → Convo → Act → Type 0
Frees_of t c act = AreFreesOf (released t c act) (frees_in act)

abbrev NoFrees : Act → Type 0
NoFrees (Seg p now looks frees) = frees ≡ []
NoFrees _ = Unit {0}

with_its_look : (t : Terms) (c : Convo) (act : Act) (look : LookEntry) → CanAsk act → NoFrees act → Frees_of t c act → Frees_of t c (with_look look act)
with_its_look t c (Seg p now looks frees) look can none h = subst (λ (l : List Free). AreFreesOf (released t c (Seg p now (looks ++ look ∷ []) frees)) l) (sym none) (tt, tt)
with_its_look t c (Answer event advice frees) look can none h = absurd can
with_its_look t c (Time at looks frees) look can none h = h
with_its_look t c (End at reason looks frees) look can none h = h

with_its_free : (t : Terms) (c : Convo) (act : Act) (charge : Charge) (free : Free) → slice_get (released t c act) (length (frees_in act)) ≡ Some charge → charge.stamp < free.stamp
    → Each (λ f. f.stamp < free.stamp) (frees_in act) → Frees_of t c act → Frees_of t c (with_free free act)
with_its_free t c (Seg p now looks frees) charge free e l below h = more (released t c (Seg p now looks frees)) frees charge free h e l below
with_its_free t c (Answer event advice frees) charge free e l below h = more (released t c (Answer event advice frees)) frees charge free h e l below
with_its_free t c (Time at looks frees) charge free e l below h = more (released t c (Time at looks frees)) frees charge free h e l below
with_its_free t c (End at reason looks frees) charge free e l below h = more (released t c (End at reason looks frees)) frees charge free h e l below

none_yet : (charges : List Charge) (frees : List Free) → frees ≡ [] → AreFreesOf charges frees
none_yet charges frees e = subst (λ (l : List Free). AreFreesOf charges l) (sym e) (tt, tt)

settled_look : (c : Convo) (act : Act) (look : LookEntry) → CanAsk act → IsSettled c (with_look look act)
settled_look c (Seg p now looks frees) look can = tt
settled_look c (Answer event advice frees) look can = absurd can
settled_look c (Time at looks frees) look can = tt
settled_look c (End at reason looks frees) look can = tt

settled_free : (c : Convo) (act : Act) (free : Free) → IsSettled c act → IsSettled c (with_free free act)
settled_free c (Seg p now looks frees) free h = tt
settled_free c (Answer event advice frees) free h = λ k. omega (arith, h k, length-append frees (free ∷ []))
settled_free c (Time at looks frees) free h = tt
settled_free c (End at reason looks frees) free h = tt

settled_fresh : (c : Convo) (act : Act) → is_answer act ≡ false → IsSettled c act
settled_fresh c (Seg p now looks frees) e = tt
settled_fresh c (Answer event advice frees) e = absurd cc
settled_fresh c (Time at looks frees) e = tt
settled_fresh c (End at reason looks frees) e = tt

-- An answer that is taken back

pub none_of_none : (frees : List Free) → AreAboveCharges [] frees → frees ≡ []
none_of_none [] h = refl
none_of_none (f ∷ fs) h = absurd h

above_given : (c : Convo) (advice : Advice) (event : Event) (frees : List Free) → AreAboveCharges (owed_for event advice) frees → AreAboveCharges (given_back c advice (Some event)) frees
above_given c advice New frees h = h
above_given c advice (Ended reason) frees h = h
above_given c advice (Chunk d) frees h = by advice.keep (is_live c) h
  where
    by : (keep live : Bool) → AreAboveCharges (cond keep [] (charges_of (kept_of d))) frees → AreAboveCharges (cond (live && keep) [] (charges_of (kept_of d))) frees
    by true true h = h
    by true false h = subst (λ (l : List Free). AreAboveCharges (charges_of (kept_of d)) l) (sym (none_of_none frees h)) tt
    by false true h = h
    by false false h = h

all_given : (c : Convo) (advice : Advice) (event : Event) (frees : List Free) → free_bytes frees ≡ charge_bytes (owed_for event advice) → advice.keep ≡ false
    → length (given_back c advice (Some event)) ≤ length frees
all_given c advice New frees h k = omega arith
all_given c advice (Ended reason) frees h k = omega arith
all_given c advice (Chunk d) frees h k = by advice.keep (is_live c) h k
  where
    by : (keep live : Bool) → free_bytes frees ≡ charge_bytes (cond keep [] (charges_of (kept_of d))) → keep ≡ false → length (cond (live && keep) [] (charges_of (kept_of d))) ≤ length frees
    by true live h k = absurd cc
    by false true h k = let same : length (free_bytes frees) ≡ length (charge_bytes (charges_of (kept_of d))) = ap length h in omega (arith, same, length-map frees (λ (f : Free). f.bytes), length-map (charges_of (kept_of d)) (λ (x : Charge). x.bytes))
    by false false h k = let same : length (free_bytes frees) ≡ length (charge_bytes (charges_of (kept_of d))) = ap length h in omega (arith, same, length-map frees (λ (f : Free). f.bytes), length-map (charges_of (kept_of d)) (λ (x : Charge). x.bytes))

module _ (t : Terms) (last : ℕ) (handler : Handler) (m : Course) (r : Reply) (sound : IsSound t last handler m) (none : m.under ≡ None) (next : IsNext t handler m r) where
  abbrev found : Convo
  found = found_by (core_of t m) (answer_line (core_of t m) r)

  its_event : answered_event found ≡ Some r.given.event
  its_event =
      let of = next_of t last m.number m.clock m.job (core_of t m) (record { conv = r.given.conv; event = r.given.event }) (at_rest t last handler m sound none) next.event in
      ap answered_event (found_is (core_of t m) (answer_line (core_of t m) r) of.0 of.1.found) ∙ of.1.event

  answer_in_order : IsFreedReply r → FreesInOrder t (core_of t m) (answer_line (core_of t m) r)
  answer_in_order h = (subst (λ (o : Option Event). AreAboveCharges (given_back found r.advice o) r.frees) (sym its_event) (above_given found r.advice r.given.event r.frees h.0), h.1)

  answer_settled : IsSettled found (answer_line (core_of t m) r).act
  answer_settled = λ k. subst (λ (o : Option Event). length (given_back found r.advice o) ≤ length r.frees) (sym its_event) (all_given found r.advice r.given.event r.frees next.frees k)

-- No free of an entry has reached the present stamp.
later_frees : (n : ℕ) (frees : List Free) → Each (λ floor. floor ≤ n) (map (λ free. suc free.stamp) frees) → Each (λ f. f.stamp < n) frees
later_frees n [] h = tt
later_frees n (f ∷ fs) h = (omega (arith, h.0), later_frees n fs h.1)

each_second : {A : Type 0} (P : A → Type 0) (xs ys : List A) → Each P (xs ++ ys) → Each P ys
each_second P [] ys h = h
each_second P (x ∷ xs) ys h = each_second P xs ys h.1

-- A step of a core

abbrev InTheirOrder : Terms → Course → Type 0
InTheirOrder t m = Along t (FreesInOrder t) idle_core (lines_in m)

pub split : (t : Terms) (Law : Core → Line → Type 0) (core : Core) (xs : List Line) (line : Line) → Along t Law core (xs ++ line ∷ []) → Along t Law core xs × Law (core_at t core xs) line
split t Law core [] line h = (tt, h.0)
split t Law core (x ∷ xs) line h = let rest = split t Law (core_after t core x) xs line h.1 in ((h.0, rest.0), rest.1)

pub record Both (t : Terms) (m : Course) : Type 0 where
  pub lines : InTheirOrder t m
  pub settled : IsSettledUnder t m m.under

module _ (t : Terms) where
  begins_both : (m : Course) (line : Line) → m.under ≡ None → FreesInOrder t (core_of t m) line → InTheirOrder t m → Along t (FreesInOrder t) idle_core (m.lines ++ line ∷ [])
  begins_both m line none here h = Along_push t (FreesInOrder t) idle_core m.lines line (subst (Along t (FreesInOrder t) idle_core) (lines_rest m none) h) here

  going_both : (m next : Course) → Going t m next → Both t m → Both t next
  going_both m next (Completing u under w e) h = subst (Both t) (sym e) (record {
    lines = subst (Along t (FreesInOrder t) idle_core) (lines_under m u under ∙ sym (append-nil (m.lines ++ u.line ∷ []))) h.lines;
    settled = tt;
  })
  going_both m next (Beginning line none fresh room e) h = subst (Both t) (sym e) (record {
    lines = begins_both m line none (none_yet (released t (found_by (core_of t m) line) line.act) (frees_in line.act) fresh.1) h.lines;
    settled = settled_fresh (found_by (core_of t m) line) line.act fresh.2;
  })

  changed : (m : Course) (u : Under) (line : Line) → m.under ≡ Some u → (FreesInOrder t (core_of t m) u.line → FreesInOrder t (core_of t m) line) → InTheirOrder t m
      → Along t (FreesInOrder t) idle_core (m.lines ++ line ∷ [])
  changed m u line under f h =
      let parts = split t (FreesInOrder t) idle_core m.lines u.line (subst (Along t (FreesInOrder t) idle_core) (lines_under m u under) h) in
      Along_push t (FreesInOrder t) idle_core m.lines line parts.0 (f parts.1)

  settled_of : (m : Course) (u : Under) → m.under ≡ Some u → IsSettledUnder t m m.under → IsSettled (found_by (core_of t m) u.line) u.line.act
  settled_of m u e h = subst (IsSettledUnder t m) e h

  looked_both : (m : Course) (u : Under) (look : LookEntry) → m.under ≡ Some u → CanAsk u.line.act → NoFrees u.line.act → Both t m → Both t (looked m u look)
  looked_both m u look under can none h = record {
    lines = changed m u (record { conv = u.line.conv; act = with_look look u.line.act }) under
        (λ f. subst (λ (c : Convo). Frees_of t c (with_look look u.line.act)) (found_look (core_of t m) u.line.conv look u.line.act)
        (with_its_look t (found_by (core_of t m) u.line) u.line.act look can none f)) h.lines;
    settled = settled_look (found_by (core_of t m) (record { conv = u.line.conv; act = with_look look u.line.act })) u.line.act look can;
  }

  freed_both : (m : Course) (u : Under) (charge : Charge) (free : Free) → m.under ≡ Some u → want_of t m u ≡ Lets_go charge → charge.stamp < free.stamp → Each (λ f. f.stamp < free.stamp) (frees_in u.line.act)
      → Both t m → Both t (freed m u free)
  freed_both m u charge free under w early below h = record {
    lines = changed m u (record { conv = u.line.conv; act = with_free free u.line.act }) under
        (λ f. subst (λ (c : Convo). Frees_of t c (with_free free u.line.act)) (found_free (core_of t m) u.line.conv free u.line.act)
        (with_its_free t (found_by (core_of t m) u.line) u.line.act charge free (released_next t (found_by (core_of t m) u.line) u.line.act u.emitted charge w) early below f)) h.lines;
    settled = subst (λ (c : Convo). IsSettled c (with_free free u.line.act)) (found_free (core_of t m) u.line.conv free u.line.act)
        (settled_free (found_by (core_of t m) u.line) u.line.act free (settled_of m u under h.settled));
  }

  emitted_both : (m : Course) (u : Under) → m.under ≡ Some u → Both t m → Both t (emitted m u)
  emitted_both m u under h = record { lines = changed m u u.line under (λ f. f) h.lines; settled = settled_of m u under h.settled }

  no_frees : (last : ℕ) (handler : Handler) (m : Course) (u : Under) (ask : Ask) (mark : ℕ) → IsSound t last handler m → m.under ≡ Some u → want_of t m u ≡ Reserve ask mark → NoFrees u.line.act
  no_frees last handler m u ask mark s under w = by u.line.act refl
    where
      by : (act : Act) → u.line.act ≡ act → NoFrees u.line.act
      by (Seg p now looks frees) e =
          let wanted = (under_way_is t last handler m u s under).wanted in
          subst NoFrees (sym e)
          (asks_before_releases t (found_by (core_of t m) u.line) p now looks frees u.emitted ask mark (subst (λ (a : Act). want t (found_by (core_of t m) u.line) a u.emitted ≡ Reserve ask mark) e w)
          (subst (λ (a : Act). IsWantedSoFar t (found_by (core_of t m) u.line) a) e wanted))
      by (Answer event advice frees) e = subst NoFrees (sym e) tt
      by (Time at looks frees) e = subst NoFrees (sym e) tt
      by (End at reason looks frees) e = subst NoFrees (sym e) tt

  module _ (last : ℕ) (handler : Handler) (p : Pair) (a : AtCore) (fed : IsFed t last handler a) (low : Each (λ line. Each (λ floor. floor ≤ p.stamp) (floors_of line.act)) (lines_in a.course)) (h : AreFreed t a) where
    both : Both t a.course
    both = record { lines = h.lines; settled = h.settled }

    below : (u : Under) → a.course.under ≡ Some u → Each (λ f. f.stamp < p.stamp) (frees_in u.line.act)
    below u under =
        later_frees p.stamp (frees_in u.line.act) (each_second (λ floor. floor ≤ p.stamp) (map floor_behind (looks_in u.line.act)) (map (λ free. suc free.stamp) (frees_in u.line.act))
        (each_last (λ line. Each (λ floor. floor ≤ p.stamp) (floors_of line.act)) a.course.lines u.line
        (subst (Each (λ line. Each (λ floor. floor ≤ p.stamp) (floors_of line.act))) (lines_under a.course u under) low)))

    change : (f : Course → Under → Course) (u : Under) → a.course.under ≡ Some u → Both t (f a.course u) → Both t (under_way f a.course)
    change f u under b = subst (Both t) (sym (at_under f a.course u under)) b

    moves_both : (move : CoreMove) → MayMove t p a move → ((reply : Reply) → a.course.under ≡ None → slice_get a.answers 0 ≡ Some reply → IsNext t handler a.course reply) → Both t (moved t move a).course
    moves_both (Loads (Brings q)) may next = record { lines = both.lines; settled = both.settled }
    moves_both (Loads (Ends end)) may next = record { lines = both.lines; settled = both.settled }
    moves_both (Asks look) may next = by may.0 may.1 may.2
      where
        by : (stop : Stop) → step t a.course ≡ Stops stop → Serves t p a (Asks look) stop → Both t (moved t (Asks look) a).course
        by (Wants (Reserve ask k)) e s =
            let entry = wanting_entry t a.course (Reserve ask k) e in
            let can = asks_as_entry t (found_by (core_of t a.course) entry.0.line) entry.0.line.act entry.0.emitted ask k entry.2 in
            change (λ m u. looked m u look) entry.0 entry.1 (looked_both a.course entry.0 look entry.1 can (no_frees last handler a.course entry.0 ask k fed.sound entry.1 entry.2) both)
        by (Wants (Lets_go charge)) e s = absurd s
        by (Wants (Emit event)) e s = absurd s
        by (Wants Rest) e s = absurd s
        by Fills e s = absurd s
        by Rests e s = absurd s
        by Finishes e s = absurd s
    moves_both (Frees free) may next = by may.0 may.1 may.2
      where
        by : (stop : Stop) → step t a.course ≡ Stops stop → Serves t p a (Frees free) stop → Both t (moved t (Frees free) a).course
        by (Wants (Lets_go charge)) e s =
            let entry = wanting_entry t a.course (Lets_go charge) e in
            let at : free.stamp ≡ p.stamp = ap (λ (x : Free). x.stamp) s.0 in
            change (λ m u. freed m u free) entry.0 entry.1
            (freed_both a.course entry.0 charge free entry.1 entry.2 (subst (λ (n : ℕ). charge.stamp < n) (sym at) s.2)
            (subst (λ (n : ℕ). Each (λ f. f.stamp < n) (frees_in entry.0.line.act)) (sym at) (below entry.0 entry.1)) both)
        by (Wants (Reserve ask k)) e s = absurd s
        by (Wants (Emit event)) e s = absurd s
        by (Wants Rest) e s = absurd s
        by Fills e s = absurd s
        by Rests e s = absurd s
        by Finishes e s = absurd s
    moves_both (Emits given) may next = by may.0 may.1 may.2
      where
        by : (stop : Stop) → step t a.course ≡ Stops stop → Serves t p a (Emits given) stop → Both t (moved t (Emits given) a).course
        by (Wants (Emit event)) e s =
            let entry = wanting_entry t a.course (Emit event) e in
            change emitted entry.0 entry.1 (emitted_both a.course entry.0 entry.1 both)
        by (Wants (Lets_go charge)) e s = absurd s
        by (Wants (Reserve ask k)) e s = absurd s
        by (Wants Rest) e s = absurd s
        by Fills e s = absurd s
        by Rests e s = absurd s
        by Finishes e s = absurd s
    moves_both (TakesBack reply) may next =
        let is : IsNext t handler a.course reply = next reply may.0 may.1 in
        let own : IsFreedReply reply = (subst (Each IsFreedReply) (first_of reply a.answers may.1) h.answers).0 in
        record {
          lines = begins_both a.course (answer_line (core_of t a.course) reply) may.0 (answer_in_order t last handler a.course reply fed.sound may.0 is own) both.lines;
          settled = answer_settled t last handler a.course reply fed.sound may.0 is;
        }

    answers_left : (move : CoreMove) → MayMove t p a move → Each IsFreedReply (moved t move a).answers
    answers_left (Loads (Brings q)) may = h.answers
    answers_left (Loads (Ends end)) may = h.answers
    answers_left (Asks look) may = h.answers
    answers_left (Frees free) may = h.answers
    answers_left (Emits given) may = h.answers
    answers_left (TakesBack reply) may = (subst (Each IsFreedReply) (first_of reply a.answers may.1) h.answers).1

    steps_freed : (q : Pair) (move : CoreMove) (b : AtCore) → CoreStep t move a p b q
        → ((reply : Reply) → a.course.under ≡ None → slice_get a.answers 0 ≡ Some reply → IsNext t handler a.course reply) → AreFreed t b
    steps_freed q move b s next =
        let end : Both t b.course = came t (Both t) (λ m next g h. going_both m next g h) s.settles.0 (moved t move a).course s.settles.1 b.course s.settles.2 (moves_both move s.may next) in
        record {
          lines = end.lines;
          settled = end.settled;
          answers = subst (Each IsFreedReply) (sym (ap (λ (x : AtCore). x.answers) s.settles.3)) (answers_left move s.may);
        }

-- No free of a hand has reached the present stamp.
hand_low : (s : Setup) (m : Moment) → IsBalanced s m → (w : ℕ) (x : AtWorker) (hand : InHand) → slice_get m.workers w ≡ Some x → x.hand ≡ Some hand → Each (λ f. f.stamp < m.pair.stamp) hand.frees
hand_low s m b w x hand there has = subst (Each (λ f. f.stamp < n)) own (of_moves (frees_in_hand x) (at_place _ m.workers w x there (of_flat (λ f. stamp_of (Release f) < n) frees_in_hand m.workers (first_part (flat_map frees_in_hand m.workers) (flat_map frees_waiting m.cores) freed_low))))
  where
    n : ℕ
    n = m.pair.stamp

    own : frees_in_hand x ≡ hand.frees
    own = rw (frees_in_hand, has) (append-nil hand.frees)

    inside : book.Each (λ move. stamp_of move < n) (moves_at m)
    inside = each_of _ (λ move. stamp_of move < n) (λ move h. let far = h.1 in let near : stamp_of move < n = omega (arith, b.count) in near) (moves_at m) (stamps_inside 0 (moves_at m) b.once)

    unmapped : (fs : List Free) → book.Each (λ move. stamp_of move < n) (map Release fs) → book.Each (λ f. stamp_of (Release f) < n) fs
    unmapped [] h = tt
    unmapped (f ∷ fs) h = (h.0, unmapped fs h.1)

    freed_low : book.Each (λ f. stamp_of (Release f) < n) (frees_at m)
    freed_low = unmapped (frees_at m) (both_parts (λ move. stamp_of move < n) (flat_map (λ line. moves_of line.act) (lines_at m)) (map Release (frees_at m)) inside).1

    first_part : (xs ys : List Free) → book.Each (λ f. stamp_of (Release f) < n) (xs ++ ys) → book.Each (λ f. stamp_of (Release f) < n) xs
    first_part xs ys h = (both_parts (λ f. stamp_of (Release f) < n) xs ys h).0

    of_moves : (fs : List Free) → book.Each (λ f. stamp_of (Release f) < n) fs → Each (λ f. f.stamp < n) fs
    of_moves [] h = tt
    of_moves (f ∷ fs) h = (h.0, of_moves fs h.1)

-- A step of the machine
module _ (s : Setup) (m n : Moment) (order : InOrder s m) (fed : AreFed s m) (balanced : IsBalanced s m) (h : FreesRising s m) where
  same_hands : n.workers ≡ m.workers → (w : ℕ) (x : AtWorker) (hand : InHand) → slice_get n.workers w ≡ Some x → x.hand ≡ Some hand → IsFreedHand (handler_at s.handlers w) hand
  same_hands e w x hand there has = h.hands w x hand (subst (λ (l : List AtWorker). slice_get l w ≡ Some x) e there) has

  still_known : length n.cores ≡ length m.cores → (hand : InHand) → hand.core < length m.cores → hand.core < length n.cores
  still_known same hand less = omega (arith, less, same)

  core_freed : (c : ℕ) (back : Bool) → MovesCore s c back m n → FreesRising s n
  core_freed c back k = record {
    cores = at_each (λ d a. AreFreed s.terms a) m.cores n.cores c k.before k.after k.is_it k.cores
        (steps_freed s.terms s.last (handler_of s c) m.pair k.before (fed c k.before k.is_it) (all_low s m balanced c k.before k.is_it) (h.cores c k.before k.is_it) n.pair k.move k.after k.steps
        (λ reply none first. (stated_first s.terms (handler_of s c) k.before _ (order.waits c k.before k.is_it) (order.replies c k.before k.is_it) reply none first).0))
        (λ d a other there. h.cores d a there);
    hands = same_hands k.workers;
    known = λ w x hand there has. still_known (ap (length {A = AtCore}) k.cores ∙ length-set m.cores c k.after) hand (h.known w x hand (subst (λ (l : List AtWorker). slice_get l w ≡ Some x) k.workers there) has);
  }

  one_known : (w : ℕ) (x y : AtWorker) → slice_get m.workers w ≡ Some x → n.workers ≡ set m.workers w y → length n.cores ≡ length m.cores → ((hand : InHand) → y.hand ≡ Some hand → hand.core < length m.cores)
      → (v : ℕ) (z : AtWorker) (hand : InHand) → slice_get n.workers v ≡ Some z → z.hand ≡ Some hand → hand.core < length n.cores
  one_known w x y is e same here v z hand there has =
      at_each (λ v z. (hand : InHand) → z.hand ≡ Some hand → hand.core < length n.cores) m.workers n.workers w x y is e (λ hand has. still_known same hand (here hand has))
      (λ v z other there hand has. still_known same hand (h.known v z hand there has)) v z there hand has

  -- hands, where one worker changes
  one_hand : (w : ℕ) (x y : AtWorker) → slice_get m.workers w ≡ Some x → n.workers ≡ set m.workers w y → ((hand : InHand) → y.hand ≡ Some hand → IsFreedHand (handler_at s.handlers w) hand)
      → (v : ℕ) (z : AtWorker) (hand : InHand) → slice_get n.workers v ≡ Some z → z.hand ≡ Some hand → IsFreedHand (handler_at s.handlers v) hand
  one_hand w x y is e here v z hand there has =
      at_each (λ v z. (hand : InHand) → z.hand ≡ Some hand → IsFreedHand (handler_at s.handlers v) hand) m.workers n.workers w x y is e here
      (λ v z other there hand has. h.hands v z hand there has) v z there hand has

  takes : (w : ℕ) → TakesOne s w m n → FreesRising s n
  takes w k = record {
    cores = at_each (λ d a. AreFreed s.terms a) m.cores n.cores k.core k.at (record k.at { events = drop 1 k.at.events }) k.is_core k.cores
        (let was = h.cores k.core k.at k.is_core in record { lines = was.lines; settled = was.settled; answers = was.answers }) (λ d a other there. h.cores d a there);
    hands = one_hand w k.worker (record k.worker { hand = Some (record { core = k.core; given = k.given; advice = None; frees = [] }) }) k.is_it k.workers
        (λ hand e. let same : record { core = k.core; given = k.given; advice = None; frees = [] } ≡ hand = cc in subst (IsFreedHand (handler_at s.handlers w)) same (tt, tt));
    known = one_known w k.worker (record k.worker { hand = Some (record { core = k.core; given = k.given; advice = None; frees = [] }) }) k.is_it k.workers (ap (length {A = AtCore}) k.cores ∙ length-set m.cores k.core _)
        (λ hand e. let same : record { core = k.core; given = k.given; advice = None; frees = [] } ≡ hand = cc in subst (λ (x : InHand). x.core < length m.cores) same (got_within m.cores k.core k.at k.is_core));
  }

  gives : (w : ℕ) → GivesOne s w m n → FreesRising s n
  gives w k = record {
    cores = λ c a there. h.cores c a (subst (λ (l : List AtCore). slice_get l c ≡ Some a) k.cores there);
    hands = one_hand w k.worker (record k.worker { hand = Some new }) k.is_it k.workers
        (λ hand e. let same : new ≡ hand = cc in subst (IsFreedHand handler) same
        (more (owed_for k.hand.given.event (advice_of handler k.hand)) k.hand.frees k.charge (free_at m.pair k.charge) (h.hands w k.worker k.hand k.is_it k.has) k.next k.early
        (hand_low s m balanced w k.worker k.hand k.is_it k.has)));
    known = one_known w k.worker (record k.worker { hand = Some new }) k.is_it k.workers (ap (length {A = AtCore}) k.cores)
        (λ hand e. let same : new ≡ hand = cc in subst (λ (x : InHand). x.core < length m.cores) same (h.known w k.worker k.hand k.is_it k.has));
  }
    where
      handler : Handler
      handler = handler_at s.handlers w

      new : InHand
      new = hand_with handler (free_at m.pair k.charge) k.hand

  answers : (w : ℕ) → AnswersOne s w m n → FreesRising s n
  answers w k = record {
    cores = at_each (λ d a. AreFreed s.terms a) m.cores n.cores k.hand.core k.at (record k.at { answers = k.at.answers ++ reply_of handler k.hand ∷ [] }) k.is_core k.cores
        (let was = h.cores k.hand.core k.at k.is_core in record { lines = was.lines; settled = was.settled; answers = each_end IsFreedReply k.at.answers (reply_of handler k.hand) was.answers (h.hands w k.worker k.hand k.is_it k.has) })
        (λ d a other there. h.cores d a there);
    hands = one_hand w k.worker (record { hand = None; served = k.worker.served ++ k.hand.core ∷ [] }) k.is_it k.workers (λ hand e. absurd cc);
    known = one_known w k.worker (record { hand = None; served = k.worker.served ++ k.hand.core ∷ [] }) k.is_it k.workers (ap (length {A = AtCore}) k.cores ∙ length-set m.cores k.hand.core _) (λ hand e. absurd cc);
  }
    where
      handler : Handler
      handler = handler_at s.handlers w

  pub stays_freed : (actor : Actor) → Steps s actor m n → FreesRising s n
  stays_freed (actors.Core c) k = core_freed c false k
  stays_freed (actors.Back c) k = core_freed c true k
  stays_freed (actors.Work w) (inl k) = takes w k
  stays_freed (actors.Work w) (inr (inl k)) = gives w k
  stays_freed (actors.Work w) (inr (inr k)) = answers w k
