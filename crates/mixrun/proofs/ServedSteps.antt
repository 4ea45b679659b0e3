-- Each step of the machine keeps the frees of each worker rising along its list.
use Rattle.std.proofs.Common.{◌≡◌, ℕ, zero, suc, ◌+◌, ◌%◌, ◌≤◌, ◌<◌, inl, inr, ◌==◌, Bool, true, false, cond, List, [], ◌∷◌, ◌++◌, Option, Some, None, refl, ap, sym, ◌∙◌, subst, arith, append-nil, map, drop, length, slice_get}
use Rattle.std.specs.Prelude.{set}
use Rattle.std.proofs.lemmas.List.{length-append, length-map, map-append}
use Rattle.std.proofs.lemmas.Bool.Decides.{nat_tests}
use mathlib.Core.List.{append_assoc}
use Rattle.prio_budget.specs.declared.free.Free.{Free}
use Rattle.histbook.specs.declared.look_entry.LookEntry.{LookEntry}
use Rattle.streamdefs.specs.Lists.{Each, how_many, or_nothing}
use Rattle.streamdefs.specs.Terms.{Terms}
use Rattle.streamdefs.specs.Reorder.{Charge}
use Rattle.streamdefs.specs.Convo.{Act, Convo, Event, released, frees_in, given_back, answered_event, charges_of, kept_of}
use Rattle.streamdefs.specs.Convo.Act.{Seg, Answer, Time, End}
use Rattle.streamdefs.specs.Convo.Event.{New, Chunk, Ended}
use Rattle.streamdefs.specs.Want.{with_look, with_free}
use Rattle.streamdefs.specs.Want.Want.{Reserve, Release as Lets_go, Emit, Rest}
use Rattle.streamdefs.specs.Core.{Line, Core, found_by, is_answer, core_after, core_at, idle_core}
use Rattle.streamdefs.specs.Lawful.{handler_at}
use Rattle.streamdefs.specs.Order.{AreAboveCharges, Rise, frees_of_answers, nth, along_served}
use Rattle.coretable.specs.Course.{Course, Under, Stop, step, core_of, looked, freed, emitted}
use Rattle.coretable.specs.Course.Step.{Stops}
use Rattle.coretable.specs.Course.Stop.{Wants, Fills, Rests, Finishes}
use Rattle.coretable.proofs.Wants.{released_next}
use Rattle.coretable.proofs.WantLemmas.{got_within}
use Rattle.mixrun.specs.declared.actor.Actor.{Actor}
use Rattle.mixrun.specs.declared.actor.Actor.TheVariants as actors
use Rattle.mixrun.specs.Moment.{Setup, Reply, AtCore, AtWorker, Pair, Moment}
use Rattle.mixrun.specs.Moment.Input.{Brings, Ends}
use Rattle.mixrun.specs.Moves.{CoreMove, moved, pair_behind, under_way, answer_line, Serves, owed_for, reply_of, given_back as hand_with, free_at}
use Rattle.mixrun.specs.Moves.CoreMove.{Loads, Asks, Frees, Emits, TakesBack}
use Rattle.mixrun.specs.Steps.{MayMove, CoreStep, MovesCore, TakesOne, GivesOne, AnswersOne, Steps}
use Rattle.mixrun.specs.AtMoment.{lines_in, frees_in_hand}
use Rattle.mixrun.specs.AtEnd.{AreCounted}
use Rattle.mixrun.specs.Queue.{InOrder, answered_by, answers_under}
use Rattle.mixrun.specs.Freed.{IsSettled, IsSettledUnder, IsFreedReply, AreFreed, FreesRising}
use Rattle.mixrun.specs.Served.{frees_done, answers_at, frees_along, RisesAlong, WorkersRising}
use Rattle.mixrun.proofs.CoreSums.{wanting_entry, first_of}
use Rattle.mixrun.proofs.SilentSteps.{Going, came}
use Rattle.mixrun.proofs.SilentSteps.Going.{Completing, Beginning}
use Rattle.mixrun.proofs.CoreQueue.{at_under}
use Rattle.mixrun.proofs.QueueSteps.{at_each}
use Rattle.mixrun.proofs.LinesIn.{lines_under, lines_rest}
use Rattle.mixrun.proofs.FreeSteps.{rise_more, none_of_none}

-- What the workers freed for the answers of a book

abbrev done_of : Act → List (List Free)
done_of (Answer event advice frees) = cond advice.keep [] frees ∷ []
done_of _ = []

pub done_joined : (xs ys : List Line) → frees_of_answers (xs ++ ys) ≡ frees_of_answers xs ++ frees_of_answers ys
done_joined [] ys = refl
done_joined (x ∷ xs) ys = ap (λ l. done_of x.act ++ l) (done_joined xs ys) ∙ sym (append_assoc (done_of x.act) (frees_of_answers xs) (frees_of_answers ys))

done_end : (xs : List Line) (line : Line) → frees_of_answers (xs ++ line ∷ []) ≡ frees_of_answers xs ++ done_of line.act
done_end xs line = done_joined xs (line ∷ []) ∙ ap (λ l. frees_of_answers xs ++ l) (append-nil (done_of line.act))

done_look : (look : LookEntry) (act : Act) → done_of (with_look look act) ≡ done_of act
done_look look (Seg p now looks frees) = refl
done_look look (Answer event advice frees) = refl
done_look look (Time at looks frees) = refl
done_look look (End at reason looks frees) = refl

done_fresh : (act : Act) → is_answer act ≡ false → done_of act ≡ []
done_fresh (Seg p now looks frees) e = refl
done_fresh (Answer event advice frees) e = absurd cc
done_fresh (Time at looks frees) e = refl
done_fresh (End at reason looks frees) e = refl

-- an answer that isn't kept frees nothing more
done_free : (t : Terms) (c : Convo) (free : Free) (act : Act) (charge : Charge) → IsSettled c act → slice_get (released t c act) (length (frees_in act)) ≡ Some charge → done_of (with_free free act) ≡ done_of act
done_free t c free (Seg p now looks frees) charge h e = refl
done_free t c free (Answer event advice frees) charge h e = by advice.keep refl
  where
    by : (b : Bool) → advice.keep ≡ b → done_of (with_free free (Answer event advice frees)) ≡ done_of (Answer event advice frees)
    by true k = (λ i. cond (k i) [] (frees ++ free ∷ []) ∷ []) ∙ sym (λ i. cond (k i) [] frees ∷ [])
    by false k = absurd (omega (arith, h k, got_within (given_back c advice (answered_event c)) (length frees) charge e))
done_free t c free (Time at looks frees) charge h e = refl
done_free t c free (End at reason looks frees) charge h e = refl

abbrev Done : Course → List (List Free)
Done m = frees_of_answers (lines_in m)

module _ (t : Terms) where
  under_done : (m : Course) (u : Under) → m.under ≡ Some u → Done m ≡ frees_of_answers m.lines ++ done_of u.line.act
  under_done m u e = ap frees_of_answers (lines_under m u e) ∙ done_end m.lines u.line

  rest_done : (m : Course) → m.under ≡ None → Done m ≡ frees_of_answers m.lines
  rest_done m e = ap frees_of_answers (lines_rest m e)

  going_done : (m next : Course) → Going t m next → Done next ≡ Done m
  going_done m next (Completing u under w e) =
      ap Done e ∙ ap frees_of_answers (append-nil (m.lines ++ u.line ∷ [])) ∙ done_end m.lines u.line ∙ sym (under_done m u under)
  going_done m next (Beginning line none fresh room e) =
      ap Done e ∙ done_end m.lines line ∙ ap (λ l. frees_of_answers m.lines ++ l) (done_fresh line.act fresh.2) ∙ append-nil (frees_of_answers m.lines) ∙ sym (rest_done m none)

  same_done : (m : Course) (u : Under) (line : Line) → m.under ≡ Some u → done_of line.act ≡ done_of u.line.act → frees_of_answers (m.lines ++ line ∷ []) ≡ Done m
  same_done m u line under e = done_end m.lines line ∙ ap (λ l. frees_of_answers m.lines ++ l) e ∙ sym (under_done m u under)

  module _ (p : Pair) (a : AtCore) (h : AreFreed t a) where
    abbrev Same : CoreMove → Type 0
    Same move = answers_at (moved t move a) ≡ answers_at a

    with_entry : (f : Course → Under → Course) (u : Under) → a.course.under ≡ Some u → Done (f a.course u) ≡ Done a.course → frees_of_answers (lines_in (under_way f a.course)) ++ map frees_done a.answers ≡ answers_at a
    with_entry f u under e = ap (λ (l : List (List Free)). l ++ map frees_done a.answers) (ap Done (at_under f a.course u under) ∙ e)

    same : (move : CoreMove) → MayMove t p a move → Same move
    same (Loads (Brings q)) may = refl
    same (Loads (Ends end)) may = refl
    same (Asks look) may = by may.0 may.1 may.2
      where
        by : (stop : Stop) → step t a.course ≡ Stops stop → Serves t p a (Asks look) stop → Same (Asks look)
        by (Wants (Reserve ask k)) e s =
            let entry = wanting_entry t a.course (Reserve ask k) e in
            with_entry (λ m u. looked m u look) entry.0 entry.1
            (same_done a.course entry.0 (record { conv = entry.0.line.conv; act = with_look look entry.0.line.act }) entry.1 (done_look look entry.0.line.act))
        by (Wants (Lets_go charge)) e s = absurd s
        by (Wants (Emit event)) e s = absurd s
        by (Wants Rest) e s = absurd s
        by Fills e s = absurd s
        by Rests e s = absurd s
        by Finishes e s = absurd s
    same (Frees free) may = by may.0 may.1 may.2
      where
        by : (stop : Stop) → step t a.course ≡ Stops stop → Serves t p a (Frees free) stop → Same (Frees free)
        by (Wants (Lets_go charge)) e s =
            let entry = wanting_entry t a.course (Lets_go charge) e in
            with_entry (λ m u. freed m u free) entry.0 entry.1
            (same_done a.course entry.0 (record { conv = entry.0.line.conv; act = with_free free entry.0.line.act }) entry.1
            (done_free t (found_by (core_of t a.course) entry.0.line) free entry.0.line.act charge (subst (IsSettledUnder t a.course) entry.1 h.settled)
            (released_next t (found_by (core_of t a.course) entry.0.line) entry.0.line.act entry.0.emitted charge entry.2)))
        by (Wants (Reserve ask k)) e s = absurd s
        by (Wants (Emit event)) e s = absurd s
        by (Wants Rest) e s = absurd s
        by Fills e s = absurd s
        by Rests e s = absurd s
        by Finishes e s = absurd s
    same (Emits given) may = by may.0 may.1 may.2
      where
        by : (stop : Stop) → step t a.course ≡ Stops stop → Serves t p a (Emits given) stop → Same (Emits given)
        by (Wants (Emit event)) e s =
            let entry = wanting_entry t a.course (Emit event) e in
            with_entry emitted entry.0 entry.1 (same_done a.course entry.0 entry.0.line entry.1 refl)
        by (Wants (Lets_go charge)) e s = absurd s
        by (Wants (Reserve ask k)) e s = absurd s
        by (Wants Rest) e s = absurd s
        by Fills e s = absurd s
        by Rests e s = absurd s
        by Finishes e s = absurd s
    same (TakesBack r) may =
        ap (λ (l : List (List Free)). l ++ map frees_done (drop 1 a.answers)) (done_end a.course.lines (answer_line (core_of t a.course) r) ∙ ap (λ (l : List (List Free)). l ++ frees_done r ∷ []) (sym (rest_done a.course may.0)))
        ∙ append_assoc (Done a.course) (frees_done r ∷ []) (map frees_done (drop 1 a.answers))
        ∙ sym (ap (λ (l : List Reply). Done a.course ++ map frees_done l) (first_of r a.answers may.1))

    step_same : (q : Pair) (move : CoreMove) (b : AtCore) → CoreStep t move a p b q → answers_at b ≡ answers_at a
    step_same q move b s =
        let mid = moved t move a in
        let still : Done b.course ≡ Done mid.course =
        came t (λ (m : Course). Done m ≡ Done mid.course) (λ m next g e. going_done m next g ∙ e) s.settles.0 mid.course s.settles.1 b.course s.settles.2 refl in
        let left : b.answers ≡ mid.answers = ap (λ (x : AtCore). x.answers) s.settles.3 in
        (λ i. still i ++ map frees_done (left i)) ∙ same move s.may

-- The number of answers of a core
counted_along : (t : Terms) (core : Core) (lines : List Line) → (core_at t core lines).answered ≡ core.answered + length (frees_of_answers lines)
counted_along t core [] = omega arith
counted_along t core (line ∷ lines) = by line.act refl (counted_along t (core_after t core line) lines)
  where
    by : (act : Act) → line.act ≡ act → (core_at t (core_after t core line) lines).answered ≡ (core_after t core line).answered + length (frees_of_answers lines)
        → (core_at t (core_after t core line) lines).answered ≡ core.answered + length (done_of line.act ++ frees_of_answers lines)
    by (Seg p now looks frees) e rest =
        rest ∙ (λ i. cond (is_answer (e i)) (suc core.answered) core.answered + length (frees_of_answers lines)) ∙ sym (ap (λ (a : Act). core.answered + length (done_of a ++ frees_of_answers lines)) e)
    by (Time at looks frees) e rest =
        rest ∙ (λ i. cond (is_answer (e i)) (suc core.answered) core.answered + length (frees_of_answers lines)) ∙ sym (ap (λ (a : Act). core.answered + length (done_of a ++ frees_of_answers lines)) e)
    by (End at reason looks frees) e rest =
        rest ∙ (λ i. cond (is_answer (e i)) (suc core.answered) core.answered + length (frees_of_answers lines)) ∙ sym (ap (λ (a : Act). core.answered + length (done_of a ++ frees_of_answers lines)) e)
    by (Answer event advice frees) e rest =
        let here : (core_after t core line).answered ≡ suc core.answered = ap (λ (a : Act). cond (is_answer a) (suc core.answered) core.answered) e in
        let one : length (done_of line.act ++ frees_of_answers lines) ≡ suc (length (frees_of_answers lines)) = ap (λ (a : Act). length (done_of a ++ frees_of_answers lines)) e in
        omega (arith, rest, here, one)

one_done : (act : Act) → length (done_of act) ≡ cond (is_answer act) 1 0
one_done (Seg p now looks frees) = refl
one_done (Answer event advice frees) = refl
one_done (Time at looks frees) = refl
one_done (End at reason looks frees) = refl

pub done_count : (t : Terms) (m : Course) → length (Done m) ≡ answered_by t m
done_count t m = by m.under refl
  where
    by : (o : Option Under) → m.under ≡ o → length (Done m) ≡ answered_by t m
    by None e =
        let none : answers_under m.under ≡ 0 = ap answers_under e in
        let rest = ap length (rest_done t m e) in
        omega (arith, none, rest, counted_along t idle_core m.lines)
    by (Some u) e =
        let here : answers_under m.under ≡ cond (is_answer u.line.act) 1 0 = ap answers_under e in
        let more = ap length (under_done t m u e) in
        omega (arith, here, more, length-append (frees_of_answers m.lines) (done_of u.line.act), one_done u.line.act, counted_along t idle_core m.lines)

pub answers_count : (t : Terms) (a : AtCore) → length (answers_at a) ≡ answered_by t a.course + length a.answers
answers_count t a = omega (arith, length-append (Done a.course) (map frees_done a.answers), length-map a.answers frees_done, done_count t a.course)

-- Along a list with one more

abbrev is_it : ℕ → ℕ → Bool
is_it c k = k == c

counts_on : (c x : ℕ) (seen xs : List ℕ) → how_many (is_it c) (x ∷ seen) + how_many (is_it c) xs ≡ how_many (is_it c) seen + how_many (is_it c) (x ∷ xs)
counts_on c x seen xs = by (x == c)
  where
    by : (b : Bool) → cond b (suc (how_many (is_it c) seen)) (how_many (is_it c) seen) + how_many (is_it c) xs ≡ how_many (is_it c) seen + cond b (suc (how_many (is_it c) xs)) (how_many (is_it c) xs)
    by true = omega arith
    by false = refl

along_end : (answers : List (List (List Free))) (seen xs : List ℕ) (c : ℕ)
    → along_served answers seen (xs ++ c ∷ []) ≡ along_served answers seen xs ++ nth (nth answers c) (how_many (is_it c) seen + how_many (is_it c) xs)
along_end answers seen [] c =
    let same : how_many (is_it c) seen ≡ how_many (is_it c) seen + 0 = omega arith in
    append-nil (nth (nth answers c) (how_many (is_it c) seen)) ∙ ap (nth (nth answers c)) same
along_end answers seen (x ∷ xs) c =
    ap (λ l. nth (nth answers x) (how_many (is_it x) seen) ++ l) (along_end answers (x ∷ seen) xs c)
    ∙ sym (append_assoc (nth (nth answers x) (how_many (is_it x) seen)) (along_served answers (x ∷ seen) xs) _)
    ∙ ap (λ k. (nth (nth answers x) (how_many (is_it x) seen) ++ along_served answers (x ∷ seen) xs) ++ nth (nth answers c) k) (counts_on c x seen xs)

module _ {X : Type 0} where
  nth_front : (ys : List (List X)) (d : List X) (k : ℕ) → k < length ys → nth (ys ++ d ∷ []) k ≡ nth ys k
  nth_front [] d k h = absurd (omega arith)
  nth_front (y ∷ ys) d zero h = refl
  nth_front (y ∷ ys) d (suc k) h = nth_front ys d k (omega arith)

  nth_end : (ys : List (List X)) (d : List X) → nth (ys ++ d ∷ []) (length ys) ≡ d
  nth_end [] d = refl
  nth_end (y ∷ ys) d = nth_end ys d

  nth_set : (xs : List (List X)) (i : ℕ) (x y : List X) → slice_get xs i ≡ Some x → nth (set xs i y) i ≡ y
  nth_set [] i x y e = absurd cc
  nth_set (z ∷ xs) zero x y e = refl
  nth_set (z ∷ xs) (suc i) x y e = nth_set xs i x y e

  nth_got : (xs : List (List X)) (i : ℕ) (x : List X) → slice_get xs i ≡ Some x → nth xs i ≡ x
  nth_got xs i x e = ap or_nothing e

  nth_other : (xs : List (List X)) (i j : ℕ) (y : List X) → (j == i) ≡ false → nth (set xs i y) j ≡ nth xs j
  nth_other [] i j y e = refl
  nth_other (z ∷ xs) zero zero y e = absurd cc
  nth_other (z ∷ xs) zero (suc j) y e = refl
  nth_other (z ∷ xs) (suc i) zero y e = refl
  nth_other (z ∷ xs) (suc i) (suc j) y e = nth_other xs i j y (differ i j e)
    where
      differ : (i j : ℕ) → (suc j == suc i) ≡ false → (j == i) ≡ false
      differ i j e = grind (arith, nat_tests)

same_number : (a b : ℕ) → (a == b) ≡ true → a ≡ b
same_number a b h = grind (arith, nat_tests)

-- a core with one answer more leaves what stands along a list that has no more mentions of it than it had answers
along_same : (answers : List (List (List Free))) (c : ℕ) (own : List (List Free)) (d : List Free) → slice_get answers c ≡ Some own
    → (seen xs : List ℕ) → how_many (is_it c) seen + how_many (is_it c) xs ≤ length own → along_served (set answers c (own ++ d ∷ [])) seen xs ≡ along_served answers seen xs
along_same answers c own d here seen [] h = refl
along_same answers c own d here seen (x ∷ xs) h =
    (λ i. first (x == c) refl i ++ along_same answers c own d here (x ∷ seen) xs (omega (arith, h, counts_on c x seen xs)) i)
  where
    few : (b : Bool) → (x == c) ≡ b → b ≡ true → how_many (is_it c) seen < length own
    few true e k = let one : how_many (is_it c) (x ∷ xs) ≡ suc (how_many (is_it c) xs) = ap (λ b. cond b (suc (how_many (is_it c) xs)) (how_many (is_it c) xs)) e in omega (arith, h, one)
    few false e k = absurd cc

    first : (b : Bool) → (x == c) ≡ b → nth (nth (set answers c (own ++ d ∷ [])) x) (how_many (is_it x) seen) ≡ nth (nth answers x) (how_many (is_it x) seen)
    first true e =
        let same : x ≡ c = same_number x c e in
        (λ i. nth (nth (set answers c (own ++ d ∷ [])) (same i)) (how_many (is_it (same i)) seen))
        ∙ ap (λ (l : List (List Free)). nth l (how_many (is_it c) seen)) (nth_set answers c own (own ++ d ∷ []) here)
        ∙ nth_front own d (how_many (is_it c) seen) (few true e refl)
        ∙ ap (λ (l : List (List Free)). nth l (how_many (is_it c) seen)) (sym (nth_got answers c own here))
        ∙ sym (λ i. nth (nth answers (same i)) (how_many (is_it (same i)) seen))
    first false e = ap (λ (l : List (List Free)). nth l (how_many (is_it x) seen)) (nth_other answers c x (own ++ d ∷ []) e)

-- Lists that are mapped

module _ {A B : Type 0} (f : A → B) where
  map_set : (xs : List A) (i : ℕ) (y : A) → map f (set xs i y) ≡ set (map f xs) i (f y)
  map_set [] i y = refl
  map_set (x ∷ xs) zero y = refl
  map_set (x ∷ xs) (suc i) y = ap (λ l. f x ∷ l) (map_set xs i y)

  pub map_still : (xs : List A) (i : ℕ) (x y : A) → slice_get xs i ≡ Some x → f y ≡ f x → map f (set xs i y) ≡ map f xs
  map_still [] i x y e s = absurd cc
  map_still (z ∷ xs) zero x y e s = let same : z ≡ x = cc in ap (λ b. b ∷ map f xs) (s ∙ ap f (sym same))
  map_still (z ∷ xs) (suc i) x y e s = ap (λ l. f z ∷ l) (map_still xs i x y e s)

  map_got : (xs : List A) (i : ℕ) (x : A) → slice_get xs i ≡ Some x → slice_get (map f xs) i ≡ Some (f x)
  map_got [] i x e = absurd cc
  map_got (z ∷ xs) zero x e = let same : z ≡ x = cc in ap (λ y. Some (f y)) same
  map_got (z ∷ xs) (suc i) x e = map_got xs i x e

-- Frees of a worker

each_later : (n k : ℕ) (fs : List Free) → n ≤ k → Each (λ f. f.stamp < n) fs → Each (λ f. f.stamp < k) fs
each_later n k [] h e = tt
each_later n k (f ∷ fs) h e = (omega (arith, e.0, h), each_later n k fs h e.1)

later : (answers : List (List (List Free))) (n k : ℕ) (x : AtWorker) → n ≤ k → RisesAlong answers n x → RisesAlong answers k x
later answers n k x h r = record { rises = r.rises; below = each_later n k (frees_along answers x) h r.below }

-- only the frees along its list and in its hand count
with_frees : (answers answers' : List (List (List Free))) (n : ℕ) (x y : AtWorker) → frees_along answers' y ≡ frees_along answers x → RisesAlong answers n x → RisesAlong answers' n y
with_frees answers answers' n x y e r = record {
  rises = subst Rise (sym e) r.rises;
  below = subst (Each (λ f. f.stamp < n)) (sym e) r.below;
}

stamp_rises : (move : CoreMove) (p : Pair) → p.stamp ≤ (pair_behind move p).stamp
stamp_rises (Loads input) p = omega arith
stamp_rises (Asks look) p = by look.granted
  where
    by : (b : Bool) → p.stamp ≤ (cond b (record { stamp = suc p.stamp; used = p.used + look.asked }) p).stamp
    by true = omega arith
    by false = omega arith
stamp_rises (Frees free) p = omega arith
stamp_rises (Emits given) p = omega arith
stamp_rises (TakesBack r) p = omega arith

either_none : (b : Bool) (frees : List Free) → frees ≡ [] → cond b [] frees ≡ frees
either_none true frees e = sym e
either_none false frees e = refl

pub all_done : (r : Reply) → IsFreedReply r → frees_done r ≡ r.frees
all_done r h = by r.given.event refl
  where
    of_chunk : (charges : List Charge) (b : Bool) → AreAboveCharges (cond b [] charges) r.frees → cond b [] r.frees ≡ r.frees
    of_chunk charges true a = sym (none_of_none r.frees a)
    of_chunk charges false a = refl

    by : (e : Event) → r.given.event ≡ e → frees_done r ≡ r.frees
    by New e = either_none r.advice.keep r.frees (none_of_none r.frees (subst (λ (x : Event). AreAboveCharges (owed_for x r.advice) r.frees) e h.0))
    by (Ended reason) e = either_none r.advice.keep r.frees (none_of_none r.frees (subst (λ (x : Event). AreAboveCharges (owed_for x r.advice) r.frees) e h.0))
    by (Chunk d) e = of_chunk (charges_of (kept_of d)) r.advice.keep (subst (λ (x : Event). AreAboveCharges (owed_for x r.advice) r.frees) e h.0)

-- A step of the machine
module _ (s : Setup) (m n : Moment) (order : InOrder s m) (counted : AreCounted s m) (freed_so : FreesRising s m) (h : WorkersRising m) where
  all_later : map answers_at n.cores ≡ map answers_at m.cores → m.pair.stamp ≤ n.pair.stamp → n.workers ≡ m.workers → WorkersRising n
  all_later same up workers w x there =
      subst (λ (l : List (List (List Free))). RisesAlong l n.pair.stamp x) (sym same)
      (later (map answers_at m.cores) m.pair.stamp n.pair.stamp x up (h w x (subst (λ (l : List AtWorker). slice_get l w ≡ Some x) workers there)))

  core_serves : (c : ℕ) (back : Bool) → MovesCore s c back m n → WorkersRising n
  core_serves c back k =
      all_later
      (ap (map answers_at) k.cores ∙ map_still answers_at m.cores c k.before k.after k.is_it (step_same s.terms m.pair k.before (freed_so.cores c k.before k.is_it) n.pair k.move k.after k.steps))
      (subst (λ (q : Pair). m.pair.stamp ≤ q.stamp) (sym k.steps.pair) (stamp_rises k.move m.pair)) k.workers

  takes : (w : ℕ) → TakesOne s w m n → WorkersRising n
  takes w k =
      at_each (λ v x. RisesAlong (map answers_at n.cores) n.pair.stamp x) m.workers n.workers w k.worker _ k.is_it k.workers
      (moved_on k.worker _ (ap (λ l. along_served (map answers_at m.cores) [] k.worker.served ++ l) (sym (no_hand k.worker k.empty))) (h w k.worker k.is_it))
      (λ v x other there. moved_on x x refl (h v x there))
    where
      same : map answers_at n.cores ≡ map answers_at m.cores
      same = ap (map answers_at) k.cores ∙ map_still answers_at m.cores k.core k.at (record k.at { events = drop 1 k.at.events }) k.is_core refl

      no_hand : (x : AtWorker) → x.hand ≡ None → frees_in_hand x ≡ []
      no_hand x e = rw (frees_in_hand, e) refl

      moved_on : (x y : AtWorker) → frees_along (map answers_at m.cores) y ≡ frees_along (map answers_at m.cores) x → RisesAlong (map answers_at m.cores) m.pair.stamp x → RisesAlong (map answers_at n.cores) n.pair.stamp y
      moved_on x y e r =
          subst (λ (q : Pair). RisesAlong (map answers_at n.cores) q.stamp y) (sym k.pair)
          (subst (λ (l : List (List (List Free))). RisesAlong l m.pair.stamp y) (sym same) (with_frees (map answers_at m.cores) (map answers_at m.cores) m.pair.stamp x y e r))

  gives : (w : ℕ) → GivesOne s w m n → WorkersRising n
  gives w k =
      at_each (λ v x. RisesAlong (map answers_at n.cores) n.pair.stamp x) m.workers n.workers w k.worker worker k.is_it k.workers
      (behind worker (record { rises = subst Rise (sym now) (rise_more before free risen low); below = subst (Each (λ f. f.stamp < suc m.pair.stamp)) (sym now) (each_end before free (each_later m.pair.stamp (suc m.pair.stamp) before (omega arith) low)) }))
      (λ v x other there. behind x (later answers m.pair.stamp (suc m.pair.stamp) x (omega arith) (h v x there)))
    where
      answers : List (List (List Free))
      answers = map answers_at m.cores

      free : Free
      free = free_at m.pair k.charge

      worker : AtWorker
      worker = record k.worker { hand = Some (hand_with (handler_at s.handlers w) free k.hand) }

      before : List Free
      before = along_served answers [] k.worker.served ++ k.hand.frees

      in_hand : (x : AtWorker) → x.hand ≡ Some k.hand → frees_in_hand x ≡ k.hand.frees
      in_hand x e = rw (frees_in_hand, e) (append-nil k.hand.frees)

      is : frees_along answers k.worker ≡ before
      is = ap (λ l. along_served answers [] k.worker.served ++ l) (in_hand k.worker k.has)

      risen : Rise before
      risen = subst Rise is (h w k.worker k.is_it).rises

      low : Each (λ f. f.stamp < m.pair.stamp) before
      low = subst (Each (λ f. f.stamp < m.pair.stamp)) is (h w k.worker k.is_it).below

      now : frees_along answers worker ≡ before ++ free ∷ []
      now = ap (λ l. along_served answers [] k.worker.served ++ l) (append-nil (k.hand.frees ++ free ∷ [])) ∙ sym (append_assoc (along_served answers [] k.worker.served) k.hand.frees (free ∷ []))

      each_end : (fs : List Free) (f : Free) → Each (λ g. g.stamp < suc m.pair.stamp) fs → Each (λ g. g.stamp < suc m.pair.stamp) (fs ++ free ∷ [])
      each_end [] f e = (omega arith, tt)
      each_end (g ∷ fs) f e = (e.0, each_end fs f e.1)

      behind : (x : AtWorker) → RisesAlong answers (suc m.pair.stamp) x → RisesAlong (map answers_at n.cores) n.pair.stamp x
      behind x r =
          subst (λ (q : Pair). RisesAlong (map answers_at n.cores) q.stamp x) (sym k.pair)
          (subst (λ (l : List AtCore). RisesAlong (map answers_at l) (suc m.pair.stamp) x) (sym k.cores) r)

  answers : (w : ℕ) → AnswersOne s w m n → WorkersRising n
  answers w k =
      at_each (λ v x. RisesAlong (map answers_at n.cores) n.pair.stamp x) m.workers n.workers w k.worker worker k.is_it k.workers
      (behind worker (with_frees before after m.pair.stamp k.worker worker now (h w k.worker k.is_it)))
      (λ v x other there. behind x (with_frees before after m.pair.stamp x x (ap (λ l. l ++ frees_in_hand x) (still x.served (foreign v x other there))) (h v x there)))
    where
      core : ℕ
      core = k.hand.core

      reply : Reply
      reply = reply_of (handler_at s.handlers w) k.hand

      own : List (List Free)
      own = answers_at k.at

      before : List (List (List Free))
      before = map answers_at m.cores

      after : List (List (List Free))
      after = set before core (own ++ frees_done reply ∷ [])

      worker : AtWorker
      worker = record { hand = None; served = k.worker.served ++ core ∷ [] }

      here : slice_get before core ≡ Some own
      here = map_got answers_at m.cores core k.at k.is_core

      changed : map answers_at n.cores ≡ after
      changed =
          ap (map answers_at) k.cores ∙ map_set answers_at m.cores core (record k.at { answers = k.at.answers ++ reply ∷ [] })
          ∙ ap (λ (l : List (List Free)). set before core l) (ap (λ (l : List (List Free)). frees_of_answers (lines_in k.at.course) ++ l) (map-append frees_done k.at.answers (reply ∷ []))
          ∙ sym (append_assoc (frees_of_answers (lines_in k.at.course)) (map frees_done k.at.answers) (frees_done reply ∷ [])))

      behind : (x : AtWorker) → RisesAlong after m.pair.stamp x → RisesAlong (map answers_at n.cores) n.pair.stamp x
      behind x r =
          subst (λ (q : Pair). RisesAlong (map answers_at n.cores) q.stamp x) (sym k.pair)
          (subst (λ (l : List (List (List Free))). RisesAlong l m.pair.stamp x) (sym changed) r)

      still : (xs : List ℕ) → how_many (is_it core) xs ≤ length own → along_served after [] xs ≡ along_served before [] xs
      still xs few = along_same before core own (frees_done reply) here [] xs (omega (arith, few))

      same_core : (c : ℕ) → (c == c) ≡ true
      same_core c = grind (arith, nat_tests)

      is_own : ((core % length s.handlers) == w) ≡ true
      is_own = ap (λ (x : ℕ). x == w) (order.hands w k.worker k.hand k.is_it k.has).own ∙ same_core w

      many : how_many (is_it core) k.worker.served ≡ length own
      many =
          counted.counts w k.worker k.is_it core k.at k.is_core ∙ ap (λ b. cond b (answered_by s.terms k.at.course + length k.at.answers) 0) is_own
          ∙ sym (answers_count s.terms k.at)

      foreign : (v : ℕ) (x : AtWorker) → (w == v) ≡ false → slice_get m.workers v ≡ Some x → how_many (is_it core) x.served ≤ length own
      foreign v x other there =
          let not_own : ((core % length s.handlers) == v) ≡ false = ap (λ (y : ℕ). y == v) (order.hands w k.worker k.hand k.is_it k.has).own ∙ other in
          let none : how_many (is_it core) x.served ≡ 0 =
          counted.counts v x there core k.at k.is_core ∙ ap (λ b. cond b (answered_by s.terms k.at.course + length k.at.answers) 0) not_own in
          omega (arith, none)

      in_hand : (x : AtWorker) → x.hand ≡ Some k.hand → frees_in_hand x ≡ k.hand.frees
      in_hand x e = rw (frees_in_hand, e) (append-nil k.hand.frees)

      all : how_many (is_it core) [] + how_many (is_it core) k.worker.served ≡ length own
      all = omega (arith, many)

      last : nth (nth after core) (how_many (is_it core) [] + how_many (is_it core) k.worker.served) ≡ k.hand.frees
      last =
          (λ i. nth (nth_set before core own (own ++ frees_done reply ∷ []) here i) (all i)) ∙ nth_end own (frees_done reply)
          ∙ all_done reply (freed_so.hands w k.worker k.hand k.is_it k.has)

      now : frees_along after worker ≡ frees_along before k.worker
      now =
          append-nil (along_served after [] (k.worker.served ++ core ∷ [])) ∙ along_end after [] k.worker.served core
          ∙ (λ i. still k.worker.served (omega (arith, many)) i ++ last i) ∙ sym (ap (λ l. along_served before [] k.worker.served ++ l) (in_hand k.worker k.has))

  pub stays_served : (actor : Actor) → Steps s actor m n → WorkersRising n
  stays_served (actors.Core c) k = core_serves c false k
  stays_served (actors.Back c) k = core_serves c true k
  stays_served (actors.Work w) (inl k) = takes w k
  stays_served (actors.Work w) (inr (inl k)) = gives w k
  stays_served (actors.Work w) (inr (inr k)) = answers w k
