-- Each step of the machine keeps the workers' lists.
use Rattle.std.proofs.Common.{◌≡◌, ℕ, zero, suc, ◌+◌, ◌%◌, ◌<◌, ◌⊎◌, inl, inr, ◌==◌, Bool, true, false, cond, ◌&&◌, List, [], ◌∷◌, ◌++◌, Some, None, refl, ap, sym, ◌∙◌, subst, arith, map, drop, length, slice_get}
use Rattle.std.specs.Prelude.{nat_lt}
use Rattle.std.specs.List.{list_all}
use Rattle.std.proofs.lemmas.List.{length-append, length-set}
use Rattle.std.proofs.lemmas.Bool.Decides.{nat_tests}
use Rattle.streamdefs.specs.Lists.{how_many}
use Rattle.streamdefs.specs.Terms.{Terms}
use Rattle.streamdefs.specs.Lawful.{handler_at}
use Rattle.streamdefs.specs.Want.Want.{Reserve, Release as Lets_go, Emit, Rest}
use Rattle.coretable.specs.Course.{Course, Under, Stop, step, core_of, looked, freed, emitted}
use Rattle.coretable.specs.Course.Step.{Stops}
use Rattle.coretable.specs.Course.Stop.{Wants, Fills, Rests, Finishes}
use Rattle.mixrun.specs.declared.actor.Actor.{Actor}
use Rattle.mixrun.specs.declared.actor.Actor.TheVariants as actors
use Rattle.mixrun.specs.Moment.{Setup, Input, Given, Reply, AtCore, AtWorker, Pair, Moment}
use Rattle.mixrun.specs.Moment.Input.{Brings, Ends}
use Rattle.mixrun.specs.Moves.{CoreMove, moved, with_input, Serves, reply_of, taken, given_back, free_at}
use Rattle.mixrun.specs.Moves.CoreMove.{Loads, Asks, Frees, Emits, TakesBack}
use Rattle.mixrun.specs.Steps.{MayMove, CoreStep, MovesCore, TakesOne, GivesOne, AnswersOne, Steps}
use Rattle.mixrun.specs.Queue.{answered_by, Waits as Queued, InOrder}
use Rattle.mixrun.specs.AtEnd.{IsCountedAt, AreCounted}
use Rattle.mixrun.proofs.CoreSums.{wanting_entry, first_of}
use Rattle.mixrun.proofs.SilentSteps.{Going, came}
use Rattle.mixrun.proofs.SilentSteps.Going.{Completing, Beginning}
use Rattle.mixrun.proofs.CoreQueue.{at_under, looks, frees, begins, completes}
use Rattle.mixrun.proofs.QueueSteps.{at_each}

-- The number of answers of a core, those that wait among them, stays in each of its steps.

module _ (t : Terms) where
  going_counts : (m next : Course) → Going t m next → answered_by t next ≡ answered_by t m
  going_counts m next (Completing u under w e) = ap (answered_by t) e ∙ (completes t m u under w).answered
  going_counts m next (Beginning line none fresh room e) = ap (answered_by t) e ∙ (begins t m line none fresh.2).answered

  with_input_counts : (m : Course) (input : Input) → answered_by t (with_input m input) ≡ answered_by t m
  with_input_counts m (Brings p) = refl
  with_input_counts m (Ends at) = refl

  module _ (p : Pair) (a : AtCore) (hand : List Given) (w : Queued t a.course (map (λ r. r.given) a.answers ++ hand ++ a.events)) where
    abbrev Same : CoreMove → Type 0
    Same move = answered_by t (moved t move a).course + length (moved t move a).answers ≡ answered_by t a.course + length a.answers

    counted : (move : CoreMove) → MayMove t p a move → Same move
    counted (Loads input) may = ap (λ n. n + length a.answers) (with_input_counts a.course input)
    counted (Asks look) may = by may.0 may.1 may.2
      where
        by : (stop : Stop) → step t a.course ≡ Stops stop → Serves t p a (Asks look) stop → Same (Asks look)
        by (Wants (Reserve ask k)) e s =
            let entry = wanting_entry t a.course (Reserve ask k) e in
            ap (λ (m : Course). answered_by t m + length a.answers) (at_under (λ m u. looked m u look) a.course entry.0 entry.1)
            ∙ ap (λ n. n + length a.answers) (looks t a.course entry.0 ask k look entry.1 entry.2 w.emitting).answered
        by (Wants (Lets_go charge)) e s = absurd s
        by (Wants (Emit event)) e s = absurd s
        by (Wants Rest) e s = absurd s
        by Fills e s = absurd s
        by Rests e s = absurd s
        by Finishes e s = absurd s
    counted (Frees free) may = by may.0 may.1 may.2
      where
        by : (stop : Stop) → step t a.course ≡ Stops stop → Serves t p a (Frees free) stop → Same (Frees free)
        by (Wants (Lets_go charge)) e s =
            let entry = wanting_entry t a.course (Lets_go charge) e in
            ap (λ (m : Course). answered_by t m + length a.answers) (at_under (λ m u. freed m u free) a.course entry.0 entry.1)
            ∙ ap (λ n. n + length a.answers) (frees t a.course entry.0 charge free entry.1 entry.2 w.emitting).answered
        by (Wants (Reserve ask k)) e s = absurd s
        by (Wants (Emit event)) e s = absurd s
        by (Wants Rest) e s = absurd s
        by Fills e s = absurd s
        by Rests e s = absurd s
        by Finishes e s = absurd s
    counted (Emits given) may = by may.0 may.1 may.2
      where
        by : (stop : Stop) → step t a.course ≡ Stops stop → Serves t p a (Emits given) stop → Same (Emits given)
        by (Wants (Emit event)) e s =
            let entry = wanting_entry t a.course (Emit event) e in
            ap (λ (m : Course). answered_by t m + length a.answers) (at_under emitted a.course entry.0 entry.1)
            ∙ ap (λ n. n + length a.answers) (same_answers a.course entry.0 entry.1)
          where
            same_answers : (m : Course) (u : Under) → m.under ≡ Some u → answered_by t (emitted m u) ≡ answered_by t m
            same_answers m u under = rw under refl
        by (Wants (Lets_go charge)) e s = absurd s
        by (Wants (Reserve ask k)) e s = absurd s
        by (Wants Rest) e s = absurd s
        by Fills e s = absurd s
        by Rests e s = absurd s
        by Finishes e s = absurd s
    counted (TakesBack reply) may =
        let none : a.course.under ≡ None = may.0 in
        let before : answered_by t a.course ≡ (core_of t a.course).answered = rest_answers a.course none in
        let one : length a.answers ≡ suc (length (drop 1 a.answers)) = ap (length {A = Reply}) (first_of reply a.answers may.1) in
        omega (arith, before, one)
      where
        rest_answers : (m : Course) → m.under ≡ None → answered_by t m ≡ (core_of t m).answered
        rest_answers m none = rw none (omega arith)

  pub step_counts : (p q : Pair) (hand : List Given) (move : CoreMove) (a b : AtCore) → CoreStep t move a p b q → Queued t a.course (map (λ r. r.given) a.answers ++ hand ++ a.events)
      → answered_by t b.course + length b.answers ≡ answered_by t a.course + length a.answers
  step_counts p q hand move a b s w =
      let mid = moved t move a in
      let still = came t (λ (m : Course). answered_by t m ≡ answered_by t mid.course) (λ m next g e. going_counts m next g ∙ e) s.settles.0 mid.course s.settles.1 b.course s.settles.2 refl in
      let same : length b.answers ≡ length mid.answers = ap (λ (x : AtCore). length x.answers) s.settles.3 in
      omega (arith, still, same, counted p a hand w move s.may)

-- Lists with one more.

abbrev one_if : Bool → ℕ
one_if b = cond b 1 0

pub how_many_end : {A : Type 0} (test : A → Bool) (xs : List A) (y : A) → how_many test (xs ++ y ∷ []) ≡ how_many test xs + one_if (test y)
how_many_end test [] y = by (test y)
  where
    by : (b : Bool) → cond b (suc 0) 0 ≡ 0 + cond b 1 0
    by true = refl
    by false = refl
how_many_end test (x ∷ xs) y = by (test x) (how_many_end test xs y)
  where
    by : (b : Bool) → how_many test (xs ++ y ∷ []) ≡ how_many test xs + cond (test y) 1 0
        → cond b (suc (how_many test (xs ++ y ∷ []))) (how_many test (xs ++ y ∷ [])) ≡ cond b (suc (how_many test xs)) (how_many test xs) + cond (test y) 1 0
    by true h = omega arith
    by false h = h

pub both_true : (b c : Bool) → (b && c) ≡ true → (b ≡ true) × (c ≡ true)
both_true true c h = (refl, h)
both_true false c h = absurd cc

list_all_end : {A : Type 0} (test : A → Bool) (xs : List A) (y : A) → list_all test xs ≡ true → test y ≡ true → list_all test (xs ++ y ∷ []) ≡ true
list_all_end test [] y h t = rw t refl
list_all_end test (x ∷ xs) y h t =
    let parts = both_true (test x) (list_all test xs) h in
    ap (λ b. b && list_all test (xs ++ y ∷ [])) parts.0 ∙ list_all_end test xs y parts.1 t

within_list : {A : Type 0} (xs : List A) (i : ℕ) (x : A) → slice_get xs i ≡ Some x → i < length xs
within_list [] i x e = absurd cc
within_list (y ∷ xs) zero x e = omega arith
within_list (y ∷ xs) (suc i) x e = omega (arith, within_list xs i x e)

-- A step of the machine.
module _ (s : Setup) (m n : Moment) (order : InOrder s m) (counted : AreCounted s m) where
  abbrev CountedAll : ℕ → AtWorker → Type 0
  CountedAll w x = (c : ℕ) (a : AtCore) → slice_get n.cores c ≡ Some a → IsCountedAt s w x c a

  -- where the cores keep their number
  known_still : (x : AtWorker) → length n.cores ≡ length m.cores → list_all (λ c. nat_lt c (length m.cores)) x.served ≡ true → list_all (λ c. nat_lt c (length n.cores)) x.served ≡ true
  known_still x same h = ap (λ k. list_all (λ c. nat_lt c k) x.served) same ∙ h

  core_counts : (c : ℕ) (back : Bool) → MovesCore s c back m n → AreCounted s n
  core_counts c back h = record {
    counts = λ w x there.
        let was = subst (λ (l : List AtWorker). slice_get l w ≡ Some x) h.workers there in
        at_each (λ d a. IsCountedAt s w x d a) m.cores n.cores c h.before h.after h.is_it h.cores
        (counted.counts w x was c h.before h.is_it
        ∙ ap (λ k. cond ((c % length s.handlers) == w) k 0) (sym (step_counts s.terms m.pair n.pair _ h.move h.before h.after h.steps (order.waits c h.before h.is_it))))
        (λ d a other at. counted.counts w x was d a at);
    known = λ w x there. known_still x (ap (length {A = AtCore}) h.cores ∙ length-set m.cores c h.after) (counted.known w x (subst (λ (l : List AtWorker). slice_get l w ≡ Some x) h.workers there));
    workers = ap (length {A = AtWorker}) h.workers ∙ counted.workers;
  }

  takes : (w : ℕ) → TakesOne s w m n → AreCounted s n
  takes w h = record {
    counts = at_each CountedAll m.workers n.workers w h.worker (record h.worker { hand = Some (taken h.core h.given) }) h.is_it h.workers
        (cores w h.worker h.is_it) (λ v x other there. cores v x there);
    known = at_each (λ v x. list_all (λ c. nat_lt c (length n.cores)) x.served ≡ true) m.workers n.workers w h.worker (record h.worker { hand = Some (taken h.core h.given) }) h.is_it h.workers
        (known_still h.worker size (counted.known w h.worker h.is_it)) (λ v x other there. known_still x size (counted.known v x there));
    workers = ap (length {A = AtWorker}) h.workers ∙ length-set m.workers w _ ∙ counted.workers;
  }
    where
      size : length n.cores ≡ length m.cores
      size = ap (length {A = AtCore}) h.cores ∙ length-set m.cores h.core _

      cores : (v : ℕ) (x : AtWorker) → slice_get m.workers v ≡ Some x → (c : ℕ) (a : AtCore) → slice_get n.cores c ≡ Some a → IsCountedAt s v x c a
      cores v x there = at_each (λ c a. IsCountedAt s v x c a) m.cores n.cores h.core h.at (record h.at { events = drop 1 h.at.events }) h.is_core h.cores
          (counted.counts v x there h.core h.at h.is_core) (λ d a other at. counted.counts v x there d a at)

  gives : (w : ℕ) → GivesOne s w m n → AreCounted s n
  gives w h = record {
    counts = at_each CountedAll m.workers n.workers w h.worker worker h.is_it h.workers (cores w h.worker h.is_it) (λ v x other there. cores v x there);
    known = at_each (λ v x. list_all (λ c. nat_lt c (length n.cores)) x.served ≡ true) m.workers n.workers w h.worker worker h.is_it h.workers
        (known_still h.worker size (counted.known w h.worker h.is_it)) (λ v x other there. known_still x size (counted.known v x there));
    workers = ap (length {A = AtWorker}) h.workers ∙ length-set m.workers w worker ∙ counted.workers;
  }
    where
      worker : AtWorker
      worker = record h.worker { hand = Some (given_back (handler_at s.handlers w) (free_at m.pair h.charge) h.hand) }

      size : length n.cores ≡ length m.cores
      size = ap (length {A = AtCore}) h.cores

      cores : (v : ℕ) (x : AtWorker) → slice_get m.workers v ≡ Some x → (c : ℕ) (a : AtCore) → slice_get n.cores c ≡ Some a → IsCountedAt s v x c a
      cores v x there c a at = counted.counts v x there c a (subst (λ (l : List AtCore). slice_get l c ≡ Some a) h.cores at)

  answers : (w : ℕ) → AnswersOne s w m n → AreCounted s n
  answers w h = record {
    counts = at_each CountedAll m.workers n.workers w h.worker worker h.is_it h.workers
        (at_each (λ c a. IsCountedAt s w worker c a) m.cores n.cores core h.at after h.is_core h.cores
        (here (counted.counts w h.worker h.is_it core h.at h.is_core))
        (λ d a other at. elsewhere d a other (counted.counts w h.worker h.is_it d a at)))
        (λ v x other there. at_each (λ c a. IsCountedAt s v x c a) m.cores n.cores core h.at after h.is_core h.cores
        (foreign v x other (counted.counts v x there core h.at h.is_core)) (λ d a away at. counted.counts v x there d a at));
    known = at_each (λ v x. list_all (λ c. nat_lt c (length n.cores)) x.served ≡ true) m.workers n.workers w h.worker worker h.is_it h.workers
        (known_still worker size (list_all_end (λ c. nat_lt c (length m.cores)) h.worker.served core (counted.known w h.worker h.is_it) (below core (length m.cores) (within_list m.cores core h.at h.is_core))))
        (λ v x other there. known_still x size (counted.known v x there));
    workers = ap (length {A = AtWorker}) h.workers ∙ length-set m.workers w worker ∙ counted.workers;
  }
    where
      core : ℕ
      core = h.hand.core

      after : AtCore
      after = record h.at { answers = h.at.answers ++ reply_of (handler_at s.handlers w) h.hand ∷ [] }

      worker : AtWorker
      worker = record { hand = None; served = h.worker.served ++ core ∷ [] }

      size : length n.cores ≡ length m.cores
      size = ap (length {A = AtCore}) h.cores ∙ length-set m.cores core after

      below : (c k : ℕ) → c < k → nat_lt c k ≡ true
      below c k less = grind (arith, nat_tests)

      test : (c : ℕ) → (c == c) ≡ true
      test c = grind (arith, nat_tests)

      own : ((core % length s.handlers) == w) ≡ true
      own = ap (λ k. k == w) (order.hands w h.worker h.hand h.is_it h.has).own ∙ test w

      here : IsCountedAt s w h.worker core h.at → IsCountedAt s w worker core after
      here was =
          let more = how_many_end (λ k. k == core) h.worker.served core in
          let one : one_if (core == core) ≡ one_if true = ap one_if (test core) in
          let before : how_many (λ k. k == core) h.worker.served ≡ answered_by s.terms h.at.course + length h.at.answers =
          was ∙ ap (λ b. cond b (answered_by s.terms h.at.course + length h.at.answers) 0) own in
          let longer = length-append h.at.answers (reply_of (handler_at s.handlers w) h.hand ∷ []) in
          let now : how_many (λ k. k == core) (h.worker.served ++ core ∷ []) ≡ answered_by s.terms h.at.course + length (h.at.answers ++ reply_of (handler_at s.handlers w) h.hand ∷ []) =
          omega (arith, more, one, before, longer) in
          now ∙ sym (ap (λ b. cond b (answered_by s.terms h.at.course + length (h.at.answers ++ reply_of (handler_at s.handlers w) h.hand ∷ [])) 0) own)

      elsewhere : (d : ℕ) (a : AtCore) → (core == d) ≡ false → IsCountedAt s w h.worker d a → IsCountedAt s w worker d a
      elsewhere d a other was =
          let more = how_many_end (λ k. k == d) h.worker.served core in
          let none : one_if (core == d) ≡ one_if false = ap one_if other in
          let same : how_many (λ k. k == d) (h.worker.served ++ core ∷ []) ≡ how_many (λ k. k == d) h.worker.served = omega (arith, more, none) in
          same ∙ was

      foreign : (v : ℕ) (x : AtWorker) → (w == v) ≡ false → IsCountedAt s v x core h.at → IsCountedAt s v x core after
      foreign v x other was =
          let not_own : ((core % length s.handlers) == v) ≡ false = ap (λ k. k == v) (order.hands w h.worker h.hand h.is_it h.has).own ∙ other in
          was ∙ ap (λ b. cond b (answered_by s.terms h.at.course + length h.at.answers) 0) not_own
          ∙ sym (ap (λ b. cond b (answered_by s.terms h.at.course + length (h.at.answers ++ reply_of (handler_at s.handlers w) h.hand ∷ [])) 0) not_own)

  works : (w : ℕ) → TakesOne s w m n ⊎ GivesOne s w m n ⊎ AnswersOne s w m n → AreCounted s n
  works w (inl h) = takes w h
  works w (inr (inl h)) = gives w h
  works w (inr (inr h)) = answers w h

  pub stays_counted : (actor : Actor) → Steps s actor m n → AreCounted s n
  stays_counted (actors.Core c) h = core_counts c false h
  stays_counted (actors.Back c) h = core_counts c true h
  stays_counted (actors.Work w) h = works w h
