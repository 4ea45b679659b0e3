-- Each actor has one step at a moment, and none where it is idle.
use Rattle.std.proofs.Common.{◌≡◌, ◌≢◌, ℕ, zero, suc, ◌+◌, ◌≤◌, ◌<◌, inl, inr, Bool, true, false, cond, List, [], ◌∷◌, ◌++◌, Option, Some, None, refl, ap, sym, ◌∙◌, subst, arith, length, drop, set, slice_get}
use Rattle.std.specs.Prelude.{nat_lt, option_map}
use Rattle.std.proofs.lemmas.Option.{slice_get_within}
use Rattle.streamdefs.specs.Terms.{Terms}
use Rattle.streamdefs.specs.Convo.{Event}
use Rattle.streamdefs.specs.Lawful.{handler_at}
use Rattle.streamdefs.specs.Want.Want.{Reserve, Release, Emit, Rest}
use Rattle.coretable.specs.Course.{Course, Under, Stop, Step, step, GoesOn, After}
use Rattle.coretable.specs.Course.Step.{Goes, Stops}
use Rattle.coretable.specs.Course.Stop.{Wants, Fills, Rests, Finishes}
use Rattle.mixrun.specs.declared.actor.Actor.{Actor}
use Rattle.mixrun.specs.declared.actor.Actor.TheVariants as actors
use Rattle.mixrun.specs.Moment.{Setup, Given, AtCore, InHand, AtWorker, Pair, Moment}
use Rattle.mixrun.specs.Moves.{CoreMove, moved, pair_behind, look_at, free_at, behind_free, given_of, IsGivenBy, Serves, next_owed, reply_of, given_back, taken}
use Rattle.mixrun.specs.Moves.CoreMove.{Loads, Asks, Frees, Emits, TakesBack}
use Rattle.mixrun.specs.Steps.{MayMove, Settles, is_back, MovesCore, TakesOne, GivesOne, AnswersOne, Steps}
use Rattle.mixrun.specs.Schedule.{IsCoreIdle, IsBackIdle, IsIdle, last_of, round_place, IsInTurn, Acts}

-- What a table does by itself ends in one place

goes_both : {R : Type 0} (P Q : Course → Type 0) (st : Step) → ((next : Course) → P next → Q next → R) → GoesOn P st → GoesOn Q st → R
goes_both P Q (Goes next) h p q = h next p q
goes_both P Q (Stops stop) h p q = absurd p

stopped : {R : Type 0} (P : Course → Type 0) (st : Step) (stop : Stop) → st ≡ Stops stop → GoesOn P st → R
stopped P (Goes next) stop e p = absurd cc
stopped P (Stops other) stop e p = absurd p

after_same : (terms : Terms) (k l : ℕ) (a x y : Course) (i j : Stop) → After terms k a x → step terms x ≡ Stops i → After terms l a y → step terms y ≡ Stops j → x ≡ y
after_same terms zero zero a x y i j e h f g = sym e ∙ f
after_same terms zero (suc l) a x y i j e h f g =
    stopped (λ next. After terms l next y) (step terms a) i (subst (λ (c : Course). step terms c ≡ Stops i) (sym e) h) f
after_same terms (suc k) zero a x y i j e h f g =
    stopped (λ next. After terms k next x) (step terms a) j (subst (λ (c : Course). step terms c ≡ Stops j) (sym f) g) e
after_same terms (suc k) (suc l) a x y i j e h f g =
    goes_both (λ next. After terms k next x) (λ next. After terms l next y) (step terms a) (λ next p q. after_same terms k l next x y i j p h q g) e f

settled_same : (terms : Terms) (a b c : AtCore) → Settles terms a b → Settles terms a c → b ≡ c
settled_same terms a b c (k, i, comes, is) (l, j, come, it) =
    let same = after_same terms k l a.course b.course c.course i j comes.0 comes.1 come.0 come.1 in
    is ∙ (λ n. record a { course = same n }) ∙ sym it

-- The move that a core has

emits_of : Terms → Course → Event → Option Under → Option CoreMove
emits_of terms m event under = option_map (λ u. Emits (given_of terms m u event)) under

abbrev move_for : Terms → Pair → AtCore → Stop → Option CoreMove
move_for terms p a Rests = option_map Loads (slice_get a.inputs 0)
move_for terms p a (Wants (Reserve ask mark)) = Some (Asks (look_at p ask.bytes mark))
move_for terms p a (Wants (Release charge)) = Some (Frees (free_at p charge))
move_for terms p a (Wants (Emit event)) = option_map (λ u. Emits (given_of terms a.course u event)) a.course.under
move_for terms p a (Wants Rest) = None
move_for terms p a Fills = None
move_for terms p a Finishes = None

abbrev move_at : Terms → Pair → AtCore → Step → Option CoreMove
move_at terms p a (Stops stop) = move_for terms p a stop
move_at terms p a (Goes next) = None

abbrev move_of : Bool → Terms → Pair → AtCore → Option CoreMove
move_of true terms p a = option_map TakesBack (slice_get a.answers 0)
move_of false terms p a = move_at terms p a (step terms a.course)

mapped_some : {A B : Type 0} (f : A → B) (o : Option A) (x : A) → o ≡ Some x → option_map f o ≡ Some (f x)
mapped_some f o x e = ap (option_map f) e

emitted_is : (terms : Terms) (m : Course) (event : Event) (given : Given) → IsGivenBy terms m given event → option_map (λ u. Emits (given_of terms m u event)) m.under ≡ Some (Emits given)
emitted_is terms m event given h = by m.under refl
  where
    by : (o : Option Under) → m.under ≡ o → option_map (λ u. Emits (given_of terms m u event)) m.under ≡ Some (Emits given)
    by None e = absurd (rw (IsGivenBy, e) at h)
    by (Some u) e = let is : given ≡ given_of terms m u event = rw (IsGivenBy, e) at h in rw e (ap (λ g. Some (Emits g)) (sym is))

serves_is : (terms : Terms) (p : Pair) (a : AtCore) (move : CoreMove) (stop : Stop) → Serves terms p a move stop → move_for terms p a stop ≡ Some move
serves_is terms p a (Loads input) Rests h = mapped_some Loads (slice_get a.inputs 0) input h
serves_is terms p a (Asks look) (Wants (Reserve ask mark)) h = ap (λ l. Some (Asks l)) (sym h.0)
serves_is terms p a (Frees free) (Wants (Release charge)) h = ap (λ f. Some (Frees f)) (sym h.0)
serves_is terms p a (Emits given) (Wants (Emit event)) h = emitted_is terms a.course event given h
serves_is terms p a _ _ h = absurd h

move_is : (terms : Terms) (p : Pair) (a : AtCore) (move : CoreMove) (back : Bool) → is_back move ≡ back → MayMove terms p a move → move_of back terms p a ≡ Some move
move_is terms p a (TakesBack reply) true b h = mapped_some TakesBack (slice_get a.answers 0) reply h.1
move_is terms p a (TakesBack reply) false b h = absurd cc
move_is terms p a (Loads input) true b h = absurd cc
move_is terms p a (Asks look) true b h = absurd cc
move_is terms p a (Frees free) true b h = absurd cc
move_is terms p a (Emits given) true b h = absurd cc
move_is terms p a (Loads input) false b (stop, stops, serves) = ap (move_at terms p a) stops ∙ serves_is terms p a (Loads input) stop serves
move_is terms p a (Asks look) false b (stop, stops, serves) = ap (move_at terms p a) stops ∙ serves_is terms p a (Asks look) stop serves
move_is terms p a (Frees free) false b (stop, stops, serves) = ap (move_at terms p a) stops ∙ serves_is terms p a (Frees free) stop serves
move_is terms p a (Emits given) false b (stop, stops, serves) = ap (move_at terms p a) stops ∙ serves_is terms p a (Emits given) stop serves

pub same_some : {A : Type 0} (o : Option A) (x y : A) → o ≡ Some x → o ≡ Some y → x ≡ y
same_some o x y e f = let both : Some x ≡ Some y = sym e ∙ f in cc

-- A moment is its parts

pub moment_same : (n k : Moment) → n.cores ≡ k.cores → n.workers ≡ k.workers → n.pair ≡ k.pair → n ≡ k
moment_same n k cores workers pair = λ i. record { cores = cores i; workers = workers i; pair = pair i }

-- A core's step is the only one

core_same : (s : Setup) (c : ℕ) (back : Bool) (m n k : Moment) → MovesCore s c back m n → MovesCore s c back m k → n ≡ k
core_same s c back m n k h g = moment_same n k cores (h.workers ∙ sym g.workers) pair
  where
    before : h.before ≡ g.before
    before = same_some (slice_get m.cores c) h.before g.before h.is_it g.is_it

    move : h.move ≡ g.move
    move = same_some (move_of back s.terms m.pair h.before) h.move g.move (move_is s.terms m.pair h.before h.move back h.side h.steps.may)
        (subst (λ (a : AtCore). move_of back s.terms m.pair a ≡ Some g.move) (sym before) (move_is s.terms m.pair g.before g.move back g.side g.steps.may))

    after : h.after ≡ g.after
    after = settled_same s.terms (moved s.terms h.move h.before) h.after g.after h.steps.settles
        (subst (λ (a : AtCore). Settles s.terms a g.after) (λ i. moved s.terms (sym move i) (sym before i)) g.steps.settles)

    cores : n.cores ≡ k.cores
    cores = h.cores ∙ (λ i. set m.cores c (after i)) ∙ sym g.cores

    pair : n.pair ≡ k.pair
    pair = h.steps.pair ∙ (λ i. pair_behind (move i) m.pair) ∙ sym g.steps.pair

-- So is a worker's

first_there : {A : Type 0} (xs : List A) (x : A) → slice_get xs 0 ≡ Some x → xs ≢ []
first_there [] x e none = absurd cc
first_there (y ∷ xs) x e none = absurd cc

place_tells : (last : Option ℕ) (cores c d : ℕ) → c < cores → d < cores → round_place last cores c ≤ round_place last cores d → round_place last cores d ≤ round_place last cores c → c ≡ d
place_tells None cores c d inside there up down = omega arith
place_tells (Some last) cores c d inside there up down = by (nat_lt last c) (nat_lt last d) up down
  where
    by : (p q : Bool) → cond p c (c + cores) ≤ cond q d (d + cores) → cond q d (d + cores) ≤ cond p c (c + cores) → c ≡ d
    by true true u v = omega arith
    by true false u v = omega arith
    by false true u v = omega arith
    by false false u v = omega arith

module _ (s : Setup) (w : ℕ) (m n k : Moment) where
  take_same : (h : TakesOne s w m n) → IsInTurn s w h.worker m h.core → (g : TakesOne s w m k) → IsInTurn s w g.worker m g.core → n ≡ k
  take_same h turn g other = moment_same n k cores workers (h.pair ∙ sym g.pair)
    where
      worker : h.worker ≡ g.worker
      worker = same_some (slice_get m.workers w) h.worker g.worker h.is_it g.is_it

      up : round_place (last_of h.worker.served) (length m.cores) h.core ≤ round_place (last_of h.worker.served) (length m.cores) g.core
      up = turn g.core g.at g.is_core g.own (first_there g.at.events g.given g.first)

      down : round_place (last_of h.worker.served) (length m.cores) g.core ≤ round_place (last_of h.worker.served) (length m.cores) h.core
      down = subst (λ (x : AtWorker). round_place (last_of x.served) (length m.cores) g.core ≤ round_place (last_of x.served) (length m.cores) h.core) (sym worker)
          (other h.core h.at h.is_core h.own (first_there h.at.events h.given h.first))

      core : h.core ≡ g.core
      core = place_tells (last_of h.worker.served) (length m.cores) h.core g.core (slice_get_within m.cores h.core h.at h.is_core) (slice_get_within m.cores g.core g.at g.is_core) up down

      at : h.at ≡ g.at
      at = same_some (slice_get m.cores h.core) h.at g.at h.is_core (subst (λ (c : ℕ). slice_get m.cores c ≡ Some g.at) (sym core) g.is_core)

      given : h.given ≡ g.given
      given = same_some (slice_get h.at.events 0) h.given g.given h.first (subst (λ (a : AtCore). slice_get a.events 0 ≡ Some g.given) (sym at) g.first)

      cores : n.cores ≡ k.cores
      cores = h.cores ∙ (λ i. set m.cores (core i) (record (at i) { events = drop 1 (at i).events })) ∙ sym g.cores

      workers : n.workers ≡ k.workers
      workers = h.workers ∙ (λ i. set m.workers w (record (worker i) { hand = Some (taken (core i) (given i)) })) ∙ sym g.workers

  give_same : GivesOne s w m n → GivesOne s w m k → n ≡ k
  give_same h g = moment_same n k (h.cores ∙ sym g.cores) workers pair
    where
      worker : h.worker ≡ g.worker
      worker = same_some (slice_get m.workers w) h.worker g.worker h.is_it g.is_it

      hand : h.hand ≡ g.hand
      hand = same_some h.worker.hand h.hand g.hand h.has (subst (λ (x : AtWorker). x.hand ≡ Some g.hand) (sym worker) g.has)

      charge : h.charge ≡ g.charge
      charge = same_some (next_owed (handler_at s.handlers w) h.hand) h.charge g.charge h.next
          (subst (λ (x : InHand). next_owed (handler_at s.handlers w) x ≡ Some g.charge) (sym hand) g.next)

      workers : n.workers ≡ k.workers
      workers = h.workers ∙ (λ i. set m.workers w (record (worker i) { hand = Some (given_back (handler_at s.handlers w) (free_at m.pair (charge i)) (hand i)) })) ∙ sym g.workers

      pair : n.pair ≡ k.pair
      pair = h.pair ∙ (λ i. behind_free m.pair (free_at m.pair (charge i))) ∙ sym g.pair

  answer_same : AnswersOne s w m n → AnswersOne s w m k → n ≡ k
  answer_same h g = moment_same n k cores workers (h.pair ∙ sym g.pair)
    where
      worker : h.worker ≡ g.worker
      worker = same_some (slice_get m.workers w) h.worker g.worker h.is_it g.is_it

      hand : h.hand ≡ g.hand
      hand = same_some h.worker.hand h.hand g.hand h.has (subst (λ (x : AtWorker). x.hand ≡ Some g.hand) (sym worker) g.has)

      at : h.at ≡ g.at
      at = same_some (slice_get m.cores h.hand.core) h.at g.at h.is_core (subst (λ (x : InHand). slice_get m.cores x.core ≡ Some g.at) (sym hand) g.is_core)

      cores : n.cores ≡ k.cores
      cores = h.cores ∙ (λ i. set m.cores (hand i).core (record (at i) { answers = (at i).answers ++ reply_of (handler_at s.handlers w) (hand i) ∷ [] })) ∙ sym g.cores

      workers : n.workers ≡ k.workers
      workers = h.workers ∙ (λ i. set m.workers w (record { hand = None; served = (worker i).served ++ (hand i).core ∷ [] })) ∙ sym g.workers

  -- a hand is empty or not, and has a charge to give back or none
  taken_or_held : {R : Type 0} (x y : AtWorker) (h : InHand) → slice_get m.workers w ≡ Some x → x.hand ≡ None → slice_get m.workers w ≡ Some y → y.hand ≡ Some h → R
  taken_or_held x y h is empty it has =
      let same = same_some (slice_get m.workers w) x y is it in
      let none : y.hand ≡ None = subst (λ (z : AtWorker). z.hand ≡ None) same empty in
      absurd cc

  given_or_done : {R : Type 0} → GivesOne s w m n → AnswersOne s w m k → R
  given_or_done h g =
      let worker = same_some (slice_get m.workers w) h.worker g.worker h.is_it g.is_it in
      let hand = same_some g.worker.hand h.hand g.hand (subst (λ (x : AtWorker). x.hand ≡ Some h.hand) worker h.has) g.has in
      let none : next_owed (handler_at s.handlers w) g.hand ≡ None = g.done in
      let some : next_owed (handler_at s.handlers w) g.hand ≡ Some h.charge = subst (λ (x : InHand). next_owed (handler_at s.handlers w) x ≡ Some h.charge) hand h.next in
      absurd (let both : None ≡ Some h.charge = sym none ∙ some in cc)

worker_same : (s : Setup) (w : ℕ) (m n k : Moment) → Acts s (actors.Work w) m n → Acts s (actors.Work w) m k → n ≡ k
worker_same s w m n k (inl (h, turn)) (inl (g, other)) = take_same s w m n k h turn g other
worker_same s w m n k (inl (h, turn)) (inr (inl g)) = taken_or_held s w m n k h.worker g.worker g.hand h.is_it h.empty g.is_it g.has
worker_same s w m n k (inl (h, turn)) (inr (inr g)) = taken_or_held s w m n k h.worker g.worker g.hand h.is_it h.empty g.is_it g.has
worker_same s w m n k (inr (inl h)) (inl (g, other)) = taken_or_held s w m n k g.worker h.worker h.hand g.is_it g.empty h.is_it h.has
worker_same s w m n k (inr (inl h)) (inr (inl g)) = give_same s w m n k h g
worker_same s w m n k (inr (inl h)) (inr (inr g)) = given_or_done s w m n k h g
worker_same s w m n k (inr (inr h)) (inl (g, other)) = taken_or_held s w m n k g.worker h.worker h.hand g.is_it g.empty h.is_it h.has
worker_same s w m n k (inr (inr h)) (inr (inl g)) = given_or_done s w m k n g h
worker_same s w m n k (inr (inr h)) (inr (inr g)) = answer_same s w m n k h g

pub acts_same : (s : Setup) (m n k : Moment) (actor : Actor) → Acts s actor m n → Acts s actor m k → n ≡ k
acts_same s m n k (actors.Back c) h g = core_same s c true m n k h g
acts_same s m n k (actors.Work w) h g = worker_same s w m n k h g
acts_same s m n k (actors.Core c) h g = core_same s c false m n k h g

pub acts_step : (s : Setup) (m n : Moment) (actor : Actor) → Acts s actor m n → Steps s actor m n
acts_step s m n (actors.Back c) h = h
acts_step s m n (actors.Work w) (inl (h, turn)) = inl h
acts_step s m n (actors.Work w) (inr h) = inr h
acts_step s m n (actors.Core c) h = h

-- Idle actors

no_move_at : (terms : Terms) (p : Pair) (a : AtCore) → IsCoreIdle terms a → move_of false terms p a ≡ None
no_move_at terms p a (inl full) = ap (move_at terms p a) full
no_move_at terms p a (inr (inl over)) = ap (move_at terms p a) over
no_move_at terms p a (inr (inr (rests, none))) = ap (move_at terms p a) rests ∙ ap (λ l. option_map Loads (slice_get l 0)) none

back_rests : (terms : Terms) (p : Pair) (a : AtCore) (move : CoreMove) → is_back move ≡ true → MayMove terms p a move → a.course.under ≡ None
back_rests terms p a (TakesBack reply) b h = h.0
back_rests terms p a (Loads input) b h = absurd cc
back_rests terms p a (Asks look) b h = absurd cc
back_rests terms p a (Frees free) b h = absurd cc
back_rests terms p a (Emits given) b h = absurd cc

pub idle_no_step : (s : Setup) (m n : Moment) (actor : Actor) → IsIdle s m actor → Steps s actor m n → ⊥
idle_no_step s m n (actors.Back c) idle h = by (idle h.before h.is_it)
  where
    by : IsBackIdle h.before → ⊥
    by (inl none) =
        let some = move_is s.terms m.pair h.before h.move true h.side h.steps.may in
        let nothing : move_of true s.terms m.pair h.before ≡ None = ap (λ l. option_map TakesBack (slice_get l 0)) none in
        let both : None ≡ Some h.move = sym nothing ∙ some in absurd cc
    by (inr (u, under)) = let rests = back_rests s.terms m.pair h.before h.move h.side h.steps.may in absurd cc
idle_no_step s m n (actors.Core c) idle h =
    let some = move_is s.terms m.pair h.before h.move false h.side h.steps.may in
    let nothing = no_move_at s.terms m.pair h.before (idle h.before h.is_it) in
    let both : None ≡ Some h.move = sym nothing ∙ some in absurd cc
idle_no_step s m n (actors.Work w) idle (inl h) = first_there h.at.events h.given h.first ((idle h.worker h.is_it).1 h.core h.at h.is_core h.own)
idle_no_step s m n (actors.Work w) idle (inr (inl h)) = let empty = (idle h.worker h.is_it).0 in let has = h.has in absurd cc
idle_no_step s m n (actors.Work w) idle (inr (inr h)) = let empty = (idle h.worker h.is_it).0 in let has = h.has in absurd cc
