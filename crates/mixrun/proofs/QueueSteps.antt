-- Each step of the machine keeps the order of the events that wait.
use Rattle.std.proofs.Common.{◌≡◌, ℕ, zero, suc, ◌%◌, ◌⊎◌, inl, inr, ◌==◌, Bool, true, false, cond, List, [], ◌∷◌, ◌++◌, Option, Some, None, refl, ap, sym, ◌∙◌, subst, arith, append-nil, append_assoc, map, take, drop, set, length, slice_get}
use Rattle.std.proofs.lemmas.Bool.Decides.{nat_tests}
use Rattle.prio_budget.specs.declared.free.Free.{Free}
use Rattle.evring.specs.declared.advice.Advice.{Advice}
use Rattle.streamdefs.specs.Lists.{Each}
use Rattle.streamdefs.specs.Reorder.{Charge}
use Rattle.streamdefs.specs.Lawful.{Handler, handler_at}
use Rattle.mixrun.specs.declared.actor.Actor.{Actor}
use Rattle.mixrun.specs.declared.actor.Actor.TheVariants as actors
use Rattle.mixrun.specs.Moment.{Setup, Given, Reply, AtCore, InHand, AtWorker, Pair, Moment}
use Rattle.mixrun.specs.Moves.{CoreMove, moved, advice_of, owed_for, next_owed, reply_of, given_back, taken, free_at}
use Rattle.mixrun.specs.Moves.CoreMove.{Loads, Asks, Frees, Emits, TakesBack}
use Rattle.mixrun.specs.Steps.{MovesCore, TakesOne, GivesOne, AnswersOne, Steps}
use Rattle.mixrun.specs.Queue.{Waits, charge_bytes, IsAdvice, IsHand, IsReply, in_hand, waiting, InOrder}
use Rattle.mixrun.proofs.CoreSums.{first_of}
use Rattle.mixrun.proofs.CoreQueue.{core_step, each_end, map_end, take_next, take_all}

-- a list with one element changed

module _ {A : Type 0} where
  pub get_same : (xs : List A) (i : ℕ) (x y : A) → slice_get xs i ≡ Some x → slice_get (set xs i y) i ≡ Some y
  get_same [] i x y e = absurd cc
  get_same (z ∷ xs) zero x y e = refl
  get_same (z ∷ xs) (suc i) x y e = get_same xs i x y e

  pub get_other : (xs : List A) (i j : ℕ) (y : A) → (i == j) ≡ false → slice_get (set xs i y) j ≡ slice_get xs j
  get_other [] i j y e = refl
  get_other (z ∷ xs) zero zero y e = absurd cc
  get_other (z ∷ xs) zero (suc j) y e = refl
  get_other (z ∷ xs) (suc i) zero y e = refl
  get_other (z ∷ xs) (suc i) (suc j) y e = get_other xs i j y (next i j e)
    where
      next : (i j : ℕ) → (suc i == suc j) ≡ false → (i == j) ≡ false
      next i j e = grind (arith, nat_tests)

  -- what is at each place is what is there now, or was there
  pub at_each : (P : ℕ → A → Type 0) (xs ys : List A) (i : ℕ) (x y : A) → slice_get xs i ≡ Some x → ys ≡ set xs i y → P i y
      → ((j : ℕ) (z : A) → (i == j) ≡ false → slice_get xs j ≡ Some z → P j z) → (j : ℕ) (z : A) → slice_get ys j ≡ Some z → P j z
  at_each P xs ys i x y e changed here other j z h = by (i == j) refl
    where
      now : slice_get (set xs i y) j ≡ Some z
      now = subst (λ (l : List A). slice_get l j ≡ Some z) changed h

      by : (b : Bool) → (i == j) ≡ b → P j z
      by true t =
          let same : i ≡ j = grind arith in
          let both : Some y ≡ Some z = sym (get_same xs i x y e) ∙ subst (λ (k : ℕ). slice_get (set xs i y) k ≡ Some z) (sym same) now in
          let equal : y ≡ z = cc in
          subst (λ (k : ℕ). P k z) same (subst (P i) equal here)
      by false t = other j z t (sym (get_other xs i j y t) ∙ now)

-- the event in hand

hand_of : (c : ℕ) (x : AtWorker) (h : InHand) → x.hand ≡ Some h → in_hand c (Some x) ≡ cond (h.core == c) (h.given ∷ []) []
hand_of c x h e = rw e refl

empty_hand : (c : ℕ) (x : AtWorker) → x.hand ≡ None → in_hand c (Some x) ≡ []
empty_hand c x e = rw e refl

self_test : (n : ℕ) → (n == n) ≡ true
self_test n = grind (arith, nat_tests)

-- the advice, and the frees that it makes due
pub advice_is : (handler : Handler) (h : InHand) → IsAdvice handler h.given h.advice → advice_of handler h ≡ handler h.given.conv h.given.seen
advice_is handler h a = by h.advice refl a
  where
    by : (o : Option Advice) → h.advice ≡ o → IsAdvice handler h.given o → advice_of handler h ≡ handler h.given.conv h.given.seen
    by None e a = rw (advice_of, e) refl
    by (Some advice) e a = rw (advice_of, e) a

module _ {A B : Type 0} (f : A → B) where
  get_map : (xs : List A) (n : ℕ) (x : A) → slice_get xs n ≡ Some x → slice_get (map f xs) n ≡ Some (f x)
  get_map [] n x e = absurd cc
  get_map (y ∷ xs) zero x e = let same : y ≡ x = cc in ap (λ z. Some (f z)) same
  get_map (y ∷ xs) (suc n) x e = get_map xs n x e

  none_map : (xs : List A) (n : ℕ) → slice_get xs n ≡ None → slice_get (map f xs) n ≡ None
  none_map [] n e = refl
  none_map (y ∷ xs) zero e = absurd cc
  none_map (y ∷ xs) (suc n) e = none_map xs n e

length_end : {A : Type 0} (xs : List A) (x : A) → length (xs ++ x ∷ []) ≡ suc (length xs)
length_end [] x = refl
length_end (y ∷ xs) x = ap suc (length_end xs x)

module _ (s : Setup) (w : ℕ) (h : InHand) (is : IsHand s w h) where
  abbrev the_handler : Handler
  the_handler = handler_at s.handlers w

  abbrev the_due : List Charge
  the_due = owed_for h.given.event (the_handler h.given.conv h.given.seen)

  due_is : owed_for h.given.event (advice_of the_handler h) ≡ the_due
  due_is = ap (owed_for h.given.event) (advice_is the_handler h is.advice)

  -- with one free more
  pub hand_freed : (charge : Charge) (p : Pair) → next_owed the_handler h ≡ Some charge → IsHand s w (given_back the_handler (free_at p charge) h)
  hand_freed charge p next = record {
    own = is.own;
    advice = advice_is the_handler h is.advice;
    frees =
        let place : slice_get (charge_bytes the_due) (length h.frees) ≡ Some charge.bytes =
        get_map (λ (c : Charge). c.bytes) the_due (length h.frees) charge (sym (ap (λ (l : List Charge). slice_get l (length h.frees)) due_is) ∙ next) in
        map_end (λ (f : Free). f.bytes) h.frees (free_at p charge) ∙ ap (λ (l : List ℕ). l ++ charge.bytes ∷ []) is.frees
        ∙ sym (take_next (charge_bytes the_due) (length h.frees) charge.bytes place) ∙ ap (λ (n : ℕ). take n (charge_bytes the_due)) (sym (length_end h.frees (free_at p charge)));
  }

  -- with none owed any more
  pub hand_replies : next_owed the_handler h ≡ None → IsReply the_handler (reply_of the_handler h)
  hand_replies done = record {
    advice = advice_is the_handler h is.advice;
    frees =
        let place : slice_get (charge_bytes the_due) (length h.frees) ≡ None =
        none_map (λ (c : Charge). c.bytes) the_due (length h.frees) (sym (ap (λ (l : List Charge). slice_get l (length h.frees)) due_is) ∙ done) in
        is.frees ∙ take_all (charge_bytes the_due) (length h.frees) place ∙ ap charge_bytes (sym due_is);
  }

module _ (s : Setup) (m n : Moment) (order : InOrder s m) where
  abbrev size : ℕ
  size = length s.handlers

  abbrev handler_of : ℕ → Handler
  handler_of c = handler_at s.handlers (c % size)

  -- the order at a core depends on its answers, on the hand, and on its events
  abbrev WaitsIn : Moment → ℕ → AtCore → Type 0
  WaitsIn x c a = Waits s.terms a.course (waiting s c x a)

  rehand : (c : ℕ) (a : AtCore) → in_hand c (slice_get n.workers (c % size)) ≡ in_hand c (slice_get m.workers (c % size)) → WaitsIn m c a → WaitsIn n c a
  rehand c a same h = subst (λ (l : List Given). Waits s.terms a.course (map (λ r. r.given) a.answers ++ l ++ a.events)) (sym same) h

  same_workers : n.workers ≡ m.workers → (c : ℕ) → in_hand c (slice_get n.workers (c % size)) ≡ in_hand c (slice_get m.workers (c % size))
  same_workers e c = ap (λ (l : List AtWorker). in_hand c (slice_get l (c % size))) e

  -- a core's step

  replies_left : (handler : Handler) (move : CoreMove) (a : AtCore) → Each (IsReply handler) a.answers → Each (IsReply handler) (moved s.terms move a).answers
  replies_left handler (TakesBack reply) a h = behind a.answers h
    where
      behind : (rs : List Reply) → Each (IsReply handler) rs → Each (IsReply handler) (drop 1 rs)
      behind [] h = tt
      behind (r ∷ rs) h = h.1
  replies_left handler (Loads input) a h = h
  replies_left handler (Asks look) a h = h
  replies_left handler (Frees free) a h = h
  replies_left handler (Emits given) a h = h

  core_moves : (c : ℕ) (back : Bool) → MovesCore s c back m n → InOrder s n
  core_moves c back h = record {
    waits = at_each (WaitsIn n) m.cores n.cores c h.before h.after h.is_it h.cores
        (rehand c h.after (same_workers h.workers c)
        (core_step s.terms m.pair n.pair (in_hand c (slice_get m.workers (c % size))) h.move h.before h.after h.steps (order.waits c h.before h.is_it)))
        (λ d a other there. rehand d a (same_workers h.workers d) (order.waits d a there));
    replies = at_each (λ d a. Each (IsReply (handler_of d)) a.answers) m.cores n.cores c h.before h.after h.is_it h.cores
        (subst (λ (l : List Reply). Each (IsReply (handler_of c)) l) (sym (ap (λ (a : AtCore). a.answers) h.steps.settles.3)) (replies_left (handler_of c) h.move h.before (order.replies c h.before h.is_it)))
        (λ d a other there. order.replies d a there);
    hands = λ w x hand there has. order.hands w x hand (subst (λ (l : List AtWorker). slice_get l w ≡ Some x) h.workers there) has;
  }

  -- a worker's step: the hands of others stay

  -- the hand of a core after a change at one worker
  hand_now : (w : ℕ) (x y : AtWorker) → slice_get m.workers w ≡ Some x → n.workers ≡ set m.workers w y → (c : ℕ)
      → ((w == (c % size)) ≡ true → in_hand c (Some y) ≡ in_hand c (Some x)) → in_hand c (slice_get n.workers (c % size)) ≡ in_hand c (slice_get m.workers (c % size))
  hand_now w x y is changed c same = ap (λ (l : List AtWorker). in_hand c (slice_get l (c % size))) changed ∙ by (w == (c % size)) refl
    where
      by : (b : Bool) → (w == (c % size)) ≡ b → in_hand c (slice_get (set m.workers w y) (c % size)) ≡ in_hand c (slice_get m.workers (c % size))
      by true t =
          let equal : w ≡ c % size = grind arith in
          let now : slice_get (set m.workers w y) (c % size) ≡ Some y = subst (λ (k : ℕ). slice_get (set m.workers w y) k ≡ Some y) equal (get_same m.workers w x y is) in
          let then : slice_get m.workers (c % size) ≡ Some x = subst (λ (k : ℕ). slice_get m.workers k ≡ Some x) equal is in
          ap (in_hand c) now ∙ same t ∙ sym (ap (in_hand c) then)
      by false t = ap (in_hand c) (get_other m.workers w (c % size) y t)

  -- that of one of the worker's own cores
  own_hand : (w : ℕ) (x y : AtWorker) → slice_get m.workers w ≡ Some x → n.workers ≡ set m.workers w y → (c : ℕ) → c % size ≡ w
      → (in_hand c (slice_get n.workers (c % size)) ≡ in_hand c (Some y)) × (in_hand c (slice_get m.workers (c % size)) ≡ in_hand c (Some x))
  own_hand w x y is changed c own = (
    ap (λ (l : List AtWorker). in_hand c (slice_get l (c % size))) changed ∙ ap (λ (k : ℕ). in_hand c (slice_get (set m.workers w y) k)) own ∙ ap (in_hand c) (get_same m.workers w x y is),
    ap (λ (k : ℕ). in_hand c (slice_get m.workers k)) own ∙ ap (in_hand c) is,
  )

  takes : (w : ℕ) → TakesOne s w m n → InOrder s n
  takes w h = record {
    waits = at_each (WaitsIn n) m.cores n.cores h.core h.at after h.is_core h.cores here
        (λ d a other there. rehand d a (hand_now w h.worker worker h.is_it h.workers d (λ t. hand_of d worker (taken h.core h.given) refl ∙ ap (λ b. cond b (h.given ∷ []) []) other ∙ sym (empty_hand d h.worker h.empty))) (order.waits d a there));
    replies = at_each (λ d a. Each (IsReply (handler_of d)) a.answers) m.cores n.cores h.core h.at after h.is_core h.cores (order.replies h.core h.at h.is_core) (λ d a other there. order.replies d a there);
    hands = λ v x hand there has.
        at_each (λ v x. (hand : InHand) → x.hand ≡ Some hand → IsHand s v hand) m.workers n.workers w h.worker worker h.is_it h.workers
        (λ hand e. let same : taken h.core h.given ≡ hand = cc in subst (IsHand s w) same fresh)
        (λ u y other at hand e. order.hands u y hand at e) v x there hand has;
  }
    where
      after : AtCore
      after = record h.at { events = drop 1 h.at.events }

      worker : AtWorker
      worker = record h.worker { hand = Some (taken h.core h.given) }

      fresh : IsHand s w (taken h.core h.given)
      fresh = record { own = h.own; advice = tt; frees = refl }

      hands : (in_hand h.core (slice_get n.workers (h.core % size)) ≡ in_hand h.core (Some worker)) × (in_hand h.core (slice_get m.workers (h.core % size)) ≡ in_hand h.core (Some h.worker))
      hands = own_hand w h.worker worker h.is_it h.workers h.core h.own

      now : in_hand h.core (slice_get n.workers (h.core % size)) ≡ h.given ∷ []
      now = hands.0 ∙ hand_of h.core worker (taken h.core h.given) refl ∙ ap (λ b. cond b (h.given ∷ []) []) (self_test h.core)

      then : in_hand h.core (slice_get m.workers (h.core % size)) ≡ []
      then = hands.1 ∙ empty_hand h.core h.worker h.empty

      same : waiting s h.core n after ≡ waiting s h.core m h.at
      same =
          ap (λ (l : List Given). map (λ r. r.given) h.at.answers ++ l ++ drop 1 h.at.events) now
          ∙ append_assoc (map (λ r. r.given) h.at.answers) (h.given ∷ []) (drop 1 h.at.events)
          ∙ ap (λ (l : List Given). map (λ r. r.given) h.at.answers ++ l) (sym (first_of h.given h.at.events h.first))
          ∙ ap (λ (l : List Given). l ++ h.at.events) (sym (append-nil (map (λ r. r.given) h.at.answers)))
          ∙ ap (λ (l : List Given). map (λ r. r.given) h.at.answers ++ l ++ h.at.events) (sym then)

      here : WaitsIn n h.core after
      here = subst (λ (l : List Given). Waits s.terms h.at.course l) (sym same) (order.waits h.core h.at h.is_core)

  gives : (w : ℕ) → GivesOne s w m n → InOrder s n
  gives w h = record {
    waits = λ c a there.
        rehand c a (hand_now w h.worker worker h.is_it h.workers c (λ t. hand_of c worker later refl ∙ sym (hand_of c h.worker h.hand h.has)))
        (order.waits c a (subst (λ (l : List AtCore). slice_get l c ≡ Some a) h.cores there));
    replies = λ c a there. order.replies c a (subst (λ (l : List AtCore). slice_get l c ≡ Some a) h.cores there);
    hands = λ v x hand there has.
        at_each (λ v x. (hand : InHand) → x.hand ≡ Some hand → IsHand s v hand) m.workers n.workers w h.worker worker h.is_it h.workers
        (λ hand e. let same : later ≡ hand = cc in subst (IsHand s w) same (hand_freed s w h.hand (order.hands w h.worker h.hand h.is_it h.has) h.charge m.pair h.next))
        (λ u y other at hand e. order.hands u y hand at e) v x there hand has;
  }
    where
      later : InHand
      later = given_back (handler_at s.handlers w) (free_at m.pair h.charge) h.hand

      worker : AtWorker
      worker = record h.worker { hand = Some later }

  answers : (w : ℕ) → AnswersOne s w m n → InOrder s n
  answers w h = record {
    waits = at_each (WaitsIn n) m.cores n.cores h.hand.core h.at after h.is_core h.cores here
        (λ d a other there. rehand d a (hand_now w h.worker worker h.is_it h.workers d (λ t. empty_hand d worker refl ∙ sym (hand_of d h.worker h.hand h.has ∙ ap (λ b. cond b (h.hand.given ∷ []) []) other))) (order.waits d a there));
    replies = at_each (λ d a. Each (IsReply (handler_of d)) a.answers) m.cores n.cores h.hand.core h.at after h.is_core h.cores
        (each_end (IsReply (handler_of h.hand.core)) h.at.answers reply (order.replies h.hand.core h.at h.is_core) (subst (λ (v : ℕ). IsReply (handler_at s.handlers v) reply) (sym is.own) (hand_replies s w h.hand is h.done)))
        (λ d a other there. order.replies d a there);
    hands = λ v x hand there has.
        at_each (λ v x. (hand : InHand) → x.hand ≡ Some hand → IsHand s v hand) m.workers n.workers w h.worker worker h.is_it h.workers
        (λ hand e. absurd cc)
        (λ u y other at hand e. order.hands u y hand at e) v x there hand has;
  }
    where
      reply : Reply
      reply = reply_of (handler_at s.handlers w) h.hand

      after : AtCore
      after = record h.at { answers = h.at.answers ++ reply ∷ [] }

      worker : AtWorker
      worker = record { hand = None; served = h.worker.served ++ h.hand.core ∷ [] }

      is : IsHand s w h.hand
      is = order.hands w h.worker h.hand h.is_it h.has

      hands : (in_hand h.hand.core (slice_get n.workers (h.hand.core % size)) ≡ in_hand h.hand.core (Some worker)) × (in_hand h.hand.core (slice_get m.workers (h.hand.core % size)) ≡ in_hand h.hand.core (Some h.worker))
      hands = own_hand w h.worker worker h.is_it h.workers h.hand.core is.own

      then : in_hand h.hand.core (slice_get m.workers (h.hand.core % size)) ≡ h.hand.given ∷ []
      then = hands.1 ∙ hand_of h.hand.core h.worker h.hand h.has ∙ ap (λ b. cond b (h.hand.given ∷ []) []) (self_test h.hand.core)

      same : waiting s h.hand.core n after ≡ waiting s h.hand.core m h.at
      same =
          ap (λ (l : List Given). map (λ r. r.given) (h.at.answers ++ reply ∷ []) ++ l ++ h.at.events) hands.0
          ∙ ap (λ (l : List Given). l ++ h.at.events) (append-nil (map (λ r. r.given) (h.at.answers ++ reply ∷ [])))
          ∙ ap (λ (l : List Given). l ++ h.at.events) (map_end (λ r. r.given) h.at.answers reply)
          ∙ ap (λ (l : List Given). map (λ r. r.given) h.at.answers ++ l ++ h.at.events) (sym then)

      here : WaitsIn n h.hand.core after
      here = subst (λ (l : List Given). Waits s.terms h.at.course l) (sym same) (order.waits h.hand.core h.at h.is_core)

  works : (w : ℕ) → TakesOne s w m n ⊎ GivesOne s w m n ⊎ AnswersOne s w m n → InOrder s n
  works w (inl h) = takes w h
  works w (inr (inl h)) = gives w h
  works w (inr (inr h)) = answers w h

  pub stays_in_order : (actor : Actor) → Steps s actor m n → InOrder s n
  stays_in_order (actors.Core c) h = core_moves c false h
  stays_in_order (actors.Back c) h = core_moves c true h
  stays_in_order (actors.Work w) h = works w h
