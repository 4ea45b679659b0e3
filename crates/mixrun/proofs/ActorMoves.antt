-- An actor is idle or makes its step, where nothing that it needs for it fails.
use Rattle.std.proofs.Common.{◌≡◌, ℕ, zero, suc, ◌^◌, ◌≤◌, ◌<◌, ◌==◌, ◌%◌, ◌⊎◌, ◌≢◌, inl, inr, Bool, true, false, cond, List, [], ◌∷◌, ◌++◌, Option, Some, None, refl, ap, sym, ◌∙◌, subst, arith, length, drop, set, slice_get}
use Rattle.std.specs.Prelude.{nat_lt, nat_le}
use Rattle.std.proofs.lemmas.Option.{slice_get_within}
use Rattle.std.proofs.lemmas.Bool.Decides.{nat_tests}
use Rattle.streamdefs.specs.Terms.{Terms}
use Rattle.streamdefs.specs.View.{Ask}
use Rattle.streamdefs.specs.Reorder.{Charge}
use Rattle.streamdefs.specs.Convo.{Event}
use Rattle.streamdefs.specs.Lawful.{handler_at}
use Rattle.streamdefs.specs.Want.{Want}
use Rattle.streamdefs.specs.Want.Want.{Reserve, Release, Emit, Rest}
use Rattle.coretable.specs.Course.{Course, Under, Choice, Stop, step, core_of, choice, choice_step, has_room, is_answered, want_of, under_step, Comes}
use Rattle.coretable.specs.Course.Choice.{Begins, Waits, Closed}
use Rattle.coretable.specs.Course.Step.{Goes, Stops}
use Rattle.coretable.specs.Course.Stop.{Wants, Fills, Rests, Finishes}
use Rattle.mixrun.specs.declared.actor.Actor.{Actor}
use Rattle.mixrun.specs.declared.actor.Actor.TheVariants as actors
use Rattle.mixrun.specs.Moment.{Setup, Input, Given, Reply, AtCore, InHand, AtWorker, Moment}
use Rattle.mixrun.specs.Moves.{CoreMove, moved, pair_behind, look_at, free_at, behind_free, given_of, IsGivenBy, IsFirst, next_owed, reply_of, given_back, taken}
use Rattle.mixrun.specs.Moves.CoreMove.{Loads, Asks, Frees, Emits, TakesBack}
use Rattle.mixrun.specs.Steps.{MayMove, is_back, MovesCore}
use Rattle.mixrun.specs.Schedule.{IsCoreIdle, IsBackIdle, IsIdle, last_of, round_place, Acts}
use Rattle.mixrun.specs.GoesOn.{IsOut}
use Rattle.mixrun.proofs.ScheduleSteps.{same_some}

-- it is idle, or makes its step, or something fails
abbrev pub Does : Type 0 → Setup → Moment → Actor → Type 0
Does F s m actor = F ⊎ IsIdle s m actor ⊎ ((n : Moment) × Acts s actor m n)

-- what actors need, each given or failing
pub record Needs (F : Type 0) (s : Setup) (m : Moment) : Type 0 where
  pub stops : (c : ℕ) (a : AtCore) → slice_get m.cores c ≡ Some a → F ⊎ ((stop : Stop) × (step s.terms a.course ≡ Stops stop))
  pub stamps : (c : ℕ) (a : AtCore) (ask : Ask) (mark : ℕ) → slice_get m.cores c ≡ Some a → step s.terms a.course ≡ Stops (Wants (Reserve ask mark)) → F ⊎ (m.pair.stamp < 2 ^ 31)
  pub releases : (c : ℕ) (a : AtCore) (charge : Charge) → slice_get m.cores c ≡ Some a → step s.terms a.course ≡ Stops (Wants (Release charge)) → F ⊎ IsOut m.pair charge
  pub owed : (w : ℕ) (x : AtWorker) (h : InHand) (charge : Charge) → slice_get m.workers w ≡ Some x → x.hand ≡ Some h → next_owed (handler_at s.handlers w) h ≡ Some charge → F ⊎ IsOut m.pair charge
  pub settles : (c : ℕ) (a : AtCore) (move : CoreMove) → slice_get m.cores c ≡ Some a → MayMove s.terms m.pair a move
      → F ⊎ ((n : ℕ) × (stop : Stop) × (there : Course) × Comes s.terms n (moved s.terms move a).course stop there)
  pub known : (w : ℕ) (x : AtWorker) (h : InHand) → slice_get m.workers w ≡ Some x → x.hand ≡ Some h → F ⊎ ((at : AtCore) × (slice_get m.cores h.core ≡ Some at))

-- A table that stopped

-- for an event, it has an entry under way; and it stops for no want that is none
stopped_wants : {R : Type 0} (m : Course) (u : Under) (want w : Want) → under_step m u want ≡ Stops (Wants w) → (w ≡ want → R) → R
stopped_wants m u (Reserve ask mark) w e f = f cc
stopped_wants m u (Release charge) w e f = f cc
stopped_wants m u (Emit event) w e f = f cc
stopped_wants m u Rest w e f = absurd cc

no_rest : (m : Course) (u : Under) (want : Want) → under_step m u want ≡ Stops (Wants Rest) → ⊥
no_rest m u (Reserve ask mark) e = absurd cc
no_rest m u (Release charge) e = absurd cc
no_rest m u (Emit event) e = absurd cc
no_rest m u Rest e = absurd cc

begins_wants : {R : Type 0} (m next : Course) (b : Bool) (w : Want) → cond b (Goes next) (Stops Fills) ≡ Stops (Wants w) → R
begins_wants m next true w e = absurd cc
begins_wants m next false w e = absurd cc

closes_wants : {R : Type 0} (b : Bool) (w : Want) → cond b (Stops Finishes) (Stops Fills) ≡ Stops (Wants w) → R
closes_wants true w e = absurd cc
closes_wants false w e = absurd cc

pub no_choice : {R : Type 0} (terms : Terms) (m : Course) (ch : Choice) (w : Want) → choice_step (core_of terms m) m ch ≡ Stops (Wants w) → R
no_choice terms m (Begins line) w e = begins_wants m _ (has_room (core_of terms m)) w e
no_choice terms m Waits w e = absurd cc
no_choice terms m Closed w e = closes_wants (is_answered (core_of terms m)) w e

-- the entry under way of a table that wants something
abbrev under_of : (terms : Terms) (m : Course) (w : Want) → step terms m ≡ Stops (Wants w) → (u : Under) × (m.under ≡ Some u)
under_of terms m w h = by m.under refl
  where
    by : (o : Option Under) → m.under ≡ o → (u : Under) × (m.under ≡ Some u)
    by (Some u) e = (u, e)
    by None e = no_choice terms m (choice terms (core_of terms m) m.job) w (rw (step, e) at h)

pub wants_no_rest : (terms : Terms) (m : Course) → step terms m ≡ Stops (Wants Rest) → ⊥
wants_no_rest terms m h = by (under_of terms m Rest h)
  where
    by : (u : Under) × (m.under ≡ Some u) → ⊥
    by (u, e) = no_rest m u (want_of terms m u) (rw (step, e) at h)

pub given_under : (terms : Terms) (m : Course) (u : Under) (event : Event) → m.under ≡ Some u → IsGivenBy terms m (given_of terms m u event) event
given_under terms m u event e = rw (IsGivenBy, e) refl

-- A worker's round

module _ (s : Setup) (w : ℕ) (m : Moment) (last : Option ℕ) where
  abbrev place : ℕ → ℕ
  place core = round_place last (length m.cores) core

  -- none of the first so many cores has an event for the worker
  abbrev NoneBelow : ℕ → Type 0
  NoneBelow k = (d : ℕ) (a : AtCore) → d < k → slice_get m.cores d ≡ Some a → d % length s.handlers ≡ w → a.events ≡ []

  -- one of them has, and none before it in the round
  pub record FirstBelow (k : ℕ) : Type 0 where
    pub core : ℕ
    pub at : AtCore
    pub given : Given
    pub is_core : slice_get m.cores core ≡ Some at
    pub own : core % length s.handlers ≡ w
    pub first : IsFirst given at.events
    pub least : (d : ℕ) (a : AtCore) → d < k → slice_get m.cores d ≡ Some a → d % length s.handlers ≡ w → a.events ≢ [] → place core ≤ place d

  abbrev Searched : ℕ → Type 0
  Searched k = NoneBelow k ⊎ FirstBelow k

  pub below_or_at : {R : Type 0} (d k : ℕ) → d < suc k → (d < k → R) → (d ≡ k → R) → R
  below_or_at {R = R} d k l f g = by (nat_lt d k) refl
    where
      by : (b : Bool) → nat_lt d k ≡ b → R
      by true t = f (grind (arith, nat_tests, t))
      by false t = g (let low : ¬ (d < k) = grind (arith, nat_tests, t) in omega (arith, l, low))

  -- the core behind them has none for the worker
  abbrev passed : (k : ℕ) → ((a : AtCore) → slice_get m.cores k ≡ Some a → k % length s.handlers ≡ w → a.events ≡ []) → Searched k → Searched (suc k)
  passed k none (inl before) = inl (λ d a l there own. below_or_at d k l (λ less. before d a less there own)
      (λ same. none a (subst (λ (i : ℕ). slice_get m.cores i ≡ Some a) same there) (subst (λ (i : ℕ). i % length s.handlers ≡ w) same own)))
  passed k none (inr f) = inr (record {
    core = f.core;
    at = f.at;
    given = f.given;
    is_core = f.is_core;
    own = f.own;
    first = f.first;
    least = λ d a l there own some. below_or_at d k l (λ less. f.least d a less there own some)
        (λ same. absurd (some (none a (subst (λ (i : ℕ). slice_get m.cores i ≡ Some a) same there) (subst (λ (i : ℕ). i % length s.handlers ≡ w) same own))));
  })

  -- it has one
  abbrev met : (k : ℕ) (a : AtCore) (given : Given) → slice_get m.cores k ≡ Some a → k % length s.handlers ≡ w → IsFirst given a.events → Searched k → Searched (suc k)
  met k a given there own first (inl before) = inr (record {
    core = k;
    at = a;
    given = given;
    is_core = there;
    own = own;
    first = first;
    least = λ d b l is mine some. below_or_at d k l (λ less. absurd (some (before d b less is mine))) (λ same. subst (λ (i : ℕ). place k ≤ place i) (sym same) (omega arith));
  })
  met k a given there own first (inr f) = by (nat_le (place f.core) (place k)) refl
    where
      by : (b : Bool) → nat_le (place f.core) (place k) ≡ b → Searched (suc k)
      by true t =
          let low : place f.core ≤ place k = grind (arith, nat_tests, t) in
          inr (record {
            core = f.core;
            at = f.at;
            given = f.given;
            is_core = f.is_core;
            own = f.own;
            first = f.first;
            least = λ d b l is mine some. below_or_at d k l (λ less. f.least d b less is mine some) (λ same. subst (λ (i : ℕ). place f.core ≤ place i) (sym same) low);
          })
      by false t =
          let high : place k ≤ place f.core = grind (arith, nat_tests, t) in
          inr (record {
            core = k;
            at = a;
            given = given;
            is_core = there;
            own = own;
            first = first;
            least = λ d b l is mine some. below_or_at d k l (λ less. let far = f.least d b less is mine some in omega (arith, high, far)) (λ same. subst (λ (i : ℕ). place k ≤ place i) (sym same) (omega arith));
          })

  abbrev one_more : (k : ℕ) → Searched k → Searched (suc k)
  one_more k before = by (slice_get m.cores k) refl
    where
      events : (a : AtCore) → slice_get m.cores k ≡ Some a → k % length s.handlers ≡ w → (l : List Given) → a.events ≡ l → Searched (suc k)
      events a there own [] e = passed k (λ b is mine. ap (λ (x : AtCore). x.events) (same_some (slice_get m.cores k) b a is there) ∙ e) before
      events a there own (given ∷ rest) e = met k a given there own (ap (λ l. slice_get l 0) e) before

      mine : (a : AtCore) → slice_get m.cores k ≡ Some a → (b : Bool) → ((k % length s.handlers) == w) ≡ b → Searched (suc k)
      mine a there true t = events a there (grind (arith, nat_tests, t)) a.events refl
      mine a there false t = passed k (λ b is own. absurd (grind (arith, nat_tests, t, own))) before

      by : (o : Option AtCore) → slice_get m.cores k ≡ o → Searched (suc k)
      by None e = passed k (λ a is own. absurd cc) before
      by (Some a) e = mine a e ((k % length s.handlers) == w) refl

  abbrev searched : (k : ℕ) → Searched k
  searched zero = inl (λ d a l there own. absurd (omega (arith, l)))
  searched (suc k) = one_more k (searched k)

-- What an actor does

module _ (F : Type 0) (s : Setup) (m : Moment) (needs : Needs F s m) where
  abbrev core_moves : (c : ℕ) (a : AtCore) (move : CoreMove) (back : Bool) → slice_get m.cores c ≡ Some a → is_back move ≡ back → MayMove s.terms m.pair a move → F ⊎ ((n : Moment) × MovesCore s c back m n)
  core_moves c a move back is side may = by (needs.settles c a move is may)
    where
      by : F ⊎ ((n : ℕ) × (stop : Stop) × (there : Course) × Comes s.terms n (moved s.terms move a).course stop there) → F ⊎ ((n : Moment) × MovesCore s c back m n)
      by (inl f) = inl f
      by (inr (n, stop, there, comes)) =
          inr (
            record { cores = set m.cores c (record (moved s.terms move a) { course = there }); workers = m.workers; pair = pair_behind move m.pair },
            record {
              move = move;
              before = a;
              after = record (moved s.terms move a) { course = there };
              is_it = is;
              side = side;
              steps = record { may = may; pair = refl; settles = (n, stop, comes, refl) };
              cores = refl;
              workers = refl;
            },
          )

  abbrev core_does : (c : ℕ) → Does F s m (actors.Core c)
  core_does c = by (slice_get m.cores c) refl
    where
      made : F ⊎ ((n : Moment) × MovesCore s c false m n) → Does F s m (actors.Core c)
      made (inl f) = inl f
      made (inr g) = inr (inr g)

      rests : (a : AtCore) → slice_get m.cores c ≡ Some a → IsCoreIdle s.terms a → Does F s m (actors.Core c)
      rests a is idle = inr (inl (λ b there. subst (λ (x : AtCore). IsCoreIdle s.terms x) (same_some (slice_get m.cores c) a b is there) idle))

      input : (a : AtCore) → slice_get m.cores c ≡ Some a → step s.terms a.course ≡ Stops Rests → (l : List Input) → a.inputs ≡ l → Does F s m (actors.Core c)
      input a is stops [] e = rests a is (inr (inr (stops, e)))
      input a is stops (i ∷ l) e = made (core_moves c a (Loads i) false is refl (Rests, stops, ap (λ k. slice_get k 0) e))

      ask : (a : AtCore) → slice_get m.cores c ≡ Some a → (ask : Ask) (mark : ℕ) → step s.terms a.course ≡ Stops (Wants (Reserve ask mark)) → F ⊎ (m.pair.stamp < 2 ^ 31) → Does F s m (actors.Core c)
      ask a is q mark stops (inl f) = inl f
      ask a is q mark stops (inr low) = made (core_moves c a (Asks (look_at m.pair q.bytes mark)) false is refl (Wants (Reserve q mark), stops, (refl, low)))

      release : (a : AtCore) → slice_get m.cores c ≡ Some a → (charge : Charge) → step s.terms a.course ≡ Stops (Wants (Release charge)) → F ⊎ IsOut m.pair charge → Does F s m (actors.Core c)
      release a is charge stops (inl f) = inl f
      release a is charge stops (inr out) = made (core_moves c a (Frees (free_at m.pair charge)) false is refl (Wants (Release charge), stops, (refl, out.0, out.1)))

      event : (a : AtCore) → slice_get m.cores c ≡ Some a → (event : Event) → step s.terms a.course ≡ Stops (Wants (Emit event)) → (u : Under) × (a.course.under ≡ Some u) → Does F s m (actors.Core c)
      event a is e stops (u, under) = made (core_moves c a (Emits (given_of s.terms a.course u e)) false is refl (Wants (Emit e), stops, given_under s.terms a.course u e under))

      stop : (a : AtCore) → slice_get m.cores c ≡ Some a → (stop : Stop) → step s.terms a.course ≡ Stops stop → Does F s m (actors.Core c)
      stop a is Fills e = rests a is (inl e)
      stop a is Finishes e = rests a is (inr (inl e))
      stop a is Rests e = input a is e a.inputs refl
      stop a is (Wants (Reserve q mark)) e = ask a is q mark e (needs.stamps c a q mark is e)
      stop a is (Wants (Release charge)) e = release a is charge e (needs.releases c a charge is e)
      stop a is (Wants (Emit ev)) e = event a is ev e (under_of s.terms a.course (Emit ev) e)
      stop a is (Wants Rest) e = absurd (wants_no_rest s.terms a.course e)

      stopped : (a : AtCore) → slice_get m.cores c ≡ Some a → F ⊎ ((stop : Stop) × (step s.terms a.course ≡ Stops stop)) → Does F s m (actors.Core c)
      stopped a is (inl f) = inl f
      stopped a is (inr (st, e)) = stop a is st e

      by : (o : Option AtCore) → slice_get m.cores c ≡ o → Does F s m (actors.Core c)
      by None e = inr (inl (λ a there. absurd cc))
      by (Some a) e = stopped a e (needs.stops c a e)

  abbrev back_does : (c : ℕ) → Does F s m (actors.Back c)
  back_does c = by (slice_get m.cores c) refl
    where
      made : F ⊎ ((n : Moment) × MovesCore s c true m n) → Does F s m (actors.Back c)
      made (inl f) = inl f
      made (inr g) = inr (inr g)

      rests : (a : AtCore) → slice_get m.cores c ≡ Some a → IsBackIdle a → Does F s m (actors.Back c)
      rests a is idle = inr (inl (λ b there. subst (λ (x : AtCore). IsBackIdle x) (same_some (slice_get m.cores c) a b is there) idle))

      under : (a : AtCore) → slice_get m.cores c ≡ Some a → (r : Reply) → IsFirst r a.answers → (o : Option Under) → a.course.under ≡ o → Does F s m (actors.Back c)
      under a is r first None e = made (core_moves c a (TakesBack r) true is refl (e, first))
      under a is r first (Some u) e = rests a is (inr (u, e))

      answers : (a : AtCore) → slice_get m.cores c ≡ Some a → (l : List Reply) → a.answers ≡ l → Does F s m (actors.Back c)
      answers a is [] e = rests a is (inl e)
      answers a is (r ∷ l) e = under a is r (ap (λ k. slice_get k 0) e) a.course.under refl

      by : (o : Option AtCore) → slice_get m.cores c ≡ o → Does F s m (actors.Back c)
      by None e = inr (inl (λ a there. absurd cc))
      by (Some a) e = answers a e a.answers refl

  abbrev work_does : (w : ℕ) → Does F s m (actors.Work w)
  work_does w = by (slice_get m.workers w) refl
    where
      search : (x : AtWorker) → slice_get m.workers w ≡ Some x → x.hand ≡ None → Searched s w m (last_of x.served) (length m.cores) → Does F s m (actors.Work w)
      search x is empty (inl none) = inr (inl (λ y there. let same = same_some (slice_get m.workers w) x y is there in
          (subst (λ (z : AtWorker). z.hand ≡ None) same empty, λ c a core own. none c a (slice_get_within m.cores c a core) core own)))
      search x is empty (inr f) =
          inr (inr (
            record { cores = set m.cores f.core (record f.at { events = drop 1 f.at.events }); workers = set m.workers w (record x { hand = Some (taken f.core f.given) }); pair = m.pair },
            inl (
              record {
                worker = x;
                core = f.core;
                at = f.at;
                given = f.given;
                is_it = is;
                empty = empty;
                own = f.own;
                is_core = f.is_core;
                first = f.first;
                cores = refl;
                workers = refl;
                pair = refl;
              },
              λ d a there own some. f.least d a (slice_get_within m.cores d a there) there own some,
            ),
          ))

      give : (x : AtWorker) (h : InHand) (charge : Charge) → slice_get m.workers w ≡ Some x → x.hand ≡ Some h → next_owed (handler_at s.handlers w) h ≡ Some charge → F ⊎ IsOut m.pair charge → Does F s m (actors.Work w)
      give x h charge is has next (inl f) = inl f
      give x h charge is has next (inr out) =
          inr (inr (
            record { cores = m.cores; workers = set m.workers w (record x { hand = Some (given_back (handler_at s.handlers w) (free_at m.pair charge) h) }); pair = behind_free m.pair (free_at m.pair charge) },
            inr (inl (record {
              worker = x;
              hand = h;
              charge = charge;
              is_it = is;
              has = has;
              next = next;
              room = out.0;
              early = out.1;
              cores = refl;
              workers = refl;
              pair = refl;
            })),
          ))

      answer : (x : AtWorker) (h : InHand) → slice_get m.workers w ≡ Some x → x.hand ≡ Some h → next_owed (handler_at s.handlers w) h ≡ None → F ⊎ ((at : AtCore) × (slice_get m.cores h.core ≡ Some at)) → Does F s m (actors.Work w)
      answer x h is has done (inl f) = inl f
      answer x h is has done (inr (at, there)) =
          inr (inr (
            record { cores = set m.cores h.core (record at { answers = at.answers ++ reply_of (handler_at s.handlers w) h ∷ [] }); workers = set m.workers w (record { hand = None; served = x.served ++ h.core ∷ [] }); pair = m.pair },
            inr (inr (record {
              worker = x;
              hand = h;
              at = at;
              is_it = is;
              has = has;
              done = done;
              is_core = there;
              cores = refl;
              workers = refl;
              pair = refl;
            })),
          ))

      serve : (x : AtWorker) (h : InHand) → slice_get m.workers w ≡ Some x → x.hand ≡ Some h → (o : Option Charge) → next_owed (handler_at s.handlers w) h ≡ o → Does F s m (actors.Work w)
      serve x h is has None e = answer x h is has e (needs.known w x h is has)
      serve x h is has (Some charge) e = give x h charge is has e (needs.owed w x h charge is has e)

      hand : (x : AtWorker) → slice_get m.workers w ≡ Some x → (o : Option InHand) → x.hand ≡ o → Does F s m (actors.Work w)
      hand x is None e = search x is e (searched s w m (last_of x.served) (length m.cores))
      hand x is (Some h) e = serve x h is e (next_owed (handler_at s.handlers w) h) refl

      by : (o : Option AtWorker) → slice_get m.workers w ≡ o → Does F s m (actors.Work w)
      by None e = inr (inl (λ x there. absurd cc))
      by (Some x) e = hand x e x.hand refl

  abbrev pub does : (actor : Actor) → Does F s m actor
  does (actors.Back c) = back_does c
  does (actors.Work w) = work_does w
  does (actors.Core c) = core_does c
