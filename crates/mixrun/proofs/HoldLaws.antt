-- What holds at a moment holds at the opening one, and is kept.
use Rattle.std.proofs.Common.{◌≡◌, ℕ, zero, suc, ◌+◌, ◌==◌, ◌%◌, Bool, true, false, cond, List, [], ◌∷◌, ◌++◌, Option, Some, None, refl, ap, sym, ◌∙◌, subst, arith, append-nil, map, flat_map, take, length, replicate, slice_get}
use Rattle.std.specs.Prelude.{nat_lt}
use Rattle.std.specs.List.{list_all}
use Rattle.histbook.specs.Budget.{total, once_between}
use Rattle.std.proofs.lemmas.List.{length-set}
use Rattle.std.proofs.lemmas.Bool.Decides.{nat_tests}
use Rattle.streamdefs.specs.Packet.{Packet}
use Rattle.streamdefs.specs.Lists.{Each, EachNumbered, IsPrefixOf}
use Rattle.streamdefs.specs.Lawful.{handler_at, Lawful, segs_in}
use Rattle.streamdefs.specs.SoFar.{LawfulSoFar}
use Rattle.streamdefs.specs.Core.{Line, idle_core, Along}
use Rattle.streamdefs.specs.Order.{OneHistory, FreesInOrder, FreesRise, LooksRise, AreAllAbove, Rise, frees_of_answers, along_served}
use Rattle.coretable.specs.Course.{Course, Under, no_course}
use Rattle.coretable.specs.Lawfully.{run_at, line_at}
use Rattle.coretable.proofs.Soundness.{begins_soundly, lawful_so_far}
use Rattle.mixrun.specs.declared.actor.Actor.{Actor}
use Rattle.mixrun.specs.Moment.{Setup, Input, Given, AtCore, AtWorker, Pair, Moment}
use Rattle.mixrun.specs.Steps.{Steps, Offers, opening, opening_core, opening_worker}
use Rattle.mixrun.specs.AtMoment.{line_under, lines_in, frees_in_hand, packet_in, run_so_far, moves_at, looks_at}
use Rattle.mixrun.specs.Ledger.{AreMarks, LeadsTo}
use Rattle.mixrun.proofs.ListLemmas.{total_set}
use Rattle.mixrun.proofs.LedgerLemmas.{leads_on}
use Rattle.mixrun.proofs.CoreSums.{core_moves, core_looks}
use Rattle.mixrun.specs.Queue.{Waits, waiting, in_hand, IsReply}
use Rattle.mixrun.specs.Books.{IsFed, AreLoadable, handler_of}
use Rattle.mixrun.specs.AtEnd.{run_of, AllOver, AllIdle, IsCountedAt}
use Rattle.mixrun.specs.Holds.{Holds}
use Rattle.mixrun.proofs.QueueSteps.{stays_in_order, at_each}
use Rattle.mixrun.proofs.BookSteps.{stays_fed}
use Rattle.mixrun.proofs.CountSteps.{stays_counted}
use Rattle.mixrun.proofs.BudgetSteps.{stays_balanced, moves_sum, looks_sum, worker_moves, nothing_comes}
use Rattle.mixrun.proofs.RiseSteps.{stays_rising}
use Rattle.mixrun.proofs.EndLaws.{all_lawful, each}
use Rattle.mixrun.proofs.EndHistory.{one_history, lines_are, no_answers}
use Rattle.mixrun.specs.Freed.{AreFreed}
use Rattle.mixrun.specs.Served.{frees_done, answers_at, RisesAlong}
use Rattle.mixrun.proofs.FreeSteps.{stays_freed}
use Rattle.mixrun.proofs.ServedSteps.{stays_served, map_still}
use Rattle.prio_budget.specs.declared.free.Free.{Free}

pub steps_keep : (s : Setup) (m n : Moment) (actor : Actor) → AreMarks s.terms.marks → Steps s actor m n → Holds s m → Holds s n
steps_keep s m n actor marks step h = record {
  order = stays_in_order s m n h.order actor step;
  fed = stays_fed s m n h.order h.fed actor step;
  counted = stays_counted s m n h.order h.counted actor step;
  balanced = stays_balanced s marks m n h.balanced actor step;
  rising = stays_rising s m n h.balanced h.rising actor step;
  freed = stays_freed s m n h.order h.fed h.balanced h.freed actor step;
  served = stays_served s m n h.order h.counted h.freed h.served actor step;
}

-- So far

each_numbered : {X : Type 0} (P : ℕ → X → Type 0) (xs : List X) (k : ℕ) → ((i : ℕ) (x : X) → slice_get xs i ≡ Some x → (j : ℕ) → j ≡ k + i → P j x) → EachNumbered P k xs
each_numbered P [] k h = tt
each_numbered P (x ∷ xs) k h = (h 0 x refl k (omega arith), each_numbered P xs (suc k) (λ i y e j same. h (suc i) y e j (omega arith)))

prefix_more : {X : Type 0} (xs ys zs : List X) → IsPrefixOf xs ys → IsPrefixOf xs (ys ++ zs)
prefix_more [] ys zs h = refl
prefix_more (x ∷ xs) [] zs h = absurd cc
prefix_more (x ∷ xs) (y ∷ ys) zs h =
    let head : x ≡ y = cc in
    let tail : xs ≡ take (length xs) ys = cc in
    λ i. head i ∷ prefix_more xs ys zs tail i

map_joined : {A B : Type 0} (f : A → B) (xs ys : List A) → map f (xs ++ ys) ≡ map f xs ++ map f ys
map_joined f [] ys = refl
map_joined f (x ∷ xs) ys = ap (λ l. f x ∷ l) (map_joined f xs ys)

pub line_same : (m : Course) → line_at m ≡ line_under m
line_same m = by m.under refl
  where
    by : (o : Option Under) → m.under ≡ o → line_at m ≡ line_under m
    by None e = rw (line_at, e) refl
    by (Some u) e = rw (line_at, e) refl

pub book_so_far : (s : Setup) (c : ℕ) (a : AtCore) → IsFed s.terms s.last (handler_of s c) a → LawfulSoFar (run_so_far s c a) (line_under a.course)
book_so_far s c a fed =
    let h = lawful_so_far s.terms s.last (handler_of s c) a.course fed.sound in
    let same = subst (λ (o : Option Line). LawfulSoFar (run_at s.terms s.last (handler_of s c) a.course) o) (line_same a.course) h in
    record {
      segs = subst (λ (l : List (Packet × ℕ)). IsPrefixOf (segs_in (lines_in a.course)) l) (sym (map_joined (λ (p : Packet). (p, p.now)) a.course.packets (flat_map packet_in a.inputs))) (prefix_more (segs_in (lines_in a.course)) (map (λ (p : Packet). (p, p.now)) a.course.packets) (map (λ (p : Packet). (p, p.now)) (flat_map packet_in a.inputs)) same.segs);
      conversations = same.conversations;
      dues = same.dues;
      ends = same.ends;
      answers = same.answers;
      window = same.window;
      looks = same.looks;
      frees = same.frees;
    }

-- At the end

pub at_the_end : (s : Setup) (m : Moment) → Holds s m → AllOver s m → Lawful (run_of s m)
at_the_end s m h over = all_lawful s m h.order h.fed h.counted over

each_mapped : {A B : Type 0} (P : B → Type 0) (f : A → B) (xs : List A) → ((i : ℕ) (x : A) → slice_get xs i ≡ Some x → P (f x)) → Each P (map f xs)
each_mapped P f [] h = tt
each_mapped P f (x ∷ xs) h = (h 0 x refl, each_mapped P f xs (λ i y e. h (suc i) y e))

map_equal : {A B : Type 0} (f g : A → B) (xs : List A) → ((i : ℕ) (x : A) → slice_get xs i ≡ Some x → f x ≡ g x) → map f xs ≡ map g xs
map_equal f g [] h = refl
map_equal f g (x ∷ xs) h = (λ i. h 0 x refl i ∷ map_equal f g xs (λ k y e. h (suc k) y e) i)

map_twice : {A B C : Type 0} (f : B → C) (g : A → B) (xs : List A) → map f (map g xs) ≡ map (λ x. f (g x)) xs
map_twice f g [] = refl
map_twice f g (x ∷ xs) = ap (λ l. f (g x) ∷ l) (map_twice f g xs)

pub history_at_end : (s : Setup) (m : Moment) → Holds s m → AllOver s m → AllIdle m → m.pair.used ≡ 0 → OneHistory (run_of s m)
history_at_end s m h over idle none = record {
  budget = one_history s m h.order h.fed h.counted over idle h.balanced none;
  order = (
    each s m h.order h.fed h.counted over FreesRise (λ c a there. subst (Along s.terms (FreesInOrder s.terms) idle_core) (lines_are s m h.order h.fed h.counted over idle c a there) (h.freed.cores c a there).lines),
    each s m h.order h.fed h.counted over LooksRise (λ c a there. subst (AreAllAbove []) (lines_are s m h.order h.fed h.counted over idle c a there) (h.rising c a there)),
    each_mapped (λ list. Rise (along_served (map frees_of_answers (run_of s m).books) [] list)) (λ (x : AtWorker). x.served) m.workers (λ w x there. one w x there),
  );
}
  where
    at_core : (c : ℕ) (a : AtCore) → slice_get m.cores c ≡ Some a → answers_at a ≡ frees_of_answers a.course.lines
    at_core c a there =
        (λ i. frees_of_answers (lines_are s m h.order h.fed h.counted over idle c a there i) ++ map frees_done (no_answers s m h.order h.fed h.counted over idle c a there i))
        ∙ append-nil (frees_of_answers a.course.lines)

    same : map answers_at m.cores ≡ map frees_of_answers (run_of s m).books
    same = map_equal answers_at (λ (a : AtCore). frees_of_answers a.course.lines) m.cores at_core ∙ sym (map_twice frees_of_answers (λ (a : AtCore). a.course.lines) m.cores)

    no_hand : (x : AtWorker) → x.hand ≡ None → frees_in_hand x ≡ []
    no_hand x e = rw (frees_in_hand, e) refl

    one : (w : ℕ) (x : AtWorker) → slice_get m.workers w ≡ Some x → Rise (along_served (map frees_of_answers (run_of s m).books) [] x.served)
    one w x there =
        subst Rise ((λ i. along_served (same i) [] x.served ++ no_hand x (idle w x there) i) ∙ append-nil (along_served (map frees_of_answers (run_of s m).books) [] x.served)) (h.served w x there).rises

-- At first

pub replicated : {A : Type 0} (n : ℕ) (x : A) (i : ℕ) (a : A) → slice_get (replicate n x) i ≡ Some a → a ≡ x
replicated zero x i a e = absurd cc
replicated (suc n) x zero a e = let same : x ≡ a = cc in sym same
replicated (suc n) x (suc i) a e = replicated n x i a e

pub replicate_size : {A : Type 0} (n : ℕ) (x : A) → length (replicate n x) ≡ n
replicate_size zero x = refl
replicate_size (suc n) x = ap suc (replicate_size n x)

replicate_sum : {A : Type 0} (f : A → ℕ) (n : ℕ) (x : A) → f x ≡ 0 → total f (replicate n x) ≡ 0
replicate_sum f zero x e = refl
replicate_sum f (suc n) x e = omega (arith, e, replicate_sum f n x e)

empty_history : (limit : ℕ) → LeadsTo limit (record { stamp = 0; used = 0 }) [] []
empty_history limit = record {
  count = refl;
  used = refl;
  room = omega arith;
  once = λ n. none n;
  found = tt;
  fair = tt;
  within = λ n. omega arith;
}
  where
    none : (n : ℕ) → 0 ≡ once_between 0 (0 + 0) n
    none n = grind (arith, nat_tests)

module _ (s : Setup) (cores : ℕ) where
  abbrev first : Moment
  first = opening cores (length s.handlers)

  no_hand : (c : ℕ) (o : Option AtWorker) → ((x : AtWorker) → o ≡ Some x → x ≡ opening_worker) → in_hand c o ≡ []
  no_hand c None h = refl
  no_hand c (Some x) h = ap (λ y. in_hand c (Some y)) (h x refl)

  none_waits : (c : ℕ) → waiting s c first opening_core ≡ []
  none_waits c = append-nil (in_hand c (slice_get first.workers (c % length s.handlers)))
      ∙ no_hand c (slice_get first.workers (c % length s.handlers)) (λ x e. replicated (length s.handlers) opening_worker (c % length s.handlers) x e)

  opening_waits : (c : ℕ) → Waits s.terms no_course (waiting s c first opening_core)
  opening_waits c = subst (λ (l : List Given). Waits s.terms no_course l) (sym (none_waits c)) (record { within = omega arith; queue = refl; seen = tt; emitting = tt })

  at_core : (P : ℕ → AtCore → Type 0) → ((c : ℕ) → P c opening_core) → (c : ℕ) (a : AtCore) → slice_get first.cores c ≡ Some a → P c a
  at_core P h c a e = subst (P c) (sym (replicated cores opening_core c a e)) (h c)

  pub holds_at_first : Holds s first
  holds_at_first = record {
    order = record {
      waits = at_core (λ c a. Waits s.terms a.course (waiting s c first a)) opening_waits;
      replies = at_core (λ c a. Each (IsReply (handler_at s.handlers (c % length s.handlers))) a.answers) (λ c. tt);
      hands = λ w x h e has. let same : x.hand ≡ None = ap (λ (y : AtWorker). y.hand) (replicated (length s.handlers) opening_worker w x e) in absurd cc;
    };
    fed = at_core (λ c a. IsFed s.terms s.last (handler_of s c) a) (λ c. record { sound = begins_soundly s.terms s.last (handler_of s c); inputs = tt; until = omega arith });
    counted = record {
      counts = λ w x e c a f.
          let one : IsCountedAt s w opening_worker c opening_core = zeros ((c % length s.handlers) == w) in
          subst (λ (y : AtWorker). IsCountedAt s w y c a) (sym (replicated (length s.handlers) opening_worker w x e))
          (subst (λ (b : AtCore). IsCountedAt s w opening_worker c b) (sym (replicated cores opening_core c a f)) one);
      known = λ w x e. subst (λ (y : AtWorker). list_all (λ c. nat_lt c (length first.cores)) y.served ≡ true) (sym (replicated (length s.handlers) opening_worker w x e)) refl;
      workers = replicate_size (length s.handlers) opening_worker;
    };
    balanced =
        leads_on s.terms.marks.limit first.pair first.pair [] [] (moves_at first) [] [] (looks_at first) (empty_history s.terms.marks.limit) (nothing_comes s.terms.marks.limit first.pair (omega arith))
        (λ w. omega (arith, moves_sum w first, replicate_sum (core_moves w) cores opening_core refl, replicate_sum (worker_moves w) (length s.handlers) opening_worker refl))
        (λ v. omega (arith, looks_sum v first, replicate_sum (core_looks v) cores opening_core refl));
    rising = at_core (λ c a. AreAllAbove [] (lines_in a.course)) (λ c. tt);
    freed = record {
      cores = at_core (λ c a. AreFreed s.terms a) (λ c. record { lines = tt; settled = tt; answers = tt });
      hands = λ w x hand e has. let same : x.hand ≡ None = ap (λ (y : AtWorker). y.hand) (replicated (length s.handlers) opening_worker w x e) in absurd cc;
      known = λ w x hand e has. let same : x.hand ≡ None = ap (λ (y : AtWorker). y.hand) (replicated (length s.handlers) opening_worker w x e) in absurd cc;
    };
    served = λ w x e. subst (RisesAlong (map answers_at first.cores) 0) (sym (replicated (length s.handlers) opening_worker w x e)) (record { rises = tt; below = tt });
  }
    where
      zeros : (b : Bool) → ◌≡◌ {A = ℕ} 0 (cond b 0 0)
      zeros true = refl
      zeros false = refl

-- An offer

module _ (s : Setup) (m n : Moment) (c : ℕ) (input : Input) (offer : Offers c input m n)
    (fits : (a : AtCore) → slice_get m.cores c ≡ Some a → AreLoadable s.last a.course.number a.course.clock (a.inputs ++ input ∷ [])) (h : Holds s m) where
  abbrev later : AtCore
  later = record offer.at { inputs = offer.at.inputs ++ input ∷ [] }

  same_waiting : (d : ℕ) (a : AtCore) → waiting s d n a ≡ waiting s d m a
  same_waiting d a = ap (λ (l : List AtWorker). map (λ r. r.given) a.answers ++ in_hand d (slice_get l (d % length s.handlers)) ++ a.events) offer.workers

  changes : (P : ℕ → AtCore → Type 0) → P c later → ((d : ℕ) (a : AtCore) → slice_get m.cores d ≡ Some a → P d a) → (d : ℕ) (a : AtCore) → slice_get n.cores d ≡ Some a → P d a
  changes P here others = at_each P m.cores n.cores c offer.at later offer.is_it offer.cores here (λ d a other there. others d a there)

  pub offers_keep : Holds s n
  offers_keep = record {
    order = record {
      waits = changes (λ d a. Waits s.terms a.course (waiting s d n a))
          (subst (λ (l : List Given). Waits s.terms offer.at.course l) (sym (same_waiting c offer.at)) (h.order.waits c offer.at offer.is_it))
          (λ d a there. subst (λ (l : List Given). Waits s.terms a.course l) (sym (same_waiting d a)) (h.order.waits d a there));
      replies = changes (λ d a. Each (IsReply (handler_at s.handlers (d % length s.handlers))) a.answers) (h.order.replies c offer.at offer.is_it) (λ d a there. h.order.replies d a there);
      hands = λ w x hand there has. h.order.hands w x hand (subst (λ (l : List AtWorker). slice_get l w ≡ Some x) offer.workers there) has;
    };
    fed = changes (λ d a. IsFed s.terms s.last (handler_of s d) a) (record { sound = (h.fed c offer.at offer.is_it).sound; inputs = fits offer.at offer.is_it; until = (h.fed c offer.at offer.is_it).until }) (λ d a there. h.fed d a there);
    counted = record {
      counts = λ w x e. let was = subst (λ (l : List AtWorker). slice_get l w ≡ Some x) offer.workers e in
          changes (λ d a. IsCountedAt s w x d a) (h.counted.counts w x was c offer.at offer.is_it) (λ d a there. h.counted.counts w x was d a there);
      known = λ w x e.
          ap (λ k. list_all (λ d. nat_lt d k) x.served) (ap (length {A = AtCore}) offer.cores ∙ length-set m.cores c later) ∙ h.counted.known w x (subst (λ (l : List AtWorker). slice_get l w ≡ Some x) offer.workers e);
      workers = ap (length {A = AtWorker}) offer.workers ∙ h.counted.workers;
    };
    balanced =
        subst (λ (p : Pair). LeadsTo s.terms.marks.limit p (moves_at n) (looks_at n)) (sym offer.pair)
        (leads_on s.terms.marks.limit m.pair m.pair (moves_at m) [] (moves_at n) (looks_at m) [] (looks_at n) h.balanced (nothing_comes s.terms.marks.limit m.pair h.balanced.room)
        (λ w. omega (arith, moves_sum w m, moves_sum w n, ap (total (core_moves w)) offer.cores, ap (total (worker_moves w)) offer.workers, total_set (core_moves w) m.cores c offer.at later offer.is_it))
        (λ v. omega (arith, looks_sum v m, looks_sum v n, ap (total (core_looks v)) offer.cores, total_set (core_looks v) m.cores c offer.at later offer.is_it)));
    rising = changes (λ d a. AreAllAbove [] (lines_in a.course)) (h.rising c offer.at offer.is_it) (λ d a there. h.rising d a there);
    freed = record {
      cores = changes (λ d a. AreFreed s.terms a)
          (let was = h.freed.cores c offer.at offer.is_it in record { lines = was.lines; settled = was.settled; answers = was.answers }) (λ d a there. h.freed.cores d a there);
      hands = λ w x hand there has. h.freed.hands w x hand (subst (λ (l : List AtWorker). slice_get l w ≡ Some x) offer.workers there) has;
      known = λ w x hand there has.
          let size : length n.cores ≡ length m.cores = ap (length {A = AtCore}) offer.cores ∙ length-set m.cores c later in
          let less = h.freed.known w x hand (subst (λ (l : List AtWorker). slice_get l w ≡ Some x) offer.workers there) has in
          omega (arith, less, size);
    };
    served = λ w x there.
        subst (λ (p : Pair). RisesAlong (map answers_at n.cores) p.stamp x) (sym offer.pair)
        (subst (λ (l : List (List (List Free))). RisesAlong l m.pair.stamp x) (sym (ap (map answers_at) offer.cores ∙ map_still answers_at m.cores c offer.at later offer.is_it refl))
        (h.served w x (subst (λ (l : List AtWorker). slice_get l w ≡ Some x) offer.workers there)));
  }
