-- Each step of the machine adds one move, or one look, with the pair that it found; so the budget's history so far leads to the pair at every moment.
use Rattle.std.proofs.Common.{◌≡◌, ℕ, suc, ◌+◌, ◌-◌, ◌*◌, ◌/◌, ◌<◌, ◌≤◌, min, Bool, true, false, List, [], ◌∷◌, ◌++◌, Option, Some, None, refl, ap, sym, ◌∙◌, subst, arith, map, flat_map, slice_get, drop, inl, inr, ◌⊎◌}
use Rattle.std.specs.Prelude.{nat_le}
use Rattle.std.proofs.lemmas.Bool.Decides.{nat_tests}
use Rattle.prio_budget.specs.declared.free.Free.{Free}
use Rattle.prio_budget.specs.declared.look.Look.{Look}
use Rattle.histbook.specs.declared.look_entry.LookEntry.{LookEntry}
use Rattle.histbook.specs.Budget.{BudgetMove, Release, total}
use Rattle.histbook.specs.Moves.{grant_of}
use Rattle.histbook.proofs.BudgetLemmas.{total_append}
use Rattle.streamdefs.specs.Marks.{Marks, mark}
use Rattle.streamdefs.specs.Lawful.{handler_at}
use Rattle.std.proofs.lemmas.Nat.{div_below}
use Rattle.std.proofs.Math.Nat.{mul-le-mul_left}
use Rattle.streamdefs.specs.View.{Ask}
use Rattle.streamdefs.specs.Reorder.{Charge}
use Rattle.streamdefs.specs.Terms.{Terms}
use Rattle.streamdefs.specs.Direction.{Next}
use Rattle.streamdefs.specs.Direction.Next.{Asks as Next_asks, Gives as Next_gives, Rests as Next_rests}
use Rattle.streamdefs.specs.Convo.{Act, Convo, looks_in, events_in, priority_in_force, Event}
use Rattle.streamdefs.specs.Want.{want, next_move}
use Rattle.streamdefs.specs.Core.{found_by}
use Rattle.streamdefs.specs.Order.{moves_of}
use Rattle.streamdefs.specs.Want.Want.{Reserve, Release as Lets_go, Emit, Rest}
use Rattle.coretable.specs.Course.{Under, Stop, core_of, want_of, step}
use Rattle.coretable.specs.Course.Step.{Stops}
use Rattle.coretable.specs.Course.Stop.{Wants, Fills, Rests, Finishes}
use Rattle.mixrun.specs.declared.actor.Actor.{Actor}
use Rattle.mixrun.specs.declared.actor.Actor.TheVariants as actors
use Rattle.mixrun.specs.Moment.{Setup, Reply, AtCore, InHand, AtWorker, Pair, Moment}
use Rattle.mixrun.specs.Moves.{CoreMove, look_at, free_at, behind_look, behind_free, pair_behind, budget_moves, budget_looks, Serves, taken, given_back, reply_of}
use Rattle.mixrun.specs.Moves.CoreMove.{Loads, Asks, Frees, Emits, TakesBack}
use Rattle.mixrun.specs.Steps.{MayMove, MovesCore, TakesOne, GivesOne, AnswersOne, Steps}
use Rattle.mixrun.specs.AtMoment.{lines_in, frees_waiting, frees_in_hand, lines_at, frees_at, moves_at, looks_at}
use Rattle.mixrun.specs.Ledger.{Grows, AreMarks, IsBalanced}
use Rattle.mixrun.proofs.ListLemmas.{total_flat, total_map, total_set, total_plus}
use Rattle.mixrun.proofs.LedgerLemmas.{Comes, leads_on}
use Rattle.mixrun.proofs.CoreSums.{line_moves, line_looks, core_moves, core_looks, wanting_entry, step_adds_moves, step_adds_looks}

-- The sums at a moment

abbrev pub freely : (BudgetMove → ℕ) → Free → ℕ
freely w free = w (Release free)

abbrev pub worker_moves : (BudgetMove → ℕ) → AtWorker → ℕ
worker_moves w x = total (freely w) (frees_in_hand x)

abbrev waiting_moves : (BudgetMove → ℕ) → AtCore → ℕ
waiting_moves w a = total (freely w) (frees_waiting a)

abbrev entry_moves : (BudgetMove → ℕ) → AtCore → ℕ
entry_moves w a = total (line_moves w) (lines_in a.course)

pub moves_sum : (w : BudgetMove → ℕ) (m : Moment) → total w (moves_at m) ≡ total (core_moves w) m.cores + total (worker_moves w) m.workers
moves_sum w m =
    let split = total_append w (flat_map (λ line. moves_of line.act) (lines_at m)) (map Release (frees_at m)) in
    let lines = total_flat w (λ line. moves_of line.act) (lines_at m) in
    let cores = total_flat (line_moves w) (λ (a : AtCore). lines_in a.course) m.cores in
    let frees = total_map w Release (frees_at m) in
    let parts = total_append (freely w) (flat_map frees_in_hand m.workers) (flat_map frees_waiting m.cores) in
    let hands = total_flat (freely w) frees_in_hand m.workers in
    let waiting = total_flat (freely w) frees_waiting m.cores in
    let both = total_plus (entry_moves w) (waiting_moves w) m.cores in
    omega (arith, split, lines, cores, frees, parts, hands, waiting, both)

pub looks_sum : (v : Look → ℕ) (m : Moment) → total v (looks_at m) ≡ total (core_looks v) m.cores
looks_sum v m = total_flat v (λ line. map (λ look. look.look) (looks_in line.act)) (lines_at m) ∙ total_flat (line_looks v) (λ (a : AtCore). lines_in a.course) m.cores

-- what a moment has more than another one
pub record Gains (moves : List BudgetMove) (looks : List Look) (m n : Moment) : Type 0 where
  pub moves_grow : Grows moves (moves_at m) (moves_at n)
  pub looks_grow : Grows looks (looks_at m) (looks_at n)

core_gains : (s : Setup) (c : ℕ) (back : Bool) (m n : Moment) (h : MovesCore s c back m n) → Gains (budget_moves h.move) (budget_looks h.move) m n
core_gains s c back m n h = record {
  moves_grow = λ w.
      let now = moves_sum w n in
      let cores = ap (total (core_moves w)) h.cores in
      let workers = ap (total (worker_moves w)) h.workers in
      let changed = total_set (core_moves w) m.cores c h.before h.after h.is_it in
      omega (arith, moves_sum w m, now, cores, workers, changed, step_adds_moves s.terms h.move h.before h.after m.pair n.pair h.steps w);
  looks_grow = λ v.
      let cores = ap (total (core_looks v)) h.cores in
      let changed = total_set (core_looks v) m.cores c h.before h.after h.is_it in
      omega (arith, looks_sum v m, looks_sum v n, cores, changed, step_adds_looks s.terms h.move h.before h.after m.pair n.pair h.steps v);
}

take_gains : (s : Setup) (w : ℕ) (m n : Moment) → TakesOne s w m n → Gains [] [] m n
take_gains s w m n h = record {
  moves_grow = λ f.
      let cores = ap (total (core_moves f)) h.cores in
      let workers = ap (total (worker_moves f)) h.workers in
      let one_core = total_set (core_moves f) m.cores h.core h.at (record h.at { events = drop 1 h.at.events }) h.is_core in
      let one_worker = total_set (worker_moves f) m.workers w h.worker (record h.worker { hand = Some (taken h.core h.given) }) h.is_it in
      let nothing : worker_moves f h.worker ≡ 0 = rw h.empty refl in
      omega (arith, moves_sum f m, moves_sum f n, cores, workers, one_core, one_worker, nothing);
  looks_grow = λ v.
      let cores = ap (total (core_looks v)) h.cores in
      let one_core = total_set (core_looks v) m.cores h.core h.at (record h.at { events = drop 1 h.at.events }) h.is_core in
      omega (arith, looks_sum v m, looks_sum v n, cores, one_core);
}

-- the frees for an event in hand
hand_moves : (f : BudgetMove → ℕ) (x : AtWorker) (hand : InHand) → x.hand ≡ Some hand → worker_moves f x ≡ total (freely f) hand.frees
hand_moves f x hand e = rw e (total_append (freely f) hand.frees [] ∙ omega arith)

one_hand : (f : BudgetMove → ℕ) (hand : InHand) (served : List ℕ) → worker_moves f (record { hand = Some hand; served = served }) ≡ total (freely f) hand.frees
one_hand f hand served = total_append (freely f) hand.frees [] ∙ omega arith

abbrev hand_after : (s : Setup) (w : ℕ) (m n : Moment) → GivesOne s w m n → InHand
hand_after s w m n h = given_back (handler_at s.handlers w) (free_at m.pair h.charge) h.hand

give_gains : (s : Setup) (w : ℕ) (m n : Moment) (h : GivesOne s w m n) → Gains (Release (free_at m.pair h.charge) ∷ []) [] m n
give_gains s w m n h = record {
  moves_grow = λ f.
      let cores = ap (total (core_moves f)) h.cores in
      let workers = ap (total (worker_moves f)) h.workers in
      let one_worker = total_set (worker_moves f) m.workers w h.worker (record h.worker { hand = Some (hand_after s w m n h) }) h.is_it in
      let before = hand_moves f h.worker h.hand h.has in
      let after = total_append (freely f) h.hand.frees (free_at m.pair h.charge ∷ []) in
      let alone = one_hand f (hand_after s w m n h) h.worker.served in
      omega (arith, moves_sum f m, moves_sum f n, cores, workers, one_worker, before, after, alone);
  looks_grow = λ v. omega (arith, looks_sum v m, looks_sum v n, ap (total (core_looks v)) h.cores);
}

abbrev reply_after : (s : Setup) (w : ℕ) (m n : Moment) → AnswersOne s w m n → Reply
reply_after s w m n h = reply_of (handler_at s.handlers w) h.hand

abbrev core_answered : (s : Setup) (w : ℕ) (m n : Moment) → AnswersOne s w m n → AtCore
core_answered s w m n h = record h.at { answers = h.at.answers ++ reply_after s w m n h ∷ [] }

answer_gains : (s : Setup) (w : ℕ) (m n : Moment) → AnswersOne s w m n → Gains [] [] m n
answer_gains s w m n h = record {
  moves_grow = λ f.
      let cores = ap (total (core_moves f)) h.cores in
      let workers = ap (total (worker_moves f)) h.workers in
      let one_core = total_set (core_moves f) m.cores h.hand.core h.at (core_answered s w m n h) h.is_core in
      let one_worker = total_set (worker_moves f) m.workers w h.worker (record { hand = None; served = h.worker.served ++ h.hand.core ∷ [] }) h.is_it in
      let before = hand_moves f h.worker h.hand h.has in
      let more = total_flat (freely f) (λ (r : Reply). r.frees) (h.at.answers ++ reply_after s w m n h ∷ []) in
      let less = total_flat (freely f) (λ (r : Reply). r.frees) h.at.answers in
      let split = total_append (λ (r : Reply). total (freely f) r.frees) h.at.answers (reply_after s w m n h ∷ []) in
      omega (arith, moves_sum f m, moves_sum f n, cores, workers, one_core, one_worker, before, more, less, split);
  looks_grow = λ v.
      let cores = ap (total (core_looks v)) h.cores in
      let one_core = total_set (core_looks v) m.cores h.hand.core h.at (core_answered s w m n h) h.is_core in
      omega (arith, looks_sum v m, looks_sum v n, cores, one_core);
}

-- What comes at a pair

share_fits : (x k n : ℕ) → k ≤ n → 1 ≤ n → x * k / n ≤ x
share_fits x k n few some =
    let product : x * k ≤ x * n = mul-le-mul_left x few in
    let more : suc x * n ≡ x * n + n = omega arith in
    let below : x * k < suc x * n = omega arith in
    let last : x * k / n < suc x = div_below (x * k) n (suc x) (omega arith) below in
    omega arith

mark_fits : (m : Marks) (priority : ℕ) → AreMarks m → mark m priority ≤ m.limit
mark_fits m priority h =
    let most : min priority (m.priorities - 1) + 1 ≤ m.priorities = omega (arith, h.1) in
    let step = share_fits (m.limit - m.base) (min priority (m.priorities - 1) + 1) m.priorities most h.1 in
    omega (arith, h.0, step)

module _ (limit : ℕ) (p : Pair) (room : p.used ≤ limit) where
  pub nothing_comes : Comes limit p p [] []
  nothing_comes = record {
    looks_here = tt;
    moves_here = tt;
    stamps_here = tt;
    one_at_most = omega arith;
    stamp = omega arith;
    used = omega arith;
    room = room;
  }

  free_comes : (charge : Charge) → charge.bytes ≤ p.used → Comes limit p (behind_free p (free_at p charge)) (Release (free_at p charge) ∷ []) []
  free_comes charge fits = record {
    looks_here = tt;
    moves_here = (omega arith, tt);
    stamps_here = (refl, tt);
    one_at_most = omega arith;
    stamp = omega arith;
    used = omega arith;
    room = omega arith;
  }

  look_comes : (bytes mark : ℕ) → mark ≤ limit → Comes limit p (behind_look p (look_at p bytes mark)) (grant_of (look_at p bytes mark)) ((look_at p bytes mark).look ∷ [])
  look_comes bytes mark low = by (nat_le (p.used + bytes) mark) refl
    where
      with_it : Bool → LookEntry
      with_it b = record { asked = bytes; granted = b; look = record { stamp = p.stamp; found = p.used } }

      by : (b : Bool) → nat_le (p.used + bytes) mark ≡ b → Comes limit p (behind_look p (with_it b)) (grant_of (with_it b)) ((with_it b).look ∷ [])
      by true e =
          let fits : p.used + bytes ≤ limit = grind (arith, nat_tests) in
          record {
            looks_here = ((refl, refl), tt);
            moves_here = ((omega arith, omega arith, fits), tt);
            stamps_here = (refl, tt);
            one_at_most = omega arith;
            stamp = omega arith;
            used = omega arith;
            room = fits;
          }
      by false e = record {
        looks_here = ((refl, refl), tt);
        moves_here = tt;
        stamps_here = tt;
        one_at_most = omega arith;
        stamp = omega arith;
        used = omega arith;
        room = room;
      }

-- An entry asks up to the mark of its conversation, which is within the limit.

not_asked : (terms : Terms) (c : Convo) (act : Act) (emitted : ℕ) (ask : Ask) (k : ℕ) (e : Option Event) → slice_get (events_in terms c act) emitted ≡ e
    → next_move terms c act ≡ Next_rests → want terms c act emitted ≡ Reserve ask k → ⊥
not_asked terms c act emitted ask k None f e h = let g = rw (want, e, f) at h in cc
not_asked terms c act emitted ask k (Some x) f e h = let g = rw (want, e, f) at h in cc

pub marked_by : (terms : Terms) (c : Convo) (act : Act) (emitted : ℕ) (ask : Ask) (k : ℕ) (next : Next) → next_move terms c act ≡ next → want terms c act emitted ≡ Reserve ask k
    → k ≡ mark terms.marks (priority_in_force terms c)
marked_by terms c act emitted ask k (Next_asks a) e h = let g = rw (want, e) at h in cc
marked_by terms c act emitted ask k (Next_gives charge) e h = let g = rw (want, e) at h in absurd cc
marked_by terms c act emitted ask k Next_rests e h = absurd (not_asked terms c act emitted ask k (slice_get (events_in terms c act) emitted) refl e h)

marked_low : (terms : Terms) (c : Convo) (act : Act) (emitted : ℕ) (ask : Ask) (k : ℕ) → AreMarks terms.marks → want terms c act emitted ≡ Reserve ask k → k ≤ terms.marks.limit
marked_low terms c act emitted ask k fits h =
    omega (arith, marked_by terms c act emitted ask k (next_move terms c act) refl h, mark_fits terms.marks (priority_in_force terms c) fits)

-- The history leads on.

module _ (s : Setup) (marks : AreMarks s.terms.marks) (m n : Moment) (balanced : IsBalanced s m) where
  goes_on : (moves : List BudgetMove) (looks : List Look) → Comes s.terms.marks.limit m.pair n.pair moves looks → Gains moves looks m n → IsBalanced s n
  goes_on moves looks comes gains =
      leads_on s.terms.marks.limit m.pair n.pair (moves_at m) moves (moves_at n) (looks_at m) looks (looks_at n) balanced comes gains.moves_grow gains.looks_grow

  abbrev CoreComes : CoreMove → Pair → Type 0
  CoreComes move q = Comes s.terms.marks.limit m.pair q (budget_moves move) (budget_looks move)

  core_comes : (a : AtCore) (move : CoreMove) → MayMove s.terms m.pair a move → CoreComes move (pair_behind move m.pair)
  core_comes a (Loads input) may = nothing_comes s.terms.marks.limit m.pair balanced.room
  core_comes a (TakesBack reply) may = nothing_comes s.terms.marks.limit m.pair balanced.room
  core_comes a (Emits given) may = nothing_comes s.terms.marks.limit m.pair balanced.room
  core_comes a (Asks look) may = by may.0 may.1 may.2
    where
      found : (ask : Ask) (mark : ℕ) → mark ≤ s.terms.marks.limit → look ≡ look_at m.pair ask.bytes mark → CoreComes (Asks look) (behind_look m.pair look)
      found ask mark low e =
          subst (λ (l : LookEntry). CoreComes (Asks l) (behind_look m.pair l)) (sym e) (look_comes s.terms.marks.limit m.pair balanced.room ask.bytes mark low)

      by : (stop : Stop) → step s.terms a.course ≡ Stops stop → Serves s.terms m.pair a (Asks look) stop → CoreComes (Asks look) (behind_look m.pair look)
      by (Wants (Reserve ask mark)) e serves = found ask mark (low (wanting_entry s.terms a.course (Reserve ask mark) e)) serves.0
        where
          low : ((u : Under) × (a.course.under ≡ Some u) × (want_of s.terms a.course u ≡ Reserve ask mark)) → mark ≤ s.terms.marks.limit
          low entry = marked_low s.terms (found_by (core_of s.terms a.course) entry.0.line) entry.0.line.act entry.0.emitted ask mark marks entry.2
      by (Wants (Lets_go charge)) e serves = absurd serves
      by (Wants (Emit event)) e serves = absurd serves
      by (Wants Rest) e serves = absurd serves
      by Fills e serves = absurd serves
      by Rests e serves = absurd serves
      by Finishes e serves = absurd serves
  core_comes a (Frees free) may = by may.0 may.1 may.2
    where
      by : (stop : Stop) → step s.terms a.course ≡ Stops stop → Serves s.terms m.pair a (Frees free) stop → CoreComes (Frees free) (behind_free m.pair free)
      by (Wants (Lets_go charge)) e serves =
          subst (λ (f : Free). CoreComes (Frees f) (behind_free m.pair f)) (sym serves.0) (free_comes s.terms.marks.limit m.pair balanced.room charge serves.1)
      by (Wants (Reserve ask mark)) e serves = absurd serves
      by (Wants (Emit event)) e serves = absurd serves
      by (Wants Rest) e serves = absurd serves
      by Fills e serves = absurd serves
      by Rests e serves = absurd serves
      by Finishes e serves = absurd serves

  at_core : (c : ℕ) (back : Bool) → MovesCore s c back m n → IsBalanced s n
  at_core c back h =
      goes_on (budget_moves h.move) (budget_looks h.move)
      (subst (λ (q : Pair). CoreComes h.move q) (sym h.steps.pair) (core_comes h.before h.move h.steps.may)) (core_gains s c back m n h)

  no_move : n.pair ≡ m.pair → Gains [] [] m n → IsBalanced s n
  no_move same gains = goes_on [] [] (subst (λ (q : Pair). Comes s.terms.marks.limit m.pair q [] []) (sym same) (nothing_comes s.terms.marks.limit m.pair balanced.room)) gains

  at_worker : (w : ℕ) → TakesOne s w m n ⊎ GivesOne s w m n ⊎ AnswersOne s w m n → IsBalanced s n
  at_worker w (inl h) = no_move h.pair (take_gains s w m n h)
  at_worker w (inr (inl h)) =
      goes_on (Release (free_at m.pair h.charge) ∷ []) []
      (subst (λ (q : Pair). Comes s.terms.marks.limit m.pair q (Release (free_at m.pair h.charge) ∷ []) []) (sym h.pair) (free_comes s.terms.marks.limit m.pair balanced.room h.charge h.room))
      (give_gains s w m n h)
  at_worker w (inr (inr h)) = no_move h.pair (answer_gains s w m n h)

  pub stays_balanced : (actor : Actor) → Steps s actor m n → IsBalanced s n
  stays_balanced (actors.Core c) h = at_core c false h
  stays_balanced (actors.Back c) h = at_core c true h
  stays_balanced (actors.Work w) h = at_worker w h
