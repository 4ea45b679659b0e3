-- What a step of a core adds to the sums over its entries and its answers.
use Rattle.std.proofs.Common.{◌≡◌, ℕ, ◌+◌, Bool, true, false, cond, List, [], ◌∷◌, ◌++◌, Option, Some, None, refl, ap, sym, ◌∙◌, arith, append-nil, zero-add, map, flat_map, drop, length, slice_get}
use Rattle.prio_budget.specs.declared.free.Free.{Free}
use Rattle.prio_budget.specs.declared.look.Look.{Look}
use Rattle.evring.specs.declared.advice.Advice.{Advice}
use Rattle.histbook.specs.declared.look_entry.LookEntry.{LookEntry}
use Rattle.histbook.specs.Budget.{BudgetMove, Release, total}
use Rattle.histbook.specs.Moves.{grant_of}
use Rattle.histbook.proofs.BudgetLemmas.{total_append}
use Rattle.streamdefs.specs.Packet.{Packet}
use Rattle.streamdefs.specs.Terms.{Terms}
use Rattle.streamdefs.specs.Reorder.{Charge}
use Rattle.streamdefs.specs.View.{Ask}
use Rattle.streamdefs.specs.Convo.{Act, Convo, Event, looks_in, frees_in, released}
use Rattle.streamdefs.specs.Convo.Act.{Seg, Answer, Time, End}
use Rattle.streamdefs.specs.Want.{Want, want, with_look, with_free}
use Rattle.streamdefs.specs.Want.Want.{Reserve, Release as Lets_go, Emit, Rest}
use Rattle.streamdefs.specs.Order.{moves_of}
use Rattle.streamdefs.specs.Core.{Line, found_by}
use Rattle.coretable.specs.Course.{Job, Under, Course, Choice, Stop, core_of, choice, has_room, is_answered, begun, looked, freed, emitted, want_of, under_step, choice_step, step}
use Rattle.coretable.specs.Course.Choice.{Begins, Waits, Closed}
use Rattle.coretable.specs.Course.Step.{Goes, Stops}
use Rattle.coretable.specs.Course.Stop.{Wants, Fills, Rests, Finishes}
use Rattle.mixrun.specs.Moment.{Input, Given, Reply, AtCore, Pair}
use Rattle.mixrun.specs.Moment.Input.{Brings, Ends}
use Rattle.mixrun.specs.Moves.{CoreMove, moved, under_way, with_input, answer_line, budget_moves, budget_looks, Serves, IsFirst}
use Rattle.mixrun.specs.Moves.CoreMove.{Loads, Asks, Frees, Emits, TakesBack}
use Rattle.mixrun.specs.Steps.{MayMove, CoreStep}
use Rattle.mixrun.specs.AtMoment.{lines_in, frees_waiting}
use Rattle.mixrun.proofs.ListLemmas.{total_map}
use Rattle.mixrun.proofs.SilentSteps.{IsFresh, silent}

-- A core that stops for a want has an entry under way, whose want it is.

wants_by : (terms : Terms) (packets : List Packet) (number clock : ℕ) (lines : List Line) (under : Option Under) (job : Job) (w : Want)
    → let m : Course = record { packets = packets; number = number; clock = clock; lines = lines; under = under; job = job } in
    step terms m ≡ Stops (Wants w) → (u : Under) × (under ≡ Some u) × (want_of terms m u ≡ w)
wants_by terms packets number clock lines (Some u) job w e = (u, refl, by (want_of terms m u) e)
  where
    m : Course
    m = record { packets = packets; number = number; clock = clock; lines = lines; under = Some u; job = job }

    by : (v : Want) → under_step m u v ≡ Stops (Wants w) → v ≡ w
    by Rest g = absurd cc
    by (Reserve ask mark) g = cc
    by (Lets_go charge) g = cc
    by (Emit event) g = cc
wants_by terms packets number clock lines None job w e = absurd (by (choice terms (core_of terms m) job) e)
  where
    m : Course
    m = record { packets = packets; number = number; clock = clock; lines = lines; under = None; job = job }

    by : (c : Choice) → choice_step (core_of terms m) m c ≡ Stops (Wants w) → ⊥
    by (Begins line) g = by_room (has_room (core_of terms m)) g
      where
        by_room : (b : Bool) → cond b (Goes (begun m line)) (Stops Fills) ≡ Stops (Wants w) → ⊥
        by_room true g = cc
        by_room false g = cc
    by Waits g = cc
    by Closed g = by_all (is_answered (core_of terms m)) g
      where
        by_all : (b : Bool) → cond b (Stops Finishes) (Stops Fills) ≡ Stops (Wants w) → ⊥
        by_all true g = cc
        by_all false g = cc

pub wanting_entry : (terms : Terms) (m : Course) (w : Want) → step terms m ≡ Stops (Wants w) → (u : Under) × (m.under ≡ Some u) × (want_of terms m u ≡ w)
wanting_entry terms m w e = wants_by terms m.packets m.number m.clock m.lines m.under m.job w e

-- An answer asks for nothing.

abbrev pub CanAsk : Act → Type 0
CanAsk (Answer event advice frees) = ⊥
CanAsk _ = Unit {0}

module _ (terms : Terms) (c : Convo) (event : ℕ) (advice : Advice) (frees : List Free) (emitted : ℕ) (ask : Ask) (mark : ℕ) where
  abbrev of_answer : Want
  of_answer = want terms c (Answer event advice frees) emitted

  answer_asks : (x : Option Charge) → slice_get (released terms c (Answer event advice frees)) (length frees) ≡ x → of_answer ≡ Reserve ask mark → ⊥
  answer_asks (Some charge) e h = let g = rw e at h in cc
  answer_asks None e h = let g = rw e at h in cc

pub asks_as_entry : (terms : Terms) (c : Convo) (act : Act) (emitted : ℕ) (ask : Ask) (mark : ℕ) → want terms c act emitted ≡ Reserve ask mark → CanAsk act
asks_as_entry terms c (Seg p now looks frees) emitted ask mark h = tt
asks_as_entry terms c (Answer event advice frees) emitted ask mark h = answer_asks terms c event advice frees emitted ask mark (slice_get (released terms c (Answer event advice frees)) (length frees)) refl h
asks_as_entry terms c (Time at looks frees) emitted ask mark h = tt
asks_as_entry terms c (End at reason looks frees) emitted ask mark h = tt

-- The sums.

-- over the moves of an entry, and over what its looks found
abbrev pub line_moves : (BudgetMove → ℕ) → Line → ℕ
line_moves w line = total w (moves_of line.act)

abbrev pub line_looks : (Look → ℕ) → Line → ℕ
line_looks v line = total v (map (λ look. look.look) (looks_in line.act))

-- over those of a core, with the frees of its answers
abbrev pub core_moves : (BudgetMove → ℕ) → AtCore → ℕ
core_moves w a = total (line_moves w) (lines_in a.course) + total (λ free. w (Release free)) (frees_waiting a)

abbrev pub core_looks : (Look → ℕ) → AtCore → ℕ
core_looks v a = total (line_looks v) (lines_in a.course)

module _ (w : BudgetMove → ℕ) where
  grants_more : (looks : List LookEntry) (look : LookEntry) → total w (flat_map grant_of (looks ++ look ∷ [])) ≡ total w (flat_map grant_of looks) + total w (grant_of look)
  grants_more [] look = ap (total w) (append-nil (grant_of look)) ∙ sym (zero-add (total w (grant_of look)))
  grants_more (l ∷ looks) look =
      omega (arith, total_append w (grant_of l) (flat_map grant_of (looks ++ look ∷ [])), total_append w (grant_of l) (flat_map grant_of looks), grants_more looks look)

  frees_more : (frees : List Free) (free : Free) → total w (map Release (frees ++ free ∷ [])) ≡ total w (map Release frees) + w (Release free)
  frees_more [] free = omega arith
  frees_more (f ∷ frees) free = omega (arith, frees_more frees free)

  joined : (looks : List LookEntry) (frees : List Free) → total w (flat_map grant_of looks ++ map Release frees) ≡ total w (flat_map grant_of looks) + total w (map Release frees)
  joined looks frees = total_append w (flat_map grant_of looks) (map Release frees)

  look_more : (act : Act) (look : LookEntry) → CanAsk act → total w (moves_of (with_look look act)) ≡ total w (moves_of act) + total w (grant_of look)
  look_more (Seg p now looks frees) look can = omega (arith, joined (looks ++ look ∷ []) frees, joined looks frees, grants_more looks look)
  look_more (Answer event advice frees) look can = absurd can
  look_more (Time at looks frees) look can = omega (arith, joined (looks ++ look ∷ []) frees, joined looks frees, grants_more looks look)
  look_more (End at reason looks frees) look can = omega (arith, joined (looks ++ look ∷ []) frees, joined looks frees, grants_more looks look)

  free_more : (act : Act) (free : Free) → total w (moves_of (with_free free act)) ≡ total w (moves_of act) + w (Release free)
  free_more (Seg p now looks frees) free = omega (arith, joined looks (frees ++ free ∷ []), joined looks frees, frees_more frees free)
  free_more (Answer event advice frees) free = omega (arith, joined [] (frees ++ free ∷ []), joined [] frees, frees_more frees free)
  free_more (Time at looks frees) free = omega (arith, joined looks (frees ++ free ∷ []), joined looks frees, frees_more frees free)
  free_more (End at reason looks frees) free = omega (arith, joined looks (frees ++ free ∷ []), joined looks frees, frees_more frees free)

  quiet_moves : (line : Line) → IsFresh line → line_moves w line ≡ 0
  quiet_moves line fresh = by line.act fresh.0 fresh.1
    where
      by : (act : Act) → looks_in act ≡ [] → frees_in act ≡ [] → total w (moves_of act) ≡ 0
      by (Seg p now looks frees) e f = rw (e, f) refl
      by (Answer event advice frees) e f = rw f refl
      by (Time at looks frees) e f = rw (e, f) refl
      by (End at reason looks frees) e f = rw (e, f) refl

module _ (v : Look → ℕ) where
  found_more : (looks : List LookEntry) (look : LookEntry) → total v (map (λ l. l.look) (looks ++ look ∷ [])) ≡ total v (map (λ l. l.look) looks) + v look.look
  found_more [] look = omega arith
  found_more (l ∷ looks) look = omega (arith, found_more looks look)

  seen_more : (act : Act) (look : LookEntry) → CanAsk act → total v (map (λ l. l.look) (looks_in (with_look look act))) ≡ total v (map (λ l. l.look) (looks_in act)) + v look.look
  seen_more (Seg p now looks frees) look can = found_more looks look
  seen_more (Answer event advice frees) look can = absurd can
  seen_more (Time at looks frees) look can = found_more looks look
  seen_more (End at reason looks frees) look can = found_more looks look

  seen_same : (act : Act) (free : Free) → looks_in (with_free free act) ≡ looks_in act
  seen_same (Seg p now looks frees) free = refl
  seen_same (Answer event advice frees) free = refl
  seen_same (Time at looks frees) free = refl
  seen_same (End at reason looks frees) free = refl

  quiet_looks : (line : Line) → IsFresh line → line_looks v line ≡ 0
  quiet_looks line fresh = ap (λ (l : List LookEntry). total v (map (λ x. x.look) l)) fresh.0

-- what is done to the entry under way changes its sum alone
module _ (f : Line → ℕ) (change : Course → Under → Course) (line : Under → Line)
    (changes : (m : Course) (u : Under) → lines_in (change m u) ≡ m.lines ++ line u ∷ []) where
  changed : (m : Course) (u : Under) → m.under ≡ Some u → total f (lines_in (under_way change m)) + f u.line ≡ total f (lines_in m) + f (line u)
  changed m u e =
      let here : under_way change m ≡ change m u = rw (under_way, e) refl in
      let before : lines_in m ≡ m.lines ++ u.line ∷ [] = rw e refl in
      omega (
        arith,
        ap (λ (n : Course). total f (lines_in n)) here,
        ap (total f) (changes m u),
        ap (total f) before,
        total_append f m.lines (line u ∷ []),
        total_append f m.lines (u.line ∷ []),
      )

pub first_of : {X : Type 0} (x : X) (xs : List X) → IsFirst x xs → xs ≡ x ∷ drop 1 xs
first_of x [] e = absurd cc
first_of x (y ∷ xs) e = let same : y ≡ x = cc in ap (λ z. z ∷ xs) same

-- a move adds its own
module _ (terms : Terms) (p : Pair) (a : AtCore) where
  abbrev Adds : CoreMove → Type 0
  Adds move =
      ((w : BudgetMove → ℕ) → core_moves w (moved terms move a) ≡ core_moves w a + total w (budget_moves move))
      × ((v : Look → ℕ) → core_looks v (moved terms move a) ≡ core_looks v a + total v (budget_looks move))

  with_input_lines : (m : Course) (input : Input) → lines_in (with_input m input) ≡ lines_in m
  with_input_lines m (Brings q) = refl
  with_input_lines m (Ends at) = refl

  loads : (input : Input) → Adds (Loads input)
  loads input = (λ w. omega (arith, ap (total (line_moves w)) (with_input_lines a.course input)), λ v. omega (arith, ap (total (line_looks v)) (with_input_lines a.course input)))

  asks : (look : LookEntry) (ask : Ask) (mark : ℕ) → step terms a.course ≡ Stops (Wants (Reserve ask mark)) → Adds (Asks look)
  asks look ask mark e = (
    λ w. omega (arith, changed (line_moves w) (λ m u. looked m u look) with_it (λ m u. refl) a.course u under, look_more w u.line.act look can),
    λ v. omega (arith, changed (line_looks v) (λ m u. looked m u look) with_it (λ m u. refl) a.course u under, seen_more v u.line.act look can),
  )
    where
      entry : (u : Under) × (a.course.under ≡ Some u) × (want_of terms a.course u ≡ Reserve ask mark)
      entry = wanting_entry terms a.course (Reserve ask mark) e

      u : Under
      u = entry.0

      under : a.course.under ≡ Some u
      under = entry.1

      can : CanAsk u.line.act
      can = asks_as_entry terms (found_by (core_of terms a.course) u.line) u.line.act u.emitted ask mark entry.2

      with_it : Under → Line
      with_it u = record { conv = u.line.conv; act = with_look look u.line.act }

  frees : (free : Free) (charge : Charge) → step terms a.course ≡ Stops (Wants (Lets_go charge)) → Adds (Frees free)
  frees free charge e = (
    λ w. omega (arith, changed (line_moves w) (λ m u. freed m u free) with_it (λ m u. refl) a.course u under, free_more w u.line.act free),
    λ v. omega (arith, changed (line_looks v) (λ m u. freed m u free) with_it (λ m u. refl) a.course u under, ap (λ (l : List LookEntry). total v (map (λ x. x.look) l)) (seen_same v u.line.act free)),
  )
    where
      entry : (u : Under) × (a.course.under ≡ Some u) × (want_of terms a.course u ≡ Lets_go charge)
      entry = wanting_entry terms a.course (Lets_go charge) e

      u : Under
      u = entry.0

      under : a.course.under ≡ Some u
      under = entry.1

      with_it : Under → Line
      with_it u = record { conv = u.line.conv; act = with_free free u.line.act }

  emits : (given : Given) (event : Event) → step terms a.course ≡ Stops (Wants (Emit event)) → Adds (Emits given)
  emits given event e = (
    λ w. omega (arith, changed (line_moves w) emitted (λ u. u.line) (λ m u. refl) a.course u under),
    λ v. omega (arith, changed (line_looks v) emitted (λ u. u.line) (λ m u. refl) a.course u under),
  )
    where
      entry : (u : Under) × (a.course.under ≡ Some u) × (want_of terms a.course u ≡ Emit event)
      entry = wanting_entry terms a.course (Emit event) e

      u : Under
      u = entry.0

      under : a.course.under ≡ Some u
      under = entry.1

  takes_back : (reply : Reply) → a.course.under ≡ None → IsFirst reply a.answers → Adds (TakesBack reply)
  takes_back reply none first = (
    λ w.
        let before : total (line_moves w) (lines_in a.course) ≡ total (line_moves w) a.course.lines = ap (total (line_moves w)) no_line in
        let behind = total_append (line_moves w) a.course.lines (answer_line (core_of terms a.course) reply ∷ []) in
        let waiting = ap (λ (l : List Reply). total (λ free. w (Release free)) (flat_map (λ r. r.frees) l)) (first_of reply a.answers first) in
        let parts = total_append (λ (free : Free). w (Release free)) reply.frees (flat_map (λ r. r.frees) (drop 1 a.answers)) in
        let mapped = total_map w Release reply.frees in
        omega (arith, before, behind, waiting, parts, mapped),
    λ v.
        let before : total (line_looks v) (lines_in a.course) ≡ total (line_looks v) a.course.lines = ap (total (line_looks v)) no_line in
        let behind = total_append (line_looks v) a.course.lines (answer_line (core_of terms a.course) reply ∷ []) in
        omega (arith, before, behind),
  )
    where
      no_line : lines_in a.course ≡ a.course.lines
      no_line = rw none (append-nil a.course.lines)

  pub move_adds : (move : CoreMove) → MayMove terms p a move → Adds move
  move_adds (Loads input) may = loads input
  move_adds (Asks look) may = by may.0 may.1 may.2
    where
      by : (stop : Stop) → step terms a.course ≡ Stops stop → Serves terms p a (Asks look) stop → Adds (Asks look)
      by (Wants (Reserve ask mark)) e s = asks look ask mark e
      by (Wants (Lets_go charge)) e s = absurd s
      by (Wants (Emit event)) e s = absurd s
      by (Wants Rest) e s = absurd s
      by Fills e s = absurd s
      by Rests e s = absurd s
      by Finishes e s = absurd s
  move_adds (Frees free) may = by may.0 may.1 may.2
    where
      by : (stop : Stop) → step terms a.course ≡ Stops stop → Serves terms p a (Frees free) stop → Adds (Frees free)
      by (Wants (Lets_go charge)) e s = frees free charge e
      by (Wants (Reserve ask mark)) e s = absurd s
      by (Wants (Emit event)) e s = absurd s
      by (Wants Rest) e s = absurd s
      by Fills e s = absurd s
      by Rests e s = absurd s
      by Finishes e s = absurd s
  move_adds (Emits given) may = by may.0 may.1 may.2
    where
      by : (stop : Stop) → step terms a.course ≡ Stops stop → Serves terms p a (Emits given) stop → Adds (Emits given)
      by (Wants (Emit event)) e s = emits given event e
      by (Wants (Lets_go charge)) e s = absurd s
      by (Wants (Reserve ask mark)) e s = absurd s
      by (Wants Rest) e s = absurd s
      by Fills e s = absurd s
      by Rests e s = absurd s
      by Finishes e s = absurd s
  move_adds (TakesBack reply) may = takes_back reply may.0 may.1

-- and so does a step, since the table goes on in silence
pub step_adds_moves : (terms : Terms) (move : CoreMove) (a b : AtCore) (p q : Pair) → CoreStep terms move a p b q
    → (w : BudgetMove → ℕ) → core_moves w b ≡ core_moves w a + total w (budget_moves move)
step_adds_moves terms move a b p q s w =
    let still = silent terms (line_moves w) (quiet_moves w) s.settles.0 (moved terms move a).course s.settles.1 b.course s.settles.2 in
    let rest : frees_waiting b ≡ frees_waiting (moved terms move a) = ap frees_waiting s.settles.3 in
    omega (arith, (move_adds terms p a move s.may).0 w, still, ap (total (λ (free : Free). w (Release free))) rest)

pub step_adds_looks : (terms : Terms) (move : CoreMove) (a b : AtCore) (p q : Pair) → CoreStep terms move a p b q
    → (v : Look → ℕ) → core_looks v b ≡ core_looks v a + total v (budget_looks move)
step_adds_looks terms move a b p q s v =
    let still = silent terms (line_looks v) (quiet_looks v) s.settles.0 (moved terms move a).course s.settles.1 b.course s.settles.2 in
    omega (arith, (move_adds terms p a move s.may).1 v, still)
