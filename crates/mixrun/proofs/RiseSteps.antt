-- Each step of the machine keeps the looks of each core in order: it has the stamp of the present pair, which no earlier move has reached.
use Rattle.std.proofs.Common.{◌≡◌, ℕ, zero, suc, ◌≤◌, ◌<◌, inl, inr, Bool, true, false, cond, List, [], ◌∷◌, ◌++◌, Some, None, refl, ap, sym, ◌∙◌, subst, arith, append-nil, map, flat_map, drop, slice_get}
use Rattle.prio_budget.specs.declared.free.Free.{Free}
use Rattle.prio_budget.specs.declared.look.Look.{Look}
use Rattle.histbook.specs.declared.look_entry.LookEntry.{LookEntry}
use Rattle.histbook.specs.Budget.{BudgetMove, Grant, Release, stamp_of}
use Rattle.histbook.specs.Budget as book
use Rattle.histbook.specs.Moves.{grant_of}
use Rattle.histbook.proofs.BudgetLemmas.{stamps_inside, each_of}
use Rattle.streamdefs.specs.Lists.{Each}
use Rattle.streamdefs.specs.Terms.{Terms}
use Rattle.streamdefs.specs.Convo.{Act, looks_in, frees_in}
use Rattle.streamdefs.specs.Convo.Act.{Seg, Answer, Time, End}
use Rattle.streamdefs.specs.Want.{with_look, with_free}
use Rattle.streamdefs.specs.Want.Want.{Reserve, Release as Lets_go, Emit, Rest}
use Rattle.streamdefs.specs.Core.{Line, found_by}
use Rattle.streamdefs.specs.Order.{floor_behind, floors_of, AreAbove, AreAllAbove, moves_of}
use Rattle.coretable.specs.Course.{Course, Under, Stop, step, core_of, looked, freed, emitted}
use Rattle.coretable.specs.Course.Step.{Stops}
use Rattle.coretable.specs.Course.Stop.{Wants, Fills, Rests, Finishes}
use Rattle.mixrun.specs.declared.actor.Actor.{Actor}
use Rattle.mixrun.specs.declared.actor.Actor.TheVariants as actors
use Rattle.mixrun.specs.Moment.{Setup, AtCore, Pair, Moment}
use Rattle.mixrun.specs.Moment.Input.{Brings, Ends}
use Rattle.mixrun.specs.Moves.{CoreMove, moved, under_way, answer_line, Serves}
use Rattle.mixrun.specs.Moves.CoreMove.{Loads, Asks, Frees, Emits, TakesBack}
use Rattle.mixrun.specs.Steps.{MayMove, CoreStep, MovesCore, Steps}
use Rattle.mixrun.specs.AtMoment.{lines_in, lines_at, frees_at, moves_at, looks_at}
use Rattle.mixrun.specs.Ledger.{IsBalanced}
use Rattle.mixrun.specs.Rising.{LooksRising}
use Rattle.mixrun.proofs.CoreSums.{wanting_entry, CanAsk, asks_as_entry}
use Rattle.mixrun.proofs.SilentSteps.{Going, came}
use Rattle.mixrun.proofs.SilentSteps.Going.{Completing, Beginning}
use Rattle.mixrun.proofs.CoreQueue.{at_under}
use Rattle.mixrun.proofs.LinesIn.{lines_under, lines_rest}
use Rattle.mixrun.proofs.QueueSteps.{at_each}

-- Parts of joined lists

module _ {A : Type 0} (P : A → Type 0) where
  pub both_parts : (xs ys : List A) → book.Each P (xs ++ ys) → book.Each P xs × book.Each P ys
  both_parts [] ys h = (tt, h)
  both_parts (x ∷ xs) ys h = let rest = both_parts xs ys h.1 in ((h.0, rest.0), rest.1)

  pub at_place : (xs : List A) (i : ℕ) (x : A) → slice_get xs i ≡ Some x → book.Each P xs → P x
  at_place [] i x e h = absurd cc
  at_place (y ∷ xs) zero x e h = let same : y ≡ x = cc in subst P same h.0
  at_place (y ∷ xs) (suc i) x e h = at_place xs i x e h.1

  pub each_join : (xs ys : List A) → Each P xs → Each P ys → Each P (xs ++ ys)
  each_join [] ys h g = g
  each_join (x ∷ xs) ys h g = (h.0, each_join xs ys h.1 g)

  pub each_front : (xs ys : List A) → Each P (xs ++ ys) → Each P xs
  each_front [] ys h = tt
  each_front (x ∷ xs) ys h = (h.0, each_front xs ys h.1)

  pub each_last : (xs : List A) (x : A) → Each P (xs ++ x ∷ []) → P x
  each_last [] x h = h.0
  each_last (y ∷ xs) x h = each_last xs x h.1

module _ {A B : Type 0} (P : B → Type 0) (f : A → List B) where
  pub of_flat : (xs : List A) → book.Each P (flat_map f xs) → book.Each (λ x. book.Each P (f x)) xs
  of_flat [] h = tt
  of_flat (x ∷ xs) h = let parts = both_parts P (f x) (flat_map f xs) h in (parts.0, of_flat xs parts.1)

pub two_each : {A : Type 0} (P Q R : A → Type 0) → ((x : A) → P x → Q x → R x) → (xs : List A) → book.Each P xs → book.Each Q xs → Each R xs
two_each P Q R f [] h g = tt
two_each P Q R f (x ∷ xs) h g = (f x h.0 g.0, two_each P Q R f xs h.1 g.1)

-- No floor of an entry is above the number of moves so far.

abbrev Low : ℕ → Line → Type 0
Low n line = Each (λ floor. floor ≤ n) (floors_of line.act)

low_looks : (n : ℕ) (looks : List LookEntry) → book.Each (λ move. stamp_of move < n) (flat_map grant_of looks) → book.Each (λ (look : Look). look.stamp ≤ n) (map (λ l. l.look) looks) → Each (λ floor. floor ≤ n) (map floor_behind looks)
low_looks n [] g h = tt
low_looks n (look ∷ looks) g h =
    let parts = both_parts (λ move. stamp_of move < n) (grant_of look) (flat_map grant_of looks) g in
    (by look.granted parts.0, low_looks n looks parts.1 h.1)
  where
    by : (b : Bool) → book.Each (λ move. stamp_of move < n) (cond b (Grant look.look look.asked ∷ []) []) → cond b (suc look.look.stamp) look.look.stamp ≤ n
    by true e = let less = e.0 in omega arith
    by false e = h.0

low_frees : (n : ℕ) (frees : List Free) → book.Each (λ move. stamp_of move < n) (map Release frees) → Each (λ floor. floor ≤ n) (map (λ free. suc free.stamp) frees)
low_frees n [] g = tt
low_frees n (free ∷ frees) g = (let less = g.0 in omega arith, low_frees n frees g.1)

low_line : (n : ℕ) (line : Line) → book.Each (λ move. stamp_of move < n) (moves_of line.act) → book.Each (λ (look : Look). look.stamp ≤ n) (map (λ l. l.look) (looks_in line.act)) → Low n line
low_line n line g h =
    let parts = both_parts (λ move. stamp_of move < n) (flat_map grant_of (looks_in line.act)) (map Release (frees_in line.act)) g in
    each_join (λ floor. floor ≤ n) (map floor_behind (looks_in line.act)) (map (λ free. suc free.stamp) (frees_in line.act)) (low_looks n (looks_in line.act) parts.0 h) (low_frees n (frees_in line.act) parts.1)

pub all_low : (s : Setup) (m : Moment) → IsBalanced s m → (c : ℕ) (a : AtCore) → slice_get m.cores c ≡ Some a → Each (Low m.pair.stamp) (lines_in a.course)
all_low s m b c a there = two_each _ _ (Low n) (λ line g h. low_line n line g h) (lines_in a.course) moves_low looks_low
  where
    n : ℕ
    n = m.pair.stamp

    inside : book.Each (λ move. stamp_of move < n) (moves_at m)
    inside = each_of _ (λ move. stamp_of move < n) (λ move h. let far = h.1 in let near : stamp_of move < n = omega (arith, b.count) in near) (moves_at m) (stamps_inside 0 (moves_at m) b.once)

    moves_low : book.Each (λ line. book.Each (λ move. stamp_of move < n) (moves_of line.act)) (lines_in a.course)
    moves_low =
        let lines = (both_parts (λ move. stamp_of move < n) (flat_map (λ line. moves_of line.act) (lines_at m)) (map Release (frees_at m)) inside).0 in
        at_place _ m.cores c a there (of_flat _ (λ (x : AtCore). lines_in x.course) m.cores (of_flat _ (λ line. moves_of line.act) (lines_at m) lines))

    looks_low : book.Each (λ line. book.Each (λ (look : Look). look.stamp ≤ n) (map (λ l. l.look) (looks_in line.act))) (lines_in a.course)
    looks_low =
        let looks : book.Each (λ (look : Look). look.stamp ≤ n) (looks_at m) = each_of _ _ (λ look h. let near = h.0 in let low : look.stamp ≤ n = omega (arith, b.count) in low) (looks_at m) b.found in
        at_place _ m.cores c a there (of_flat _ (λ (x : AtCore). lines_in x.course) m.cores (of_flat _ (λ line. map (λ l. l.look) (looks_in line.act)) (lines_at m) looks))

-- The last entry of a book, with one look more

abbrev behind : List ℕ → List Line → List ℕ
behind floors [] = floors
behind floors (line ∷ lines) = behind (floors ++ floors_of line.act) lines

split : (floors : List ℕ) (xs : List Line) (line : Line) → AreAllAbove floors (xs ++ line ∷ []) → AreAllAbove floors xs × AreAbove (behind floors xs) (looks_in line.act)
split floors [] line h = (tt, h.0)
split floors (x ∷ xs) line h = let rest = split (floors ++ floors_of x.act) xs line h.1 in ((h.0, rest.0), rest.1)

join : (floors : List ℕ) (xs : List Line) (line : Line) → AreAllAbove floors xs → AreAbove (behind floors xs) (looks_in line.act) → AreAllAbove floors (xs ++ line ∷ [])
join floors [] line h g = (g, tt)
join floors (x ∷ xs) line h g = (h.0, join (floors ++ floors_of x.act) xs line h.1 g)

low_behind : (n : ℕ) (floors : List ℕ) (xs : List Line) → Each (λ floor. floor ≤ n) floors → Each (Low n) xs → Each (λ floor. floor ≤ n) (behind floors xs)
low_behind n floors [] f h = f
low_behind n floors (x ∷ xs) f h = low_behind n (floors ++ floors_of x.act) xs (each_join (λ floor. floor ≤ n) floors (floors_of x.act) f h.0) h.1

one_more_look : (floors : List ℕ) (looks : List LookEntry) (new : LookEntry) → AreAbove floors looks → Each (λ floor. floor ≤ new.look.stamp) floors → Each (λ floor. floor ≤ new.look.stamp) (map floor_behind looks) → AreAbove floors (looks ++ new ∷ [])
one_more_look floors [] new h f g = (f, tt)
one_more_look floors (look ∷ looks) new h f g = (h.0, one_more_look (floor_behind look ∷ floors) looks new h.1 (g.0, f) g.1)

with_its_look : (act : Act) (look : LookEntry) → CanAsk act → looks_in (with_look look act) ≡ looks_in act ++ look ∷ []
with_its_look (Seg p now looks frees) look can = refl
with_its_look (Answer event advice frees) look can = absurd can
with_its_look (Time at looks frees) look can = refl
with_its_look (End at reason looks frees) look can = refl

same_looks : (act : Act) (free : Free) → looks_in (with_free free act) ≡ looks_in act
same_looks (Seg p now looks frees) free = refl
same_looks (Answer event advice frees) free = refl
same_looks (Time at looks frees) free = refl
same_looks (End at reason looks frees) free = refl

-- A step of a core

abbrev Rising : Course → Type 0
Rising m = AreAllAbove [] (lines_in m)

module _ (t : Terms) (n : ℕ) where
  begins_rising : (m : Course) (line : Line) → m.under ≡ None → looks_in line.act ≡ [] → Rising m → AreAllAbove [] (m.lines ++ line ∷ [])
  begins_rising m line none no_looks h =
      join [] m.lines line (subst (AreAllAbove []) (lines_rest m none) h) (subst (AreAbove (behind [] m.lines)) (sym no_looks) tt)

  going_rising : (m next : Course) → Going t m next → Rising m → Rising next
  going_rising m next (Completing u under w e) h =
      subst Rising (sym e) (subst (AreAllAbove []) (lines_under m u under ∙ sym (append-nil (m.lines ++ u.line ∷ []))) h)
  going_rising m next (Beginning line none fresh room e) h = subst Rising (sym e) (begins_rising m line none fresh.0 h)

  changed_rising : (m : Course) (u : Under) (line : Line) → m.under ≡ Some u → looks_in line.act ≡ looks_in u.line.act → Rising m → AreAllAbove [] (m.lines ++ line ∷ [])
  changed_rising m u line under same h =
      let parts = split [] m.lines u.line (subst (AreAllAbove []) (lines_under m u under) h) in
      join [] m.lines line parts.0 (subst (AreAbove (behind [] m.lines)) (sym same) parts.1)

  looked_rising : (m : Course) (u : Under) (look : LookEntry) → m.under ≡ Some u → CanAsk u.line.act → look.look.stamp ≡ n → Each (Low n) (lines_in m) → Rising m → Rising (looked m u look)
  looked_rising m u look under can at low h =
      let all : Each (Low n) (m.lines ++ u.line ∷ []) = subst (Each (Low n)) (lines_under m u under) low in
      let parts = split [] m.lines u.line (subst (AreAllAbove []) (lines_under m u under) h) in
      let own : Each (λ floor. floor ≤ n) (map floor_behind (looks_in u.line.act)) =
      each_front (λ floor. floor ≤ n) (map floor_behind (looks_in u.line.act)) (map (λ free. suc free.stamp) (frees_in u.line.act)) (each_last (Low n) m.lines u.line all) in
      let earlier = low_behind n [] m.lines tt (each_front (Low n) m.lines (u.line ∷ []) all) in
      let more : AreAbove (behind [] m.lines) (looks_in u.line.act ++ look ∷ []) =
      one_more_look (behind [] m.lines) (looks_in u.line.act) look parts.1
      (subst (λ (k : ℕ). Each (λ floor. floor ≤ k) (behind [] m.lines)) (sym at) earlier)
      (subst (λ (k : ℕ). Each (λ floor. floor ≤ k) (map floor_behind (looks_in u.line.act))) (sym at) own) in
      join [] m.lines (record { conv = u.line.conv; act = with_look look u.line.act }) parts.0 (subst (AreAbove (behind [] m.lines)) (sym (with_its_look u.line.act look can)) more)

  module _ (p : Pair) (at : p.stamp ≡ n) (a : AtCore) (low : Each (Low n) (lines_in a.course)) (rising : Rising a.course) where
    change : (f : Course → Under → Course) (u : Under) → a.course.under ≡ Some u → Rising (f a.course u) → Rising (under_way f a.course)
    change f u under h = subst Rising (sym (at_under f a.course u under)) h

    moves : (move : CoreMove) → MayMove t p a move → Rising (moved t move a).course
    moves (Loads (Brings q)) may = rising
    moves (Loads (Ends end)) may = rising
    moves (Asks look) may = by may.0 may.1 may.2
      where
        by : (stop : Stop) → step t a.course ≡ Stops stop → Serves t p a (Asks look) stop → Rising (moved t (Asks look) a).course
        by (Wants (Reserve ask k)) e s =
            let entry = wanting_entry t a.course (Reserve ask k) e in
            let can = asks_as_entry t (found_by (core_of t a.course) entry.0.line) entry.0.line.act entry.0.emitted ask k entry.2 in
            change (λ m u. looked m u look) entry.0 entry.1 (looked_rising a.course entry.0 look entry.1 can (ap (λ (l : LookEntry). l.look.stamp) s.0 ∙ at) low rising)
        by (Wants (Lets_go charge)) e s = absurd s
        by (Wants (Emit event)) e s = absurd s
        by (Wants Rest) e s = absurd s
        by Fills e s = absurd s
        by Rests e s = absurd s
        by Finishes e s = absurd s
    moves (Frees free) may = by may.0 may.1 may.2
      where
        by : (stop : Stop) → step t a.course ≡ Stops stop → Serves t p a (Frees free) stop → Rising (moved t (Frees free) a).course
        by (Wants (Lets_go charge)) e s =
            let entry = wanting_entry t a.course (Lets_go charge) e in
            change (λ m u. freed m u free) entry.0 entry.1
            (changed_rising a.course entry.0 (record { conv = entry.0.line.conv; act = with_free free entry.0.line.act }) entry.1 (same_looks entry.0.line.act free) rising)
        by (Wants (Reserve ask k)) e s = absurd s
        by (Wants (Emit event)) e s = absurd s
        by (Wants Rest) e s = absurd s
        by Fills e s = absurd s
        by Rests e s = absurd s
        by Finishes e s = absurd s
    moves (Emits given) may = by may.0 may.1 may.2
      where
        by : (stop : Stop) → step t a.course ≡ Stops stop → Serves t p a (Emits given) stop → Rising (moved t (Emits given) a).course
        by (Wants (Emit event)) e s =
            let entry = wanting_entry t a.course (Emit event) e in
            change emitted entry.0 entry.1 (changed_rising a.course entry.0 entry.0.line entry.1 refl rising)
        by (Wants (Lets_go charge)) e s = absurd s
        by (Wants (Reserve ask k)) e s = absurd s
        by (Wants Rest) e s = absurd s
        by Fills e s = absurd s
        by Rests e s = absurd s
        by Finishes e s = absurd s
    moves (TakesBack reply) may = begins_rising a.course (answer_line (core_of t a.course) reply) may.0 refl rising

    steps : (q : Pair) (move : CoreMove) (b : AtCore) → CoreStep t move a p b q → Rising b.course
    steps q move b s = came t Rising (λ m next g h. going_rising m next g h) s.settles.0 (moved t move a).course s.settles.1 b.course s.settles.2 (moves move s.may)

-- A step of the machine
module _ (s : Setup) (m n : Moment) (balanced : IsBalanced s m) (rising : LooksRising m) where
  core_rises : (c : ℕ) (back : Bool) → MovesCore s c back m n → LooksRising n
  core_rises c back h =
      at_each (λ d a. Rising a.course) m.cores n.cores c h.before h.after h.is_it h.cores
      (steps s.terms m.pair.stamp m.pair refl h.before (all_low s m balanced c h.before h.is_it) (rising c h.before h.is_it) n.pair h.move h.after h.steps)
      (λ d a other there. rising d a there)

  pub stays_rising : (actor : Actor) → Steps s actor m n → LooksRising n
  stays_rising (actors.Core c) h = core_rises c false h
  stays_rising (actors.Back c) h = core_rises c true h
  stays_rising (actors.Work w) (inl h) =
      at_each (λ d a. Rising a.course) m.cores n.cores h.core h.at (record h.at { events = drop 1 h.at.events }) h.is_core h.cores (rising h.core h.at h.is_core) (λ d a other there. rising d a there)
  stays_rising (actors.Work w) (inr (inl h)) = λ c a there. rising c a (subst (λ (l : List AtCore). slice_get l c ≡ Some a) h.cores there)
  stays_rising (actors.Work w) (inr (inr h)) =
      at_each (λ d a. Rising a.course) m.cores n.cores h.hand.core h.at _ h.is_core h.cores (rising h.hand.core h.at h.is_core) (λ d a other there. rising d a there)
