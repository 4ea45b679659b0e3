-- What holds at a moment makes its run lawful so far.
use Rattle.std.proofs.Common.{◌≡◌, ℕ, zero, suc, ◌+◌, ◌%◌, ◌≤◌, ◌<◌, ◌⊎◌, inl, inr, ◌==◌, Bool, true, false, cond, List, [], ◌∷◌, ◌++◌, Option, Some, None, refl, ap, sym, ◌∙◌, subst, arith, append-nil, map, flat_map, take, drop, length, slice_get}
use Rattle.std.specs.Prelude.{nat_lt}
use Rattle.std.specs.List.{list_all}
use Rattle.std.specs.Option.{option_to_list}
use Rattle.std.proofs.lemmas.List.{length-map}
use Rattle.std.proofs.lemmas.Bool.Decides.{nat_tests}
use mathlib.Core.List.{append_assoc}
use Rattle.prio_budget.specs.declared.free.Free.{Free}
use Rattle.evring.specs.declared.advice.Advice.{Advice}
use Rattle.histbook.specs.Budget.{BudgetMove, Release, total}
use Rattle.histbook.proofs.BudgetLemmas.{total_append}
use Rattle.streamdefs.specs.Lists.{Each, EachNumbered, IsPrefixOf, how_many}
use Rattle.streamdefs.specs.Reorder.{Charge}
use Rattle.streamdefs.specs.Terms.{Terms}
use Rattle.streamdefs.specs.Convo.{Event, charges_of, kept_of, events_in}
use Rattle.streamdefs.specs.Convo.Event.{New, Chunk, Ended}
use Rattle.streamdefs.specs.Core.{Line, Told, idle_core, found_by, core_at, Along}
use Rattle.streamdefs.specs.Lawful.{Handler, handler_at}
use Rattle.streamdefs.specs.Order.{AreAboveCharges, Rise, FreesInOrder, frees_of_answers, along_served, moves_of}
use Rattle.streamdefs.specs.SoFar.{HistorySoFar, moves_so_far, looks_so_far}
use Rattle.streamdefs.specs.RunSoFar.{CoreSoFar, InHand as HandIn, RunSoFar, LawfulRunSoFar, part_of, entries, answers_of, frees_in_hand as frees_of_hand, frees_outside, told_so_far, charges_due, AreFreesFor, AreAllFreesFor, AnswersSoFar, HandSoFar, times_answered, ServedSoFar, FreesRiseSoFar}
use Rattle.coretable.specs.Course.{Under, core_of}
use Rattle.coretable.proofs.Soundness.{timed_so_far}
use Rattle.coretable.proofs.Answers.{drop_got}
use Rattle.mixrun.specs.Moment.{Setup, Given, Reply, AtCore, InHand, AtWorker, Moment}
use Rattle.mixrun.specs.Moves.{owed_for, advice_of}
use Rattle.mixrun.specs.AtMoment.{line_under, lines_in, lines_at, frees_at, frees_in_hand, frees_waiting, moves_at, looks_at, core_so_far, worker_so_far, so_far}
use Rattle.mixrun.specs.Books.{IsFed, handler_of}
use Rattle.mixrun.specs.Queue.{Waits, IsReply, told_of, told_by, answered_by, waiting, in_hand, free_bytes, charge_bytes}
use Rattle.mixrun.specs.Ledger.{LeadsTo}
use Rattle.mixrun.specs.Freed.{IsFreedReply}
use Rattle.mixrun.specs.Served.{frees_done, answers_at}
use Rattle.mixrun.specs.Holds.{Holds}
use Rattle.mixrun.proofs.ListLemmas.{total_map}
use Rattle.mixrun.proofs.LedgerLemmas.{leads_on}
use Rattle.mixrun.proofs.BudgetSteps.{freely, nothing_comes}
use Rattle.mixrun.proofs.FreeSteps.{none_of_none, split}
use Rattle.mixrun.proofs.HoldLaws.{line_same, book_so_far}
use Rattle.mixrun.proofs.ServedSteps.{all_done, answers_count, done_count}

-- Lists

module _ {A B : Type 0} (f : A → B) where
  each_of_map : (P : B → Type 0) (xs : List A) → ((i : ℕ) (x : A) → slice_get xs i ≡ Some x → P (f x)) → Each P (map f xs)
  each_of_map P [] h = tt
  each_of_map P (x ∷ xs) h = (h 0 x refl, each_of_map P xs (λ i y e. h (suc i) y e))

  numbered_map : (P : ℕ → B → Type 0) (xs : List A) (k : ℕ) → ((i : ℕ) (x : A) → slice_get xs i ≡ Some x → (j : ℕ) → j ≡ k + i → P j (f x)) → EachNumbered P k (map f xs)
  numbered_map P [] k h = tt
  numbered_map P (x ∷ xs) k h = (h 0 x refl k (omega arith), numbered_map P xs (suc k) (λ i y e j same. h (suc i) y e j (omega arith)))

  map_got : (xs : List A) (i : ℕ) (x : A) → slice_get xs i ≡ Some x → slice_get (map f xs) i ≡ Some (f x)
  map_got [] i x e = absurd cc
  map_got (z ∷ xs) zero x e = let same : z ≡ x = cc in ap (λ y. Some (f y)) same
  map_got (z ∷ xs) (suc i) x e = map_got xs i x e

  take_map : (n : ℕ) (xs : List A) → take n (map f xs) ≡ map f (take n xs)
  take_map zero xs = refl
  take_map (suc n) [] = refl
  take_map (suc n) (x ∷ xs) = ap (λ l. f x ∷ l) (take_map n xs)

map_same : {A B : Type 0} (f g : A → B) (xs : List A) → ((i : ℕ) (x : A) → slice_get xs i ≡ Some x → f x ≡ g x) → map f xs ≡ map g xs
map_same f g [] h = refl
map_same f g (x ∷ xs) h = (λ i. h 0 x refl i ∷ map_same f g xs (λ k y e. h (suc k) y e) i)

map_both : {A B C : Type 0} (g : B → C) (f : A → B) (xs : List A) → map g (map f xs) ≡ map (λ x. g (f x)) xs
map_both g f [] = refl
map_both g f (x ∷ xs) = ap (λ l. g (f x) ∷ l) (map_both g f xs)

flat_mapped : {A B C : Type 0} (g : B → List C) (f : A → B) (xs : List A) → flat_map g (map f xs) ≡ flat_map (λ x. g (f x)) xs
flat_mapped g f [] = refl
flat_mapped g f (x ∷ xs) = ap (λ l. g (f x) ++ l) (flat_mapped g f xs)

numbered_here : {A : Type 0} (P : ℕ → A → Type 0) (xs : List A) → ((i : ℕ) (x : A) → slice_get xs i ≡ Some x → P i x) → (i : ℕ) (x : A) → slice_get xs i ≡ Some x → (j : ℕ) → j ≡ 0 + i → P j x
numbered_here P xs h i x e j same = let here : i ≡ j = omega arith in subst (λ (k : ℕ). P k x) here (h i x e)

found_one : {A : Type 0} (xs : List A) (i : ℕ) → i < length xs → (x : A) × (slice_get xs i ≡ Some x)
found_one [] i h = absurd (omega arith)
found_one (x ∷ xs) zero h = (x, refl)
found_one (x ∷ xs) (suc i) h = found_one xs i (omega arith)

-- The events of a core

told_same : (t : Terms) (a : AtCore) → told_so_far t (core_so_far a) ≡ told_by t a.course
told_same t a = by a.course.under refl
  where
    by : (o : Option Under) → a.course.under ≡ o → told_so_far t (core_so_far a) ≡ told_by t a.course
    by None e = rw e refl
    by (Some u) e =
        let all : List Told = map (λ event. record { conv = u.line.conv; event = event }) (events_in t (found_by (core_of t a.course) u.line) u.line.act) in
        let one : take u.emitted all ++ [] ≡ map (λ event. record { conv = u.line.conv; event = event }) (take u.emitted (events_in t (found_by (core_of t a.course) u.line) u.line.act)) =
        append-nil (take u.emitted all) ∙ take_map (λ event. record { conv = u.line.conv; event = event }) u.emitted (events_in t (found_by (core_of t a.course) u.line) u.line.act) in
        rw e (ap (λ (l : List Told). (core_of t a.course).events ++ l) one)

-- Frees of an event

whole : {A : Type 0} (xs : List A) → xs ≡ take (length xs) xs
whole [] = refl
whole (x ∷ xs) = ap (λ ys. x ∷ ys) (whole xs)

none_first : (frees : List Free) (ys : List ℕ) → frees ≡ [] → IsPrefixOf (map (λ free. free.bytes) frees) ys
none_first frees ys e = subst (λ (l : List Free). IsPrefixOf (map (λ free. free.bytes) l) ys) (sym e) refl

all_first : (frees : List Free) (ys : List ℕ) → map (λ free. free.bytes) frees ≡ ys → IsPrefixOf (map (λ free. free.bytes) frees) ys
all_first frees ys e = subst (λ (l : List ℕ). IsPrefixOf (map (λ free. free.bytes) frees) l) e (whole (map (λ free. free.bytes) frees))

none_above : (charges : List Charge) (frees : List Free) → frees ≡ [] → AreAboveCharges charges frees
none_above charges frees e = subst (AreAboveCharges charges) (sym e) tt

no_bytes : (frees : List Free) → map (λ free. free.bytes) frees ≡ [] → frees ≡ []
no_bytes [] e = refl
no_bytes (f ∷ fs) e = absurd cc

-- of a whole answer
reply_frees : (advice : Advice) (told : Told) (frees : List Free) → free_bytes frees ≡ charge_bytes (owed_for told.event advice) → AreAboveCharges (owed_for told.event advice) frees → AreAllFreesFor (Some told) frees
reply_frees advice told frees h above = by told.event refl h above
  where
    empty : frees ≡ [] → AreAllFreesFor (Some told) frees
    empty e = ((none_first frees (map (λ charge. charge.bytes) (charges_due told.event)) e, none_above (charges_due told.event) frees e), inl e)

    of_chunk : (charges : List Charge) (keep : Bool) → charges_due told.event ≡ charges → free_bytes frees ≡ charge_bytes (cond keep [] charges) → AreAboveCharges (cond keep [] charges) frees → AreAllFreesFor (Some told) frees
    of_chunk charges true e h above = empty (none_of_none frees above)
    of_chunk charges false e h above = subst (λ (cs : List Charge). (IsPrefixOf (map (λ free. free.bytes) frees) (map (λ charge. charge.bytes) cs) × AreAboveCharges cs frees) × ((frees ≡ []) ⊎ (length frees ≡ length cs))) (sym e)
        ((all_first frees (map (λ charge. charge.bytes) charges) h, above), inr (same_length charges h))
      where
        same_length : (charges : List Charge) → free_bytes frees ≡ charge_bytes charges → length frees ≡ length charges
        same_length charges h = let same : length (free_bytes frees) ≡ length (charge_bytes charges) = ap length h in omega (arith, same, length-map frees (λ (f : Free). f.bytes), length-map charges (λ (c : Charge). c.bytes))

    by : (e : Event) → told.event ≡ e → free_bytes frees ≡ charge_bytes (owed_for told.event advice) → AreAboveCharges (owed_for told.event advice) frees → AreAllFreesFor (Some told) frees
    by New e h above = empty (none_of_none frees (subst (λ (x : Event). AreAboveCharges (owed_for x advice) frees) e above))
    by (Ended reason) e h above = empty (none_of_none frees (subst (λ (x : Event). AreAboveCharges (owed_for x advice) frees) e above))
    by (Chunk d) e h above =
        of_chunk (charges_of (kept_of d)) advice.keep (ap charges_due e) (subst (λ (x : Event). free_bytes frees ≡ charge_bytes (owed_for x advice)) e h) (subst (λ (x : Event). AreAboveCharges (owed_for x advice) frees) e above)

-- of an event in hand
hand_frees : (stated now : Advice) (told : Told) (frees : List Free) → free_bytes frees ≡ take (length frees) (charge_bytes (owed_for told.event stated)) → AreAboveCharges (owed_for told.event now) frees → AreFreesFor (Some told) frees
hand_frees stated now told frees h above = by told.event refl h above
  where
    empty : frees ≡ [] → AreFreesFor (Some told) frees
    empty e = (none_first frees (map (λ charge. charge.bytes) (charges_due told.event)) e, none_above (charges_due told.event) frees e)

    nothing : (n : ℕ) → ◌≡◌ {A = List ℕ} (take n []) []
    nothing zero = refl
    nothing (suc n) = refl

    of_chunk : (charges : List Charge) (keep later : Bool) → charges_due told.event ≡ charges → free_bytes frees ≡ take (length frees) (charge_bytes (cond keep [] charges)) → AreAboveCharges (cond later [] charges) frees
        → AreFreesFor (Some told) frees
    of_chunk charges keep true e h above = empty (none_of_none frees above)
    of_chunk charges true false e h above = empty (no_bytes frees (h ∙ nothing (length frees)))
    of_chunk charges false false e h above = subst (λ (cs : List Charge). IsPrefixOf (map (λ free. free.bytes) frees) (map (λ charge. charge.bytes) cs) × AreAboveCharges cs frees) (sym e)
        (h ∙ ap (λ (n : ℕ). take n (charge_bytes charges)) (sym (length-map frees (λ (f : Free). f.bytes))), above)

    by : (e : Event) → told.event ≡ e → free_bytes frees ≡ take (length frees) (charge_bytes (owed_for told.event stated)) → AreAboveCharges (owed_for told.event now) frees → AreFreesFor (Some told) frees
    by New e h above = empty (none_of_none frees (subst (λ (x : Event). AreAboveCharges (owed_for x now) frees) e above))
    by (Ended reason) e h above = empty (none_of_none frees (subst (λ (x : Event). AreAboveCharges (owed_for x now) frees) e above))
    by (Chunk d) e h above =
        of_chunk (charges_of (kept_of d)) stated.keep now.keep (ap charges_due e) (subst (λ (x : Event). free_bytes frees ≡ take (length frees) (charge_bytes (owed_for x stated))) e h)
        (subst (λ (x : Event). AreAboveCharges (owed_for x now) frees) e above)

-- The answers that wait are to the next events.
answers_numbered : (handler : Handler) (told : List Told) (n : ℕ) (replies : List Reply) (rest : List Given) → drop n told ≡ map told_of (map (λ r. r.given) replies ++ rest)
    → Each (IsReply handler) replies → Each IsFreedReply replies → EachNumbered (λ k frees. AreAllFreesFor (slice_get told k) frees) n (map (λ r. r.frees) replies)
answers_numbered handler told n [] rest e h g = tt
answers_numbered handler told n (r ∷ replies) rest e h g =
    let got = drop_got n told (told_of r.given) (map told_of (map (λ r. r.given) replies ++ rest)) e in (
      subst (λ (o : Option Told). AreAllFreesFor o r.frees) (sym got.0) (reply_frees r.advice (told_of r.given) r.frees h.0.frees g.0.0),
      answers_numbered handler told (suc n) replies rest got.1 h.1 g.1,
    )

-- behind them comes the event in hand
behind_answers : (told : List Told) (n : ℕ) (replies : List Reply) (given : Given) (rest : List Given) → drop n told ≡ map told_of (map (λ r. r.given) replies ++ given ∷ rest)
    → slice_get told (n + length replies) ≡ Some (told_of given)
behind_answers told n [] given rest e = let same : n + 0 ≡ n = omega arith in ap (slice_get told) same ∙ (drop_got n told (told_of given) (map told_of rest) e).0
behind_answers told n (r ∷ replies) given rest e =
    let got = drop_got n told (told_of r.given) (map told_of (map (λ r. r.given) replies ++ given ∷ rest)) e in
    let same : n + suc (length replies) ≡ suc n + length replies = omega arith in
    ap (slice_get told) same ∙ behind_answers told (suc n) replies given rest got.1

-- A moment

module _ (s : Setup) (m : Moment) (h : Holds s m) where
  abbrev now : RunSoFar
  now = so_far s m

  replies_done : (c : ℕ) (a : AtCore) → slice_get m.cores c ≡ Some a → map (λ r. r.frees) a.answers ≡ map frees_done a.answers
  replies_done c a there = by a.answers (h.freed.cores c a there).answers
    where
      by : (rs : List Reply) → Each IsFreedReply rs → map (λ r. r.frees) rs ≡ map frees_done rs
      by [] e = refl
      by (r ∷ rs) e = (λ i. sym (all_done r e.0) i ∷ by rs e.1 i)

  answers_same : (c : ℕ) (a : AtCore) → slice_get m.cores c ≡ Some a → answers_of (core_so_far a) ≡ answers_at a
  answers_same c a there = ap (λ (l : List (List Free)). frees_of_answers (lines_in a.course) ++ l) (replies_done c a there)

  all_answers : map answers_of now.cores ≡ map answers_at m.cores
  all_answers = map_both answers_of core_so_far m.cores ∙ map_same (λ (a : AtCore). answers_of (core_so_far a)) answers_at m.cores answers_same

  core_times : (c : ℕ) (a : AtCore) → slice_get m.cores c ≡ Some a → (core_at s.terms idle_core (entries (core_so_far a))).timed ≤ s.last
  core_times c a there =
      let fed : IsFed s.terms s.last (handler_of s c) a = h.fed c a there in
      let timed = timed_so_far s.terms s.last (handler_of s c) a.course fed.sound in
      let same = ap (λ (o : Option Line). (core_at s.terms idle_core (a.course.lines ++ option_to_list o)).timed) (line_same a.course) in
      omega (arith, timed, same, fed.until)

  core_answers : (c : ℕ) (a : AtCore) → slice_get m.cores c ≡ Some a → AnswersSoFar s.terms (core_so_far a)
  core_answers c a there =
      let w : Waits s.terms a.course (waiting s c m a) = h.order.waits c a there in
      subst (λ (n : ℕ). EachNumbered (λ k frees. AreAllFreesFor (slice_get (told_so_far s.terms (core_so_far a)) k) frees) n (map (λ r. r.frees) a.answers)) (sym (done_count s.terms a.course))
      (subst (λ (l : List Told). EachNumbered (λ k frees. AreAllFreesFor (slice_get l k) frees) (answered_by s.terms a.course) (map (λ r. r.frees) a.answers)) (sym (told_same s.terms a))
      (answers_numbered (handler_of s c) (told_by s.terms a.course) (answered_by s.terms a.course) a.answers (in_hand c (slice_get m.workers (c % length s.handlers)) ++ a.events)
      (w.queue ∙ ap (map told_of) (append_assoc (map (λ r. r.given) a.answers) (in_hand c (slice_get m.workers (c % length s.handlers))) a.events))
      (h.order.replies c a there) (h.freed.cores c a there).answers))

  core_frees : (c : ℕ) (a : AtCore) → slice_get m.cores c ≡ Some a → FreesRiseSoFar (part_of now c (core_so_far a)) (line_under a.course)
  core_frees c a there = by a.course.under refl (h.freed.cores c a there).lines
    where
      by : (o : Option Under) → a.course.under ≡ o → Along s.terms (FreesInOrder s.terms) idle_core (lines_in a.course) → FreesRiseSoFar (part_of now c (core_so_far a)) (line_under a.course)
      by None e f = rw e (subst (Along s.terms (FreesInOrder s.terms) idle_core) (append-nil a.course.lines) (rw e at f), tt)
      by (Some u) e f = rw e (split s.terms (FreesInOrder s.terms) idle_core a.course.lines u.line (rw e at f))

  -- a hand's event is the next of its core
  hand_next : (w : ℕ) (x : AtWorker) (hand : InHand) → slice_get m.workers w ≡ Some x → x.hand ≡ Some hand → (a : AtCore) → slice_get m.cores hand.core ≡ Some a
      → slice_get (told_so_far s.terms (core_so_far a)) (length (answers_of (core_so_far a))) ≡ Some (told_of hand.given)
  hand_next w x hand there has a is =
      (λ i. slice_get (told_same s.terms a i) (many i)) ∙ behind_answers (told_by s.terms a.course) (answered_by s.terms a.course) a.answers hand.given a.events
      (w'.queue ∙ ap (λ (l : List Given). map told_of (map (λ r. r.given) a.answers ++ l ++ a.events)) own
      ∙ ap (map told_of) (append_assoc (map (λ r. r.given) a.answers) (hand.given ∷ []) a.events))
    where
      w' : Waits s.terms a.course (waiting s hand.core m a)
      w' = h.order.waits hand.core a is

      many : length (answers_of (core_so_far a)) ≡ answered_by s.terms a.course + length a.answers
      many = ap length (answers_same hand.core a is) ∙ answers_count s.terms a

      same_core : (c : ℕ) → (c == c) ≡ true
      same_core c = grind (arith, nat_tests)

      in_its_hand : (o : Option AtWorker) → o ≡ Some x → in_hand hand.core o ≡ hand.given ∷ []
      in_its_hand o e = ap (in_hand hand.core) e ∙ held x has
        where
          held : (x : AtWorker) → x.hand ≡ Some hand → in_hand hand.core (Some x) ≡ hand.given ∷ []
          held x k = rw k (ap (λ b. cond b (hand.given ∷ []) []) (same_core hand.core))

      own : in_hand hand.core (slice_get m.workers (hand.core % length s.handlers)) ≡ hand.given ∷ []
      own = in_its_hand (slice_get m.workers (hand.core % length s.handlers)) (ap (slice_get m.workers) (h.order.hands w x hand there has).own ∙ there)

  hand_fits : (w : ℕ) (x : AtWorker) (hand : InHand) → slice_get m.workers w ≡ Some x → x.hand ≡ Some hand → AreFreesFor (Some (told_of hand.given)) hand.frees
  hand_fits w x hand there has =
      hand_frees (handler_at s.handlers w hand.given.conv hand.given.seen) (advice_of (handler_at s.handlers w) hand) (told_of hand.given) hand.frees
      (h.order.hands w x hand there has).frees (h.freed.hands w x hand there has).0

  worker_hand : (w : ℕ) (x : AtWorker) → slice_get m.workers w ≡ Some x → HandSoFar now w (worker_so_far x)
  worker_hand w x there = by x.hand refl
    where
      of_core : HandIn → Option CoreSoFar → Type 0
      of_core k None = ⊥
      of_core k (Some c) = AreFreesFor (slice_get (told_so_far s.terms c) (length (answers_of c))) k.frees

      by : (o : Option InHand) → x.hand ≡ o → HandSoFar now w (worker_so_far x)
      by None e = rw e tt
      by (Some hand) e =
          let at = found_one m.cores hand.core (h.freed.known w x hand there e) in
          let here : of_core (record { core = hand.core; frees = hand.frees }) (Some (core_so_far at.0)) =
          subst (λ (o : Option Told). AreFreesFor o hand.frees) (sym (hand_next w x hand there e at.0 at.1)) (hand_fits w x hand there e) in
          rw e ((h.order.hands w x hand there e).own, subst (of_core (record { core = hand.core; frees = hand.frees })) (sym (map_got core_so_far m.cores hand.core at.0 at.1)) here)

  served_core : (w : ℕ) (x : AtWorker) → slice_get m.workers w ≡ Some x → (c : ℕ) (a : AtCore) → slice_get m.cores c ≡ Some a
      → how_many (λ k. k == c) x.served ≡ times_answered now w c (core_so_far a)
  served_core w x there c a is =
      h.counted.counts w x there c a is
      ∙ ap (λ (n : ℕ). cond ((c % length s.handlers) == w) n 0) (sym (ap length (answers_same c a is) ∙ answers_count s.terms a))

  all_served : ServedSoFar now
  all_served = (
    numbered_map worker_so_far _ m.workers 0
        (numbered_here _ m.workers (λ w x there. (
          numbered_map core_so_far _ m.cores 0 (numbered_here _ m.cores (λ c a is. served_core w x there c a is)),
          ap (λ (n : ℕ). list_all (λ k. nat_lt k n) x.served) (length-map m.cores core_so_far) ∙ h.counted.known w x there,
        ))),
    length-map m.workers worker_so_far ∙ h.counted.workers,
  )

  worker_rises : (w : ℕ) (x : AtWorker) → slice_get m.workers w ≡ Some x → Rise (along_served (map answers_of now.cores) [] x.served ++ frees_of_hand (worker_so_far x))
  worker_rises w x there = subst Rise (λ i. along_served (sym all_answers i) [] x.served ++ same_hand x.hand refl i) (h.served w x there).rises
    where
      same_hand : (o : Option InHand) → x.hand ≡ o → frees_in_hand x ≡ frees_of_hand (worker_so_far x)
      same_hand None e = rw e refl
      same_hand (Some hand) e = rw e refl

  -- the same moves in another order
  frees_sum : (w : BudgetMove → ℕ) → total w (moves_so_far (flat_map entries now.cores) (frees_outside now)) ≡ total w (moves_at m)
  frees_sum w =
      omega (
        arith,
        total_append w (flat_map (λ line. moves_of line.act) (flat_map entries now.cores)) (map Release (frees_outside now)),
        total_append w (flat_map (λ line. moves_of line.act) (lines_at m)) (map Release (frees_at m)),
        ap (λ (l : List Line). total w (flat_map (λ line. moves_of line.act) l)) lines_same,
        total_map w Release (frees_outside now),
        total_map w Release (frees_at m),
        total_append (freely w) (flat_map (λ c. flat_map (λ frees. frees) c.answers) now.cores) (flat_map frees_of_hand now.workers),
        total_append (freely w) (flat_map frees_in_hand m.workers) (flat_map frees_waiting m.cores),
        ap (total (freely w)) waiting_same,
        ap (total (freely w)) hands_same,
      )
    where
      flat_same : {A B : Type 0} (f g : A → List B) (xs : List A) → ((x : A) → f x ≡ g x) → flat_map f xs ≡ flat_map g xs
      flat_same f g [] h = refl
      flat_same f g (x ∷ xs) h = (λ i. h x i ++ flat_same f g xs h i)

      lines_same : flat_map entries now.cores ≡ lines_at m
      lines_same = flat_mapped entries core_so_far m.cores

      waiting_same : flat_map (λ c. flat_map (λ frees. frees) c.answers) now.cores ≡ flat_map frees_waiting m.cores
      waiting_same = flat_mapped (λ (c : CoreSoFar). flat_map (λ frees. frees) c.answers) core_so_far m.cores
          ∙ flat_same (λ (a : AtCore). flat_map (λ frees. frees) (map (λ (r : Reply). r.frees) a.answers)) frees_waiting m.cores (λ a. flat_mapped (λ (frees : List Free). frees) (λ (r : Reply). r.frees) a.answers)

      hands_same : flat_map frees_of_hand now.workers ≡ flat_map frees_in_hand m.workers
      hands_same = flat_mapped frees_of_hand worker_so_far m.workers ∙ flat_same (λ (x : AtWorker). frees_of_hand (worker_so_far x)) frees_in_hand m.workers one
        where
          one : (x : AtWorker) → frees_of_hand (worker_so_far x) ≡ frees_in_hand x
          one x = by x.hand refl
            where
              by : (o : Option InHand) → x.hand ≡ o → frees_of_hand (worker_so_far x) ≡ frees_in_hand x
              by None e = rw e refl
              by (Some hand) e = rw e refl

  looks_same : looks_so_far (flat_map entries now.cores) ≡ looks_at m
  looks_same = ap looks_so_far (flat_mapped entries core_so_far m.cores)

  all_history : HistorySoFar s.terms.marks.limit (flat_map entries now.cores) (frees_outside now)
  all_history = record { once = leads.once; found = leads.found; fair = leads.fair; within = leads.within }
    where
      leads : LeadsTo s.terms.marks.limit m.pair (moves_so_far (flat_map entries now.cores) (frees_outside now)) (looks_so_far (flat_map entries now.cores))
      leads =
          leads_on s.terms.marks.limit m.pair m.pair (moves_at m) [] (moves_so_far (flat_map entries now.cores) (frees_outside now)) (looks_at m) [] (looks_so_far (flat_map entries now.cores)) h.balanced
          (nothing_comes s.terms.marks.limit m.pair h.balanced.room) (λ w. omega (arith, frees_sum w)) (λ v. omega (arith, ap (total v) looks_same))

  pub lawful_so_far : LawfulRunSoFar now
  lawful_so_far = record {
    books = numbered_map core_so_far _ m.cores 0 (numbered_here _ m.cores (λ c a there. book_so_far s c a (h.fed c a there)));
    times = each_of_map core_so_far _ m.cores core_times;
    answers = each_of_map core_so_far _ m.cores core_answers;
    hands = numbered_map worker_so_far _ m.workers 0 (numbered_here _ m.workers worker_hand);
    served = all_served;
    history = all_history;
    frees = numbered_map core_so_far _ m.cores 0 (numbered_here _ m.cores core_frees);
    looks = each_of_map core_so_far _ m.cores (λ c a there. h.rising c a there);
    workers = each_of_map worker_so_far _ m.workers worker_rises;
  }
