-- Where every actor is idle, nothing is left to do; so a drill ends with a whole journal.
use Rattle.std.proofs.Common.{◌≡◌, ℕ, zero, suc, ◌+◌, ◌%◌, ◌<◌, ◌≤◌, ◌==◌, ◌⊎◌, inl, inr, Bool, true, false, cond, List, [], ◌∷◌, ◌++◌, Option, Some, None, refl, ap, sym, ◌∙◌, subst, arith, append-nil, length, map, filter, slice_get, flat_map}
use Rattle.std.specs.Prelude.{nat_lt, nat_le}
use Rattle.std.proofs.lemmas.List.{length-drop}
use Rattle.std.proofs.lemmas.Option.{slice_get_within}
use Rattle.std.proofs.lemmas.Bool.Decides.{nat_tests}
use Rattle.streamdefs.specs.Packet.{Packet}
use Rattle.streamdefs.specs.Terms.{Terms}
use Rattle.streamdefs.specs.Case.{numbers}
use Rattle.streamdefs.specs.Core.{Core, Told}
use Rattle.streamdefs.specs.Want.{Want}
use Rattle.streamdefs.specs.Want.Want.{Reserve, Release, Emit, Rest}
use Rattle.coretable.specs.Course.{Course, Under, Job, Choice, step, core_of, want_of, under_step, choice, choice_step, has_room, is_answered, begun}
use Rattle.coretable.specs.Course.Choice.{Begins, Waits, Closed}
use Rattle.coretable.specs.Course.Step.{Goes, Stops}
use Rattle.coretable.specs.Course.Stop.{Fills, Rests, Finishes}
use Rattle.coretable.proofs.Soundness.{is_finished}
use Rattle.mixrun.specs.declared.actor.Actor.TheVariants as actors
use Rattle.mixrun.specs.Moment.{Setup, Input, Given, AtCore, AtWorker, Moment}
use Rattle.mixrun.specs.Moment.Input.{Brings, Ends}
use Rattle.mixrun.specs.Steps.{opening, opening_core}
use Rattle.mixrun.specs.Queue.{told_by, answered_by, Waits as Queued, in_hand}
use Rattle.mixrun.specs.Ledger.{AreMarks}
use Rattle.mixrun.specs.AtMoment.{packet_in, offered}
use Rattle.mixrun.specs.AtEnd.{AllOver, AllIdle}
use Rattle.mixrun.specs.Books.{AreLoadable}
use Rattle.mixrun.specs.Holds.{Holds}
use Rattle.mixrun.specs.Schedule.{IsCoreIdle, IsBackIdle, AreAllIdle}
use Rattle.mixrun.specs.Drill.{Offer, Drilled, HasItsEnd, IsEnding, IsBehind, AreBehind, AreAccepted, for_core, coming, offers_of, share_of}
use Rattle.mixrun.specs.Drilled.{IsStill, IsWhole}
use Rattle.mixrun.proofs.BookSteps.{rests_at}
use Rattle.mixrun.proofs.HoldLaws.{holds_at_first, at_the_end, history_at_end, replicated, replicate_size}
use Rattle.mixrun.proofs.DrillSteps.{InDrill, drilled_ends}

-- A core that is full has an event without an answer

under_fills : (m : Course) (u : Under) (w : Want) → under_step m u w ≡ Stops Fills → ⊥
under_fills m u (Reserve ask k) g = cc
under_fills m u (Release charge) g = cc
under_fills m u (Emit event) g = cc
under_fills m u Rest g = cc

all_answered : (events answered : ℕ) → events ≤ answered → nat_le events answered ≡ true
all_answered events answered h = grind (arith, nat_tests)

room_left : (events answered : ℕ) → events ≤ answered → nat_lt events (answered + 256) ≡ true
room_left events answered h = grind (arith, nat_tests)

begins_fills : (m : Course) (line : Choice) (b : Bool) (next : Course) → b ≡ true → cond b (Goes next) (Stops Fills) ≡ Stops Fills → ⊥
begins_fills m line true next e g = cc
begins_fills m line false next e g = cc

ends_fills : (b : Bool) → b ≡ true → cond b (Stops Finishes) (Stops Fills) ≡ Stops Fills → ⊥
ends_fills true e g = cc
ends_fills false e g = cc

choice_fills : (core : Core) (m : Course) (x : Choice) → length core.events ≤ core.answered → choice_step core m x ≡ Stops Fills → ⊥
choice_fills core m (Begins line) h g = begins_fills m (Begins line) (has_room core) (begun m line) (room_left (length core.events) core.answered h) g
choice_fills core m Waits h g = cc
choice_fills core m Closed h g = ends_fills (is_answered core) (all_answered (length core.events) core.answered h) g

none_under : (terms : Terms) (m : Course) → step terms m ≡ Stops Fills → m.under ≡ None
none_under terms m g = by m.under refl
  where
    by : (o : Option Under) → m.under ≡ o → m.under ≡ None
    by None e = e
    by (Some u) e = absurd (under_fills m u (want_of terms m u) (let f : under_step m u (want_of terms m u) ≡ Stops Fills = rw (step, e) at g in f))

not_full : (terms : Terms) (m : Course) → Queued terms m [] → step terms m ≡ Stops Fills → ⊥
not_full terms m queue g =
    let none = none_under terms m g in
    let chosen : choice_step (core_of terms m) m (choice terms (core_of terms m) m.job) ≡ Stops Fills = rw (step, none) at g in
    choice_fills (core_of terms m) m (choice terms (core_of terms m) m.job) most chosen
  where
    none : m.under ≡ None
    none = none_under terms m g

    answered_is : answered_by terms m ≡ (core_of terms m).answered
    answered_is = rw none (omega arith)

    told_is : told_by terms m ≡ (core_of terms m).events
    told_is = rw none (append-nil (core_of terms m).events)

    most : length (core_of terms m).events ≤ (core_of terms m).answered
    most = omega (arith, ap (length {A = Told}) queue.queue, length-drop (answered_by terms m) (told_by terms m), answered_is, ap (length {A = Told}) told_is)

-- Nothing waits

no_hand : (c : ℕ) (o : Option AtWorker) → ((x : AtWorker) → o ≡ Some x → x.hand ≡ None) → in_hand c o ≡ []
no_hand c None h = refl
no_hand c (Some x) h = rw (in_hand, h x refl) refl

some_there : {X : Type 0} (xs : List X) (i : ℕ) → i < length xs → (x : X) × (slice_get xs i ≡ Some x)
some_there [] i h = absurd (omega arith)
some_there (x ∷ xs) zero h = (x, refl)
some_there (x ∷ xs) (suc i) h = some_there xs i (omega arith)

module _ (s : Setup) (m : Moment) (workers : 1 ≤ length s.handlers) (h : Holds s m) (idle : AreAllIdle s m) where
  pub all_empty : AllIdle m
  all_empty w x there = (idle (actors.Work w) x there).0

  module _ (c : ℕ) (a : AtCore) (there : slice_get m.cores c ≡ Some a) where
    no_events : a.events ≡ []
    no_events =
        let inside : c % length s.handlers < length m.workers = omega (arith, h.counted.workers) in
        let x = some_there m.workers (c % length s.handlers) inside in
        (idle (actors.Work (c % length s.handlers)) x.0 x.1).1 c a there refl

    hand_empty : in_hand c (slice_get m.workers (c % length s.handlers)) ≡ []
    hand_empty = no_hand c (slice_get m.workers (c % length s.handlers)) (λ x e. all_empty (c % length s.handlers) x e)

    rests_with : a.answers ≡ [] → Queued s.terms a.course []
    rests_with none =
        subst (λ (l : List Given). Queued s.terms a.course l) (λ i. map (λ r. r.given) (none i) ++ hand_empty i ++ no_events i) (h.order.waits c a there)

    -- what a core stopped for, where it is at rest or has no answers
    still_answers : (o : Option Under) → a.course.under ≡ o → IsBackIdle a → IsCoreIdle s.terms a → a.answers ≡ []
    still_answers o e (inl none) core = none
    still_answers o e (inr (u, under)) (inl full) = absurd (let none = none_under s.terms a.course full in cc)
    still_answers o e (inr (u, under)) (inr (inl over)) = absurd (let none = (is_finished s.terms a.course over).rests in cc)
    still_answers o e (inr (u, under)) (inr (inr (rests, nothing))) = absurd (let none = (rests_at s.terms a.course rests).0 in cc)

    no_answers : a.answers ≡ []
    no_answers = still_answers a.course.under refl (idle (actors.Back c) a there) (idle (actors.Core c) a there)

    stops : IsCoreIdle s.terms a → (step s.terms a.course ≡ Stops Finishes) ⊎ ((step s.terms a.course ≡ Stops Rests) × (a.inputs ≡ []))
    stops (inl full) = absurd (not_full s.terms a.course (rests_with no_answers) full)
    stops (inr rest) = rest

    still : IsStill s a
    still = record { rests = stops (idle (actors.Core c) a there); events = no_events; answers = no_answers }

  pub idle_is_still : AllIdle m × ((c : ℕ) (a : AtCore) → slice_get m.cores c ≡ Some a → IsStill s a)
  idle_is_still = (all_empty, still)

-- With the end offered, all is over

over_by : (s : Setup) (packets : List Packet) (a : AtCore) → IsBehind s.last packets a.course (a.inputs ++ []) → (step s.terms a.course ≡ Stops Finishes) ⊎ ((step s.terms a.course ≡ Stops Rests) × (a.inputs ≡ []))
    → (step s.terms a.course ≡ Stops Finishes) × (a.inputs ≡ [])
over_by s packets a h (inl over) =
    let done = is_finished s.terms a.course over in
    let none : a.inputs ++ [] ≡ [] = subst (λ (j : Job). IsEnding j (a.inputs ++ [])) done.closes h.ends in
    (over, sym (append-nil a.inputs) ∙ none)
over_by s packets a h (inr (rests, none)) =
    let free = rests_at s.terms a.course rests in
    let ends : HasItsEnd (a.inputs ++ []) = subst (λ (j : Job). IsEnding j (a.inputs ++ [])) free.1 h.ends in
    absurd (subst (λ (l : List Input). HasItsEnd (l ++ [])) none ends)

-- A capture's offers

module _ (core_of : Packet → ℕ) (last : ℕ) where
  abbrev mine : ℕ → List Packet → List Packet
  mine c packets = filter (λ p. core_of p == c) packets

  mine_more : (c : ℕ) (p : Packet) (packets : List Packet) (b : Bool) → (core_of p == c) ≡ b → mine c (p ∷ packets) ≡ cond b (p ∷ mine c packets) (mine c packets)
  mine_more c p packets true e = rw e refl
  mine_more c p packets false e = rw e refl

  loadable : (c : ℕ) (packets : List Packet) (n k number clock : ℕ) → n ≤ number → k ≤ clock → AreAccepted last number clock packets → AreLoadable last n k (map Brings (mine c packets) ++ Ends last ∷ [])
  loadable c [] n k number clock up late h = (refl, omega arith, refl)
  loadable c (p ∷ packets) n k number clock up late h =
      by (core_of p == c) refl (loadable c packets p.number p.now p.number p.now (omega arith) (omega arith) h.2) (loadable c packets n k p.number p.now (omega (arith, h.0)) (omega (arith, h.1)) h.2)
    where
      until : (l : List Packet) (i j : ℕ) → AreAccepted last i j l → j ≤ last
      until [] i j g = g
      until (q ∷ l) i j g = let rest = until l q.number q.now g.2 in omega (arith, g.1)

      by : (b : Bool) → (core_of p == c) ≡ b → AreLoadable last p.number p.now (map Brings (mine c packets) ++ Ends last ∷ []) → AreLoadable last n k (map Brings (mine c packets) ++ Ends last ∷ [])
          → AreLoadable last n k (map Brings (mine c (p ∷ packets)) ++ Ends last ∷ [])
      by true e behind passed = subst (λ (l : List Packet). AreLoadable last n k (map Brings l ++ Ends last ∷ [])) (sym (mine_more c p packets true e))
          (omega (arith, h.0), omega (arith, h.1), until packets p.number p.now h.2, behind)
      by false e behind passed = subst (λ (l : List Packet). AreLoadable last n k (map Brings l ++ Ends last ∷ [])) (sym (mine_more c p packets false e)) passed

  has_end : (packets : List Packet) → HasItsEnd (map Brings packets ++ Ends last ∷ [])
  has_end [] = refl
  has_end (p ∷ packets) = has_end packets

  brought : (packets : List Packet) → flat_map packet_in (map Brings packets ++ Ends last ∷ []) ≡ packets
  brought [] = refl
  brought (p ∷ packets) = ap (λ l. p ∷ l) (brought packets)

  -- the end comes once for each core
  abbrev ends_from : (from count : ℕ) → Offer
  ends_from from count = map (λ core. (core, Ends last)) (numbers from count)

  no_end : (c from count : ℕ) → c < from → for_core c (ends_from from count) ≡ []
  no_end c from zero low = refl
  no_end c from (suc count) low = let other : (from == c) ≡ false = grind (arith, nat_tests) in rw other (no_end c (suc from) count (omega arith))

  one_end : (c from count : ℕ) → from ≤ c → c < from + count → for_core c (ends_from from count) ≡ Ends last ∷ []
  one_end c from zero low high = absurd (omega arith)
  one_end c from (suc count) low high = by (from == c) refl (λ (more : from < c). one_end c (suc from) count (omega arith) (omega arith))
    where
      by : (b : Bool) → (from == c) ≡ b → (from < c → for_core c (ends_from (suc from) count) ≡ Ends last ∷ []) → for_core c (ends_from from (suc count)) ≡ Ends last ∷ []
      by true e further = let same : from ≡ c = grind (arith, nat_tests) in rw e (ap (λ l. Ends last ∷ l) (no_end c (suc from) count (omega arith)))
      by false e further = let other : from < c = grind (arith, nat_tests) in rw e (further other)

  comes : (c cores : ℕ) → c < cores → (packets : List Packet) → coming c (offers_of core_of cores last packets) ≡ map Brings (mine c packets) ++ Ends last ∷ []
  comes c cores inside [] = append-nil (for_core c (ends_from 0 cores)) ∙ one_end c 0 cores (omega arith) (omega arith)
  comes c cores inside (p ∷ packets) = by (core_of p == c) refl (comes c cores inside packets)
    where
      by : (b : Bool) → (core_of p == c) ≡ b → coming c (offers_of core_of cores last packets) ≡ map Brings (mine c packets) ++ Ends last ∷ [] → coming c (offers_of core_of cores last (p ∷ packets)) ≡ map Brings (mine c (p ∷ packets)) ++ Ends last ∷ []
      by true e rest =
          (let first : for_core c ((core_of p, Brings p) ∷ []) ≡ Brings p ∷ [] = rw e refl in
          ap (λ (l : List Input). l ++ coming c (offers_of core_of cores last packets)) first)
          ∙ ap (λ (l : List Input). Brings p ∷ l) rest
          ∙ ap (λ (l : List Packet). map Brings l ++ Ends last ∷ []) (sym (mine_more c p packets true e))
      by false e rest =
          (let first : for_core c ((core_of p, Brings p) ∷ []) ≡ [] = rw e refl in
          ap (λ (l : List Input). l ++ coming c (offers_of core_of cores last packets)) first)
          ∙ rest
          ∙ ap (λ (l : List Packet). map Brings l ++ Ends last ∷ []) (sym (mine_more c p packets false e))

numbered_map : {A X : Type 0} (f : A → X) (g : ℕ → X) (xs : List A) (k : ℕ) → ((i : ℕ) (a : A) → slice_get xs i ≡ Some a → (j : ℕ) → j ≡ k + i → f a ≡ g j) → map f xs ≡ map g (numbers k (length xs))
numbered_map f g [] k h = refl
numbered_map f g (x ∷ xs) k h = λ i. h 0 x refl k (omega arith) i ∷ numbered_map f g xs (suc k) (λ n a e j same. h (suc n) a e j (omega arith)) i

module _ (s : Setup) (seed : Option ℕ) (core_of : Packet → ℕ) (cores : ℕ) (packets : List Packet) (n : Moment) (marks : AreMarks s.terms.marks) (workers : 1 ≤ length s.handlers)
    (accepted : AreAccepted s.last 0 0 packets) (run : Drilled s seed (offers_of core_of cores s.last packets) (opening cores (length s.handlers)) n) where
  abbrev first : Moment
  first = opening cores (length s.handlers)

  begins : AreBehind s (share_of core_of packets) (λ c. coming c (offers_of core_of cores s.last packets)) first
  begins c a there =
      let inside : c < cores = omega (arith, slice_get_within first.cores c a there, replicate_size cores opening_core) in
      let is = comes core_of s.last c cores inside packets in
      subst (λ (b : AtCore). IsBehind s.last (share_of core_of packets c) b.course (b.inputs ++ coming c (offers_of core_of cores s.last packets))) (sym (replicated cores opening_core c a there))
      (subst (λ (l : List Input). IsBehind s.last (share_of core_of packets c) opening_core.course l) (sym is) (record {
        loadable = loadable core_of s.last c packets 0 0 0 0 (omega arith) (omega arith) accepted;
        ends = has_end core_of s.last (share_of core_of packets c);
        packets_are = brought core_of s.last (share_of core_of packets c);
      }))

  ended : InDrill s (share_of core_of packets) cores (λ c. coming c []) n × AreAllIdle s n
  ended = drilled_ends s (share_of core_of packets) cores marks seed (offers_of core_of cores s.last packets) first n run
      (record { holds = holds_at_first s cores; behind = begins; cores = replicate_size cores opening_core })

  over : AllOver s n
  over c a there = over_by s (share_of core_of packets c) a (ended.0.behind c a there) ((idle_is_still s n workers ended.0.holds ended.1).1 c a there).rests

  pub drill_is_whole : IsWhole s core_of cores packets n
  drill_is_whole = record {
    over = over;
    lawful = at_the_end s n ended.0.holds over;
    arrivals = numbered_map offered (share_of core_of packets) n.cores 0 (λ c a there j same.
        let here : j ≡ c = omega arith in
        let all = (ended.0.behind c a there).packets_are in
        ap (λ (l : List Input). a.course.packets ++ flat_map packet_in l) (sym (append-nil a.inputs)) ∙ all ∙ ap (share_of core_of packets) (sym here))
        ∙ ap (λ (k : ℕ). map (share_of core_of packets) (numbers 0 k)) ended.0.cores;
    history = λ none. history_at_end s n ended.0.holds over (all_empty s n workers ended.0.holds ended.1) none;
  }
