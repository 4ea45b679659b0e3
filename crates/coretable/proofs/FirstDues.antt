-- Which due of a core comes first, by an index of the moments of its conversations.
use Rattle.std.specs.Prelude.{◌≡◌, refl, ◌⊎◌, ℕ, zero, suc, ◌+◌, ◌≤◌, ◌<◌, Bool, true, false, cond, not, ◌&&◌, ◌||◌, ◌==◌, nat_lt, nat_le, List, [], ◌∷◌, ◌++◌, map, flat_map, Option, None, Some, slice_get}
use Rattle.std.specs.FinMap.{get}
use Rattle.std.proofs.Common.{inl, inr, sym, ◌∙◌, ap, arith, subst}
use Rattle.std.proofs.lemmas.Bool.Decides.{nat_tests}
use Rattle.deadlines.specs.Dues.{Dues, IsUpTo, IsFirstDue}
use Rattle.flowdir.specs.Boundary.{least_of}
use Rattle.convo.specs.Talk.{sooner_of, due_of}
use Rattle.streamdefs.specs.Lists.{Each}
use Rattle.streamdefs.specs.Terms.{Terms}
use Rattle.streamdefs.specs.Direction.{dues_in}
use Rattle.streamdefs.specs.Convo.{Convo, is_live, time_dues, idle_dues}
use Rattle.streamdefs.specs.Core.{Core, Open, Due, dues, dues_of, first_due, sooner, is_sooner}
use Rattle.coretable.specs.Course.{due_by}
use Rattle.coretable.specs.Orderly.{Rises}
use Rattle.coretable.specs.Moments.{moment_of, IsDueAt}
use Rattle.coretable.proofs.DueLemmas.{each_first}
use Rattle.coretable.proofs.Entered.{each_weaker}

-- Lists.

module _ {X : Type 0} where
  -- one of these
  abbrev Among : X → List X → Type 0
  Among x [] = ⊥
  Among x (y ∷ ys) = (y ≡ x) ⊎ Among x ys

  among_front : (x : X) (xs ys : List X) → Among x xs → Among x (xs ++ ys)
  among_front x [] ys h = absurd h
  among_front x (y ∷ xs) ys (inl e) = inl e
  among_front x (y ∷ xs) ys (inr h) = inr (among_front x xs ys h)

  among_behind : (x : X) (xs ys : List X) → Among x ys → Among x (xs ++ ys)
  among_behind x [] ys h = h
  among_behind x (y ∷ xs) ys h = inr (among_behind x xs ys h)

  each_both : (P : X → Type 0) (xs ys : List X) → Each P xs → Each P ys → Each P (xs ++ ys)
  each_both P [] ys a b = b
  each_both P (x ∷ xs) ys a b = (a.0, each_both P xs ys a.1 b)

among_mapped : (g : ℕ → Due) (n : ℕ) (ns : List ℕ) → Among n ns → Among (g n) (map g ns)
among_mapped g n [] h = absurd h
among_mapped g n (m ∷ ns) (inl e) = inl (ap g e)
among_mapped g n (m ∷ ns) (inr h) = inr (among_mapped g n ns h)

each_mapped : (P : ℕ → Type 0) (Q : Due → Type 0) (g : ℕ → Due) (ns : List ℕ) → ((n : ℕ) → P n → Q (g n)) → Each P ns → Each Q (map g ns)
each_mapped P Q g [] f h = tt
each_mapped P Q g (n ∷ ns) f h = (f n h.0, each_mapped P Q g ns f h.1)

-- the dues of the conversation at a place are among those of all, and what is true of each one's is true of all
among_all : (t : Terms) (os : List Open) (place : ℕ) (o : Open) (d : Due) → slice_get os place ≡ Some o → Among d (dues_of t o) → Among d (flat_map (dues_of t) os)
among_all t [] place o d e h = absurd cc
among_all t (x ∷ os) zero o d e h =
    let same : x ≡ o = cc in
    among_front d (dues_of t x) (flat_map (dues_of t) os) (subst (λ (q : Open). Among d (dues_of t q)) (sym same) h)
among_all t (x ∷ os) (suc place) o d e h = among_behind d (dues_of t x) (flat_map (dues_of t) os) (among_all t os place o d e h)

each_of_all : (P : Due → Type 0) (t : Terms) (os : List Open) → ((place : ℕ) (o : Open) → slice_get os place ≡ Some o → Each P (dues_of t o)) → Each P (flat_map (dues_of t) os)
each_of_all P t [] h = tt
each_of_all P t (o ∷ os) h = each_both P (dues_of t o) (flat_map (dues_of t) os) (h 0 o refl) (each_of_all P t os (λ place q e. h (suc place) q e))

-- a conversation further on has a greater number
at_least : (from : ℕ) (os : List Open) (place : ℕ) (o : Open) → Rises from os → slice_get os place ≡ Some o → from ≤ o.id
at_least from [] place o r e = absurd cc
at_least from (x ∷ os) zero o r e = let same : x ≡ o = cc in subst (λ (q : Open). from ≤ q.id) same r.0
at_least from (x ∷ os) (suc place) o r e = omega (arith, r.0, at_least (suc x.id) os place o r.2 e)

rises_between : (from : ℕ) (os : List Open) (i j : ℕ) (a b : Open) → Rises from os → slice_get os i ≡ Some a → slice_get os j ≡ Some b → i < j → a.id < b.id
rises_between from [] i j a b r e f l = absurd cc
rises_between from (x ∷ os) i zero a b r e f l = absurd (omega (arith, l))
rises_between from (x ∷ os) zero (suc j) a b r e f l = let same : x ≡ a = cc in subst (λ (q : Open). q.id < b.id) same (at_least (suc x.id) os j b r.2 f)
rises_between from (x ∷ os) (suc i) (suc j) a b r e f l = rises_between (suc x.id) os i j a b r.2 e f (omega (arith, l))

-- The least of numbers is one of them, up to each.

abbrev lesser : ℕ → Option ℕ → Option ℕ
lesser n None = Some n
lesser n (Some m) = Some (cond (nat_le n m) n m)

least_head : (n : ℕ) (ns : List ℕ) (o : Option ℕ) → least_of ns ≡ o → least_of (n ∷ ns) ≡ lesser n o
least_head n ns None e = rw e refl
least_head n ns (Some m) e = rw e refl

abbrev IsFloor : Option ℕ → ℕ → Type 0
IsFloor None n = ⊥
IsFloor (Some m) n = m ≤ n

lesser_first : (n m : ℕ) → cond (nat_le n m) n m ≤ n
lesser_first n m = grind (arith, nat_tests)

lesser_second : (n m k : ℕ) → m ≤ k → cond (nat_le n m) n m ≤ k
lesser_second n m k h = grind (arith, nat_tests)

floor_step : (n : ℕ) (ns : List ℕ) (o : Option ℕ) → Each (IsFloor o) ns → Each (IsFloor (lesser n o)) (n ∷ ns)
floor_step n ns None h = (omega arith, each_weaker (IsFloor None) (IsFloor (Some n)) ns (λ k l. absurd l) h)
floor_step n ns (Some m) h =
    (lesser_first n m, each_weaker (IsFloor (Some m)) (IsFloor (Some (cond (nat_le n m) n m))) ns (λ k l. lesser_second n m k l) h)

floors : (ns : List ℕ) → Each (IsFloor (least_of ns)) ns
floors [] = tt
floors (n ∷ ns) = subst (λ (o : Option ℕ). Each (IsFloor o) (n ∷ ns)) (sym (least_head n ns (least_of ns) refl)) (floor_step n ns (least_of ns) (floors ns))

least_step : (n m : ℕ) (ns : List ℕ) (o : Option ℕ) → lesser n o ≡ Some m → ((k : ℕ) → o ≡ Some k → Among k ns) → Among m (n ∷ ns)
least_step n m ns None e rest = let same : n ≡ m = cc in inl same
least_step n m ns (Some k) e rest = chosen (nat_le n k) e
  where
    chosen : (b : Bool) → Some (cond b n k) ≡ Some m → Among m (n ∷ ns)
    chosen true e = let same : n ≡ m = cc in inl same
    chosen false e = let same : k ≡ m = cc in inr (subst (λ (q : ℕ). Among q ns) same (rest k refl))

least_among : (ns : List ℕ) (m : ℕ) → least_of ns ≡ Some m → Among m ns
least_among [] m e = absurd cc
least_among (n ∷ ns) m e = least_step n m ns (least_of ns) (sym (least_head n ns (least_of ns) refl) ∙ e) (λ k f. least_among ns k f)

-- What is due of one conversation: its first due is among its dues, and none is before it.

abbrev timed : ℕ → ℕ → Due
timed id at = record { at = at; conv = id; idle = false }

abbrev idled : ℕ → ℕ → Due
idled id at = record { at = at; conv = id; idle = true }

abbrev due_at : ℕ → ℕ × Bool → Due
due_at id due = record { at = due.0; conv = id; idle = due.1 }

abbrev IsNotBefore : Option (ℕ × Bool) → Due → Type 0
IsNotBefore None d = ⊥
IsNotBefore (Some due) d = (due.0 ≤ d.at) × (due.0 ≡ d.at → due.1 ≡ true → d.idle ≡ true)

not_first : (time idle at : ℕ) → nat_le time idle ≡ false → time ≤ at → idle < at
not_first time idle at s h = grind (arith, nat_tests)

up_to_both : (time idle at : ℕ) → nat_le time idle ≡ true → idle ≤ at → time ≤ at
up_to_both time idle at s h = grind (arith, nat_tests)

time_after : (id : ℕ) (times idles : Option ℕ) (at : ℕ) → IsFloor times at → IsNotBefore (sooner_of times idles) (timed id at)
time_after id None idles at h = absurd h
time_after id (Some time) None at h = (h, λ e i. absurd cc)
time_after id (Some time) (Some idle) at h = by (nat_le time idle) refl
  where
    by : (b : Bool) → nat_le time idle ≡ b → IsNotBefore (cond b (Some (time, false)) (Some (idle, true))) (timed id at)
    by true s = (h, λ e i. absurd cc)
    by false s = let later : idle < at = not_first time idle at s h in (omega (arith, later), λ e i. absurd (omega (arith, later, e)))

idle_after : (id : ℕ) (times idles : Option ℕ) (at : ℕ) → IsFloor idles at → IsNotBefore (sooner_of times idles) (idled id at)
idle_after id times None at h = absurd h
idle_after id None (Some idle) at h = (h, λ e i. refl)
idle_after id (Some time) (Some idle) at h = by (nat_le time idle) refl
  where
    by : (b : Bool) → nat_le time idle ≡ b → IsNotBefore (cond b (Some (time, false)) (Some (idle, true))) (idled id at)
    by true s = (up_to_both time idle at s h, λ e i. refl)
    by false s = (h, λ e i. refl)

abbrev IsAfter : Terms → Open → Due → Type 0
IsAfter t o d = (d.conv ≡ o.id) × IsNotBefore (due_of t o.convo) d

each_after : (t : Terms) (o : Open) → Each (IsAfter t o) (dues_of t o)
each_after t o =
    each_both (IsAfter t o) (map (timed o.id) (time_dues t o.convo)) (map (idled o.id) (idle_dues t o.convo))
    (each_mapped (IsFloor (least_of (time_dues t o.convo))) (IsAfter t o) (timed o.id) (time_dues t o.convo)
    (λ at h. (refl, time_after o.id (least_of (time_dues t o.convo)) (least_of (idle_dues t o.convo)) at h)) (floors (time_dues t o.convo)))
    (each_mapped (IsFloor (least_of (idle_dues t o.convo))) (IsAfter t o) (idled o.id) (idle_dues t o.convo)
    (λ at h. (refl, idle_after o.id (least_of (time_dues t o.convo)) (least_of (idle_dues t o.convo)) at h)) (floors (idle_dues t o.convo)))

-- the sooner of two is one of them
abbrev IsOneOf : Option ℕ → Option ℕ → ℕ × Bool → Type 0
IsOneOf times idles due = ((times ≡ Some due.0) × (due.1 ≡ false)) ⊎ ((idles ≡ Some due.0) × (due.1 ≡ true))

one_of : (times idles : Option ℕ) (due : ℕ × Bool) → sooner_of times idles ≡ Some due → IsOneOf times idles due
one_of None None due e = absurd cc
one_of None (Some idle) due e = let same : (idle, true) ≡ due = cc in inr (ap (λ (d : ℕ × Bool). Some d.0) same, sym (ap (λ (d : ℕ × Bool). d.1) same))
one_of (Some time) None due e = let same : (time, false) ≡ due = cc in inl (ap (λ (d : ℕ × Bool). Some d.0) same, sym (ap (λ (d : ℕ × Bool). d.1) same))
one_of (Some time) (Some idle) due e = by (nat_le time idle) e
  where
    by : (b : Bool) → cond b (Some (time, false)) (Some (idle, true)) ≡ Some due → IsOneOf (Some time) (Some idle) due
    by true e = let same : (time, false) ≡ due = cc in inl (ap (λ (d : ℕ × Bool). Some d.0) same, sym (ap (λ (d : ℕ × Bool). d.1) same))
    by false e = let same : (idle, true) ≡ due = cc in inr (ap (λ (d : ℕ × Bool). Some d.0) same, sym (ap (λ (d : ℕ × Bool). d.1) same))

due_among : (t : Terms) (o : Open) (due : ℕ × Bool) → due_of t o.convo ≡ Some due → Among (due_at o.id due) (dues_of t o)
due_among t o due e = by (one_of (least_of (time_dues t o.convo)) (least_of (idle_dues t o.convo)) due e)
  where
    by : IsOneOf (least_of (time_dues t o.convo)) (least_of (idle_dues t o.convo)) due → Among (due_at o.id due) (dues_of t o)
    by (inl h) =
        among_front (due_at o.id due) (map (timed o.id) (time_dues t o.convo)) (map (idled o.id) (idle_dues t o.convo))
        (subst (λ (b : Bool). Among (due_at o.id (due.0, b)) (map (timed o.id) (time_dues t o.convo))) (sym h.1)
        (among_mapped (timed o.id) due.0 (time_dues t o.convo) (least_among (time_dues t o.convo) due.0 h.0)))
    by (inr h) =
        among_behind (due_at o.id due) (map (timed o.id) (time_dues t o.convo)) (map (idled o.id) (idle_dues t o.convo))
        (subst (λ (b : Bool). Among (due_at o.id (due.0, b)) (map (idled o.id) (idle_dues t o.convo))) (sym h.1)
        (among_mapped (idled o.id) due.0 (idle_dues t o.convo) (least_among (idle_dues t o.convo) due.0 h.0)))

-- The first of dues is the one that none of them is sooner than.

same_first : (a b : ℕ) (r s : Bool) → (nat_lt a b || ((a == b) && r)) ≡ false → (nat_lt b a || ((b == a) && s)) ≡ false → a ≡ b
same_first a b r s h k = grind (arith, nat_tests)

same_rest : (a b : ℕ) (r : Bool) → (nat_lt a b || ((a == b) && r)) ≡ false → a ≡ b → r ≡ false
same_rest a b true h e = grind (arith, nat_tests)
same_rest a b false h e = refl

same_kind : (a b : ℕ) (i j : Bool) → (nat_lt a b || ((a == b) && not i && j)) ≡ false → (nat_lt b a || ((b == a) && not j && i)) ≡ false → (a ≡ b) × (i ≡ j)
same_kind a b true true h k = (grind (arith, nat_tests), refl)
same_kind a b false false h k = (grind (arith, nat_tests), refl)
same_kind a b true false h k = absurd (grind (arith, nat_tests))
same_kind a b false true h k = absurd (grind (arith, nat_tests))

neither_sooner : (x d : Due) → is_sooner x d ≡ false → is_sooner d x ≡ false → x ≡ d
neither_sooner x d h k =
    let at : x.at ≡ d.at = same_first x.at d.at _ _ h k in
    let rest = same_kind x.conv d.conv x.idle d.idle (same_rest x.at d.at _ h at) (same_rest d.at x.at _ k (sym at)) in
    (λ i. record { at = at i; conv = rest.0 i; idle = rest.1 i })

first_is : (ds : List Due) (d : Due) → Among d ds → Each (λ e. is_sooner e d ≡ false) ds → first_due ds ≡ Some d
first_is [] d a h = absurd a
first_is (x ∷ ds) d (inl e) h = ap Some (by (first_due ds) refl ∙ e)
  where
    by : (o : Option Due) → first_due ds ≡ o → sooner x o ≡ x
    by None f = refl
    by (Some y) f = ap (λ b. cond b y x) (subst (λ (q : Due). is_sooner y q ≡ false) (sym e) (each_first (λ z. is_sooner z d ≡ false) ds y h.1 f))
first_is (x ∷ ds) d (inr a) h = ap (λ (o : Option Due). Some (sooner x o)) (first_is ds d a h.1) ∙ by (is_sooner d x) refl
  where
    by : (b : Bool) → is_sooner d x ≡ b → Some (cond b d x) ≡ Some d
    by true s = refl
    by false s = ap Some (neither_sooner x d h.0 s)

-- What is due up to a moment.

up_to : ℕ → Option Due → Option Due
up_to now None = None
up_to now (Some d) = cond (nat_lt now d.at) None (Some d)

none_by : (t : Terms) (core : Core) (now : ℕ) (o : Option Due) → first_due (dues t core) ≡ o → up_to now o ≡ None → due_by t core now ≡ None
unfolding up_to
none_by t core now None f u = rw f refl
none_by t core now (Some d) f u = rw f u

some_by : (t : Terms) (core : Core) (now : ℕ) (d : Due) → first_due (dues t core) ≡ Some d → d.at ≤ now → due_by t core now ≡ Some d
some_by t core now d f h = rw f (ap (λ b. cond b None (Some d)) (come now d.at h))
  where
    come : (now at : ℕ) → at ≤ now → nat_lt now at ≡ false
    come now at h = grind (arith, nat_tests)

-- The index says nothing is due.

later_moment : (index : Dues) (now place : ℕ) (m : Option (ℕ × Bool)) (d : Due) → IsFirstDue index now None → get index place ≡ moment_of m → IsNotBefore m d → now < d.at
later_moment index now place None d none g h = absurd h
later_moment index now place (Some due) d none g h = let later : now < due.0 = none place due.0 g in omega (arith, later, h.0)

each_later : (t : Terms) (os : List Open) (index : Dues) (now : ℕ) → ((place : ℕ) → IsDueAt t index place (slice_get os place)) → IsFirstDue index now None
    → Each (λ d. now < d.at) (flat_map (dues_of t) os)
each_later t os index now at none =
    each_of_all (λ d. now < d.at) t os
    (λ place o e. each_weaker (IsAfter t o) (λ d. now < d.at) (dues_of t o)
    (λ d h. later_moment index now place (due_of t o.convo) d none (subst (IsDueAt t index place) e (at place)) h.1) (each_after t o))

pub no_due : (t : Terms) (core : Core) (index : Dues) (now : ℕ) → ((place : ℕ) → IsDueAt t index place (slice_get core.convos place)) → IsFirstDue index now None → due_by t core now ≡ None
unfolding up_to
no_due t core index now at none = none_by t core now (first_due (dues t core)) refl (by (first_due (dues t core)) refl)
  where
    later : (now at : ℕ) → now < at → nat_lt now at ≡ true
    later now at h = grind (arith, nat_tests)

    by : (o : Option Due) → first_due (dues t core) ≡ o → up_to now o ≡ None
    by None f = refl
    by (Some d) f = ap (λ b. cond b None (Some d)) (later now d.at (each_first (λ e. now < e.at) (dues t core) d (each_later t core.convos index now at none) f))

-- What stands at a place that the index says is due: a live conversation, whose first due has that moment.

pub record Falls (t : Terms) (core : Core) (at place : ℕ) : Type 0 where
  pub one : Open
  pub there : slice_get core.convos place ≡ Some one
  pub live : is_live one.convo ≡ true
  pub due : ℕ × Bool
  pub due_is : due_of t one.convo ≡ Some due
  pub moment : due.0 ≡ at

-- an ended conversation has nothing due
nothing_ended : (t : Terms) (c : Convo) → is_live c ≡ false → due_of t c ≡ None
nothing_ended t c e =
    λ i. sooner_of (least_of (cond (e i) (dues_in t c.directions.fore ++ dues_in t c.directions.back) [])) (least_of (cond (e i) ((c.clock + t.idle) ∷ []) []))

live_due : (t : Terms) (c : Convo) (due : ℕ × Bool) → due_of t c ≡ Some due → is_live c ≡ true
live_due t c due e = by (is_live c) refl
  where
    by : (b : Bool) → is_live c ≡ b → is_live c ≡ true
    by true l = l
    by false l = let none : None ≡ Some due = sym (nothing_ended t c l) ∙ e in absurd cc

falls_at : (t : Terms) (core : Core) (index : Dues) (at place : ℕ) (o : Option Open) → slice_get core.convos place ≡ o → IsDueAt t index place o → get index place ≡ Some at → Falls t core at place
falls_at t core index at place None s h g = let none : None ≡ Some at = sym h ∙ g in absurd cc
falls_at t core index at place (Some o) s h g = by (due_of t o.convo) refl (sym h ∙ g)
  where
    by : (m : Option (ℕ × Bool)) → due_of t o.convo ≡ m → moment_of m ≡ Some at → Falls t core at place
    by None d e = absurd cc
    by (Some due) d e = record { one = o; there = s; live = live_due t o.convo due d; due = due; due_is = d; moment = cc }

pub due_there : (t : Terms) (core : Core) (index : Dues) (now at place : ℕ) → ((place : ℕ) → IsDueAt t index place (slice_get core.convos place)) → IsFirstDue index now (Some (at, place))
    → Falls t core at place
due_there t core index now at place h first = falls_at t core index at place (slice_get core.convos place) refl (h place) first.stands

-- It is due first of the core.

later_sooner : (e d : Due) → d.at < e.at → is_sooner e d ≡ false
later_sooner e d h = grind (arith, nat_tests)

behind_sooner : (e d : Due) → d.at ≤ e.at → d.conv < e.conv → is_sooner e d ≡ false
behind_sooner e d h k = grind (arith, nat_tests)

own_test : (a b m n : ℕ) (i j : Bool) → b ≤ a → m ≡ n → (b ≡ a → j ≡ true → i ≡ true) → (nat_lt a b || ((a == b) && (nat_lt m n || ((m == n) && not i && j)))) ≡ false
own_test a b m n true true h e k = grind (arith, nat_tests)
own_test a b m n true false h e k = grind (arith, nat_tests)
own_test a b m n false false h e k = grind (arith, nat_tests)
own_test a b m n false true h e k = let apart : b ≡ a → ⊥ = (λ s. let no : false ≡ true = k s refl in absurd cc) in grind (arith, nat_tests)

own_sooner : (e d : Due) → d.at ≤ e.at → e.conv ≡ d.conv → (d.at ≡ e.at → d.idle ≡ true → e.idle ≡ true) → is_sooner e d ≡ false
own_sooner e d h c k = own_test e.at d.at e.conv d.conv e.idle d.idle h c k

module _ (t : Terms) (core : Core) (index : Dues) (now at place : ℕ) (rises : Rises 0 core.convos) (first : IsFirstDue index now (Some (at, place))) (f : Falls t core at place) where
  -- at the place itself
  own_due : (o : Open) (d : Due) → slice_get core.convos place ≡ Some o → IsAfter t o d → is_sooner d (due_at f.one.id f.due) ≡ false
  own_due o d e h =
      let same : o ≡ f.one = some_same (sym e ∙ f.there) in
      let after : IsNotBefore (Some f.due) d = subst (λ (m : Option (ℕ × Bool)). IsNotBefore m d) (ap (λ (q : Open). due_of t q.convo) same ∙ f.due_is) h.1 in
      own_sooner d (due_at f.one.id f.due) after.0 (h.0 ∙ ap (λ (q : Open). q.id) same) after.1
    where
      some_same : {a b : Open} → Some a ≡ Some b → a ≡ b
      some_same e = cc

  -- at each place
  at_place : (i : ℕ) (o : Open) (d : Due) (m : Option (ℕ × Bool)) → slice_get core.convos i ≡ Some o → get index i ≡ moment_of m → due_of t o.convo ≡ m → (d.conv ≡ o.id) → IsNotBefore m d
      → is_sooner d (due_at f.one.id f.due) ≡ false
  at_place i o d None e g m c h = absurd h
  at_place i o d (Some due) e g m c h = by (first.least i due.0 g)
    where
      split : (a b : ℕ) → a ≤ b → (a < b) ⊎ (a ≡ b)
      split a b h = grind arith

      beside : (at ≡ due.0) → (place < i) ⊎ (place ≡ i) → is_sooner d (due_at f.one.id f.due) ≡ false
      beside s (inl l) =
          let greater : f.one.id < o.id = rises_between 0 core.convos place i f.one o rises f.there e l in
          behind_sooner d (due_at f.one.id f.due) (omega (arith, h.0, s, f.moment)) (omega (arith, greater, c))
      beside s (inr l) = own_due o d (ap (slice_get core.convos) l ∙ e) (c, subst (λ (q : Option (ℕ × Bool)). IsNotBefore q d) (sym m) h)

      by : IsUpTo (at, place) (due.0, i) → is_sooner d (due_at f.one.id f.due) ≡ false
      by (inl l) = later_sooner d (due_at f.one.id f.due) (omega (arith, l, h.0, f.moment))
      by (inr l) = beside l.0 (split place i l.1)

pub the_due : (t : Terms) (core : Core) (index : Dues) (now at place : ℕ) → Rises 0 core.convos → ((place : ℕ) → IsDueAt t index place (slice_get core.convos place))
    → IsFirstDue index now (Some (at, place)) → (f : Falls t core at place) → due_by t core now ≡ Some (record { at = f.due.0; conv = f.one.id; idle = f.due.1 })
the_due t core index now at place rises h first f =
    some_by t core now (due_at f.one.id f.due)
    (first_is (dues t core) (due_at f.one.id f.due) (among_all t core.convos place f.one (due_at f.one.id f.due) f.there (due_among t f.one f.due f.due_is))
    (each_of_all (λ d. is_sooner d (due_at f.one.id f.due) ≡ false) t core.convos
    (λ i o e. each_weaker (IsAfter t o) (λ d. is_sooner d (due_at f.one.id f.due) ≡ false) (dues_of t o)
    (λ d a. at_place t core index now at place rises first f i o d (due_of t o.convo) e (subst (IsDueAt t index i) e (h i)) refl a.0 a.1) (each_after t o))))
    (omega (arith, first.come, f.moment))
