-- The events of a core that wait for their answers, through what its table does.
use Rattle.std.proofs.Common.{◌≡◌, ℕ, zero, suc, ◌+◌, ◌≤◌, ◌⊎◌, inl, inr, ◌==◌, Bool, true, false, cond, List, [], ◌∷◌, ◌++◌, Option, Some, None, refl, ap, sym, ◌∙◌, subst, arith, append-nil, append_assoc, map, take, drop, length, slice_get}
use Rattle.std.proofs.lemmas.List.{length-append}
use Rattle.std.proofs.lemmas.Bool.Decides.{nat_tests}
use Rattle.prio_budget.specs.declared.free.Free.{Free}
use Rattle.histbook.specs.declared.look_entry.LookEntry.{LookEntry}
use Rattle.streamdefs.specs.Lists.{Each}
use Rattle.streamdefs.specs.Reorder.{Charge}
use Rattle.streamdefs.specs.View.{Ask}
use Rattle.streamdefs.specs.Packet.{Packet}
use Rattle.streamdefs.specs.Terms.{Terms}
use Rattle.streamdefs.specs.Direction.{Next}
use Rattle.streamdefs.specs.Direction.Next.{Asks as Next_asks, Gives as Next_gives, Rests as Next_rests}
use Rattle.streamdefs.specs.Convo.{Act, Convo, Event, after, events_in, is_live, seen_of}
use Rattle.streamdefs.specs.Convo.Act.{Seg, Answer, Time, End}
use Rattle.streamdefs.specs.Want.{Want, want, next_move, with_look, with_free}
use Rattle.streamdefs.specs.Want.Want.{Reserve, Release as Lets_go, Emit, Rest}
use Rattle.streamdefs.specs.Core.{Line, Core, Told, idle_core, core_after, found_by, find_convo, put_convo, is_answer}
use Rattle.streamdefs.proofs.Histories.{found_is, find_put}
use Rattle.streamdefs.proofs.Pushes.{core_at_push}
use Rattle.coretable.specs.Course.{Under, Course, Stop, core_of, begun, completed, looked, freed, emitted, want_of, step, Comes}
use Rattle.coretable.specs.Course.Step.{Stops}
use Rattle.coretable.specs.Course.Stop.{Wants, Fills, Rests, Finishes}
use Rattle.streamdefs.specs.Lawful.{Handler}
use Rattle.mixrun.specs.Moment.{Input, Given, Reply, AtCore, Pair}
use Rattle.mixrun.specs.Moment.Input.{Brings, Ends}
use Rattle.mixrun.specs.Moves.{CoreMove, moved, under_way, with_input, answer_line, given_of, Serves, IsFirst, IsGivenBy}
use Rattle.mixrun.specs.Moves.CoreMove.{Loads, Asks, Frees, Emits, TakesBack}
use Rattle.mixrun.specs.Steps.{MayMove, CoreStep}
use Rattle.mixrun.proofs.SilentSteps.{Going, came}
use Rattle.mixrun.proofs.SilentSteps.Going.{Completing, Beginning}
use Rattle.mixrun.proofs.CoreSums.{wanting_entry, first_of}
use Rattle.mixrun.specs.Queue.{told_of, told_by, answered_by, convos_with, IsSeen, IsEmitting, Waits, IsReply, IsNext}

-- A conversation keeps its first packet.

pub first_kept : (terms : Terms) (c : Convo) (act : Act) → (after terms c act).first ≡ c.first
first_kept terms c (Seg p now looks frees) = refl
first_kept terms c (Answer event advice frees) = by (is_live c) refl
  where
    by : (b : Bool) → is_live c ≡ b → (after terms c (Answer event advice frees)).first ≡ c.first
    by true e = rw e refl
    by false e = rw e refl
first_kept terms c (Time at looks frees) = refl
first_kept terms c (End at reason looks frees) = refl

-- It is found as before with another look or free.

found_looked : (core : Core) (conv : ℕ) (act : Act) (look : LookEntry) → found_by core (record { conv = conv; act = with_look look act }) ≡ found_by core (record { conv = conv; act = act })
found_looked core conv act look = by (find_convo conv core.convos) refl act
  where
    by : (o : Option Convo) → find_convo conv core.convos ≡ o → (act : Act) → found_by core (record { conv = conv; act = with_look look act }) ≡ found_by core (record { conv = conv; act = act })
    by (Some c) e act = rw (found_by, e) refl
    by None e (Seg p now looks frees) = rw (found_by, e) refl
    by None e (Answer event advice frees) = refl
    by None e (Time at looks frees) = rw (found_by, e) refl
    by None e (End at reason looks frees) = rw (found_by, e) refl

found_freed : (core : Core) (conv : ℕ) (act : Act) (free : Free) → found_by core (record { conv = conv; act = with_free free act }) ≡ found_by core (record { conv = conv; act = act })
found_freed core conv act free = by (find_convo conv core.convos) refl act
  where
    by : (o : Option Convo) → find_convo conv core.convos ≡ o → (act : Act) → found_by core (record { conv = conv; act = with_free free act }) ≡ found_by core (record { conv = conv; act = act })
    by (Some c) e act = rw (found_by, e) refl
    by None e (Seg p now looks frees) = rw (found_by, e) refl
    by None e (Answer event advice frees) = rw (found_by, e) refl
    by None e (Time at looks frees) = rw (found_by, e) refl
    by None e (End at reason looks frees) = rw (found_by, e) refl

-- What a change of a course keeps of the events that wait.

pub record Keeps (t : Terms) (m n : Course) : Type 0 where
  pub told : told_by t n ≡ told_by t m
  pub answered : answered_by t n ≡ answered_by t m
  pub seen : (g : Given) → IsSeen (convos_with (core_of t m) m.under) g → IsSeen (convos_with (core_of t n) n.under) g
  pub emitting : IsEmitting t n

module _ {A : Type 0} where
  pub each_to : (P Q : A → Type 0) → ((x : A) → P x → Q x) → (xs : List A) → Each P xs → Each Q xs
  each_to P Q f [] h = tt
  each_to P Q f (x ∷ xs) h = (f x h.0, each_to P Q f xs h.1)

pub kept : (t : Terms) (m n : Course) (waiting : List Given) → Keeps t m n → Waits t m waiting → Waits t n waiting
kept t m n waiting keeps w =
    record {
      within = omega (arith, w.within, keeps.answered, ap (length {A = Told}) keeps.told);
      queue = rw (keeps.answered, keeps.told) w.queue;
      seen = each_to _ _ keeps.seen waiting w.seen;
      emitting = keeps.emitting;
    }

-- an entry begins
seen_begun : (core : Core) (line : Line) (g : Given) → IsSeen core.convos g → IsSeen (put_convo line.conv (found_by core line) core.convos) g
seen_begun core line g h = by (line.conv == g.conv) refl
  where
    put : find_convo g.conv (put_convo line.conv (found_by core line) core.convos) ≡ cond (line.conv == g.conv) (Some (found_by core line)) (find_convo g.conv core.convos)
    put = find_put g.conv line.conv (found_by core line) core.convos

    by : (b : Bool) → (line.conv == g.conv) ≡ b → IsSeen (put_convo line.conv (found_by core line) core.convos) g
    by true e =
        let same : line.conv ≡ g.conv = grind arith in
        let found : find_convo line.conv core.convos ≡ Some h.0 = subst (λ (k : ℕ). find_convo k core.convos ≡ Some h.0) (sym same) h.1 in
        (h.0, put ∙ ap (λ b. cond b (Some (found_by core line)) (find_convo g.conv core.convos)) e ∙ ap (λ (c : Convo). Some c) (found_is core line h.0 found), h.2)
    by false e = (h.0, put ∙ ap (λ b. cond b (Some (found_by core line)) (find_convo g.conv core.convos)) e ∙ h.1, h.2)

pub begins : (t : Terms) (m : Course) (line : Line) → m.under ≡ None → is_answer line.act ≡ false → Keeps t m (begun m line)
begins t m line none plain = record {
  told = rw none refl;
  answered = rw (none, plain) refl;
  seen = λ g h. let same : IsSeen (core_of t m).convos g = rw none at h in seen_begun (core_of t m) line g same;
  emitting = inl refl;
}

-- what an entry wants says what its next move is, and which event comes
module _ (t : Terms) (c : Convo) (act : Act) (emitted : ℕ) where
  abbrev the_events : List Event
  the_events = events_in t c act

  abbrev Asking : Want → Type 0
  Asking (Reserve ask k) = next_move t c act ≡ Next_rests → ⊥
  Asking (Lets_go charge) = next_move t c act ≡ Next_rests → ⊥
  Asking (Emit e) = (next_move t c act ≡ Next_rests) × (slice_get the_events emitted ≡ Some e)
  Asking Rest = (next_move t c act ≡ Next_rests) × (slice_get the_events emitted ≡ None)

  resting : (e : Option Event) → slice_get the_events emitted ≡ e → next_move t c act ≡ Next_rests → (w : Want) → want t c act emitted ≡ w → Asking w
  resting None f r (Reserve ask k) h = let g = rw (want, r, f) at h in absurd cc
  resting None f r (Lets_go charge) h = let g = rw (want, r, f) at h in absurd cc
  resting None f r (Emit x) h = let g = rw (want, r, f) at h in absurd cc
  resting None f r Rest h = (r, f)
  resting (Some y) f r (Reserve ask k) h = let g = rw (want, r, f) at h in absurd cc
  resting (Some y) f r (Lets_go charge) h = let g = rw (want, r, f) at h in absurd cc
  resting (Some y) f r (Emit x) h = let g = rw (want, r, f) at h in let same : y ≡ x = cc in (r, f ∙ ap (λ (z : Event). Some z) same)
  resting (Some y) f r Rest h = let g = rw (want, r, f) at h in absurd cc

  moving : (next : Next) → next_move t c act ≡ next → (w : Want) → want t c act emitted ≡ w → Asking w
  moving Next_rests r w h = resting (slice_get the_events emitted) refl r w h
  moving (Next_asks a) r (Reserve ask k) h = λ rests. absurd cc
  moving (Next_asks a) r (Lets_go charge) h = λ rests. absurd cc
  moving (Next_asks a) r (Emit x) h = let g = rw (want, r) at h in absurd cc
  moving (Next_asks a) r Rest h = let g = rw (want, r) at h in absurd cc
  moving (Next_gives a) r (Reserve ask k) h = λ rests. absurd cc
  moving (Next_gives a) r (Lets_go charge) h = λ rests. absurd cc
  moving (Next_gives a) r (Emit x) h = let g = rw (want, r) at h in absurd cc
  moving (Next_gives a) r Rest h = let g = rw (want, r) at h in absurd cc

  pub wanted : (w : Want) → want t c act emitted ≡ w → Asking w
  wanted w h = moving (next_move t c act) refl w h

module _ {A : Type 0} where
  pub take_next : (xs : List A) (n : ℕ) (x : A) → slice_get xs n ≡ Some x → take (suc n) xs ≡ take n xs ++ x ∷ []
  take_next [] n x e = absurd cc
  take_next (y ∷ xs) zero x e = let same : y ≡ x = cc in ap (λ z. z ∷ []) same
  take_next (y ∷ xs) (suc n) x e = ap (λ ys. y ∷ ys) (take_next xs n x e)

  pub take_all : (xs : List A) (n : ℕ) → slice_get xs n ≡ None → take n xs ≡ xs
  take_all [] zero e = refl
  take_all [] (suc n) e = refl
  take_all (y ∷ xs) zero e = absurd cc
  take_all (y ∷ xs) (suc n) e = ap (λ ys. y ∷ ys) (take_all xs n e)

  pub drop_append : (n : ℕ) (xs ys : List A) → n ≤ length xs → drop n (xs ++ ys) ≡ drop n xs ++ ys
  drop_append zero xs ys h = refl
  drop_append (suc n) [] ys h = absurd (omega arith)
  drop_append (suc n) (x ∷ xs) ys h = drop_append n xs ys (omega arith)

  pub drop_next : (n : ℕ) (xs : List A) (x : A) (ys : List A) → drop n xs ≡ x ∷ ys → (drop (suc n) xs ≡ ys) × (suc n ≤ length xs) × (slice_get xs n ≡ Some x)
  drop_next zero [] x ys e = absurd cc
  drop_next zero (z ∷ xs) x ys e = let same : xs ≡ ys = cc in let head : z ≡ x = cc in (same, omega arith, ap (λ w. Some w) head)
  drop_next (suc n) [] x ys e = absurd cc
  drop_next (suc n) (z ∷ xs) x ys e = let rest = drop_next n xs x ys e in (rest.0, omega (arith, rest.1), rest.2)

-- it has another look, or another free, before any of its events

module _ (t : Terms) (m : Course) (u : Under) (under : m.under ≡ Some u) where
  abbrev the_convo : Convo
  the_convo = found_by (core_of t m) u.line

  unfolds : IsEmitting t m → (u.emitted ≡ 0) ⊎ (next_move t the_convo u.line.act ≡ Next_rests)
  unfolds e = rw under at e

  none_given : IsEmitting t m → (next_move t the_convo u.line.act ≡ Next_rests → ⊥) → u.emitted ≡ 0
  none_given e not = by (unfolds e)
    where
      by : (u.emitted ≡ 0) ⊎ (next_move t the_convo u.line.act ≡ Next_rests) → u.emitted ≡ 0
      by (inl none) = none
      by (inr rests) = absurd (not rests)

  -- another act, of the same kind, that finds the same conversation
  changes : (act : Act) → is_answer act ≡ is_answer u.line.act → found_by (core_of t m) (record { conv = u.line.conv; act = act }) ≡ the_convo → u.emitted ≡ 0
      → Keeps t m (record m { under = Some (record { line = record { conv = u.line.conv; act = act }; emitted = u.emitted }) })
  changes act kind same none = record {
    told = rw (under, none) refl;
    answered = rw (under, kind) refl;
    seen = λ g h. let here : IsSeen (put_convo u.line.conv the_convo (core_of t m).convos) g = rw under at h in rw same here;
    emitting = inl none;
  }

answer_looked : (act : Act) (look : LookEntry) → is_answer (with_look look act) ≡ is_answer act
answer_looked (Seg p now looks frees) look = refl
answer_looked (Answer event advice frees) look = refl
answer_looked (Time at looks frees) look = refl
answer_looked (End at reason looks frees) look = refl

answer_freed : (act : Act) (free : Free) → is_answer (with_free free act) ≡ is_answer act
answer_freed (Seg p now looks frees) free = refl
answer_freed (Answer event advice frees) free = refl
answer_freed (Time at looks frees) free = refl
answer_freed (End at reason looks frees) free = refl

pub looks : (t : Terms) (m : Course) (u : Under) (ask : Ask) (k : ℕ) (look : LookEntry) → m.under ≡ Some u → want_of t m u ≡ Reserve ask k → IsEmitting t m → Keeps t m (looked m u look)
looks t m u ask k look under w e =
    changes t m u under (with_look look u.line.act) (answer_looked u.line.act look) (found_looked (core_of t m) u.line.conv u.line.act look)
    (none_given t m u under e (wanted t (found_by (core_of t m) u.line) u.line.act u.emitted (Reserve ask k) w))

pub frees : (t : Terms) (m : Course) (u : Under) (charge : Charge) (free : Free) → m.under ≡ Some u → want_of t m u ≡ Lets_go charge → IsEmitting t m → Keeps t m (freed m u free)
frees t m u charge free under w e =
    changes t m u under (with_free free u.line.act) (answer_freed u.line.act free) (found_freed (core_of t m) u.line.conv u.line.act free)
    (none_given t m u under e (wanted t (found_by (core_of t m) u.line) u.line.act u.emitted (Lets_go charge) w))

-- it is complete
seen_after : (t : Terms) (core : Core) (line : Line) (g : Given) → IsSeen (put_convo line.conv (found_by core line) core.convos) g → IsSeen (put_convo line.conv (after t (found_by core line) line.act) core.convos) g
seen_after t core line g h = by (line.conv == g.conv) refl
  where
    c : Convo
    c = found_by core line

    put : (d : Convo) → find_convo g.conv (put_convo line.conv d core.convos) ≡ cond (line.conv == g.conv) (Some d) (find_convo g.conv core.convos)
    put d = find_put g.conv line.conv d core.convos

    by : (b : Bool) → (line.conv == g.conv) ≡ b → IsSeen (put_convo line.conv (after t c line.act) core.convos) g
    by true e =
        let found : Some c ≡ Some h.0 = sym (put c ∙ ap (λ b. cond b (Some c) (find_convo g.conv core.convos)) e) ∙ h.1 in
        let same : c ≡ h.0 = cc in (
          after t c line.act,
          put (after t c line.act) ∙ ap (λ b. cond b (Some (after t c line.act)) (find_convo g.conv core.convos)) e,
          h.2 ∙ ap (λ (d : Convo). seen_of d.first g.event) (sym same) ∙ ap (λ (p : Packet). seen_of p g.event) (sym (first_kept t c line.act)),
        )
    by false e = (
      h.0,
      put (after t c line.act) ∙ ap (λ b. cond b (Some (after t c line.act)) (find_convo g.conv core.convos)) e
          ∙ sym (put c ∙ ap (λ b. cond b (Some c) (find_convo g.conv core.convos)) e) ∙ h.1,
      h.2,
    )

pub completes : (t : Terms) (m : Course) (u : Under) → m.under ≡ Some u → want_of t m u ≡ Rest → Keeps t m (completed m u)
completes t m u under w =
    record {
      told =
          ap (λ (k : Core). k.events ++ []) pushed ∙ append-nil _
          ∙ ap (λ (l : List Event). (core_of t m).events ++ map (λ event. record { conv = u.line.conv; event = event }) l) (sym whole) ∙ sym before;
      answered = ap (λ (k : Core). k.answered + 0) pushed ∙ counts (is_answer u.line.act) ∙ sym count;
      seen = λ g h.
          let here : IsSeen (put_convo u.line.conv (found_by (core_of t m) u.line) (core_of t m).convos) g = rw under at h in
          subst (λ (k : Core). IsSeen k.convos g) (sym pushed) (seen_after t (core_of t m) u.line g here);
      emitting = tt;
    }
  where
    pushed : core_of t (completed m u) ≡ core_after t (core_of t m) u.line
    pushed = core_at_push t idle_core m.lines u.line

    whole : take u.emitted (events_in t (found_by (core_of t m) u.line) u.line.act) ≡ events_in t (found_by (core_of t m) u.line) u.line.act
    whole = take_all _ u.emitted (wanted t (found_by (core_of t m) u.line) u.line.act u.emitted Rest w).1

    before : told_by t m ≡ (core_of t m).events ++ map (λ event. record { conv = u.line.conv; event = event }) (take u.emitted (events_in t (found_by (core_of t m) u.line) u.line.act))
    before = rw under refl

    count : answered_by t m ≡ (core_of t m).answered + cond (is_answer u.line.act) 1 0
    count = rw under refl

    counts : (b : Bool) → cond b (suc (core_of t m).answered) (core_of t m).answered + 0 ≡ (core_of t m).answered + cond b 1 0
    counts true = omega arith
    counts false = refl

-- What a table does by itself keeps what waits.

going_keeps : (t : Terms) (waiting : List Given) (m next : Course) → Going t m next → Waits t m waiting → Waits t next waiting
going_keeps t waiting m next (Completing u under w e) h = subst (λ (x : Course). Waits t x waiting) (sym e) (kept t m (completed m u) waiting (completes t m u under w) h)
going_keeps t waiting m next (Beginning line none fresh room e) h = subst (λ (x : Course). Waits t x waiting) (sym e) (kept t m (begun m line) waiting (begins t m line none fresh.2) h)

pub settled : (t : Terms) (waiting : List Given) (n : ℕ) (m : Course) (stop : Stop) (m' : Course) → Comes t n m stop m' → Waits t m waiting → Waits t m' waiting
settled t waiting n m stop m' h w = came t (λ (x : Course). Waits t x waiting) (λ x next g. going_keeps t waiting x next g) n m stop m' h w

-- an input is loaded
loads : (t : Terms) (m : Course) (input : Input) (waiting : List Given) → Waits t m waiting → Waits t (with_input m input) waiting
loads t m (Brings p) waiting w = record { within = w.within; queue = w.queue; seen = w.seen; emitting = w.emitting }
loads t m (Ends at) waiting w = record { within = w.within; queue = w.queue; seen = w.seen; emitting = w.emitting }

pub each_end : {A : Type 0} (P : A → Type 0) (xs : List A) (x : A) → Each P xs → P x → Each P (xs ++ x ∷ [])
each_end P [] x h p = (p, tt)
each_end P (y ∷ xs) x h p = (h.0, each_end P xs x h.1 p)

pub map_end : {A B : Type 0} (f : A → B) (xs : List A) (x : A) → map f (xs ++ x ∷ []) ≡ map f xs ++ f x ∷ []
map_end f [] x = refl
map_end f (y ∷ xs) x = ap (λ ys. f y ∷ ys) (map_end f xs x)

-- an event is given
emits : (t : Terms) (m : Course) (u : Under) (event : Event) (waiting : List Given) → m.under ≡ Some u → want_of t m u ≡ Emit event → Waits t m waiting
    → Waits t (emitted m u) (waiting ++ given_of t m u event ∷ [])
emits t m u event waiting under w h =
    record {
      within = omega (arith, h.within, answered, ap (length {A = Told}) more, length-append (told_by t m) (told_of g ∷ []));
      queue =
          rw (answered, more) (drop_append (answered_by t m) (told_by t m) (told_of g ∷ []) h.within
          ∙ ap (λ (l : List Told). l ++ told_of g ∷ []) h.queue ∙ sym (map_end told_of waiting g));
      seen = each_end _ waiting g (each_to _ _ (λ x s. seen_same x s) waiting h.seen) seen_new;
      emitting = inr asking.0;
    }
  where
    g : Given
    g = given_of t m u event

    c : Convo
    c = found_by (core_of t m) u.line

    asking : (next_move t c u.line.act ≡ Next_rests) × (slice_get (events_in t c u.line.act) u.emitted ≡ Some event)
    asking = wanted t c u.line.act u.emitted (Emit event) w

    answered : answered_by t (emitted m u) ≡ answered_by t m
    answered = rw under refl

    before : told_by t m ≡ (core_of t m).events ++ map (λ e. record { conv = u.line.conv; event = e }) (take u.emitted (events_in t c u.line.act))
    before = rw under refl

    more : told_by t (emitted m u) ≡ told_by t m ++ told_of g ∷ []
    more =
        ap (λ (l : List Event). (core_of t m).events ++ map (λ e. record { conv = u.line.conv; event = e }) l) (take_next _ u.emitted event asking.1)
        ∙ ap (λ (l : List Told). (core_of t m).events ++ l) (map_end (λ e. record { conv = u.line.conv; event = e }) (take u.emitted (events_in t c u.line.act)) event)
        ∙ sym (append_assoc (core_of t m).events _ (told_of g ∷ []))
        ∙ ap (λ (l : List Told). l ++ told_of g ∷ []) (sym before)

    seen_same : (x : Given) → IsSeen (convos_with (core_of t m) m.under) x → IsSeen (put_convo u.line.conv c (core_of t m).convos) x
    seen_same x s = rw under at s

    test : (u.line.conv == u.line.conv) ≡ true
    test = grind (arith, nat_tests)

    seen_new : IsSeen (put_convo u.line.conv c (core_of t m).convos) g
    seen_new = (c, find_put u.line.conv u.line.conv c (core_of t m).convos ∙ ap (λ b. cond b (Some c) (find_convo u.line.conv (core_of t m).convos)) test, refl)

-- an answer is taken back
takes_back : (t : Terms) (m : Course) (r : Reply) (rest : List Given) → m.under ≡ None → Waits t m (r.given ∷ rest) → Waits t (begun m (answer_line (core_of t m) r)) rest
takes_back t m r rest none h =
    record {
      within = omega (arith, more, ap (length {A = Told}) same, next.1);
      queue = rw (more, same) next.0;
      seen = each_to _ _ (λ x s. seen_same x s) rest h.seen.1;
      emitting = inl refl;
    }
  where
    next : (drop (suc (answered_by t m)) (told_by t m) ≡ map told_of rest) × (suc (answered_by t m) ≤ length (told_by t m)) × (slice_get (told_by t m) (answered_by t m) ≡ Some (told_of r.given))
    next = drop_next (answered_by t m) (told_by t m) (told_of r.given) (map told_of rest) h.queue

    before : answered_by t m ≡ (core_of t m).answered
    before = rw none (omega arith)

    more : answered_by t (begun m (answer_line (core_of t m) r)) ≡ suc (answered_by t m)
    more = omega (arith, before)

    same : told_by t (begun m (answer_line (core_of t m) r)) ≡ told_by t m
    same = rw none refl

    seen_same : (x : Given) → IsSeen (convos_with (core_of t m) m.under) x → IsSeen (put_convo r.given.conv (found_by (core_of t m) (answer_line (core_of t m) r)) (core_of t m).convos) x
    seen_same x s = let here : IsSeen (core_of t m).convos x = rw none at s in seen_begun (core_of t m) (answer_line (core_of t m) r) x here

-- and it is the next that the course may take
pub is_next : (t : Terms) (handler : Handler) (m : Course) (r : Reply) (rest : List Given) → m.under ≡ None → Waits t m (r.given ∷ rest) → IsReply handler r → IsNext t handler m r
is_next t handler m r rest none h reply = record {
  at_rest = none;
  event = all;
  advice = reply.advice ∙ ap (handler r.given.conv) seen;
  frees = reply.frees;
}
  where
    next : (drop (suc (answered_by t m)) (told_by t m) ≡ map told_of rest) × (suc (answered_by t m) ≤ length (told_by t m)) × (slice_get (told_by t m) (answered_by t m) ≡ Some (told_of r.given))
    next = drop_next (answered_by t m) (told_by t m) (told_of r.given) (map told_of rest) h.queue

    all : slice_get (core_of t m).events (core_of t m).answered ≡ Some (told_of r.given)
    all =
        let count : answered_by t m ≡ (core_of t m).answered = rw none (omega arith) in
        let told : told_by t m ≡ (core_of t m).events = rw none (append-nil (core_of t m).events) in
        ap (λ (l : List Told). slice_get l (core_of t m).answered) (sym told) ∙ ap (slice_get (told_by t m)) (sym count) ∙ next.2

    here : IsSeen (core_of t m).convos r.given
    here = let s = h.seen.0 in rw none at s

    seen : r.given.seen ≡ seen_of (found_by (core_of t m) (answer_line (core_of t m) r)).first r.given.event
    seen = here.2 ∙ ap (λ (c : Convo). seen_of c.first r.given.event) (sym (found_is (core_of t m) (answer_line (core_of t m) r) here.0 here.1))

-- A step of a core

pub at_under : (f : Course → Under → Course) (m : Course) (u : Under) → m.under ≡ Some u → under_way f m ≡ f m u
at_under f m u e = rw (under_way, e) refl

pub given_is : (t : Terms) (m : Course) (u : Under) (given : Given) (event : Event) → m.under ≡ Some u → IsGivenBy t m given event → given ≡ given_of t m u event
given_is t m u given event e h = rw e at h

abbrev pub queued : List Given → AtCore → List Given
queued hand a = map (λ r. r.given) a.answers ++ hand ++ a.events

module _ (t : Terms) (p : Pair) (hand : List Given) (a : AtCore) (w : Waits t a.course (queued hand a)) where
  abbrev Moved : CoreMove → Type 0
  Moved move = Waits t (moved t move a).course (queued hand (moved t move a))

  with_looks : (look : LookEntry) (ask : Ask) (k : ℕ) → step t a.course ≡ Stops (Wants (Reserve ask k)) → Moved (Asks look)
  with_looks look ask k e =
      let entry = wanting_entry t a.course (Reserve ask k) e in
      let here : under_way (λ m u. looked m u look) a.course ≡ looked a.course entry.0 look = at_under (λ m u. looked m u look) a.course entry.0 entry.1 in
      subst (λ (x : Course). Waits t x (queued hand a)) (sym here) (kept t a.course (looked a.course entry.0 look) (queued hand a) (looks t a.course entry.0 ask k look entry.1 entry.2 w.emitting) w)

  with_frees : (free : Free) (charge : Charge) → step t a.course ≡ Stops (Wants (Lets_go charge)) → Moved (Frees free)
  with_frees free charge e =
      let entry = wanting_entry t a.course (Lets_go charge) e in
      let here : under_way (λ m u. freed m u free) a.course ≡ freed a.course entry.0 free = at_under (λ m u. freed m u free) a.course entry.0 entry.1 in
      subst (λ (x : Course). Waits t x (queued hand a)) (sym here) (kept t a.course (freed a.course entry.0 free) (queued hand a) (frees t a.course entry.0 charge free entry.1 entry.2 w.emitting) w)

  with_event : (given : Given) (event : Event) → step t a.course ≡ Stops (Wants (Emit event)) → IsGivenBy t a.course given event → Moved (Emits given)
  with_event given event e by =
      let entry = wanting_entry t a.course (Emit event) e in
      let under : a.course.under ≡ Some entry.0 = entry.1 in
      let here : under_way emitted a.course ≡ emitted a.course entry.0 = at_under emitted a.course entry.0 under in
      let same : given ≡ given_of t a.course entry.0 event = given_is t a.course entry.0 given event under by in
      let longer : queued hand (moved t (Emits given) a) ≡ queued hand a ++ given_of t a.course entry.0 event ∷ [] =
      sym (append_assoc (map (λ r. r.given) a.answers ++ hand) a.events (given ∷ [])) ∙ ap (λ (g : Given). queued hand a ++ g ∷ []) same in
      subst (λ (x : Course). Waits t x (queued hand (moved t (Emits given) a))) (sym here)
      (subst (λ (l : List Given). Waits t (emitted a.course entry.0) l) (sym longer) (emits t a.course entry.0 event (queued hand a) under entry.2 w))

  with_answer : (reply : Reply) → a.course.under ≡ None → IsFirst reply a.answers → Moved (TakesBack reply)
  with_answer reply none first =
      let parts : queued hand a ≡ reply.given ∷ queued hand (moved t (TakesBack reply) a) = ap (λ (l : List Reply). map (λ r. r.given) l ++ hand ++ a.events) (first_of reply a.answers first) in
      takes_back t a.course reply (queued hand (moved t (TakesBack reply) a)) none (subst (λ (l : List Given). Waits t a.course l) parts w)

  moves : (move : CoreMove) → MayMove t p a move → Moved move
  moves (Loads input) may = loads t a.course input (queued hand a) w
  moves (Asks look) may = by may.0 may.1 may.2
    where
      by : (stop : Stop) → step t a.course ≡ Stops stop → Serves t p a (Asks look) stop → Moved (Asks look)
      by (Wants (Reserve ask mark)) e s = with_looks look ask mark e
      by (Wants (Lets_go charge)) e s = absurd s
      by (Wants (Emit event)) e s = absurd s
      by (Wants Rest) e s = absurd s
      by Fills e s = absurd s
      by Rests e s = absurd s
      by Finishes e s = absurd s
  moves (Frees free) may = by may.0 may.1 may.2
    where
      by : (stop : Stop) → step t a.course ≡ Stops stop → Serves t p a (Frees free) stop → Moved (Frees free)
      by (Wants (Lets_go charge)) e s = with_frees free charge e
      by (Wants (Reserve ask mark)) e s = absurd s
      by (Wants (Emit event)) e s = absurd s
      by (Wants Rest) e s = absurd s
      by Fills e s = absurd s
      by Rests e s = absurd s
      by Finishes e s = absurd s
  moves (Emits given) may = by may.0 may.1 may.2
    where
      by : (stop : Stop) → step t a.course ≡ Stops stop → Serves t p a (Emits given) stop → Moved (Emits given)
      by (Wants (Emit event)) e s = with_event given event e s
      by (Wants (Lets_go charge)) e s = absurd s
      by (Wants (Reserve ask mark)) e s = absurd s
      by (Wants Rest) e s = absurd s
      by Fills e s = absurd s
      by Rests e s = absurd s
      by Finishes e s = absurd s
  moves (TakesBack reply) may = with_answer reply may.0 may.1

pub core_step : (t : Terms) (p q : Pair) (hand : List Given) (move : CoreMove) (a b : AtCore) → CoreStep t move a p b q → Waits t a.course (queued hand a) → Waits t b.course (queued hand b)
core_step t p q hand move a b s w =
    let mid = moved t move a in
    let there = settled t (queued hand mid) s.settles.0 mid.course s.settles.1 b.course s.settles.2 (moves t p hand a w move s.may) in
    let same : queued hand b ≡ queued hand mid = ap (queued hand) s.settles.3 in
    subst (λ (l : List Given). Waits t b.course l) (sym same) there
