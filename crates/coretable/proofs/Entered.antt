-- What a core is behind an entry that is no answer.
use Rattle.std.specs.Prelude.{◌≡◌, refl, ℕ, zero, suc, ◌≤◌, ◌<◌, Bool, true, false, cond, ◌==◌, List, [], ◌∷◌, ◌++◌, length, drop, map, filter, Option, None, Some}
use Rattle.std.proofs.Common.{sym, ◌∙◌, ap, arith, subst, append-nil}
use Rattle.std.proofs.lemmas.List.{length-append}
use Rattle.evring.specs.declared.reason.Reason.{Reason}
use Rattle.evring.specs.declared.reason.Reason.TheVariants.{Reset, Closed}
use Rattle.histbook.specs.declared.look_entry.LookEntry.{LookEntry}
use Rattle.prio_budget.specs.declared.free.Free.{Free}
use Rattle.streamdefs.specs.Lists.{Each}
use Rattle.streamdefs.specs.Packet.{Packet, has_rst}
use Rattle.streamdefs.specs.Terms.{Terms}
use Rattle.streamdefs.specs.Convo.{Act, Convo, Event, new_convo, after, events_in, ending, is_live}
use Rattle.streamdefs.specs.Convo.Act.{Seg, Answer, Time, End}
use Rattle.streamdefs.specs.Core.{Line, Core, Open, Told, core_after, found_by, find_convo, put_convo, owed_by, is_answer, timed_by, finished_by}
use Rattle.streamdefs.proofs.Histories.{find_put, found_is}
use Rattle.coretable.specs.Course.{Job}
use Rattle.coretable.specs.Course.Job.{Nothing, Takes}
use Rattle.coretable.specs.Orderly.{Rises, AreBelow, bound, IsInTurn, IsOwed, IsClosing, IsFollowed, own, IsAnsweredFor, waiting_of, IsOrderly}
use Rattle.coretable.proofs.Places.{StandsAt, NoneHas, find_at, find_none, put_at, put_new, same_number, from_test, below_none}

-- Lists.

module _ {X : Type 0} where
  pub each_put : (P : X → Type 0) (xs : List X) (x y : X) (ys : List X) → Each P (xs ++ x ∷ ys) → P y → Each P (xs ++ y ∷ ys)
  each_put P [] x y ys h p = (p, h.1)
  each_put P (z ∷ xs) x y ys h p = (h.0, each_put P xs x y ys h.1 p)

  pub each_at : (P : X → Type 0) (xs : List X) (x : X) (ys : List X) → Each P (xs ++ x ∷ ys) → P x
  each_at P [] x ys h = h.0
  each_at P (z ∷ xs) x ys h = each_at P xs x ys h.1

  pub each_end : (P : X → Type 0) (xs : List X) (y : X) → Each P xs → P y → Each P (xs ++ y ∷ [])
  each_end P [] y h p = (p, tt)
  each_end P (z ∷ xs) y h p = (h.0, each_end P xs y h.1 p)

  pub each_weaker : (P Q : X → Type 0) (xs : List X) → ((x : X) → P x → Q x) → Each P xs → Each Q xs
  each_weaker P Q [] f h = tt
  each_weaker P Q (x ∷ xs) f h = (f x h.0, each_weaker P Q xs f h.1)

  pub drop_append : (n : ℕ) (xs ys : List X) → n ≤ length xs → drop n (xs ++ ys) ≡ drop n xs ++ ys
  drop_append zero xs ys h = refl
  drop_append (suc n) [] ys h = absurd (omega arith)
  drop_append (suc n) (x ∷ xs) ys h = drop_append n xs ys (omega arith)

-- Numbers.

pub rises_put : (from : ℕ) (xs : List Open) (o : Open) (c : Convo) (ys : List Open) → Rises from (xs ++ o ∷ ys) → c.first ≡ o.convo.first → Rises from (xs ++ record { id = o.id; convo = c } ∷ ys)
rises_put from [] o c ys r e = (r.0, ap (λ (p : Packet). p.number) e ∙ r.1, r.2)
rises_put from (x ∷ xs) o c ys r e = (r.0, r.1, rises_put (suc x.id) xs o c ys r.2 e)

pub rises_end : (from : ℕ) (os : List Open) (o : Open) → Rises from os → from ≤ o.id → AreBelow o.id os → o.convo.first.number ≡ o.id → Rises from (os ++ o ∷ [])
rises_end from [] o r f b n = (f, n, tt)
rises_end from (x ∷ os) o r f b n = (r.0, r.1, rises_end (suc x.id) os o r.2 b.0 b.1 n)

-- Events.

abbrev shown_of : List Told → List Event
shown_of ts = map (λ t. t.event) ts

pub own_yes : (id : ℕ) (x : Told) (xs : List Told) → (x.conv == id) ≡ true → own id (x ∷ xs) ≡ x.event ∷ own id xs
own_yes id x xs h = ap (λ b. shown_of (cond b (x ∷ filter (λ t. t.conv == id) xs) (filter (λ t. t.conv == id) xs))) h

pub own_no : (id : ℕ) (x : Told) (xs : List Told) → (x.conv == id) ≡ false → own id (x ∷ xs) ≡ own id xs
own_no id x xs h = ap (λ b. shown_of (cond b (x ∷ filter (λ t. t.conv == id) xs) (filter (λ t. t.conv == id) xs))) h

pub own_same : (id : ℕ) (events : List Event) → own id (map (λ event. record { conv = id; event = event }) events) ≡ events
own_same id [] = refl
own_same id (e ∷ events) = own_yes id (record { conv = id; event = e }) (map (λ event. record { conv = id; event = event }) events) (same_number id) ∙ ap (λ l. e ∷ l) (own_same id events)

pub own_other : (id conv : ℕ) (events : List Event) → (conv == id) ≡ false → own id (map (λ event. record { conv = conv; event = event }) events) ≡ []
own_other id conv [] h = refl
own_other id conv (e ∷ events) h = own_no id (record { conv = conv; event = e }) (map (λ event. record { conv = conv; event = event }) events) h ∙ own_other id conv events h

own_first : (id : ℕ) (x : Told) (xs ys : List Told) (b : Bool) → own id (xs ++ ys) ≡ own id xs ++ own id ys
    → map (λ t. t.event) (cond b (x ∷ filter (λ t. t.conv == id) (xs ++ ys)) (filter (λ t. t.conv == id) (xs ++ ys)))
    ≡ map (λ t. t.event) (cond b (x ∷ filter (λ t. t.conv == id) xs) (filter (λ t. t.conv == id) xs)) ++ own id ys
own_first id x xs ys true rest = ap (λ l. x.event ∷ l) rest
own_first id x xs ys false rest = rest

pub own_append : (id : ℕ) (xs ys : List Told) → own id (xs ++ ys) ≡ own id xs ++ own id ys
own_append id [] ys = refl
own_append id (x ∷ xs) ys = own_first id x xs ys (x.conv == id) (own_append id xs ys)

-- What an entry that is no answer leaves of a conversation.
pub record Grows (terms : Terms) (c : Convo) (act : Act) : Type 0 where
  pub first : (after terms c act).first ≡ c.first
  pub events : (after terms c act).events ≡ c.events ++ events_in terms c act
  pub answered : (after terms c act).answered ≡ c.answered

pub grows : (terms : Terms) (c : Convo) (act : Act) → is_answer act ≡ false → Grows terms c act
grows terms c (Seg p now looks frees) e = record { first = refl; events = refl; answered = refl }
grows terms c (Answer event advice frees) e = absurd cc
grows terms c (Time at looks frees) e = record { first = refl; events = refl; answered = refl }
grows terms c (End at reason looks frees) e = record { first = refl; events = refl; answered = refl }

-- it is live only where it was
pub lived : (terms : Terms) (c : Convo) (act : Act) → is_answer act ≡ false → is_live (after terms c act) ≡ true → is_live c ≡ true
lived terms c (Seg p now looks frees) e l = l
lived terms c (Answer event advice frees) e l = absurd cc
lived terms c (Time at looks frees) e l = l
lived terms c (End at reason looks frees) e l = absurd cc

-- Unanswered events, with those of an entry.
answered_one : (id k : ℕ) (c : Convo) (c' : Convo) (new : List Event) (waiting : List Told) (other : Option Convo) (b : Bool) → (k == id) ≡ b
    → c'.events ≡ c.events ++ new → c'.answered ≡ c.answered
    → IsAnsweredFor waiting k (Some c) → IsAnsweredFor waiting id other
    → IsAnsweredFor (waiting ++ map (λ event. record { conv = k; event = event }) new) id (cond b (Some c') other)
answered_one id k c c' new waiting other true t ev an here there = (
  (λ i. drop (an i) (ev i)) ∙ drop_append c.answered c.events new here.1 ∙ ap (λ l. l ++ new) here.0
      ∙ ap (λ l. own k waiting ++ l) (sym (own_same k new)) ∙ sym (own_append k waiting (map (λ event. record { conv = k; event = event }) new))
      ∙ ap (λ (n : ℕ). own n (waiting ++ map (λ event. record { conv = k; event = event }) new)) (from_test k id t),
  omega (arith, here.1, an, ap length ev, length-append c.events new),
)
answered_one id k c c' new waiting None false t ev an here there =
    own_append id waiting (map (λ event. record { conv = k; event = event }) new) ∙ ap (λ l. own id waiting ++ l) (own_other id k new t) ∙ append-nil (own id waiting) ∙ there
answered_one id k c c' new waiting (Some d) false t ev an here there = (
  there.0 ∙ sym (own_append id waiting (map (λ event. record { conv = k; event = event }) new) ∙ ap (λ l. own id waiting ++ l) (own_other id k new t) ∙ append-nil (own id waiting)),
  there.1,
)

-- An End that an entry makes due is of a live conversation, and follows at once.
closing_at_once : (conv : ℕ) (b : Bool) (at : ℕ) (os : List Open) (c : Convo) → find_convo conv os ≡ Some c → is_live c ≡ true → IsOwed os (owed_by conv (cond b (Some (Closed, at)) None))
closing_at_once conv true at os c f l = ((c, f, l), tt)
closing_at_once conv false at os c f l = tt

reset_at_once : (conv : ℕ) (b : Bool) (at : ℕ) (other : Option (Reason × ℕ)) (os : List Open) (c : Convo) → find_convo conv os ≡ Some c → is_live c ≡ true → IsOwed os (owed_by conv other)
    → IsOwed os (owed_by conv (cond b (Some (Reset, at)) other))
reset_at_once conv true at other os c f l h = ((c, f, l), tt)
reset_at_once conv false at other os c f l h = h

where_live : (conv : ℕ) (b : Bool) (e : Option (Reason × ℕ)) (os : List Open) → (b ≡ true → IsOwed os (owed_by conv e)) → IsOwed os (owed_by conv (cond b e None))
where_live conv true e os h = h refl
where_live conv false e os h = tt

pub owed_after : (terms : Terms) (conv : ℕ) (c : Convo) (act : Act) (os : List Open) → is_answer act ≡ false → find_convo conv os ≡ Some (after terms c act) → IsOwed os (owed_by conv (ending terms c act))
owed_after terms conv c (Seg p now looks frees) os e f =
    where_live conv (is_live c) _ os (λ l. reset_at_once conv (has_rst p) now _ os _ f l (closing_at_once conv _ now os _ f l))
owed_after terms conv c (Answer event advice frees) os e f = absurd cc
owed_after terms conv c (Time at looks frees) os e f = where_live conv (is_live c) _ os (λ l. closing_at_once conv _ at os _ f l)
owed_after terms conv c (End at reason looks frees) os e f = where_live conv (is_live c) None os (λ l. tt)

-- The core behind an entry that is no answer, by the conversation that it finds and the conversations behind it.
abbrev pub behind_of : Terms → Core → Line → Convo → List Open → Core
behind_of terms core line c os = record {
  convos = os;
  events = core.events ++ map (λ event. record { conv = line.conv; event = event }) (events_in terms c line.act);
  answered = core.answered;
  owed = owed_by line.conv (ending terms c line.act);
  last = Some line;
  timed = timed_by core.timed line.act;
  finished = finished_by core.finished line;
}

pub core_behind : (terms : Terms) (core : Core) (line : Line) (c : Convo) (os : List Open) → is_answer line.act ≡ false → found_by core line ≡ c
    → put_convo line.conv (after terms c line.act) core.convos ≡ os → core_after terms core line ≡ behind_of terms core line c os
core_behind terms core line c os na found put = λ i. record {
  convos = (ap (λ x. put_convo line.conv (after terms x line.act) core.convos) found ∙ put) i;
  events = core.events ++ map (λ event. record { conv = line.conv; event = event }) (events_in terms (found i) line.act);
  answered = cond (na i) (suc core.answered) core.answered;
  owed = cond (na i) core.owed (owed_by line.conv (ending terms (found i) line.act));
  last = cond (na i) core.last (Some line);
  timed = timed_by core.timed line.act;
  finished = finished_by core.finished line;
}

-- it is orderly
pub orderly_behind : (terms : Terms) (last number clock : ℕ) (job job' : Job) (core : Core) (line : Line) (c : Convo) (os : List Open) → is_answer line.act ≡ false
    → IsOrderly terms last number clock job core
    → ((id : ℕ) → find_convo id os ≡ cond (line.conv == id) (Some (after terms c line.act)) (find_convo id core.convos))
    → IsAnsweredFor (waiting_of core) line.conv (Some c)
    → Rises 0 os → AreBelow (bound number job') os
    → timed_by core.timed line.act ≤ clock → IsInTurn number clock job' → IsClosing last job' (finished_by core.finished line) os
    → IsFollowed terms (behind_of terms core line c os) job' (Some line)
    → IsOrderly terms last number clock job' (behind_of terms core line c os)
orderly_behind terms last number clock job job' core line c os na o find here rises below timed turn closes followed = record {
  rises = rises;
  below = below;
  timed = timed;
  turn = turn;
  owed = owed_after terms line.conv c line.act os na (find line.conv ∙ ap (λ b. cond b (Some (after terms c line.act)) (find_convo line.conv core.convos)) (same_number line.conv));
  closes = closes;
  followed = followed;
  answered = omega (arith, o.answered, length-append core.events (map (λ event. record { conv = line.conv; event = event }) (events_in terms c line.act)));
  unanswered = λ id. subst (λ w. IsAnsweredFor w id (find_convo id os)) (sym (drop_append core.answered core.events _ o.answered))
      (subst (IsAnsweredFor (waiting_of core ++ map (λ event. record { conv = line.conv; event = event }) (events_in terms c line.act)) id) (sym (find id))
      (answered_one id line.conv c (after terms c line.act) (events_in terms c line.act) (waiting_of core) (find_convo id core.convos) (line.conv == id) refl
      (grows terms c line.act na).events (grows terms c line.act na).answered here (o.unanswered id)));
}

-- of a conversation that stands there
pub known : (os : List Open) (o : Open) → StandsAt os o → find_convo o.id os ≡ Some o.convo
known os o s = ap (find_convo o.id) s.is ∙ find_at o.id s.before o s.behind s.none_before refl

pub known_core : (terms : Terms) (core : Core) (o : Open) (act : Act) → is_answer act ≡ false → (s : StandsAt core.convos o)
    → core_after terms core (record { conv = o.id; act = act }) ≡ behind_of terms core (record { conv = o.id; act = act }) o.convo (s.before ++ record { id = o.id; convo = after terms o.convo act } ∷ s.behind)
known_core terms core o act na s =
    core_behind terms core (record { conv = o.id; act = act }) o.convo _ na (found_is core (record { conv = o.id; act = act }) o.convo (known core.convos o s))
    (ap (put_convo o.id (after terms o.convo act)) s.is ∙ put_at o.id (after terms o.convo act) s.before o s.behind s.none_before refl)

pub orderly_known : (terms : Terms) (last number clock : ℕ) (job job' : Job) (core : Core) (o : Open) (act : Act) → is_answer act ≡ false → (s : StandsAt core.convos o)
    → IsOrderly terms last number clock job core → bound number job ≤ bound number job'
    → timed_by core.timed act ≤ clock → IsInTurn number clock job'
    → IsClosing last job' (finished_by core.finished (record { conv = o.id; act = act })) (s.before ++ record { id = o.id; convo = after terms o.convo act } ∷ s.behind)
    → IsFollowed terms (behind_of terms core (record { conv = o.id; act = act }) o.convo (s.before ++ record { id = o.id; convo = after terms o.convo act } ∷ s.behind)) job' (Some (record { conv = o.id; act = act }))
    → IsOrderly terms last number clock job' (core_after terms core (record { conv = o.id; act = act }))
orderly_known terms last number clock job job' core o act na s ord up timed turn closes followed =
    subst (IsOrderly terms last number clock job') (sym (known_core terms core o act na s))
    (orderly_behind terms last number clock job job' core (record { conv = o.id; act = act }) o.convo _ na ord
    (λ id. ap (find_convo id) (sym (ap (put_convo o.id (after terms o.convo act)) s.is ∙ put_at o.id (after terms o.convo act) s.before o s.behind s.none_before refl)) ∙ find_put id o.id (after terms o.convo act) core.convos)
    (subst (IsAnsweredFor (waiting_of core) o.id) (known core.convos o s) (ord.unanswered o.id))
    (rises_put 0 s.before o (after terms o.convo act) s.behind (subst (Rises 0) s.is ord.rises) (grows terms o.convo act na).first)
    (each_put (λ q. q.id < bound number job') s.before o (record { id = o.id; convo = after terms o.convo act }) s.behind low (each_at (λ q. q.id < bound number job') s.before o s.behind low))
    timed turn closes followed)
  where
    low : Each (λ q. q.id < bound number job') (s.before ++ o ∷ s.behind)
    low = subst (Each (λ q. q.id < bound number job')) s.is (each_weaker (λ q. q.id < bound number job) (λ q. q.id < bound number job') core.convos (λ q h. omega (arith, h, up)) ord.below)

-- of one that a packet opens
pub orderly_new : (terms : Terms) (last number clock : ℕ) (core : Core) (p : Packet) (looks : List LookEntry) (frees : List Free)
    → IsOrderly terms last number clock (Takes p) core
    → IsOrderly terms last number clock Nothing (core_after terms core (record { conv = p.number; act = Seg p p.now looks frees }))
orderly_new terms last number clock core p looks frees ord =
    subst (IsOrderly terms last number clock Nothing) (sym (core_behind terms core line (new_convo p) (core.convos ++ new ∷ []) refl found (put_new p.number c' core.convos none)))
    (orderly_behind terms last number clock (Takes p) Nothing core line (new_convo p) (core.convos ++ new ∷ []) refl ord
    (λ id. ap (find_convo id) (sym (put_new p.number c' core.convos none)) ∙ find_put id p.number c' core.convos)
    (sym (subst (IsAnsweredFor (waiting_of core) p.number) unknown (ord.unanswered p.number)), omega arith)
    (rises_end 0 core.convos new ord.rises (omega arith) ord.below refl)
    (each_end (λ q. q.id < suc number) core.convos new (each_weaker (λ q. q.id < p.number) (λ q. q.id < suc number) core.convos (λ q h. omega (arith, h, ord.turn.1)) ord.below) (omega (arith, ord.turn.1)))
    ord.timed tt ord.closes tt)
  where
    line : Line
    line = record { conv = p.number; act = Seg p p.now looks frees }

    c' : Convo
    c' = after terms (new_convo p) line.act

    new : Open
    new = record { id = p.number; convo = c' }

    none : NoneHas p.number core.convos
    none = below_none p.number core.convos ord.below

    unknown : find_convo p.number core.convos ≡ None
    unknown = find_none p.number core.convos none

    found : found_by core line ≡ new_convo p
    found = rw (found_by, unknown) refl
