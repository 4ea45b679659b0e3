-- The laws of each entry of a core of datagrams, and what the core is behind it.
use Rattle.std.specs.Prelude.{◌≡◌, refl, ℕ, suc, ◌+◌, ◌≤◌, ◌<◌, Bool, true, false, cond, not, ◌&&◌, ◌||◌, ◌==◌, nat_lt, List, [], ◌∷◌, ◌++◌, length, drop, map, filter, flat_map, Option, None, Some, slice_get}
use Rattle.std.specs.List.{list_all}
use Rattle.std.proofs.Common.{sym, ◌∙◌, ap, subst, arith, append-nil}
use Rattle.std.proofs.lemmas.Bool.Decides.{nat_tests}
use Rattle.std.proofs.lemmas.List.{length-append}
use Rattle.std.proofs.Math.ListN.{length-drop}
use Rattle.streamdefs.proofs.Histories.{found_is}
use Rattle.evring.specs.Advice.{no_advice}
use Rattle.evring.specs.declared.reason.Reason.TheVariants.{Reset, Closed, Idle, Finish, Replaced}
use Rattle.histbook.specs.declared.look_entry.LookEntry.{LookEntry}
use Rattle.prio_budget.specs.declared.free.Free.{Free}
use Rattle.streamdefs.specs.Lists.{is_empty}
use Rattle.streamdefs.specs.Packet.{Packet, is_tcp, has_syn, same_key}
use Rattle.streamdefs.specs.Terms.{Terms}
use Rattle.streamdefs.specs.View.{Ask}
use Rattle.streamdefs.specs.Reorder.{Charge}
use Rattle.streamdefs.specs.Convo.{Act, Convo, Event, new_convo, after, asks, events_in, released, ending, is_live, time_dues, has_other_base, kept_of, charges_of, keep_after, seen_of, given_back, answered_event}
use Rattle.streamdefs.specs.Convo.Act.{Seg, Answer, Time, End}
use Rattle.streamdefs.specs.Convo.Event.{New, Chunk, Ended}
use Rattle.streamdefs.specs.Core.{Line, Core, Open, Told, Due, dues_of, core_after, found_by, find_convo, put_convo, conversation_of, owed_by, latest_of}
use Rattle.streamdefs.specs.Lawful.{PaysOwed, FollowsReplaced, FinishesInOrder, EndsLive, AreLooksFor}
use Rattle.datagrams.specs.Flow.{Flow, StandsFor, plain}
use Rattle.streamdefs.specs.Direction.{Direction, dues_in, hole_due}
use Rattle.streamdefs.specs.Pending.{is_pending}
use Rattle.datagrams.specs.Talk.{Talk, TalksFor}
use Rattle.datagrams.specs.Table.{Kept, IsOne, AllStand, own, IsCalm, StandsForCore, HasNoId, HasNoKey, told_of}
use Rattle.datagrams.proofs.TalkSteps.{answered_stands}
use Rattle.datagrams.proofs.TableLemmas.{Split, split, joined_stand, NoneHas, none_has, none_keyed, find_none, find_at, put_at, put_new, latest_none, latest_at, own_same, own-append, others_told, others_answered, own_next, drop_append, drop_next}
use Rattle.datagrams.specs.Steps.{DoesEnd, DoesOne}
use Rattle.datagrams.specs.Replay.{IsLawfulEntry, charges_in, silent}

abbrev no_moments : List ℕ
no_moments = []

-- dues of a conversation of datagrams: its idle time alone
no_flush : (pending : Bool) (at : ℕ) → cond (pending && false) (at ∷ []) [] ≡ []
no_flush true at = refl
no_flush false at = refl

no_dues : (t : Terms) (f : Flow) (d : Direction) → StandsFor f d → dues_in (plain t) d ≡ []
no_dues t f d st = λ i. hole_due (plain t) (record d { hole = st.hole i }) ++ no_flush (is_pending d.pending) (d.pending.since + 0) i

nothing : (b : Bool) → cond b no_moments no_moments ≡ no_moments
nothing true = refl
nothing false = refl

pub no_times : (t : Terms) (k : Talk) (c : Convo) (alive : Bool) → TalksFor alive k c → time_dues (plain t) c ≡ []
no_times t k c alive st = (λ i. cond (is_live c) (no_dues t k.fore c.directions.fore st.fore i ++ no_dues t k.back c.directions.back st.back i) []) ∙ nothing (is_live c)

later : (now at : ℕ) (rest : Bool) → now < at → rest ≡ true → (nat_lt now at && rest) ≡ true
later now at rest h none = grind (arith, nat_tests)

-- nothing of a conversation of datagrams is due before its idle time has passed
only_idle : (t : Terms) (k : Kept) (c : Convo) (now id : ℕ) → TalksFor k.live k.talk c → now < c.clock + t.idle
    → (rest : List Due) → list_all (λ d. nat_lt now d.at) rest ≡ true
    → list_all (λ d. nat_lt now d.at) (dues_of (plain t) (record { id = id; convo = c }) ++ rest) ≡ true
only_idle t k c now id st h rest none =
    (λ i. list_all (λ d. nat_lt now d.at) ((map timed (no_times t k.talk c k.live st i) ++ map idled (cond (st.alive_is i) ((c.clock + t.idle) ∷ []) [])) ++ rest))
    ∙ before k.live
  where
    timed : ℕ → Due
    timed at = record { at = at; conv = id; idle = false }

    idled : ℕ → Due
    idled at = record { at = at; conv = id; idle = true }

    before : (live : Bool) → list_all (λ d. nat_lt now d.at) (map idled (cond live ((c.clock + t.idle) ∷ []) []) ++ rest) ≡ true
    before true = later now (c.clock + t.idle) (list_all (λ d. nat_lt now d.at) rest) h none
    before false = none

-- so nothing of the core is, in a capture that is shorter than the idle time
pub nothing_due : (t : Terms) (first now : ℕ) (waiting : List Told) (ks : List Kept) (os : List Open) → AllStand first waiting ks os → now < first + t.idle
    → list_all (λ d. nat_lt now d.at) (flat_map (dues_of (plain t)) os) ≡ true
nothing_due t first now waiting [] [] st until = refl
nothing_due t first now waiting [] (o ∷ os) st until = absurd st
nothing_due t first now waiting (k ∷ ks) [] st until = absurd st
nothing_due t first now waiting (k ∷ ks) (o ∷ os) st until =
    only_idle t k o.convo now o.id st.0.talks (omega (arith, st.0.clock, until)) (flat_map (dues_of (plain t)) os) (nothing_due t first now waiting ks os st.1 until)

pub follows : (core : Core) (last : Option Line) (act : Act) → IsCalm last → FollowsReplaced core last act
follows core None act h = tt
follows core (Some line) act h = by line.act h
  where
    by : (a : Act) → IsCalm (Some (record line { act = a })) → FollowsReplaced core (Some (record line { act = a })) act
    by (Seg p now looks frees) c = tt
    by (Answer event advice frees) c = tt
    by (Time at looks frees) c = tt
    by (End at Reset looks frees) c = tt
    by (End at Closed looks frees) c = tt
    by (End at Idle looks frees) c = tt
    by (End at Replaced looks frees) c = absurd c
    by (End at Finish looks frees) c = tt

and_false : (a b : Bool) → b ≡ false → (a && b) ≡ false
and_false true b e = e
and_false false b e = refl

and_first : (a b : Bool) → a ≡ false → (a && b) ≡ false
and_first a b e = ap (λ v. v && b) e

pub no_base : (c : Convo) (p : Packet) → is_tcp p ≡ false → has_other_base c p ≡ false
no_base c p udp = and_first (has_syn p) _ (and_first (is_tcp p) _ udp)

-- the conversation of a packet is its key's live one
pub conversation_is : (terms : Terms) (core : Core) (p : Packet) (o : Open) → latest_of p.key core.convos ≡ Some o → is_live o.convo ≡ true → conversation_of terms core p p.now ≡ o.id
conversation_is terms core p o e live = ap of e ∙ ap (λ b. cond (b || (is_tcp p && not (has_syn p) && nat_lt p.now (o.convo.clock + terms.idle))) o.id p.number) live
  where
    of : Option Open → ℕ
    of None = p.number
    of (Some q) = cond (is_live q.convo || (is_tcp p && not (has_syn p) && nat_lt p.now (q.convo.clock + terms.idle))) q.id p.number

some_more : (xs ys : List Event) → is_empty xs ≡ false → is_empty (xs ++ ys) ≡ false
some_more [] ys e = absurd cc
some_more (x ∷ xs) ys e = refl

-- A datagram's entry, of a conversation that is kept.
pub seg_core : (t : Terms) (last first : ℕ) (xs : List Kept) (k : Talk) (ys : List Kept) (waiting : List Told) (core : Core)
    (p : Packet) (looks : List LookEntry) (asked : List Ask) (events : List Event) (next : Talk)
    → StandsForCore first (xs ++ record { live = true; talk = k } ∷ ys) waiting None core
    → HasNoId k.id xs → HasNoId k.id ys → HasNoKey p.key ys → same_key k.key p.key ≡ true → is_tcp p ≡ false → next.id ≡ k.id
    → length waiting < 256 → first ≤ p.now → p.now < first + t.idle
    → ((c : Convo) → TalksFor true k c → is_empty c.events ≡ false → DoesOne t c (Seg p p.now looks []) asked events next)
    → ((c : Convo) → TalksFor true k c → AreLooksFor (plain t) c looks asked)
    → IsLawfulEntry (plain t) last core (record { conv = k.id; act = Seg p p.now looks [] })
    × StandsForCore first (xs ++ record { live = true; talk = next } ∷ ys) (waiting ++ told_of k.id events) None (core_after (plain t) core (record { conv = k.id; act = Seg p p.now looks [] }))
seg_core t last first xs k ys waiting core p looks asked events next st ids_x ids_y keys same udp same_id room from until does fit = (lawful, stands)
  where
    act : Act
    act = Seg p p.now looks []

    line : Line
    line = record { conv = k.id; act = act }

    s : Split first waiting xs (record { live = true; talk = k }) ys core.convos
    s = split first waiting xs (record { live = true; talk = k }) ys core.convos st.all

    c : Convo
    c = s.here.convo

    before_ids : NoneHas k.id s.before
    before_ids = none_has first waiting k.id xs s.before s.earlier ids_x

    behind_ids : NoneHas k.id s.behind
    behind_ids = none_has first waiting k.id ys s.behind s.later ids_y

    known : find_convo k.id core.convos ≡ Some c
    known = ap (find_convo k.id) s.is ∙ find_at k.id s.before s.here s.behind before_ids s.one.id

    found : found_by core line ≡ c
    found = found_is core line c known

    latest : latest_of p.key core.convos ≡ Some s.here
    latest = ap (latest_of p.key) s.is ∙ latest_at p.key s.before s.here s.behind (none_keyed first waiting p.key ys s.behind s.later keys) (ap (λ m. same_key m p.key) s.one.talks.key ∙ same)

    done : DoesOne t c act asked events next
    done = does c s.one.talks s.one.begun

    more : List Told
    more = map (λ event. record { conv = k.id; event = event }) (events_in (plain t) (found_by core line) act)

    more_is : more ≡ told_of k.id events
    more_is = ap (λ x. told_of k.id (events_in (plain t) x act)) found ∙ ap (told_of k.id) done.events_are

    waits : length core.events ≡ core.answered + length waiting
    waits = omega (arith, length-drop core.answered core.events, ap length st.unanswered, st.answered)

    lawful : IsLawfulEntry (plain t) last core line
    lawful = record {
      conversations = (
        sym (conversation_is (plain t) core p s.here latest s.one.talks.alive_is ∙ s.one.id),
        and_false (is_live (found_by core line)) (has_other_base (found_by core line) p) (no_base (found_by core line) p udp),
      );
      dues = (nothing_due t first p.now waiting (xs ++ record { live = true; talk = k } ∷ ys) core.convos st.all until, omega (arith, st.timed));
      ends = (subst (λ o. PaysOwed o line) (sym st.owed) tt, follows core core.last act st.calm, subst (λ f. FinishesInOrder f k.id act) (sym st.finished_is) tt, subst (λ o. EndsLive last o act) (sym known) tt);
      answers = tt;
      window = omega (arith, waits, room);
      looks = subst (λ x. AreLooksFor (plain t) x looks (asks (plain t) x act)) (sym found) (subst (λ a. AreLooksFor (plain t) c looks a) (sym done.asks_are) (fit c s.one.talks));
      frees = sym (ap (λ x. map (λ charge. charge.bytes) (released (plain t) x act)) found ∙ ap (map (λ charge. charge.bytes)) done.none_released);
    }

    convos_are : (core_after (plain t) core line).convos ≡ s.before ++ record { id = k.id; convo = after (plain t) c act } ∷ s.behind
    convos_are =
        (λ i. put_convo k.id (after (plain t) (found i) act) (s.is i)) ∙ put_at k.id (after (plain t) c act) s.before s.here s.behind before_ids s.one.id

    one : IsOne first (waiting ++ told_of k.id events) (record { live = true; talk = next }) (record { id = k.id; convo = after (plain t) c act })
    one = record {
      id = sym same_id;
      talks = done.stands;
      begun = some_more c.events (events_in (plain t) c act) s.one.begun;
      clock = omega (arith, ap (λ b. cond b p.now c.clock) s.one.talks.alive_is, from);
      answered = omega (arith, s.one.answered, length-append c.events (events_in (plain t) c act));
      unanswered =
          drop_append c.answered c.events (events_in (plain t) c act) s.one.answered
          ∙ (λ i. s.one.unanswered i ++ done.events_are i)
          ∙ ap (λ id. own id waiting ++ events) s.one.id
          ∙ ap (λ l. own k.id waiting ++ l) (sym (own_same k.id events))
          ∙ sym (own-append k.id waiting (told_of k.id events));
    }

    stands : StandsForCore first (xs ++ record { live = true; talk = next } ∷ ys) (waiting ++ told_of k.id events) None (core_after (plain t) core line)
    stands = record {
      all = subst (AllStand first (waiting ++ told_of k.id events) (xs ++ record { live = true; talk = next } ∷ ys)) (sym convos_are)
          (joined_stand first (waiting ++ told_of k.id events) xs (record { live = true; talk = next }) ys s.before (record { id = k.id; convo = after (plain t) c act }) s.behind
          (others_told first waiting k.id events xs s.before s.earlier ids_x) one (others_told first waiting k.id events ys s.behind s.later ids_y));
      unanswered = drop_append core.answered core.events more st.answered ∙ (λ i. st.unanswered i ++ more_is i);
      answered = omega (arith, st.answered, length-append core.events more);
      owed = ap (λ x. owed_by k.id (ending (plain t) x act)) found ∙ ap (owed_by k.id) done.none_ending;
      calm = tt;
      timed = st.timed;
      finished_is = st.finished_is;
    }

-- A datagram's entry that opens a conversation. No event waits then.
found_new : (core : Core) (conv : ℕ) (p : Packet) (looks : List LookEntry) → find_convo conv core.convos ≡ None → found_by core (record { conv = conv; act = Seg p p.now looks [] }) ≡ new_convo p
found_new core conv p looks e = rw (found_by, e) refl

conversation_new : (terms : Terms) (core : Core) (p : Packet) → latest_of p.key core.convos ≡ None → conversation_of terms core p p.now ≡ p.number
conversation_new terms core p e = ap of e
  where
    of : Option Open → ℕ
    of None = p.number
    of (Some q) = cond (is_live q.convo || (is_tcp p && not (has_syn p) && nat_lt p.now (q.convo.clock + terms.idle))) q.id p.number

pub new_core : (t : Terms) (last first : ℕ) (ks : List Kept) (core : Core) (p : Packet) (looks : List LookEntry) (asked : List Ask) (events : List Event) (next : Talk)
    → StandsForCore first ks [] None core
    → HasNoId p.number ks → HasNoKey p.key ks → is_tcp p ≡ false → next.id ≡ p.number → is_empty events ≡ false → first ≤ p.now → p.now < first + t.idle
    → DoesOne t (new_convo p) (Seg p p.now looks []) asked events next
    → AreLooksFor (plain t) (new_convo p) looks asked
    → IsLawfulEntry (plain t) last core (record { conv = p.number; act = Seg p p.now looks [] })
    × StandsForCore first (ks ++ record { live = true; talk = next } ∷ []) (told_of p.number events) None (core_after (plain t) core (record { conv = p.number; act = Seg p p.now looks [] }))
new_core t last first ks core p looks asked events next st ids keys udp same_id some from until done fit = (lawful, stands)
  where
    act : Act
    act = Seg p p.now looks []

    line : Line
    line = record { conv = p.number; act = act }

    no_ids : NoneHas p.number core.convos
    no_ids = none_has first [] p.number ks core.convos st.all ids

    unknown : find_convo p.number core.convos ≡ None
    unknown = find_none p.number core.convos no_ids

    found : found_by core line ≡ new_convo p
    found = found_new core p.number p looks unknown

    more : List Told
    more = map (λ event. record { conv = p.number; event = event }) (events_in (plain t) (found_by core line) act)

    more_is : more ≡ told_of p.number events
    more_is = ap (λ x. told_of p.number (events_in (plain t) x act)) found ∙ ap (told_of p.number) done.events_are

    waits : length core.events ≡ core.answered
    waits = omega (arith, length-drop core.answered core.events, ap length st.unanswered, st.answered)

    lawful : IsLawfulEntry (plain t) last core line
    lawful = record {
      conversations = (
        sym (conversation_new (plain t) core p (latest_none p.key core.convos (none_keyed first [] p.key ks core.convos st.all keys))),
        and_false (is_live (found_by core line)) (has_other_base (found_by core line) p) (no_base (found_by core line) p udp),
      );
      dues = (nothing_due t first p.now [] ks core.convos st.all until, omega (arith, st.timed));
      ends = (subst (λ o. PaysOwed o line) (sym st.owed) tt, follows core core.last act st.calm, subst (λ f. FinishesInOrder f p.number act) (sym st.finished_is) tt, subst (λ o. EndsLive last o act) (sym unknown) tt);
      answers = tt;
      window = omega (arith, waits);
      looks = subst (λ x. AreLooksFor (plain t) x looks (asks (plain t) x act)) (sym found) (subst (λ a. AreLooksFor (plain t) (new_convo p) looks a) (sym done.asks_are) fit);
      frees = sym (ap (λ x. map (λ charge. charge.bytes) (released (plain t) x act)) found ∙ ap (map (λ charge. charge.bytes)) done.none_released);
    }

    convos_are : (core_after (plain t) core line).convos ≡ core.convos ++ record { id = p.number; convo = after (plain t) (new_convo p) act } ∷ []
    convos_are = ap (λ x. put_convo p.number (after (plain t) x act) core.convos) found ∙ put_new p.number (after (plain t) (new_convo p) act) core.convos no_ids

    one : IsOne first (told_of p.number events) (record { live = true; talk = next }) (record { id = p.number; convo = after (plain t) (new_convo p) act })
    one = record {
      id = sym same_id;
      talks = done.stands;
      begun = ap is_empty done.events_are ∙ some;
      clock = from;
      answered = omega arith;
      unanswered = done.events_are ∙ sym (own_same p.number events);
    }

    stands : StandsForCore first (ks ++ record { live = true; talk = next } ∷ []) (told_of p.number events) None (core_after (plain t) core line)
    stands = record {
      all = subst (AllStand first (told_of p.number events) (ks ++ record { live = true; talk = next } ∷ [])) (sym convos_are)
          (joined_stand first (told_of p.number events) ks (record { live = true; talk = next }) [] core.convos (record { id = p.number; convo = after (plain t) (new_convo p) act }) []
          (others_told first [] p.number events ks core.convos st.all ids) one tt);
      unanswered = drop_append core.answered core.events more st.answered ∙ (λ i. st.unanswered i ++ more_is i);
      answered = omega (arith, st.answered, length-append core.events more);
      owed = ap (λ x. owed_by p.number (ending (plain t) x act)) found ∙ ap (owed_by p.number) done.none_ending;
      calm = tt;
      timed = st.timed;
      finished_is = st.finished_is;
    }

given_is : (c : Convo) (event : Event) → answered_event c ≡ Some event → given_back c no_advice (answered_event c) ≡ charges_in event
given_is c event e = ap (given_back c no_advice) e ∙ by event
  where
    none_of : (b : Bool) (charges : List Charge) → cond (b && false) [] charges ≡ charges
    none_of true charges = refl
    none_of false charges = refl

    by : (event : Event) → given_back c no_advice (Some event) ≡ charges_in event
    by New = refl
    by (Chunk d) = none_of (is_live c) (charges_of (kept_of d))
    by (Ended reason) = refl

-- what an answer leaves as it was
answer_keeps : (t : Terms) (c : Convo) (event : ℕ) (frees : List Free)
    → ((after (plain t) c (Answer event no_advice frees)).events ≡ c.events) × ((after (plain t) c (Answer event no_advice frees)).answered ≡ suc c.answered)
    × ((after (plain t) c (Answer event no_advice frees)).clock ≡ c.clock)
answer_keeps t c event frees = by (is_live c)
  where
    advised : Convo
    advised = record c { own = c.own; kept = keep_after c no_advice (answered_event c); answered = suc c.answered }

    silenced : Convo
    silenced = record c { answered = suc c.answered }

    by : (b : Bool) → ((cond b advised silenced).events ≡ c.events) × ((cond b advised silenced).answered ≡ suc c.answered) × ((cond b advised silenced).clock ≡ c.clock)
    by true = (refl, refl, refl)
    by false = (refl, refl, refl)

-- An answer to the first event that waits.
pub answer_core : (t : Terms) (last first : ℕ) (xs : List Kept) (k : Kept) (ys : List Kept) (w : Told) (waiting : List Told) (finished : Option ℕ) (core : Core) (frees : List Free)
    → StandsForCore first (xs ++ k ∷ ys) (w ∷ waiting) finished core → HasNoId w.conv xs → HasNoId w.conv ys → k.talk.id ≡ w.conv
    → map (λ free. free.bytes) frees ≡ map (λ charge. charge.bytes) (charges_in w.event)
    → IsLawfulEntry (plain t) last core (record { conv = w.conv; act = Answer (suc core.answered) no_advice frees })
    × StandsForCore first (xs ++ k ∷ ys) waiting finished (core_after (plain t) core (record { conv = w.conv; act = Answer (suc core.answered) no_advice frees }))
answer_core t last first xs k ys w waiting finished core frees st ids_x ids_y same freed = (lawful, stands)
  where
    act : Act
    act = Answer (suc core.answered) no_advice frees

    line : Line
    line = record { conv = w.conv; act = act }

    s : Split first (w ∷ waiting) xs k ys core.convos
    s = split first (w ∷ waiting) xs k ys core.convos st.all

    c : Convo
    c = s.here.convo

    before_ids : NoneHas w.conv s.before
    before_ids = none_has first (w ∷ waiting) w.conv xs s.before s.earlier ids_x

    here_id : s.here.id ≡ w.conv
    here_id = s.one.id ∙ same

    known : find_convo w.conv core.convos ≡ Some c
    known = ap (find_convo w.conv) s.is ∙ find_at w.conv s.before s.here s.behind before_ids here_id

    found : found_by core line ≡ c
    found = found_is core line c known

    next : (slice_get core.events core.answered ≡ Some w) × (drop (suc core.answered) core.events ≡ waiting) × (suc core.answered ≤ length core.events)
    next = drop_next core.answered core.events w waiting st.unanswered

    own_event : (slice_get c.events c.answered ≡ Some w.event) × (drop (suc c.answered) c.events ≡ own s.here.id waiting) × (suc c.answered ≤ length c.events)
    own_event = drop_next c.answered c.events w.event (own s.here.id waiting) (s.one.unanswered ∙ own_next w waiting s.here.id (sym here_id))

    keeps : ((after (plain t) c act).events ≡ c.events) × ((after (plain t) c act).answered ≡ suc c.answered) × ((after (plain t) c act).clock ≡ c.clock)
    keeps = answer_keeps t c (suc core.answered) frees

    lawful : IsLawfulEntry (plain t) last core line
    lawful = record {
      conversations = tt;
      dues = tt;
      ends = (subst (λ o. PaysOwed o line) (sym st.owed) tt, follows core core.last act st.calm, any_order core.finished, any_live (find_convo w.conv core.convos));
      answers = (refl, subst Fits (sym next.0) (refl, refl));
      window = tt;
      looks = tt;
      frees = freed ∙ sym (ap (map (λ charge. charge.bytes)) (ap (λ x. given_back x no_advice (answered_event x)) found ∙ given_is c w.event own_event.0));
    }
      where
        any_order : (f : Option ℕ) → FinishesInOrder f w.conv act
        any_order None = tt
        any_order (Some n) = tt

        any_live : (o : Option Convo) → EndsLive last o act
        any_live None = tt
        any_live (Some x) = tt

        Fits : Option Told → Type 0
        Fits None = ⊥
        Fits (Some told) = (told.conv ≡ w.conv) × (no_advice ≡ silent w.conv (seen_of (found_by core line).first told.event))

    convos_are : (core_after (plain t) core line).convos ≡ s.before ++ record { id = w.conv; convo = after (plain t) c act } ∷ s.behind
    convos_are = (λ i. put_convo w.conv (after (plain t) (found i) act) (s.is i)) ∙ put_at w.conv (after (plain t) c act) s.before s.here s.behind before_ids here_id

    one : IsOne first waiting k (record { id = w.conv; convo = after (plain t) c act })
    one = record {
      id = sym same;
      talks = answered_stands t k.talk c k.live (suc core.answered) frees s.one.talks;
      begun = ap is_empty keeps.0 ∙ s.one.begun;
      clock = omega (arith, keeps.2, s.one.clock);
      answered = omega (arith, own_event.2, keeps.1, ap length keeps.0);
      unanswered = (λ i. drop (keeps.1 i) (keeps.0 i)) ∙ own_event.1 ∙ ap (λ id. own id waiting) here_id;
    }

    stands : StandsForCore first (xs ++ k ∷ ys) waiting finished (core_after (plain t) core line)
    stands = record {
      all = subst (AllStand first waiting (xs ++ k ∷ ys)) (sym convos_are)
          (joined_stand first waiting xs k ys s.before (record { id = w.conv; convo = after (plain t) c act }) s.behind
          (others_answered first w waiting xs s.before s.earlier ids_x) one (others_answered first w waiting ys s.behind s.later ids_y));
      unanswered = ap (drop (suc core.answered)) (append-nil core.events) ∙ next.1;
      answered = omega (arith, next.2, ap length (append-nil core.events));
      owed = st.owed;
      calm = st.calm;
      timed = st.timed;
      finished_is = st.finished_is;
    }

none_owed : (id : ℕ) (live : Bool) → owed_by id (cond live None None) ≡ None
none_owed id true = refl
none_owed id false = refl

-- The End of a conversation at the end of the capture.
pub end_core : (t : Terms) (last first : ℕ) (xs : List Kept) (k : Talk) (ys : List Kept) (waiting : List Told) (finished : Option ℕ) (core : Core)
    (events : List Event) (next : Talk)
    → StandsForCore first (xs ++ record { live = true; talk = k } ∷ ys) waiting finished core
    → HasNoId k.id xs → HasNoId k.id ys → next.id ≡ k.id → length waiting < 256 → last < first + t.idle
    → FinishesInOrder finished k.id (End last Finish [] [])
    → ((c : Convo) → TalksFor true k c → DoesEnd t c (End last Finish [] []) events next)
    → IsLawfulEntry (plain t) last core (record { conv = k.id; act = End last Finish [] [] })
    × StandsForCore first (xs ++ record { live = false; talk = next } ∷ ys) (waiting ++ told_of k.id events) (Some k.id) (core_after (plain t) core (record { conv = k.id; act = End last Finish [] [] }))
end_core t last first xs k ys waiting finished core events next st ids_x ids_y same_id room until order does = (lawful, stands)
  where
    act : Act
    act = End last Finish [] []

    line : Line
    line = record { conv = k.id; act = act }

    s : Split first waiting xs (record { live = true; talk = k }) ys core.convos
    s = split first waiting xs (record { live = true; talk = k }) ys core.convos st.all

    c : Convo
    c = s.here.convo

    before_ids : NoneHas k.id s.before
    before_ids = none_has first waiting k.id xs s.before s.earlier ids_x

    behind_ids : NoneHas k.id s.behind
    behind_ids = none_has first waiting k.id ys s.behind s.later ids_y

    known : find_convo k.id core.convos ≡ Some c
    known = ap (find_convo k.id) s.is ∙ find_at k.id s.before s.here s.behind before_ids s.one.id

    found : found_by core line ≡ c
    found = found_is core line c known

    done : DoesEnd t c act events next
    done = does c s.one.talks

    more : List Told
    more = map (λ event. record { conv = k.id; event = event }) (events_in (plain t) (found_by core line) act)

    more_is : more ≡ told_of k.id events
    more_is = ap (λ x. told_of k.id (events_in (plain t) x act)) found ∙ ap (told_of k.id) done.events_are

    waits : length core.events ≡ core.answered + length waiting
    waits = omega (arith, length-drop core.answered core.events, ap length st.unanswered, st.answered)

    lawful : IsLawfulEntry (plain t) last core line
    lawful = record {
      conversations = tt;
      dues = nothing_due t first last waiting (xs ++ record { live = true; talk = k } ∷ ys) core.convos st.all until;
      ends = (
        subst (λ o. PaysOwed o line) (sym st.owed) tt,
        follows core core.last act st.calm,
        subst (λ f. FinishesInOrder f k.id act) (sym st.finished_is) order,
        subst (λ o. EndsLive last o act) (sym known) (s.one.talks.alive_is, refl),
      );
      answers = tt;
      window = omega (arith, waits, room);
      looks = subst (λ x. AreLooksFor (plain t) x [] (asks (plain t) x act)) (sym found) (subst (λ a. AreLooksFor (plain t) c [] a) (sym done.asks_are) tt);
      frees = sym (ap (λ x. map (λ charge. charge.bytes) (released (plain t) x act)) found ∙ ap (map (λ charge. charge.bytes)) done.none_released);
    }

    convos_are : (core_after (plain t) core line).convos ≡ s.before ++ record { id = k.id; convo = after (plain t) c act } ∷ s.behind
    convos_are = (λ i. put_convo k.id (after (plain t) (found i) act) (s.is i)) ∙ put_at k.id (after (plain t) c act) s.before s.here s.behind before_ids s.one.id

    one : IsOne first (waiting ++ told_of k.id events) (record { live = false; talk = next }) (record { id = k.id; convo = after (plain t) c act })
    one = record {
      id = sym same_id;
      talks = done.stands;
      begun = some_more c.events (events_in (plain t) c act) s.one.begun;
      clock = s.one.clock;
      answered = omega (arith, s.one.answered, length-append c.events (events_in (plain t) c act));
      unanswered =
          drop_append c.answered c.events (events_in (plain t) c act) s.one.answered
          ∙ (λ i. s.one.unanswered i ++ done.events_are i)
          ∙ ap (λ id. own id waiting ++ events) s.one.id
          ∙ ap (λ l. own k.id waiting ++ l) (sym (own_same k.id events))
          ∙ sym (own-append k.id waiting (told_of k.id events));
    }

    stands : StandsForCore first (xs ++ record { live = false; talk = next } ∷ ys) (waiting ++ told_of k.id events) (Some k.id) (core_after (plain t) core line)
    stands = record {
      all = subst (AllStand first (waiting ++ told_of k.id events) (xs ++ record { live = false; talk = next } ∷ ys)) (sym convos_are)
          (joined_stand first (waiting ++ told_of k.id events) xs (record { live = false; talk = next }) ys s.before (record { id = k.id; convo = after (plain t) c act }) s.behind
          (others_told first waiting k.id events xs s.before s.earlier ids_x) one (others_told first waiting k.id events ys s.behind s.later ids_y));
      unanswered = drop_append core.answered core.events more st.answered ∙ (λ i. st.unanswered i ++ more_is i);
      answered = omega (arith, st.answered, length-append core.events more);
      owed = none_owed k.id (is_live (found_by core line));
      calm = tt;
      timed = st.timed;
      finished_is = refl;
    }
