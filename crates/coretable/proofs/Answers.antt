-- An answer: what it leaves of a conversation and of the core.
use Rattle.std.specs.Prelude.{◌≡◌, refl, ℕ, zero, suc, ◌+◌, ◌≤◌, ◌<◌, Bool, true, false, cond, not, ◌&&◌, ◌==◌, ◌%◌, ◌^◌, List, [], ◌∷◌, ◌++◌, length, drop, Option, None, Some, slice_get}
use Rattle.std.proofs.Common.{sym, ◌∙◌, ap, arith, subst, append-nil}
use Rattle.evring.specs.declared.advice.Advice.{Advice}
use Rattle.evring.specs.declared.reason.Reason.TheVariants.{Reset, Closed, Idle, Finish, Replaced}
use Rattle.prio_budget.specs.declared.free.Free.{Free}
use Rattle.streamkey.specs.declared.key.Key.{Key}
use Rattle.streamdefs.specs.Lists.{Each, or_else}
use Rattle.streamdefs.specs.Both.{of_way}
use Rattle.streamdefs.specs.Packet.{Packet, has_syn, same_key}
use Rattle.streamdefs.specs.Terms.{Terms}
use Rattle.streamdefs.specs.Convo.{Act, Convo, Event, after, answered_event, is_live, has_other_base, way_of, seen_of, own_after, keep_after}
use Rattle.streamdefs.specs.Convo.Act.{Seg, Answer, Time, End}
use Rattle.streamdefs.specs.Core.{Line, Core, Open, Told, Owed, core_after, found_by, find_convo, put_convo, latest_of, dues_of}
use Rattle.streamdefs.specs.Lawful.{Handler, FollowsReplaced, FinishesInOrder, EndsLive, PaysOwed, Replaces, NothingDue}
use Rattle.streamdefs.proofs.Histories.{find_put, found_is}
use Rattle.coretable.specs.Course.{Job}
use Rattle.coretable.specs.Course.Job.{Nothing, Takes, Closes}
use Rattle.coretable.specs.Lawfully.{MayBegin}
use Rattle.coretable.specs.Orderly.{Rises, bound, IsOwed, IsBehind, IsClosing, IsReplacing, IsFollowed, own, IsAnsweredFor, waiting_of, IsOrderly}
use Rattle.coretable.proofs.Places.{StandsAt, IsLatest, latest_at, found_at, put_at, same_number, from_test, rises_above, NoneHas}
use Rattle.coretable.proofs.DueLemmas.{nothing_due_put}
use Rattle.coretable.proofs.Entered.{each_put, each_at, rises_put, own_yes, own_no, known}

-- A key's last conversation, once one of them was put anew.
abbrev pub swapped : ℕ → Convo → Option Open → Option Open
swapped id c None = None
swapped id c (Some o) = cond (o.id == id) (Some (record { id = id; convo = c })) (Some o)

-- what is latest is one of them
latest_among : (key : Key) (id : ℕ) (o : Open) (os : List Open) (q : Open) (later : Option Open) (k : Bool) → latest_of key os ≡ later → or_else later (cond k (Some o) None) ≡ Some q
    → (o.id == id) ≡ false → (latest_of key os ≡ Some q → (q.id == id) ≡ false) → (q.id == id) ≡ false
latest_among key id o os q (Some x) k l e n rest = rest (l ∙ e)
latest_among key id o os q None true l e n rest = let same : o ≡ q = cc in subst (λ (x : Open). (x.id == id) ≡ false) same n
latest_among key id o os q None false l e n rest = absurd cc

pub latest_other : (key : Key) (id : ℕ) (os : List Open) (q : Open) → NoneHas id os → latest_of key os ≡ Some q → (q.id == id) ≡ false
latest_other key id [] q n e = absurd cc
latest_other key id (o ∷ os) q n e = latest_among key id o os q (latest_of key os) (same_key o.convo.first.key key) refl e n.0 (λ e'. latest_other key id os q n.1 e')

swap_true : (id : ℕ) (c : Convo) (o : Open) (later : Option Open) (k : Bool) → (o.id == id) ≡ true → ((q : Open) → later ≡ Some q → (q.id == id) ≡ false)
    → or_else later (cond k (Some (record { id = id; convo = c })) None) ≡ swapped id c (or_else later (cond k (Some o) None))
swap_true id c o (Some q) k t other = sym (ap (λ b. cond b (Some (record { id = id; convo = c })) (Some q)) (other q refl))
swap_true id c o None true t other = sym (ap (λ b. cond b (Some (record { id = id; convo = c })) (Some o)) t)
swap_true id c o None false t other = refl

swap_either : (b : Bool) (x y : Open) (other : Option Open) → or_else (cond b (Some x) (Some y)) other ≡ cond b (Some x) (Some y)
swap_either true x y other = refl
swap_either false x y other = refl

swap_false : (id : ℕ) (c : Convo) (o : Open) (later : Option Open) (k : Bool) → (o.id == id) ≡ false
    → or_else (swapped id c later) (cond k (Some o) None) ≡ swapped id c (or_else later (cond k (Some o) None))
swap_false id c o (Some q) k t = swap_either (q.id == id) (record { id = id; convo = c }) q (cond k (Some o) None)
swap_false id c o None true t = sym (ap (λ b. cond b (Some (record { id = id; convo = c })) (Some o)) t)
swap_false id c o None false t = refl

swap_one : (key : Key) (from id : ℕ) (c x : Convo) (o : Open) (os : List Open) (b : Bool) → (o.id == id) ≡ b → Rises from (o ∷ os) → cond b (Some o.convo) (find_convo id os) ≡ Some x → c.first ≡ x.first
    → (find_convo id os ≡ Some x → latest_of key (put_convo id c os) ≡ swapped id c (latest_of key os))
    → latest_of key (cond b (record { id = id; convo = c } ∷ os) (o ∷ put_convo id c os)) ≡ swapped id c (latest_of key (o ∷ os))
swap_one key from id c x o os true t r e f rest =
    let same : o.convo ≡ x = cc in
    let same_id : o.id ≡ id = from_test o.id id t in
    (λ i. or_else (latest_of key os) (cond (same_key ((f ∙ sym (ap (λ (d : Convo). d.first) same)) i).key key) (Some (record { id = id; convo = c })) None))
    ∙ swap_true id c o (latest_of key os) (same_key o.convo.first.key key) t (λ q l. latest_other key id os q (rises_above id (suc o.id) os (omega (arith, same_id)) r.2) l)
swap_one key from id c x o os false t r e f rest =
    ap (λ l. or_else l (cond (same_key o.convo.first.key key) (Some o) None)) (rest e) ∙ swap_false id c o (latest_of key os) (same_key o.convo.first.key key) t

pub latest_put : (key : Key) (from id : ℕ) (c x : Convo) (os : List Open) → Rises from os → find_convo id os ≡ Some x → c.first ≡ x.first
    → latest_of key (put_convo id c os) ≡ swapped id c (latest_of key os)
latest_put key from id c x [] r e f = absurd cc
latest_put key from id c x (o ∷ os) r e f = swap_one key from id c x o os (o.id == id) refl r e f (λ e'. latest_put key (suc o.id) id c x os r.2 e' f)

-- What an answer leaves of a conversation.
pub record Answered (terms : Terms) (c : Convo) (act : Act) : Type 0 where
  pub first : (after terms c act).first ≡ c.first
  pub events : (after terms c act).events ≡ c.events
  pub answered : (after terms c act).answered ≡ suc c.answered
  pub ended : (after terms c act).ended ≡ c.ended
  pub clock : (after terms c act).clock ≡ c.clock
  pub directions : (after terms c act).directions ≡ c.directions

pub answered : (terms : Terms) (c : Convo) (event : ℕ) (advice : Advice) (frees : List Free) → Answered terms c (Answer event advice frees)
answered terms c event advice frees =
    let all = by (is_live c) in record { first = all.0; events = all.1; answered = all.2; ended = all.3; clock = all.4; directions = all.5 }
  where
    advised : Convo
    advised = record c {
      own = own_after c advice (answered_event c);
      advised = or_else advice.priority c.advised;
      kept = keep_after c advice (answered_event c);
      answered = suc c.answered;
    }

    silenced : Convo
    silenced = record c { answered = suc c.answered }

    by : (b : Bool) → ((cond b advised silenced).first ≡ c.first) × ((cond b advised silenced).events ≡ c.events) × ((cond b advised silenced).answered ≡ suc c.answered)
        × ((cond b advised silenced).ended ≡ c.ended) × ((cond b advised silenced).clock ≡ c.clock) × ((cond b advised silenced).directions ≡ c.directions)
    by true = (refl, refl, refl, refl, refl, refl)
    by false = (refl, refl, refl, refl, refl, refl)

-- Lists.
module _ {X : Type 0} where
  pub got_drop : (xs : List X) (n : ℕ) (x : X) → slice_get xs n ≡ Some x → drop n xs ≡ x ∷ drop (suc n) xs
  got_drop [] n x e = absurd cc
  got_drop (y ∷ xs) zero x e = let same : y ≡ x = cc in ap (λ z. z ∷ xs) same
  got_drop (y ∷ xs) (suc n) x e = got_drop xs n x e

  pub drop_got : (n : ℕ) (xs : List X) (y : X) (ys : List X) → drop n xs ≡ y ∷ ys → (slice_get xs n ≡ Some y) × (drop (suc n) xs ≡ ys) × (suc n ≤ length xs)
  drop_got zero [] y ys e = absurd cc
  drop_got zero (x ∷ xs) y ys e = (ap (λ l. slice_get l 0) e, ap (λ l. drop 1 l) e, omega arith)
  drop_got (suc n) [] y ys e = absurd cc
  drop_got (suc n) (x ∷ xs) y ys e = let rest = drop_got n xs y ys e in (rest.0, rest.1, omega (arith, rest.2))

-- The conversation of the next event has it as its own next one.
pub record IsNextOf (core : Core) (told : Told) (c : Convo) : Type 0 where
  pub found : find_convo told.conv core.convos ≡ Some c
  pub event : slice_get c.events c.answered ≡ Some told.event
  pub behind : drop (suc c.answered) c.events ≡ own told.conv (drop (suc core.answered) core.events)
  pub within : suc c.answered ≤ length c.events

next_found : (core : Core) (told : Told) (o : Option Convo) → find_convo told.conv core.convos ≡ o → waiting_of core ≡ told ∷ drop (suc core.answered) core.events → IsAnsweredFor (waiting_of core) told.conv o
    → (c : Convo) × IsNextOf core told c
next_found core told None f w h = absurd (none (sym h ∙ ap (own told.conv) w ∙ own_yes told.conv told (drop (suc core.answered) core.events) (same_number told.conv)))
  where
    none : {xs : List Event} → [] ≡ told.event ∷ xs → ⊥
    none e = cc
next_found core told (Some c) f w h =
    let got = drop_got c.answered c.events told.event (own told.conv (drop (suc core.answered) core.events))
    (h.0 ∙ ap (own told.conv) w ∙ own_yes told.conv told (drop (suc core.answered) core.events) (same_number told.conv)) in
    (c, record { found = f; event = got.0; behind = got.1; within = got.2 })

pub next_of : (terms : Terms) (last number clock : ℕ) (job : Job) (core : Core) (told : Told) → IsOrderly terms last number clock job core → slice_get core.events core.answered ≡ Some told → (c : Convo) × IsNextOf core told c
next_of terms last number clock job core told ord e = next_found core told (find_convo told.conv core.convos) refl (got_drop core.events core.answered told e) (ord.unanswered told.conv)

-- Laws of an answer.
abbrev other_base : ℕ → Option ℕ → Bool
other_base at None = false
other_base at (Some base) = not (base == at)

pub base_answered : (terms : Terms) (c : Convo) (act : Act) (p : Packet) → Answered terms c act → has_other_base (after terms c act) p ≡ has_other_base c p
base_answered terms c act p a = λ i. has_syn p && other_base ((p.seq + 1) % 2 ^ 32) (of_way (way_of (record c { first = a.first i }) p) (a.directions i)).base

pub live_answered : (terms : Terms) (c : Convo) (act : Act) → Answered terms c act → is_live (after terms c act) ≡ is_live c
live_answered terms c act a = λ i. is_live (record c { ended = a.ended i })

-- what is due of it
dues_answered : (terms : Terms) (id : ℕ) (c : Convo) (act : Act) → Answered terms c act
    → dues_of terms (record { id = id; convo = after terms c act }) ≡ dues_of terms (record { id = id; convo = c })
dues_answered terms id c act a = λ i. dues_of terms (record { id = id; convo = record c { ended = a.ended i; clock = a.clock i; directions = a.directions i } })

answer_pays : (owed : Option Owed) (conv event : ℕ) (advice : Advice) (frees : List Free) → PaysOwed owed (record { conv = conv; act = Answer event advice frees })
answer_pays None conv event advice frees = tt
answer_pays (Some owed) conv event advice frees = tt

answer_in_order : (finished : Option ℕ) (id event : ℕ) (advice : Advice) (frees : List Free) → FinishesInOrder finished id (Answer event advice frees)
answer_in_order None id event advice frees = tt
answer_in_order (Some n) id event advice frees = tt

answer_ends : (last : ℕ) (o : Option Convo) (event : ℕ) (advice : Advice) (frees : List Free) → EndsLive last o (Answer event advice frees)
answer_ends last None event advice frees = tt
answer_ends last (Some c) event advice frees = tt

answer_replaces : (o : Option Convo) (at event : ℕ) (advice : Advice) (frees : List Free) → Replaces o at (Answer event advice frees)
answer_replaces None at event advice frees = tt
answer_replaces (Some c) at event advice frees = tt

answer_follows : (core : Core) (last : Option Line) (event : ℕ) (advice : Advice) (frees : List Free) → FollowsReplaced core last (Answer event advice frees)
answer_follows core None event advice frees = tt
answer_follows core (Some line) event advice frees = by line.act
  where
    by : (a : Act) → FollowsReplaced core (Some (record line { act = a })) (Answer event advice frees)
    by (Seg q now l fr) = tt
    by (Answer e ad fr) = tt
    by (Time at l fr) = tt
    by (End at Reset l fr) = tt
    by (End at Closed l fr) = tt
    by (End at Idle l fr) = tt
    by (End at Finish l fr) = tt
    by (End at Replaced l fr) = answer_replaces (find_convo line.conv core.convos) at event advice frees

-- The core behind an answer.
abbrev pub answered_core : Core → List Open → Core
answered_core core os = record { convos = os; events = core.events; answered = suc core.answered; owed = core.owed; last = core.last; timed = core.timed; finished = core.finished }

pub core_answered : (terms : Terms) (core : Core) (conv event : ℕ) (advice : Advice) (frees : List Free) (c : Convo) → find_convo conv core.convos ≡ Some c
    → core_after terms core (record { conv = conv; act = Answer event advice frees }) ≡ answered_core core (put_convo conv (after terms c (Answer event advice frees)) core.convos)
core_answered terms core conv event advice frees c f =
    let found = found_is core (record { conv = conv; act = Answer event advice frees }) c f in
    (λ i. answered_core (record core { events = append-nil core.events i }) (put_convo conv (after terms (found i) (Answer event advice frees)) core.convos))

-- what waits behind an answer is what waited before, but for its event
waits_answered : (id conv : ℕ) (told : Told) (rest : List Told) (c' : Convo) (other : Option Convo) (b : Bool) → (told.conv == id) ≡ b → (drop c'.answered c'.events ≡ own told.conv rest) × (c'.answered ≤ length c'.events)
    → IsAnsweredFor (told ∷ rest) id other → IsAnsweredFor rest id (cond b (Some c') other)
waits_answered id conv told rest c' other true t here there = (here.0 ∙ ap (λ (n : ℕ). own n rest) (from_test told.conv id t), here.1)
waits_answered id conv told rest c' None false t here there = sym (own_no id told rest t) ∙ there
waits_answered id conv told rest c' (Some d) false t here there = (there.0 ∙ own_no id told rest t, there.1)

owed_answered : (os : List Open) (k : ℕ) (c c' : Convo) (owed : Option Owed) → find_convo k os ≡ Some c → is_live c' ≡ is_live c → IsOwed os owed → IsOwed (put_convo k c' os) owed
owed_answered os k c c' None f l h = tt
owed_answered os k c c' (Some owed) f l h = (by (k == owed.conv) refl, h.1)
  where
    by : (b : Bool) → (k == owed.conv) ≡ b → (d : Convo) × (find_convo owed.conv (put_convo k c' os) ≡ Some d) × (is_live d ≡ true)
    by true t =
        let same : c ≡ h.0.0 = some_same (sym f ∙ ap (λ (n : ℕ). find_convo n os) (from_test k owed.conv t) ∙ h.0.1) in
        (c', find_put owed.conv k c' os ∙ ap (λ b. cond b (Some c') (find_convo owed.conv os)) t, l ∙ ap is_live same ∙ h.0.2)
      where
        some_same : {a b : Convo} → Some a ≡ Some b → a ≡ b
        some_same e = cc
    by false t = (h.0.0, find_put owed.conv k c' os ∙ ap (λ b. cond b (Some c') (find_convo owed.conv os)) t ∙ h.0.1, h.0.2)

behind_answered : (finished : Option ℕ) (o : Open) (c' : Convo) → is_live c' ≡ is_live o.convo → IsBehind finished o → IsBehind finished (record { id = o.id; convo = c' })
behind_answered None o c' l h = tt
behind_answered (Some n) o c' l h = λ k. h (sym l ∙ k)

closes_answered : (last : ℕ) (job : Job) (finished : Option ℕ) (o : Open) (c' : Convo) (xs ys : List Open) → is_live c' ≡ is_live o.convo → IsClosing last job finished (xs ++ o ∷ ys)
    → IsClosing last job finished (xs ++ record { id = o.id; convo = c' } ∷ ys)
closes_answered last Nothing finished o c' xs ys l h = h
closes_answered last (Takes p) finished o c' xs ys l h = h
closes_answered last (Closes at) finished o c' xs ys l h =
    (h.0, each_put (IsBehind finished) xs o (record { id = o.id; convo = c' }) ys h.1 (behind_answered finished o c' l (each_at (IsBehind finished) xs o ys h.1)))

replacing_answered : (terms : Terms) (core : Core) (k conv at : ℕ) (job : Job) (c c' : Convo) → Rises 0 core.convos → find_convo k core.convos ≡ Some c → c'.first ≡ c.first → is_live c' ≡ is_live c
    → ((p : Packet) → has_other_base c' p ≡ has_other_base c p) → dues_of terms (record { id = k; convo = c' }) ≡ dues_of terms (record { id = k; convo = c })
    → IsReplacing terms core conv at job → IsReplacing terms (answered_core core (put_convo k c' core.convos)) conv at job
replacing_answered terms core k conv at Nothing c c' r f e l b due h = h
replacing_answered terms core k conv at (Closes when) c c' r f e l b due h = h
replacing_answered terms core k conv at (Takes p) c c' r f e l b due h = by (conv == k) refl
  where
    put : latest_of p.key (put_convo k c' core.convos) ≡ swapped k c' (Some (record { id = conv; convo = h.0 }))
    put = latest_put p.key 0 k c' c core.convos r f e ∙ ap (swapped k c') h.1

    some_same : {a b : Convo} → Some a ≡ Some b → a ≡ b
    some_same e = cc

    none_due : NothingDue terms (answered_core core (put_convo k c' core.convos)) p.now
    none_due = nothing_due_put terms core.convos k c c' p.now r f due h.6

    by : (t : Bool) → (conv == k) ≡ t → IsReplacing terms (answered_core core (put_convo k c' core.convos)) conv at (Takes p)
    by true t =
        let same_id : conv ≡ k = from_test conv k t in
        let here : IsLatest 0 p.key core.convos (record { id = conv; convo = h.0 }) = latest_at 0 p.key core.convos (record { id = conv; convo = h.0 }) r h.1 in
        let same : h.0 ≡ c = some_same (sym (known core.convos (record { id = conv; convo = h.0 }) here.stands) ∙ ap (λ (n : ℕ). find_convo n core.convos) same_id ∙ f) in (
          c',
          put ∙ ap (λ b. cond b (Some (record { id = k; convo = c' })) (Some (record { id = conv; convo = h.0 }))) t ∙ (λ i. Some (record { id = sym same_id i; convo = c' })),
          l ∙ sym (ap is_live same) ∙ h.2,
          b p ∙ sym (ap (λ d. has_other_base d p) same) ∙ h.3,
          h.4,
          h.5,
          none_due,
        )
    by false t = (h.0, put ∙ ap (λ b. cond b (Some (record { id = k; convo = c' })) (Some (record { id = conv; convo = h.0 }))) t, h.2, h.3, h.4, h.5, none_due)

followed_answered : (terms : Terms) (core : Core) (k : ℕ) (job : Job) (c c' : Convo) (last : Option Line) → Rises 0 core.convos → find_convo k core.convos ≡ Some c → c'.first ≡ c.first → is_live c' ≡ is_live c
    → ((p : Packet) → has_other_base c' p ≡ has_other_base c p) → dues_of terms (record { id = k; convo = c' }) ≡ dues_of terms (record { id = k; convo = c })
    → IsFollowed terms core job last → IsFollowed terms (answered_core core (put_convo k c' core.convos)) job last
followed_answered terms core k job c c' None r f e l b due h = tt
followed_answered terms core k job c c' (Some line) r f e l b due h = by line.act h
  where
    by : (a : Act) → IsFollowed terms core job (Some (record line { act = a })) → IsFollowed terms (answered_core core (put_convo k c' core.convos)) job (Some (record line { act = a }))
    by (Seg q now ls fr) h = tt
    by (Answer ev ad fr) h = tt
    by (Time at ls fr) h = tt
    by (End at Reset ls fr) h = tt
    by (End at Closed ls fr) h = tt
    by (End at Idle ls fr) h = tt
    by (End at Finish ls fr) h = tt
    by (End at Replaced ls fr) h = replacing_answered terms core k line.conv at job c c' r f e l b due h

pub answer_fits : (terms : Terms) (last number clock : ℕ) (handler : Handler) (job : Job) (core : Core) (told : Told) (advice : Advice) (frees : List Free)
    → IsOrderly terms last number clock job core → slice_get core.events core.answered ≡ Some told → ((c : Convo) → find_convo told.conv core.convos ≡ Some c → advice ≡ handler told.conv (seen_of c.first told.event))
    → MayBegin terms last handler core (record { conv = told.conv; act = Answer (suc core.answered) advice frees })
    × IsOrderly terms last number clock job (core_after terms core (record { conv = told.conv; act = Answer (suc core.answered) advice frees }))
answer_fits terms last number clock handler job core told advice frees ord e stated = (begins, orderly)
  where
    rest : List Told
    rest = drop (suc core.answered) core.events

    here : (c : Convo) × IsNextOf core told c
    here = next_of terms last number clock job core told ord e

    c : Convo
    c = here.0

    o : Open
    o = record { id = told.conv; convo = c }

    s : StandsAt core.convos o
    s = found_at 0 told.conv c core.convos ord.rises here.1.found

    act : Act
    act = Answer (suc core.answered) advice frees

    line : Line
    line = record { conv = told.conv; act = act }

    a : Answered terms c act
    a = answered terms c (suc core.answered) advice frees

    c' : Convo
    c' = after terms c act

    put : put_convo told.conv c' core.convos ≡ s.before ++ record { id = told.conv; convo = c' } ∷ s.behind
    put = ap (put_convo told.conv c') s.is ∙ put_at told.conv c' s.before o s.behind s.none_before refl

    begins : MayBegin terms last handler core line
    begins = record {
      conversations = tt;
      dues = tt;
      ends = (
        answer_pays core.owed told.conv (suc core.answered) advice frees,
        answer_follows core core.last (suc core.answered) advice frees,
        answer_in_order core.finished told.conv (suc core.answered) advice frees,
        answer_ends last (find_convo told.conv core.convos) (suc core.answered) advice frees,
      );
      answers = (refl, subst Fits (sym e) (refl, stated c here.1.found ∙ ap (λ (d : Convo). handler told.conv (seen_of d.first told.event)) (sym (found_is core line c here.1.found))));
      window = tt;
    }
      where
        Fits : Option Told → Type 0
        Fits None = ⊥
        Fits (Some t) = (t.conv ≡ told.conv) × (advice ≡ handler told.conv (seen_of (found_by core line).first t.event))

    low : Each (λ q. q.id < bound number job) (s.before ++ record { id = told.conv; convo = c' } ∷ s.behind)
    low =
        let old : Each (λ q. q.id < bound number job) (s.before ++ o ∷ s.behind) = subst (Each (λ q. q.id < bound number job)) s.is ord.below in
        each_put (λ q. q.id < bound number job) s.before o (record { id = told.conv; convo = c' }) s.behind old (each_at (λ q. q.id < bound number job) s.before o s.behind old)

    orderly : IsOrderly terms last number clock job (core_after terms core line)
    orderly = subst (IsOrderly terms last number clock job) (sym (core_answered terms core told.conv (suc core.answered) advice frees c here.1.found)) (record {
      rises = subst (Rises 0) (sym put) (rises_put 0 s.before o c' s.behind (subst (Rises 0) s.is ord.rises) a.first);
      below = subst (Each (λ q. q.id < bound number job)) (sym put) low;
      timed = ord.timed;
      turn = ord.turn;
      owed = owed_answered core.convos told.conv c c' core.owed here.1.found (live_answered terms c act a) ord.owed;
      closes = subst (IsClosing last job core.finished) (sym put)
          (closes_answered last job core.finished o c' s.before s.behind (live_answered terms c act a) (subst (IsClosing last job core.finished) s.is ord.closes));
      followed = followed_answered terms core told.conv job c c' core.last ord.rises here.1.found a.first (live_answered terms c act a) (λ p. base_answered terms c act p a) (dues_answered terms told.conv c act a) ord.followed;
      answered = within;
      unanswered = λ id. subst (IsAnsweredFor rest id) (sym (find_put id told.conv c' core.convos))
          (waits_answered id told.conv told rest c' (find_convo id core.convos) (told.conv == id) refl
          ((λ i. drop (a.answered i) (a.events i)) ∙ here.1.behind, omega (arith, here.1.within, a.answered, ap length a.events))
          (subst (λ w. IsAnsweredFor w id (find_convo id core.convos)) (got_drop core.events core.answered told e) (ord.unanswered id)));
    })
      where
        within : suc core.answered ≤ length core.events
        within = (drop_got core.answered core.events told rest (got_drop core.events core.answered told e)).2
