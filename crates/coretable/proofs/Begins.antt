-- Each entry that a core begins is one that the lawful journal allows, and leaves an orderly core.
use Rattle.std.specs.Prelude.{◌≡◌, refl, ℕ, ◌+◌, ◌≤◌, ◌<◌, Bool, true, false, cond, not, ◌&&◌, ◌||◌, ◌==◌, ◌%◌, ◌^◌, nat_lt, List, [], ◌∷◌, ◌++◌, length, flat_map, Option, None, Some, max}
use Rattle.std.specs.List.{list_all}
use Rattle.std.proofs.Common.{sym, ◌∙◌, ap, arith, subst}
use Rattle.std.proofs.lemmas.Bool.Decides.{nat_tests}
use Rattle.evring.specs.declared.reason.Reason.{Reason}
use Rattle.evring.specs.declared.reason.Reason.TheVariants.{Reset, Closed, Idle, Finish, Replaced}
use Rattle.evring.specs.declared.way.Way.{Way}
use Rattle.evring.specs.declared.way.Way.TheVariants.{Fore, Back}
use Rattle.histbook.specs.declared.look_entry.LookEntry.{LookEntry}
use Rattle.prio_budget.specs.declared.free.Free.{Free}
use Rattle.streamdefs.specs.Lists.{Each}
use Rattle.streamdefs.specs.Direction.{untouched}
use Rattle.streamdefs.specs.Both.{of_way, both}
use Rattle.streamdefs.specs.Packet.{Packet, is_tcp, has_syn}
use Rattle.streamdefs.specs.Terms.{Terms}
use Rattle.streamdefs.specs.Convo.{Act, Convo, new_convo, after, is_live, has_other_base, way_of}
use Rattle.streamdefs.specs.Convo.Act.{Seg, Answer, Time, End}
use Rattle.streamdefs.specs.Core.{Line, Core, Open, Due, core_after, found_by, find_convo, is_answer, Owed, owed_by, timed_by, finished_by, latest_of, conversation_of, dues, dues_of, first_due}
use Rattle.streamdefs.specs.Lawful.{Handler, IsInTime, PaysOwed, FollowsReplaced, Replaces, FinishesInOrder, EndsLive, NothingDue}
use Rattle.streamdefs.proofs.Histories.{found_is}
use Rattle.coretable.specs.Course.{Job, is_late, due_by, first_live}
use Rattle.coretable.specs.Course.Job.{Nothing, Takes, Closes}
use Rattle.coretable.specs.Lawfully.{MayBegin}
use Rattle.coretable.specs.Orderly.{Rises, IsBehind, IsClosing, IsReplacing, IsFollowed, IsOrderly, IsAtOnce, IsOwed, IsInTurn}
use Rattle.coretable.proofs.Places.{StandsAt, NoneHas, NoneLives, IsLatest, IsFirstLive, latest_at, first_live_at, latest_is, below_none, find_none, rises_behind, rises_each, found_at}
use Rattle.coretable.proofs.DueLemmas.{IsDueOf, none_due, all_later, due_of, dead_dues, each_first, none_due_anew}
use Rattle.coretable.proofs.Entered.{each_put, each_at, each_weaker, lived, known, behind_of, orderly_known, orderly_new}

-- What is due.

up_to : ℕ → Option Due → Option Due
up_to now None = None
up_to now (Some d) = cond (nat_lt now d.at) None (Some d)

none_due_by : (now : ℕ) (ds : List Due) (o : Option Due) (b : Bool) → first_due ds ≡ o → (d : Due) → o ≡ Some d → nat_lt now d.at ≡ b → cond b None (Some d) ≡ None → list_all (λ e. nat_lt now e.at) ds ≡ true
none_due_by now ds o true f d e l h = all_later now ds d (f ∙ e) l
none_due_by now ds o false f d e l h = absurd cc

none_due_of : (now : ℕ) (ds : List Due) (o : Option Due) → first_due ds ≡ o → up_to now o ≡ None → list_all (λ e. nat_lt now e.at) ds ≡ true
unfolding up_to
none_due_of now ds None f h = ap (list_all (λ e. nat_lt now e.at)) (none_due ds f)
none_due_of now ds (Some d) f h = none_due_by now ds (Some d) (nat_lt now d.at) f d refl refl h

-- where nothing is due up to a moment
pub nothing_due : (terms : Terms) (core : Core) (now : ℕ) → due_by terms core now ≡ None → NothingDue terms core now
unfolding up_to
nothing_due terms core now h = none_due_of now (dues terms core) (first_due (dues terms core)) refl h

-- what is due
pub record IsDueBy (terms : Terms) (core : Core) (now : ℕ) (d : Due) : Type 0 where
  pub first : first_due (dues terms core) ≡ Some d
  pub by_now : d.at ≤ now

not_later : (at now : ℕ) → nat_lt now at ≡ false → at ≤ now
not_later at now h = grind (arith, nat_tests)

due_of_test : (terms : Terms) (core : Core) (now : ℕ) (d e : Due) (b : Bool) → first_due (dues terms core) ≡ Some e → nat_lt now e.at ≡ b → cond b None (Some e) ≡ Some d → IsDueBy terms core now d
due_of_test terms core now d e true f l h = absurd cc
due_of_test terms core now d e false f l h =
    let same : e ≡ d = cc in
    subst (IsDueBy terms core now) same (record { first = f; by_now = not_later e.at now l })

due_of_first : (terms : Terms) (core : Core) (now : ℕ) (d : Due) (f : Option Due) → first_due (dues terms core) ≡ f → up_to now f ≡ Some d → IsDueBy terms core now d
unfolding up_to
due_of_first terms core now d None f h = absurd cc
due_of_first terms core now d (Some e) f h = due_of_test terms core now d e (nat_lt now e.at) f refl h

pub due_is : (terms : Terms) (core : Core) (now : ℕ) (d : Due) → due_by terms core now ≡ Some d → IsDueBy terms core now d
unfolding up_to
due_is terms core now d h = due_of_first terms core now d (first_due (dues terms core)) refl h

-- nothing is due where all that is due is later
due_later : (now : ℕ) (ds : List Due) (d : Due) → list_all (λ e. nat_lt now e.at) ds ≡ true → first_due ds ≡ Some d → nat_lt now d.at ≡ true
due_later now ds d h e = each_first (λ x. nat_lt now x.at ≡ true) ds d (each_of ds h) e
  where
    both_of : (a b : Bool) → (a && b) ≡ true → (a ≡ true) × (b ≡ true)
    both_of true b h = (refl, h)
    both_of false b h = absurd cc

    each_of : (ds : List Due) → list_all (λ e. nat_lt now e.at) ds ≡ true → Each (λ x. nat_lt now x.at ≡ true) ds
    each_of [] h = tt
    each_of (x ∷ ds) h = let two = both_of (nat_lt now x.at) (list_all (λ e. nat_lt now e.at) ds) h in (two.0, each_of ds two.1)

-- Laws of an entry.

pub and_false : (b : Bool) → (b && false) ≡ false
and_false true = refl
and_false false = refl

-- whether a base is another one
abbrev other_base : ℕ → Option ℕ → Bool
other_base at None = false
other_base at (Some base) = not (base == at)

pub found_of : (core : Core) (o : Open) (act : Act) → StandsAt core.convos o → found_by core (record { conv = o.id; act = act }) ≡ o.convo
found_of core o act s = found_is core (record { conv = o.id; act = act }) o.convo (known core.convos o s)

-- a live conversation of the packet's key is none that was replaced
pub follows_live : (terms : Terms) (core : Core) (p : Packet) (o : Open) (act : Act) (last : Option Line) → IsFollowed terms core (Takes p) last → latest_of p.key core.convos ≡ Some o → is_live o.convo ≡ true
    → FollowsReplaced core last act
follows_live terms core p o act None h e l = tt
follows_live terms core p o act (Some line) h e l = by line.act h
  where
    by : (a : Act) → IsFollowed terms core (Takes p) (Some (record line { act = a })) → FollowsReplaced core (Some (record line { act = a })) act
    by (Seg q now looks frees) h = tt
    by (Answer event advice frees) h = tt
    by (Time at looks frees) h = tt
    by (End at Reset looks frees) h = tt
    by (End at Closed looks frees) h = tt
    by (End at Idle looks frees) h = tt
    by (End at Finish looks frees) h = tt
    by (End at Replaced looks frees) h = absurd (differs o.convo h.0 l h.2 same_convo)
      where
        same_convo : o.convo ≡ h.0
        same_convo = of_some (sym e ∙ h.1)
          where
            of_some : {a b : Open} → Some a ≡ Some b → a.convo ≡ b.convo
            of_some e = cc

        differs : (a b : Convo) → is_live a ≡ true → is_live b ≡ false → a ≡ b → ⊥
        differs a b x y z = cc

-- behind no job but a packet's there is none that was replaced
pub follows_other : (terms : Terms) (core : Core) (job : Job) (act : Act) (last : Option Line) → ((conv at : ℕ) → IsReplacing terms core conv at job → ⊥) → IsFollowed terms core job last → FollowsReplaced core last act
follows_other terms core job act None n h = tt
follows_other terms core job act (Some line) n h = by line.act h
  where
    by : (a : Act) → IsFollowed terms core job (Some (record line { act = a })) → FollowsReplaced core (Some (record line { act = a })) act
    by (Seg q now looks frees) h = tt
    by (Answer event advice frees) h = tt
    by (Time at looks frees) h = tt
    by (End at Reset looks frees) h = tt
    by (End at Closed looks frees) h = tt
    by (End at Idle looks frees) h = tt
    by (End at Finish looks frees) h = tt
    by (End at Replaced looks frees) h = absurd (n line.conv at h)

-- what is due is behind no conversation that was replaced
unequal : (b : Bool) → b ≡ true → b ≡ false → ⊥
unequal b e f = cc

in_time : (at now : ℕ) → at ≤ now → nat_lt now at ≡ false
in_time at now h = grind (arith, nat_tests)

due_not_replacing : (terms : Terms) (core : Core) (clock number : ℕ) (job : Job) (d : Due) → IsInTurn number clock job → IsDueBy terms core clock d → (conv at : ℕ) → IsReplacing terms core conv at job → ⊥
due_not_replacing terms core clock number Nothing d turn due conv at r = r
due_not_replacing terms core clock number (Closes when) d turn due conv at r = r
due_not_replacing terms core clock number (Takes p) d turn due conv at r =
    unequal (nat_lt p.now d.at) (due_later p.now (dues terms core) d r.6 due.first) (in_time d.at p.now (omega (arith, due.by_now, turn.0)))

pub follows_due : (terms : Terms) (core : Core) (clock number : ℕ) (job : Job) (d : Due) (act : Act) (last : Option Line) → IsInTurn number clock job → IsDueBy terms core clock d → IsFollowed terms core job last
    → FollowsReplaced core last act
follows_due terms core clock number job d act last turn due h = follows_other terms core job act last (due_not_replacing terms core clock number job d turn due) h

-- the last entry being what it is, the next one of this core
pub record Facts (terms : Terms) (last number clock : ℕ) (job : Job) (core : Core) : Type 0 where
  pub orderly : IsOrderly terms last number clock job core
  pub none_owed : core.owed ≡ None
  pub room : length core.events < core.answered + 256

-- which conversation a packet belongs to, by its key's last one
of_latest : Terms → Packet → Option Open → ℕ
of_latest terms p None = p.number
of_latest terms p (Some o) = cond (is_live o.convo || (is_tcp p && not (has_syn p) && nat_lt p.now (o.convo.clock + terms.idle))) o.id p.number

belongs : (terms : Terms) (core : Core) (p : Packet) (o : Open) (b : Bool) → latest_of p.key core.convos ≡ Some o
    → (is_live o.convo || (is_tcp p && not (has_syn p) && nat_lt p.now (o.convo.clock + terms.idle))) ≡ b → conversation_of terms core p p.now ≡ cond b o.id p.number
unfolding of_latest
belongs terms core p o b e t = ap (of_latest terms p) e ∙ ap (λ v. cond v o.id p.number) t

-- A packet's entry under its key's live conversation.
pub seg_of_live : (terms : Terms) (last number clock : ℕ) (handler : Handler) (core : Core) (p : Packet) (o : Open) (looks : List LookEntry) (frees : List Free)
    → Facts terms last number clock (Takes p) core → latest_of p.key core.convos ≡ Some o → is_live o.convo ≡ true → due_by terms core p.now ≡ None → has_other_base o.convo p ≡ false
    → MayBegin terms last handler core (record { conv = o.id; act = Seg p p.now looks frees })
    × IsOrderly terms last number clock Nothing (core_after terms core (record { conv = o.id; act = Seg p p.now looks frees }))
seg_of_live terms last number clock handler core p o looks frees f e live due base = (begins, orderly)
  where
    at : IsLatest 0 p.key core.convos o
    at = latest_at 0 p.key core.convos o f.orderly.rises e

    act : Act
    act = Seg p p.now looks frees

    line : Line
    line = record { conv = o.id; act = act }

    found : found_by core line ≡ o.convo
    found = found_of core o act at.stands

    begins : MayBegin terms last handler core line
    begins = record {
      conversations = (
        sym (belongs terms core p o true e (ap (λ b. b || (is_tcp p && not (has_syn p) && nat_lt p.now (o.convo.clock + terms.idle))) live)),
        ap (λ c. is_live c && has_other_base c p) found ∙ ap (λ b. is_live o.convo && b) base ∙ and_false (is_live o.convo),
      );
      dues = (nothing_due terms core p.now due, omega (arith, f.orderly.timed, f.orderly.turn.0));
      ends = (
        subst (λ w. PaysOwed w line) (sym f.none_owed) tt,
        follows_live terms core p o act core.last f.orderly.followed e live,
        subst (λ w. FinishesInOrder w o.id act) (sym f.orderly.closes) tt,
        subst (λ w. EndsLive last w act) (sym (known core.convos o at.stands)) tt,
      );
      answers = tt;
      window = f.room;
    }

    orderly : IsOrderly terms last number clock Nothing (core_after terms core line)
    orderly = orderly_known terms last number clock (Takes p) Nothing core o act refl at.stands f.orderly (omega (arith, f.orderly.turn.1)) f.orderly.timed tt f.orderly.closes tt

-- A packet's late entry under its key's ended conversation.
late_has_no_syn : (a b c : Bool) → (a && not b && c) ≡ true → b ≡ false
late_has_no_syn true true c e = absurd cc
late_has_no_syn true false c e = refl
late_has_no_syn false b c e = absurd cc

base_has_syn : (a b : Bool) → (a && b) ≡ true → a ≡ true
base_has_syn true b e = refl
base_has_syn false b e = absurd cc

pub follows_late : (terms : Terms) (core : Core) (p : Packet) (act : Act) (last : Option Line) → IsFollowed terms core (Takes p) last → has_syn p ≡ false → FollowsReplaced core last act
follows_late terms core p act last h e = follows_other terms core (Takes p) act last (λ conv at r. unequal (has_syn p) (base_has_syn (has_syn p) _ r.3) e) h

pub seg_of_ended : (terms : Terms) (last number clock : ℕ) (handler : Handler) (core : Core) (p : Packet) (o : Open) (looks : List LookEntry) (frees : List Free)
    → Facts terms last number clock (Takes p) core → latest_of p.key core.convos ≡ Some o → is_live o.convo ≡ false → is_late terms o p ≡ true → due_by terms core p.now ≡ None
    → MayBegin terms last handler core (record { conv = o.id; act = Seg p p.now looks frees })
    × IsOrderly terms last number clock Nothing (core_after terms core (record { conv = o.id; act = Seg p p.now looks frees }))
seg_of_ended terms last number clock handler core p o looks frees f e dead late due = (begins, orderly)
  where
    at : IsLatest 0 p.key core.convos o
    at = latest_at 0 p.key core.convos o f.orderly.rises e

    act : Act
    act = Seg p p.now looks frees

    line : Line
    line = record { conv = o.id; act = act }

    found : found_by core line ≡ o.convo
    found = found_of core o act at.stands

    begins : MayBegin terms last handler core line
    begins = record {
      conversations = (
        sym (belongs terms core p o true e ((λ i. dead i || late i))),
        ap (λ c. is_live c && has_other_base c p) found ∙ ap (λ b. b && has_other_base o.convo p) dead,
      );
      dues = (nothing_due terms core p.now due, omega (arith, f.orderly.timed, f.orderly.turn.0));
      ends = (
        subst (λ w. PaysOwed w line) (sym f.none_owed) tt,
        follows_late terms core p act core.last f.orderly.followed (late_has_no_syn (is_tcp p) (has_syn p) _ late),
        subst (λ w. FinishesInOrder w o.id act) (sym f.orderly.closes) tt,
        subst (λ w. EndsLive last w act) (sym (known core.convos o at.stands)) tt,
      );
      answers = tt;
      window = f.room;
    }

    orderly : IsOrderly terms last number clock Nothing (core_after terms core line)
    orderly = orderly_known terms last number clock (Takes p) Nothing core o act refl at.stands f.orderly (omega (arith, f.orderly.turn.1)) f.orderly.timed tt f.orderly.closes tt

-- A packet's entry that opens a conversation.
no_base_yet : (p : Packet) (way : Way) → way_of (new_convo p) p ≡ way → has_other_base (new_convo p) p ≡ false
no_base_yet p Fore e = ap (λ w. has_syn p && other_base ((p.seq + 1) % 2 ^ 32) (of_way w (both untouched)).base) e ∙ and_false (has_syn p)
no_base_yet p Back e = ap (λ w. has_syn p && other_base ((p.seq + 1) % 2 ^ 32) (of_way w (both untouched)).base) e ∙ and_false (has_syn p)

-- behind one that is replaced comes the packet that replaces it
pub follows_new : (terms : Terms) (core : Core) (p : Packet) (looks : List LookEntry) (frees : List Free) (last : Option Line) → Rises 0 core.convos → IsFollowed terms core (Takes p) last
    → FollowsReplaced core last (Seg p p.now looks frees)
follows_new terms core p looks frees None r h = tt
follows_new terms core p looks frees (Some line) r h = by line.act h
  where
    by : (a : Act) → IsFollowed terms core (Takes p) (Some (record line { act = a })) → FollowsReplaced core (Some (record line { act = a })) (Seg p p.now looks frees)
    by (Seg q now l fr) h = tt
    by (Answer event advice fr) h = tt
    by (Time at l fr) h = tt
    by (End at Reset l fr) h = tt
    by (End at Closed l fr) h = tt
    by (End at Idle l fr) h = tt
    by (End at Finish l fr) h = tt
    by (End at Replaced l fr) h =
        let here : IsLatest 0 p.key core.convos (record { id = line.conv; convo = h.0 }) = latest_at 0 p.key core.convos _ r h.1 in
        subst (λ w. Replaces w at (Seg p p.now looks frees)) (sym (known core.convos (record { id = line.conv; convo = h.0 }) here.stands)) ((λ i. here.keyed i && h.3 i), h.4)

pub seg_of_new : (terms : Terms) (last number clock : ℕ) (handler : Handler) (core : Core) (p : Packet) (looks : List LookEntry) (frees : List Free)
    → Facts terms last number clock (Takes p) core → conversation_of terms core p p.now ≡ p.number → due_by terms core p.now ≡ None
    → MayBegin terms last handler core (record { conv = p.number; act = Seg p p.now looks frees })
    × IsOrderly terms last number clock Nothing (core_after terms core (record { conv = p.number; act = Seg p p.now looks frees }))
seg_of_new terms last number clock handler core p looks frees f opens due = (begins, orderly_new terms last number clock core p looks frees f.orderly)
  where
    act : Act
    act = Seg p p.now looks frees

    line : Line
    line = record { conv = p.number; act = act }

    none : NoneHas p.number core.convos
    none = below_none p.number core.convos f.orderly.below

    unknown : find_convo p.number core.convos ≡ None
    unknown = find_none p.number core.convos none

    found : found_by core line ≡ new_convo p
    found = rw (found_by, unknown) refl

    begins : MayBegin terms last handler core line
    begins = record {
      conversations = (sym opens, ap (λ c. is_live c && has_other_base c p) found ∙ no_base_yet p (way_of (new_convo p) p) refl);
      dues = (nothing_due terms core p.now due, omega (arith, f.orderly.timed, f.orderly.turn.0));
      ends = (
        subst (λ w. PaysOwed w line) (sym f.none_owed) tt,
        follows_new terms core p looks frees core.last f.orderly.rises f.orderly.followed,
        subst (λ w. FinishesInOrder w p.number act) (sym f.orderly.closes) tt,
        subst (λ w. EndsLive last w act) (sym unknown) tt,
      );
      answers = tt;
      window = f.room;
    }

max_below : (a b c : ℕ) → a ≤ c → b ≤ c → max a b ≤ c
max_below a b c h k = grind (arith, nat_tests)

behind_lives : (finished : Option ℕ) (terms : Terms) (o : Open) (act : Act) → is_answer act ≡ false → IsBehind finished o → IsBehind finished (record { id = o.id; convo = after terms o.convo act })
behind_lives None terms o act na h = tt
behind_lives (Some id) terms o act na h = λ l. h (lived terms o.convo act na l)

-- an entry of a conversation leaves the others where they are
closes_put : (terms : Terms) (last : ℕ) (job : Job) (core : Core) (o : Open) (act : Act) → is_answer act ≡ false → (s : StandsAt core.convos o) → IsClosing last job core.finished core.convos
    → IsClosing last job core.finished (s.before ++ record { id = o.id; convo = after terms o.convo act } ∷ s.behind)
closes_put terms last Nothing core o act na s h = h
closes_put terms last (Takes p) core o act na s h = h
closes_put terms last (Closes at) core o act na s h =
    let old : Each (IsBehind core.finished) (s.before ++ o ∷ s.behind) = subst (Each (IsBehind core.finished)) s.is h.1 in (
      h.0,
      each_put (IsBehind core.finished) s.before o (record { id = o.id; convo = after terms o.convo act }) s.behind old
          (behind_lives core.finished terms o act na (each_at (IsBehind core.finished) s.before o s.behind old)),
    )

time_in_order : (finished : Option ℕ) (id at : ℕ) (looks : List LookEntry) (frees : List Free) → FinishesInOrder finished id (Time at looks frees)
time_in_order None id at looks frees = tt
time_in_order (Some n) id at looks frees = tt

-- a Time
pub time_due : (terms : Terms) (last number clock : ℕ) (handler : Handler) (job : Job) (core : Core) (d : Due) (looks : List LookEntry) (frees : List Free)
    → Facts terms last number clock job core → IsDueBy terms core clock d → d.idle ≡ false → FollowsReplaced core core.last (Time d.at looks frees)
    → MayBegin terms last handler core (record { conv = d.conv; act = Time d.at looks frees })
    × IsOrderly terms last number clock job (core_after terms core (record { conv = d.conv; act = Time d.at looks frees }))
time_due terms last number clock handler job core d looks frees f due kind follows =
    subst (λ id. MayBegin terms last handler core (record { conv = id; act = act }) × IsOrderly terms last number clock job (core_after terms core (record { conv = id; act = act }))) (sym of_it) (begins, orderly)
  where
    act : Act
    act = Time d.at looks frees

    of : IsDueOf terms core.convos d
    of = due_of terms core d f.orderly.rises due.first

    o : Open
    o = of.one

    s : StandsAt core.convos o
    s = of.stands

    of_it : d.conv ≡ o.id
    of_it = of.conv

    begins : MayBegin terms last handler core (record { conv = o.id; act = act })
    begins = record {
      conversations = tt;
      dues = due.first ∙ (λ i. Some (record { at = d.at; conv = of_it i; idle = kind i }));
      ends = (
        subst (λ w. PaysOwed w (record { conv = o.id; act = act })) (sym f.none_owed) tt,
        follows,
        time_in_order core.finished o.id d.at looks frees,
        subst (λ w. EndsLive last w act) (sym (known core.convos o s)) tt,
      );
      answers = tt;
      window = f.room;
    }

    orderly : IsOrderly terms last number clock job (core_after terms core (record { conv = o.id; act = act }))
    orderly = orderly_known terms last number clock job job core o act refl s f.orderly (omega arith) (max_below core.timed d.at clock f.orderly.timed due.by_now) f.orderly.turn
        (closes_put terms last job core o act refl s f.orderly.closes) tt

idle_in_order : (finished : Option ℕ) (id at : ℕ) (looks : List LookEntry) (frees : List Free) → FinishesInOrder finished id (End at Idle looks frees)
idle_in_order None id at looks frees = tt
idle_in_order (Some n) id at looks frees = tt

-- an End of `idle`
pub idle_due : (terms : Terms) (last number clock : ℕ) (handler : Handler) (job : Job) (core : Core) (d : Due) (looks : List LookEntry) (frees : List Free)
    → Facts terms last number clock job core → IsDueBy terms core clock d → d.idle ≡ true → FollowsReplaced core core.last (End d.at Idle looks frees)
    → MayBegin terms last handler core (record { conv = d.conv; act = End d.at Idle looks frees })
    × IsOrderly terms last number clock job (core_after terms core (record { conv = d.conv; act = End d.at Idle looks frees }))
idle_due terms last number clock handler job core d looks frees f due kind follows =
    subst (λ id. MayBegin terms last handler core (record { conv = id; act = act }) × IsOrderly terms last number clock job (core_after terms core (record { conv = id; act = act }))) (sym of_it) (begins, orderly)
  where
    act : Act
    act = End d.at Idle looks frees

    of : IsDueOf terms core.convos d
    of = due_of terms core d f.orderly.rises due.first

    o : Open
    o = of.one

    s : StandsAt core.convos o
    s = of.stands

    of_it : d.conv ≡ o.id
    of_it = of.conv

    begins : MayBegin terms last handler core (record { conv = o.id; act = act })
    begins = record {
      conversations = tt;
      dues = due.first ∙ (λ i. Some (record { at = d.at; conv = of_it i; idle = kind i }));
      ends = (
        subst (λ w. PaysOwed w (record { conv = o.id; act = act })) (sym f.none_owed) tt,
        follows,
        idle_in_order core.finished o.id d.at looks frees,
        subst (λ w. EndsLive last w act) (sym (known core.convos o s)) of.live,
      );
      answers = tt;
      window = f.room;
    }

    orderly : IsOrderly terms last number clock job (core_after terms core (record { conv = o.id; act = act }))
    orderly = orderly_known terms last number clock job job core o act refl s f.orderly (omega arith) (max_below core.timed d.at clock f.orderly.timed due.by_now) f.orderly.turn
        (closes_put terms last job core o act refl s f.orderly.closes) tt

-- The End of a conversation that a packet replaces.

-- an End leaves the bases as they are
base_stays : (terms : Terms) (c : Convo) (at : ℕ) (reason : Reason) (looks : List LookEntry) (frees : List Free) (way : Way)
    → (of_way way (after terms c (End at reason looks frees)).directions).base ≡ (of_way way c.directions).base
base_stays terms c at reason looks frees Fore = refl
base_stays terms c at reason looks frees Back = refl

pub other_base_stays : (terms : Terms) (c : Convo) (p : Packet) (at : ℕ) (reason : Reason) (looks : List LookEntry) (frees : List Free)
    → has_other_base (after terms c (End at reason looks frees)) p ≡ has_other_base c p
other_base_stays terms c p at reason looks frees = λ i. has_syn p && other_base ((p.seq + 1) % 2 ^ 32) (base_stays terms c at reason looks frees (way_of c p) i)

none_ends : (id : ℕ) (b : Bool) → owed_by id (cond b None None) ≡ None
none_ends id true = refl
none_ends id false = refl

pub end_of_replaced : (terms : Terms) (last number clock : ℕ) (handler : Handler) (core : Core) (p : Packet) (o : Open) (looks : List LookEntry) (frees : List Free)
    → Facts terms last number clock (Takes p) core → latest_of p.key core.convos ≡ Some o → is_live o.convo ≡ true → due_by terms core p.now ≡ None → has_other_base o.convo p ≡ true
    → MayBegin terms last handler core (record { conv = o.id; act = End p.now Replaced looks frees })
    × IsOrderly terms last number clock (Takes p) (core_after terms core (record { conv = o.id; act = End p.now Replaced looks frees }))
end_of_replaced terms last number clock handler core p o looks frees f e live due base = (begins, orderly)
  where
    at : IsLatest 0 p.key core.convos o
    at = latest_at 0 p.key core.convos o f.orderly.rises e

    act : Act
    act = End p.now Replaced looks frees

    line : Line
    line = record { conv = o.id; act = act }

    replaced_in_order : (finished : Option ℕ) → FinishesInOrder finished o.id act
    replaced_in_order None = tt
    replaced_in_order (Some n) = tt

    begins : MayBegin terms last handler core line
    begins = record {
      conversations = tt;
      dues = nothing_due terms core p.now due;
      ends = (
        subst (λ w. PaysOwed w line) (sym f.none_owed) tt,
        follows_live terms core p o act core.last f.orderly.followed e live,
        replaced_in_order core.finished,
        subst (λ w. EndsLive last w act) (sym (known core.convos o at.stands)) live,
      );
      answers = tt;
      window = f.room;
    }

    orderly : IsOrderly terms last number clock (Takes p) (core_after terms core line)
    orderly = orderly_known terms last number clock (Takes p) (Takes p) core o act refl at.stands f.orderly (omega arith) f.orderly.timed f.orderly.turn f.orderly.closes (
      after terms o.convo act,
      latest_is p.key at.stands.before (record { id = o.id; convo = after terms o.convo act }) at.stands.behind at.last at.keyed,
      refl,
      other_base_stays terms o.convo p p.now Replaced looks frees ∙ base,
      refl,
      none_ends o.id (is_live o.convo),
      none_due_anew terms p.now at.stands.before o (record { id = o.id; convo = after terms o.convo act }) at.stands.behind
          (λ h. ap (list_all (λ d. nat_lt p.now d.at)) (dead_dues terms (record { id = o.id; convo = after terms o.convo act }) refl))
          (ap (λ l. list_all (λ d. nat_lt p.now d.at) (flat_map (dues_of terms) l)) (sym at.stands.is) ∙ nothing_due terms core p.now due),
    )

-- The End of a conversation at the end of the capture.
finish_in_order : (finished : Option ℕ) (o : Open) (at : ℕ) (looks : List LookEntry) (frees : List Free) → IsBehind finished o → is_live o.convo ≡ true → FinishesInOrder finished o.id (End at Finish looks frees)
finish_in_order None o at looks frees h l = tt
finish_in_order (Some n) o at looks frees h l = h l

all_behind : (id : ℕ) (terms : Terms) (xs : List Open) (o : Open) (act : Act) (ys : List Open) → NoneLives xs → is_live (after terms o.convo act) ≡ false → Each (λ q. id < q.id) ys
    → Each (IsBehind (Some id)) (xs ++ record { id = o.id; convo = after terms o.convo act } ∷ ys)
all_behind id terms [] o act ys n d h = ((λ l. absurd (unequal (is_live (after terms o.convo act)) l d)), each_weaker (λ q. id < q.id) (IsBehind (Some id)) ys (λ q k. λ l. k) h)
all_behind id terms (x ∷ xs) o act ys n d h = ((λ l. absurd (unequal (is_live x.convo) l n.0)), all_behind id terms xs o act ys n.1 d h)

pub end_of_capture : (terms : Terms) (last number clock at : ℕ) (handler : Handler) (core : Core) (o : Open) (looks : List LookEntry) (frees : List Free)
    → Facts terms last number clock (Closes at) core → first_live core.convos ≡ Some o → due_by terms core at ≡ None
    → MayBegin terms last handler core (record { conv = o.id; act = End at Finish looks frees })
    × IsOrderly terms last number clock (Closes at) (core_after terms core (record { conv = o.id; act = End at Finish looks frees }))
end_of_capture terms last number clock at handler core o looks frees f e due = (begins, orderly)
  where
    first : IsFirstLive 0 core.convos o
    first = first_live_at 0 core.convos o f.orderly.rises e

    act : Act
    act = End at Finish looks frees

    line : Line
    line = record { conv = o.id; act = act }

    begins : MayBegin terms last handler core line
    begins = record {
      conversations = tt;
      dues = nothing_due terms core at due;
      ends = (
        subst (λ w. PaysOwed w line) (sym f.none_owed) tt,
        follows_other terms core (Closes at) act core.last (λ conv when r. r) f.orderly.followed,
        finish_in_order core.finished o at looks frees
            (each_at (IsBehind core.finished) first.stands.before o first.stands.behind (subst (Each (IsBehind core.finished)) first.stands.is f.orderly.closes.1)) first.live,
        subst (λ w. EndsLive last w act) (sym (known core.convos o first.stands)) (first.live, f.orderly.closes.0),
      );
      answers = tt;
      window = f.room;
    }

    orderly : IsOrderly terms last number clock (Closes at) (core_after terms core line)
    orderly = orderly_known terms last number clock (Closes at) (Closes at) core o act refl first.stands f.orderly (omega arith) f.orderly.timed f.orderly.turn (
      f.orderly.closes.0,
      all_behind o.id terms first.stands.before o act first.stands.behind first.ended refl
          (rises_each o.id first.stands.behind (rises_behind 0 first.stands.before o first.stands.behind (subst (Rises 0) first.stands.is f.orderly.rises)).1),
    ) tt

-- An End that is owed.
not_replacing : (terms : Terms) (core : Core) (job : Job) (owed : Owed) → core.owed ≡ Some owed → (conv at : ℕ) → IsReplacing terms core conv at job → ⊥
not_replacing terms core Nothing owed e conv at r = r
not_replacing terms core (Closes when) owed e conv at r = r
not_replacing terms core (Takes p) owed e conv at r = absurd cc

end_in_time : (terms : Terms) (core : Core) (conv at : ℕ) (reason : Reason) (looks : List LookEntry) (frees : List Free) → IsAtOnce reason → IsInTime terms core (record { conv = conv; act = End at reason looks frees })
end_in_time terms core conv at Reset looks frees h = tt
end_in_time terms core conv at Closed looks frees h = tt
end_in_time terms core conv at Idle looks frees h = absurd h
end_in_time terms core conv at Replaced looks frees h = absurd h
end_in_time terms core conv at Finish looks frees h = absurd h

end_in_order : (finished : Option ℕ) (id at : ℕ) (reason : Reason) (looks : List LookEntry) (frees : List Free) → IsAtOnce reason → FinishesInOrder finished id (End at reason looks frees)
end_in_order None id at reason looks frees h = tt
end_in_order (Some n) id at Reset looks frees h = tt
end_in_order (Some n) id at Closed looks frees h = tt
end_in_order (Some n) id at Idle looks frees h = absurd h
end_in_order (Some n) id at Replaced looks frees h = absurd h
end_in_order (Some n) id at Finish looks frees h = absurd h

ends_live : (last : ℕ) (c : Convo) (at : ℕ) (reason : Reason) (looks : List LookEntry) (frees : List Free) → IsAtOnce reason → is_live c ≡ true → EndsLive last (Some c) (End at reason looks frees)
ends_live last c at Reset looks frees h l = l
ends_live last c at Closed looks frees h l = l
ends_live last c at Idle looks frees h l = absurd h
ends_live last c at Replaced looks frees h l = absurd h
ends_live last c at Finish looks frees h l = absurd h

untimed : (timed at : ℕ) (reason : Reason) (looks : List LookEntry) (frees : List Free) → IsAtOnce reason → timed_by timed (End at reason looks frees) ≡ timed
untimed timed at Reset looks frees h = refl
untimed timed at Closed looks frees h = refl
untimed timed at Idle looks frees h = absurd h
untimed timed at Replaced looks frees h = absurd h
untimed timed at Finish looks frees h = absurd h

unfinished : (finished : Option ℕ) (conv at : ℕ) (reason : Reason) (looks : List LookEntry) (frees : List Free) → IsAtOnce reason
    → finished_by finished (record { conv = conv; act = End at reason looks frees }) ≡ finished
unfinished finished conv at Reset looks frees h = refl
unfinished finished conv at Closed looks frees h = refl
unfinished finished conv at Idle looks frees h = absurd h
unfinished finished conv at Replaced looks frees h = absurd h
unfinished finished conv at Finish looks frees h = absurd h

followed_by_end : (terms : Terms) (core : Core) (job : Job) (conv at : ℕ) (reason : Reason) (looks : List LookEntry) (frees : List Free) → IsAtOnce reason
    → IsFollowed terms core job (Some (record { conv = conv; act = End at reason looks frees }))
followed_by_end terms core job conv at Reset looks frees h = tt
followed_by_end terms core job conv at Closed looks frees h = tt
followed_by_end terms core job conv at Idle looks frees h = absurd h
followed_by_end terms core job conv at Replaced looks frees h = absurd h
followed_by_end terms core job conv at Finish looks frees h = absurd h

pub end_owed : (terms : Terms) (last number clock : ℕ) (handler : Handler) (job : Job) (core : Core) (owed : Owed) (looks : List LookEntry) (frees : List Free)
    → IsOrderly terms last number clock job core → core.owed ≡ Some owed → length core.events < core.answered + 256
    → MayBegin terms last handler core (record { conv = owed.conv; act = End owed.at owed.reason looks frees })
    × IsOrderly terms last number clock job (core_after terms core (record { conv = owed.conv; act = End owed.at owed.reason looks frees }))
end_owed terms last number clock handler job core owed looks frees ord e room = (begins, orderly)
  where
    is : ((c : Convo) × (find_convo owed.conv core.convos ≡ Some c) × (is_live c ≡ true)) × IsAtOnce owed.reason
    is = subst (IsOwed core.convos) e ord.owed

    o : Open
    o = record { id = owed.conv; convo = is.0.0 }

    s : StandsAt core.convos o
    s = found_at 0 owed.conv is.0.0 core.convos ord.rises is.0.1

    act : Act
    act = End owed.at owed.reason looks frees

    line : Line
    line = record { conv = owed.conv; act = act }

    begins : MayBegin terms last handler core line
    begins = record {
      conversations = tt;
      dues = end_in_time terms core owed.conv owed.at owed.reason looks frees is.1;
      ends = (
        subst (λ w. PaysOwed w line) (sym e) (refl, refl, refl),
        follows_other terms core job act core.last (not_replacing terms core job owed e) ord.followed,
        end_in_order core.finished owed.conv owed.at owed.reason looks frees is.1,
        subst (λ w. EndsLive last w act) (sym is.0.1) (ends_live last is.0.0 owed.at owed.reason looks frees is.1 is.0.2),
      );
      answers = tt;
      window = room;
    }

    orderly : IsOrderly terms last number clock job (core_after terms core line)
    orderly = orderly_known terms last number clock job job core o act refl s ord (omega arith) (omega (arith, untimed core.timed owed.at owed.reason looks frees is.1, ord.timed)) ord.turn
        (subst (λ w. IsClosing last job w (s.before ++ record { id = o.id; convo = after terms o.convo act } ∷ s.behind)) (sym (unfinished core.finished owed.conv owed.at owed.reason looks frees is.1))
        (closes_put terms last job core o act refl s ord.closes))
        (followed_by_end terms (behind_of terms core line o.convo (s.before ++ record { id = o.id; convo = after terms o.convo act } ∷ s.behind)) job owed.conv owed.at owed.reason looks frees is.1)
