-- A core's course stays lawful.
use Rattle.std.specs.Prelude.{◌≡◌, refl, ⊤, ℕ, suc, ◌≤◌, ◌<◌, Bool, true, false, cond, not, ◌&&◌, nat_le, List, [], ◌∷◌, ◌++◌, length, take, map, Option, None, Some}
use Rattle.std.specs.List.{list_all}
use Rattle.std.specs.Option.{option_to_list}
use Rattle.std.proofs.Common.{sym, ◌∙◌, ap, arith, subst, append-nil}
use Rattle.std.proofs.lemmas.Bool.Decides.{nat_tests}
use Rattle.std.proofs.lemmas.List.{map-append}
use Rattle.std.proofs.lemmas.List.Concat.{flat_map-append}
use mathlib.Core.List.{append_assoc}
use Rattle.std.proofs.Math.Seq.{take-append_seam}
use Rattle.evring.specs.declared.advice.Advice.{Advice}
use Rattle.evring.specs.declared.reason.Reason.TheVariants.{Reset, Closed, Idle, Finish, Replaced}
use Rattle.histbook.specs.declared.look_entry.LookEntry.{LookEntry}
use Rattle.prio_budget.specs.declared.free.Free.{Free}
use Rattle.streamdefs.specs.Lists.{Each, IsPrefixOf}
use Rattle.streamdefs.specs.Packet.{Packet, no_packet}
use Rattle.streamdefs.specs.Terms.{Terms}
use Rattle.streamdefs.specs.Reorder.{Charge}
use Rattle.streamdefs.specs.View.{Ask}
use Rattle.streamdefs.specs.Convo.{Act, Convo, Event, new_convo, is_live, looks_in, frees_in, has_other_base, given_back}
use Rattle.streamdefs.specs.Convo.Act.{Seg, Answer, Time, End}
use Rattle.streamdefs.specs.Want.{Want, with_look, with_free}
use Rattle.streamdefs.specs.Want.Want.{Reserve, Release, Emit, Rest}
use Rattle.streamdefs.specs.Core.{Line, Core, Open, Due, Owed, Told, idle_core, core_after, core_at, found_by, find_convo, latest_of, Along}
use Rattle.streamdefs.specs.Lawful.{Handler, IsLookFor, StandsUnder, IsInTime, EndsOnce, IsNextAnswer, HasRoom, HasLooks, HasFrees, LawfulBook, segs_in}
use Rattle.streamdefs.specs.SoFar.{LawfulSoFar, HasFirstLooks, HasFirstFrees}
use Rattle.streamdefs.proofs.Pushes.{core_at_push, Along_push}
use Rattle.streamdefs.proofs.Histories.{found_is}
use Rattle.coretable.specs.Course.{Course, Job, Under, Choice, Step, no_course, loaded, closing, looked, freed, emitted, begun, completed, step, under_step, choice_step, choice, job_choice, closing_choice, due_first, core_of, want_of, answer_line, dressed, dressed_line, job_behind, has_room, is_answered, due_line, due_by, packet_line, first_live}
use Rattle.coretable.specs.Course.Job.{Nothing, Takes, Closes}
use Rattle.coretable.specs.Course.Choice.{Begins, Waits, Closed as Done}
use Rattle.coretable.specs.Course.Step.{Goes, Stops}
use Rattle.coretable.specs.Course.Stop.{Fills, Finishes}
use Rattle.coretable.specs.Lawfully.{MayBegin, IsLawfulEntry, IsUnderWay, StandsStill, under_lines, waiting_segs, IsSound, IsStated, run_at, line_at}
use Rattle.coretable.specs.Orderly.{IsBehind, IsFollowed, IsOrderly}
use Rattle.coretable.specs.Wanted.{IsWantedSoFar, IsWanted}
use Rattle.coretable.proofs.Places.{none_live, NoneLives}
use Rattle.coretable.proofs.Entered.{each_weaker}
use Rattle.coretable.proofs.Chosen.{chosen_fits}
use Rattle.coretable.proofs.Answers.{answer_fits, next_of, IsNextOf}
use Rattle.coretable.proofs.Wants.{wanted_look, wanted_free, wanted_all, wanted_none}

-- An entry with looks and frees.
dressed_look : (ls : List LookEntry) (fs : List Free) (look : LookEntry) (act : Act) → dressed ls fs (with_look look act) ≡ dressed ls fs act
dressed_look ls fs look (Seg p now l f) = refl
dressed_look ls fs look (Answer e a f) = refl
dressed_look ls fs look (Time at l f) = refl
dressed_look ls fs look (End at r l f) = refl

dressed_free : (ls : List LookEntry) (fs : List Free) (free : Free) (act : Act) → dressed ls fs (with_free free act) ≡ dressed ls fs act
dressed_free ls fs free (Seg p now l f) = refl
dressed_free ls fs free (Answer e a f) = refl
dressed_free ls fs free (Time at l f) = refl
dressed_free ls fs free (End at r l f) = refl

dressed_own : (act : Act) → dressed (looks_in act) (frees_in act) act ≡ act
dressed_own (Seg p now l f) = refl
dressed_own (Answer e a f) = refl
dressed_own (Time at l f) = refl
dressed_own (End at r l f) = refl

bare_looks : (act : Act) → looks_in (dressed [] [] act) ≡ []
bare_looks (Seg p now l f) = refl
bare_looks (Answer e a f) = refl
bare_looks (Time at l f) = refl
bare_looks (End at r l f) = refl

bare_frees : (act : Act) → frees_in (dressed [] [] act) ≡ []
bare_frees (Seg p now l f) = refl
bare_frees (Answer e a f) = refl
bare_frees (Time at l f) = refl
bare_frees (End at r l f) = refl

segs_look : (look : LookEntry) (conv : ℕ) (act : Act) → segs_in (record { conv = conv; act = with_look look act } ∷ []) ≡ segs_in (record { conv = conv; act = act } ∷ [])
segs_look look conv (Seg p now l f) = refl
segs_look look conv (Answer e a f) = refl
segs_look look conv (Time at l f) = refl
segs_look look conv (End at r l f) = refl

segs_free : (free : Free) (conv : ℕ) (act : Act) → segs_in (record { conv = conv; act = with_free free act } ∷ []) ≡ segs_in (record { conv = conv; act = act } ∷ [])
segs_free free conv (Seg p now l f) = refl
segs_free free conv (Answer e a f) = refl
segs_free free conv (Time at l f) = refl
segs_free free conv (End at r l f) = refl

segs_append : (xs ys : List Line) → segs_in (xs ++ ys) ≡ segs_in xs ++ segs_in ys
segs_append xs ys = flat_map-append _ xs ys

-- A chosen entry has no looks or frees yet, and is the packet's that waits, or no packet's.
pub record IsBare (job : Job) (line : Line) : Type 0 where
  pub bare : dressed_line [] [] line ≡ line
  pub segs : segs_in (line ∷ []) ++ waiting_segs (job_behind line.act job) ≡ waiting_segs job

bare_either : (R : Line → Type 0) (b : Bool) (x y : Line) → R x → R y → R (cond b x y)
bare_either R true x y f g = f
bare_either R false x y f g = g

bare_due : (job : Job) (d : Due) (b : Bool) → IsBare job (record { conv = d.conv; act = cond b (End d.at Idle [] []) (Time d.at [] []) })
bare_due job d true = record { bare = refl; segs = refl }
bare_due job d false = record { bare = refl; segs = refl }

bare_packet : (terms : Terms) (p : Packet) (latest : Option Open) → IsBare (Takes p) (packet_line terms p latest)
bare_packet terms p None = record { bare = refl; segs = refl }
bare_packet terms p (Some o) =
    bare_either (IsBare (Takes p)) (is_live o.convo) _ _
    (bare_either (IsBare (Takes p)) (has_other_base o.convo p) _ _ (record { bare = refl; segs = refl }) (record { bare = refl; segs = refl }))
    (record { bare = refl; segs = refl })

bare_closing : (at : ℕ) (first : Option Open) (line : Line) → closing_choice at first ≡ Begins line → IsBare (Closes at) line
bare_closing at None line h = absurd cc
bare_closing at (Some o) line h = let same : record { conv = o.id; act = End at Finish [] [] } ≡ line = cc in subst (IsBare (Closes at)) same (record { bare = refl; segs = refl })

-- where what is due comes first
bare_first : (job : Job) (due : Option Due) (next : Choice) (line : Line) → due_first due next ≡ Begins line → (next ≡ Begins line → IsBare job line) → IsBare job line
bare_first job None next line h rest = rest h
bare_first job (Some d) next line h rest = let same : due_line d ≡ line = cc in subst (IsBare job) same (bare_due job d d.idle)

bare_begun : (terms : Terms) (p : Packet) (latest : Option Open) (line : Line) → Begins (packet_line terms p latest) ≡ Begins line → IsBare (Takes p) line
bare_begun terms p latest line h = let same : packet_line terms p latest ≡ line = cc in subst (IsBare (Takes p)) same (bare_packet terms p latest)

bare_job : (terms : Terms) (core : Core) (job : Job) (line : Line) → job_choice terms core job ≡ Begins line → IsBare job line
bare_job terms core Nothing line h = absurd cc
bare_job terms core (Takes p) line h = bare_first (Takes p) (due_by terms core p.now) _ line h (bare_begun terms p (latest_of p.key core.convos) line)
bare_job terms core (Closes at) line h = bare_first (Closes at) (due_by terms core at) _ line h (bare_closing at (first_live core.convos) line)

abbrev pub by_owed : Terms → Core → Job → Option Owed → Choice
by_owed terms core job (Some owed) = Begins (record { conv = owed.conv; act = End owed.at owed.reason [] [] })
by_owed terms core job None = job_choice terms core job

bare_owed : (terms : Terms) (core : Core) (job : Job) (line : Line) (owed : Option Owed) → by_owed terms core job owed ≡ Begins line → IsBare job line
bare_owed terms core job line None h = bare_job terms core job line h
bare_owed terms core job line (Some owed) h =
    let same : record { conv = owed.conv; act = End owed.at owed.reason [] [] } ≡ line = cc in subst (IsBare job) same (record { bare = refl; segs = refl })

pub chosen_bare : (terms : Terms) (core : Core) (job : Job) (line : Line) → choice terms core job ≡ Begins line → IsBare job line
chosen_bare terms core job line h = bare_owed terms core job line core.owed h

-- Before any input.
pub begins_soundly : (terms : Terms) (last : ℕ) (handler : Handler) → IsSound terms last handler no_course
begins_soundly terms last handler = record {
  laws = tt;
  segs = refl;
  stands = record { rises = tt; below = tt; timed = omega arith; turn = tt; owed = tt; closes = refl; followed = tt; answered = omega arith; unanswered = λ id. refl };
}

-- What is known where no entry is under way, and where one is.
pub at_rest : (terms : Terms) (last : ℕ) (handler : Handler) (m : Course) → IsSound terms last handler m → m.under ≡ None → IsOrderly terms last m.number m.clock m.job (core_of terms m)
at_rest terms last handler m s e = subst (StandsStill terms last m.number m.clock handler m.job (core_of terms m)) e s.stands

pub under_way : (terms : Terms) (last : ℕ) (handler : Handler) (m : Course) (u : Under) → IsSound terms last handler m → m.under ≡ Some u
    → IsUnderWay terms last m.number m.clock handler m.job (core_of terms m) u.line
under_way terms last handler m u s e = subst (StandsStill terms last m.number m.clock handler m.job (core_of terms m)) e s.stands

segs_at_rest : (terms : Terms) (last : ℕ) (handler : Handler) (m : Course) → IsSound terms last handler m → m.under ≡ None → segs_in m.lines ++ waiting_segs m.job ≡ map (λ p. (p, p.now)) m.packets
segs_at_rest terms last handler m s e =
    ap (λ l. segs_in l ++ waiting_segs m.job) (sym (append-nil m.lines) ∙ ap (λ u. m.lines ++ under_lines u) (sym e)) ∙ s.segs

segs_under_way : (terms : Terms) (last : ℕ) (handler : Handler) (m : Course) (u : Under) → IsSound terms last handler m → m.under ≡ Some u
    → segs_in (m.lines ++ u.line ∷ []) ++ waiting_segs m.job ≡ map (λ p. (p, p.now)) m.packets
segs_under_way terms last handler m u s e = ap (λ v. segs_in (m.lines ++ under_lines v) ++ waiting_segs m.job) (sym e) ∙ s.segs

-- An input is loaded.
followed_by : (terms : Terms) (core : Core) (job : Job) (last : Option Line) → IsFollowed terms core Nothing last → IsFollowed terms core job last
followed_by terms core job None h = tt
followed_by terms core job (Some line) h = by line.act h
  where
    by : (a : Act) → IsFollowed terms core Nothing (Some (record line { act = a })) → IsFollowed terms core job (Some (record line { act = a }))
    by (Seg q now l fr) h = tt
    by (Answer e ad fr) h = tt
    by (Time at l fr) h = tt
    by (End at Reset l fr) h = tt
    by (End at Closed l fr) h = tt
    by (End at Idle l fr) h = tt
    by (End at Finish l fr) h = tt
    by (End at Replaced l fr) h = absurd h

pub load_is_sound : (terms : Terms) (last : ℕ) (handler : Handler) (m : Course) (p : Packet) → IsSound terms last handler m → m.under ≡ None → m.job ≡ Nothing → m.number < p.number → m.clock ≤ p.now
    → IsSound terms last handler (loaded m p)
load_is_sound terms last handler m p s e j n c = record {
  laws = s.laws;
  segs = ap (λ l. segs_in l ++ (p, p.now) ∷ []) (ap (λ u. m.lines ++ under_lines u) e ∙ append-nil m.lines)
      ∙ ap (λ l. l ++ (p, p.now) ∷ []) (sym (append-nil (segs_in m.lines)) ∙ ap (λ k. segs_in m.lines ++ waiting_segs k) (sym j) ∙ segs_at_rest terms last handler m s e)
      ∙ sym (map-append (λ (q : Packet). (q, q.now)) m.packets (p ∷ []));
  stands = subst (StandsStill terms last p.number p.now handler (Takes p) (core_of terms m)) (sym e) (record {
    rises = o.rises;
    below = each_weaker (λ q. q.id < suc m.number) (λ q. q.id < p.number) (core_of terms m).convos (λ q h. omega (arith, h, n)) o.below;
    timed = omega (arith, o.timed, c);
    turn = (refl, refl);
    owed = o.owed;
    closes = o.closes;
    followed = followed_by terms (core_of terms m) (Takes p) (core_of terms m).last o.followed;
    answered = o.answered;
    unanswered = o.unanswered;
  });
}
  where
    o : IsOrderly terms last m.number m.clock Nothing (core_of terms m)
    o = subst (λ k. IsOrderly terms last m.number m.clock k (core_of terms m)) j (at_rest terms last handler m s e)

none_behind : (os : List Open) → Each (IsBehind None) os
none_behind [] = tt
none_behind (o ∷ os) = (tt, none_behind os)

pub closing_is_sound : (terms : Terms) (last : ℕ) (handler : Handler) (m : Course) (at : ℕ) → IsSound terms last handler m → m.under ≡ None → m.job ≡ Nothing → at ≡ last → m.clock ≤ at
    → IsSound terms last handler (closing m at)
closing_is_sound terms last handler m at s e j l c = record {
  laws = s.laws;
  segs = ap (λ k. segs_in (m.lines ++ under_lines m.under) ++ waiting_segs k) (sym j) ∙ s.segs;
  stands = subst (StandsStill terms last m.number at handler (Closes at) (core_of terms m)) (sym e) (record {
    rises = o.rises;
    below = o.below;
    timed = omega (arith, o.timed, c);
    turn = refl;
    owed = o.owed;
    closes = (l, subst (λ f. Each (IsBehind f) (core_of terms m).convos) (sym o.closes) (none_behind (core_of terms m).convos));
    followed = followed_by terms (core_of terms m) (Closes at) (core_of terms m).last o.followed;
    answered = o.answered;
    unanswered = o.unanswered;
  });
}
  where
    o : IsOrderly terms last m.number m.clock Nothing (core_of terms m)
    o = subst (λ k. IsOrderly terms last m.number m.clock k (core_of terms m)) j (at_rest terms last handler m s e)

-- An entry begins, whatever it is.
begun_is_sound : (terms : Terms) (last : ℕ) (handler : Handler) (m : Course) (line : Line) (job : Job) → IsSound terms last handler m → m.under ≡ None
    → IsUnderWay terms last m.number m.clock handler job (core_of terms m) line → segs_in (line ∷ []) ++ waiting_segs job ≡ waiting_segs m.job
    → IsSound terms last handler (record m { under = Some (record { line = line; emitted = 0 }); job = job })
begun_is_sound terms last handler m line job s e w segs = record {
  laws = s.laws;
  segs = ap (λ l. l ++ waiting_segs job) (segs_append m.lines (line ∷ [])) ∙ append_assoc (segs_in m.lines) (segs_in (line ∷ [])) (waiting_segs job) ∙ ap (λ l. segs_in m.lines ++ l) segs
      ∙ segs_at_rest terms last handler m s e;
  stands = w;
}

-- A silent step.
room_choice : (terms : Terms) (last : ℕ) (handler : Handler) (m next : Course) (line : Line) (b : Bool) → IsSound terms last handler m → m.under ≡ None → choice terms (core_of terms m) m.job ≡ Begins line
    → has_room (core_of terms m) ≡ b → cond b (Goes (begun m line)) (Stops Fills) ≡ Goes next → IsSound terms last handler next
room_choice terms last handler m next line true s e h r g =
    let same : begun m line ≡ next = cc in
    let bare = chosen_bare terms (core_of terms m) m.job line h in
    let fits = chosen_fits terms last m.number m.clock handler m.job (core_of terms m) line (at_rest terms last handler m s e) r h in
    subst (IsSound terms last handler) same
    (begun_is_sound terms last handler m line (job_behind line.act m.job) s e
    (record {
      fits = fits;
      wanted = wanted_none terms (found_by (core_of terms m) line) line.act (sym (ap (λ (l : Line). looks_in l.act) bare.bare) ∙ bare_looks line.act) (sym (ap (λ (l : Line). frees_in l.act) bare.bare) ∙ bare_frees line.act);
      answered = (at_rest terms last handler m s e).answered;
    }) bare.segs)
room_choice terms last handler m next line false s e h r g = absurd cc

answered_choice : (m next : Course) (b : Bool) → cond b (Stops Finishes) (Stops Fills) ≡ Goes next → ⊥
answered_choice m next true g = cc
answered_choice m next false g = cc

choice_is_sound : (terms : Terms) (last : ℕ) (handler : Handler) (m next : Course) (x : Choice) → IsSound terms last handler m → m.under ≡ None → choice terms (core_of terms m) m.job ≡ x
    → choice_step (core_of terms m) m x ≡ Goes next → IsSound terms last handler next
choice_is_sound terms last handler m next (Begins line) s e h g = room_choice terms last handler m next line (has_room (core_of terms m)) s e h refl g
choice_is_sound terms last handler m next Waits s e h g = absurd cc
choice_is_sound terms last handler m next Done s e h g = absurd (answered_choice m next (is_answered (core_of terms m)) g)

-- the laws of a complete entry
lawful_entry : (terms : Terms) (last : ℕ) (handler : Handler) (core : Core) (line : Line) → MayBegin terms last handler core line → IsWanted terms (found_by core line) line.act → IsLawfulEntry terms last handler core line
lawful_entry terms last handler core line b w = record { begins = b; looks = w.looks; frees = w.frees }

completed_is_sound : (terms : Terms) (last : ℕ) (handler : Handler) (m : Course) (u : Under) → IsSound terms last handler m → m.under ≡ Some u → want_of terms m u ≡ Rest → IsSound terms last handler (completed m u)
completed_is_sound terms last handler m u s e h = record {
  laws = Along_push terms (IsLawfulEntry terms last handler) idle_core m.lines u.line s.laws
      (lawful_entry terms last handler (core_of terms m) u.line now.0 (wanted_all terms (found_by (core_of terms m) u.line) u.line.act u.emitted h w.wanted));
  segs = ap (λ l. segs_in l ++ waiting_segs m.job) (append-nil (m.lines ++ u.line ∷ [])) ∙ segs_under_way terms last handler m u s e;
  stands = subst (IsOrderly terms last m.number m.clock m.job) (sym (core_at_push terms idle_core m.lines u.line)) now.1;
}
  where
    w : IsUnderWay terms last m.number m.clock handler m.job (core_of terms m) u.line
    w = under_way terms last handler m u s e

    as_is : dressed_line (looks_in u.line.act) (frees_in u.line.act) u.line ≡ u.line
    as_is = λ i. record { conv = u.line.conv; act = dressed_own u.line.act i }

    now : MayBegin terms last handler (core_of terms m) u.line × IsOrderly terms last m.number m.clock m.job (core_after terms (core_of terms m) u.line)
    now = subst (λ l. MayBegin terms last handler (core_of terms m) l × IsOrderly terms last m.number m.clock m.job (core_after terms (core_of terms m) l)) as_is (w.fits (looks_in u.line.act) (frees_in u.line.act))

under_is_sound : (terms : Terms) (last : ℕ) (handler : Handler) (m next : Course) (u : Under) (w : Want) → IsSound terms last handler m → m.under ≡ Some u → want_of terms m u ≡ w
    → under_step m u w ≡ Goes next → IsSound terms last handler next
under_is_sound terms last handler m next u (Reserve ask mark) s e h g = absurd cc
under_is_sound terms last handler m next u (Release charge) s e h g = absurd cc
under_is_sound terms last handler m next u (Emit event) s e h g = absurd cc
under_is_sound terms last handler m next u Rest s e h g = let same : completed m u ≡ next = cc in subst (IsSound terms last handler) same (completed_is_sound terms last handler m u s e h)

abbrev pub step_by : Terms → Course → Option Under → Step
step_by terms m (Some u) = under_step m u (want_of terms m u)
step_by terms m None = choice_step (core_of terms m) m (choice terms (core_of terms m) m.job)

step_by_is_sound : (terms : Terms) (last : ℕ) (handler : Handler) (m next : Course) (o : Option Under) → IsSound terms last handler m → m.under ≡ o → step_by terms m o ≡ Goes next → IsSound terms last handler next
step_by_is_sound terms last handler m next (Some u) s e g = under_is_sound terms last handler m next u (want_of terms m u) s e refl g
step_by_is_sound terms last handler m next None s e g = choice_is_sound terms last handler m next (choice terms (core_of terms m) m.job) s e refl g

pub step_is_sound : (terms : Terms) (last : ℕ) (handler : Handler) (m next : Course) → IsSound terms last handler m → step terms m ≡ Goes next → IsSound terms last handler next
step_is_sound terms last handler m next s g = step_by_is_sound terms last handler m next m.under s refl g

-- The conversation that an entry finds doesn't hang on its looks and frees.
abbrev known_by : Option Convo → Act → Convo
known_by (Some c) act = c
known_by None (Seg p now looks frees) = new_convo p
known_by None _ = new_convo no_packet

known_look : (look : LookEntry) (o : Option Convo) (act : Act) → known_by o act ≡ known_by o (with_look look act)
known_look look (Some c) act = refl
known_look look None (Seg p now ls fs) = refl
known_look look None (Answer ev ad fs) = refl
known_look look None (Time at ls fs) = refl
known_look look None (End at r ls fs) = refl

known_free : (free : Free) (o : Option Convo) (act : Act) → known_by o act ≡ known_by o (with_free free act)
known_free free (Some c) act = refl
known_free free None (Seg p now ls fs) = refl
known_free free None (Answer ev ad fs) = refl
known_free free None (Time at ls fs) = refl
known_free free None (End at r ls fs) = refl

pub found_look : (core : Core) (conv : ℕ) (look : LookEntry) (act : Act) → found_by core (record { conv = conv; act = act }) ≡ found_by core (record { conv = conv; act = with_look look act })
found_look core conv look act = known_look look (find_convo conv core.convos) act

pub found_free : (core : Core) (conv : ℕ) (free : Free) (act : Act) → found_by core (record { conv = conv; act = act }) ≡ found_by core (record { conv = conv; act = with_free free act })
found_free core conv free act = known_free free (find_convo conv core.convos) act

-- The next look, free, event.
pub look_is_sound : (terms : Terms) (last : ℕ) (handler : Handler) (m : Course) (u : Under) (ask : Ask) (mark : ℕ) (look : LookEntry) → IsSound terms last handler m → m.under ≡ Some u
    → want_of terms m u ≡ Reserve ask mark → IsLookFor terms (found_by (core_of terms m) u.line) look ask → IsSound terms last handler (looked m u look)
look_is_sound terms last handler m u ask mark look s e h fit = record {
  laws = s.laws;
  segs = ap (λ l. l ++ waiting_segs m.job) (segs_append m.lines (line ∷ []) ∙ ap (λ l. segs_in m.lines ++ l) (segs_look look u.line.conv u.line.act) ∙ sym (segs_append m.lines (u.line ∷ [])))
      ∙ segs_under_way terms last handler m u s e;
  stands = record {
    fits = λ looks frees. subst (λ l. MayBegin terms last handler (core_of terms m) l × IsOrderly terms last m.number m.clock m.job (core_after terms (core_of terms m) l))
        (sym (λ i. record { conv = u.line.conv; act = dressed_look looks frees look u.line.act i })) (w.fits looks frees);
    wanted = subst (λ c. IsWantedSoFar terms c line.act) (found_look (core_of terms m) u.line.conv look u.line.act) (wanted_look terms (found_by (core_of terms m) u.line) u.line.act u.emitted ask mark look h fit w.wanted);
    answered = w.answered;
  };
}
  where
    w : IsUnderWay terms last m.number m.clock handler m.job (core_of terms m) u.line
    w = under_way terms last handler m u s e

    line : Line
    line = record { conv = u.line.conv; act = with_look look u.line.act }

pub free_is_sound : (terms : Terms) (last : ℕ) (handler : Handler) (m : Course) (u : Under) (charge : Charge) (free : Free) → IsSound terms last handler m → m.under ≡ Some u
    → want_of terms m u ≡ Release charge → free.bytes ≡ charge.bytes → IsSound terms last handler (freed m u free)
free_is_sound terms last handler m u charge free s e h fit = record {
  laws = s.laws;
  segs = ap (λ l. l ++ waiting_segs m.job) (segs_append m.lines (line ∷ []) ∙ ap (λ l. segs_in m.lines ++ l) (segs_free free u.line.conv u.line.act) ∙ sym (segs_append m.lines (u.line ∷ [])))
      ∙ segs_under_way terms last handler m u s e;
  stands = record {
    fits = λ looks frees. subst (λ l. MayBegin terms last handler (core_of terms m) l × IsOrderly terms last m.number m.clock m.job (core_after terms (core_of terms m) l))
        (sym (λ i. record { conv = u.line.conv; act = dressed_free looks frees free u.line.act i })) (w.fits looks frees);
    wanted = subst (λ c. IsWantedSoFar terms c line.act) (found_free (core_of terms m) u.line.conv free u.line.act)
        (wanted_free terms (found_by (core_of terms m) u.line) u.line.act u.emitted charge free h fit w.wanted);
    answered = w.answered;
  };
}
  where
    w : IsUnderWay terms last m.number m.clock handler m.job (core_of terms m) u.line
    w = under_way terms last handler m u s e

    line : Line
    line = record { conv = u.line.conv; act = with_free free u.line.act }

pub emit_is_sound : (terms : Terms) (last : ℕ) (handler : Handler) (m : Course) (u : Under) → IsSound terms last handler m → m.under ≡ Some u → IsSound terms last handler (emitted m u)
emit_is_sound terms last handler m u s e = record {
  laws = s.laws;
  segs = segs_under_way terms last handler m u s e;
  stands = under_way terms last handler m u s e;
}

-- The answer to the next event.
pub answer_is_sound : (terms : Terms) (last : ℕ) (handler : Handler) (m : Course) (told : Told) (advice : Advice) (frees : List Free) → IsSound terms last handler m → m.under ≡ None
    → IsStated terms handler (core_of terms m) told advice frees → IsSound terms last handler (begun m (answer_line (core_of terms m) told.conv advice frees))
answer_is_sound terms last handler m told advice frees s e st =
    begun_is_sound terms last handler m line m.job s e (record { fits = λ ls fs. answer_fits terms last m.number m.clock handler m.job core told advice fs ord st.next st.stated; wanted = wanted; answered = ord.answered }) refl
  where
    core : Core
    core = core_of terms m

    ord : IsOrderly terms last m.number m.clock m.job core
    ord = at_rest terms last handler m s e

    here : (c : Convo) × IsNextOf core told c
    here = next_of terms last m.number m.clock m.job core told ord st.next

    line : Line
    line = answer_line core told.conv advice frees

    wanted : IsWantedSoFar terms (found_by core line) line.act
    wanted = subst (λ c. IsWantedSoFar terms c line.act) (sym (found_is core line here.0 here.1.found)) (record {
      looks = tt;
      frees = subst (λ (ev : Option Event). IsPrefixOf (map (λ free. free.bytes) frees) (map (λ charge. charge.bytes) (given_back here.0 advice ev))) (sym here.1.event) (st.freed here.0 here.1.found);
      order = tt;
    })

-- The book so far.
along_weaker : (terms : Terms) (P Q : Core → Line → Type 0) (core : Core) (lines : List Line) → ((core : Core) (line : Line) → P core line → Q core line) → Along terms P core lines → Along terms Q core lines
along_weaker terms P Q core [] f h = tt
along_weaker terms P Q core (line ∷ lines) f h = (f core line h.0, along_weaker terms P Q (core_after terms core line) lines f h.1)

is_front : {X : Type 0} (xs ys zs : List X) → xs ++ ys ≡ zs → IsPrefixOf xs zs
is_front xs ys zs e = sym (take-append_seam xs ys) ∙ ap (take (length xs)) e

abbrev line_of : Option Under → Option Line
line_of None = None
line_of (Some u) = Some u.line

lines_same : (o : Option Under) → under_lines o ≡ option_to_list (line_of o)
lines_same None = refl
lines_same (Some u) = refl

abbrev OfLast : (Core → Line → Type 0) → Core → Option Line → Type 0
OfLast First core None = ⊤
OfLast First core (Some line) = First core line

of_last : (terms : Terms) (last number clock : ℕ) (handler : Handler) (job : Job) (core : Core) (o : Option Under) (First : Core → Line → Type 0)
    → ((line : Line) → MayBegin terms last handler core line → IsWantedSoFar terms (found_by core line) line.act → First core line) → StandsStill terms last number clock handler job core o
    → OfLast First core (line_of o)
of_last terms last number clock handler job core None First f h = tt
of_last terms last number clock handler job core (Some u) First f h =
    let as_is : dressed_line (looks_in u.line.act) (frees_in u.line.act) u.line ≡ u.line = (λ i. record { conv = u.line.conv; act = dressed_own u.line.act i }) in
    f u.line (subst (MayBegin terms last handler core) as_is (h.fits (looks_in u.line.act) (frees_in u.line.act)).0) h.wanted

-- no Time is behind the clock
timed_by_under : (terms : Terms) (last : ℕ) (handler : Handler) (m : Course) (o : Option Under) → m.under ≡ o → IsSound terms last handler m
    → (core_at terms idle_core (m.lines ++ option_to_list (line_of o))).timed ≤ m.clock
timed_by_under terms last handler m None e s = subst (λ l. (core_at terms idle_core l).timed ≤ m.clock) (sym (append-nil m.lines)) (at_rest terms last handler m s e).timed
timed_by_under terms last handler m (Some u) e s =
    let as_is : dressed_line (looks_in u.line.act) (frees_in u.line.act) u.line ≡ u.line = (λ i. record { conv = u.line.conv; act = dressed_own u.line.act i }) in
    let w : IsUnderWay terms last m.number m.clock handler m.job (core_of terms m) u.line = under_way terms last handler m u s e in
    let behind : (core_after terms (core_of terms m) u.line).timed ≤ m.clock = subst (λ l. (core_after terms (core_of terms m) l).timed ≤ m.clock) as_is (w.fits (looks_in u.line.act) (frees_in u.line.act)).1.timed in
    subst (λ (c : Core). c.timed ≤ m.clock) (sym (core_at_push terms idle_core m.lines u.line)) behind

pub timed_so_far : (terms : Terms) (last : ℕ) (handler : Handler) (m : Course) → IsSound terms last handler m → (core_at terms idle_core (m.lines ++ option_to_list (line_at m))).timed ≤ m.clock
timed_so_far terms last handler m s = timed_by_under terms last handler m m.under refl s

pub lawful_so_far : (terms : Terms) (last : ℕ) (handler : Handler) (m : Course) → IsSound terms last handler m → LawfulSoFar (run_at terms last handler m) (line_at m)
lawful_so_far terms last handler m s = record {
  segs = is_front (segs_in (m.lines ++ option_to_list (line_of m.under))) (waiting_segs m.job) (map (λ p. (p, p.now)) m.packets)
      (ap (λ l. segs_in (m.lines ++ l) ++ waiting_segs m.job) (sym (lines_same m.under)) ∙ s.segs);
  conversations = (each (StandsUnder terms) (λ core line h. h.begins.conversations), now (StandsUnder terms) (λ line b w. b.conversations));
  dues = (each (IsInTime terms) (λ core line h. h.begins.dues), now (IsInTime terms) (λ line b w. b.dues));
  ends = (each (EndsOnce last) (λ core line h. h.begins.ends), now (EndsOnce last) (λ line b w. b.ends));
  answers = (each (IsNextAnswer handler) (λ core line h. h.begins.answers), now (IsNextAnswer handler) (λ line b w. b.answers));
  window = (each HasRoom (λ core line h. h.begins.window), now HasRoom (λ line b w. b.window));
  looks = (each (HasLooks terms) (λ core line h. h.looks), now (HasFirstLooks terms) (λ line b w. w.looks));
  frees = (each (HasFrees terms) (λ core line h. h.frees), now (HasFirstFrees terms) (λ line b w. w.frees));
}
  where
    each : (Law : Core → Line → Type 0) → ((core : Core) (line : Line) → IsLawfulEntry terms last handler core line → Law core line) → Along terms Law idle_core m.lines
    each Law f = along_weaker terms (IsLawfulEntry terms last handler) Law idle_core m.lines f s.laws

    now : (First : Core → Line → Type 0) → ((line : Line) → MayBegin terms last handler (core_of terms m) line → IsWantedSoFar terms (found_by (core_of terms m) line) line.act → First (core_of terms m) line)
        → OfLast First (core_of terms m) (line_of m.under)
    now First f = of_last terms last m.number m.clock handler m.job (core_of terms m) m.under First f s.stands

-- The whole book.
pub record IsFinished (terms : Terms) (m : Course) : Type 0 where
  pub rests : m.under ≡ None
  pub none_owed : (core_of terms m).owed ≡ None
  pub at : ℕ
  pub closes : m.job ≡ Closes at
  pub none_lives : first_live (core_of terms m).convos ≡ None
  pub all_answered : is_answered (core_of terms m) ≡ true

finished_under : (m : Course) (u : Under) (w : Want) → under_step m u w ≡ Stops Finishes → ⊥
finished_under m u (Reserve ask mark) g = cc
finished_under m u (Release charge) g = cc
finished_under m u (Emit event) g = cc
finished_under m u Rest g = cc

finished_closing : (at : ℕ) (first : Option Open) → closing_choice at first ≡ Done → first ≡ None
finished_closing at None h = refl
finished_closing at (Some o) h = absurd cc

finished_first : (due : Option Due) (next : Choice) → due_first due next ≡ Done → next ≡ Done
finished_first None next h = h
finished_first (Some d) next h = absurd cc

finished_begun : (line : Line) → Begins line ≡ Done → ⊥
finished_begun line h = cc

finished_job : (terms : Terms) (core : Core) (job : Job) → job_choice terms core job ≡ Done → (at : ℕ) × (job ≡ Closes at) × (first_live core.convos ≡ None)
finished_job terms core Nothing h = absurd cc
finished_job terms core (Takes p) h = absurd (finished_begun _ (finished_first (due_by terms core p.now) _ h))
finished_job terms core (Closes at) h = (at, refl, finished_closing at (first_live core.convos) (finished_first (due_by terms core at) _ h))

finished_owed : (terms : Terms) (core : Core) (job : Job) (owed : Option Owed) → by_owed terms core job owed ≡ Done → (owed ≡ None) × (job_choice terms core job ≡ Done)
finished_owed terms core job None h = (refl, h)
finished_owed terms core job (Some owed) h = absurd cc

finished_room : (m : Course) (line : Line) (b : Bool) → cond b (Goes (begun m line)) (Stops Fills) ≡ Stops Finishes → ⊥
finished_room m line true g = cc
finished_room m line false g = cc

finished_answered : (b : Bool) → cond b (Stops Finishes) (Stops Fills) ≡ Stops Finishes → b ≡ true
finished_answered true g = refl
finished_answered false g = absurd cc

finished_choice : (core : Core) (m : Course) (x : Choice) → choice_step core m x ≡ Stops Finishes → (x ≡ Done) × (is_answered core ≡ true)
finished_choice core m (Begins line) g = absurd (finished_room m line (has_room core) g)
finished_choice core m Waits g = absurd cc
finished_choice core m Done g = (refl, finished_answered (is_answered core) g)

finished_by_step : (terms : Terms) (m : Course) (o : Option Under) → m.under ≡ o → step_by terms m o ≡ Stops Finishes → IsFinished terms m
finished_by_step terms m (Some u) e g = absurd (finished_under m u (want_of terms m u) g)
finished_by_step terms m None e g =
    let c = finished_choice (core_of terms m) m (choice terms (core_of terms m) m.job) g in
    let o = finished_owed terms (core_of terms m) m.job (core_of terms m).owed c.0 in
    let j = finished_job terms (core_of terms m) m.job o.1 in
    record { rests = e; none_owed = o.0; at = j.0; closes = j.1; none_lives = j.2; all_answered = c.1 }

pub is_finished : (terms : Terms) (m : Course) → step terms m ≡ Stops Finishes → IsFinished terms m
is_finished terms m g = finished_by_step terms m m.under refl g

all_ended : (os : List Open) → NoneLives os → list_all (λ o. not (is_live o.convo)) os ≡ true
all_ended [] h = refl
all_ended (o ∷ os) h = (λ i. not (h.0 i) && list_all (λ q. not (is_live q.convo)) os) ∙ all_ended os h.1

abbrev ClosedBy : Act → Type 0
ClosedBy (End at Replaced looks frees) = ⊥
ClosedBy _ = ⊤

abbrev ClosedLine : Option Line → Type 0
ClosedLine (Some last) = ClosedBy last.act
ClosedLine None = ⊤

closed_line : (terms : Terms) (core : Core) (at : ℕ) (last : Option Line) → IsFollowed terms core (Closes at) last → ClosedLine last
closed_line terms core at None h = tt
closed_line terms core at (Some line) h = by line.act h
  where
    by : (a : Act) → IsFollowed terms core (Closes at) (Some (record line { act = a })) → ClosedBy a
    by (Seg q now ls fr) h = tt
    by (Answer ev ad fr) h = tt
    by (Time when ls fr) h = tt
    by (End when Reset ls fr) h = tt
    by (End when Closed ls fr) h = tt
    by (End when Idle ls fr) h = tt
    by (End when Finish ls fr) h = tt
    by (End when Replaced ls fr) h = absurd h

as_many : (a b : ℕ) → nat_le b a ≡ true → a ≤ b → a ≡ b
as_many a b h k = grind (arith, nat_tests)

pub lawful_book : (terms : Terms) (last : ℕ) (handler : Handler) (m : Course) → IsSound terms last handler m → step terms m ≡ Stops Finishes → LawfulBook (run_at terms last handler m)
lawful_book terms last handler m s g = record {
  segs = sym (append-nil (segs_in m.lines)) ∙ ap (λ k. segs_in m.lines ++ waiting_segs k) (sym f.closes) ∙ segs_at_rest terms last handler m s f.rests;
  conversations = each (StandsUnder terms) (λ core line h. h.begins.conversations);
  dues = (each (IsInTime terms) (λ core line h. h.begins.dues), omega (arith, o.timed, o.turn, o.closes.0));
  ends = (each (EndsOnce last) (λ core line h. h.begins.ends), (all_ended (core_of terms m).convos (none_live (core_of terms m).convos f.none_lives), closed_line terms (core_of terms m) f.at (core_of terms m).last o.followed));
  answers = (each (IsNextAnswer handler) (λ core line h. h.begins.answers), as_many (core_of terms m).answered (length (core_of terms m).events) f.all_answered o.answered);
  window = each HasRoom (λ core line h. h.begins.window);
  looks = each (HasLooks terms) (λ core line h. h.looks);
  frees = each (HasFrees terms) (λ core line h. h.frees);
}
  where
    f : IsFinished terms m
    f = is_finished terms m g

    o : IsOrderly terms last m.number m.clock (Closes f.at) (core_of terms m)
    o = subst (λ k. IsOrderly terms last m.number m.clock k (core_of terms m)) f.closes (at_rest terms last handler m s f.rests)

    each : (Law : Core → Line → Type 0) → ((core : Core) (line : Line) → IsLawfulEntry terms last handler core line → Law core line) → Along terms Law idle_core m.lines
    each Law h = along_weaker terms (IsLawfulEntry terms last handler) Law idle_core m.lines h s.laws
