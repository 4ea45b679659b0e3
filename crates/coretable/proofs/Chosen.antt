-- The entry that a core chooses is one that may begin, whatever looks and frees it will have, and leaves an orderly core.
use Rattle.std.specs.Prelude.{◌≡◌, refl, ℕ, ◌+◌, ◌<◌, Bool, true, false, cond, not, ◌&&◌, ◌||◌, nat_lt, List, [], length, Option, None, Some}
use Rattle.std.proofs.Common.{sym, ◌∙◌, ap, arith, subst}
use Rattle.std.proofs.lemmas.Bool.Decides.{nat_tests}
use Rattle.evring.specs.declared.reason.Reason.TheVariants.{Idle, Finish}
use Rattle.histbook.specs.declared.look_entry.LookEntry.{LookEntry}
use Rattle.prio_budget.specs.declared.free.Free.{Free}
use Rattle.streamdefs.specs.Packet.{Packet, is_tcp, has_syn}
use Rattle.streamdefs.specs.Terms.{Terms}
use Rattle.streamdefs.specs.Convo.{Act, is_live, has_other_base}
use Rattle.streamdefs.specs.Convo.Act.{Time, End}
use Rattle.streamdefs.specs.Core.{Line, Core, Open, Due, Owed, core_after, latest_of}
use Rattle.streamdefs.specs.Lawful.{Handler, FollowsReplaced}
use Rattle.coretable.specs.Course.{Job, Choice, choice, job_choice, closing_choice, due_first, job_behind, is_late, due_by, due_line, seg_line, packet_line, first_live, has_room, dressed_line}
use Rattle.coretable.specs.Course.Job.{Nothing, Takes, Closes}
use Rattle.coretable.specs.Course.Choice.{Begins}
use Rattle.coretable.specs.Lawfully.{MayBegin}
use Rattle.coretable.specs.Orderly.{IsOrderly}
use Rattle.coretable.proofs.Begins.{Facts, IsDueBy, due_is, seg_of_live, seg_of_ended, seg_of_new, time_due, idle_due, end_of_replaced, end_of_capture, end_owed, follows_due}

-- an entry fits, whatever looks and frees it will have
abbrev pub Fits : Terms → (last number clock : ℕ) → Handler → Job → Core → Line → Type 0
Fits terms last number clock handler job core line =
    (looks : List LookEntry) (frees : List Free) → MayBegin terms last handler core (dressed_line looks frees line)
    × IsOrderly terms last number clock (job_behind line.act job) (core_after terms core (dressed_line looks frees line))

either : (R : Line → Type 0) (b : Bool) (x y : Line) → (b ≡ true → R x) → (b ≡ false → R y) → R (cond b x y)
either R true x y f g = f refl
either R false x y f g = g refl

of_bool : (P : Bool → Type 0) (b : Bool) → (b ≡ true → P true) → (b ≡ false → P false) → P b
of_bool P true f g = f refl
of_bool P false f g = g refl

-- what is due
due_fits : (terms : Terms) (last number clock : ℕ) (handler : Handler) (job : Job) (core : Core) (d : Due)
    → Facts terms last number clock job core → IsDueBy terms core clock d → Fits terms last number clock handler job core (due_line d)
due_fits terms last number clock handler job core d f due =
    of_bool (λ b. Fits terms last number clock handler job core (record { conv = d.conv; act = cond b (End d.at Idle [] []) (Time d.at [] []) })) d.idle
    (λ e looks frees. idle_due terms last number clock handler job core d looks frees f due e (follows (End d.at Idle looks frees)))
    (λ e looks frees. time_due terms last number clock handler job core d looks frees f due e (follows (Time d.at looks frees)))
  where
    follows : (act : Act) → FollowsReplaced core core.last act
    follows act = follows_due terms core clock number job d act core.last f.orderly.turn due f.orderly.followed

-- for a packet
abbrev of_latest : Terms → Packet → Option Open → ℕ
of_latest terms p None = p.number
of_latest terms p (Some o) = cond (is_live o.convo || (is_tcp p && not (has_syn p) && nat_lt p.now (o.convo.clock + terms.idle))) o.id p.number

packet_fits : (terms : Terms) (last number clock : ℕ) (handler : Handler) (core : Core) (p : Packet) (latest : Option Open)
    → Facts terms last number clock (Takes p) core → latest_of p.key core.convos ≡ latest → due_by terms core p.now ≡ None
    → Fits terms last number clock handler (Takes p) core (packet_line terms p latest)
packet_fits terms last number clock handler core p None f e due = λ looks frees. seg_of_new terms last number clock handler core p looks frees f (ap (of_latest terms p) e) due
packet_fits terms last number clock handler core p (Some o) f e due =
    either (Fits terms last number clock handler (Takes p) core) (is_live o.convo) _ (seg_line (cond (is_late terms o p) o.id p.number) p)
    (λ live. either (Fits terms last number clock handler (Takes p) core) (has_other_base o.convo p) _ _
    (λ b looks frees. end_of_replaced terms last number clock handler core p o looks frees f e live due b)
    (λ b looks frees. seg_of_live terms last number clock handler core p o looks frees f e live due b))
    (λ dead. of_bool (λ b. Fits terms last number clock handler (Takes p) core (seg_line (cond b o.id p.number) p)) (is_late terms o p)
    (λ late looks frees. seg_of_ended terms last number clock handler core p o looks frees f e dead late due)
    (λ late looks frees. seg_of_new terms last number clock handler core p looks frees f (ap (of_latest terms p) e ∙ (λ i. cond (dead i || late i) o.id p.number)) due))

begun_fits : (terms : Terms) (last number clock : ℕ) (handler : Handler) (core : Core) (p : Packet) (line : Line)
    → Facts terms last number clock (Takes p) core → due_by terms core p.now ≡ None → Begins (packet_line terms p (latest_of p.key core.convos)) ≡ Begins line
    → Fits terms last number clock handler (Takes p) core line
begun_fits terms last number clock handler core p line f due h =
    let same : packet_line terms p (latest_of p.key core.convos) ≡ line = cc in
    subst (Fits terms last number clock handler (Takes p) core) same (packet_fits terms last number clock handler core p (latest_of p.key core.convos) f refl due)

-- at the end of the capture
closing_fits : (terms : Terms) (last number clock at : ℕ) (handler : Handler) (core : Core) (first : Option Open) (line : Line)
    → Facts terms last number clock (Closes at) core → first_live core.convos ≡ first → due_by terms core at ≡ None → closing_choice at first ≡ Begins line
    → Fits terms last number clock handler (Closes at) core line
closing_fits terms last number clock at handler core None line f e due h = absurd cc
closing_fits terms last number clock at handler core (Some o) line f e due h =
    let same : record { conv = o.id; act = End at Finish [] [] } ≡ line = cc in
    subst (Fits terms last number clock handler (Closes at) core) same (λ looks frees. end_of_capture terms last number clock at handler core o looks frees f e due)

-- what is due comes first
first_fits : (terms : Terms) (last number clock : ℕ) (handler : Handler) (job : Job) (core : Core) (due : Option Due) (next : Choice) (line : Line)
    → Facts terms last number clock job core → due_by terms core clock ≡ due → due_first due next ≡ Begins line
    → (due_by terms core clock ≡ None → next ≡ Begins line → Fits terms last number clock handler job core line) → Fits terms last number clock handler job core line
first_fits terms last number clock handler job core None next line f e h rest = rest e h
first_fits terms last number clock handler job core (Some d) next line f e h rest =
    let same : due_line d ≡ line = cc in
    subst (Fits terms last number clock handler job core) same (due_fits terms last number clock handler job core d f (due_is terms core clock d e))

-- what a core chooses
abbrev by_owed : Terms → Core → Job → Option Owed → Choice
by_owed terms core job (Some owed) = Begins (record { conv = owed.conv; act = End owed.at owed.reason [] [] })
by_owed terms core job None = job_choice terms core job

job_fits : (terms : Terms) (last number clock : ℕ) (handler : Handler) (job : Job) (core : Core) (line : Line)
    → Facts terms last number clock job core → job_choice terms core job ≡ Begins line → Fits terms last number clock handler job core line
job_fits terms last number clock handler Nothing core line f h = absurd cc
job_fits terms last number clock handler (Takes p) core line f h =
    first_fits terms last number clock handler (Takes p) core (due_by terms core p.now) _ line f (ap (due_by terms core) (sym f.orderly.turn.0)) h
    (λ none next. begun_fits terms last number clock handler core p line f (ap (due_by terms core) f.orderly.turn.0 ∙ none) next)
job_fits terms last number clock handler (Closes at) core line f h =
    first_fits terms last number clock handler (Closes at) core (due_by terms core at) _ line f (ap (due_by terms core) (sym f.orderly.turn)) h
    (λ none next. closing_fits terms last number clock at handler core (first_live core.convos) line f refl (ap (due_by terms core) f.orderly.turn ∙ none) next)

choice_fits : (terms : Terms) (last number clock : ℕ) (handler : Handler) (job : Job) (core : Core) (line : Line) (owed : Option Owed)
    → IsOrderly terms last number clock job core → length core.events < core.answered + 256 → core.owed ≡ owed → by_owed terms core job owed ≡ Begins line
    → Fits terms last number clock handler job core line
choice_fits terms last number clock handler job core line None ord room e h = job_fits terms last number clock handler job core line (record { orderly = ord; none_owed = e; room = room }) h
choice_fits terms last number clock handler job core line (Some owed) ord room e h =
    let same : record { conv = owed.conv; act = End owed.at owed.reason [] [] } ≡ line = cc in
    subst (Fits terms last number clock handler job core) same (λ looks frees. end_owed terms last number clock handler job core owed looks frees ord e room)

is_room : (core : Core) → has_room core ≡ true → length core.events < core.answered + 256
is_room core e = grind (arith, nat_tests)

pub chosen_fits : (terms : Terms) (last number clock : ℕ) (handler : Handler) (job : Job) (core : Core) (line : Line)
    → IsOrderly terms last number clock job core → has_room core ≡ true → choice terms core job ≡ Begins line → Fits terms last number clock handler job core line
chosen_fits terms last number clock handler job core line ord room h = choice_fits terms last number clock handler job core line core.owed ord (is_room core room) refl h
