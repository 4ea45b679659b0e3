-- An entry that is complete.
use Rattle.std.specs.Prelude.{◌≡◌, refl, ℕ, zero, suc, ◌≤◌, Bool, true, false, cond, ◌==◌, List, [], ◌∷◌, ◌++◌, length, take, drop, map, Option, None, Some, slice_get, slice_set, IfSome, IfOk, OnOk, Result, Ok, Err}
use Rattle.std.proofs.Common.{sym, ◌∙◌, ap, arith, subst, append-nil}
use Rattle.std.proofs.lemmas.List.{map-append}
use Rattle.evring.specs.declared.reason.Reason.{Reason}
use Rattle.evring.specs.declared.advice.Advice.{Advice}
use Rattle.histbook.specs.declared.look_entry.LookEntry.{LookEntry}
use Rattle.prio_budget.specs.declared.free.Free.{Free}
use Rattle.indexmap.specs.IndexMap.{get}
use Rattle.streamkey.specs.contracts.key.KeyPartialEq.TheImpl as key_eq
use Rattle.std.proofs.lemmas.Bool.Decides.{nat_tests}
use Rattle.streamdefs.specs.Packet.{Packet, no_packet}
use Rattle.streamdefs.specs.Terms.{Terms}
use Rattle.streamdefs.specs.Lawful.{Handler, IsNextAnswer}
use Rattle.streamdefs.specs.Direction.{Next}
use Rattle.streamdefs.specs.Direction.Next.{Asks, Gives, Rests}
use Rattle.streamdefs.specs.Convo.{Act, Convo, Event, new_convo, after, events_in, ending, is_live}
use Rattle.streamdefs.specs.Convo.Act.{Seg, Answer, Time, End}
use Rattle.streamdefs.specs.Want.{want, next_move}
use Rattle.streamdefs.specs.Want.Want.{Rest}
use Rattle.streamdefs.specs.Core.{Line, Core, Open, core_after, idle_core, found_by, find_convo, put_convo, latest_of, is_answer, owed_by}
use Rattle.streamdefs.proofs.Pushes.{core_at_push}
use Rattle.streamdefs.proofs.Histories.{find_put}
use Rattle.coretable.specs.Course.{Course, Under, completed, core_of, want_of, dressed, dressed_line}
use Rattle.coretable.specs.Orderly.{Rises, waiting_of}
use Rattle.coretable.specs.Lawfully.{IsSound, IsUnderWay}
use Rattle.coretable.proofs.Soundness.{under_way}
use Rattle.coretable.proofs.Places.{from_test, same_number}
use Rattle.coretable.proofs.Entered.{drop_append, lived, grows}
use Rattle.coretable.proofs.Answers.{answered, live_answered}
use Rattle.coretable.proofs.WantLemmas.{none_past, take_all, got_mapped}
use Rattle.coretable.proofs.Wants.{move_of, event_of}
use Rattle.convo.specs.Talk.{Talk, Phase, due_of, owed_after, talk_after}
use Rattle.convo.specs.Talk.Phase.{Still}
use Rattle.coretable.specs.declared.slot.Slot.{Slot}
use Rattle.coretable.specs.declared.owed.Owed.{Owed as OwedAt}
use Rattle.coretable.specs.declared.desk.Desk.{Desk}
use Rattle.coretable.specs.declared.entry_kind.EntryKind.{EntryKind}
use Rattle.coretable.specs.declared.entry_kind.EntryKind.TheVariants as D
use Rattle.coretable.specs.declared.active.Active.{Active}
use Rattle.coretable.specs.Standing.{Beside, beside, beside_of, Recalls, talk_before, AreDue, entry_of, entry_in, entry_for, present, with_under, hole_of, unanswered_with, AreSlots, IsIndexed, ids_of, AreUnanswered, IsOwedAt, AreEnded, job_of, owed_place, answered_by, owed_by_kind, place_of, Keeps, IsActive}
use Rattle.coretable.proofs.Told.{told_on, told_other}
use Rattle.coretable.proofs.Slots.{put_twice, ids_put, indexed_put, ended_put, slots_put, dues_put}
use Rattle.coretable.specs.Moments.{moment_of}
use Rattle.std.specs.FinMap.{get as moment_in}

-- An entry that wants nothing has handed over all its events.
rested_event : (o : Option Event) → event_of o ≡ Rest → o ≡ None
rested_event (Some e) h = absurd cc
rested_event None h = refl

rested_events : (terms : Terms) (c : Convo) (act : Act) (n : ℕ) (x : Next) → move_of terms c act n x ≡ Rest → slice_get (events_in terms c act) n ≡ None
rested_events terms c act n (Asks a) h = absurd cc
rested_events terms c act n (Gives charge) h = absurd cc
rested_events terms c act n Rests h = rested_event (slice_get (events_in terms c act) n) h

pub all_emitted : (terms : Terms) (c : Convo) (act : Act) (n : ℕ) → want terms c act n ≡ Rest → take n (events_in terms c act) ≡ events_in terms c act
all_emitted terms c act n h = take_all (events_in terms c act) n (none_past (events_in terms c act) n (rested_events terms c act n (next_move terms c act) h))

-- What stays of a conversation.
first_one : (terms : Terms) (c : Convo) (act : Act) (b : Bool) → is_answer act ≡ b → (after terms c act).first ≡ c.first
first_one terms c act false e = (grows terms c act e).first
first_one terms c (Answer event advice frees) true e = (answered terms c event advice frees).first
first_one terms c (Seg p now looks frees) true e = absurd cc
first_one terms c (Time at looks frees) true e = absurd cc
first_one terms c (End at reason looks frees) true e = absurd cc

pub first_stays : (terms : Terms) (c : Convo) (act : Act) → (after terms c act).first ≡ c.first
first_stays terms c act = first_one terms c act (is_answer act) refl

not_live : (a b : Bool) → (a ≡ true → b ≡ true) → b ≡ false → a ≡ false
not_live true b h e = absurd (unequal b (h refl) e)
  where
    unequal : (b : Bool) → b ≡ true → b ≡ false → ⊥
    unequal b e f = cc
not_live false b h e = refl

dead_one : (terms : Terms) (c : Convo) (act : Act) (b : Bool) → is_answer act ≡ b → is_live c ≡ false → is_live (after terms c act) ≡ false
dead_one terms c act false e d = not_live (is_live (after terms c act)) (is_live c) (lived terms c act e) d
dead_one terms c (Answer event advice frees) true e d = live_answered terms c (Answer event advice frees) (answered terms c event advice frees) ∙ d
dead_one terms c (Seg p now looks frees) true e d = absurd cc
dead_one terms c (Time at looks frees) true e d = absurd cc
dead_one terms c (End at reason looks frees) true e d = absurd cc

pub dead_stays : (terms : Terms) (c : Convo) (act : Act) → is_live c ≡ false → is_live (after terms c act) ≡ false
dead_stays terms c act d = dead_one terms c act (is_answer act) refl d

-- The conversations, with that of the entry under way.
rises_one : (from id : ℕ) (c x : Convo) (o : Open) (os : List Open) (b : Bool) → (o.id == id) ≡ b → Rises from (o ∷ os) → cond b (Some o.convo) (find_convo id os) ≡ Some x → c.first ≡ x.first
    → (find_convo id os ≡ Some x → Rises (suc o.id) (put_convo id c os)) → Rises from (cond b (record { id = id; convo = c } ∷ os) (o ∷ put_convo id c os))
rises_one from id c x o os true t r e f rest =
    let same_id : o.id ≡ id = from_test o.id id t in
    let same : o.convo ≡ x = cc in
    (omega (arith, r.0, same_id), ap (λ (p : Packet). p.number) (f ∙ sym (ap (λ (d : Convo). d.first) same)) ∙ r.1 ∙ same_id, subst (λ n. Rises (suc n) os) same_id r.2)
rises_one from id c x o os false t r e f rest = (r.0, r.1, rest e)

pub rises_again : (from id : ℕ) (c x : Convo) (os : List Open) → Rises from os → find_convo id os ≡ Some x → c.first ≡ x.first → Rises from (put_convo id c os)
rises_again from id c x [] r e f = absurd cc
rises_again from id c x (o ∷ os) r e f = rises_one from id c x o os (o.id == id) refl r e f (λ e'. rises_again (suc o.id) id c x os r.2 e' f)

get_at : (o p : Open) (os : List Open) (b : Bool) → (p.id == o.id) ≡ b → (b ≡ true → p.convo ≡ o.convo) → (b ≡ false → find_convo o.id os ≡ Some o.convo) → cond b (Some p.convo) (find_convo o.id os) ≡ Some o.convo
get_at o p os true t f g = ap Some (f refl)
get_at o p os false t f g = g refl

least : (from : ℕ) (os : List Open) (place : ℕ) (o : Open) → Rises from os → slice_get os place ≡ Some o → from ≤ o.id
least from [] zero o r g = absurd cc
least from [] (suc n) o r g = absurd cc
least from (z ∷ os) zero o r g = let same : z ≡ o = cc in subst (λ (w : Open). from ≤ w.id) same r.0
least from (z ∷ os) (suc n) o r g = omega (arith, r.0, least (suc z.id) os n o r.2 g)

pub get_found : (from : ℕ) (os : List Open) (k : ℕ) (o : Open) → Rises from os → slice_get os k ≡ Some o → find_convo o.id os ≡ Some o.convo
get_found from [] zero o r g = absurd cc
get_found from [] (suc k) o r g = absurd cc
get_found from (p ∷ os) zero o r g =
    let same : p ≡ o = cc in
    get_at o p os (p.id == o.id) refl (λ t. ap (λ (z : Open). z.convo) same) (λ t. absurd (no (p.id) (o.id) (ap (λ (z : Open). z.id) same) t))
  where
    no : (a b : ℕ) → a ≡ b → (a == b) ≡ false → ⊥
    no a b e f = differs (a == b) (grind (arith, nat_tests)) f
      where
        differs : (b : Bool) → b ≡ true → b ≡ false → ⊥
        differs b e f = cc
get_found from (p ∷ os) (suc k) o r g =
    get_at o p os (p.id == o.id) refl (λ t. absurd (no p.id o.id (least (suc p.id) os k o r.2 g) (from_test p.id o.id t))) (λ t. get_found (suc p.id) os k o r.2 g)
  where
    no : (a b : ℕ) → suc a ≤ b → a ≡ b → ⊥
    no a b l e = absurd (omega (arith, l, e))

pub record World (t : Terms) (m : Course) (u : Under) : Type 0 where
  pub is : present t m ≡ put_convo u.line.conv (found_by (core_of t m) u.line) (core_of t m).convos
  pub rises : Rises 0 (present t m)
  pub found : find_convo u.line.conv (present t m) ≡ Some (found_by (core_of t m) u.line)

pub world : (t : Terms) (last : ℕ) (handler : Handler) (m : Course) (u : Under) → IsSound t last handler m → m.under ≡ Some u → World t m u
world t last handler m u s e = record { is = is; rises = subst (Rises 0) (sym is) rises; found = ap (find_convo u.line.conv) is ∙ found c }
  where
    core : Core
    core = core_of t m

    c : Convo
    c = found_by core u.line

    is : present t m ≡ put_convo u.line.conv c core.convos
    is = ap (λ o. with_under t core o) e

    found : (d : Convo) → find_convo u.line.conv (put_convo u.line.conv d core.convos) ≡ Some d
    found d = find_put u.line.conv u.line.conv d core.convos ∙ ap (λ b. cond b (Some d) (find_convo u.line.conv core.convos)) (same_number u.line.conv)

    w : IsUnderWay t last m.number m.clock handler m.job core u.line
    w = under_way t last handler m u s e

    behind : Line
    behind = dressed_line [] [] u.line

    d : Convo
    d = after t (found_by core behind) behind.act

    rises : Rises 0 (put_convo u.line.conv c core.convos)
    rises = subst (Rises 0) (put_twice u.line.conv d c core.convos)
        (rises_again 0 u.line.conv c d (put_convo u.line.conv d core.convos) (w.fits [] []).1.rises (found d)
        (found_dressed core u.line.conv u.line.act ∙ sym (first_stays t (found_by core behind) behind.act)))
      where
        known_by : Option Convo → Act → Convo
        known_by (Some x) act = x
        known_by None (Seg p now looks frees) = new_convo p
        known_by None _ = new_convo no_packet

        bare : (o : Option Convo) (act : Act) → (known_by o act).first ≡ (known_by o (dressed [] [] act)).first
        bare (Some x) act = refl
        bare None (Seg p now looks frees) = refl
        bare None (Answer ev ad frees) = refl
        bare None (Time at looks frees) = refl
        bare None (End at reason looks frees) = refl

        found_dressed : (core : Core) (conv : ℕ) (act : Act) → (found_by core (record { conv = conv; act = act })).first ≡ (found_by core (record { conv = conv; act = dressed [] [] act })).first
        found_dressed core conv act = bare (find_convo conv core.convos) act

-- What waits behind a complete entry.
waits_one : (t : Terms) (core : Core) (u : Under) (b : Bool) → is_answer u.line.act ≡ b → core.answered ≤ length core.events → want t (found_by core u.line) u.line.act u.emitted ≡ Rest
    → cond b (drop (suc core.answered) core.events) (waiting_of core ++ map (λ event. record { conv = u.line.conv; event = event }) (take u.emitted (events_in t (found_by core u.line) u.line.act)))
    ≡ drop (cond b (suc core.answered) core.answered) (core.events ++ map (λ event. record { conv = u.line.conv; event = event }) (events_in t (found_by core u.line) u.line.act))
waits_one t core u true e l w = ap (drop (suc core.answered)) (sym (append-nil core.events) ∙ ap (λ evs. core.events ++ map (λ event. record { conv = u.line.conv; event = event }) evs) (sym (none_told u.line.act e)))
  where
    none_told : (act : Act) → is_answer act ≡ true → events_in t (found_by core u.line) act ≡ []
    none_told (Answer ev ad frees) e = refl
    none_told (Seg p now ls fs) e = absurd cc
    none_told (Time at ls fs) e = absurd cc
    none_told (End at r ls fs) e = absurd cc
waits_one t core u false e l w =
    ap (λ evs. waiting_of core ++ map (λ event. record { conv = u.line.conv; event = event }) evs) (all_emitted t (found_by core u.line) u.line.act u.emitted w)
    ∙ sym (drop_append core.answered core.events (map (λ event. record { conv = u.line.conv; event = event }) (events_in t (found_by core u.line) u.line.act)) l)

waits_completed : (t : Terms) (core : Core) (u : Under) → core.answered ≤ length core.events → want t (found_by core u.line) u.line.act u.emitted ≡ Rest
    → unanswered_with t core (Some u) ≡ waiting_of (core_after t core u.line)
waits_completed t core u l w = waits_one t core u (is_answer u.line.act) refl l w

-- The End that a complete entry makes due.
owed_there : (ids : List ℕ) (place conv : ℕ) (ending : Option (Reason × ℕ)) → slice_get ids place ≡ Some conv → IsOwedAt ids (owed_place place ending) (owed_by conv ending)
owed_there ids place conv None g = tt
owed_there ids place conv (Some ending) g = (g, refl, refl)

owed_of : (t : Terms) (c : Convo) (owed : Beside) (act : Act) → is_answer act ≡ false → owed_after t (beside c owed) act ≡ ending t c act
owed_of t c owed (Seg p now ls fs) e = refl
owed_of t c owed (Answer ev ad fs) e = absurd cc
owed_of t c owed (Time at ls fs) e = refl
owed_of t c owed (End at r ls fs) e = refl

-- The kind of an entry is that of its deed.
counts_by_kind : (kind : EntryKind) (act : Act) (ls : List LookEntry) (fs : List Free) (n : ℕ) → entry_for kind ls fs ≡ entry_in act → ((e : ℕ) (ad : Advice) (fr : List Free) → act ≡ Answer e ad fr → e ≡ suc n)
    → answered_by kind n ≡ cond (is_answer act) (suc n) n
counts_by_kind (D.Seg packet now) (Seg p at l f) ls fs n e h = refl
counts_by_kind (D.Seg packet now) (Answer ev ad f) ls fs n e h = absurd cc
counts_by_kind (D.Seg packet now) (Time at l f) ls fs n e h = absurd cc
counts_by_kind (D.Seg packet now) (End at r l f) ls fs n e h = absurd cc
counts_by_kind (D.Answer event advice) (Seg p at l f) ls fs n e h = absurd cc
counts_by_kind (D.Answer event advice) (Answer ev ad f) ls fs n e h = let same : event ≡ ev = cc in same ∙ h ev ad f refl
counts_by_kind (D.Answer event advice) (Time at l f) ls fs n e h = absurd cc
counts_by_kind (D.Answer event advice) (End at r l f) ls fs n e h = absurd cc
counts_by_kind (D.Time when) (Seg p at l f) ls fs n e h = absurd cc
counts_by_kind (D.Time when) (Answer ev ad f) ls fs n e h = absurd cc
counts_by_kind (D.Time when) (Time at l f) ls fs n e h = refl
counts_by_kind (D.Time when) (End at r l f) ls fs n e h = absurd cc
counts_by_kind (D.End when why) (Seg p at l f) ls fs n e h = absurd cc
counts_by_kind (D.End when why) (Answer ev ad f) ls fs n e h = absurd cc
counts_by_kind (D.End when why) (Time at l f) ls fs n e h = absurd cc
counts_by_kind (D.End when why) (End at r l f) ls fs n e h = refl

owes_by_kind : (kind : EntryKind) (act : Act) (ls : List LookEntry) (fs : List Free) (x y : Option OwedAt) → entry_for kind ls fs ≡ entry_in act → owed_by_kind kind x y ≡ cond (is_answer act) x y
owes_by_kind (D.Seg packet now) (Seg p at l f) ls fs x y e = refl
owes_by_kind (D.Seg packet now) (Answer ev ad f) ls fs x y e = absurd cc
owes_by_kind (D.Seg packet now) (Time at l f) ls fs x y e = absurd cc
owes_by_kind (D.Seg packet now) (End at r l f) ls fs x y e = absurd cc
owes_by_kind (D.Answer event advice) (Seg p at l f) ls fs x y e = absurd cc
owes_by_kind (D.Answer event advice) (Answer ev ad f) ls fs x y e = refl
owes_by_kind (D.Answer event advice) (Time at l f) ls fs x y e = absurd cc
owes_by_kind (D.Answer event advice) (End at r l f) ls fs x y e = absurd cc
owes_by_kind (D.Time when) (Seg p at l f) ls fs x y e = absurd cc
owes_by_kind (D.Time when) (Answer ev ad f) ls fs x y e = absurd cc
owes_by_kind (D.Time when) (Time at l f) ls fs x y e = refl
owes_by_kind (D.Time when) (End at r l f) ls fs x y e = absurd cc
owes_by_kind (D.End when why) (Seg p at l f) ls fs x y e = absurd cc
owes_by_kind (D.End when why) (Answer ev ad f) ls fs x y e = absurd cc
owes_by_kind (D.End when why) (Time at l f) ls fs x y e = absurd cc
owes_by_kind (D.End when why) (End at r l f) ls fs x y e = refl

-- What is kept once the entry under way is complete.
pub record IsCompleted {T : Type 0} (t : Terms) (m : Course) (u : Under) (a : Active T) (old new : Desk T) (s : Slot T) (clock : ℕ) (talk : T) (ending : Option (Reason × ℕ)) : Type 0 where
  pub at : slice_get old.slots.items a.place ≡ Some s
  pub slots : new.slots.items ≡ slice_set old.slots.items a.place (record s { clock = clock; talk = Some talk })
  pub index : new.index ≡ old.index
  pub dues : (k : ℕ) → moment_in new.dues k ≡ cond (a.place == k) (moment_of (due_of t (after t (found_by (core_of t m) u.line) u.line.act))) (moment_in old.dues k)
  pub queue : new.unanswered.items ≡ old.unanswered.items
  pub book : new.book.items ≡ old.book.items ++ record { conv = a.number; entry = entry_for a.kind a.looks.items a.frees.items } ∷ []
  pub answered : new.answered ≡ answered_by a.kind old.answered
  pub owed : new.owed ≡ owed_by_kind a.kind old.owed (owed_place a.place ending)
  pub job : new.job ≡ old.job
  pub cursor : new.cursor ≡ old.cursor

module _ {T : Type 0} (Stands : T → Talk → Phase → Type 0) where
  pub kept_completed : (t : Terms) (last : ℕ) (handler : Handler) (m : Course) (u : Under) (a : Active T) (old new : Desk T) (s : Slot T) (talk : T)
      → IsSound t last handler m → Keeps Stands t m old → IsActive t m u a → want_of t m u ≡ Rest
      → Stands talk (talk_after t (talk_before t m u) u.line.act) Still
      → IsCompleted t m u a old new s a.clock talk (owed_after t (talk_before t m u) u.line.act)
      → Keeps Stands t (completed m u) new
  kept_completed t last handler m u a old new s talk sound k act rest st new_is = record {
    slots = subst (λ l. AreSlots (Recalls Stands t (completed m u).lines) None l new.slots.items) (sym present_is)
        (subst (AreSlots (Recalls Stands t (completed m u).lines) None (put_convo conv c' (present t m))) (sym new_is.slots)
        (slots_put (Recalls Stands t (completed m u).lines) (Recalls Stands t m.lines) 0 conv a.place a.clock c' talk (present t m) (record { id = conv; convo = c }) old.slots.items s w.rises stays
        (subst (λ h. AreSlots (Recalls Stands t m.lines) h (present t m) old.slots.items) (ap hole_of act.under) k.slots) act.place refl new_is.at (first_stays t c u.line.act) act.clock
        (subst (λ k. Stands talk k Still) (sym (told_on t m.lines u.line)) st)));
    index = λ key. subst (λ l. IsIndexed l (place_of new key) (latest_of key l)) (sym present_is) (indexed_put conv c' c (present t m) key (place_of new key) w.rises w.found (first_stays t c u.line.act) (subst (λ i. IsIndexed (present t m) (get key_eq.eq-value.it i key) (latest_of key (present t m))) (sym new_is.index) (k.index key)));
    dues = subst (λ l. AreDue t None l new.dues) (sym present_is)
        (dues_put t conv a.place c' c (record { id = conv; convo = c }) (present t m) old.dues new.dues w.rises w.found act.place refl new_is.dues (subst (λ h. AreDue t h (present t m) old.dues) (ap hole_of act.under) k.dues));
    queue = subst (λ l. AreUnanswered l new.unanswered.items (unanswered_with t (core_of t (completed m u)) None)) ids_are
        (subst (λ q. AreUnanswered (ids_of (present t m)) q (unanswered_with t (core_of t (completed m u)) None)) (sym new_is.queue) (subst (AreUnanswered (ids_of (present t m)) old.unanswered.items) waits_are k.queue));
    book = new_is.book ∙ (λ i. k.book i ++ record { conv = act.number i; entry = act.entry i } ∷ []) ∙ sym (map-append entry_of m.lines (u.line ∷ []));
    answered = new_is.answered ∙ counts_by_kind a.kind u.line.act a.looks.items a.frees.items old.answered act.entry next_answer ∙ (λ i. cond (is_answer u.line.act) (suc (k.answered i)) (k.answered i)) ∙ sym (ap (λ (q : Core). q.answered) core_is);
    owed = owed_is (is_answer u.line.act) refl;
    job = ap job_of new_is.job ∙ k.job;
    cursor = subst (λ n. AreEnded n (present t (completed m u))) (sym new_is.cursor)
        (subst (AreEnded old.cursor) (sym present_is) (ended_put old.cursor conv c' c (present t m) w.rises w.found unique (dead_stays t c u.line.act) k.cursor));
  }
    where
      core : Core
      core = core_of t m

      conv : ℕ
      conv = u.line.conv

      c : Convo
      c = found_by core u.line

      c' : Convo
      c' = after t c u.line.act

      owed : Beside
      owed = beside_of t m.lines conv

      stays : (o : Open) (x : T) → (conv == o.id) ≡ false → Recalls Stands t m.lines o x → Recalls Stands t (completed m u).lines o x
      stays o x n h = subst (λ b. Stands x (beside o.convo b) Still) (sym (told_other t m.lines u.line o.id n)) h

      w : World t m u
      w = world t last handler m u sound act.under

      core_is : core_of t (completed m u) ≡ core_after t core u.line
      core_is = core_at_push t idle_core m.lines u.line

      present_is : present t (completed m u) ≡ put_convo conv c' (present t m)
      present_is = ap (λ (q : Core). q.convos) core_is ∙ sym (put_twice conv c c' core.convos) ∙ ap (put_convo conv c') (sym w.is)

      ids_are : ids_of (present t m) ≡ ids_of (present t (completed m u))
      ids_are = sym (ids_put conv c' c (present t m) w.found) ∙ ap ids_of (sym present_is)

      answered_few : core.answered ≤ length core.events
      answered_few = (under_way t last handler m u sound act.under).answered

      next_answer : (n : ℕ) (ad : Advice) (fr : List Free) → u.line.act ≡ Answer n ad fr → n ≡ suc old.answered
      next_answer n ad fr e =
          (subst (λ (act : Act). IsNextAnswer handler core (record { conv = conv; act = dressed [] fr act })) e ((under_way t last handler m u sound act.under).fits [] fr).0.answers).0 ∙ ap suc (sym k.answered)

      waits_are : unanswered_with t core m.under ≡ unanswered_with t (core_of t (completed m u)) None
      waits_are = ap (unanswered_with t core) act.under ∙ waits_completed t core u answered_few rest ∙ ap waiting_of (sym core_is)

      some_same : {x y : Convo} → Some x ≡ Some y → x ≡ y
      some_same e = cc

      unique : (j : ℕ) (o : Open) → slice_get (present t m) j ≡ Some o → o.id ≡ conv → o.convo ≡ c
      unique j o g e = some_same (sym (get_found 0 (present t m) j o w.rises g) ∙ ap (λ (n : ℕ). find_convo n (present t m)) e ∙ w.found)

      owed_is : (b : Bool) → is_answer u.line.act ≡ b → IsOwedAt (ids_of (present t (completed m u))) new.owed (core_of t (completed m u)).owed
      owed_is true e = subst (IsOwedAt (ids_of (present t (completed m u))) new.owed) (sym (ap (λ (q : Core). q.owed) core_is ∙ ap (λ b. cond b core.owed (owed_by conv (ending t c u.line.act))) e))
          (subst (λ o. IsOwedAt (ids_of (present t (completed m u))) o core.owed) (sym (new_is.owed ∙ owes_by_kind a.kind u.line.act a.looks.items a.frees.items old.owed (owed_place a.place (owed_after t (beside c owed) u.line.act)) act.entry ∙ ap (λ b. cond b old.owed (owed_place a.place (owed_after t (beside c owed) u.line.act))) e))
          (subst (λ l. IsOwedAt l old.owed core.owed) ids_are k.owed))
      owed_is false e = subst (IsOwedAt (ids_of (present t (completed m u))) new.owed) (sym (ap (λ (q : Core). q.owed) core_is ∙ ap (λ b. cond b core.owed (owed_by conv (ending t c u.line.act))) e))
          (subst (λ o. IsOwedAt (ids_of (present t (completed m u))) o (owed_by conv (ending t c u.line.act)))
          (sym (new_is.owed ∙ owes_by_kind a.kind u.line.act a.looks.items a.frees.items old.owed (owed_place a.place (owed_after t (beside c owed) u.line.act)) act.entry ∙ ap (λ b. cond b old.owed (owed_place a.place (owed_after t (beside c owed) u.line.act))) e ∙ ap (owed_place a.place) (owed_of t c owed u.line.act e)))
          (owed_there (ids_of (present t (completed m u))) a.place conv (ending t c u.line.act) (ap (λ l. slice_get l a.place) (sym ids_are) ∙ got_mapped (λ (o : Open). o.id) (present t m) a.place (record { id = conv; convo = c }) act.place)))

  -- by the steps that the code makes
  slot_at : (Is : Open → T → Type 0) (hole : Option ℕ) (os : List Open) (ss : List (Slot T)) (place : ℕ) (o : Open) → AreSlots Is hole os ss → slice_get os place ≡ Some o → (s : Slot T) × (slice_get ss place ≡ Some s)
  slot_at Is hole [] [] zero o h g = absurd cc
  slot_at Is hole [] [] (suc n) o h g = absurd cc
  slot_at Is hole [] (s ∷ ss) n o h g = absurd h
  slot_at Is hole (x ∷ os) [] n o h g = absurd h
  slot_at Is hole (x ∷ os) (s ∷ ss) zero o h g = (s, refl)
  slot_at Is hole (x ∷ os) (s ∷ ss) (suc n) o h g = slot_at Is hole os ss n o h.1 g

  pub completes : (t : Terms) (last : ℕ) (handler : Handler) (m : Course) (u : Under) (a : Active T) (d0 d1 d2 d3 d4 : Desk T) (ending : Option (Reason × ℕ)) (due : Option (ℕ × Bool))
      → IsSound t last handler m → Keeps Stands t m d0 → IsActive t m u a → want_of t m u ≡ Rest
      → Stands a.talk (talk_after t (talk_before t m u) u.line.act) Still
      → ending ≡ owed_after t (talk_before t m u) u.line.act
      → due ≡ due_of t (after t (found_by (core_of t m) u.line) u.line.act)
      → d1 ≡ record d0 { answered = answered_by a.kind d0.answered; owed = owed_by_kind a.kind d0.owed (owed_place a.place ending) }
      → IfSome (slice_get d1.slots.items a.place) (λ s. d2.slots.items ≡ slice_set d1.slots.items a.place (record s { clock = a.clock; talk = Some a.talk }))
      → d2 ≡ record d1 { slots = d2.slots }
      → ((k : ℕ) → moment_in d3.dues k ≡ cond (a.place == k) (moment_of due) (moment_in d2.dues k))
      → d3 ≡ record d2 { dues = d3.dues }
      → d4.book.items ≡ d3.book.items ++ record { conv = a.number; entry = entry_for a.kind a.looks.items a.frees.items } ∷ []
      → d4 ≡ record d3 { book = d4.book }
      → Keeps Stands t (completed m u) d4
  completes t last handler m u a d0 d1 d2 d3 d4 ending due sound k act rest st ee ed e1 e2s e2 e3d e3 e4b e4 =
      let got = slot_at (Recalls Stands t m.lines) (hole_of m.under) (present t m) d0.slots.items a.place (record { id = u.line.conv; convo = found_by (core_of t m) u.line }) k.slots act.place in
      let slots1 : d1.slots ≡ d0.slots = ap (λ (d : Desk T). d.slots) e1 in
      let put : d2.slots.items ≡ slice_set d1.slots.items a.place (record got.0 { clock = a.clock; talk = Some a.talk }) =
      subst (λ o. IfSome o (λ s. d2.slots.items ≡ slice_set d1.slots.items a.place (record s { clock = a.clock; talk = Some a.talk }))) (ap (λ l. slice_get l a.place) (λ i. (slots1 i).items) ∙ got.1) e2s in
      kept_completed t last handler m u a d0 d4 got.0 a.talk sound k act rest st (record {
        at = got.1;
        slots = (λ i. (e4 i).slots.items) ∙ (λ i. (e3 i).slots.items) ∙ put ∙ (λ i. slice_set (slots1 i).items a.place (record got.0 { clock = a.clock; talk = Some a.talk }));
        index = ap (λ (d : Desk T). d.index) e4 ∙ ap (λ (d : Desk T). d.index) e3 ∙ ap (λ (d : Desk T). d.index) e2 ∙ ap (λ (d : Desk T). d.index) e1;
        dues = λ k. (λ i. moment_in (e4 i).dues k) ∙ e3d k ∙ (λ i. cond (a.place == k) (moment_of (ed i)) (moment_in d2.dues k)) ∙ (λ i. cond (a.place == k) (moment_of (due_of t (after t (found_by (core_of t m) u.line) u.line.act))) (moment_in (e2 i).dues k)) ∙ (λ i. cond (a.place == k) (moment_of (due_of t (after t (found_by (core_of t m) u.line) u.line.act))) (moment_in (e1 i).dues k));
        queue = (λ i. (e4 i).unanswered.items) ∙ (λ i. (e3 i).unanswered.items) ∙ (λ i. (e2 i).unanswered.items) ∙ (λ i. (e1 i).unanswered.items);
        book = e4b ∙ (λ i. (e3 i).book.items ++ record { conv = a.number; entry = entry_for a.kind a.looks.items a.frees.items } ∷ []) ∙ (λ i. (e2 i).book.items ++ record { conv = a.number; entry = entry_for a.kind a.looks.items a.frees.items } ∷ []) ∙ (λ i. (e1 i).book.items ++ record { conv = a.number; entry = entry_for a.kind a.looks.items a.frees.items } ∷ []);
        answered = ap (λ (d : Desk T). d.answered) e4 ∙ ap (λ (d : Desk T). d.answered) e3 ∙ ap (λ (d : Desk T). d.answered) e2 ∙ ap (λ (d : Desk T). d.answered) e1;
        owed = ap (λ (d : Desk T). d.owed) e4 ∙ ap (λ (d : Desk T). d.owed) e3 ∙ ap (λ (d : Desk T). d.owed) e2 ∙ ap (λ (d : Desk T). d.owed) e1 ∙ ap (λ o. owed_by_kind a.kind d0.owed (owed_place a.place o)) ee;
        job = ap (λ (d : Desk T). d.job) e4 ∙ ap (λ (d : Desk T). d.job) e3 ∙ ap (λ (d : Desk T). d.job) e2 ∙ ap (λ (d : Desk T). d.job) e1;
        cursor = ap (λ (d : Desk T). d.cursor) e4 ∙ ap (λ (d : Desk T). d.cursor) e3 ∙ ap (λ (d : Desk T). d.cursor) e2 ∙ ap (λ (d : Desk T). d.cursor) e1;
      })

pub on_ok : {A E : Type 0} {P Q : Type 0} (r : Result A E) → OnOk r P → (P → Q) → OnOk r Q
on_ok (Ok a) h f = f h
on_ok (Err e) h f = tt

pub if_ok : {A E : Type 0} {P Q : A → Type 0} (r : Result A E) → IfOk r P → ((x : A) → P x → Q x) → IfOk r Q
if_ok (Ok a) h f = f a h
if_ok (Err e) h f = tt
