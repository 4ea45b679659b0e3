-- An entry under way with one look, release or event more.
use Rattle.std.specs.Prelude.{◌≡◌, refl, ℕ, suc, cond, List, [], ◌∷◌, ◌++◌, take, drop, map, Option, Some, slice_get}
use Rattle.std.proofs.Common.{inl, inr, sym, ◌∙◌, ap, subst}
use Rattle.histbook.specs.declared.look_entry.LookEntry.{LookEntry}
use Rattle.histbook.specs.declared.entry.Entry.{Entry}
use Rattle.histbook.specs.declared.entry.Entry.TheVariants as E
use Rattle.prio_budget.specs.declared.free.Free.{Free}
use Rattle.streamdefs.specs.Terms.{Terms}
use Rattle.streamdefs.specs.Reorder.{Charge}
use Rattle.streamdefs.specs.View.{Ask as Request}
use Rattle.streamdefs.specs.Convo.{Act, Convo, after, events_in}
use Rattle.streamdefs.specs.Convo.Act.{Seg, Answer, Time, End}
use Rattle.streamdefs.specs.Direction.{Next}
use Rattle.streamdefs.specs.Direction.Next.{Asks, Gives, Rests as NoMove}
use Rattle.streamdefs.specs.Want.{with_look, with_free}
use Rattle.streamdefs.specs.Want.Want.{Reserve, Release}
use Rattle.streamdefs.specs.Core.{Core, found_by, put_convo, is_answer, latest_of}
use Rattle.coretable.specs.Course.{Course, Under, core_of, want_of, emitted}
use Rattle.coretable.specs.Orderly.{waiting_of}
use Rattle.coretable.proofs.Soundness.{found_look, found_free}
use Rattle.coretable.proofs.Wants.{asked_next, given_next}
use Rattle.convo.specs.Talk.{Talk, Phase, IsWantOf}
use Rattle.convo.specs.Talk.Phase.{Under as UnderWay}
use Rattle.convo.specs.declared.want.Want.{Want}
use Rattle.coretable.specs.declared.entry_kind.EntryKind.{EntryKind}
use Rattle.coretable.specs.declared.entry_kind.EntryKind.TheVariants as D
use Rattle.coretable.specs.declared.active.Active.{Active}
use Rattle.coretable.specs.declared.desk.Desk.{Desk}
use Rattle.coretable.specs.Standing.{Beside, beside, beside_of, Recalls, talk_before, AreDue, entry_in, entry_for, present, with_under, unanswered_with, ids_of, AreSlots, IsIndexed, AreUnanswered, IsOwedAt, AreEnded, place_of, hole_of, Keeps, IsActive}
use Rattle.coretable.specs.Turns.{IsFresh, AtLook, AtFree, AtEvent}
use Rattle.coretable.proofs.SettleLemmas.{event_next}

-- an entry that asks or gives back has handed over nothing
not_asking : (x : Next) (ask : Request) → x ≡ Asks ask → x ≡ NoMove → ⊥
not_asking x ask e f = cc

not_giving : (x : Next) (charge : Charge) → x ≡ Gives charge → x ≡ NoMove → ⊥
not_giving x charge e f = cc

none_asked : (t : Terms) (m : Course) (u : Under) (request : Request) (mark : ℕ) → IsFresh t m u → want_of t m u ≡ Reserve request mark → u.emitted ≡ 0
none_asked t m u request mark (inl e) w = e
none_asked t m u request mark (inr n) w = absurd (not_asking _ request (asked_next t (found_by (core_of t m) u.line) u.line.act u.emitted request mark w) n)

none_given : (t : Terms) (m : Course) (u : Under) (charge : Charge) → IsFresh t m u → want_of t m u ≡ Release charge → u.emitted ≡ 0
none_given t m u charge (inl e) w = e
none_given t m u charge (inr n) w = absurd (not_giving _ charge (given_next t (found_by (core_of t m) u.line) u.line.act u.emitted charge w) n)

-- with another entry of the same kind under way
abbrev with_act : Under → Act → Under
with_act u act = record u { line = record u.line { act = act } }

abbrev course_with : Course → Under → Act → Course
course_with m u act = record m { under = Some (with_act u act) }

waits_same : (t : Terms) (core : Core) (u : Under) (act : Act) → is_answer act ≡ is_answer u.line.act → u.emitted ≡ 0 → unanswered_with t core (Some u) ≡ unanswered_with t core (Some (with_act u act))
waits_same t core u act a e =
    (λ i. cond (sym a i) (drop (suc core.answered) core.events) (waiting_of core ++ map (λ event. record { conv = u.line.conv; event = event }) (take (e i) (events_in t (found_by core u.line) u.line.act))))
    ∙ sym (λ i. cond (is_answer act) (drop (suc core.answered) core.events) (waiting_of core ++ map (λ event. record { conv = u.line.conv; event = event }) (take (e i) (events_in t (found_by core (with_act u act).line) act))))

module _ {D : Type 0} (Stands : D → Talk → Phase → Type 0) where
  kept_with : (t : Terms) (m : Course) (u : Under) (act : Act) (desk : Desk D) → found_by (core_of t m) u.line ≡ found_by (core_of t m) (record u.line { act = act }) → is_answer act ≡ is_answer u.line.act → u.emitted ≡ 0
      → m.under ≡ Some u → Keeps Stands t m desk → Keeps Stands t (course_with m u act) desk
  kept_with t m u act desk f a e under k = record {
    slots = subst (λ l. AreSlots (Recalls Stands t m.lines) (Some u.line.conv) l desk.slots.items) is (subst (λ h. AreSlots (Recalls Stands t m.lines) h (present t m) desk.slots.items) (ap hole_of under) k.slots);
    index = λ key. subst (λ l. IsIndexed l (place_of desk key) (latest_of key l)) is (k.index key);
    dues = subst (λ l. AreDue t (Some u.line.conv) l desk.dues) is (subst (λ h. AreDue t h (present t m) desk.dues) (ap hole_of under) k.dues);
    queue = subst (λ l. AreUnanswered (ids_of l) desk.unanswered.items (unanswered_with t (core_of t m) (Some (with_act u act)))) is
        (subst (AreUnanswered (ids_of (present t m)) desk.unanswered.items) (ap (unanswered_with t (core_of t m)) under ∙ waits_same t (core_of t m) u act a e) k.queue);
    book = k.book;
    answered = k.answered;
    owed = subst (λ l. IsOwedAt (ids_of l) desk.owed (core_of t m).owed) is k.owed;
    job = k.job;
    cursor = subst (AreEnded desk.cursor) is k.cursor;
  }
    where
      is : present t m ≡ with_under t (core_of t m) (Some (with_act u act))
      is = ap (with_under t (core_of t m)) under ∙ ap (λ c. put_convo u.line.conv c (core_of t m).convos) f

  active_with : (t : Terms) (m : Course) (u : Under) (act : Act) (a a' : Active D) → found_by (core_of t m) u.line ≡ found_by (core_of t m) (record u.line { act = act })
      → IsActive t m u a → a'.place ≡ a.place → a'.number ≡ a.number → a'.clock ≡ a.clock → entry_for a'.kind a'.looks.items a'.frees.items ≡ entry_in act
      → (after t (found_by (core_of t m) u.line) u.line.act).clock ≡ (after t (found_by (core_of t m) u.line) act).clock
      → IsActive t (course_with m u act) (with_act u act) a'
  active_with t m u act a a' f h p n c e k = record {
    under = refl;
    place = (λ i. slice_get (is (i)) (p i)) ∙ place_is;
    number = n ∙ h.number;
    entry = e;
    clock = c ∙ h.clock ∙ k ∙ ap (λ x. (after t x act).clock) f;
  }
    where
      is : present t (course_with m u act) ≡ present t m
      is = sym (ap (with_under t (core_of t m)) h.under ∙ ap (λ c. put_convo u.line.conv c (core_of t m).convos) f)

      place_is : slice_get (present t m) a.place ≡ Some (record { id = u.line.conv; convo = found_by (core_of t m) (record u.line { act = act }) })
      place_is = h.place ∙ (λ i. Some (record { id = u.line.conv; convo = f i }))

-- An entry with one look or release more.
look_kind : (look : LookEntry) (act : Act) → is_answer (with_look look act) ≡ is_answer act
look_kind look (Seg p now l f) = refl
look_kind look (Answer e a f) = refl
look_kind look (Time at l f) = refl
look_kind look (End at r l f) = refl

free_kind : (free : Free) (act : Act) → is_answer (with_free free act) ≡ is_answer act
free_kind free (Seg p now l f) = refl
free_kind free (Answer e a f) = refl
free_kind free (Time at l f) = refl
free_kind free (End at r l f) = refl

look_clock : (t : Terms) (c : Convo) (look : LookEntry) (act : Act) → (after t c act).clock ≡ (after t c (with_look look act)).clock
look_clock t c look (Seg p now l f) = refl
look_clock t c look (Answer e a f) = refl
look_clock t c look (Time at l f) = refl
look_clock t c look (End at r l f) = refl

free_clock : (t : Terms) (c : Convo) (free : Free) (act : Act) → (after t c act).clock ≡ (after t c (with_free free act)).clock
free_clock t c free (Seg p now l f) = refl
free_clock t c free (Answer e a f) = refl
free_clock t c free (Time at l f) = refl
free_clock t c free (End at r l f) = refl

abbrev looks_of : Entry → List LookEntry
looks_of (E.Seg p now looks frees) = looks
looks_of (E.Answer ev ad frees) = []
looks_of (E.Time at looks frees) = looks
looks_of (E.End at r looks frees) = looks

abbrev frees_of : Entry → List Free
frees_of (E.Seg p now looks frees) = frees
frees_of (E.Answer ev ad frees) = frees
frees_of (E.Time at looks frees) = frees
frees_of (E.End at r looks frees) = frees

abbrev more_look : LookEntry → Entry → Entry
more_look look (E.Seg p now looks frees) = E.Seg p now (looks ++ look ∷ []) frees
more_look look (E.Answer ev ad frees) = E.Answer ev ad frees
more_look look (E.Time at looks frees) = E.Time at (looks ++ look ∷ []) frees
more_look look (E.End at r looks frees) = E.End at r (looks ++ look ∷ []) frees

abbrev more_free : Free → Entry → Entry
more_free free (E.Seg p now looks frees) = E.Seg p now looks (frees ++ free ∷ [])
more_free free (E.Answer ev ad frees) = E.Answer ev ad (frees ++ free ∷ [])
more_free free (E.Time at looks frees) = E.Time at looks (frees ++ free ∷ [])
more_free free (E.End at r looks frees) = E.End at r looks (frees ++ free ∷ [])

look_for : (look : LookEntry) (d : EntryKind) (ls : List LookEntry) (fs : List Free) → entry_for d (ls ++ look ∷ []) fs ≡ more_look look (entry_for d ls fs)
look_for look (D.Seg p now) ls fs = refl
look_for look (D.Answer ev ad) ls fs = refl
look_for look (D.Time at) ls fs = refl
look_for look (D.End at r) ls fs = refl

look_in : (look : LookEntry) (act : Act) → more_look look (entry_in act) ≡ entry_in (with_look look act)
look_in look (Seg p now l f) = refl
look_in look (Answer e a f) = refl
look_in look (Time at l f) = refl
look_in look (End at r l f) = refl

free_for : (free : Free) (d : EntryKind) (ls : List LookEntry) (fs : List Free) → entry_for d ls (fs ++ free ∷ []) ≡ more_free free (entry_for d ls fs)
free_for free (D.Seg p now) ls fs = refl
free_for free (D.Answer ev ad) ls fs = refl
free_for free (D.Time at) ls fs = refl
free_for free (D.End at r) ls fs = refl

free_in : (free : Free) (act : Act) → more_free free (entry_in act) ≡ entry_in (with_free free act)
free_in free (Seg p now l f) = refl
free_in free (Answer e a f) = refl
free_in free (Time at l f) = refl
free_in free (End at r l f) = refl

-- An entry whose conversation told what it wants next.
pub record Ready {C D : Type 0} (paid : C → Charge) (Stands : D → Talk → Phase → Type 0) (t : Terms) (m : Course) (desk : Desk D) (a : Active D) (w : Want C) : Type 0 where
  pub u : Under
  pub keeps : Keeps Stands t m desk
  pub active : IsActive t m u a
  pub fresh : IsFresh t m u
  pub turn : IsWantOf paid (λ k g. Stands a.talk k g) t (talk_before t m u) u.line.act u.emitted w

module _ {C D : Type 0} (paid : C → Charge) (Stands : D → Talk → Phase → Type 0) where
  pub ready_told : (t : Terms) (m : Course) (desk : Desk D) (a0 a1 a2 : Active D) (look : LookEntry) (granted : Option C) (w : Want C) (l : AtLook paid Stands t m desk a0 look granted)
      → a1.looks.items ≡ a0.looks.items ++ look ∷ [] → a1 ≡ record a0 { looks = a1.looks } → a2 ≡ record a1 { talk = a2.talk }
      → ((owed : Beside) → Stands a0.talk (beside (found_by (core_of t l.before) l.at.u.line) owed) (UnderWay l.at.u.line.act l.at.u.emitted)
      → IsWantOf paid (λ k g. Stands a2.talk k g) t (beside (found_by (core_of t l.before) l.at.u.line) owed) (with_look look l.at.u.line.act) l.at.u.emitted w)
      → Ready paid Stands t m desk a2 w
  ready_told t m desk a0 a1 a2 look granted w l e1 r1 r2 turn = subst (λ x. Ready paid Stands t x desk a2 w) (sym l.is) (record {
    u = with_act u act;
    keeps = kept_with Stands t l.before u act desk found (look_kind look u.line.act) none h.under l.at.keeps;
    active = active_with Stands t l.before u act a0 a2 found h (ap (λ (a : Active D). a.place) r2 ∙ ap (λ (a : Active D). a.place) r1) (ap (λ (a : Active D). a.number) r2 ∙ ap (λ (a : Active D). a.number) r1)
        (ap (λ (a : Active D). a.clock) r2 ∙ ap (λ (a : Active D). a.clock) r1)
        ((λ i. entry_for (r2 i).kind (r2 i).looks.items (r2 i).frees.items) ∙ (λ i. entry_for (r1 i).kind a1.looks.items (r1 i).frees.items) ∙ (λ i. entry_for a0.kind (e1 i) a0.frees.items)
        ∙ look_for look a0.kind a0.looks.items a0.frees.items ∙ ap (more_look look) h.entry ∙ look_in look u.line.act)
        (look_clock t (found_by (core_of t l.before) u.line) look u.line.act);
    fresh = inl none;
    turn = subst (λ c. IsWantOf paid (λ k g. Stands a2.talk k g) t (beside c (beside_of t l.before.lines u.line.conv)) act u.emitted w) found (turn (beside_of t l.before.lines u.line.conv) l.at.works.talk);
  })
    where
      u : Under
      u = l.at.u

      act : Act
      act = with_look look u.line.act

      h : IsActive t l.before u a0
      h = l.at.works.active

      none : u.emitted ≡ 0
      none = none_asked t l.before u l.request l.mark l.at.fresh l.at.wants

      found : found_by (core_of t l.before) u.line ≡ found_by (core_of t l.before) (record u.line { act = act })
      found = found_look (core_of t l.before) u.line.conv look u.line.act

  pub ready_freed : (t : Terms) (m : Course) (desk : Desk D) (a0 a1 a2 : Active D) (free : Free) (w : Want C) (l : AtFree Stands t m desk a0 free)
      → a1.frees.items ≡ a0.frees.items ++ free ∷ [] → a1 ≡ record a0 { frees = a1.frees } → a2 ≡ record a1 { talk = a2.talk }
      → ((owed : Beside) → Stands a0.talk (beside (found_by (core_of t l.before) l.at.u.line) owed) (UnderWay l.at.u.line.act l.at.u.emitted)
      → IsWantOf paid (λ k g. Stands a2.talk k g) t (beside (found_by (core_of t l.before) l.at.u.line) owed) (with_free free l.at.u.line.act) l.at.u.emitted w)
      → Ready paid Stands t m desk a2 w
  ready_freed t m desk a0 a1 a2 free w l e1 r1 r2 turn = subst (λ x. Ready paid Stands t x desk a2 w) (sym l.is) (record {
    u = with_act u act;
    keeps = kept_with Stands t l.before u act desk found (free_kind free u.line.act) none h.under l.at.keeps;
    active = active_with Stands t l.before u act a0 a2 found h (ap (λ (a : Active D). a.place) r2 ∙ ap (λ (a : Active D). a.place) r1) (ap (λ (a : Active D). a.number) r2 ∙ ap (λ (a : Active D). a.number) r1)
        (ap (λ (a : Active D). a.clock) r2 ∙ ap (λ (a : Active D). a.clock) r1)
        ((λ i. entry_for (r2 i).kind (r2 i).looks.items (r2 i).frees.items) ∙ (λ i. entry_for (r1 i).kind (r1 i).looks.items a1.frees.items) ∙ (λ i. entry_for a0.kind a0.looks.items (e1 i))
        ∙ free_for free a0.kind a0.looks.items a0.frees.items ∙ ap (more_free free) h.entry ∙ free_in free u.line.act)
        (free_clock t (found_by (core_of t l.before) u.line) free u.line.act);
    fresh = inl none;
    turn = subst (λ c. IsWantOf paid (λ k g. Stands a2.talk k g) t (beside c (beside_of t l.before.lines u.line.conv)) act u.emitted w) found (turn (beside_of t l.before.lines u.line.conv) l.at.works.talk);
  })
    where
      u : Under
      u = l.at.u

      act : Act
      act = with_free free u.line.act

      h : IsActive t l.before u a0
      h = l.at.works.active

      none : u.emitted ≡ 0
      none = none_given t l.before u l.charge l.at.fresh l.at.wants

      found : found_by (core_of t l.before) u.line ≡ found_by (core_of t l.before) (record u.line { act = act })
      found = found_free (core_of t l.before) u.line.conv free u.line.act

  pub ready_emitted : (t : Terms) (m : Course) (desk : Desk D) (a0 a2 : Active D) (w : Want C) (l : AtEvent Stands t m desk a0) → a2 ≡ record a0 { talk = a2.talk }
      → ((owed : Beside) → Stands a0.talk (beside (found_by (core_of t l.before) l.u.line) owed) (UnderWay l.u.line.act l.u.emitted)
      → IsWantOf paid (λ k g. Stands a2.talk k g) t (beside (found_by (core_of t l.before) l.u.line) owed) l.u.line.act (suc l.u.emitted) w)
      → Ready paid Stands t m desk a2 w
  ready_emitted t m desk a0 a2 w l r2 turn = subst (λ x. Keeps Stands t x desk → Ready paid Stands t x desk a2 w) (sym l.is) (λ k. record {
    u = record l.u { emitted = suc l.u.emitted };
    keeps = k;
    active = record {
      under = refl;
      place = (λ i. slice_get (is i) ((ap (λ (a : Active D). a.place) r2) i)) ∙ h.place;
      number = ap (λ (a : Active D). a.number) r2 ∙ h.number;
      entry = (λ i. entry_for (r2 i).kind (r2 i).looks.items (r2 i).frees.items) ∙ h.entry;
      clock = ap (λ (a : Active D). a.clock) r2 ∙ h.clock;
    };
    fresh = inr (event_next t (found_by (core_of t l.before) l.u.line) l.u.line.act l.u.emitted l.event l.wants).1;
    turn = turn (beside_of t l.before.lines l.u.line.conv) l.works.talk;
  }) l.keeps
    where
      h : IsActive t l.before l.u a0
      h = l.works.active

      is : present t (emitted l.before l.u) ≡ present t l.before
      is = sym (ap (with_under t (core_of t l.before)) h.under)
