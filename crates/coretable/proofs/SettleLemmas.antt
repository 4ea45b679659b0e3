-- What the entry under way wants next, and what stands behind it.
use Rattle.std.specs.Prelude.{◌≡◌, refl, ℕ, zero, suc, Bool, true, false, cond, List, [], ◌∷◌, ◌++◌, take, drop, map, Option, None, Some, slice_get}
use Rattle.std.proofs.Common.{sym, ◌∙◌, ap, subst}
use Rattle.std.proofs.lemmas.List.{map-append}
use mathlib.Core.List.{append_assoc}
use Rattle.streamdefs.specs.Terms.{Terms}
use Rattle.streamdefs.specs.Packet.{Packet}
use Rattle.streamdefs.specs.Reorder.{Charge}
use Rattle.streamdefs.specs.View.{Ask as Request}
use Rattle.streamdefs.specs.Convo.{Act, Convo, Event as EventMade, events_in}
use Rattle.streamdefs.specs.Convo.Event.{New as NewMade, Chunk as ChunkMade, Ended as EndedMade}
use Rattle.streamdefs.specs.Convo.Act.{Seg, Answer, Time, End}
use Rattle.streamdefs.specs.Direction.{Next}
use Rattle.streamdefs.specs.Direction.Next.{Asks, Gives, Rests as NoMove}
use Rattle.streamdefs.specs.Want.{Want as Wanted, want, next_move}
use Rattle.streamdefs.specs.Want.Want.{Reserve, Release, Emit as EmitWanted, Rest as RestWanted}
use Rattle.streamdefs.specs.Core.{Core, Open, Told, found_by, is_answer, latest_of}
use Rattle.coretable.specs.Course.{Course, Under, step, under_step, core_of, want_of, emitted, completed}
use Rattle.coretable.specs.Course.Stop.{Wants}
use Rattle.coretable.specs.Orderly.{waiting_of}
use Rattle.coretable.proofs.Soundness.{step_by}
use Rattle.coretable.proofs.WantLemmas.{take_next, got_mapped}
use Rattle.coretable.proofs.Wants.{move_of, event_of}
use Rattle.convo.specs.Talk.{Talk, Phase, IsOf, IsWantOf}
use Rattle.convo.specs.Talk.Phase.{Under as UnderWay}
use Rattle.convo.specs.Seen.{IsWant, IsEvent}
use Rattle.convo.specs.declared.want.Want.TheVariants.{Ask, Free, Emit}
use Rattle.evring.specs.declared.event.Event.{Event}
use Rattle.evring.specs.declared.event.Event.TheVariants as V
use Rattle.convo.specs.declared.answered_event.AnsweredEvent.{AnsweredEvent}
use Rattle.coretable.specs.declared.unanswered.Unanswered.{Unanswered}
use Rattle.coretable.specs.declared.active.Active.{Active}
use Rattle.coretable.specs.declared.desk.Desk.{Desk}
use Rattle.coretable.specs.declared.stage.Stage.TheVariants as S
use Rattle.coretable.specs.declared.turn.Turn.TheVariants as T
use Rattle.coretable.specs.Standing.{Recalls, talk_before, AreDue, kind_of, present, with_under, unanswered_with, ids_of, AreSlots, IsIndexed, AreUnanswered, IsOwedAt, AreEnded, job_of, place_of, hole_of, Keeps, IsActive, Works}
use Rattle.coretable.specs.Turns.{IsFresh, IsAt, Settles}

-- A step of a course with an entry under way.
pub step_under : (t : Terms) (m : Course) (u : Under) (w : Wanted) → m.under ≡ Some u → want_of t m u ≡ w → step t m ≡ under_step m u w
step_under t m u w e h = ap (step_by t m) e ∙ ap (under_step m u) h

-- Which want it is.
pub record IsReserve (paid_bytes paid_mark : ℕ) (w : Wanted) : Type 0 where
  pub request : Request
  pub is : w ≡ Reserve request paid_mark
  pub bytes : request.bytes ≡ paid_bytes

pub of_ask : {C : Type 0} (paid : C → Charge) (first : Packet) (w : Wanted) (bytes mark : ℕ) → IsWant paid first w (Ask bytes mark) → IsReserve bytes mark w
of_ask paid first (Reserve request upto) bytes mark h = record { request = request; is = ap (Reserve request) (sym h.1); bytes = sym h.0 }
of_ask paid first (Release charge) bytes mark h = absurd h
of_ask paid first (EmitWanted made) bytes mark h = absurd h
of_ask paid first RestWanted bytes mark h = absurd h

pub of_free : {C : Type 0} (paid : C → Charge) (first : Packet) (w : Wanted) (c : C) → IsWant paid first w (Free c) → w ≡ Release (paid c)
of_free paid first (Reserve request upto) c h = absurd h
of_free paid first (Release charge) c h = ap Release (sym h)
of_free paid first (EmitWanted made) c h = absurd h
of_free paid first RestWanted c h = absurd h

pub record IsEmit {C : Type 0} (paid : C → Charge) (first : Packet) (event : Event C) (w : Wanted) : Type 0 where
  pub made : EventMade
  pub is : w ≡ EmitWanted made
  pub fits : IsEvent paid first made event

pub of_event : {C : Type 0} (paid : C → Charge) (first : Packet) (w : Wanted) (event : Event C) → IsWant paid first w (Emit event) → IsEmit paid first event w
of_event paid first (Reserve request upto) event h = absurd h
of_event paid first (Release charge) event h = absurd h
of_event paid first (EmitWanted made) event h = record { made = made; is = refl; fits = h }
of_event paid first RestWanted event h = absurd h

pub kind_fits : {C : Type 0} (paid : C → Charge) (first : Packet) (made : EventMade) (event : Event C) → IsEvent paid first made event → IsOf (kind_of event) made
kind_fits paid first NewMade (V.New conv proto source target) h = tt
kind_fits paid first NewMade (V.Chunk conv way key kept chunk) h = absurd h
kind_fits paid first NewMade (V.Ended conv reason) h = absurd h
kind_fits paid first (ChunkMade d) (V.New conv proto source target) h = absurd h
kind_fits paid first (ChunkMade d) (V.Chunk conv way key kept chunk) h = h.1
kind_fits paid first (ChunkMade d) (V.Ended conv reason) h = absurd h
kind_fits paid first (EndedMade r) (V.New conv proto source target) h = absurd h
kind_fits paid first (EndedMade r) (V.Chunk conv way key kept chunk) h = absurd h
kind_fits paid first (EndedMade r) (V.Ended conv reason) h = tt

-- The event that is wanted is the entry's next one.
wanted_event : (o : Option EventMade) (made : EventMade) → event_of o ≡ EmitWanted made → o ≡ Some made
wanted_event (Some e) made h = let same : e ≡ made = cc in ap Some same
wanted_event None made h = absurd cc

next_event : (t : Terms) (c : Convo) (act : Act) (n : ℕ) (x : Next) (made : EventMade) → move_of t c act n x ≡ EmitWanted made → (slice_get (events_in t c act) n ≡ Some made) × (x ≡ NoMove)
next_event t c act n (Asks a) made h = absurd cc
next_event t c act n (Gives charge) made h = absurd cc
next_event t c act n NoMove made h = (wanted_event (slice_get (events_in t c act) n) made h, refl)

pub event_next : (t : Terms) (c : Convo) (act : Act) (n : ℕ) (made : EventMade) → want t c act n ≡ EmitWanted made → (slice_get (events_in t c act) n ≡ Some made) × (next_move t c act ≡ NoMove)
event_next t c act n made h = next_event t c act n (next_move t c act) made h

-- An event more waits.
waits_more : (ids : List ℕ) (qs : List Unanswered) (ts : List Told) (q : Unanswered) (w : Told) → AreUnanswered ids qs ts → slice_get ids q.place ≡ Some w.conv → IsOf q.of w.event
    → AreUnanswered ids (qs ++ q ∷ []) (ts ++ w ∷ [])
waits_more ids [] [] q w h g f = (g, f, tt)
waits_more ids [] (x ∷ ts) q w h g f = absurd h
waits_more ids (x ∷ qs) [] q w h g f = absurd h
waits_more ids (x ∷ qs) (y ∷ ts) q w h g f = (h.0, h.1, waits_more ids qs ts q w h.2 g f)

emits_one : (t : Terms) (core : Core) (u : Under) (made : EventMade) (b : Bool) → is_answer u.line.act ≡ b → slice_get (events_in t (found_by core u.line) u.line.act) u.emitted ≡ Some made
    → cond b (drop (suc core.answered) core.events) (waiting_of core ++ map (λ event. record { conv = u.line.conv; event = event }) (take (suc u.emitted) (events_in t (found_by core u.line) u.line.act)))
    ≡ cond b (drop (suc core.answered) core.events) (waiting_of core ++ map (λ event. record { conv = u.line.conv; event = event }) (take u.emitted (events_in t (found_by core u.line) u.line.act))) ++ record { conv = u.line.conv; event = made } ∷ []
emits_one t core u made true e g = absurd (none u.line.act e g)
  where
    gone : (n : ℕ) (made : EventMade) → slice_get [] n ≡ Some made → ⊥
    gone zero made e = cc
    gone (suc n) made e = cc

    none : (act : Act) → is_answer act ≡ true → slice_get (events_in t (found_by core u.line) act) u.emitted ≡ Some made → ⊥
    none (Answer ev ad frees) e g = gone u.emitted made g
    none (Seg p now ls fs) e g = absurd cc
    none (Time at ls fs) e g = absurd cc
    none (End at r ls fs) e g = absurd cc
emits_one t core u made false e g =
    ap (λ l. waiting_of core ++ map (λ event. record { conv = u.line.conv; event = event }) l) (take_next (events_in t (found_by core u.line) u.line.act) u.emitted made g)
    ∙ ap (λ l. waiting_of core ++ l) (map-append (λ (event : EventMade). record { conv = u.line.conv; event = event }) (take u.emitted (events_in t (found_by core u.line) u.line.act)) (made ∷ []))
    ∙ sym (append_assoc (waiting_of core) _ _)

module _ {D : Type 0} (Stands : D → Talk → Phase → Type 0) where
  pub kept_emitted : (t : Terms) (m : Course) (u : Under) (a : Active D) (old new : Desk D) (of : AnsweredEvent) (made : EventMade) → Keeps Stands t m old → IsActive t m u a → want_of t m u ≡ EmitWanted made
      → IsOf of made → new.unanswered.items ≡ old.unanswered.items ++ record { place = a.place; of = of } ∷ [] → new ≡ record old { unanswered = new.unanswered }
      → Keeps Stands t (emitted m u) new
  kept_emitted t m u a old new of made k act w kind q e = record {
    slots = subst (λ l. AreSlots (Recalls Stands t m.lines) (Some u.line.conv) l new.slots.items) is
        (subst (λ h. AreSlots (Recalls Stands t m.lines) h (present t m) new.slots.items) (ap hole_of act.under) (subst (AreSlots (Recalls Stands t m.lines) (hole_of m.under) (present t m)) (sym (λ i. (e i).slots.items)) k.slots));
    index = λ key. subst (λ l. IsIndexed l (place_of new key) (latest_of key l)) is (subst (λ d. IsIndexed (present t m) (place_of d key) (latest_of key (present t m))) (sym e) (k.index key));
    dues = subst (λ l. AreDue t (Some u.line.conv) l new.dues) is (subst (λ h. AreDue t h (present t m) new.dues) (ap hole_of act.under) (subst (λ (d : Desk D). AreDue t (hole_of m.under) (present t m) d.dues) (sym e) k.dues));
    queue = subst (λ l. AreUnanswered (ids_of (with_under t (core_of t m) (Some u))) l (unanswered_with t (core_of t m) (emitted m u).under)) (sym q)
        (subst (AreUnanswered (ids_of (with_under t (core_of t m) (Some u))) (old.unanswered.items ++ record { place = a.place; of = of } ∷ []))
        (sym (emits_one t (core_of t m) u made (is_answer u.line.act) refl (event_next t (found_by (core_of t m) u.line) u.line.act u.emitted made w).0))
        (waits_more (ids_of (with_under t (core_of t m) (Some u))) old.unanswered.items (unanswered_with t (core_of t m) (Some u)) (record { place = a.place; of = of }) (record { conv = u.line.conv; event = made })
        (subst (λ o. AreUnanswered (ids_of (with_under t (core_of t m) o)) old.unanswered.items (unanswered_with t (core_of t m) o)) act.under k.queue)
        (got_mapped (λ (o : Open). o.id) (with_under t (core_of t m) (Some u)) a.place (record { id = u.line.conv; convo = found_by (core_of t m) u.line }) (ap (λ l. slice_get l a.place) (sym is) ∙ act.place))
        kind));
    book = (λ i. (e i).book.items) ∙ k.book;
    answered = ap (λ (d : Desk D). d.answered) e ∙ k.answered;
    owed = subst (λ l. IsOwedAt (ids_of l) new.owed (core_of t m).owed) is (subst (λ d. IsOwedAt (ids_of (present t m)) d.owed (core_of t m).owed) (sym e) k.owed);
    job = ap (λ (d : Desk D). job_of d.job) e ∙ k.job;
    cursor = subst (AreEnded new.cursor) is (subst (λ d. AreEnded d.cursor (present t m)) (sym e) k.cursor);
  }
    where
      is : present t m ≡ with_under t (core_of t m) (Some u)
      is = ap (with_under t (core_of t m)) act.under

  -- What a want makes of the table.
  works_on : {C : Type 0} (paid : C → Charge) (t : Terms) (m : Course) (u : Under) (a : Active D) → IsActive t m u a
      → Stands a.talk (talk_before t m u) (UnderWay u.line.act u.emitted) → Works Stands t m u a
  works_on paid t m u a act st = record { active = act; talk = st }

  pub rests : {C : Type 0} (paid : C → Charge) (t : Terms) (m : Course) (u : Under) (desk : Desk D) → m.under ≡ Some u → want_of t m u ≡ RestWanted → Keeps Stands t (completed m u) desk
      → Settles paid Stands t m desk S.Rests None
  rests paid t m u desk e w k = (completed m u, step_under t m u RestWanted e w, (refl, k))

  pub asks : {C : Type 0} (paid : C → Charge) (t : Terms) (m : Course) (u : Under) (a : Active D) (desk : Desk D) (bytes mark : ℕ) → Keeps Stands t m desk → IsActive t m u a → IsFresh t m u
      → IsWantOf paid (λ k g. Stands a.talk k g) t (talk_before t m u) u.line.act u.emitted (Ask bytes mark)
      → Settles paid Stands t m desk (S.Asked a bytes mark) (Some (T.Ask bytes mark))
  asks paid t m u a desk bytes mark k act f turn =
      let r = of_ask paid (found_by (core_of t m) u.line).first (want_of t m u) bytes mark turn.0 in (
        Wants (Reserve r.request mark),
        step_under t m u (Reserve r.request mark) act.under r.is,
        (r.bytes, refl),
        (r.request, r.bytes, record { u = u; keeps = k; works = works_on paid t m u a act turn.1; fresh = f; wants = r.is }),
      )

  pub frees : {C : Type 0} (paid : C → Charge) (t : Terms) (m : Course) (u : Under) (a : Active D) (desk : Desk D) (c : C) (bytes stamp : ℕ) → bytes ≡ (paid c).bytes → Keeps Stands t m desk → IsActive t m u a → IsFresh t m u
      → IsWantOf paid (λ k g. Stands a.talk k g) t (talk_before t m u) u.line.act u.emitted (Free c)
      → Settles paid Stands t m desk (S.Freeing a bytes stamp) (Some (T.Free c))
  frees paid t m u a desk c bytes stamp e k act f turn =
      let w = of_free paid (found_by (core_of t m) u.line).first (want_of t m u) c turn.0 in (
        Wants (Release (paid c)),
        step_under t m u (Release (paid c)) act.under w,
        refl,
        (paid c, sym e, record { u = u; keeps = k; works = works_on paid t m u a act turn.1; fresh = f; wants = w }),
      )

  pub emits : {C : Type 0} (paid : C → Charge) (t : Terms) (m : Course) (u : Under) (a : Active D) (old new : Desk D) (event : Event C) → Keeps Stands t m old → IsActive t m u a → IsFresh t m u
      → IsWantOf paid (λ k g. Stands a.talk k g) t (talk_before t m u) u.line.act u.emitted (Emit event)
      → new.unanswered.items ≡ old.unanswered.items ++ record { place = a.place; of = kind_of event } ∷ [] → new ≡ record old { unanswered = new.unanswered }
      → Settles paid Stands t m new (S.Emitted a) (Some (T.Emit event))
  emits paid t m u a old new event k act f turn q e =
      let w = of_event paid (found_by (core_of t m) u.line).first (want_of t m u) event turn.0 in (
        Wants (EmitWanted w.made),
        step_under t m u (EmitWanted w.made) act.under w.is,
        (u, act.under, w.fits),
        subst (λ o. IsAt paid Stands t (handed o) new (S.Emitted a)) (sym act.under)
            (record {
              before = m;
              u = u;
              event = w.made;
              keeps = kept_emitted t m u a old new (kind_of event) w.made k act w.is (kind_fits paid (found_by (core_of t m) u.line).first w.made event w.fits) q e;
              works = works_on paid t m u a act turn.1;
              fresh = f;
              wants = w.is;
              is = refl;
            }),
      )
    where
      handed : Option Under → Course
      handed None = m
      handed (Some v) = emitted m v

pub asks_again : {C D : Type 0} (paid : C → Charge) (Stands : D → Talk → Phase → Type 0) (t : Terms) (m : Course) (desk : Desk D) (a : Active D) (bytes mark : ℕ) → IsAt paid Stands t m desk (S.Again a bytes mark)
    → Settles paid Stands t m desk (S.Asked a bytes mark) (Some (T.Ask bytes mark))
asks_again paid Stands t m desk a bytes mark h =
    (Wants (Reserve h.0 mark), step_under t m h.2.u (Reserve h.0 mark) h.2.works.active.under h.2.wants, (h.1, refl), h)
