-- An answer comes back.
use Rattle.std.specs.Prelude.{◌≡◌, refl, ℕ, suc, List, ◌∷◌, length, map, drop, Some, None, slice_get, slice_set, IfSome}
use Rattle.std.proofs.Common.{◌∙◌, ap, sym, subst}
use Rattle.evring.specs.declared.advice.Advice.{Advice}
use Rattle.prio_budget.specs.declared.free.Free.{Free}
use Rattle.chunkpart.specs.ChunkParts.{ChunkParts}
use Rattle.streamdefs.specs.Reorder.{Charge}
use Rattle.streamdefs.specs.Convo.{Convo}
use Rattle.streamdefs.specs.Convo.Act.{Answer}
use Rattle.streamdefs.specs.Core.{Core, Line, Open, Told}
use Rattle.streamdefs.specs.Lawful.{Handler}
use Rattle.convo.specs.Seen.{kept_for}
use Rattle.convo.specs.Talk.{Talk, Phase, IsOf, back_with, owed_for}
use Rattle.convo.specs.Talk.Phase.{Still}
use Rattle.coretable.specs.Course.{answer_line, begun}
use Rattle.coretable.specs.Lawfully.{IsSound}
use Rattle.coretable.specs.Orderly.{waiting_of}
use Rattle.coretable.specs.Standing.{beside, beside_of, Recalls, entry_in, ids_of, AreUnanswered, IsSlotOf, AreSlots, Keeps, hole_of, unanswered_with, with_under, job_of}
use Rattle.coretable.specs.Turns.{AtAnswer}
use Rattle.coretable.specs.declared.desk.Desk.{Desk}
use Rattle.coretable.specs.declared.slot.Slot.{Slot}
use Rattle.coretable.specs.declared.unanswered.Unanswered.{Unanswered}
use Rattle.coretable.proofs.Answers.{IsNextOf, answered, got_drop, next_of}
use Rattle.coretable.proofs.BeginLemmas.{Taken, begun_kept, slot_of}
use Rattle.coretable.proofs.CompleteLemmas.{get_found}
use Rattle.coretable.proofs.PlanLemmas.{got_unmapped}
use Rattle.coretable.proofs.Soundness.{at_rest}
use Rattle.streamdefs.specs.Terms.{Terms}
use Rattle.coretable.specs.Course.{Course, Under, core_of}
use Rattle.coretable.specs.Standing.{IsActive, entry_for, present}
use Rattle.coretable.specs.declared.active.Active.{Active}

-- with what is kept of its conversation changed
pub active_again : {D : Type 0} (t : Terms) (m : Course) (u : Under) (a b : Active D) → b ≡ record a { talk = b.talk } → IsActive t m u a → IsActive t m u b
active_again {D} t m u a b e h = record {
  under = h.under;
  place = (λ i. slice_get (present t m) (e i).place) ∙ h.place;
  number = ap (λ (x : Active D). x.number) e ∙ h.number;
  entry = (λ i. entry_for (e i).kind (e i).looks.items (e i).frees.items) ∙ h.entry;
  clock = ap (λ (x : Active D). x.clock) e ∙ h.clock;
}

-- an answer's entry begins
module _ {C D : Type 0} (paid : C → Charge) (Stands : D → Talk → Phase → Type 0) where
  pub at_back : (t : Terms) (last : ℕ) (handler : Handler) (m : Course) (told : Told) (d0 d1 d2 : Desk D) (a : Active D) (q : Unanswered) (number clock : ℕ) (x : D) (advice : Advice) (frees : List Free) (kept : List (ChunkParts C))
      → IsSound t last handler m → m.under ≡ None → Keeps Stands t m d0 → slice_get (core_of t m).events (core_of t m).answered ≡ Some told
      → length frees ≡ length (owed_for advice told.event) → map (kept_for paid) kept ≡ back_with advice told.event
      → d0.unanswered.items ≡ q ∷ d1.unanswered.items → d1 ≡ record d0 { unanswered = d1.unanswered }
      → IfSome (slice_get d1.slots.items q.place) (λ s. (number ≡ s.number) × (clock ≡ s.clock) × (s.talk ≡ Some x))
      → IfSome (slice_get d1.slots.items q.place) (λ s. d2.slots.items ≡ slice_set d1.slots.items q.place (record s { talk = None }))
      → d2 ≡ record d1 { slots = d2.slots }
      → a.place ≡ q.place → a.number ≡ number → a.clock ≡ clock → entry_for a.kind a.looks.items a.frees.items ≡ entry_in (Answer (suc (core_of t m).answered) advice frees) → a.talk ≡ x
      → AtAnswer paid Stands t (begun m (answer_line (core_of t m) told.conv advice frees)) d2 a q.of advice kept
  at_back t last handler m told d0 d1 d2 a q number clock x advice frees kept s under k next given returned q0 e1 tk sl e2 e_place e_number e_clock e_entry e_talk = record {
    u = record { line = line; emitted = 0 };
    number = suc core.answered;
    frees = frees;
    event = told.event;
    keeps = h.keeps;
    active = h.active;
    none = refl;
    line = refl;
    talk = subst (λ v. Stands a.talk (beside v (beside_of t m.lines told.conv)) Still) (sym h.found) (subst (λ y. Stands y (beside c (beside_of t m.lines told.conv)) Still) (sym e_talk) h.talk);
    answers = record { next = ap (λ (v : Convo). slice_get v.events v.answered) (h.found ∙ same) ∙ own.1.event; of_it = waits.1; given = given; returned = returned };
  }
    where
      core : Core
      core = core_of t m

      line : Line
      line = answer_line core told.conv advice frees

      queue : AreUnanswered (ids_of core.convos) (q ∷ d1.unanswered.items) (waiting_of core)
      queue = subst (λ l. AreUnanswered (ids_of core.convos) l (waiting_of core)) q0 (subst (λ z. AreUnanswered (ids_of (with_under t core z)) d0.unanswered.items (unanswered_with t core z)) under k.queue)

      waits : (slice_get (ids_of core.convos) q.place ≡ Some told.conv) × IsOf q.of told.event × AreUnanswered (ids_of core.convos) d1.unanswered.items (drop (suc core.answered) core.events)
      waits = subst (AreUnanswered (ids_of core.convos) (q ∷ d1.unanswered.items)) (got_drop core.events core.answered told next) queue

      there : (v : Convo) × (slice_get core.convos q.place ≡ Some (record { id = told.conv; convo = v }))
      there = got_unmapped core.convos q.place told.conv waits.0

      c : Convo
      c = there.0

      own : (v : Convo) × IsNextOf core told v
      own = next_of t last m.number m.clock m.job core told (at_rest t last handler m s under) next

      o : Open
      o = record { id = told.conv; convo = c }

      some_same : {X : Type 0} {y z : X} → Some y ≡ Some z → y ≡ z
      some_same e = cc

      same : c ≡ own.0
      same = some_same (sym (get_found 0 core.convos q.place o (at_rest t last handler m s under).rises there.1) ∙ own.1.found)

      slots1 : d1.slots.items ≡ d0.slots.items
      slots1 = λ i. (e1 i).slots.items

      slots : AreSlots (Recalls Stands t m.lines) None core.convos d0.slots.items
      slots = subst (λ l. AreSlots (Recalls Stands t m.lines) None l d0.slots.items) (ap (with_under t core) under) (subst (λ h. AreSlots (Recalls Stands t m.lines) h (present t m) d0.slots.items) (ap hole_of under) k.slots)

      here : (z : Slot D) × (slice_get d0.slots.items q.place ≡ Some z) × IsSlotOf (Recalls Stands t m.lines) None o z
      here = slot_of (Recalls Stands t m.lines) core.convos d0.slots.items q.place o slots there.1

      got : slice_get d1.slots.items q.place ≡ Some here.0
      got = ap (λ l. slice_get l q.place) slots1 ∙ here.1

      taken : (number ≡ here.0.number) × (clock ≡ here.0.clock) × (here.0.talk ≡ Some x)
      taken = subst (λ z. IfSome z (λ s. (number ≡ s.number) × (clock ≡ s.clock) × (s.talk ≡ Some x))) got tk

      left : d2.slots.items ≡ slice_set d0.slots.items q.place (record here.0 { talk = None })
      left = subst (λ z. IfSome z (λ s. d2.slots.items ≡ slice_set d1.slots.items q.place (record s { talk = None }))) got sl ∙ ap (λ l. slice_set l q.place (record here.0 { talk = None })) slots1

      h : Taken Stands t m o line.act d2 a x
      h = begun_kept Stands t m q.place o line.act d0 d2 a here.0 x (at_rest t last handler m s under).rises under k there.1 here.1 taken.2 left
          (ap (λ (d : Desk D). d.index) e2 ∙ ap (λ (d : Desk D). d.index) e1) (ap (λ (d : Desk D). d.dues) e2 ∙ ap (λ (d : Desk D). d.dues) e1) (ap (λ (d : Desk D). d.book) e2 ∙ ap (λ (d : Desk D). d.book) e1)
          (ap (λ (d : Desk D). d.answered) e2 ∙ ap (λ (d : Desk D). d.answered) e1) (ap (λ (d : Desk D). d.owed) e2 ∙ ap (λ (d : Desk D). d.owed) e1) (ap (λ (d : Desk D). d.cursor) e2 ∙ ap (λ (d : Desk D). d.cursor) e1)
          (ap (λ (d : Desk D). job_of d.job) e2 ∙ ap (λ (d : Desk D). job_of d.job) e1 ∙ k.job)
          (subst (λ l. AreUnanswered (ids_of core.convos) l (drop (suc core.answered) core.events)) (sym (λ i. (e2 i).unanswered.items)) waits.2)
          e_place (e_number ∙ taken.0) (e_clock ∙ taken.1 ∙ here.2.clock ∙ sym (answered t c (suc core.answered) advice frees).clock) e_entry
