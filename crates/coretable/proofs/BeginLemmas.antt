-- An entry of a conversation that is there begins.
use Rattle.std.specs.Prelude.{◌≡◌, refl, ℕ, zero, suc, ◌≤◌, Bool, true, false, cond, not, ◌==◌, List, [], ◌∷◌, ◌++◌, take, drop, map, Option, None, Some, slice_get, slice_set, IfSome}
use Rattle.std.proofs.Common.{inl, sym, ◌∙◌, ap, arith, subst, append-nil}
use Rattle.std.proofs.lemmas.Bool.Decides.{nat_tests}
use Rattle.streamdefs.specs.Terms.{Terms}
use Rattle.streamdefs.specs.Reorder.{Charge}
use Rattle.streamdefs.specs.Convo.{Act, after, events_in, is_live}
use Rattle.streamdefs.specs.Core.{Core, Line, Open, found_by, find_convo, put_convo, is_answer, latest_of}
use Rattle.streamdefs.proofs.Histories.{found_is}
use Rattle.coretable.specs.Course.{Course, Under, core_of, begun, job_behind}
use Rattle.coretable.specs.Orderly.{Rises, waiting_of}
use Rattle.coretable.proofs.Places.{rises_above, NoneHas, same_number}
use Rattle.convo.specs.Talk.{Talk, Phase, IsWantOf}
use Rattle.convo.specs.Talk.Phase.{Still}
use Rattle.convo.specs.declared.want.Want.{Want}
use Rattle.indexmap.specs.IndexMap.{get}
use Rattle.streamkey.specs.contracts.key.KeyPartialEq.TheImpl as key_eq
use Rattle.coretable.specs.declared.slot.Slot.{Slot}
use Rattle.coretable.specs.declared.job.Job.TheVariants as J
use Rattle.streamkey.specs.declared.packet.Packet.{Packet as PacketKept}
use Rattle.convo.specs.Seen.{packet_of}
use Rattle.streamdefs.specs.Convo.Act.{Seg}
use Rattle.coretable.specs.declared.active.Active.{Active}
use Rattle.coretable.specs.declared.desk.Desk.{Desk}
use Rattle.coretable.specs.Standing.{Beside, beside, beside_of, Recalls, AreDue, IsActive, entry_in, entry_for, present, with_under, unanswered_with, ids_of, KeepsTalk, IsSlotOf, AreSlots, IsIndexed, AreUnanswered, IsOwedAt, AreEnded, job_of, place_of, hole_of, Keeps}
use Rattle.coretable.proofs.Slots.{put_same, dues_taken}
use Rattle.coretable.proofs.CompleteLemmas.{get_found}
use Rattle.coretable.proofs.AnswerLemmas.{Ready}

-- with no event handed over
pub waits_begun : (t : Terms) (core : Core) (line : Line) → is_answer line.act ≡ false → unanswered_with t core (Some (record { line = line; emitted = 0 })) ≡ waiting_of core
waits_begun t core line e =
    ap (λ b. cond b (drop (suc core.answered) core.events) (waiting_of core ++ map (λ event. record { conv = line.conv; event = event }) (take 0 (events_in t (found_by core line) line.act)))) e
    ∙ append-nil (waiting_of core)

module _ {D : Type 0} (Is : Open → D → Type 0) where
  -- the slots, once what is kept of a conversation is taken out
  pub emptied : (id : ℕ) (os : List Open) (ss : List (Slot D)) → NoneHas id os → AreSlots Is None os ss → AreSlots Is (Some id) os ss
  emptied id [] [] n h = tt
  emptied id [] (s ∷ ss) n h = absurd h
  emptied id (o ∷ os) [] n h = absurd h
  emptied id (o ∷ os) (s ∷ ss) n h =
      (record { number = h.0.number; key = h.0.key; clock = h.0.clock; talk = subst (λ b. KeepsTalk Is b o s.talk) (sym (turned id o.id n.0)) h.0.talk }, emptied id os ss n.1 h.1)
    where
      turned : (a b : ℕ) → (b == a) ≡ false → (a == b) ≡ false
      turned a b e = grind (arith, nat_tests)

  least : (from : ℕ) (os : List Open) (place : ℕ) (o : Open) → Rises from os → slice_get os place ≡ Some o → from ≤ o.id
  least from [] zero o r g = absurd cc
  least from [] (suc n) o r g = absurd cc
  least from (z ∷ os) zero o r g = let same : z ≡ o = cc in subst (λ (w : Open). from ≤ w.id) same r.0
  least from (z ∷ os) (suc n) o r g = omega (arith, r.0, least (suc z.id) os n o r.2 g)

  pub slots_take : (from place : ℕ) (os : List Open) (o : Open) (ss : List (Slot D)) (s : Slot D) → Rises from os → AreSlots Is None os ss → slice_get os place ≡ Some o → slice_get ss place ≡ Some s
      → AreSlots Is (Some o.id) os (slice_set ss place (record s { talk = None }))
  slots_take from zero [] o ss s r h g gs = absurd cc
  slots_take from (suc n) [] o ss s r h g gs = absurd cc
  slots_take from place (x ∷ os) o [] s r h g gs = absurd h
  slots_take from zero (x ∷ os) o (y ∷ ss) s r h g gs =
      let same_o : x ≡ o = cc in
      let same_s : y ≡ s = cc in (
        record {
          number = sym (ap (λ (z : Slot D). z.number) same_s) ∙ h.0.number;
          key = sym (ap (λ (z : Slot D). z.key) same_s) ∙ h.0.key;
          clock = sym (ap (λ (z : Slot D). z.clock) same_s) ∙ h.0.clock;
          talk = subst (λ b. KeepsTalk Is b x None) (sym (ap (λ (z : Open). z.id == x.id) (sym same_o) ∙ same_number x.id)) refl;
        },
        emptied o.id os ss (subst (λ (z : Open). NoneHas z.id os) same_o (rises_above x.id (suc x.id) os (omega arith) r.2)) h.1,
      )
  slots_take from (suc place) (x ∷ os) o (y ∷ ss) s r h g gs =
      let above : suc x.id ≤ o.id = least (suc x.id) os place o r.2 g in
      (record { number = h.0.number; key = h.0.key; clock = h.0.clock; talk = subst (λ b. KeepsTalk Is b x y.talk) (sym (differ o.id x.id above)) h.0.talk }, slots_take (suc x.id) place os o ss s r.2 h.1 g gs)
    where
      differ : (a b : ℕ) → suc b ≤ a → (a == b) ≡ false
      differ a b l = grind (arith, nat_tests)

  -- what stands at a place
  pub slot_of : (os : List Open) (ss : List (Slot D)) (place : ℕ) (o : Open) → AreSlots Is None os ss → slice_get os place ≡ Some o → (s : Slot D) × (slice_get ss place ≡ Some s) × IsSlotOf Is None o s
  slot_of [] [] zero o h g = absurd cc
  slot_of [] [] (suc n) o h g = absurd cc
  slot_of [] (s ∷ ss) n o h g = absurd h
  slot_of (x ∷ os) [] n o h g = absurd h
  slot_of (x ∷ os) (s ∷ ss) zero o h g = let same : x ≡ o = cc in (s, refl, subst (λ z. IsSlotOf Is None z s) same h.0)
  slot_of (x ∷ os) (s ∷ ss) (suc n) o h g = slot_of os ss n o h.1 g

  some_talk : (o : Open) (talk : Option D) (x : D) → talk ≡ Some x → KeepsTalk Is false o talk → Is o x
  some_talk o None x e h = absurd h
  some_talk o (Some y) x e h = let same : y ≡ x = cc in subst (Is o) same h

module _ {D : Type 0} (Stands : D → Talk → Phase → Type 0) where
  -- what is kept once a conversation's entry has begun, without a look, a release or an event
  pub record Taken (t : Terms) (m : Course) (o : Open) (act : Act) (new : Desk D) (a : Active D) (x : D) : Type 0 where
    pub keeps : Keeps Stands t (begun m (record { conv = o.id; act = act })) new
    pub active : IsActive t (begun m (record { conv = o.id; act = act })) (record { line = record { conv = o.id; act = act }; emitted = 0 }) a
    pub talk : Recalls Stands t m.lines o x
    pub found : found_by (core_of t m) (record { conv = o.id; act = act }) ≡ o.convo

  pub begun_kept : (t : Terms) (m : Course) (place : ℕ) (o : Open) (act : Act) (old new : Desk D) (a : Active D) (s : Slot D) (x : D)
      → Rises 0 (core_of t m).convos → m.under ≡ None → Keeps Stands t m old → slice_get (core_of t m).convos place ≡ Some o → slice_get old.slots.items place ≡ Some s → s.talk ≡ Some x
      → new.slots.items ≡ slice_set old.slots.items place (record s { talk = None }) → new.index ≡ old.index → new.dues ≡ old.dues → new.book ≡ old.book → new.answered ≡ old.answered → new.owed ≡ old.owed → new.cursor ≡ old.cursor
      → job_of new.job ≡ job_behind act m.job → AreUnanswered (ids_of (core_of t m).convos) new.unanswered.items (unanswered_with t (core_of t m) (Some (record { line = record { conv = o.id; act = act }; emitted = 0 })))
      → a.place ≡ place → a.number ≡ s.number → a.clock ≡ (after t o.convo act).clock → entry_for a.kind a.looks.items a.frees.items ≡ entry_in act
      → Taken t m o act new a x
  begun_kept t m place o act old new a s x rises under k at gs st e_slots e_index e_dues e_book e_answered e_owed e_cursor e_job queue e_place e_number e_clock e_entry = record {
    keeps = record {
      slots = subst (AreSlots (Recalls Stands t m.lines) (Some o.id) (present t (begun m line))) (sym e_slots)
          (subst (λ l. AreSlots (Recalls Stands t m.lines) (Some o.id) l (slice_set old.slots.items place (record s { talk = None }))) (sym is)
          (slots_take (Recalls Stands t m.lines) 0 place (core_of t m).convos o old.slots.items s rises slots at gs));
      index = λ key. subst (λ l. IsIndexed l (place_of new key) (latest_of key l)) (was ∙ sym is)
          (subst (λ i. IsIndexed (present t m) (get key_eq.eq-value.it i key) (latest_of key (present t m))) (sym e_index) (k.index key));
      dues = subst (λ d. AreDue t (Some o.id) (present t (begun m line)) d) (sym e_dues)
          (subst (λ l. AreDue t (Some o.id) l old.dues) (was ∙ sym is) (dues_taken t o.id (present t m) old.dues (subst (λ h. AreDue t h (present t m) old.dues) (ap hole_of under) k.dues)));
      queue = subst (λ l. AreUnanswered (ids_of l) new.unanswered.items (unanswered_with t (core_of t m) (Some u))) (sym is) queue;
      book = (λ i. (e_book i).items) ∙ k.book;
      answered = e_answered ∙ k.answered;
      owed = subst (λ z. IsOwedAt (ids_of (present t (begun m line))) z (core_of t m).owed) (sym e_owed) (subst (λ l. IsOwedAt (ids_of l) old.owed (core_of t m).owed) (was ∙ sym is) k.owed);
      job = e_job;
      cursor = subst (λ n. AreEnded n (present t (begun m line))) (sym e_cursor) (subst (AreEnded old.cursor) (was ∙ sym is) k.cursor);
    };
    active = record {
      under = refl;
      place = (λ i. slice_get (is i) (e_place i)) ∙ at ∙ (λ i. Some (record { id = o.id; convo = sym found i }));
      number = e_number ∙ here.number;
      entry = e_entry;
      clock = e_clock ∙ ap (λ c. (after t c act).clock) (sym found);
    };
    talk = talk;
    found = found;
  }
    where
      line : Line
      line = record { conv = o.id; act = act }

      u : Under
      u = record { line = line; emitted = 0 }

      known : find_convo o.id (core_of t m).convos ≡ Some o.convo
      known = get_found 0 (core_of t m).convos place o rises at

      found : found_by (core_of t m) line ≡ o.convo
      found = found_is (core_of t m) line o.convo known

      is : present t (begun m line) ≡ (core_of t m).convos
      is = ap (λ c. put_convo o.id c (core_of t m).convos) found ∙ put_same o.id o.convo (core_of t m).convos known

      was : present t m ≡ (core_of t m).convos
      was = ap (with_under t (core_of t m)) under

      slots : AreSlots (Recalls Stands t m.lines) None (core_of t m).convos old.slots.items
      slots = subst (λ l. AreSlots (Recalls Stands t m.lines) None l old.slots.items) was (subst (λ h. AreSlots (Recalls Stands t m.lines) h (present t m) old.slots.items) (ap hole_of under) k.slots)

      there : (z : Slot D) × (slice_get old.slots.items place ≡ Some z) × IsSlotOf (Recalls Stands t m.lines) None o z
      there = slot_of (Recalls Stands t m.lines) (core_of t m).convos old.slots.items place o slots at

      some_same : {y z : Slot D} → Some y ≡ Some z → y ≡ z
      some_same e = cc

      here : IsSlotOf (Recalls Stands t m.lines) None o s
      here = subst (IsSlotOf (Recalls Stands t m.lines) None o) (some_same (sym there.1 ∙ gs)) there.2

      talk : Recalls Stands t m.lines o x
      talk = some_talk (Recalls Stands t m.lines) o s.talk x st here.talk

  pub ready_begun : {C : Type 0} (paid : C → Charge) (t : Terms) (m : Course) (place : ℕ) (o : Open) (act : Act) (old new : Desk D) (a : Active D) (s : Slot D) (x : D) (w : Want C)
      → Rises 0 (core_of t m).convos → m.under ≡ None → Keeps Stands t m old → slice_get (core_of t m).convos place ≡ Some o → slice_get old.slots.items place ≡ Some s → s.talk ≡ Some x
      → new.slots.items ≡ slice_set old.slots.items place (record s { talk = None }) → new.index ≡ old.index → new.dues ≡ old.dues → new.book ≡ old.book → new.answered ≡ old.answered → new.owed ≡ old.owed → new.cursor ≡ old.cursor
      → job_of new.job ≡ job_behind act m.job → AreUnanswered (ids_of (core_of t m).convos) new.unanswered.items (unanswered_with t (core_of t m) (Some (record { line = record { conv = o.id; act = act }; emitted = 0 })))
      → a.place ≡ place → a.number ≡ s.number → a.clock ≡ (after t o.convo act).clock → entry_for a.kind a.looks.items a.frees.items ≡ entry_in act
      → ((owed : Beside) → Stands x (beside (o.convo) owed) Still → IsWantOf paid (λ k g. Stands a.talk k g) t (beside (o.convo) owed) act 0 w)
      → Ready paid Stands t (begun m (record { conv = o.id; act = act })) new a w
  ready_begun paid t m place o act old new a s x w rises under k at gs st e_slots e_index e_dues e_book e_answered e_owed e_cursor e_job queue e_place e_number e_clock e_entry turn =
      let h = begun_kept t m place o act old new a s x rises under k at gs st e_slots e_index e_dues e_book e_answered e_owed e_cursor e_job queue e_place e_number e_clock e_entry in
      record {
        u = record { line = record { conv = o.id; act = act }; emitted = 0 };
        keeps = h.keeps;
        active = h.active;
        fresh = inl refl;
        turn = subst (λ c. IsWantOf paid (λ k g. Stands a.talk k g) t (beside c (beside_of t m.lines o.id)) act 0 w) (sym h.found) (turn (beside_of t m.lines o.id) h.talk);
      }

  -- the same by what the code takes out of the slot
  pub ready_taken : {C : Type 0} (paid : C → Charge) (t : Terms) (m : Course) (place : ℕ) (o : Open) (act : Act) (old new : Desk D) (a : Active D) (number clock : ℕ) (x : D) (w : Want C)
      → Rises 0 (core_of t m).convos → m.under ≡ None → Keeps Stands t m old → slice_get (core_of t m).convos place ≡ Some o → is_answer act ≡ false → job_behind act m.job ≡ m.job
      → IfSome (slice_get old.slots.items place) (λ s. (number ≡ s.number) × (clock ≡ s.clock) × (s.talk ≡ Some x))
      → IfSome (slice_get old.slots.items place) (λ s. new.slots.items ≡ slice_set old.slots.items place (record s { talk = None }))
      → new ≡ record old { slots = new.slots }
      → a.place ≡ place → a.number ≡ number → a.clock ≡ clock → (after t o.convo act).clock ≡ o.convo.clock → entry_for a.kind a.looks.items a.frees.items ≡ entry_in act
      → ((owed : Beside) → Stands x (beside (o.convo) owed) Still → IsWantOf paid (λ k g. Stands a.talk k g) t (beside (o.convo) owed) act 0 w)
      → Ready paid Stands t (begun m (record { conv = o.id; act = act })) new a w
  ready_taken paid t m place o act old new a number clock x w rises under k at na same_job tk sl rest e_place e_number e_clock still e_entry turn =
      ready_begun paid t m place o act old new a there.0 x w rises under k at there.1 got.2
      (subst (λ z. IfSome z (λ s. new.slots.items ≡ slice_set old.slots.items place (record s { talk = None }))) there.1 sl)
      (ap (λ (d : Desk D). d.index) rest) (ap (λ (d : Desk D). d.dues) rest) (ap (λ (d : Desk D). d.book) rest) (ap (λ (d : Desk D). d.answered) rest) (ap (λ (d : Desk D). d.owed) rest) (ap (λ (d : Desk D). d.cursor) rest)
      (ap (λ (d : Desk D). job_of d.job) rest ∙ k.job ∙ sym same_job)
      (subst (AreUnanswered (ids_of (core_of t m).convos) new.unanswered.items) (sym (waits_begun t (core_of t m) (record { conv = o.id; act = act }) na))
      (subst (λ q. AreUnanswered (ids_of (core_of t m).convos) q (waiting_of (core_of t m))) (sym (λ i. (rest i).unanswered.items))
      (subst (λ z. AreUnanswered (ids_of (with_under t (core_of t m) z)) old.unanswered.items (unanswered_with t (core_of t m) z)) under k.queue)))
      e_place (e_number ∙ got.0) (e_clock ∙ got.1 ∙ there.2.clock ∙ sym still) e_entry turn
    where
      slots : AreSlots (Recalls Stands t m.lines) None (core_of t m).convos old.slots.items
      slots = subst (λ l. AreSlots (Recalls Stands t m.lines) None l old.slots.items) (ap (with_under t (core_of t m)) under) (subst (λ h. AreSlots (Recalls Stands t m.lines) h (present t m) old.slots.items) (ap hole_of under) k.slots)

      there : (z : Slot D) × (slice_get old.slots.items place ≡ Some z) × IsSlotOf (Recalls Stands t m.lines) None o z
      there = slot_of (Recalls Stands t m.lines) (core_of t m).convos old.slots.items place o slots at

      got : (number ≡ there.0.number) × (clock ≡ there.0.clock) × (there.0.talk ≡ Some x)
      got = subst (λ z. IfSome z (λ s. (number ≡ s.number) × (clock ≡ s.clock) × (s.talk ≡ Some x))) there.1 tk

  -- a packet's entry
  pub ready_seg : {C : Type 0} (paid : C → Charge) (t : Terms) (m : Course) (place : ℕ) (o : Open) (p : PacketKept) (d0 d1 d2 : Desk D) (a : Active D) (number clock : ℕ) (ended : Bool) (x : D) (w : Want C)
      → Rises 0 (core_of t m).convos → m.under ≡ None → Keeps Stands t m d0 → slice_get (core_of t m).convos place ≡ Some o
      → d1 ≡ record d0 { job = J.Nothing }
      → IfSome (slice_get d1.slots.items place) (λ s. (number ≡ s.number) × (clock ≡ s.clock) × (s.talk ≡ Some x))
      → IfSome (slice_get d1.slots.items place) (λ s. d2.slots.items ≡ slice_set d1.slots.items place (record s { talk = None }))
      → d2 ≡ record d1 { slots = d2.slots }
      → ((owed : Beside) → Stands x (beside (o.convo) owed) Still → ended ≡ not (is_live o.convo))
      → a.place ≡ place → a.number ≡ number → a.clock ≡ cond ended clock p.now → entry_for a.kind a.looks.items a.frees.items ≡ entry_in (Seg (packet_of p) p.now [] [])
      → ((owed : Beside) → Stands x (beside (o.convo) owed) Still → IsWantOf paid (λ k g. Stands a.talk k g) t (beside (o.convo) owed) (Seg (packet_of p) p.now [] []) 0 w)
      → Ready paid Stands t (begun m (record { conv = o.id; act = Seg (packet_of p) p.now [] [] })) d2 a w
  ready_seg paid t m place o p d0 d1 d2 a number clock ended x w rises under k at e1 tk sl e2 dead e_place e_number e_clock e_entry turn =
      ready_begun paid t m place o (Seg (packet_of p) p.now [] []) d0 d2 a there.0 x w rises under k at there.1 got.2
      ((subst (λ z. IfSome z (λ s. d2.slots.items ≡ slice_set d1.slots.items place (record s { talk = None }))) got_there sl) ∙ ap (λ l. slice_set l place (record there.0 { talk = None })) slots1)
      (ap (λ (d : Desk D). d.index) e2 ∙ ap (λ (d : Desk D). d.index) e1) (ap (λ (d : Desk D). d.dues) e2 ∙ ap (λ (d : Desk D). d.dues) e1) (ap (λ (d : Desk D). d.book) e2 ∙ ap (λ (d : Desk D). d.book) e1) (ap (λ (d : Desk D). d.answered) e2 ∙ ap (λ (d : Desk D). d.answered) e1)
      (ap (λ (d : Desk D). d.owed) e2 ∙ ap (λ (d : Desk D). d.owed) e1) (ap (λ (d : Desk D). d.cursor) e2 ∙ ap (λ (d : Desk D). d.cursor) e1)
      (ap (λ (d : Desk D). job_of d.job) e2 ∙ ap (λ (d : Desk D). job_of d.job) e1)
      (subst (AreUnanswered (ids_of (core_of t m).convos) d2.unanswered.items) (sym (waits_begun t (core_of t m) (record { conv = o.id; act = Seg (packet_of p) p.now [] [] }) refl))
      (subst (λ q. AreUnanswered (ids_of (core_of t m).convos) q (waiting_of (core_of t m))) (sym ((λ i. (e2 i).unanswered.items) ∙ (λ i. (e1 i).unanswered.items)))
      (subst (λ z. AreUnanswered (ids_of (with_under t (core_of t m) z)) d0.unanswered.items (unanswered_with t (core_of t m) z)) under k.queue)))
      e_place (e_number ∙ got.0) (e_clock ∙ clocks (is_live o.convo) (dead (beside_of t m.lines o.id) talk)) e_entry turn
    where
      slots : AreSlots (Recalls Stands t m.lines) None (core_of t m).convos d0.slots.items
      slots = subst (λ l. AreSlots (Recalls Stands t m.lines) None l d0.slots.items) (ap (with_under t (core_of t m)) under) (subst (λ h. AreSlots (Recalls Stands t m.lines) h (present t m) d0.slots.items) (ap hole_of under) k.slots)

      there : (z : Slot D) × (slice_get d0.slots.items place ≡ Some z) × IsSlotOf (Recalls Stands t m.lines) None o z
      there = slot_of (Recalls Stands t m.lines) (core_of t m).convos d0.slots.items place o slots at

      slots1 : d1.slots.items ≡ d0.slots.items
      slots1 = λ i. (e1 i).slots.items

      got_there : slice_get d1.slots.items place ≡ Some there.0
      got_there = ap (λ l. slice_get l place) slots1 ∙ there.1

      got : (number ≡ there.0.number) × (clock ≡ there.0.clock) × (there.0.talk ≡ Some x)
      got = subst (λ z. IfSome z (λ s. (number ≡ s.number) × (clock ≡ s.clock) × (s.talk ≡ Some x))) got_there tk

      talk : Recalls Stands t m.lines o x
      talk = some_talk (Recalls Stands t m.lines) o there.0.talk x got.2 there.2.talk

      clocks : (b : Bool) → ended ≡ not b → cond ended clock p.now ≡ cond b p.now o.convo.clock
      clocks true e = ap (λ z. cond z clock p.now) e
      clocks false e = ap (λ z. cond z clock p.now) e ∙ got.1 ∙ there.2.clock
