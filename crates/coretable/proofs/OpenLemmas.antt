-- A packet opens a conversation.
use Rattle.std.specs.Prelude.{◌≡◌, refl, ℕ, zero, suc, Bool, true, false, cond, List, [], ◌∷◌, ◌++◌, length, Option, None, Some, slice_get}
use Rattle.std.proofs.Common.{inl, sym, ◌∙◌, ap, arith, subst}
use Rattle.std.proofs.lemmas.List.{map-append}
use Rattle.streamkey.specs.declared.key.Key.{Key}
use Rattle.streamdefs.specs.Lists.{or_else}
use Rattle.streamdefs.specs.Packet.{same_key}
use Rattle.streamdefs.specs.Terms.{Terms}
use Rattle.streamdefs.specs.Reorder.{Charge}
use Rattle.streamdefs.specs.Convo.{new_convo, after}
use Rattle.streamdefs.specs.Convo.Act.{Seg}
use Rattle.streamdefs.specs.Core.{Core, Line, Open, Told, Owed, found_by, put_convo, latest_of}
use Rattle.coretable.specs.Course.{Course, Under, core_of, begun}
use Rattle.coretable.specs.Course.Job.{Takes}
use Rattle.coretable.specs.Orderly.{IsOrderly, waiting_of}
use Rattle.coretable.proofs.Places.{NoneHas, below_none, find_none, put_new, same_number}
use Rattle.convo.specs.Talk.{Talk, Phase, IsWantOf}
use Rattle.convo.specs.Seen.{packet_of}
use Rattle.convo.specs.declared.want.Want.{Want}
use Rattle.streamkey.specs.declared.packet.Packet.{Packet as PacketKept}
use Rattle.coretable.specs.declared.slot.Slot.{Slot}
use Rattle.coretable.specs.declared.unanswered.Unanswered.{Unanswered}
use Rattle.coretable.specs.declared.owed.Owed.{Owed as OwedAt}
use Rattle.coretable.specs.declared.job.Job.TheVariants as J
use Rattle.coretable.specs.declared.active.Active.{Active}
use Rattle.coretable.specs.declared.desk.Desk.{Desk}
use Rattle.coretable.specs.Standing.{beside, nothing_beside, Recalls, AreDue, entry_in, entry_for, present, with_under, unanswered_with, ids_of, KeepsTalk, IsSlotOf, AreSlots, IsIndexed, AreUnanswered, IsOwedAt, AreEnded, job_of, place_of, hole_of, Keeps}
use Rattle.coretable.proofs.BeginLemmas.{emptied, waits_begun}
use Rattle.coretable.proofs.AnswerLemmas.{Ready}
use Rattle.coretable.proofs.Slots.{dues_end}
use Rattle.coretable.proofs.Told.{beside_none}

-- Lists that grow by one.
module _ {X : Type 0} where
  got_front : (xs ys : List X) (n : ℕ) (x : X) → slice_get xs n ≡ Some x → slice_get (xs ++ ys) n ≡ Some x
  got_front [] ys zero x e = absurd cc
  got_front [] ys (suc n) x e = absurd cc
  got_front (z ∷ xs) ys zero x e = e
  got_front (z ∷ xs) ys (suc n) x e = got_front xs ys n x e

  got_last : (xs : List X) (x : X) → slice_get (xs ++ x ∷ []) (length xs) ≡ Some x
  got_last [] x = refl
  got_last (z ∷ xs) x = got_last xs x

latest_end : (key : Key) (os : List Open) (o : Open) (b : Bool) → same_key o.convo.first.key key ≡ b → latest_of key (os ++ o ∷ []) ≡ cond b (Some o) (latest_of key os)
latest_end key [] o b e = by b e
  where
    by : (b : Bool) → same_key o.convo.first.key key ≡ b → cond (same_key o.convo.first.key key) (Some o) None ≡ cond b (Some o) None
    by b e = ap (λ t. cond t (Some o) None) e
latest_end key (x ∷ os) o true e = ap (λ l. or_else l (cond (same_key x.convo.first.key key) (Some x) None)) (latest_end key os o true e)
latest_end key (x ∷ os) o false e = ap (λ l. or_else l (cond (same_key x.convo.first.key key) (Some x) None)) (latest_end key os o false e)

indexed_front : (os : List Open) (o : Open) (place : Option ℕ) (latest : Option Open) → IsIndexed os place latest → IsIndexed (os ++ o ∷ []) place latest
indexed_front os o None None h = tt
indexed_front os o None (Some l) h = absurd h
indexed_front os o (Some n) None h = absurd h
indexed_front os o (Some n) (Some l) h = got_front os (o ∷ []) n l h

indexed_end : (os : List Open) (o : Open) (key : Key) (place : Option ℕ) (n : ℕ) (b : Bool) → same_key o.convo.first.key key ≡ b → n ≡ length os → IsIndexed os place (latest_of key os)
    → IsIndexed (os ++ o ∷ []) (cond b (Some n) place) (cond b (Some o) (latest_of key os))
indexed_end os o key place n true e l h = ap (slice_get (os ++ o ∷ [])) l ∙ got_last os o
indexed_end os o key place n false e l h = indexed_front os o place (latest_of key os) h

queue_front : (ids more : List ℕ) (qs : List Unanswered) (ts : List Told) → AreUnanswered ids qs ts → AreUnanswered (ids ++ more) qs ts
queue_front ids more [] [] h = tt
queue_front ids more [] (t ∷ ts) h = absurd h
queue_front ids more (q ∷ qs) [] h = absurd h
queue_front ids more (q ∷ qs) (t ∷ ts) h = (got_front ids more q.place t.conv h.0, h.1, queue_front ids more qs ts h.2)

owed_front : (ids more : List ℕ) (a : Option OwedAt) (o : Option Owed) → IsOwedAt ids a o → IsOwedAt (ids ++ more) a o
owed_front ids more None None h = tt
owed_front ids more None (Some o) h = absurd h
owed_front ids more (Some a) None h = absurd h
owed_front ids more (Some a) (Some o) h = (got_front ids more a.place o.conv h.0, h.1, h.2)

module _ {D : Type 0} (Is : Open → D → Type 0) where
  pub slots_many : (hole : Option ℕ) (os : List Open) (ss : List (Slot D)) → AreSlots Is hole os ss → length ss ≡ length os
  slots_many hole [] [] h = refl
  slots_many hole [] (s ∷ ss) h = absurd h
  slots_many hole (o ∷ os) [] h = absurd h
  slots_many hole (o ∷ os) (s ∷ ss) h = ap suc (slots_many hole os ss h.1)

  slots_end : (hole : Option ℕ) (os : List Open) (ss : List (Slot D)) (o : Open) (s : Slot D) → AreSlots Is hole os ss → IsSlotOf Is hole o s → AreSlots Is hole (os ++ o ∷ []) (ss ++ s ∷ [])
  slots_end hole [] [] o s h e = (e, tt)
  slots_end hole [] (x ∷ ss) o s h e = absurd h
  slots_end hole (x ∷ os) [] o s h e = absurd h
  slots_end hole (x ∷ os) (y ∷ ss) o s h e = (h.0, slots_end hole os ss o s h.1 e)

module _ {D : Type 0} (Stands : D → Talk → Phase → Type 0) where
  pub ready_new : {C : Type 0} (paid : C → Charge) (t : Terms) (last : ℕ) (m : Course) (p : PacketKept) (d0 d1 d2 d3 : Desk D) (a : Active D) (place : ℕ) (w : Want C)
      → IsOrderly t last m.number m.clock (Takes (packet_of p)) (core_of t m) → m.under ≡ None → Keeps Stands t m d0
      → d1 ≡ record d0 { job = J.Nothing } → place ≡ length d1.slots.items
      → d2.slots.items ≡ d1.slots.items ++ record { number = p.number; key = p.key; clock = p.now; talk = None } ∷ [] → d2 ≡ record d1 { slots = d2.slots; cursor = 0 }
      → ((other : Key) → place_of d3 other ≡ cond (same_key p.key other) (Some place) (place_of d2 other)) → d3 ≡ record d2 { index = d3.index }
      → a.place ≡ place → a.number ≡ p.number → a.clock ≡ p.now → entry_for a.kind a.looks.items a.frees.items ≡ entry_in (Seg (packet_of p) p.now [] [])
      → IsWantOf paid (λ k g. Stands a.talk k g) t (beside (new_convo (packet_of p)) nothing_beside) (Seg (packet_of p) p.now [] []) 0 w
      → Ready paid Stands t (begun m (record { conv = p.number; act = Seg (packet_of p) p.now [] [] })) d3 a w
  ready_new paid t last m p d0 d1 d2 d3 a place w ord under k e1 e_place e2s e2 e3i e3 a_place a_number a_clock a_entry turn = record {
    u = u;
    keeps = record {
      slots = subst (λ l. AreSlots (Recalls Stands t m.lines) (Some p.number) l d3.slots.items) (sym is)
          (subst (AreSlots (Recalls Stands t m.lines) (Some p.number) (core.convos ++ new ∷ [])) (sym slots_are)
          (slots_end (Recalls Stands t m.lines) (Some p.number) core.convos d0.slots.items new (record { number = p.number; key = p.key; clock = p.now; talk = None }) (emptied (Recalls Stands t m.lines) p.number core.convos d0.slots.items none slots)
          (record { number = refl; key = refl; clock = refl; talk = subst (λ b. KeepsTalk (Recalls Stands t m.lines) b new None) (sym (same_number p.number)) refl })));
      index = λ key. subst (λ l. IsIndexed l (place_of d3 key) (latest_of key l)) (sym is)
          (subst (λ l. IsIndexed (core.convos ++ new ∷ []) l (latest_of key (core.convos ++ new ∷ []))) (sym (e3i key ∙ ap (cond (same_key p.key key) (Some place)) (index_was key)))
          (subst (IsIndexed (core.convos ++ new ∷ []) (cond (same_key p.key key) (Some place) (place_of d0 key))) (sym (latest_end key core.convos new (same_key p.key key) refl))
          (indexed_end core.convos new key (place_of d0 key) place (same_key p.key key) refl many (subst (λ l. IsIndexed l (place_of d0 key) (latest_of key l)) was (k.index key)))));
      dues = subst (λ l. AreDue t (Some p.number) l d3.dues) (sym is)
          (dues_end t p.number core.convos new d3.dues refl
          (subst (λ d. AreDue t None core.convos d) (sym (ap (λ (d : Desk D). d.dues) e3 ∙ ap (λ (d : Desk D). d.dues) e2 ∙ ap (λ (d : Desk D). d.dues) e1))
          (subst (λ l. AreDue t None l d0.dues) was (subst (λ h. AreDue t h (present t m) d0.dues) (ap hole_of under) k.dues))));
      queue = subst (λ l. AreUnanswered (ids_of l) d3.unanswered.items (unanswered_with t core (Some u))) (sym is)
          (subst (λ l. AreUnanswered l d3.unanswered.items (unanswered_with t core (Some u))) (sym ids_are)
          (queue_front (ids_of core.convos) (p.number ∷ []) d3.unanswered.items (unanswered_with t core (Some u))
          (subst (AreUnanswered (ids_of core.convos) d3.unanswered.items) (sym (waits_begun t core line refl))
          (subst (λ q. AreUnanswered (ids_of core.convos) q (waiting_of core)) (sym ((λ i. (e3 i).unanswered.items) ∙ (λ i. (e2 i).unanswered.items) ∙ (λ i. (e1 i).unanswered.items)))
          (subst (λ z. AreUnanswered (ids_of (with_under t core z)) d0.unanswered.items (unanswered_with t core z)) under k.queue)))));
      book = (λ i. (e3 i).book.items) ∙ (λ i. (e2 i).book.items) ∙ (λ i. (e1 i).book.items) ∙ k.book;
      answered = ap (λ (d : Desk D). d.answered) e3 ∙ ap (λ (d : Desk D). d.answered) e2 ∙ ap (λ (d : Desk D). d.answered) e1 ∙ k.answered;
      owed = subst (λ l. IsOwedAt (ids_of l) d3.owed core.owed) (sym is)
          (subst (λ l. IsOwedAt l d3.owed core.owed) (sym ids_are) (owed_front (ids_of core.convos) (p.number ∷ []) d3.owed core.owed
          (subst (λ z. IsOwedAt (ids_of core.convos) z core.owed) (sym (ap (λ (d : Desk D). d.owed) e3 ∙ ap (λ (d : Desk D). d.owed) e2 ∙ ap (λ (d : Desk D). d.owed) e1)) (subst (λ l. IsOwedAt (ids_of l) d0.owed core.owed) was k.owed))));
      job = ap (λ (d : Desk D). job_of d.job) e3 ∙ ap (λ (d : Desk D). job_of d.job) e2 ∙ ap (λ (d : Desk D). job_of d.job) e1;
      cursor = subst (λ n. AreEnded n (present t (begun m line))) (sym (ap (λ (d : Desk D). d.cursor) e3 ∙ ap (λ (d : Desk D). d.cursor) e2)) (λ j o l g. absurd (omega (arith, l)));
    };
    active = record {
      under = refl;
      place = (λ i. slice_get (is i) ((a_place ∙ many) i)) ∙ got_last core.convos new ∙ (λ i. Some (record { id = p.number; convo = sym found i }));
      number = a_number;
      entry = a_entry;
      clock = a_clock ∙ ap (λ c. (after t c (Seg (packet_of p) p.now [] [])).clock) (sym found);
    };
    fresh = inl refl;
    turn = subst (λ k. IsWantOf paid (λ k g. Stands a.talk k g) t k (Seg (packet_of p) p.now [] []) 0 w) (λ i. beside (sym found i) (sym (beside_none t m.lines p.number (find_none p.number core.convos none)) i)) turn;
  }
    where
      core : Core
      core = core_of t m

      line : Line
      line = record { conv = p.number; act = Seg (packet_of p) p.now [] [] }

      u : Under
      u = record { line = line; emitted = 0 }

      new : Open
      new = record { id = p.number; convo = new_convo (packet_of p) }

      none : NoneHas p.number core.convos
      none = below_none p.number core.convos ord.below

      found : found_by core line ≡ new_convo (packet_of p)
      found = rw (found_by, find_none p.number core.convos none) refl

      is : present t (begun m line) ≡ core.convos ++ new ∷ []
      is = ap (λ c. put_convo p.number c core.convos) found ∙ put_new p.number (new_convo (packet_of p)) core.convos none

      was : present t m ≡ core.convos
      was = ap (with_under t core) under

      slots : AreSlots (Recalls Stands t m.lines) None core.convos d0.slots.items
      slots = subst (λ l. AreSlots (Recalls Stands t m.lines) None l d0.slots.items) was (subst (λ h. AreSlots (Recalls Stands t m.lines) h (present t m) d0.slots.items) (ap hole_of under) k.slots)

      many : place ≡ length core.convos
      many = e_place ∙ (λ i. length (e1 i).slots.items) ∙ slots_many (Recalls Stands t m.lines) None core.convos d0.slots.items slots

      slots_are : d3.slots.items ≡ d0.slots.items ++ record { number = p.number; key = p.key; clock = p.now; talk = None } ∷ []
      slots_are = (λ i. (e3 i).slots.items) ∙ e2s ∙ (λ i. (e1 i).slots.items ++ record { number = p.number; key = p.key; clock = p.now; talk = None } ∷ [])

      index_was : (key : Key) → place_of d2 key ≡ place_of d0 key
      index_was key = (λ i. place_of (e2 i) key) ∙ (λ i. place_of (e1 i) key)

      ids_are : ids_of (core.convos ++ new ∷ []) ≡ ids_of core.convos ++ p.number ∷ []
      ids_are = map-append (λ (o : Open). o.id) core.convos (new ∷ [])
