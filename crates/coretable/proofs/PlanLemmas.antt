-- What comes next for the packet that waits.
use Rattle.std.specs.Prelude.{◌≡◌, refl, ℕ, Bool, true, false, cond, not, zero, suc, ◌+◌, ◌-◌, ◌≤◌, nat_le, nat_lt, nat_eq, length, List, [], ◌∷◌, Option, None, Some, slice_get}
use Rattle.std.proofs.Common.{sym, ◌∙◌, ap, subst, arith}
use Rattle.std.proofs.lemmas.Bool.Decides.{nat_tests}
use Rattle.std.proofs.Math.ListN.{length-drop}
use Rattle.coretable.specs.declared.unanswered.Unanswered.{Unanswered}
use Rattle.coretable.specs.declared.owed.Owed.{Owed as OwedAt}
use Rattle.streamdefs.specs.Convo.Act.{End}
use Rattle.streamdefs.specs.Packet.{Packet}
use Rattle.streamdefs.specs.Terms.{Terms}
use Rattle.streamdefs.specs.Convo.{Convo}
use Rattle.streamdefs.specs.Core.{Core, Due, Line, Open, Owed, Told, latest_of}
use Rattle.coretable.specs.Course.{Course, Choice, core_of, packet_line, step, choice_step, choice, closing_choice, due_by, due_first, first_live, is_answered, begun, has_room}
use Rattle.coretable.specs.Course.Job.{Takes, Nothing, Closes}
use Rattle.coretable.specs.Course.Choice.{Begins}
use Rattle.coretable.specs.Course.Step.{Goes, Stops}
use Rattle.coretable.specs.Course.Stop.{Fills, Rests, Finishes}
use Rattle.coretable.proofs.Soundness.{step_by, by_owed}
use Rattle.convo.specs.Talk.{Talk, Phase}
use Rattle.convo.specs.Talk.Phase.{Still}
use Rattle.coretable.specs.declared.slot.Slot.{Slot}
use Rattle.coretable.specs.declared.choosing.Verdict.{Verdict}
use Rattle.coretable.specs.declared.choosing.Verdict.TheVariants as V
use Rattle.coretable.specs.declared.desk.Desk.{Desk}
use Rattle.coretable.specs.Standing.{beside, beside_of, Recalls, present, with_under, hole_of, KeepsTalk, IsSlotOf, AreSlots, IsIndexed, ids_of, unanswered_with, AreUnanswered, IsOwedAt, place_of, Keeps}
use Rattle.coretable.specs.Verdicts.{verdict_line, StandsAt, IsThere, IsPlan}
use Rattle.coretable.proofs.BeginLemmas.{slot_of}

there_at : (core : Core) (id place : ℕ) (v : Verdict) → StandsAt core id place → IsThere core id place v
there_at core id place V.Open h = tt
there_at core id place V.Seg h = h
there_at core id place V.Replaces h = h

pub keeps_some : {D : Type 0} (Is : Open → D → Type 0) (o : Open) (talk : Option D) → KeepsTalk Is false o talk → (x : D) × (talk ≡ Some x) × Is o x
keeps_some Is o None h = absurd h
keeps_some Is o (Some x) h = (x, refl, h)

module _ {D : Type 0} (Stands : D → Talk → Phase → Type 0) where
  latest_at_place : (os : List Open) (place : Option ℕ) (n : ℕ) (latest : Option Open) → place ≡ Some n → IsIndexed os place latest → (o : Open) × (latest ≡ Some o) × (slice_get os n ≡ Some o)
  latest_at_place os None n latest e h = absurd cc
  latest_at_place os (Some m) n None e h = absurd h
  latest_at_place os (Some m) n (Some o) e h = let same : m ≡ n = cc in (o, refl, ap (slice_get os) (sym same) ∙ h)

  pub planned : (t : Terms) (m : Course) (p : Packet) (desk : Desk D) (place : ℕ) (slot : Slot D) (v : Verdict) → m.under ≡ None → Keeps Stands t m desk → place_of desk p.key ≡ Some place
      → slice_get desk.slots.items place ≡ Some slot
      → ((k : Talk) (talk : D) (id : ℕ) → slot.talk ≡ Some talk → Stands talk k Still → slot.clock ≡ k.convo.clock → verdict_line p id v ≡ packet_line t p (Some (record { id = id; convo = k.convo })))
      → IsPlan t (core_of t m) p place v
  planned t m p desk place slot v under k at got by =
      let was : present t m ≡ (core_of t m).convos = ap (with_under t (core_of t m)) under in
      let latest = latest_at_place (core_of t m).convos (place_of desk p.key) place (latest_of p.key (core_of t m).convos) at (subst (λ l. IsIndexed l (place_of desk p.key) (latest_of p.key l)) was (k.index p.key)) in
      let slots : AreSlots (Recalls Stands t m.lines) None (core_of t m).convos desk.slots.items = subst (λ l. AreSlots (Recalls Stands t m.lines) None l desk.slots.items) was (subst (λ h. AreSlots (Recalls Stands t m.lines) h (present t m) desk.slots.items) (ap hole_of under) k.slots) in
      let there = slot_of (Recalls Stands t m.lines) (core_of t m).convos desk.slots.items place latest.0 slots latest.2 in
      let here : IsSlotOf (Recalls Stands t m.lines) None latest.0 slot = subst (IsSlotOf (Recalls Stands t m.lines) None latest.0) (some_same (sym there.1 ∙ got)) there.2 in
      let talk = keeps_some (Recalls Stands t m.lines) latest.0 slot.talk here.talk in
      record {
        id = latest.0.id;
        line = by (beside latest.0.convo (beside_of t m.lines latest.0.id)) talk.0 latest.0.id talk.1 talk.2 here.clock ∙ ap (packet_line t p) (sym latest.1);
        there = there_at (core_of t m) latest.0.id place v (latest.0.convo, latest.2);
      }
    where
      some_same : {y z : Slot D} → Some y ≡ Some z → y ≡ z
      some_same e = cc

-- The course begins that entry.
abbrev next_of : Terms → Course → Packet → Choice
next_of t m p = Begins (packet_line t p (latest_of p.key (core_of t m).convos))

pub packet_choice : (t : Terms) (m : Course) (p : Packet) (due : Option Due) → (core_of t m).owed ≡ None → m.job ≡ Takes p → due_by t (core_of t m) p.now ≡ due → choice t (core_of t m) m.job ≡ due_first due (next_of t m p)
packet_choice t m p due e j d = (λ i. by_owed t (core_of t m) (j i) (e i)) ∙ ap (λ x. due_first x (next_of t m p)) d

pub end_choice : (t : Terms) (m : Course) (at : ℕ) (due : Option Due) → (core_of t m).owed ≡ None → m.job ≡ Closes at → due_by t (core_of t m) at ≡ due → choice t (core_of t m) m.job ≡ due_first due (closing_choice at (first_live (core_of t m).convos))
end_choice t m at due e j d = (λ i. by_owed t (core_of t m) (j i) (e i)) ∙ ap (λ x. due_first x (closing_choice at (first_live (core_of t m).convos))) d

pub step_goes : (t : Terms) (m : Course) (line : Line) → m.under ≡ None → choice t (core_of t m) m.job ≡ Begins line → has_room (core_of t m) ≡ true → step t m ≡ Goes (begun m line)
step_goes t m line e h r = ap (step_by t m) e ∙ ap (choice_step (core_of t m) m) h ∙ ap (λ b. cond b (Goes (begun m line)) (Stops Fills)) r

-- How many events wait.
as_many : (ids : List ℕ) (qs : List Unanswered) (ts : List Told) → AreUnanswered ids qs ts → length qs ≡ length ts
as_many ids [] [] h = refl
as_many ids [] (t ∷ ts) h = absurd h
as_many ids (q ∷ qs) [] h = absurd h
as_many ids (q ∷ qs) (t ∷ ts) h = ap suc (as_many ids qs ts h.2)

room_by : (waits answered events : ℕ) → answered ≤ events → waits ≡ events - answered → nat_le 256 waits ≡ not (nat_lt events (answered + 256))
room_by waits answered events l e = grind (arith, nat_tests)

pub full_is : {D : Type 0} (Stands : D → Talk → Phase → Type 0) (t : Terms) (m : Course) (desk : Desk D) → m.under ≡ None → Keeps Stands t m desk → (core_of t m).answered ≤ length (core_of t m).events
    → nat_le 256 (length desk.unanswered.items) ≡ not (has_room (core_of t m))
full_is Stands t m desk e k l =
    room_by (length desk.unanswered.items) (core_of t m).answered (length (core_of t m).events) l
    (as_many (ids_of (present t m)) desk.unanswered.items (unanswered_with t (core_of t m) m.under) k.queue ∙ ap (λ u. length (unanswered_with t (core_of t m) u)) e ∙ length-drop (core_of t m).answered (core_of t m).events)

-- It stops where nothing waits.
pub step_rests : (t : Terms) (m : Course) → m.under ≡ None → (core_of t m).owed ≡ None → m.job ≡ Nothing → step t m ≡ Stops Rests
step_rests t m e o j = ap (step_by t m) e ∙ (λ i. choice_step (core_of t m) m (by_owed t (core_of t m) (j i) (o i)))

-- The End that is owed.
pub got_unmapped : (os : List Open) (n id : ℕ) → slice_get (ids_of os) n ≡ Some id → (c : Convo) × (slice_get os n ≡ Some (record { id = id; convo = c }))
got_unmapped [] zero id e = absurd cc
got_unmapped [] (suc n) id e = absurd cc
got_unmapped (o ∷ os) zero id e = let same : o.id ≡ id = cc in (o.convo, (λ i. Some (record { id = same i; convo = o.convo })))
got_unmapped (o ∷ os) (suc n) id e = got_unmapped os n id e

pub record IsOwing (t : Terms) (m : Course) (a : OwedAt) : Type 0 where
  pub owed : Owed
  pub is : (core_of t m).owed ≡ Some owed
  pub convo : Convo
  pub there : slice_get (core_of t m).convos a.place ≡ Some (record { id = owed.conv; convo = convo })
  pub reason : a.reason ≡ owed.reason
  pub at : a.at ≡ owed.at

owing : (t : Terms) (m : Course) (a : OwedAt) (kept : Option OwedAt) (o : Option Owed) → kept ≡ Some a → (core_of t m).owed ≡ o → IsOwedAt (ids_of (core_of t m).convos) kept o → IsOwing t m a
owing t m a None o e f h = absurd cc
owing t m a (Some b) None e f h = absurd h
owing t m a (Some b) (Some o) e f h =
    let same : b ≡ a = cc in
    let got = got_unmapped (core_of t m).convos b.place o.conv h.0 in
    record { owed = o; is = f; convo = got.0; there = (λ i. slice_get (core_of t m).convos (sym same i).place) ∙ got.1; reason = ap (λ (x : OwedAt). x.reason) (sym same) ∙ h.1; at = ap (λ (x : OwedAt). x.at) (sym same) ∙ h.2 }

pub is_owing : {D : Type 0} (Stands : D → Talk → Phase → Type 0) (t : Terms) (m : Course) (desk : Desk D) (a : OwedAt) → m.under ≡ None → Keeps Stands t m desk → desk.owed ≡ Some a → IsOwing t m a
is_owing Stands t m desk a e k o = owing t m a desk.owed (core_of t m).owed o refl (subst (λ l. IsOwedAt (ids_of l) desk.owed (core_of t m).owed) (ap (with_under t (core_of t m)) e) k.owed)

pub step_owes : (t : Terms) (m : Course) (owed : Owed) → m.under ≡ None → (core_of t m).owed ≡ Some owed → has_room (core_of t m) ≡ true
    → step t m ≡ Goes (begun m (record { conv = owed.conv; act = End owed.at owed.reason [] [] }))
step_owes t m owed e o r =
    ap (step_by t m) e ∙ (λ i. choice_step (core_of t m) m (by_owed t (core_of t m) m.job (o i)))
    ∙ ap (λ b. cond b (Goes (begun m (record { conv = owed.conv; act = End owed.at owed.reason [] [] }))) (Stops Fills)) r

-- It stops where there is no room, and at the end of the capture.
pub step_fills : (t : Terms) (m : Course) (line : Line) → m.under ≡ None → choice t (core_of t m) m.job ≡ Begins line → has_room (core_of t m) ≡ false → step t m ≡ Stops Fills
step_fills t m line e h r = ap (step_by t m) e ∙ ap (choice_step (core_of t m) m) h ∙ ap (λ b. cond b (Goes (begun m line)) (Stops Fills)) r

step_done : (t : Terms) (m : Course) (at : ℕ) → m.under ≡ None → (core_of t m).owed ≡ None → m.job ≡ Closes at → first_live (core_of t m).convos ≡ None → due_by t (core_of t m) at ≡ None
    → step t m ≡ cond (is_answered (core_of t m)) (Stops Finishes) (Stops Fills)
step_done t m at e o j f d =
    ap (step_by t m) e ∙ ap (choice_step (core_of t m) m) (end_choice t m at None o j d ∙ ap (closing_choice at) f)

all_or_not : (waits answered events : ℕ) (b : Bool) → answered ≤ events → waits ≡ events - answered → nat_eq waits 0 ≡ b → nat_le events answered ≡ b
all_or_not waits answered events true l e h = grind (arith, nat_tests)
all_or_not waits answered events false l e h = grind (arith, nat_tests)

pub done_is : {D : Type 0} (Stands : D → Talk → Phase → Type 0) (t : Terms) (m : Course) (desk : Desk D) (at count : ℕ) (b : Bool) → m.under ≡ None → Keeps Stands t m desk → (core_of t m).owed ≡ None → m.job ≡ Closes at
    → first_live (core_of t m).convos ≡ None → due_by t (core_of t m) at ≡ None → (core_of t m).answered ≤ length (core_of t m).events → count ≡ length desk.unanswered.items → nat_eq count 0 ≡ b → step t m ≡ cond b (Stops Finishes) (Stops Fills)
done_is Stands t m desk at count b e k o j f d l is h =
    step_done t m at e o j f d ∙ ap (λ z. cond z (Stops Finishes) (Stops Fills))
    (all_or_not count (core_of t m).answered (length (core_of t m).events) b l
    (is ∙ as_many (ids_of (present t m)) desk.unanswered.items (unanswered_with t (core_of t m) m.under) k.queue ∙ ap (λ u. length (unanswered_with t (core_of t m) u)) e ∙ length-drop (core_of t m).answered (core_of t m).events) h)

pub is_zero : (n : ℕ) → n ≡ 0 → nat_eq n 0 ≡ true
is_zero n e = ap (λ k. nat_eq k 0) e

pub not_zero : (n : ℕ) → (n ≡ 0 → ⊥) → nat_eq n 0 ≡ false
not_zero zero h = absurd (h refl)
not_zero (suc n) h = grind (arith, nat_tests)
