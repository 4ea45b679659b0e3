-- The first conversation that is live.
use Rattle.std.specs.Prelude.{not, ◌≡◌, refl, ◌⊎◌, ℕ, zero, suc, ◌≤◌, ◌<◌, Bool, true, false, cond, List, [], ◌∷◌, length, None, Some, slice_get, Result, IfOk}
use Rattle.std.proofs.Common.{inl, inr, sym, ◌∙◌, ap, subst, arith}
use Rattle.std.proofs.Math.Nat.{eq-or-lt_of_le}
use Rattle.streamdefs.specs.Terms.{Terms}
use Rattle.streamdefs.specs.Convo.{Convo, is_live}
use Rattle.streamdefs.specs.Core.{Open, Owed}
use Rattle.streamdefs.specs.Convo.Act.{End}
use Rattle.coretable.specs.Course.{Course, core_of, first_live, choice}
use Rattle.coretable.specs.Course.Choice.{Begins}
use Rattle.coretable.proofs.Soundness.{by_owed}
use Rattle.convo.specs.Talk.{Talk, Phase}
use Rattle.convo.specs.Talk.Phase.{Still}
use Rattle.coretable.specs.declared.slot.Slot.{Slot}
use Rattle.coretable.specs.declared.desk.Desk.{Desk}
use Rattle.coretable.specs.declared.owed.Owed.{Owed as OwedAt}
use Rattle.coretable.specs.Standing.{IsOwedAt, ids_of}
use Rattle.std.specs.Prelude.{Option}
use Rattle.coretable.specs.Standing.{beside, beside_of, Recalls, present, with_under, hole_of, IsSlotOf, AreSlots, AreEnded, Keeps}
use Rattle.coretable.proofs.BeginLemmas.{slot_of}
use Rattle.coretable.proofs.PlanLemmas.{keeps_some}
use Rattle.coretable.proofs.OpenLemmas.{slots_many}

pub first_at : (os : List Open) (n : ℕ) (o : Open) → AreEnded n os → slice_get os n ≡ Some o → is_live o.convo ≡ true → first_live os ≡ Some o
first_at [] zero o h g l = absurd cc
first_at [] (suc n) o h g l = absurd cc
first_at (x ∷ os) zero o h g l = let same : x ≡ o = cc in ap (λ b. cond b (Some x) (first_live os)) (ap (λ (z : Open). is_live z.convo) same ∙ l) ∙ ap Some same
first_at (x ∷ os) (suc n) o h g l =
    ap (λ b. cond b (Some x) (first_live os)) (h 0 x (omega arith) refl) ∙ first_at os n o (λ k q below got. h (suc k) q (omega (arith, below)) got) g l

pub none_at : (os : List Open) (n : ℕ) → length os ≤ n → AreEnded n os → first_live os ≡ None
none_at [] n f h = refl
none_at (x ∷ os) zero f h = absurd (omega (arith, f))
none_at (x ∷ os) (suc n) f h = ap (λ b. cond b (Some x) (first_live os)) (h 0 x (omega arith) refl) ∙ none_at os n (omega (arith, f)) (λ k q below got. h (suc k) q (omega (arith, below)) got)

pub ended_more : (os : List Open) (n : ℕ) → AreEnded n os → ((o : Open) → slice_get os n ≡ Some o → is_live o.convo ≡ false) → AreEnded (suc n) os
ended_more os n h d k o l g = by (eq-or-lt_of_le (omega (arith, l)))
  where
    by : (k ≡ n) ⊎ (k < n) → is_live o.convo ≡ false
    by (inl e) = d o (ap (slice_get os) (sym e) ∙ g)
    by (inr b) = h k o b g

module _ {D : Type 0} (Stands : D → Talk → Phase → Type 0) where
  pub live_by : {E : Type 0} (t : Terms) (m : Course) (desk : Desk D) (place : ℕ) (o : Open) (slot : Slot D) (r : Result Bool E) → m.under ≡ None → Keeps Stands t m desk → slice_get (core_of t m).convos place ≡ Some o → slice_get desk.slots.items place ≡ Some slot
      → ((k : Talk) (talk : D) → slot.talk ≡ Some talk → Stands talk k Still → IfOk r (λ b. b ≡ is_live k.convo)) → IfOk r (λ b. b ≡ is_live o.convo)
  live_by t m desk place o slot r under k at got by =
      let was : present t m ≡ (core_of t m).convos = ap (with_under t (core_of t m)) under in
      let slots : AreSlots (Recalls Stands t m.lines) None (core_of t m).convos desk.slots.items = subst (λ l. AreSlots (Recalls Stands t m.lines) None l desk.slots.items) was (subst (λ h. AreSlots (Recalls Stands t m.lines) h (present t m) desk.slots.items) (ap hole_of under) k.slots) in
      let there = slot_of (Recalls Stands t m.lines) (core_of t m).convos desk.slots.items place o slots at in
      let here : IsSlotOf (Recalls Stands t m.lines) None o slot = subst (IsSlotOf (Recalls Stands t m.lines) None o) (some_same (sym there.1 ∙ got)) there.2 in
      let talk = keeps_some (Recalls Stands t m.lines) o slot.talk here.talk in
      by (beside o.convo (beside_of t m.lines o.id)) talk.0 talk.1 talk.2
    where
      some_same : {y z : Slot D} → Some y ≡ Some z → y ≡ z
      some_same e = cc

  got_within : (os : List Open) (n : ℕ) → n < length os → (o : Open) × (slice_get os n ≡ Some o)
  got_within [] n l = absurd (omega (arith, l))
  got_within (x ∷ os) zero l = (x, refl)
  got_within (x ∷ os) (suc n) l = got_within os n (omega (arith, l))

  many : (t : Terms) (m : Course) (desk : Desk D) → m.under ≡ None → Keeps Stands t m desk → length desk.slots.items ≡ length (core_of t m).convos
  many t m desk e k = slots_many (Recalls Stands t m.lines) (hole_of m.under) (present t m) desk.slots.items k.slots ∙ ap (λ u. length (with_under t (core_of t m) u)) e

  pub found_first : (t : Terms) (m : Course) (desk : Desk D) (place count : ℕ) (b : Bool) → m.under ≡ None → Keeps Stands t m desk → AreEnded place (core_of t m).convos → place < count → count ≡ length desk.slots.items → b ≡ true
      → ((o : Open) → slice_get (core_of t m).convos place ≡ Some o → b ≡ is_live o.convo)
      → (o : Open) × (first_live (core_of t m).convos ≡ Some o) × (slice_get (core_of t m).convos place ≡ Some o) × AreEnded place (core_of t m).convos
  found_first t m desk place count b e k ended within is sure by =
      let got = got_within (core_of t m).convos place (omega (arith, within, is, many t m desk e k)) in
      (got.0, first_at (core_of t m).convos place got.0 ended got.1 (sym (by got.0 got.1) ∙ sure), got.1, ended)

  pub found_none : (t : Terms) (m : Course) (desk : Desk D) (place count : ℕ) → m.under ≡ None → Keeps Stands t m desk → AreEnded place (core_of t m).convos → count ≤ place → count ≡ length desk.slots.items → first_live (core_of t m).convos ≡ None
  found_none t m desk place count e k ended past is = none_at (core_of t m).convos place (omega (arith, past, is, many t m desk e k)) ended

  pub at_slot : {A E : Type 0} (P : Convo → A → Type 0) (t : Terms) (m : Course) (desk : Desk D) (place : ℕ) (o : Open) (slot : Slot D) (r : Result A E) → m.under ≡ None → Keeps Stands t m desk → slice_get (core_of t m).convos place ≡ Some o
      → slice_get desk.slots.items place ≡ Some slot → ((k : Talk) (talk : D) → slot.talk ≡ Some talk → Stands talk k Still → IfOk r (P k.convo)) → IfOk r (P o.convo)
  at_slot P t m desk place o slot r under k at got by =
      let was : present t m ≡ (core_of t m).convos = ap (with_under t (core_of t m)) under in
      let slots : AreSlots (Recalls Stands t m.lines) None (core_of t m).convos desk.slots.items = subst (λ l. AreSlots (Recalls Stands t m.lines) None l desk.slots.items) was (subst (λ h. AreSlots (Recalls Stands t m.lines) h (present t m) desk.slots.items) (ap hole_of under) k.slots) in
      let there = slot_of (Recalls Stands t m.lines) (core_of t m).convos desk.slots.items place o slots at in
      let here : IsSlotOf (Recalls Stands t m.lines) None o slot = subst (IsSlotOf (Recalls Stands t m.lines) None o) (some_same (sym there.1 ∙ got)) there.2 in
      let talk = keeps_some (Recalls Stands t m.lines) o slot.talk here.talk in
      by (beside o.convo (beside_of t m.lines o.id)) talk.0 talk.1 talk.2
    where
      some_same : {y z : Slot D} → Some y ≡ Some z → y ≡ z
      some_same e = cc

pub full_not : (b c : Bool) → c ≡ not b → c ≡ true → b ≡ false
full_not true c e f = absurd cc
full_not false c e f = refl

pub roomy : (b c : Bool) → c ≡ not b → c ≡ false → b ≡ true
roomy true c e f = refl
roomy false c e f = absurd cc

pub owed_choice : (t : Terms) (m : Course) (owed : Owed) → (core_of t m).owed ≡ Some owed → choice t (core_of t m) m.job ≡ Begins (record { conv = owed.conv; act = End owed.at owed.reason [] [] })
owed_choice t m owed e = ap (by_owed t (core_of t m) m.job) e

none_owing : (ids : List ℕ) (kept : Option OwedAt) (o : Option Owed) → kept ≡ None → IsOwedAt ids kept o → o ≡ None
none_owing ids None None e h = refl
none_owing ids None (Some o) e h = absurd h
none_owing ids (Some a) o e h = absurd cc

pub owes_none : {D : Type 0} (Stands : D → Talk → Phase → Type 0) (t : Terms) (m : Course) (desk : Desk D) → Keeps Stands t m desk → desk.owed ≡ None → (core_of t m).owed ≡ None
owes_none Stands t m desk k e = none_owing (ids_of (present t m)) desk.owed (core_of t m).owed e k.owed
