-- The totals that are told of the conversations kept are the definition's.
use Rattle.std.specs.Prelude.{◌≡◌, refl, ℕ, zero, suc, ◌+◌, ◌≤◌, ◌<◌, List, [], ◌∷◌, ◌++◌, length, take, map, flat_map, Some, None, slice_get}
use Rattle.std.proofs.Common.{sym, ◌∙◌, ap, subst, arith}
use Rattle.std.proofs.lemmas.Grind.{flat_map-append}
use Rattle.evring.specs.declared.way.Way.{Way}
use Rattle.streamdefs.specs.Packet.{Packet}
use Rattle.streamdefs.specs.Terms.{Terms}
use Rattle.streamdefs.specs.Lawful.{Handler}
use Rattle.streamdefs.specs.Convo.{Act, Convo, new_convo, after, convo_after}
use Rattle.streamdefs.specs.Core.{Line, Open, history, idle_core, find_convo, core_at}
use Rattle.streamdefs.specs.Totals.{Total}
use Rattle.streamdefs.specs.Report.{Tallied, tallied_on}
use Rattle.convo.specs.declared.dir_total.DirTotal.{DirTotal}
use Rattle.convo.specs.Talk.{IsTotal, Phase, Sums, Talk, bytes_in_gaps, kept_count, kept_counts, new_talk, talk_at}
use Rattle.convo.specs.Talk.Phase.{Still}
use Rattle.coretable.specs.Course.{Course, core_of}
use Rattle.coretable.specs.Lawfully.{IsSound}
use Rattle.coretable.specs.Orderly.{Rises}
use Rattle.coretable.specs.Standing.{beside, beside_of, opened_by, talk_by, talk_of, Recalls, AreSlots, IsSlotOf, Keeps, hole_of, present, with_under}
use Rattle.coretable.specs.Summed.{Ascend, dir_in, dirs_in, tallied_by, tallied_in, totals_on}
use Rattle.coretable.specs.declared.desk.Desk.{Desk}
use Rattle.coretable.specs.declared.slot.Slot.{Slot}
use Rattle.coretable.proofs.BeginLemmas.{slot_of}
use Rattle.coretable.proofs.CompleteLemmas.{first_stays, get_found}
use Rattle.coretable.proofs.PlanLemmas.{keeps_some}
use Rattle.coretable.proofs.OpenLemmas.{slots_many}
use Rattle.coretable.proofs.Soundness.{at_rest}
use Rattle.coretable.proofs.Told.{convo_by, convo_is, convo_told, some_same}
use Rattle.coretable.proofs.WantLemmas.{got_mapped, take_all}

-- What a conversation tells of a direction is the definition's total.
pub dir_is : (first : Packet) (way : Way) (s : Sums) (dir : DirTotal) (total : Total) → IsTotal first way s dir → s.counts ≡ total.counts → s.gaps ≡ total.gaps → dir ≡ dir_in first.number way total
dir_is first way s dir total is counts gaps = λ i. record {
  conv = is.conv i;
  way = is.way_is i;
  counts = (is.counts ∙ ap kept_counts counts) i;
  gaps = (is.gaps ∙ ap (λ gs. kept_count (length gs)) gaps) i;
  gap_bytes = (is.gap_bytes ∙ ap (λ gs. kept_count (bytes_in_gaps gs)) gaps) i;
}

-- The history of a conversation of the core begins with its first packet.
first_along : (t : Terms) (c : Convo) (acts : List Act) → (convo_after t c acts).first ≡ c.first
first_along t c [] = refl
first_along t c (act ∷ acts) = first_along t (after t c act) acts ∙ first_stays t c act

opened : (t : Terms) (acts : List Act) (c : Convo) → convo_by t acts ≡ Some c → talk_by t acts ≡ talk_at t (new_talk c.first) acts
opened t [] c e = absurd cc
opened t (act ∷ acts) c e =
    ap (λ p. talk_at t (new_talk p) (act ∷ acts)) (sym (first_along t (new_convo (opened_by act)) (act ∷ acts)) ∙ ap (λ (d : Convo). d.first) (some_same e))

pub talk_is : (t : Terms) (lines : List Line) (id : ℕ) (c : Convo) → find_convo id (core_at t idle_core lines).convos ≡ Some c → talk_of t lines id ≡ talk_at t (new_talk c.first) (history id lines)
talk_is t lines id c e = opened t (history id lines) c (sym (convo_is t idle_core lines id refl) ∙ e)

pub talk_beside : (t : Terms) (lines : List Line) (id : ℕ) (c : Convo) → find_convo id (core_at t idle_core lines).convos ≡ Some c → talk_of t lines id ≡ beside c (beside_of t lines id)
talk_beside t lines id c e = ap (λ d. beside d (beside_of t lines id)) (convo_told t lines id c e)

number_at : (from : ℕ) (os : List Open) (k : ℕ) (o : Open) → Rises from os → slice_get os k ≡ Some o → o.convo.first.number ≡ o.id
number_at from [] zero o r g = absurd cc
number_at from [] (suc k) o r g = absurd cc
number_at from (x ∷ os) zero o r g = let same : x ≡ o = cc in subst (λ (z : Open). z.convo.first.number ≡ z.id) same r.1
number_at from (x ∷ os) (suc k) o r g = number_at (suc x.id) os k o r.2 g

-- Numbers of conversations rise.
ascend_from : (t : Terms) (lines : List Line) (from : ℕ) (os : List Open) → Rises from os → Ascend from (flat_map dirs_in (map (tallied_in t lines) os))
ascend_from t lines from [] r = tt
ascend_from t lines from (o ∷ os) r = (r.0, refl, refl, refl, ascend_from t lines (suc o.id) os r.2)

pub totals_ascend : (t : Terms) (last : ℕ) (handler : Handler) (m : Course) → IsSound t last handler m → m.under ≡ None → Ascend 0 (totals_on t m.lines)
totals_ascend t last handler m sound e = ascend_from t m.lines 0 (core_of t m).convos (at_rest t last handler m sound e).rises

-- Lists that are gone through place by place.
take_more : {X : Type 0} (xs : List X) (n : ℕ) (x : X) → slice_get xs n ≡ Some x → take (suc n) xs ≡ take n xs ++ x ∷ []
take_more [] zero x e = absurd cc
take_more [] (suc n) x e = absurd cc
take_more (y ∷ xs) zero x e = let same : y ≡ x = cc in ap (λ z. z ∷ []) same
take_more (y ∷ xs) (suc n) x e = ap (λ l. y ∷ l) (take_more xs n x e)

append_none : {X : Type 0} (xs : List X) → xs ++ [] ≡ xs
append_none [] = refl
append_none (x ∷ xs) = ap (λ l. x ∷ l) (append_none xs)

got_place : (os : List Open) (n : ℕ) → suc n ≤ length os → (o : Open) × (slice_get os n ≡ Some o)
got_place [] n l = absurd (omega (arith, l))
got_place (x ∷ os) zero l = (x, refl)
got_place (x ∷ os) (suc n) l = got_place os n (omega (arith, l))

-- those of the first conversations
abbrev pub totals_front : Terms → List Line → ℕ → List DirTotal
totals_front t lines n = flat_map dirs_in (take n (tallied_on t lines))

front_grows : (t : Terms) (lines : List Line) (n : ℕ) (o : Open) → slice_get (core_at t idle_core lines).convos n ≡ Some o → totals_front t lines (suc n) ≡ totals_front t lines n ++ dirs_in (tallied_in t lines o)
front_grows t lines n o e =
    ap (flat_map dirs_in) (take_more (tallied_on t lines) n (tallied_in t lines o) (got_mapped (tallied_in t lines) (core_at t idle_core lines).convos n o e))
    ∙ flat_map-append dirs_in (take n (tallied_on t lines)) (tallied_in t lines o ∷ []) ∙ ap (λ l. totals_front t lines n ++ l) (append_none (dirs_in (tallied_in t lines o)))

length_map : {X Y : Type 0} (f : X → Y) (xs : List X) → length (map f xs) ≡ length xs
length_map f [] = refl
length_map f (x ∷ xs) = ap suc (length_map f xs)

front_all : (t : Terms) (lines : List Line) (n : ℕ) → length (core_at t idle_core lines).convos ≤ n → totals_front t lines n ≡ totals_on t lines
front_all t lines n l = ap (flat_map dirs_in) (take_all (tallied_on t lines) n (subst (λ k. k ≤ n) (sym (length_map (tallied_in t lines) (core_at t idle_core lines).convos)) l))

module _ {D : Type 0} (Stands : D → Talk → Phase → Type 0) where
  slots_are : (t : Terms) (m : Course) (desk : Desk D) → m.under ≡ None → Keeps Stands t m desk → AreSlots (Recalls Stands t m.lines) None (core_of t m).convos desk.slots.items
  slots_are t m desk under k =
      subst (λ l. AreSlots (Recalls Stands t m.lines) None l desk.slots.items) (ap (with_under t (core_of t m)) under) (subst (λ h. AreSlots (Recalls Stands t m.lines) h (present t m) desk.slots.items) (ap hole_of under) k.slots)

  as_many_slots : (t : Terms) (m : Course) (desk : Desk D) → m.under ≡ None → Keeps Stands t m desk → length desk.slots.items ≡ length (core_of t m).convos
  as_many_slots t m desk under k = slots_many (Recalls Stands t m.lines) None (core_of t m).convos desk.slots.items (slots_are t m desk under k)

  one_more : (n : ℕ) → n + 1 ≡ suc n
  one_more n = omega arith

  pub grown : (t : Terms) (m : Course) (desk : Desk D) (place count : ℕ) (old new : List DirTotal) → m.under ≡ None → Keeps Stands t m desk → place < count → count ≡ length desk.slots.items
      → old ≡ totals_front t m.lines place → ((o : Open) → slice_get (core_of t m).convos place ≡ Some o → new ≡ old ++ dirs_in (tallied_in t m.lines o)) → new ≡ totals_front t m.lines (place + 1)
  grown t m desk place count old new under k within is front one =
      let got = got_place (core_of t m).convos place (omega (arith, within, is, as_many_slots t m desk under k)) in
      one got.0 got.1 ∙ ap (λ l. l ++ dirs_in (tallied_in t m.lines got.0)) front ∙ sym (front_grows t m.lines place got.0 got.1) ∙ ap (totals_front t m.lines) (sym (one_more place))

  pub whole : (t : Terms) (m : Course) (desk : Desk D) (place count : ℕ) (totals : List DirTotal) → m.under ≡ None → Keeps Stands t m desk → count ≤ place → count ≡ length desk.slots.items
      → totals ≡ totals_front t m.lines place → totals ≡ totals_on t m.lines
  whole t m desk place count totals under k past is front = front ∙ front_all t m.lines place (omega (arith, past, is, as_many_slots t m desk under k))

  -- what is told of a slot's conversation is told of its history
  pub summed : (P : Tallied → Type 0) (t : Terms) (last : ℕ) (handler : Handler) (m : Course) (desk : Desk D) (place : ℕ) (o : Open) (slot : Slot D) → IsSound t last handler m → m.under ≡ None → Keeps Stands t m desk
      → slice_get (core_of t m).convos place ≡ Some o → slice_get desk.slots.items place ≡ Some slot
      → ((k : Talk) (talk : D) (acts : List Act) → slot.talk ≡ Some talk → Stands talk k Still → k.sums ≡ (talk_at t (new_talk k.convo.first) acts).sums → P (tallied_by t k.convo.first acts)) → P (tallied_in t m.lines o)
  summed P t last handler m desk place o slot sound under k at got by =
      let there = slot_of (Recalls Stands t m.lines) (core_of t m).convos desk.slots.items place o (slots_are t m desk under k) at in
      let here : IsSlotOf (Recalls Stands t m.lines) None o slot = subst (IsSlotOf (Recalls Stands t m.lines) None o) (same_slot (sym there.1 ∙ got)) there.2 in
      let talk = keeps_some (Recalls Stands t m.lines) o slot.talk here.talk in
      let rises : Rises 0 (core_of t m).convos = (at_rest t last handler m sound under).rises in
      subst (λ n. P (record { conv = n; totals = (tallied_in t m.lines o).totals })) (number_at 0 (core_of t m).convos place o rises at)
      (by (beside o.convo (beside_of t m.lines o.id)) talk.0 (history o.id m.lines) talk.1 talk.2
      (ap (λ (q : Talk). q.sums) (talk_is t m.lines o.id o.convo (get_found 0 (core_of t m).convos place o rises at))))
    where
      same_slot : {y z : Slot D} → Some y ≡ Some z → y ≡ z
      same_slot e = cc
