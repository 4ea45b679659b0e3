-- What is in hand and what is kept of the conversations, as they are given out.
use Rattle.std.specs.Prelude.{◌≡◌, ℕ, ◌+◌, true, ◌&&◌, is_none, List, [], ◌∷◌, ◌++◌, Option, Some, None}
use Rattle.std.proofs.Common.{◌∙◌, ap, arith}
use Rattle.chunkpart.specs.ChunkParts.{ChunkParts}
use Rattle.convo.specs.declared.talk.Convo.{Convo}
use Rattle.flowdir.specs.Boundary.{weight_of, weight_of_chunk}
use Rattle.coretable.specs.Held.{weight_of_some}
use Rattle.coretable.specs.Table.{is_empty}
use Rattle.coretable.specs.Weighed.{weight_of_desk, weight_of_hand, weight_of_slots, weight_of_talk}
use Rattle.coretable.specs.declared.desk.Desk.{Desk}
use Rattle.coretable.specs.declared.hand.Hand.{Hand}
use Rattle.coretable.specs.declared.slot.Slot.{Slot}
use Rattle.coretable.proofs.TableLemmas.{empty_weighs_nothing}

behind : (one rest last sum : ℕ) → sum ≡ rest + last → one + sum ≡ one + rest + last
behind one rest last sum e = omega (arith, e)

-- the slot that stands last
slots_behind : {C : Type 0} (w : C → ℕ) (slots : List (Slot (Convo C))) (slot : Slot (Convo C)) → weight_of_slots w (slots ++ slot ∷ []) ≡ weight_of_slots w slots + weight_of_talk w slot.talk
slots_behind w [] slot = omega arith
slots_behind w (s ∷ slots) slot = behind (weight_of_talk w s.talk) (weight_of_slots w slots) (weight_of_talk w slot.talk) (weight_of_slots w (slots ++ slot ∷ [])) (slots_behind w slots slot)

-- an empty hand that takes a conversation
taken_up : {C : Type 0} (w : C → ℕ) (talk a : Option (Convo C)) (b : Option C) (c : Option (List (ChunkParts C))) (d : Option (ChunkParts C))
    → (is_none a && (is_none b && (is_none c && is_none d))) ≡ true → weight_of_talk w talk + (weight_of w b + (weight_of_some w c + weight_of_chunk w d)) ≡ weight_of_talk w talk
taken_up w talk None None None None e = omega arith
taken_up w talk None None None (Some z) e = absurd cc
taken_up w talk None None (Some y) d e = absurd cc
taken_up w talk None (Some x) c d e = absurd cc
taken_up w talk (Some a) b c d e = absurd cc

moved : (all desk talk hand before : ℕ) → all ≡ desk + talk → hand ≡ talk → before ≡ 0 → desk + hand ≡ all + before
moved all desk talk hand before a h z = omega (arith, a, h, z)

-- The last conversation goes into the empty hand.
pub takes_up : {C : Type 0} (w : C → ℕ) (desk desk' : Desk (Convo C)) (hand hand' : Hand C) (slot : Slot (Convo C)) (talk : Option (Convo C)) → is_empty hand ≡ true
    → desk.slots.items ≡ desk'.slots.items ++ slot ∷ [] → slot.talk ≡ talk → hand' ≡ record hand { talk = talk }
    → weight_of_desk w desk' + weight_of_hand w hand' ≡ weight_of_desk w desk + weight_of_hand w hand
takes_up w desk desk' hand hand' slot talk e slots is new =
    moved (weight_of_desk w desk) (weight_of_desk w desk') (weight_of_talk w talk) (weight_of_hand w hand') (weight_of_hand w hand)
    (ap (weight_of_slots w) slots ∙ slots_behind w desk'.slots.items slot ∙ ap (λ t. weight_of_slots w desk'.slots.items + weight_of_talk w t) is)
    (ap (weight_of_hand w) new ∙ taken_up w talk hand.talk hand.charge hand.kept hand.chunk e) (empty_weighs_nothing w hand e)

-- What was given out before, and nothing now.
pub carried : (now desk hand held a b : ℕ) → now ≡ desk + hand → hand + 0 ≡ held → desk + held ≡ a + b → now ≡ a + b
carried now desk hand held a b n h k = omega (arith, n, h, k)

pub none_left : (desk' hand' got desk held a b : ℕ) → desk' ≡ 0 → desk ≡ 0 → got ≡ 0 → hand' + 0 ≡ held → desk + held ≡ a + b → desk' + (hand' + got) ≡ a + b
none_left desk' hand' got desk held a b d e g h k = omega (arith, d, e, g, h, k)
