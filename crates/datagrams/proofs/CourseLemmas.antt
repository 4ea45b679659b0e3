-- The course of a replay.
use Rattle.std.specs.Prelude.{◌≡◌, refl, ℕ, zero, suc, ◌+◌, ◌≤◌, ◌<◌, ◌^◌, Bool, true, false, cond, find, unwrap_or, List, [], ◌∷◌, ◌++◌, length, map, take, Option, Some}
use Rattle.std.specs.List.{HoldsAt}
use Rattle.std.proofs.Common.{sym, ◌∙◌, ap, subst, arith, get_or, ◌==◌}
use Rattle.std.proofs.lemmas.Bool.Decides.{nat_tests}
use Rattle.evring.specs.declared.way.Way.{Way}
use Rattle.evring.specs.declared.way.Way.TheVariants.{Fore}
use Rattle.streamdefs.specs.Lists.{Each, total}
use Rattle.streamdefs.specs.Packet.{Packet, is_tcp, no_packet}
use Rattle.streamdefs.specs.Terms.{Terms}
use Rattle.datagrams.specs.declared.conversation.Conversation.{Conversation}
use Rattle.datagrams.specs.Assembled.{RisesFrom}
use Rattle.datagrams.specs.Capture.{IsCapture}
use Rattle.datagrams.specs.Rows.{IsPlaced, NoneHasKey, unbegun}
use Rattle.datagrams.specs.Stands.{IsNext, Stands}
use Rattle.datagrams.specs.State.{State, answered_many, way_at, with_conversation, with_datagram_at, with_end_at}
use Rattle.datagrams.proofs.SoundLemmas.{each_at}
use Rattle.datagrams.proofs.StandsSteps.{many_take, stands_datagram, stands_end, stands_many, stands_new}

-- Which datagram comes next.

above_all : (n : ℕ) (packets : List Packet) (m : ℕ) → m < n → RisesFrom n packets → Each (λ p. m < p.number) packets
above_all n [] m l h = tt
above_all n (p ∷ packets) m l h = (omega (arith, h.0), above_all (p.number + 1) packets m (omega (arith, h.0)) h.1)

unlike : (a b : ℕ) → a < b → (a == b) ≡ false
unlike a b h = grind (arith, nat_tests)

alike : (n : ℕ) → (n == n) ≡ true
alike n = grind (arith, nat_tests)

-- a number is found where it stands
found_at : (n : ℕ) (packets : List Packet) (i : ℕ) (d : Packet) → RisesFrom n packets → i < length packets → find (λ (q : Packet). q.number == (get_or packets i d).number) packets ≡ Some (get_or packets i d)
found_at n [] i d h l = absurd (omega arith)
found_at n (p ∷ packets) zero d h l = ap (λ (b : Bool). cond b (Some p) (find (λ (q : Packet). q.number == p.number) packets)) (alike p.number)
found_at n (p ∷ packets) (suc i) d h l =
    ap (λ (b : Bool). cond b (Some p) (find (λ (q : Packet). q.number == (get_or packets i d).number) packets))
    (unlike p.number (get_or packets i d).number (each_at (λ (q : Packet). p.number < q.number) packets i d (above_all (p.number + 1) packets p.number (omega arith) h.1) (omega arith)))
    ∙ found_at (p.number + 1) packets i d h.1 (omega arith)

-- those before it have lower numbers
earlier : (n : ℕ) (packets : List Packet) (i : ℕ) (d : Packet) → RisesFrom n packets → i < length packets → Each (λ q. q.number < (get_or packets i d).number) (take i packets)
earlier n [] i d h l = absurd (omega arith)
earlier n (p ∷ packets) zero d h l = tt
earlier n (p ∷ packets) (suc i) d h l =
    (each_at (λ (q : Packet). p.number < q.number) packets i d (above_all (p.number + 1) packets p.number (omega arith) h.1) (omega arith), earlier (p.number + 1) packets i d h.1 (omega arith))

pub next_at : (t : Terms) (first : ℕ) (packets : List Packet) (i : ℕ) (d : Packet) → IsCapture t first packets → i < length packets → IsNext t first packets (take i packets) (get_or packets i d)
next_at t first packets i d h l = record {
  here = ap (λ (o : Option Packet). unwrap_or o no_packet) (found_at 1 packets i d h.rises l);
  udp = each_at (λ (p : Packet). is_tcp p ≡ false) packets i d h.udp l;
  above = earlier 1 packets i d h.rises l;
  from = each_at (λ (p : Packet). first ≤ p.now) packets i d h.from l;
  until = each_at (λ (p : Packet). p.now < first + t.idle) packets i d h.until l;
}

module _ {X : Type 0} where
  -- one more of a list
  pub front_more : (xs : List X) (i : ℕ) (d : X) → i < length xs → take (suc i) xs ≡ take i xs ++ get_or xs i d ∷ []
  front_more [] i d l = absurd (omega arith)
  front_more (x ∷ xs) zero d l = refl
  front_more (x ∷ xs) (suc i) d l = ap (λ (l : List X). x ∷ l) (front_more xs i d (omega arith))

  pub total_more : (f : X → ℕ) (xs : List X) (i : ℕ) (d : X) → i < length xs → total f (take (suc i) xs) ≡ total f (take i xs) + f (get_or xs i d)
  total_more f [] i d l = absurd (omega arith)
  total_more f (x ∷ xs) zero d l = omega arith
  total_more f (x ∷ xs) (suc i) d l = omega (arith, total_more f xs i d (omega arith))

  pub total_front : (f : X → ℕ) (xs : List X) (i : ℕ) → total f (take i xs) ≤ total f xs
  total_front f [] zero = omega arith
  total_front f [] (suc i) = omega arith
  total_front f (x ∷ xs) zero = omega arith
  total_front f (x ∷ xs) (suc i) = omega (arith, total_front f xs i)

  pub got_last : (xs : List X) (x d : X) → get_or (xs ++ x ∷ []) (length xs) d ≡ x
  got_last [] x d = refl
  got_last (y ∷ xs) x d = got_last xs x d

  pub got_mapped : {Y : Type 0} (f : X → Y) (xs : List X) (i : ℕ) (d : X) → get_or (map f xs) i (f d) ≡ f (get_or xs i d)
  got_mapped f [] i d = refl
  got_mapped f (x ∷ xs) zero d = refl
  got_mapped f (x ∷ xs) (suc i) d = got_mapped f xs i d

-- A datagram.

pub later_taken : (t : Terms) (last first : ℕ) (packets done : List Packet) (s next : State) (i conv : ℕ) (way : Way) (d : Conversation) (p : Packet)
    → Stands t last first packets done 0 s → s.waiting ≡ [] → IsPlaced p.key s.table i → IsNext t first packets done p → (0 < length p.payload → s.budget.stamp < 2 ^ 31)
    → conv ≡ (get_or s.table i d).number → way ≡ way_at (get_or s.table i d) p.toward → next ≡ with_datagram_at s i conv (get_or s.table i d) way p.number p.now p.payload
    → Stands t last first packets (done ++ p ∷ []) 0 next
later_taken t last first packets done s next i conv way d p h calm place is stamp conv_is way_is next_is =
    subst (Stands t last first packets (done ++ p ∷ []) 0) (sym (next_is ∙ (λ j. with_datagram_at s i (conv_is j) (get_or s.table i d) (way_is j) p.number p.now p.payload)))
    (stands_datagram t last first packets done s i d p h place (omega (arith, ap (λ (l : List _). length l) calm)) is stamp)

pub first_taken : (t : Terms) (last first : ℕ) (packets done : List Packet) (s opened next : State) (p : Packet) (c : Conversation)
    → Stands t last first packets done 0 s → s.waiting ≡ [] → NoneHasKey p.key s.table → IsNext t first packets done p → (0 < length p.payload → opened.budget.stamp < 2 ^ 31)
    → opened ≡ with_conversation s p.number p.key p.toward
    → HoldsAt (λ c. next ≡ with_datagram_at opened (length s.table) p.number c Fore p.number p.now p.payload) opened.table (length s.table)
    → Stands t last first packets (done ++ p ∷ []) 0 next
first_taken t last first packets done s opened next p d h calm none is stamp opened_is next_is =
    subst (Stands t last first packets (done ++ p ∷ []) 0) (sym same)
    (stands_new t last first packets done s p h none calm is (subst (λ (r : State). 0 < length p.payload → r.budget.stamp < 2 ^ 31) opened_is stamp))
  where
    c : Conversation
    c = unbegun p.number p.key p.toward

    same : next ≡ with_datagram_at (with_conversation s p.number p.key p.toward) (length s.table) p.number c Fore p.number p.now p.payload
    same =
        next_is d
        ∙ (λ j. with_datagram_at (opened_is j) (length s.table) p.number (get_or (opened_is j).table (length s.table) d) Fore p.number p.now p.payload)
        ∙ ap (λ (k : Conversation). with_datagram_at (with_conversation s p.number p.key p.toward) (length s.table) p.number k Fore p.number p.now p.payload) (got_last s.table c d)

-- An End.

pub one_ended : (t : Terms) (last first : ℕ) (packets done : List Packet) (s r next : State) (i n conv : ℕ) (d : Conversation)
    → Stands t last first packets done i s → r ≡ answered_many n s → length s.waiting < n + 256 → i < length r.table → last < first + t.idle
    → conv ≡ (get_or r.table i d).number → next ≡ with_end_at last r i conv (get_or r.table i d)
    → Stands t last first packets done (suc i) next
one_ended t last first packets done s r next i n conv d h r_is few within until conv_is next_is =
    subst (Stands t last first packets done (suc i)) (sym (next_is ∙ (λ j. with_end_at last r i (conv_is j) (get_or r.table i d))))
    (stands_end t last first packets done r i d (subst (Stands t last first packets done i) (sym r_is) (stands_many t last first packets done i n s h)) within
    (omega (arith, few, ap (λ (x : State). length x.waiting) r_is, (many_take n s).0)) until)

-- the front of a list that was passed to its end
pub all_passed : {X : Type 0} (xs : List X) (i : ℕ) → length xs ≤ i → take i xs ≡ xs
all_passed [] zero l = refl
all_passed [] (suc i) l = refl
all_passed (x ∷ xs) zero l = absurd (omega arith)
all_passed {X = X} (x ∷ xs) (suc i) l = ap (λ (l : List X). x ∷ l) (all_passed xs i (omega arith))
