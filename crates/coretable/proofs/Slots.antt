-- Slots, the index and the events that wait, once a conversation is put anew.
use Rattle.std.specs.Prelude.{◌≡◌, refl, ℕ, zero, suc, ◌≤◌, ◌<◌, Bool, true, false, cond, ◌==◌, List, [], ◌∷◌, ◌++◌, Option, None, Some, slice_get, slice_set}
use Rattle.std.proofs.Common.{sym, ◌∙◌, ap, arith, subst}
use Rattle.std.proofs.lemmas.Bool.Decides.{nat_tests}
use Rattle.streamkey.specs.declared.key.Key.{Key}
use Rattle.streamdefs.specs.Packet.{Packet}
use Rattle.streamdefs.specs.Convo.{Convo, is_live}
use Rattle.streamdefs.specs.Core.{Open, find_convo, put_convo, latest_of}
use Rattle.coretable.specs.Orderly.{Rises}
use Rattle.coretable.proofs.Places.{from_test, rises_above, NoneHas, same_number}
use Rattle.coretable.proofs.Answers.{swapped, latest_put}
use Rattle.coretable.specs.declared.slot.Slot.{Slot}
use Rattle.coretable.specs.Standing.{KeepsTalk, IsSlotOf, AreSlots, IsDueIn, AreDue, IsIndexed, ids_of, AreEnded}
use Rattle.coretable.specs.Moments.{moment_of}
use Rattle.convo.specs.Talk.{due_of}
use Rattle.deadlines.specs.Dues.{Dues}
use Rattle.std.specs.FinMap.{get as moment_in}
use Rattle.streamdefs.specs.Terms.{Terms}

least_of : (from : ℕ) (os : List Open) (place : ℕ) (o : Open) → Rises from os → slice_get os place ≡ Some o → from ≤ o.id
least_of from [] zero o r g = absurd cc
least_of from [] (suc n) o r g = absurd cc
least_of from (z ∷ os) zero o r g = let same : z ≡ o = cc in subst (λ (w : Open). from ≤ w.id) same r.0
least_of from (z ∷ os) (suc n) o r g = omega (arith, r.0, least_of (suc z.id) os n o r.2 g)

-- A conversation put anew.
put_none : (id : ℕ) (c : Convo) (os : List Open) (k : ℕ) (b : Bool) → NoneHas id os → swapped id c (slice_get os k) ≡ slice_get os k
put_none id c [] k b h = gone k
  where
    gone : (k : ℕ) → swapped id c (slice_get [] k) ≡ slice_get [] k
    gone zero = refl
    gone (suc k) = refl
put_none id c (o ∷ os) zero b h = ap (λ t. cond t (Some (record { id = id; convo = c })) (Some o)) h.0
put_none id c (o ∷ os) (suc k) b h = put_none id c os k b h.1

get_one : (from id : ℕ) (c x : Convo) (o : Open) (os : List Open) (k : ℕ) (b : Bool) → (o.id == id) ≡ b → Rises from (o ∷ os) → cond b (Some o.convo) (find_convo id os) ≡ Some x
    → (find_convo id os ≡ Some x → (j : ℕ) → slice_get (put_convo id c os) j ≡ swapped id c (slice_get os j))
    → slice_get (cond b (record { id = id; convo = c } ∷ os) (o ∷ put_convo id c os)) k ≡ swapped id c (slice_get (o ∷ os) k)
get_one from id c x o os zero true t r e rest = sym (ap (λ b. cond b (Some (record { id = id; convo = c })) (Some o)) t)
get_one from id c x o os (suc k) true t r e rest = sym (put_none id c os k true (subst (λ n. NoneHas n os) (from_test o.id id t) (rises_above o.id (suc o.id) os (omega arith) r.2)))
get_one from id c x o os zero false t r e rest = sym (ap (λ b. cond b (Some (record { id = id; convo = c })) (Some o)) t)
get_one from id c x o os (suc k) false t r e rest = rest e k

pub get_put : (from id : ℕ) (c x : Convo) (os : List Open) → Rises from os → find_convo id os ≡ Some x → (k : ℕ) → slice_get (put_convo id c os) k ≡ swapped id c (slice_get os k)
get_put from id c x [] r e k = absurd cc
get_put from id c x (o ∷ os) r e k = get_one from id c x o os k (o.id == id) refl r e (λ e'. get_put (suc o.id) id c x os r.2 e')

same_one : (id : ℕ) (c : Convo) (o : Open) (os : List Open) (b : Bool) → (o.id == id) ≡ b → cond b (Some o.convo) (find_convo id os) ≡ Some c → (find_convo id os ≡ Some c → put_convo id c os ≡ os)
    → cond b (record { id = id; convo = c } ∷ os) (o ∷ put_convo id c os) ≡ o ∷ os
same_one id c o os true t e rest = let same : o.convo ≡ c = cc in sym (λ i. record { id = from_test o.id id t i; convo = same i } ∷ os)
same_one id c o os false t e rest = ap (λ l. o ∷ l) (rest e)

pub put_same : (id : ℕ) (c : Convo) (os : List Open) → find_convo id os ≡ Some c → put_convo id c os ≡ os
put_same id c [] e = absurd cc
put_same id c (o ∷ os) e = same_one id c o os (o.id == id) refl e (λ e'. put_same id c os e')

twice_one : (id : ℕ) (c d : Convo) (o : Open) (os : List Open) (b : Bool) → (o.id == id) ≡ b → put_convo id d (put_convo id c os) ≡ put_convo id d os
    → put_convo id d (cond b (record { id = id; convo = c } ∷ os) (o ∷ put_convo id c os)) ≡ cond b (record { id = id; convo = d } ∷ os) (o ∷ put_convo id d os)
twice_one id c d o os true t rest = ap (λ b. cond b (record { id = id; convo = d } ∷ os) (record { id = id; convo = c } ∷ put_convo id d os)) (same_number id)
twice_one id c d o os false t rest = ap (λ b. cond b (record { id = id; convo = d } ∷ put_convo id c os) (o ∷ put_convo id d (put_convo id c os))) t ∙ ap (λ l. o ∷ l) rest

pub put_twice : (id : ℕ) (c d : Convo) (os : List Open) → put_convo id d (put_convo id c os) ≡ put_convo id d os
put_twice id c d [] = ap (λ b. cond b (record { id = id; convo = d } ∷ []) (record { id = id; convo = c } ∷ put_convo id d [])) (same_number id)
put_twice id c d (o ∷ os) = twice_one id c d o os (o.id == id) refl (put_twice id c d os)

ids_one : (id : ℕ) (c x : Convo) (o : Open) (os : List Open) (b : Bool) → (o.id == id) ≡ b → cond b (Some o.convo) (find_convo id os) ≡ Some x → (find_convo id os ≡ Some x → ids_of (put_convo id c os) ≡ ids_of os)
    → ids_of (cond b (record { id = id; convo = c } ∷ os) (o ∷ put_convo id c os)) ≡ ids_of (o ∷ os)
ids_one id c x o os true t e rest = ap (λ (n : ℕ). n ∷ ids_of os) (sym (from_test o.id id t))
ids_one id c x o os false t e rest = ap (λ l. o.id ∷ l) (rest e)

pub ids_put : (id : ℕ) (c x : Convo) (os : List Open) → find_convo id os ≡ Some x → ids_of (put_convo id c os) ≡ ids_of os
ids_put id c x [] e = absurd cc
ids_put id c x (o ∷ os) e = ids_one id c x o os (o.id == id) refl e (λ e'. ids_put id c x os e')

-- The index stays right.
indexed_swap : (id : ℕ) (c : Convo) (os os' : List Open) (place : Option ℕ) (latest : Option Open) → ((k : ℕ) → slice_get os' k ≡ swapped id c (slice_get os k)) → IsIndexed os place latest
    → IsIndexed os' place (swapped id c latest)
indexed_swap id c os os' None None g h = tt
indexed_swap id c os os' (Some place) None g h = absurd h
indexed_swap id c os os' None (Some o) g h = absurd h
indexed_swap id c os os' (Some place) (Some o) g h = by (o.id == id) (g place ∙ ap (swapped id c) h)
  where
    by : (b : Bool) → slice_get os' place ≡ cond b (Some (record { id = id; convo = c })) (Some o) → IsIndexed os' (Some place) (cond b (Some (record { id = id; convo = c })) (Some o))
    by true e = e
    by false e = e

pub indexed_put : (id : ℕ) (c x : Convo) (os : List Open) (key : Key) (place : Option ℕ) → Rises 0 os → find_convo id os ≡ Some x → c.first ≡ x.first → IsIndexed os place (latest_of key os)
    → IsIndexed (put_convo id c os) place (latest_of key (put_convo id c os))
indexed_put id c x os key place r e f h =
    subst (IsIndexed (put_convo id c os) place) (sym (latest_put key 0 id c x os r e f)) (indexed_swap id c os (put_convo id c os) place (latest_of key os) (get_put 0 id c x os r e) h)

-- Those that have ended stay so.
pub ended_put : (n id : ℕ) (c x : Convo) (os : List Open) → Rises 0 os → find_convo id os ≡ Some x → ((k : ℕ) (o : Open) → slice_get os k ≡ Some o → o.id ≡ id → o.convo ≡ x) → (is_live x ≡ false → is_live c ≡ false)
    → AreEnded n os → AreEnded n (put_convo id c os)
ended_put n id c x os r e u d h k o l g = by (slice_get os k) refl (sym (get_put 0 id c x os r e k) ∙ g)
  where
    of_swap : (q : Open) (b : Bool) → (q.id == id) ≡ b → slice_get os k ≡ Some q → cond b (Some (record { id = id; convo = c })) (Some q) ≡ Some o → is_live o.convo ≡ false
    of_swap q true t got w =
        let same : record { id = id; convo = c } ≡ o = cc in
        subst (λ (z : Open). is_live z.convo ≡ false) same (d (sym (ap is_live (u k q got (from_test q.id id t))) ∙ h k q l got))
    of_swap q false t got w = let same : q ≡ o = cc in subst (λ (z : Open). is_live z.convo ≡ false) same (h k q l got)

    by : (got : Option Open) → slice_get os k ≡ got → swapped id c got ≡ Some o → is_live o.convo ≡ false
    by None got w = absurd cc
    by (Some q) got w = of_swap q (q.id == id) refl got w

-- What stands at two places under one number stands at one place.
places_equal : (from : ℕ) (os : List Open) (i j : ℕ) (x y : Open) → Rises from os → slice_get os i ≡ Some x → slice_get os j ≡ Some y → x.id ≡ y.id → i ≡ j
places_equal from [] zero j x y r e f g = absurd cc
places_equal from [] (suc i) j x y r e f g = absurd cc
places_equal from (o ∷ os) zero zero x y r e f g = refl
places_equal from (o ∷ os) zero (suc j) x y r e f g = let same : o ≡ x = cc in absurd (omega (arith, least_of (suc o.id) os j y r.2 f, ap (λ (z : Open). z.id) same, g))
places_equal from (o ∷ os) (suc i) zero x y r e f g = let same : o ≡ y = cc in absurd (omega (arith, least_of (suc o.id) os i x r.2 e, ap (λ (z : Open). z.id) same, g))
places_equal from (o ∷ os) (suc i) (suc j) x y r e f g = ap suc (places_equal (suc o.id) os i j x y r.2 e f g)

test_false : (a b : ℕ) → (a ≡ b → ⊥) → (a == b) ≡ false
test_false a b h = by (a == b) refl
  where
    by : (t : Bool) → (a == b) ≡ t → t ≡ false
    by true e = absurd (h (from_test a b e))
    by false e = refl

test_true : (a b : ℕ) → a ≡ b → (a == b) ≡ true
test_true a b e = ap (λ n. a == n) (sym e) ∙ same_number a

turned : (a b : ℕ) → (a == b) ≡ false → (b == a) ≡ false
turned a b e = grind (arith, nat_tests)

unequal : (b : Bool) → b ≡ true → b ≡ false → ⊥
unequal b e f = cc

-- The moments, once a conversation is put anew at its place.
pub dues_put : (t : Terms) (id place : ℕ) (c x : Convo) (o : Open) (os : List Open) (old new : Dues) → Rises 0 os → find_convo id os ≡ Some x → slice_get os place ≡ Some o → o.id ≡ id
    → ((k : ℕ) → moment_in new k ≡ cond (place == k) (moment_of (due_of t c)) (moment_in old k)) → AreDue t (Some id) os old → AreDue t None (put_convo id c os) new
dues_put t id place c x o os old new r f at i n h k = subst (IsDueIn t None new k) (sym (get_put 0 id c x os r f k)) (by (slice_get os k) refl)
  where
    elsewhere : (place == k) ≡ false → moment_in new k ≡ moment_in old k
    elsewhere e = n k ∙ ap (λ b. cond b (moment_of (due_of t c)) (moment_in old k)) e

    here : (place == k) ≡ true → moment_in new k ≡ moment_of (due_of t c)
    here e = n k ∙ ap (λ b. cond b (moment_of (due_of t c)) (moment_in old k)) e

    none_some : None ≡ Some o → ⊥
    none_some e = cc

    some_same : {y z : Open} → Some y ≡ Some z → y ≡ z
    some_same e = cc

    of_one : (q : Open) (b : Bool) → (q.id == id) ≡ b → slice_get os k ≡ Some q → IsDueIn t None new k (cond b (Some (record { id = id; convo = c })) (Some q))
    of_one q true e g = λ hole. here (test_true place k (places_equal 0 os place k o q r at g (i ∙ sym (from_test q.id id e))))
    of_one q false e g = λ hole.
        elsewhere (test_false place k (λ same. unequal (q.id == id) (test_true q.id id (ap (λ (z : Open). z.id) (some_same (sym g ∙ ap (slice_get os) (sym same) ∙ at)) ∙ i)) e))
        ∙ subst (IsDueIn t (Some id) old k) g (h k) (turned q.id id e)

    by : (got : Option Open) → slice_get os k ≡ got → IsDueIn t None new k (swapped id c got)
    by None g = elsewhere (test_false place k (λ same. none_some (sym g ∙ ap (slice_get os) (sym same) ∙ at))) ∙ subst (IsDueIn t (Some id) old k) g (h k)
    by (Some q) g = of_one q (q.id == id) refl g

-- one of them is taken out of its place
pub dues_taken : (t : Terms) (id : ℕ) (os : List Open) (index : Dues) → AreDue t None os index → AreDue t (Some id) os index
dues_taken t id os index h k = by (slice_get os k) (h k)
  where
    by : (got : Option Open) → IsDueIn t None index k got → IsDueIn t (Some id) index k got
    by None e = e
    by (Some o) e = λ hole. e refl

abbrev no_opens : List Open
no_opens = []

empty_get : (k : ℕ) → slice_get no_opens k ≡ None
empty_get zero = refl
empty_get (suc k) = refl

got_end : (P : Option Open → Type 0) (os : List Open) (o : Open) (k : ℕ) → (slice_get os k ≡ None → P None) → (slice_get os k ≡ None → P (Some o)) → ((q : Open) → slice_get os k ≡ Some q → P (Some q))
    → P (slice_get (os ++ o ∷ []) k)
got_end P [] o zero n l s = l refl
got_end P [] o (suc k) n l s = subst P (sym (empty_get k)) (n refl)
got_end P (x ∷ os) o zero n l s = s x refl
got_end P (x ∷ os) o (suc k) n l s = got_end P os o k n l s

-- one more opens
pub dues_end : (t : Terms) (id : ℕ) (os : List Open) (o : Open) (index : Dues) → o.id ≡ id → AreDue t None os index → AreDue t (Some id) (os ++ o ∷ []) index
dues_end t id os o index i h k =
    got_end (IsDueIn t (Some id) index k) os o k (λ e. subst (IsDueIn t None index k) e (h k)) (λ e hole. absurd (unequal (id == o.id) (test_true id o.id (sym i)) hole))
    (λ q e hole. subst (IsDueIn t None index k) e (h k) refl)

-- The slots.
module _ {T : Type 0} (Is Was : Open → T → Type 0) where
  -- what is kept of another conversation stays right
  abbrev pub StaysBeside : ℕ → Type 0
  StaysBeside id = (o : Open) (x : T) → (id == o.id) ≡ false → Was o x → Is o x

  kept_one : (id : ℕ) (o : Open) (talk : Option T) → (id == o.id) ≡ false → StaysBeside id → KeepsTalk Was false o talk → KeepsTalk Is false o talk
  kept_one id o None n stays h = h
  kept_one id o (Some x) n stays h = stays o x n h

  not_hole : (id : ℕ) (o : Open) (s : Slot T) → (id == o.id) ≡ false → StaysBeside id → IsSlotOf Was (Some id) o s → IsSlotOf Is None o s
  not_hole id o s n stays h = record { number = h.number; key = h.key; clock = h.clock; talk = kept_one id o s.talk n stays (subst (λ b. KeepsTalk Was b o s.talk) n h.talk) }

  filled : (id : ℕ) (os : List Open) (ss : List (Slot T)) → NoneHas id os → StaysBeside id → AreSlots Was (Some id) os ss → AreSlots Is None os ss
  filled id [] [] n stays h = tt
  filled id [] (s ∷ ss) n stays h = absurd h
  filled id (o ∷ os) [] n stays h = absurd h
  filled id (o ∷ os) (s ∷ ss) n stays h = (not_hole id o s (turned id o.id n.0) stays h.0, filled id os ss n.1 stays h.1)
    where
      turned : (a b : ℕ) → (b == a) ≡ false → (a == b) ≡ false
      turned a b e = grind (arith, nat_tests)

  -- what is kept of a conversation is put back
  pub slots_put : (from id place clock : ℕ) (c : Convo) (talk : T) (os : List Open) (o : Open) (ss : List (Slot T)) (s : Slot T) → Rises from os → StaysBeside id → AreSlots Was (Some id) os ss
      → slice_get os place ≡ Some o → o.id ≡ id → slice_get ss place ≡ Some s → c.first ≡ o.convo.first → clock ≡ c.clock → Is (record { id = id; convo = c }) talk
      → AreSlots Is None (put_convo id c os) (slice_set ss place (record s { clock = clock; talk = Some talk }))
  slots_put from id place clock c talk [] o ss s r stays h g i gs f k st = absurd (none place g)
    where
      none : (n : ℕ) → slice_get [] n ≡ Some o → ⊥
      none zero e = cc
      none (suc n) e = cc
  slots_put from id place clock c talk (x ∷ os) o [] s r stays h g i gs f k st = absurd h
  slots_put from id zero clock c talk (x ∷ os) o (y ∷ ss) s r stays h g i gs f k st =
      let same_o : x ≡ o = cc in
      let same_s : y ≡ s = cc in
      let same_id : x.id ≡ id = ap (λ (z : Open). z.id) same_o ∙ i in
      subst (λ b. AreSlots Is None (cond b (record { id = id; convo = c } ∷ os) (x ∷ put_convo id c os)) (record s { clock = clock; talk = Some talk } ∷ ss))
      (sym (ap (λ (n : ℕ). n == id) same_id ∙ same_number id)) (
        record {
          number = sym (ap (λ (z : Slot T). z.number) same_s) ∙ h.0.number ∙ same_id;
          key = sym (ap (λ (z : Slot T). z.key) same_s) ∙ h.0.key ∙ (λ i. (same_o i).convo.first.key) ∙ sym (ap (λ (p : Packet). p.key) f);
          clock = k;
          talk = st;
        },
        filled id os ss (subst (λ n. NoneHas n os) same_id (rises_above x.id (suc x.id) os (omega arith) r.2)) stays h.1,
      )
  slots_put from id (suc place) clock c talk (x ∷ os) o (y ∷ ss) s r stays h g i gs f k st =
      let above : x.id < o.id = later from x os place o r g in
      let other : (x.id == id) ≡ false = differ x.id id (omega (arith, above, i)) in
      subst (λ b. AreSlots Is None (cond b (record { id = id; convo = c } ∷ os) (x ∷ put_convo id c os)) (y ∷ slice_set ss place (record s { clock = clock; talk = Some talk })))
      (sym other)
      (not_hole id x y (differ_turned x.id id (omega (arith, above, i))) stays h.0, slots_put (suc x.id) id place clock c talk os o ss s r.2 stays h.1 g i gs f k st)
    where
      differ : (a b : ℕ) → a < b → (a == b) ≡ false
      differ a b l = grind (arith, nat_tests)

      differ_turned : (a b : ℕ) → a < b → (b == a) ≡ false
      differ_turned a b l = grind (arith, nat_tests)

      least : (from : ℕ) (os : List Open) (place : ℕ) (o : Open) → Rises from os → slice_get os place ≡ Some o → from ≤ o.id
      least from [] zero o r g = absurd cc
      least from [] (suc n) o r g = absurd cc
      least from (z ∷ os) zero o r g = let same : z ≡ o = cc in subst (λ (w : Open). from ≤ w.id) same r.0
      least from (z ∷ os) (suc n) o r g = omega (arith, r.0, least (suc z.id) os n o r.2 g)

      later : (from : ℕ) (x : Open) (os : List Open) (place : ℕ) (o : Open) → Rises from (x ∷ os) → slice_get os place ≡ Some o → x.id < o.id
      later from x os place o r g = least (suc x.id) os place o r.2 g
