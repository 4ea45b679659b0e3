-- Conversations in a core's list, by what is kept of them.
use Rattle.std.specs.Prelude.{◌≡◌, refl, ℕ, zero, suc, ◌≤◌, Bool, true, false, cond, ◌==◌, List, [], ◌∷◌, ◌++◌, length, drop, map, filter, None, Some, slice_get}
use Rattle.std.proofs.Common.{sym, ◌∙◌, ap, arith, append-nil}
use Rattle.std.proofs.lemmas.Bool.Decides.{nat_tests}
use Rattle.streamkey.specs.declared.key.Key.{Key}
use Rattle.streamdefs.specs.Lists.{Each, or_else}
use Rattle.streamdefs.specs.Packet.{same_key}
use Rattle.streamdefs.specs.Convo.{Convo, Event}
use Rattle.streamdefs.specs.Core.{Open, Told, find_convo, put_convo, latest_of}
use Rattle.datagrams.specs.Table.{Kept, IsOne, AllStand, own, HasNoId, HasNoKey, told_of}

-- what stands at a place
pub record Split (first : ℕ) (waiting : List Told) (xs : List Kept) (k : Kept) (ys : List Kept) (os : List Open) : Type 0 where
  pub before : List Open
  pub here : Open
  pub behind : List Open
  pub is : os ≡ before ++ here ∷ behind
  pub earlier : AllStand first waiting xs before
  pub one : IsOne first waiting k here
  pub later : AllStand first waiting ys behind

pub split : (first : ℕ) (waiting : List Told) (xs : List Kept) (k : Kept) (ys : List Kept) (os : List Open) → AllStand first waiting (xs ++ k ∷ ys) os → Split first waiting xs k ys os
split first waiting [] k ys [] h = absurd h
split first waiting [] k ys (o ∷ os) h = record { before = []; here = o; behind = os; is = refl; earlier = tt; one = h.0; later = h.1 }
split first waiting (x ∷ xs) k ys [] h = absurd h
split first waiting (x ∷ xs) k ys (o ∷ os) h =
    let rest = split first waiting xs k ys os h.1 in
    record { before = o ∷ rest.before; here = rest.here; behind = rest.behind; is = ap (λ l. o ∷ l) rest.is; earlier = (h.0, rest.earlier); one = rest.one; later = rest.later }

-- and put together again
pub joined_stand : (first : ℕ) (waiting : List Told) (xs : List Kept) (k : Kept) (ys : List Kept) (before : List Open) (o : Open) (behind : List Open)
    → AllStand first waiting xs before → IsOne first waiting k o → AllStand first waiting ys behind → AllStand first waiting (xs ++ k ∷ ys) (before ++ o ∷ behind)
joined_stand first waiting [] k ys [] o behind a b c = (b, c)
joined_stand first waiting [] k ys (p ∷ before) o behind a b c = absurd a
joined_stand first waiting (x ∷ xs) k ys [] o behind a b c = absurd a
joined_stand first waiting (x ∷ xs) k ys (p ∷ before) o behind a b c = (a.0, joined_stand first waiting xs k ys before o behind a.1 b c)

-- Numbers and keys.

abbrev pub NoneHas : ℕ → List Open → Type 0
NoneHas id os = Each (λ o. (o.id == id) ≡ false) os

abbrev pub NoneKeyed : Key → List Open → Type 0
NoneKeyed key os = Each (λ o. same_key o.convo.first.key key ≡ false) os

pub none_has : (first : ℕ) (waiting : List Told) (id : ℕ) (ks : List Kept) (os : List Open) → AllStand first waiting ks os → HasNoId id ks → NoneHas id os
none_has first waiting id [] [] h n = tt
none_has first waiting id [] (o ∷ os) h n = absurd h
none_has first waiting id (k ∷ ks) [] h n = absurd h
none_has first waiting id (k ∷ ks) (o ∷ os) h n = (ap (λ m. m == id) h.0.id ∙ n.0, none_has first waiting id ks os h.1 n.1)

pub none_keyed : (first : ℕ) (waiting : List Told) (key : Key) (ks : List Kept) (os : List Open) → AllStand first waiting ks os → HasNoKey key ks → NoneKeyed key os
none_keyed first waiting key [] [] h n = tt
none_keyed first waiting key [] (o ∷ os) h n = absurd h
none_keyed first waiting key (k ∷ ks) [] h n = absurd h
none_keyed first waiting key (k ∷ ks) (o ∷ os) h n = (ap (λ m. same_key m key) h.0.talks.key ∙ n.0, none_keyed first waiting key ks os h.1 n.1)

pub find_none : (id : ℕ) (os : List Open) → NoneHas id os → find_convo id os ≡ None
find_none id [] h = refl
find_none id (o ∷ os) h = ap (λ b. cond b (Some o.convo) (find_convo id os)) h.0 ∙ find_none id os h.1

same_number : (n : ℕ) → (n == n) ≡ true
same_number n = grind (arith, nat_tests)

pub find_at : (id : ℕ) (before : List Open) (o : Open) (behind : List Open) → NoneHas id before → o.id ≡ id → find_convo id (before ++ o ∷ behind) ≡ Some o.convo
find_at id [] o behind h e = ap (λ m. cond (m == id) (Some o.convo) (find_convo id behind)) e ∙ ap (λ b. cond b (Some o.convo) (find_convo id behind)) (same_number id)
find_at id (p ∷ before) o behind h e = ap (λ b. cond b (Some p.convo) (find_convo id (before ++ o ∷ behind))) h.0 ∙ find_at id before o behind h.1 e

pub put_at : (id : ℕ) (c : Convo) (before : List Open) (o : Open) (behind : List Open) → NoneHas id before → o.id ≡ id
    → put_convo id c (before ++ o ∷ behind) ≡ before ++ record { id = id; convo = c } ∷ behind
put_at id c [] o behind h e =
    ap (λ m. cond (m == id) (record { id = id; convo = c } ∷ behind) (o ∷ put_convo id c behind)) e ∙ ap (λ b. cond b (record { id = id; convo = c } ∷ behind) (o ∷ put_convo id c behind)) (same_number id)
put_at id c (p ∷ before) o behind h e =
    ap (λ b. cond b (record { id = id; convo = c } ∷ (before ++ o ∷ behind)) (p ∷ put_convo id c (before ++ o ∷ behind))) h.0 ∙ ap (λ l. p ∷ l) (put_at id c before o behind h.1 e)

pub put_new : (id : ℕ) (c : Convo) (os : List Open) → NoneHas id os → put_convo id c os ≡ os ++ record { id = id; convo = c } ∷ []
put_new id c [] h = refl
put_new id c (o ∷ os) h = ap (λ b. cond b (record { id = id; convo = c } ∷ os) (o ∷ put_convo id c os)) h.0 ∙ ap (λ l. o ∷ l) (put_new id c os h.1)

pub latest_none : (key : Key) (os : List Open) → NoneKeyed key os → latest_of key os ≡ None
latest_none key [] h = refl
latest_none key (o ∷ os) h = (λ i. or_else (latest_none key os h.1 i) (cond (h.0 i) (Some o) None))

pub latest_at : (key : Key) (before : List Open) (o : Open) (behind : List Open) → NoneKeyed key behind → same_key o.convo.first.key key ≡ true → latest_of key (before ++ o ∷ behind) ≡ Some o
latest_at key [] o behind h e = (λ i. or_else (latest_none key behind h i) (cond (e i) (Some o) None))
latest_at key (p ∷ before) o behind h e = ap (λ l. or_else l (cond (same_key p.convo.first.key key) (Some p) None)) (latest_at key before o behind h e)

pub own_other : (id conv : ℕ) (events : List Event) → (conv == id) ≡ false → own id (told_of conv events) ≡ []
own_other id conv [] h = refl
own_other id conv (e ∷ events) h =
    ap (λ b. map (λ t. t.event) (cond b (record { conv = conv; event = e } ∷ filter (λ t. t.conv == id) (told_of conv events)) (filter (λ t. t.conv == id) (told_of conv events)))) h ∙ own_other id conv events h

pub own_same : (id : ℕ) (events : List Event) → own id (told_of id events) ≡ events
own_same id [] = refl
own_same id (e ∷ events) =
    ap (λ b. map (λ t. t.event) (cond b (record { conv = id; event = e } ∷ filter (λ t. t.conv == id) (told_of id events)) (filter (λ t. t.conv == id) (told_of id events)))) (same_number id)
    ∙ ap (λ l. e ∷ l) (own_same id events)

pub own-append : (id : ℕ) (xs ys : List Told) → own id (xs ++ ys) ≡ own id xs ++ own id ys
own-append id [] ys = refl
own-append id (x ∷ xs) ys = by (x.conv == id) (own-append id xs ys)
  where
    by : (b : Bool) → own id (xs ++ ys) ≡ own id xs ++ own id ys
        → map (λ t. t.event) (cond b (x ∷ filter (λ t. t.conv == id) (xs ++ ys)) (filter (λ t. t.conv == id) (xs ++ ys)))
        ≡ map (λ t. t.event) (cond b (x ∷ filter (λ t. t.conv == id) xs) (filter (λ t. t.conv == id) xs)) ++ own id ys
    by true rest = ap (λ l. x.event ∷ l) rest
    by false rest = rest

swapped : (a b : ℕ) → (a == b) ≡ false → (b == a) ≡ false
swapped a b h = grind (arith, nat_tests)

-- the others, once a conversation has more events
pub others_told : (first : ℕ) (waiting : List Told) (conv : ℕ) (events : List Event) (ks : List Kept) (os : List Open) → AllStand first waiting ks os → HasNoId conv ks
    → AllStand first (waiting ++ told_of conv events) ks os
others_told first waiting conv events [] [] h n = tt
others_told first waiting conv events [] (o ∷ os) h n = absurd h
others_told first waiting conv events (k ∷ ks) [] h n = absurd h
others_told first waiting conv events (k ∷ ks) (o ∷ os) h n = (
  record {
    id = h.0.id;
    talks = h.0.talks;
    begun = h.0.begun;
    clock = h.0.clock;
    answered = h.0.answered;
    unanswered = h.0.unanswered ∙ sym (own-append o.id waiting (told_of conv events) ∙ ap (λ l. own o.id waiting ++ l) (own_other o.id conv events other) ∙ append-nil (own o.id waiting));
  },
  others_told first waiting conv events ks os h.1 n.1,
)
  where
    other : (conv == o.id) ≡ false
    other = swapped o.id conv (ap (λ m. m == conv) h.0.id ∙ n.0)

-- and once one of its events is answered
pub others_answered : (first : ℕ) (w : Told) (waiting : List Told) (ks : List Kept) (os : List Open) → AllStand first (w ∷ waiting) ks os → HasNoId w.conv ks → AllStand first waiting ks os
others_answered first w waiting [] [] h n = tt
others_answered first w waiting [] (o ∷ os) h n = absurd h
others_answered first w waiting (k ∷ ks) [] h n = absurd h
others_answered first w waiting (k ∷ ks) (o ∷ os) h n = (
  record {
    id = h.0.id;
    talks = h.0.talks;
    begun = h.0.begun;
    clock = h.0.clock;
    answered = h.0.answered;
    unanswered = h.0.unanswered ∙ ap (λ b. map (λ t. t.event) (cond b (w ∷ filter (λ t. t.conv == o.id) waiting) (filter (λ t. t.conv == o.id) waiting))) other;
  },
  others_answered first w waiting ks os h.1 n.1,
)
  where
    other : (w.conv == o.id) ≡ false
    other = swapped o.id w.conv (ap (λ m. m == w.conv) h.0.id ∙ n.0)

-- its own event is the next
pub own_next : (w : Told) (waiting : List Told) (id : ℕ) → w.conv ≡ id → own id (w ∷ waiting) ≡ w.event ∷ own id waiting
own_next w waiting id e =
    ap (λ b. map (λ t. t.event) (cond b (w ∷ filter (λ t. t.conv == id) waiting) (filter (λ t. t.conv == id) waiting))) (ap (λ m. m == id) e ∙ same_number id)

-- Lists.

module _ {X : Type 0} where
  pub drop_append : (n : ℕ) (xs ys : List X) → n ≤ length xs → drop n (xs ++ ys) ≡ drop n xs ++ ys
  drop_append zero xs ys h = refl
  drop_append (suc n) [] ys h = absurd (omega arith)
  drop_append (suc n) (x ∷ xs) ys h = drop_append n xs ys (omega arith)

  pub drop_next : (n : ℕ) (xs : List X) (y : X) (ys : List X) → drop n xs ≡ y ∷ ys → (slice_get xs n ≡ Some y) × (drop (suc n) xs ≡ ys) × (suc n ≤ length xs)
  drop_next zero [] y ys e = absurd cc
  drop_next zero (x ∷ xs) y ys e = (ap (λ l. slice_get l 0) e, ap (λ l. drop 1 l) e, omega arith)
  drop_next (suc n) [] y ys e = absurd cc
  drop_next (suc n) (x ∷ xs) y ys e = let rest = drop_next n xs y ys e in (rest.0, rest.1, omega (arith, rest.2))
