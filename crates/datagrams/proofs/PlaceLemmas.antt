-- The places of keys among conversations, and what a table's rows are around one of them.
use Rattle.std.specs.Prelude.{◌≡◌, refl, ℕ, zero, suc, ◌<◌, Bool, true, false, cond, nat_lt, List, [], ◌∷◌, ◌++◌, length, take, drop, map, Option, Some, None, MatchOption}
use Rattle.std.specs.List.{position, position_or_len, HoldsAt}
use Rattle.std.specs.declared.cmp.Ordering.{Ordering}
use Rattle.std.specs.declared.cmp.Ordering.TheVariants.{Less, Equal, Greater}
use Rattle.std.specs.Ordering.{is_eq, ordering_reverse}
use Rattle.std.specs.Cmp.{IsTotalOrder}
use Rattle.std.specs.BTreeMap.{BTreeMap, get, Updates}
use Rattle.std.proofs.Common.{sym, ◌∙◌, ap, subst, arith, get_or, set}
use Rattle.std.proofs.Math.Seq.{split_at, map-set_same}
use Rattle.std.proofs.lemmas.Bool.{false≢true}
use Rattle.std.proofs.lemmas.Grind.{common_steps}
use Rattle.std.proofs.lemmas.List.{get_or-set_same, length-set, map-append, set-set, set_split}
use Rattle.std.proofs.lemmas.List.Folds.{position_or_len_push, position_or_len-set}
use Rattle.std.proofs.lemmas.List.Sums.{prefix_len-le-length, fails_before_first}
use Rattle.std.proofs.lemmas.List.Quantifiers.{position-Some}
use Rattle.evring.specs.declared.way.Way.{Way}
use Rattle.evring.specs.declared.way.Way.TheVariants.{Fore, Back}
use Rattle.streamkey.specs.declared.key.Key.{Key}
use Rattle.streamkey.specs.declared.toward.Toward.{Toward}
use Rattle.streamkey.specs.Order.{key_order}
use Rattle.streamkey.specs.contracts.key.KeyOrd.TheImpl as key_ord
use Rattle.streamkey.specs.contracts.key.KeyOrd.TheImpl.Laws.{total-law}
use Rattle.streamkey.proofs.OrderLemmas.{cmp-key_order}
use Rattle.streamdefs.specs.Lists.{Each}
use Rattle.streamdefs.specs.Packet.{same_key}
use Rattle.streamdefs.specs.Both.{both, of_way, with_way}
use Rattle.datagrams.specs.declared.conversation.Conversation.{Conversation}
use Rattle.datagrams.specs.Flow.{Flow, dry}
use Rattle.datagrams.specs.Talk.{flow_of, with_flow}
use Rattle.datagrams.specs.Table.{HasNoKey}
use Rattle.datagrams.specs.Sums.{Sums, no_sums, kept_in, number_of}
use Rattle.datagrams.specs.Rows.{unbegun, row_of, rows_of, half_of, sums_of, with_half, has_key, place_of, NoneHasKey, IsPlaced, keys_of, AreApart, IsIndex}

-- Keys.

-- the order of keys is total
key_order_total : IsTotalOrder key_order
key_order_total = subst IsTotalOrder (λ i a b. cmp-key_order a b i) total-law

is_eq-turned : (o : Ordering) → is_eq (ordering_reverse o) ≡ is_eq o
is_eq-turned Less = refl
is_eq-turned Equal = refl
is_eq-turned Greater = refl

is_equal : (o : Ordering) → is_eq o ≡ true → o ≡ Equal
is_equal Less h = absurd (false≢true h)
is_equal Equal h = refl
is_equal Greater h = absurd (false≢true h)

-- keys compare the same the other way round
pub same_key-turned : (a b : Key) → same_key a b ≡ same_key b a
same_key-turned a b = ap is_eq (key_order_total.antisymm a b) ∙ is_eq-turned (key_order b a)

-- what is the same as a key is so to any other
pub same_key-like : (a b other : Key) → same_key a b ≡ true → same_key other a ≡ same_key other b
same_key-like a b other h =
    same_key-turned other a ∙ ap is_eq (key_order_total.congr a b other (is_equal (key_order a b) h)) ∙ same_key-turned b other

-- Lists.

each_taken : {X : Type 0} (p : X → Bool) (xs : List X) (i : ℕ) (d : X) → ((k : ℕ) → k < i → p (get_or xs k d) ≡ false) → Each (λ x. p x ≡ false) (take i xs)
each_taken p [] zero d h = tt
each_taken p (x ∷ xs) zero d h = tt
each_taken p [] (suc i) d h = tt
each_taken p (x ∷ xs) (suc i) d h = (h 0 (omega arith), each_taken p xs i d (λ k l. h (suc k) (omega arith)))

each_of : {X : Type 0} (p : X → Bool) (xs : List X) (d : X) → ((k : ℕ) → k < length xs → p (get_or xs k d) ≡ false) → Each (λ x. p x ≡ false) xs
each_of p [] d h = tt
each_of p (x ∷ xs) d h = (h 0 (omega arith), each_of p xs d (λ k l. h (suc k) (omega arith)))

none_until : {X : Type 0} (p : X → Bool) (xs : List X) → Each (λ x. p x ≡ false) xs → position_or_len p xs ≡ length xs
none_until p [] h = refl
none_until p (x ∷ xs) h = grind (arith, common_steps, h.0, none_until p xs h.1)

position-None : {X : Type 0} (p : X → Bool) (xs : List X) → Each (λ x. p x ≡ false) xs → position p xs ≡ None
position-None p xs h = grind (arith, common_steps, none_until p xs h)

-- one more element that fails leaves the first place at which the test passes
position_push_no : {X : Type 0} (p : X → Bool) (xs : List X) (y : X) → p y ≡ false → position p (xs ++ y ∷ []) ≡ position p xs
position_push_no p xs y h = grind (arith, common_steps, position_or_len_push p xs y, prefix_len-le-length)

-- and one that passes is the first where no other does
position_push_yes : {X : Type 0} (p : X → Bool) (xs : List X) (y : X) → p y ≡ true → position p xs ≡ None → position p (xs ++ y ∷ []) ≡ Some (length xs)
position_push_yes p xs y h none = grind (arith, common_steps, position_or_len_push p xs y, prefix_len-le-length)

-- Places.

-- none has a key that has no place
pub none_placed : (key : Key) (cs : List Conversation) → place_of key cs ≡ None → NoneHasKey key cs
none_placed key [] h = tt
none_placed key (c ∷ cs) h = each_of (has_key key) (c ∷ cs) c (λ k l. fails_before_first (has_key key) (c ∷ cs) k c (at_end k l))
  where
    at_end : (k : ℕ) → k < length (c ∷ cs) → k < position_or_len (has_key key) (c ∷ cs)
    at_end k l = grind (arith, common_steps)

-- and a key that none has has no place
pub no_place : (key : Key) (cs : List Conversation) → NoneHasKey key cs → place_of key cs ≡ None
no_place key cs h = position-None (has_key key) cs h

apart_each : (key : Key) (c : Conversation) (cs : List Conversation) → Each (λ other. same_key c.key other ≡ false) (keys_of cs) → has_key key c ≡ true → NoneHasKey key cs
apart_each key c [] h e = tt
apart_each key c (d ∷ cs) h e = (sym (same_key-like c.key key d.key e) ∙ same_key-turned d.key c.key ∙ h.0, apart_each key c cs h.1 e)

none_behind : (key : Key) (cs : List Conversation) (i : ℕ) (d : Conversation) → AreApart (keys_of cs) → i < length cs → has_key key (get_or cs i d) ≡ true → NoneHasKey key (drop (suc i) cs)
none_behind key [] i d apart l e = absurd (omega arith)
none_behind key (c ∷ cs) zero d apart l e = apart_each key c cs apart.0 e
none_behind key (c ∷ cs) (suc i) d apart l e = none_behind key cs i d apart.1 (omega arith) e

-- what stands at the place of a key
pub placed : (key : Key) (cs : List Conversation) (i : ℕ) → AreApart (keys_of cs) → place_of key cs ≡ Some i → IsPlaced key cs i
placed key [] i apart h = absurd (cc)
placed key (c ∷ cs) i apart h = record {
  within = (found c).0;
  has = λ d. (found d).1;
  before = each_taken (has_key key) (c ∷ cs) i c (found c).2;
  behind = none_behind key (c ∷ cs) i c apart (found c).0 (found c).1;
}
  where
    found : (d : Conversation) → (i < length (c ∷ cs)) × (has_key key (get_or (c ∷ cs) i d) ≡ true) × ((k : ℕ) → k < i → has_key key (get_or (c ∷ cs) k d) ≡ false)
    found d = position-Some (has_key key) (c ∷ cs) i d h

-- an answer to where a key is
pub answered_place : (key : Key) (cs : List Conversation) (answer : Option ℕ) → AreApart (keys_of cs) → answer ≡ place_of key cs → MatchOption answer (NoneHasKey key cs) (λ i. IsPlaced key cs i)
answered_place key cs None apart h = none_placed key cs (sym h)
answered_place key cs (Some i) apart h = placed key cs i apart (sym h)

-- The index.

none_like : (a b : Key) (cs : List Conversation) → same_key a b ≡ true → NoneHasKey a cs → NoneHasKey b cs
none_like a b [] e h = tt
none_like a b (c ∷ cs) e h = (sym (same_key-like a b c.key e) ∙ h.0, none_like a b cs e h.1)

-- the place of a key, once a conversation of a new key stands behind the others
place_push : (cs : List Conversation) (c : Conversation) → NoneHasKey c.key cs → (key : Key) (b : Bool) → same_key c.key key ≡ b → place_of key (cs ++ c ∷ []) ≡ cond b (Some (length cs)) (place_of key cs)
place_push cs c new key true e = position_push_yes (has_key key) cs c e (no_place key cs (none_like c.key key cs e new))
place_push cs c new key false e = position_push_no (has_key key) cs c e

apart_push : (cs : List Conversation) (c : Conversation) → NoneHasKey c.key cs → AreApart (keys_of cs) → AreApart (keys_of (cs ++ c ∷ []))
apart_push [] c h a = (tt, tt)
apart_push (d ∷ cs) c h a = (each_push cs a.0, apart_push cs c h.1 a.1)
  where
    each_push : (ds : List Conversation) → Each (λ other. same_key d.key other ≡ false) (keys_of ds) → Each (λ other. same_key d.key other ≡ false) (keys_of (ds ++ c ∷ []))
    each_push [] e = (h.0, tt)
    each_push (x ∷ ds) e = (e.0, each_push ds e.1)

-- a map that has the places has them still, once it takes that of the new conversation
pub index_push : (m n : BTreeMap Key ℕ) (cs : List Conversation) (c : Conversation) (at : ℕ) → IsIndex (get (key_ord.ghosts).cmp m) cs → NoneHasKey c.key cs → at ≡ length cs → Updates (key_ord.ghosts).cmp m n c.key (Some at)
    → IsIndex (get (key_ord.ghosts).cmp n) (cs ++ c ∷ [])
index_push m n cs c at index new end updates = record {
  places = λ key. updates.0 key ∙ rw (cmp-key_order c.key key, index.places key, end) (sym (place_push cs c new key (same_key c.key key) refl));
  apart = apart_push cs c new index.apart;
}

-- and once a conversation changes, but for its key
pub index_set : (places_in : Key → Option ℕ) (cs : List Conversation) (i : ℕ) (next d : Conversation) → IsIndex places_in cs → i < length cs → next.key ≡ (get_or cs i d).key → IsIndex places_in (set cs i next)
index_set places_in cs i next d index l same = record {
  places = λ key. index.places key ∙ sym (place_set key);
  apart = subst AreApart (sym (map-set_same (λ (c : Conversation). c.key) cs i next d same)) index.apart;
}
  where
    first_set : (key : Key) → position_or_len (has_key key) (set cs i next) ≡ position_or_len (has_key key) cs
    first_set key = position_or_len-set (has_key key) cs i next d (ap (λ k. same_key k key) same)

    place_set : (key : Key) → place_of key (set cs i next) ≡ place_of key cs
    place_set key = λ j. cond (nat_lt (first_set key j) (length-set cs i next j)) (Some (first_set key j)) None

-- a direction that changes leaves the key
pub same_key-half : (way : Way) (f : Flow) (s : Sums) (c : Conversation) → (with_half way f s c).key ≡ c.key
same_key-half Fore f s c = refl
same_key-half Back f s c = refl

-- The rows of a table around one of its places.

-- the rows, cut around the conversation at a place
pub rows_split : (alive : Bool) (cs : List Conversation) (i : ℕ) (d : Conversation) → i < length cs
    → rows_of alive cs ≡ rows_of alive (take i cs) ++ row_of alive (get_or cs i d) ∷ rows_of alive (drop (suc i) cs)
rows_split alive cs i d l = ap (rows_of alive) (split_at cs i d l) ∙ map-append (row_of alive) (take i cs) (get_or cs i d ∷ drop (suc i) cs)

-- and with another one there
pub rows_set : (alive : Bool) (cs : List Conversation) (i : ℕ) (c : Conversation) → i < length cs
    → rows_of alive (set cs i c) ≡ rows_of alive (take i cs) ++ row_of alive c ∷ rows_of alive (drop (suc i) cs)
rows_set alive cs i c l = ap (rows_of alive) (set_split cs i c l) ∙ map-append (row_of alive) (take i cs) (c ∷ drop (suc i) cs)

-- and with one more behind all
pub rows_push : (alive : Bool) (cs : List Conversation) (c : Conversation) → rows_of alive (cs ++ c ∷ []) ≡ rows_of alive cs ++ row_of alive c ∷ []
rows_push alive cs c = map-append (row_of alive) cs (c ∷ [])

-- a direction that was taken out and put back in is in the place of the one that was there
pub put_back : (cs : List Conversation) (i : ℕ) (way : Way) (f g : Flow) (s t : Sums) (d e : Conversation) → i < length cs
    → set (set cs i (with_half way f s (get_or cs i d))) i (with_half way g t (get_or (set cs i (with_half way f s (get_or cs i d))) i e)) ≡ set cs i (with_half way g t (get_or cs i d))
put_back cs i way f g s t d e l =
    set-set cs i (with_half way f s (get_or cs i d)) (with_half way g t (get_or (set cs i (with_half way f s (get_or cs i d))) i e))
    ∙ ap (λ c. set cs i (with_half way g t c)) (get_or-set_same cs i (with_half way f s (get_or cs i d)) e l)
    ∙ ap (λ c. set cs i c) (with_twice way (get_or cs i d))
  where
    with_twice : (w : Way) (c : Conversation) → with_half w g t (with_half w f s c) ≡ with_half w g t c
    with_twice Fore c = refl
    with_twice Back c = refl

-- a direction of a conversation, as its row has it
pub half_is : (alive : Bool) (way : Way) (c : Conversation) → flow_of way (row_of alive c).kept.talk ≡ half_of way c
half_is alive Fore c = refl
half_is alive Back c = refl

pub sums_are : (alive : Bool) (way : Way) (c : Conversation) → of_way way (row_of alive c).sums ≡ sums_of way c
sums_are alive Fore c = refl
sums_are alive Back c = refl

-- and the row with another one
pub row_with : (alive : Bool) (way : Way) (f : Flow) (s : Sums) (c : Conversation)
    → row_of alive (with_half way f s c) ≡ record { kept = record { live = alive; talk = with_flow way f (row_of alive c).kept.talk }; sums = with_way way s (row_of alive c).sums }
row_with alive Fore f s c = refl
row_with alive Back f s c = refl

-- where no conversation has a key, none of the rows has it
pub rows_lack : (alive : Bool) (key : Key) (cs : List Conversation) → NoneHasKey key cs → HasNoKey key (kept_in (rows_of alive cs))
rows_lack alive key [] h = tt
rows_lack alive key (c ∷ cs) h = (h.0, rows_lack alive key cs h.1)

-- the row of a conversation before its first datagram
pub row_unbegun : (alive : Bool) (number : ℕ) (key : Key) (toward : Toward)
    → row_of alive (unbegun number key toward) ≡ record { kept = record { live = alive; talk = record { id = number; key = key; toward = toward; fore = dry; back = dry } }; sums = both no_sums }
row_unbegun alive number key toward = refl

-- some element of a list that has a place, at which what holds at that place can be read
pub an_element : {X : Type 0} (xs : List X) (i : ℕ) → i < length xs → X
an_element [] i l = absurd (omega arith)
an_element (x ∷ xs) i l = x

-- A direction that is taken out, changed and put back in: the table behind that, by what the two calls say.
pub table_changed : (old middle new : List Conversation) (i : ℕ) (way : Way) (f g : Flow) (s t : Sums) (d : Conversation) → i < length old
    → HoldsAt (λ c. middle ≡ set old i (with_half way f s c)) old i → HoldsAt (λ c. new ≡ set middle i (with_half way g t c)) middle i
    → new ≡ set old i (with_half way g t (get_or old i d))
table_changed old middle new i way f g s t d l taken put =
    put d ∙ ap (λ m. set m i (with_half way g t (get_or m i d))) (taken d) ∙ put_back old i way f g s t d d l

-- and its rows
pub rows_changed : (alive : Bool) (old middle new : List Conversation) (i : ℕ) (way : Way) (f g : Flow) (s t : Sums) (d : Conversation) → i < length old
    → HoldsAt (λ c. middle ≡ set old i (with_half way f s c)) old i → HoldsAt (λ c. new ≡ set middle i (with_half way g t c)) middle i
    → rows_of alive new ≡ rows_of alive (take i old) ++ row_of alive (with_half way g t (get_or old i d)) ∷ rows_of alive (drop (suc i) old)
rows_changed alive old middle new i way f g s t d l taken put =
    ap (rows_of alive) (table_changed old middle new i way f g s t d l taken put) ∙ rows_set alive old i (with_half way g t (get_or old i d)) l

-- the numbers of the conversations stay as they were
pub numbers_stay : (alive : Bool) (cs : List Conversation) (i : ℕ) (way : Way) (f : Flow) (s : Sums) (d : Conversation)
    → map number_of (rows_of alive (set cs i (with_half way f s (get_or cs i d)))) ≡ map number_of (rows_of alive cs)
numbers_stay alive [] i way f s d = refl
numbers_stay alive (c ∷ cs) zero way f s d = ap (λ n. n ∷ map number_of (rows_of alive cs)) (number_half way)
  where
    number_half : (w : Way) → (with_half w f s c).number ≡ c.number
    number_half Fore = refl
    number_half Back = refl
numbers_stay alive (c ∷ cs) (suc i) way f s d = ap (λ ns. c.number ∷ ns) (numbers_stay alive cs i way f s d)

-- and what is put back as it was leaves the table as it was
pub put_same : (cs : List Conversation) (i : ℕ) (way : Way) (d : Conversation) → i < length cs → set cs i (with_half way (half_of way (get_or cs i d)) (sums_of way (get_or cs i d)) (get_or cs i d)) ≡ cs
put_same cs i way d l = ap (set cs i) (same way (get_or cs i d)) ∙ set_same cs i l
  where
    same : (way : Way) (c : Conversation) → with_half way (half_of way c) (sums_of way c) c ≡ c
    same Fore c = refl
    same Back c = refl

    set_same : (cs : List Conversation) (i : ℕ) → i < length cs → set cs i (get_or cs i d) ≡ cs
    set_same [] i l = refl
    set_same (c ∷ cs) zero l = refl
    set_same (c ∷ cs) (suc i) l = ap (λ xs. c ∷ xs) (set_same cs i (omega arith))
