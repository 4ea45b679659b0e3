-- Conversations in a core's list, whose numbers rise.
use Rattle.std.specs.Prelude.{◌≡◌, refl, ℕ, suc, ◌≤◌, ◌<◌, Bool, true, false, cond, ◌==◌, List, [], ◌∷◌, ◌++◌, Option, None, Some}
use Rattle.std.proofs.Common.{◌∙◌, ap, arith, subst}
use Rattle.std.proofs.lemmas.Bool.Decides.{nat_tests}
use Rattle.streamkey.specs.declared.key.Key.{Key}
use Rattle.streamdefs.specs.Lists.{Each, or_else}
use Rattle.streamdefs.specs.Packet.{same_key}
use Rattle.streamdefs.specs.Convo.{Convo, is_live}
use Rattle.streamdefs.specs.Core.{Open, find_convo, put_convo, latest_of}
use Rattle.coretable.specs.Course.{first_live}
use Rattle.coretable.specs.Orderly.{Rises, AreBelow}

abbrev pub NoneHas : ℕ → List Open → Type 0
NoneHas id os = Each (λ o. (o.id == id) ≡ false) os

abbrev pub NoneKeyed : Key → List Open → Type 0
NoneKeyed key os = Each (λ o. same_key o.convo.first.key key ≡ false) os

abbrev pub NoneLives : List Open → Type 0
NoneLives os = Each (λ o. is_live o.convo ≡ false) os

-- where a conversation stands, and no other of its number
pub record StandsAt (os : List Open) (o : Open) : Type 0 where
  pub before : List Open
  pub behind : List Open
  pub is : os ≡ before ++ o ∷ behind
  pub none_before : NoneHas o.id before
  pub none_behind : NoneHas o.id behind

pub same_number : (n : ℕ) → (n == n) ≡ true
same_number n = grind (arith, nat_tests)

pub not_below : (a b : ℕ) → a < b → (b == a) ≡ false
not_below a b h = grind (arith, nat_tests)

pub not_above : (a b : ℕ) → a < b → (a == b) ≡ false
not_above a b h = grind (arith, nat_tests)

pub from_test : (a b : ℕ) → (a == b) ≡ true → a ≡ b
from_test a b h = grind (arith, nat_tests)

pub rises_above : (id from : ℕ) (os : List Open) → id < from → Rises from os → NoneHas id os
rises_above id from [] h r = tt
rises_above id from (o ∷ os) h r = (not_below id o.id (omega (arith, h, r.0)), rises_above id (suc o.id) os (omega (arith, h, r.0)) r.2)

pub below_none : (id : ℕ) (os : List Open) → AreBelow id os → NoneHas id os
below_none id [] h = tt
below_none id (o ∷ os) h = (not_above o.id id h.0, below_none id os h.1)

pub find_none : (id : ℕ) (os : List Open) → NoneHas id os → find_convo id os ≡ None
find_none id [] h = refl
find_none id (o ∷ os) h = ap (λ b. cond b (Some o.convo) (find_convo id os)) h.0 ∙ find_none id os h.1

pub find_at : (id : ℕ) (before : List Open) (o : Open) (behind : List Open) → NoneHas id before → o.id ≡ id → find_convo id (before ++ o ∷ behind) ≡ Some o.convo
find_at id [] o behind h e = ap (λ m. cond (m == id) (Some o.convo) (find_convo id behind)) e ∙ ap (λ b. cond b (Some o.convo) (find_convo id behind)) (same_number id)
find_at id (p ∷ before) o behind h e = ap (λ b. cond b (Some p.convo) (find_convo id (before ++ o ∷ behind))) h.0 ∙ find_at id before o behind h.1 e

pub put_at : (id : ℕ) (c : Convo) (before : List Open) (o : Open) (behind : List Open) → NoneHas id before → o.id ≡ id
    → put_convo id c (before ++ o ∷ behind) ≡ before ++ record { id = id; convo = c } ∷ behind
put_at id c [] o behind h e =
    ap (λ m. cond (m == id) (record { id = id; convo = c } ∷ behind) (o ∷ put_convo id c behind)) e ∙ ap (λ b. cond b (record { id = id; convo = c } ∷ behind) (o ∷ put_convo id c behind)) (same_number id)
put_at id c (p ∷ before) o behind h e =
    ap (λ b. cond b (record { id = id; convo = c } ∷ (before ++ o ∷ behind)) (p ∷ put_convo id c (before ++ o ∷ behind))) h.0 ∙ ap (λ l. p ∷ l) (put_at id c before o behind h.1 e)

pub put_new : (id : ℕ) (c : Convo) (os : List Open) → NoneHas id os → put_convo id c os ≡ os ++ record { id = id; convo = c } ∷ []
put_new id c [] h = refl
put_new id c (o ∷ os) h = ap (λ b. cond b (record { id = id; convo = c } ∷ os) (o ∷ put_convo id c os)) h.0 ∙ ap (λ l. o ∷ l) (put_new id c os h.1)

pub latest_none : (key : Key) (os : List Open) → NoneKeyed key os → latest_of key os ≡ None
latest_none key [] h = refl
latest_none key (o ∷ os) h = (λ i. or_else (latest_none key os h.1 i) (cond (h.0 i) (Some o) None))

-- one conversation further on
pub further : (p : Open) (os : List Open) (o : Open) → (p.id == o.id) ≡ false → StandsAt os o → StandsAt (p ∷ os) o
further p os o h s = record { before = p ∷ s.before; behind = s.behind; is = ap (λ l. p ∷ l) s.is; none_before = (h, s.none_before); none_behind = s.none_behind }

pub here : (from : ℕ) (o : Open) (os : List Open) → Rises from (o ∷ os) → StandsAt (o ∷ os) o
here from o os r = record { before = []; behind = os; is = refl; none_before = tt; none_behind = rises_above o.id (suc o.id) os (omega arith) r.2 }

-- what is found stands there
found_one : (from id : ℕ) (c : Convo) (o : Open) (os : List Open) (b : Bool) → (o.id == id) ≡ b → Rises from (o ∷ os) → cond b (Some o.convo) (find_convo id os) ≡ Some c
    → (find_convo id os ≡ Some c → StandsAt os (record { id = id; convo = c })) → StandsAt (o ∷ os) (record { id = id; convo = c })
found_one from id c o os true t r e rest =
    let same_id : o.id ≡ id = from_test o.id id t in
    let same_convo : o.convo ≡ c = cc in
    subst (λ q. StandsAt (o ∷ os) q) (λ i. record { id = same_id i; convo = same_convo i }) (here from o os r)
found_one from id c o os false t r e rest = further o os (record { id = id; convo = c }) t (rest e)

pub found_at : (from id : ℕ) (c : Convo) (os : List Open) → Rises from os → find_convo id os ≡ Some c → StandsAt os (record { id = id; convo = c })
found_at from id c [] r e = absurd cc
found_at from id c (o ∷ os) r e = found_one from id c o os (o.id == id) refl r e (λ e'. found_at (suc o.id) id c os r.2 e')

-- so does a key's last conversation
pub record IsLatest (from : ℕ) (key : Key) (os : List Open) (o : Open) : Type 0 where
  pub stands : StandsAt os o
  pub keyed : same_key o.convo.first.key key ≡ true
  pub last : NoneKeyed key stands.behind
  pub number : o.convo.first.number ≡ o.id
  pub from_is : from ≤ o.id

none_keyed_one : (key : Key) (q : Open) (os : List Open) (later : Option Open) (b : Bool) → same_key q.convo.first.key key ≡ b → latest_of key os ≡ later → or_else later (cond b (Some q) None) ≡ None
    → (latest_of key os ≡ None → NoneKeyed key os) → NoneKeyed key (q ∷ os)
none_keyed_one key q os (Some p) b k l e rest = absurd cc
none_keyed_one key q os None true k l e rest = absurd cc
none_keyed_one key q os None false k l e rest = (k, rest l)

pub none_keyed : (key : Key) (os : List Open) → latest_of key os ≡ None → NoneKeyed key os
none_keyed key [] e = tt
none_keyed key (q ∷ os) e = none_keyed_one key q os (latest_of key os) (same_key q.convo.first.key key) refl refl e (λ e'. none_keyed key os e')

latest_one : (from : ℕ) (key : Key) (q : Open) (os : List Open) (o : Open) (later : Option Open) (b : Bool) → same_key q.convo.first.key key ≡ b → latest_of key os ≡ later → Rises from (q ∷ os)
    → or_else later (cond b (Some q) None) ≡ Some o → (latest_of key os ≡ Some o → IsLatest (suc q.id) key os o) → IsLatest from key (q ∷ os) o
unfolding further here
latest_one from key q os o (Some p) b k l r e rest =
    let in_rest : IsLatest (suc q.id) key os o = rest (l ∙ e) in
    record {
      stands = further q os o (not_above q.id o.id (omega (arith, in_rest.from_is))) in_rest.stands;
      keyed = in_rest.keyed;
      last = in_rest.last;
      number = in_rest.number;
      from_is = omega (arith, in_rest.from_is, r.0);
    }
latest_one from key q os o None true k l r e rest =
    let same : q ≡ o = cc in
    subst (λ p. IsLatest from key (q ∷ os) p) same (record { stands = here from q os r; keyed = k; last = none_keyed key os l; number = r.1; from_is = r.0 })
latest_one from key q os o None false k l r e rest = absurd cc

pub latest_at : (from : ℕ) (key : Key) (os : List Open) (o : Open) → Rises from os → latest_of key os ≡ Some o → IsLatest from key os o
latest_at from key [] o r e = absurd cc
latest_at from key (q ∷ os) o r e = latest_one from key q os o (latest_of key os) (same_key q.convo.first.key key) refl refl r e (λ e'. latest_at (suc q.id) key os o r.2 e')

-- and the first that is live
pub record IsFirstLive (from : ℕ) (os : List Open) (o : Open) : Type 0 where
  pub stands : StandsAt os o
  pub live : is_live o.convo ≡ true
  pub ended : NoneLives stands.before
  pub from_is : from ≤ o.id

live_one : (from : ℕ) (q : Open) (os : List Open) (o : Open) (b : Bool) → is_live q.convo ≡ b → Rises from (q ∷ os) → cond b (Some q) (first_live os) ≡ Some o
    → (first_live os ≡ Some o → IsFirstLive (suc q.id) os o) → IsFirstLive from (q ∷ os) o
unfolding further here
live_one from q os o true l r e rest =
    let same : q ≡ o = cc in
    subst (λ p. IsFirstLive from (q ∷ os) p) same (record { stands = here from q os r; live = l; ended = tt; from_is = r.0 })
live_one from q os o false l r e rest =
    let in_rest : IsFirstLive (suc q.id) os o = rest e in
    record {
      stands = further q os o (not_above q.id o.id (omega (arith, in_rest.from_is))) in_rest.stands;
      live = in_rest.live;
      ended = (l, in_rest.ended);
      from_is = omega (arith, in_rest.from_is, r.0);
    }

pub first_live_at : (from : ℕ) (os : List Open) (o : Open) → Rises from os → first_live os ≡ Some o → IsFirstLive from os o
first_live_at from [] o r e = absurd cc
first_live_at from (q ∷ os) o r e = live_one from q os o (is_live q.convo) refl r e (λ e'. first_live_at (suc q.id) os o r.2 e')

none_one : (q : Open) (os : List Open) (b : Bool) → is_live q.convo ≡ b → cond b (Some q) (first_live os) ≡ None → (first_live os ≡ None → NoneLives os) → NoneLives (q ∷ os)
none_one q os true l e rest = absurd cc
none_one q os false l e rest = (l, rest e)

pub none_live : (os : List Open) → first_live os ≡ None → NoneLives os
none_live [] e = tt
none_live (q ∷ os) e = none_one q os (is_live q.convo) refl e (λ e'. none_live os e')

-- a key's last conversation, by where it stands
pub latest_is : (key : Key) (before : List Open) (o : Open) (behind : List Open) → NoneKeyed key behind → same_key o.convo.first.key key ≡ true → latest_of key (before ++ o ∷ behind) ≡ Some o
latest_is key [] o behind h e = (λ i. or_else (latest_none key behind h i) (cond (e i) (Some o) None))
latest_is key (p ∷ before) o behind h e = ap (λ l. or_else l (cond (same_key p.convo.first.key key) (Some p) None)) (latest_is key before o behind h e)

-- the conversations behind one have greater numbers
pub rises_behind : (from : ℕ) (xs : List Open) (o : Open) (ys : List Open) → Rises from (xs ++ o ∷ ys) → (from ≤ o.id) × Rises (suc o.id) ys
rises_behind from [] o ys r = (r.0, r.2)
rises_behind from (x ∷ xs) o ys r = let rest = rises_behind (suc x.id) xs o ys r.2 in (omega (arith, rest.0, r.0), rest.1)

pub rises_each : (from : ℕ) (os : List Open) → Rises (suc from) os → Each (λ q. from < q.id) os
rises_each from [] r = tt
rises_each from (o ∷ os) r = (omega (arith, r.0), rises_weaker from o.id os (omega (arith, r.0)) r.2)
  where
    rises_weaker : (from at : ℕ) (os : List Open) → from ≤ at → Rises (suc at) os → Each (λ q. from < q.id) os
    rises_weaker from at [] h r = tt
    rises_weaker from at (o ∷ os) h r = (omega (arith, r.0, h), rises_weaker from o.id os (omega (arith, r.0, h)) r.2)

-- one that stands there has a number of at least that
pub above : (from : ℕ) (os : List Open) (o : Open) → StandsAt os o → Rises from os → from ≤ o.id
above from os o s r = (rises_behind from s.before o s.behind (subst (Rises from) s.is r)).0
