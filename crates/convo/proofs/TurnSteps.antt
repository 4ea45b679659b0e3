-- What a call answers is the entry's next want.
use Rattle.std.proofs.Common.{◌≡◌, refl, sym, subst, ℕ, suc, Bool, true, false, cond, List, [], ◌∷◌, drop, Some, None, inl, inr, zero}
use Rattle.std.specs.Prelude.{slice_get}
use Rattle.streamdefs.specs.Terms.{Terms}
use Rattle.streamdefs.specs.Packet.{Packet as Accepted}
use Rattle.streamdefs.specs.Reorder.{Charge}
use Rattle.streamdefs.specs.Direction.{Next}
use Rattle.streamdefs.specs.Direction.Next.{Asks, Gives, Rests as Wants_nothing}
use Rattle.streamdefs.specs.Convo.{Act, Convo as Made, Event as EventMade, events_in, is_live, after, own_after, keep_after, answered_event}
use Rattle.streamdefs.specs.Lists.{or_else}
use Rattle.streamdefs.specs.Convo.Act.{Seg, Answer, Time, End}
use Rattle.streamdefs.specs.Want.{want, next_move}
use Rattle.streamdefs.specs.Want.Want.{Emit as EmitWanted}
use Rattle.convo.specs.Talk.Phase.{Under}
use Rattle.convo.specs.Seen.{IsWant}
use Rattle.convo.specs.Talk.{Talk, IsWantOf, talk_after}
use Rattle.convo.specs.Standing.{HandsOver, IsResting, IsLeft}
use Rattle.convo.specs.Stands.{Stands, IsMoving}
use Rattle.convo.specs.declared.talk.Convo.{Convo}
use Rattle.convo.specs.declared.want.Want.{Want}
use Rattle.convo.specs.declared.want.Want.TheVariants.{Ask, Free as FreeWant, Emit, Rest}
use Rattle.convo.proofs.DefSteps.{want_asks, want_gives, want_emits, want_rests}

-- the element at a place, and those behind it
pub get_at : {X : Type 0} (n : ℕ) (xs : List X) (y : X) (ys : List X) → drop n xs ≡ y ∷ ys → (slice_get xs n ≡ Some y) × (drop (suc n) xs ≡ ys)
get_at zero [] y ys e = absurd (cc)
get_at (suc n) [] y ys e = absurd (cc)
get_at zero (x ∷ xs) y ys e = (cc, cc)
get_at (suc n) (x ∷ xs) y ys e = get_at n xs y ys e

pub get_past : {X : Type 0} (n : ℕ) (xs : List X) → drop n xs ≡ [] → slice_get xs n ≡ None
get_past zero [] e = refl
get_past (suc n) [] e = refl
get_past zero (x ∷ xs) e = absurd (cc)
get_past (suc n) (x ∷ xs) e = get_past n xs e

cond_first : (b : Bool) (x y : Made) (f : Accepted) → x.first ≡ f → y.first ≡ f → (cond b x y).first ≡ f
cond_first true x y f p q = p
cond_first false x y f p q = q

pub first_after : (t : Terms) (c : Made) (act : Act) → (after t c act).first ≡ c.first
first_after t c (Seg p now looks frees) = refl
first_after t c (Time at looks frees) = refl
first_after t c (End at reason looks frees) = refl
first_after t c (Answer event advice frees) =
    cond_first (is_live c) (record c { own = own_after c advice (answered_event c); advised = or_else advice.priority c.advised; kept = keep_after c advice (answered_event c); answered = suc c.answered }) (record c { answered = suc c.answered }) c.first refl refl

-- an entry that asks or gives back tells nothing yet
not_moving : (t : Terms) (c : Made) (act : Act) (emitted : ℕ) (event : EventMade) (n : Next) → next_move t c act ≡ n → IsMoving n → want t c act emitted ≡ EmitWanted event → ⊥
not_moving t c act emitted event (Asks a) e m w = let h = want_asks t c act emitted a e in cc
not_moving t c act emitted event (Gives charge) e m w = let h = want_gives t c act emitted charge e in cc
not_moving t c act emitted event Wants_nothing e m w = m

module _ {C : Type 0} (paid : C → Charge) (t : Terms) where
  hands_at : (k : Talk) (x : Convo C) (act : Act) (emitted : ℕ) (es : List EventMade) (w : Want C)
      → drop emitted (events_in t k.convo act) ≡ es → next_move t k.convo act ≡ Wants_nothing
      → HandsOver paid k.convo.first (IsResting paid t x (talk_after t k act)) (IsLeft paid t x (talk_after t k act)) es w
      → IsWantOf paid (Stands paid x t) t k act emitted w
  hands_at k x act emitted [] Rest e moved h = (want_rests t k.convo act emitted moved (get_past emitted _ e), h)
  hands_at k x act emitted (made ∷ more) (Emit event) e moved h =
      let at = get_at emitted (events_in t k.convo act) made more e in (
        subst (λ wanted. IsWant paid k.convo.first wanted (Emit event)) (sym (want_emits t k.convo act emitted made moved at.0)) h.0,
        inr (record { moved = moved; left = subst (λ es. IsLeft paid t x (talk_after t k act) es) (sym at.1) h.1 }),
      )
  hands_at k x act emitted [] (Ask bytes mark) e moved h = absurd h
  hands_at k x act emitted [] (FreeWant charge) e moved h = absurd h
  hands_at k x act emitted [] (Emit event) e moved h = absurd h
  hands_at k x act emitted (made ∷ more) (Ask bytes mark) e moved h = absurd h
  hands_at k x act emitted (made ∷ more) (FreeWant charge) e moved h = absurd h
  hands_at k x act emitted (made ∷ more) Rest e moved h = absurd h

  pub hands_turn : (k : Talk) (x : Convo C) (act : Act) (emitted : ℕ) (first : Accepted) (w : Want C)
      → first ≡ k.convo.first → next_move t k.convo act ≡ Wants_nothing
      → HandsOver paid first (IsResting paid t x (talk_after t k act)) (IsLeft paid t x (talk_after t k act)) (drop emitted (events_in t k.convo act)) w
      → IsWantOf paid (Stands paid x t) t k act emitted w
  hands_turn k x act emitted first w f moved h =
      hands_at k x act emitted (drop emitted (events_in t k.convo act)) w refl moved
      (subst (λ f. HandsOver paid f (IsResting paid t x (talk_after t k act)) (IsLeft paid t x (talk_after t k act)) (drop emitted (events_in t k.convo act)) w) f h)

  pub emitted_at : (x y : Convo C) (k : Talk) (act : Act) (emitted : ℕ) (event : EventMade) (out : Want C)
      → Stands paid x t k (Under act emitted) → want t k.convo act emitted ≡ EmitWanted event
      → ((k' : Talk) (events : List EventMade) → IsLeft paid t x k' events → HandsOver paid k'.convo.first (IsResting paid t y k') (IsLeft paid t y k') events out)
      → IsWantOf paid (Stands paid y t) t k act (suc emitted) out
  emitted_at x y k act emitted event out (inl w) wants hand = absurd (not_moving t k.convo act emitted event (next_move t k.convo act) refl w.0 wants)
  emitted_at x y k act emitted event out (inr w) wants hand =
      hands_turn k y act (suc emitted) (after t k.convo act).first out (first_after t k.convo act) w.moved (hand (talk_after t k act) (drop (suc emitted) (events_in t k.convo act)) w.left)
