-- The round of a worker comes to its cores in the order of their places in the round.
use Rattle.std.proofs.Common.{◌≡◌, ◌≢◌, ℕ, zero, suc, ◌+◌, ◌-◌, ◌*◌, ◌/◌, ◌%◌, ◌<◌, ◌≤◌, ◌⊎◌, inl, inr, Bool, true, false, cond, map, List, [], ◌∷◌, Option, Some, None, refl, ap, sym, ◌∙◌, arith, length, slice_get}
use Rattle.std.specs.Prelude.{nat_lt, nat_le, ◌==◌, take, option_map}
use Rattle.std.specs.List.{list_all}
use Rattle.streamdefs.specs.Lists.{how_many}
use Rattle.std.proofs.Math.Nat.{div-add-mod, mul-le-mul_left, mul-suc, mul_comm, add-mul-mod_self_left, mod-eq_of_lt}
use Rattle.std.proofs.lemmas.Nat.{le-div, div-mul-add}
use Rattle.std.proofs.lemmas.Option.{slice_get_within, slice_get-map}
use Rattle.std.proofs.lemmas.Bool.Decides.{nat_tests}
use Rattle.workrun.specs.Circle.{numbers, count_of, place_of, IsOwn}
use Rattle.coretable.proofs.WantLemmas.{none_past}
use Rattle.mixrun.specs.Moment.{Setup, AtCore, AtWorker, Moment}
use Rattle.mixrun.specs.Schedule.{last_of, round_place, NoneWaits, IsInTurn}
use Rattle.mixrun.specs.Queue.{answered_by}
use Rattle.mixrun.specs.AtEnd.{AreCounted}
use Rattle.mixrun.specs.Holds.{Holds}
use Rattle.mixrun.specs.Rounds.{stands_at, round_of, HaveNone, IsFirstWaiting, RoundsAreInTurn, RoundsMissNone}
use Rattle.mixrun.proofs.ScheduleSteps.{same_some}
use Rattle.mixrun.proofs.CountSteps.{both_true}

-- Lists of numbers

numbers_get : (from count k : ℕ) → k < count → slice_get (numbers from count) k ≡ Some (from + k)
numbers_get from zero k h = absurd (omega arith)
numbers_get from (suc count) zero h = ap Some (omega arith)
numbers_get from (suc count) (suc k) h = numbers_get (suc from) count k (omega arith) ∙ ap Some (omega arith)

mapped_get : (f : ℕ → ℕ) (count k : ℕ) → k < count → slice_get (map f (numbers 0 count)) k ≡ Some (f k)
mapped_get f count k h = slice_get-map f (numbers 0 count) k ∙ ap (option_map f) (numbers_get 0 count k h ∙ ap Some (omega arith))

mapped_within : (f : ℕ → ℕ) (from count k x : ℕ) → slice_get (map f (numbers from count)) k ≡ Some x → k < count
mapped_within f from zero k x h = absurd cc
mapped_within f from (suc count) zero x h = omega arith
mapped_within f from (suc count) (suc k) x h = let less = mapped_within f (suc from) count k x h in omega (arith, less)

taken_get : {A : Type 0} (xs : List A) (n k : ℕ) → k < n → slice_get (take n xs) k ≡ slice_get xs k
taken_get xs zero k l = absurd (omega (arith, l))
taken_get [] (suc n) k l = refl
taken_get (x ∷ xs) (suc n) zero l = refl
taken_get (x ∷ xs) (suc n) (suc k) l = taken_get xs n k (omega (arith, l))

-- Cores by steps

core_is : (w s d : ℕ) → d % s ≡ w → d ≡ w + s * (d / s)
core_is w s d own = omega (arith, div-add-mod d s, own)

place_is : (w s d : ℕ) → w < s → d % s ≡ w → place_of w s d ≡ d / s
place_is w s d less own =
    let same : d - w ≡ (d / s) * s + 0 = omega (arith, core_is w s d own, mul_comm s (d / s)) in
    ap (λ n. n / s) same ∙ div-mul-add (d / s) s 0 (omega (arith, less))

place_within : (w s c d : ℕ) → w < s → d % s ≡ w → d < c → d / s < count_of w s c
place_within w s c d less own within =
    le-div (suc (d / s)) (c - w + s - 1) s (omega (arith, less)) (omega (arith, less, within, core_is w s d own, mul_comm (suc (d / s)) s, mul-suc s (d / s)))

-- A round

round_low : (at k n : ℕ) → at + k < n → (at + k) % n ≡ at + k
round_low at k n l = mod-eq_of_lt l

round_high : (at k n : ℕ) → at ≤ n → k < n → n ≤ at + k → (at + k) % n ≡ at + k - n
round_high at k n fits l over =
    let same : at + k ≡ (at + k - n) + n * 1 = omega (arith, over) in
    ap (λ x. x % n) same ∙ add-mul-mod_self_left (at + k - n) n 1 ∙ mod-eq_of_lt (omega (arith, fits, l, over))

-- a turn at which the round comes to a place, before it ends or behind it
record ComesTo (at n p : ℕ) : Type 0 where
  turn : ℕ
  within : turn < n
  is_it : (at + turn) % n ≡ p
  where_is : ((at ≤ p) × (at + turn ≡ p)) ⊎ ((p < at) × (at + turn ≡ p + n))

comes_to : (at n p : ℕ) → at ≤ n → p < n → ComesTo at n p
comes_to at n p fits l = by (nat_le at p) refl
  where
    by : (b : Bool) → nat_le at p ≡ b → ComesTo at n p
    by true t =
        let low : at ≤ p = grind (arith, nat_tests, t) in
        let same : at + (p - at) ≡ p = omega (arith, low) in
        record { turn = p - at; within = omega (arith, low, l); is_it = ap (λ x. x % n) same ∙ mod-eq_of_lt l; where_is = inl (low, same) }
    by false t =
        let not_low : ¬ (at ≤ p) = grind (arith, nat_tests, t) in
        let high : p < at = omega (arith, not_low) in
        let same : at + (p + n - at) ≡ p + n = omega (arith, fits) in
        record {
          turn = p + n - at;
          within = omega (arith, high, fits, l);
          is_it = round_high at (p + n - at) n fits (omega (arith, high, fits, l)) (omega (arith, same)) ∙ omega (arith, same);
          where_is = inr (high, same);
        }

-- an earlier turn of a round that stands behind the last core comes to a core that is not behind in the order of places
module _ (w s c last d core k : ℕ) (less : w < s) (last_own : last % s ≡ w) (last_within : last < c) (own : d % s ≡ w) (core_within : core < c)
    (within : k < count_of w s c) (is : core ≡ w + s * ((last / s + 1 + k) % count_of w s c)) where
  by_steps : (a b : ℕ) → a ≤ b → w + s * a ≤ w + s * b
  by_steps a b h = let more : s * a ≤ s * b = mul-le-mul_left s h in omega (arith, more)

  fits : last / s + 1 ≤ count_of w s c
  fits = let low = place_within w s c last less last_own last_within in omega (arith, low)

  -- behind the last core without going round
  ahead : last / s + 1 + k < count_of w s c → core ≡ w + s * (last / s + 1 + k)
  ahead l = is ∙ ap (λ q. w + s * q) (round_low (last / s + 1) k (count_of w s c) l)

  past_last : (q : ℕ) → last / s + 1 ≤ q → last < w + s * q
  past_last q h =
      let more : s * suc (last / s) ≤ s * q = mul-le-mul_left s (omega (arith, h)) in
      omega (arith, more, mul-suc s (last / s), core_is w s last last_own, less)

  lt_true : (a b : ℕ) → a < b → nat_lt a b ≡ true
  lt_true a b l = grind (arith, nat_tests, l)

  lt_false : (a b : ℕ) → b ≤ a → nat_lt a b ≡ false
  lt_false a b l = grind (arith, nat_tests, l)

  before_end : last / s + 1 ≤ d / s → last / s + 1 + k ≤ d / s → d / s < count_of w s c → round_place (Some last) c core ≤ round_place (Some last) c d
  before_end far le there =
      let core_eq : core ≡ w + s * (last / s + 1 + k) = ahead (omega (arith, le, there)) in
      let low : w + s * (last / s + 1 + k) ≤ w + s * (d / s) = by_steps (last / s + 1 + k) (d / s) le in
      let core_past : last < w + s * (last / s + 1 + k) = past_last (last / s + 1 + k) (omega arith) in
      let core_behind : last < core = omega (arith, core_past, core_eq) in
      let core_low : core ≤ d = omega (arith, low, core_eq, core_is w s d own) in
      let d_behind : last < d = omega (arith, core_behind, core_low) in
      rw (lt_true last core core_behind, lt_true last d d_behind) core_low

  behind_end : d / s < last / s + 1 → last / s + 1 + k ≤ d / s + count_of w s c → round_place (Some last) c core ≤ round_place (Some last) c d
  behind_end near le =
      let low : w + s * (d / s) ≤ w + s * (last / s) = by_steps (d / s) (last / s) (omega (arith, near)) in
      let d_before : d ≤ last = omega (arith, low, core_is w s d own, core_is w s last last_own) in
      rw (lt_false last d d_before) (core_at (nat_lt last core) refl)
    where
      not_round : nat_lt last core ≡ false → core ≤ d
      not_round t =
          let core_before : ¬ (last < core) = grind (arith, nat_tests, t) in
          round (nat_lt (last / s + 1 + k) (count_of w s c)) refl core_before
        where
          round : (b : Bool) → nat_lt (last / s + 1 + k) (count_of w s c) ≡ b → ¬ (last < core) → core ≤ d
          round true u early =
              let inside : last / s + 1 + k < count_of w s c = grind (arith, nat_tests, u) in
              let core_past : last < w + s * (last / s + 1 + k) = past_last (last / s + 1 + k) (omega arith) in
              let core_eq : core ≡ w + s * (last / s + 1 + k) = ahead inside in
              absurd (early (omega (arith, core_past, core_eq)))
          round false u early =
              let outside : ¬ (last / s + 1 + k < count_of w s c) = grind (arith, nat_tests, u) in
              let over : count_of w s c ≤ last / s + 1 + k = omega (arith, outside) in
              let core_eq : core ≡ w + s * (last / s + 1 + k - count_of w s c) = is ∙ ap (λ q. w + s * q) (round_high (last / s + 1) k (count_of w s c) fits within over) in
              let more : w + s * (last / s + 1 + k - count_of w s c) ≤ w + s * (d / s) = by_steps (last / s + 1 + k - count_of w s c) (d / s) (omega (arith, le, over)) in
              omega (arith, core_eq, more, core_is w s d own)

      core_at : (b : Bool) → nat_lt last core ≡ b → cond b core (core + c) ≤ d + c
      core_at true t = omega (arith, core_within)
      core_at false t = let low : core ≤ d = not_round t in omega (arith, low)

-- The cores that a worker had are its own

-- the last of some numbers is counted among them, and passes what all pass
last_counted : (xs : List ℕ) (last : ℕ) → last_of xs ≡ Some last → 0 < how_many (λ k. k == last) xs
last_counted [] last e = absurd cc
last_counted (x ∷ []) last e = by (x == last) (grind (arith, nat_tests, same_some (Some x) x last refl e))
  where
    by : (b : Bool) → b ≡ true → 0 < cond b 1 0
    by true t = omega arith
    by false t = absurd cc
last_counted (x ∷ y ∷ ys) last e = by (x == last) (last_counted (y ∷ ys) last e)
  where
    by : (b : Bool) → 0 < how_many (λ k. k == last) (y ∷ ys) → 0 < cond b (suc (how_many (λ k. k == last) (y ∷ ys))) (how_many (λ k. k == last) (y ∷ ys))
    by true more = omega arith
    by false more = more

last_passes : (test : ℕ → Bool) (xs : List ℕ) (last : ℕ) → list_all test xs ≡ true → last_of xs ≡ Some last → test last ≡ true
last_passes test [] last all e = absurd cc
last_passes test (x ∷ []) last all e = sym (ap test (same_some (Some x) x last refl e)) ∙ (both_true (test x) true all).0
last_passes test (x ∷ y ∷ ys) last all e = last_passes test (y ∷ ys) last (both_true (test x) (list_all test (y ∷ ys)) all).1 e

module _ (s : Setup) (m : Moment) (counted : AreCounted s m) (w : ℕ) (x : AtWorker) (there : slice_get m.workers w ≡ Some x) where
  worker_within : w < length s.handlers
  worker_within = let low = slice_get_within m.workers w x there in omega (arith, low, counted.workers)

  last_own : (last : ℕ) → last_of x.served ≡ Some last → IsOwn w (length s.handlers) (length m.cores) last
  last_own last e = by (slice_get m.cores last) refl
    where
      within : last < length m.cores
      within = let passes = last_passes (λ c. nat_lt c (length m.cores)) x.served last (counted.known w x there) e in grind (arith, nat_tests, passes)

      by : (o : Option AtCore) → slice_get m.cores last ≡ o → IsOwn w (length s.handlers) (length m.cores) last
      by None o = let past = none_past m.cores last o in absurd (omega (arith, past, within))
      by (Some a) o = (of_test ((last % length s.handlers) == w) refl (counted.counts w x there last a o), within)
        where
          of_test : (b : Bool) → ((last % length s.handlers) == w) ≡ b → how_many (λ k. k == last) x.served ≡ cond b (answered_by s.terms a.course + length a.answers) 0
              → last % length s.handlers ≡ w
          of_test true t count = grind (arith, nat_tests, t)
          of_test false t count = let some = last_counted x.served last e in absurd (omega (arith, some, count))

-- The laws

module _ (s : Setup) (m : Moment) (w : ℕ) (x : AtWorker) (holds : Holds s m) (is_it : slice_get m.workers w ≡ Some x) where
  abbrev step_of : ℕ
  step_of = length s.handlers

  abbrev cores : ℕ
  cores = length m.cores

  abbrev count : ℕ
  count = count_of w step_of cores

  abbrev at : ℕ
  at = stands_at w step_of (last_of x.served)

  abbrev one : ℕ → ℕ
  one turn = w + step_of * ((at + turn) % count)

  less : w < step_of
  less = worker_within s m holds.counted w x is_it

  own_last : (last : ℕ) → last_of x.served ≡ Some last → IsOwn w step_of cores last
  own_last last t = last_own s m holds.counted w x is_it last t

  stands_behind : (last : ℕ) → last_of x.served ≡ Some last → at ≡ last / step_of + 1
  stands_behind last t = ap (stands_at w step_of) t ∙ ap (λ n. n + 1) (place_is w step_of last less (own_last last t).0)

  at_fits : at ≤ count
  at_fits = by (last_of x.served) refl
    where
      by : (l : Option ℕ) → last_of x.served ≡ l → at ≤ count
      by None t = let first : at ≡ 0 = ap (stands_at w step_of) t in omega (arith, first)
      by (Some last) t =
          let low = place_within w step_of cores last less (own_last last t).0 (own_last last t).1 in
          omega (arith, low, stands_behind last t)

  -- the round comes to each core of the worker
  module _ (d : ℕ) (a : AtCore) (there : slice_get m.cores d ≡ Some a) (own : d % step_of ≡ w) where
    d_within : d / step_of < count
    d_within = place_within w step_of cores d less own (slice_get_within m.cores d a there)

    comes : ComesTo at count (d / step_of)
    comes = comes_to at count (d / step_of) at_fits d_within

    is_there : slice_get (round_of s w x m) comes.turn ≡ Some d
    is_there = mapped_get one count comes.turn comes.within ∙ ap Some (ap (λ q. w + step_of * q) comes.is_it ∙ sym (core_is w step_of d own))

  misses_none : HaveNone m (round_of s w x m) → NoneWaits s w m
  misses_none none d a there own = none (comes d a there own).turn d a (is_there d a there own) there

  module _ (core : ℕ) (f : IsFirstWaiting m (round_of s w x m) core) where
    found_within : f.turn < count
    found_within = mapped_within one 0 count f.turn core f.is_it

    found_is : core ≡ one f.turn
    found_is = same_some (slice_get (map one (numbers 0 count)) f.turn) core (one f.turn) f.is_it (mapped_get one count f.turn found_within)

    found_own : core % step_of ≡ w
    found_own = ap (λ c. c % step_of) found_is ∙ add-mul-mod_self_left w step_of ((at + f.turn) % count) ∙ mod-eq_of_lt less

    found_core : core < cores
    found_core = slice_get_within m.cores core f.at f.is_core

    module _ (d : ℕ) (a : AtCore) (there : slice_get m.cores d ≡ Some a) (own : d % step_of ≡ w) (some : a.events ≢ []) where
      -- a core with an event has no earlier turn
      not_before : f.turn ≤ (comes d a there own).turn
      not_before = by (nat_lt (comes d a there own).turn f.turn) refl
        where
          by : (b : Bool) → nat_lt (comes d a there own).turn f.turn ≡ b → f.turn ≤ (comes d a there own).turn
          by true u =
              let early : (comes d a there own).turn < f.turn = grind (arith, nat_tests, u) in
              absurd (some (f.before (comes d a there own).turn d a (taken_get (round_of s w x m) f.turn (comes d a there own).turn early ∙ is_there d a there own) there))
          by false u = grind (arith, nat_tests, u)

      -- a worker that had none yet: the round is its cores, ascending
      at_first : at ≡ 0 → core ≤ d
      at_first first =
          let where_is = (comes d a there own).where_is in
          let same : (comes d a there own).turn ≡ d / step_of = omega (arith, first, where_is) in
          let stands : (at + f.turn) % count ≡ f.turn = mod-eq_of_lt (omega (arith, first, found_within)) ∙ omega (arith, first) in
          let core_eq : core ≡ w + step_of * f.turn = found_is ∙ ap (λ q. w + step_of * q) stands in
          let more : step_of * f.turn ≤ step_of * (d / step_of) = mul-le-mul_left step_of (omega (arith, not_before, same)) in
          omega (arith, core_eq, more, core_is w step_of d own)

      -- one that had an event: the round begins behind its core
      behind_last : (last : ℕ) → last_of x.served ≡ Some last → round_place (Some last) cores core ≤ round_place (Some last) cores d
      behind_last last t = way (stands_behind last t) not_before (comes d a there own).where_is
        where
          own_it : IsOwn w step_of cores last
          own_it = own_last last t

          way : at ≡ last / step_of + 1 → f.turn ≤ (comes d a there own).turn
              → ((at ≤ d / step_of) × (at + (comes d a there own).turn ≡ d / step_of)) ⊎ ((d / step_of < at) × (at + (comes d a there own).turn ≡ d / step_of + count))
              → round_place (Some last) cores core ≤ round_place (Some last) cores d
          way at_is earlier (inl (far, same)) =
              before_end w step_of cores last d core f.turn less own_it.0 own_it.1 own found_core found_within (found_is ∙ ap (λ q. w + step_of * ((q + f.turn) % count)) at_is)
              (omega (arith, far, at_is)) (omega (arith, earlier, same, at_is)) (d_within d a there own)
          way at_is earlier (inr (near, same)) =
              behind_end w step_of cores last d core f.turn less own_it.0 own_it.1 own found_core found_within (found_is ∙ ap (λ q. w + step_of * ((q + f.turn) % count)) at_is)
              (omega (arith, near, at_is)) (omega (arith, earlier, same, at_is))

    in_turn : IsInTurn s w x m core
    in_turn d a there own some = by (last_of x.served) refl
      where
        by : (l : Option ℕ) → last_of x.served ≡ l → round_place (last_of x.served) cores core ≤ round_place (last_of x.served) cores d
        by None t = rw t (at_first d a there own some (ap (stands_at w step_of) t))
        by (Some last) t = rw t (behind_last d a there own some last t)

pub rounds_are_in_turn : RoundsAreInTurn
rounds_are_in_turn s m w x core holds is_it f = (found_own s m w x holds is_it core f, in_turn s m w x holds is_it core f)

pub rounds_miss_none : RoundsMissNone
rounds_miss_none s m w x holds is_it none = misses_none s m w x holds is_it none
