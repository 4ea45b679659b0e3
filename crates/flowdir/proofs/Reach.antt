-- How far a segment may reach.
use Rattle.std.specs.Prelude.{◌≡◌, ℕ, ◌+◌, ◌*◌, ◌<◌, ◌≤◌, ◌^◌, max, ℤ, pos, negsuc, ◌+ℤ◌, ◌-ℤ◌, ◌≤ℤ◌, ◌<ℤ◌, unsigned_abs}
use Rattle.std.proofs.Common.{arith}
use Rattle.std.proofs.lemmas.Int.{ints}
use Rattle.flowdir.specs.Classes.{at_of}

pub at_near : (z : ℤ) (front : ℕ) → z <ℤ (pos front +ℤ pos (2 ^ 31)) → at_of z ≤ front + 2 ^ 31
at_near (pos n) front h = omega (arith, ints, h)
at_near (negsuc n) front h = omega arith

pub fits_near : (z : ℤ) (front : ℕ) → front < 2 ^ 62 → (pos front -ℤ pos (2 ^ 31)) ≤ℤ z → z <ℤ (pos front +ℤ pos (2 ^ 31)) → unsigned_abs z < 2 ^ 63
fits_near (pos n) front f l h = omega (arith, ints, h)
fits_near (negsuc n) front f l h = omega (arith, ints, l)

-- a segment ends within reach of its record
pub ends_near : (front last number sent : ℕ) (start : ℤ) → front ≤ last * 2 ^ 32 → sent ≤ last * 2 ^ 18 → last < number → at_of start ≤ max (front + 2 ^ 31) sent → max front (at_of start) + 262144 ≤ number * 2 ^ 32
ends_near front last number sent start f s l a = omega arith

pub front_fits : (front last : ℕ) → front ≤ last * 2 ^ 32 → last ≤ 2 ^ 22 → front < 2 ^ 62
front_fits front last f l = omega arith

pub sent_fits : (sent last : ℕ) → sent ≤ last * 2 ^ 18 → last ≤ 2 ^ 22 → sent < 2 ^ 62
sent_fits sent last s l = omega arith

-- a record's number is above the last one, and the sum of lengths stays in proportion
pub number_rises : (last number next : ℕ) → last < number → number ≤ 2 ^ 22 → next ≡ number → (last ≤ next) × (next ≤ 2 ^ 22)
number_rises last number next l n e = (omega (arith, l, e), omega (arith, n, e))

pub sent_next : (sent last number len summed next : ℕ) → sent ≤ last * 2 ^ 18 → last < number → len ≤ 262144 → summed ≡ sent + len → next ≡ number → summed ≤ next * 2 ^ 18
sent_next sent last number len summed next s l f e n = omega arith
