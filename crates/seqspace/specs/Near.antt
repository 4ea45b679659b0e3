-- Sequence numbers of TCP (RFC 9293, section 3.4).
use Rattle.std.specs.Prelude.{ℕ, ℤ, pos, ◌≡◌, ◌+◌, ◌%◌, ◌^◌, ◌<◌, ◌≤◌, ◌-ℤ◌}
use Rattle.streamdefs.specs.Seqspace.{place}

-- A number is a position of a sequence number: it lies from front - 2^31 up to, but not including, front + 2^31, and it is
-- congruent to the sequence number less the base modulo 2^32. Said of the number that is 2^31 more, which is a natural one.
pub record IsPosition (base seq front : ℕ) (x : ℤ) : Type 0 where
  pub more : ℕ
  pub is : x ≡ pos more -ℤ pos (2 ^ 31)
  pub from : front ≤ more
  pub until : more < front + 2 ^ 32
  pub congruent : (more + base) % 2 ^ 32 ≡ (seq + 2 ^ 31) % 2 ^ 32

-- there is one
abbrev pub HasPosition : Type 0
HasPosition = (base seq front : ℕ) → IsPosition base seq front (place base seq front)

-- there is no other
abbrev pub HasOnePosition : Type 0
HasOnePosition = (base seq front : ℕ) (x : ℤ) → IsPosition base seq front x → x ≡ place base seq front
