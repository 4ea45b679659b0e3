-- Sequence numbers of TCP (RFC 9293, section 3.4).
use Rattle.std.specs.Prelude.{ℕ, ℤ, pos, ◌+◌, ◌-◌, ◌%◌, ◌^◌, ◌-ℤ◌}

-- the position of a sequence number: the number that is congruent to it less the base modulo 2^32 and lies from
-- front - 2^31 up to, but not including, front + 2^31
abbrev pub place : ℕ → ℕ → ℕ → ℤ
place base seq front = pos (front + (seq + 2 ^ 31 + (2 ^ 32 - (base + front) % 2 ^ 32)) % 2 ^ 32) -ℤ pos (2 ^ 31)
