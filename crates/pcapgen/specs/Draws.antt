use Rattle.std.specs.Prelude.{ℕ, zero, suc, ◌+◌, ◌*◌, ◌/◌, ◌%◌, ◌^◌}
use Rattle.pcapgen.specs.declared.draws.Drawn.{Drawn}

-- What is drawn for the records of a made capture.

-- the state behind one more draw: a linear congruential sequence over 64 bits
unfoldable pub next : ℕ → ℕ
next x = (x * 6364136223846793005 + 1442695040888963407) % 2 ^ 64

-- the number below k that a draw gives, by the state behind it: its high half
unfoldable pub below : ℕ → ℕ → ℕ
below k x = x / 2 ^ 32 % k

-- the four draws of one record, by the state before it: the flow, the way, the length of the payload, the kind of step
abbrev pub drawn_from : ℕ → Drawn
drawn_from x = record {
  flow = below 64 (next x);
  way = below 2 (next (next x));
  len = below 200 (next (next (next x))) + 1;
  step = below 8 (next (next (next (next x))));
}

-- the state before a record, numbered from 0; it begins as the seed
abbrev pub state_before : ℕ → ℕ → ℕ
state_before seed zero = seed
state_before seed (suc i) = next (next (next (next (state_before seed i))))

-- what is drawn for the i-th record
abbrev pub drawn_at : ℕ → ℕ → Drawn
drawn_at seed i = drawn_from (state_before seed i)
