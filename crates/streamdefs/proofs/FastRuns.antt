-- Where nothing is held, a segment has at most one run: from the front or its start up to its end or the cutoff.
use Rattle.std.specs.Prelude.{◌≡◌, refl, ℕ, suc, ◌+◌, ◌-◌, ◌≤◌, true, List, [], ◌∷◌, Some, None, length, map, take, drop, filter, Option, ℤ, max}
use Rattle.std.proofs.Common.{◌∙◌, ap, arith}
use Rattle.std.proofs.Math.ListN.{length-take, length-drop}
use Rattle.streamdefs.specs.Reorder.{Placed, stretches, placed_from}
use Rattle.streamdefs.specs.View.{runs}
use Rattle.streamdefs.specs.Ranges.{range_of, between, cut_at}
use Rattle.streamdefs.proofs.Stretches.{one_stretch, strict_runs}

all_free : (ps : List Placed) → filter (λ p. true) ps ≡ ps
all_free [] = refl
all_free (p ∷ ps) = ap (λ qs. p ∷ qs) (all_free ps)

length_placed : (at : ℕ) (start : ℤ) (bytes : List ℕ) → length (placed_from at start bytes) ≡ length bytes
length_placed at start [] = refl
length_placed at start (b ∷ bytes) = ap suc (length_placed (suc at) start bytes)

one_run : (at : ℕ) (start : ℤ) (bytes : List ℕ) → map range_of (stretches (placed_from at start bytes)) ≡ between at (at + length bytes)
one_run at start [] = grind arith
one_run at start (b ∷ bytes) = ap (map range_of) (one_stretch at start b bytes) ∙ grind (arith, length_placed (suc at) start bytes)

to_end : (from to n : ℕ) → n ≡ to - from → between from (from + n) ≡ between from to
to_end from to n e = grind arith

cut-le : (cutoff : Option ℕ) (to : ℕ) → cut_at cutoff to ≤ to
cut-le None to = omega arith
cut-le (Some cutoff) to = omega arith

pub fast_runs : (front : ℕ) (flow : List Placed) (cutoff : Option ℕ) (at : ℕ) (start : ℤ) (bytes : List ℕ)
    → map range_of (runs (record { front = front; held = []; flow = flow }) cutoff (placed_from at start bytes)) ≡ between (max front at) (cut_at cutoff (at + length bytes))
fast_runs front flow cutoff at start bytes =
    ap (map range_of) (strict_runs (record { front = front; held = []; flow = flow }) cutoff at start bytes)
    ∙ ap {A = List Placed} (λ ps. map range_of (stretches ps)) (all_free (placed_from from start inner))
    ∙ one_run from start inner ∙ to_end from to (length inner) len
  where
    from : ℕ
    from = max front at

    to : ℕ
    to = cut_at cutoff (at + length bytes)

    inner : List ℕ
    inner = take (to - from) (drop (front - at) bytes)

    len : length inner ≡ to - from
    len = omega (arith, length-take (to - from) (drop (front - at) bytes), length-drop (front - at) bytes, cut-le cutoff (at + length bytes))
