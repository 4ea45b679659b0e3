-- A segment's entry by what is kept: its runs, its counts, what is held, and what is passed.
use Rattle.std.specs.Prelude.{◌≡◌, refl, ℕ, suc, ◌+◌, ◌-◌, ◌≤◌, Bool, true, false, not, cond, List, [], ◌∷◌, length, map, filter, drop, min, max, Option, Some, None, ℤ, pos, negsuc}
use Rattle.std.proofs.Common.{sym, ◌∙◌, ap, arith}
use Rattle.std.proofs.lemmas.List.{length-drop, length-take}
use Rattle.streamdefs.specs.Lists.{how_many}
use Rattle.streamdefs.specs.Reorder.{Charge, Placed, placed, placed_from, stands_in, stretches}
use Rattle.streamdefs.specs.View.{View, gaps_from, front_after, fate, is_fate, runs, granted}
use Rattle.streamdefs.specs.View.Fate.{Late, Shown, Cut, Kept, Wanted}
use Rattle.streamdefs.specs.Ranges.{cut_at}
use Rattle.streamdefs.specs.Ordered.{Rises}
use Rattle.streamdefs.specs.Direction.{Kind, Direction, Segment, Counts, lengths, counts_by, bytes_of, start_of, fate_in, runs_of}
use Rattle.streamdefs.specs.Direction.Deed.{Arrives}
use Rattle.streamdefs.proofs.Stretches.{strict_runs}
use Rattle.streamdefs.proofs.CountedOnce.{lengths_stretches, parted}
use Rattle.reorder.specs.Frags.{Frag, Ascends, spread, free}
use Rattle.reorder.proofs.FreeRuns.{stands_is, free_runs}
use Rattle.reorder.specs.Frags.{run_in}
use Rattle.flowdir.specs.Classes.{lost, at_of, bytes_at, inner_of, counts_with}
use Rattle.flowdir.proofs.Counted.{count_late, count_seen, count_cut}

-- a segment's bytes at their positions
pub bytes_are : (kind : Kind) (d : Direction) (s : Segment) → bytes_of kind d s ≡ placed_from (at_of (start_of kind d s)) (start_of kind d s) (bytes_at (start_of kind d s) s.payload)
bytes_are kind d s = by (start_of kind d s)
  where
    by : (start : ℤ) → placed start s.payload ≡ placed_from (at_of start) start (bytes_at start s.payload)
    by (pos n) = refl
    by (negsuc n) = refl

filter_same : (f g : Placed → Bool) (ps : List Placed) → ((p : Placed) → f p ≡ g p) → filter f ps ≡ filter g ps
filter_same f g [] h = refl
filter_same f g (p ∷ ps) h = rw (h p, filter_same f g ps h) refl

-- the runs are the free ranges of its inner part
pub runs_are : {C : Type 0} (paid : C → Charge) (view : View) (cutoff : Option ℕ) (at : ℕ) (start : ℤ) (bytes : List ℕ) (fs : List (Frag C)) → view.held ≡ spread paid fs → Ascends view.front fs
    → runs view cutoff (placed_from at start bytes) ≡ map (run_in (max view.front at) start (inner_of view.front cutoff at bytes)) (free (max view.front at) (max view.front at + length (inner_of view.front cutoff at bytes)) fs)
runs_are paid view cutoff at start bytes fs e a =
    strict_runs view cutoff at start bytes
    ∙ ap stretches (filter_same _ _ (placed_from (max view.front at) start (inner_of view.front cutoff at bytes)) (λ p. ap not (ap (λ ps. stands_in ps p.at) e ∙ stands_is paid fs p.at)))
    ∙ free_runs view.front (max view.front at) start (inner_of view.front cutoff at bytes) fs a

length_filter : (test : Placed → Bool) (ps : List Placed) → length (filter test ps) ≡ how_many test ps
length_filter test [] = refl
length_filter test (p ∷ ps) = by (test p) (length_filter test ps)
  where
    by : (b : Bool) → length (filter test ps) ≡ how_many test ps → length (cond b (p ∷ filter test ps) (filter test ps)) ≡ cond b (suc (how_many test ps)) (how_many test ps)
    by true e = ap suc e
    by false e = e

length_placed : (at : ℕ) (start : ℤ) (bytes : List ℕ) → length (placed_from at start bytes) ≡ length bytes
length_placed at start [] = refl
length_placed at start (b ∷ bytes) = ap suc (length_placed (suc at) start bytes)

-- the wanted bytes are those of the runs
count_wanted : (view : View) (cutoff : Option ℕ) (ps : List Placed) → how_many (λ p. is_fate Wanted (fate view cutoff p.at)) ps ≡ lengths (runs view cutoff ps)
count_wanted view cutoff ps = sym (length_filter (λ p. is_fate Wanted (fate view cutoff p.at)) ps) ∙ sym (lengths_stretches (filter (λ p. is_fate Wanted (fate view cutoff p.at)) ps))

inner_length : (front : ℕ) (cutoff : Option ℕ) (at : ℕ) (bytes : List ℕ) → length (inner_of front cutoff at bytes) ≡ cut_at cutoff (at + length bytes) - max front at
inner_length front None at bytes = length-take ((at + length bytes) - max front at) (drop (front - at) bytes) ∙ ap (min ((at + length bytes) - max front at)) (length-drop (front - at) bytes) ∙ omega arith
inner_length front (Some cutoff) at bytes =
    length-take (min cutoff (at + length bytes) - max front at) (drop (front - at) bytes) ∙ ap (min (min cutoff (at + length bytes) - max front at)) (length-drop (front - at) bytes) ∙ omega arith

none_granted : (rs : List (List Placed)) → lengths (granted rs []) ≡ 0
none_granted [] = refl
none_granted (r ∷ rs) = refl

-- Its counts as it comes.
pub counts_begin : (kind : Kind) (d : Direction) (s : Segment) (below : ℕ) → s.live ≡ true → Rises 0 d.view.flow → front_after 0 d.view.flow ≡ d.view.front
    → below ≡ length s.payload - length (bytes_at (start_of kind d s) s.payload)
    → counts_by kind d (Arrives s [])
    ≡ counts_with d.view.front (gaps_from 0 d.view.flow) s.cutoff (at_of (start_of kind d s)) (length (bytes_at (start_of kind d s) s.payload)) below
    (length (inner_of d.view.front s.cutoff (at_of (start_of kind d s)) (bytes_at (start_of kind d s) s.payload))) (lengths (runs_of kind d s))
counts_begin kind d s below l r f b =
    ap (λ live. cond live (of_bytes (bytes_of kind d s)) (record { duplicate = 0; late = length s.payload; cut = 0; taken = 0; shed = 0 })) l
    ∙ ap of_bytes (bytes_are kind d s)
    ∙ (λ i. record { duplicate = duplicates i; late = lates i; cut = count_cut d.view s.cutoff at start bytes i; taken = none_granted (runs_of kind d s) i; shed = sheds i })
  where
    start : ℤ
    start = start_of kind d s

    at : ℕ
    at = at_of start

    bytes : List ℕ
    bytes = bytes_at start s.payload

    ps : List Placed
    ps = placed_from at start bytes

    inner : ℕ
    inner = length (inner_of d.view.front s.cutoff at bytes)

    to : ℕ
    to = at + length bytes

    late : ℕ
    late = how_many (λ p. is_fate Late (fate_in d s p)) ps

    shown : ℕ
    shown = how_many (λ p. is_fate Shown (fate_in d s p)) ps

    cut : ℕ
    cut = how_many (λ p. is_fate Cut (fate_in d s p)) ps

    kept : ℕ
    kept = how_many (λ p. is_fate Kept (fate_in d s p)) ps

    wanted : ℕ
    wanted = how_many (λ p. is_fate Wanted (fate_in d s p)) ps

    of_bytes : List Placed → Counts
    of_bytes qs = record {
      duplicate = how_many (λ p. is_fate Shown (fate_in d s p)) qs + how_many (λ p. is_fate Kept (fate_in d s p)) qs;
      late = (length s.payload - length qs) + how_many (λ p. is_fate Late (fate_in d s p)) qs;
      cut = how_many (λ p. is_fate Cut (fate_in d s p)) qs;
      taken = lengths (granted (runs_of kind d s) []);
      shed = how_many (λ p. is_fate Wanted (fate_in d s p)) qs - lengths (granted (runs_of kind d s) []);
    }

    wanted_are : wanted ≡ lengths (runs_of kind d s)
    wanted_are = count_wanted d.view s.cutoff ps ∙ ap (λ qs. lengths (runs d.view s.cutoff qs)) (sym (bytes_are kind d s)) ∙ ap (λ live. lengths (cond live (runs d.view s.cutoff (bytes_of kind d s)) [])) (sym l)

    lates_are : late ≡ lost at (min to d.view.front) (gaps_from 0 d.view.flow)
    lates_are = count_late d.view s.cutoff at start bytes r f

    seen_are : late + shown ≡ min to d.view.front - at
    seen_are = count_seen d.view s.cutoff at start bytes

    cuts_are : cut ≡ to - max (max d.view.front at) (cut_at s.cutoff to)
    cuts_are = count_cut d.view s.cutoff at start bytes

    all : late + shown + cut + kept + wanted ≡ length bytes
    all = parted (fate_in d s) ps ∙ length_placed at start bytes

    below_cut : cut_at s.cutoff to ≤ to
    below_cut = by s.cutoff
      where
        by : (cutoff : Option ℕ) → cut_at cutoff to ≤ to
        by None = omega arith
        by (Some c) = omega arith

    parts : (at n front hi late shown cut kept wanted inner runs lost : ℕ) → late + shown + cut + kept + wanted ≡ n → late + shown ≡ min (at + n) front - at → cut ≡ (at + n) - max (max front at) hi → hi ≤ at + n → inner ≡ hi - max front at
        → wanted ≡ runs → late ≡ lost → shown + kept ≡ ((min (at + n) front - at) - lost) + (inner - runs)
    parts at n front hi late shown cut kept wanted inner runs lost p q c h i w l = omega arith

    duplicates : shown + kept ≡ ((min to d.view.front - at) - lost at (min to d.view.front) (gaps_from 0 d.view.flow)) + (inner - lengths (runs_of kind d s))
    duplicates = parts at (length bytes) d.view.front (cut_at s.cutoff to) late shown cut kept wanted inner (lengths (runs_of kind d s)) (lost at (min to d.view.front) (gaps_from 0 d.view.flow))
        all seen_are cuts_are below_cut (inner_length d.view.front s.cutoff at bytes) wanted_are lates_are

    lates : (length s.payload - length ps) + late ≡ below + lost at (min to d.view.front) (gaps_from 0 d.view.flow)
    lates = (λ i. (ap (λ n. length s.payload - n) (length_placed at start bytes) ∙ sym b) i + lates_are i)

    sheds : wanted - lengths (granted (runs_of kind d s) []) ≡ lengths (runs_of kind d s)
    sheds = ap (λ n. wanted - n) (none_granted (runs_of kind d s)) ∙ omega (arith, wanted_are)
