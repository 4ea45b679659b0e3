-- The steps of a segment's entry: it comes, a run is granted or refused, and what is behind the last one.
use Rattle.std.specs.Prelude.{◌≡◌, refl, ℕ, suc, ◌+◌, ◌-◌, ◌<◌, ◌≤◌, Bool, true, false, cond, ◌==◌, ◌||◌, nat_le, List, [], ◌∷◌, ◌++◌, length, map, filter, fold, take, drop, min, max, Option, Some, None, ℤ, slice_get}
use Rattle.std.proofs.Common.{sym, ◌∙◌, ap, subst, arith, append-nil}
use mathlib.Core.List.{append_assoc}
use Rattle.std.proofs.lemmas.Bool.Decides.{nat_tests}
use Rattle.std.proofs.lemmas.List.{length-drop, length-take, length-append}
use Rattle.histbook.specs.declared.look_entry.LookEntry.{LookEntry}
use Rattle.streamdefs.specs.Terms.{Terms}
use Rattle.streamdefs.specs.Reorder.{Charge, Placed, placed_from, put_run, settled}
use Rattle.streamdefs.specs.View.{front_after, is_fate, runs, granted, charged, charge_of, run_asks, ask_for_run, Ask}
use Rattle.streamdefs.specs.Lists.{how_many}
use Rattle.streamdefs.specs.View.Fate.{Late, Shown, Cut, Kept, Wanted}
use Rattle.streamdefs.specs.Direction.{Kind, Direction, Segment, Deed, Counts, Next, lengths, counts_by, bytes_of, start_of, fate_in, runs_of, held_with, gone_by, view_after, next_by, asks_by, impatience, last_pending, blocks_of}
use Rattle.streamdefs.specs.Direction.Deed.{Arrives}
use Rattle.streamdefs.specs.Direction.Next.{Asks}
use Rattle.reorder.specs.Frags.{Frag, end_of, size, Ascends, IsClear, cells_from, spread_one, spread, free, put, pass, overlaid, cells_of}
use Rattle.reorder.specs.Frags.{run_in}
use Rattle.reorder.proofs.Spread.{put_is, put_ascends, put_clear, length_one}
use Rattle.flowdir.specs.Lane.{Lane, lane_after}
use Rattle.flowdir.specs.Asking.{Wait, placed_wait, WaitClear, IsLeft, Asking}
use Rattle.flowdir.specs.Waits.{wait_in}
use Rattle.flowdir.proofs.Lanes.{end_is}
use Rattle.reorder.proofs.Overlay.{settle_is, overlaid_ascends, overlaid_free}
use Rattle.flowdir.specs.Classes.{at_of, bytes_at, inner_of, counts_with, counts_taken}
use Rattle.streamdefs.specs.Ranges.{Range}
use Rattle.flowdir.proofs.Entry.{bytes_are, runs_are, counts_begin}
use Rattle.streamdefs.specs.Lists.{Each}
use Rattle.reorder.specs.Frags.{AreClear}
use Rattle.reorder.proofs.Spread.{free_clear}
use Rattle.reorder.proofs.FreeRuns.{free_within, IsWithin}
use Rattle.flowdir.specs.Lane.{lane_with}
use Rattle.streamdefs.specs.Ordered.{Rises}
use Rattle.streamdefs.specs.View.{gaps_from}

-- Looks at runs.

left_next : (rs : List (List Placed)) (looks : List LookEntry) (run : List Placed) (rest : List (List Placed)) → IsLeft rs looks (run ∷ rest)
    → (slice_get (run_asks rs looks) (length looks) ≡ Some (ask_for_run run)) × (length (run_asks rs looks) ≡ suc (length looks))
left_next rs [] run rest h = (ap (λ qs. slice_get (run_asks qs []) 0) h, ap (λ qs. length (run_asks qs [])) h)
left_next [] (look ∷ looks) run rest h = absurd h
left_next (r ∷ rs) (look ∷ looks) run rest h = (
  ap (λ b. slice_get (ask_for_run r ∷ cond b (run_asks rs looks) []) (suc (length looks))) h.0 ∙ (left_next rs looks run rest h.1).0,
  ap (λ b. suc (length (cond b (run_asks rs looks) []))) h.0 ∙ ap suc (left_next rs looks run rest h.1).1,
)

left_none : (rs : List (List Placed)) (looks : List LookEntry) → IsLeft rs looks [] → length (run_asks rs looks) ≡ length looks
left_none rs [] h = ap (λ qs. length (run_asks qs [])) h
left_none [] (look ∷ looks) h = absurd h
left_none (r ∷ rs) (look ∷ looks) h = ap (λ b. suc (length (cond b (run_asks rs looks) []))) h.0 ∙ ap suc (left_none rs looks h.1)

none_granted : (rs : List (List Placed)) → granted rs [] ≡ []
none_granted [] = refl
none_granted (r ∷ rs) = refl

left_granted : (rs : List (List Placed)) (looks : List LookEntry) (run : List Placed) (rest : List (List Placed)) (look : LookEntry) → IsLeft rs looks (run ∷ rest) → look.granted ≡ true
    → IsLeft rs (looks ++ look ∷ []) rest × (granted rs (looks ++ look ∷ []) ≡ granted rs looks ++ charged look run ∷ [])
left_granted rs [] run rest look h g = (
  subst (λ qs. IsLeft qs (look ∷ []) rest) (sym h) (g, refl),
  ap (λ qs. granted qs (look ∷ [])) h ∙ ap (λ b. cond b (charged look run ∷ granted rest []) []) g ∙ (λ i. charged look run ∷ none_granted rest i) ∙ (λ i. sym (none_granted rs) i ++ charged look run ∷ []),
)
left_granted [] (l ∷ looks) run rest look h g = absurd h
left_granted (r ∷ rs) (l ∷ looks) run rest look h g = (
  (h.0, (left_granted rs looks run rest look h.1 g).0),
  ap (λ b. cond b (charged l r ∷ granted rs (looks ++ look ∷ [])) []) h.0
      ∙ ap (λ qs. charged l r ∷ qs) (left_granted rs looks run rest look h.1 g).1
      ∙ ap (λ b. cond b (charged l r ∷ granted rs looks) [] ++ charged look run ∷ []) (sym h.0),
)

left_refused : (rs : List (List Placed)) (looks : List LookEntry) (run : List Placed) (rest : List (List Placed)) (look : LookEntry) → IsLeft rs looks (run ∷ rest) → look.granted ≡ false
    → (length (run_asks rs (looks ++ look ∷ [])) ≡ suc (length looks)) × (granted rs (looks ++ look ∷ []) ≡ granted rs looks)
left_refused rs [] run rest look h g = (
  ap (λ qs. length (run_asks qs (look ∷ []))) h ∙ ap (λ b. suc (length (cond b (run_asks rest []) []))) g,
  ap (λ qs. granted qs (look ∷ [])) h ∙ ap (λ b. cond b (charged look run ∷ granted rest []) []) g ∙ sym (none_granted rs),
)
left_refused [] (l ∷ looks) run rest look h g = absurd h
left_refused (r ∷ rs) (l ∷ looks) run rest look h g = (
  ap (λ b. suc (length (cond b (run_asks rs (looks ++ look ∷ [])) []))) h.0 ∙ ap suc (left_refused rs looks run rest look h.1 g).0,
  ap (λ b. cond b (charged l r ∷ granted rs (looks ++ look ∷ [])) []) h.0 ∙ ap (λ qs. charged l r ∷ qs) (left_refused rs looks run rest look h.1 g).1 ∙ ap (λ b. cond b (charged l r ∷ granted rs looks) []) (sym h.0),
)

-- What the entry wants while runs wait: the first of them.
get-append : (xs : List Ask) (n : ℕ) → slice_get (xs ++ []) n ≡ slice_get xs n
get-append xs n = ap (λ ys. slice_get ys n) (append-nil xs)

above : (n : ℕ) → nat_le (suc n) n ≡ false
above n = grind (arith, nat_tests)

pub next_asks : (t : Terms) (kind : Kind) (d : Direction) (s : Segment) (looks : List LookEntry) (given : ℕ) (run : List Placed) (rest : List (List Placed)) → IsLeft (runs_of kind d s) looks (run ∷ rest)
    → next_by t kind d (Arrives s looks) given ≡ Asks (ask_for_run run)
next_asks t kind d s looks given run rest h = ap next_of first
  where
    next_of : Option Ask → Next
    next_of (Some a) = Asks a
    next_of None = Rattle.streamdefs.specs.Direction.gives_at (Rattle.streamdefs.specs.Direction.spares_by t kind d (Arrives s looks)) given

    copies : List Ask
    copies = Rattle.streamdefs.specs.Direction.copy_asks_of t (Arrives s looks) (last_pending t kind d (Arrives s looks))

    for_runs : List Ask
    for_runs = run_asks (runs_of kind d s) looks

    asked : (slice_get for_runs (length looks) ≡ Some (ask_for_run run)) × (length for_runs ≡ suc (length looks))
    asked = left_next (runs_of kind d s) looks run rest h

    first : slice_get (for_runs ++ cond (nat_le (length for_runs) (length looks)) copies []) (length looks) ≡ Some (ask_for_run run)
    first =
        ap (λ n. slice_get (for_runs ++ cond (nat_le n (length looks)) copies []) (length looks)) asked.1
        ∙ ap (λ b. slice_get (for_runs ++ cond b copies []) (length looks)) (above (length looks))
        ∙ get-append for_runs (length looks) ∙ asked.0

-- A run is granted.
fold-append : (f : List Placed → List Placed → List Placed) (held : List Placed) (rs : List (List Placed)) (r : List Placed) → fold f held (rs ++ r ∷ []) ≡ f (fold f held rs) r
fold-append f held [] r = refl
fold-append f held (q ∷ rs) r = fold-append f (f held q) rs r

cells_placed : (at : ℕ) (start : ℤ) (bytes : List ℕ) → cells_from at (cells_of start bytes) ≡ placed_from at start bytes
cells_placed at start [] = refl
cells_placed at start (b ∷ bytes) = ap (λ ps. record { at = at; byte = b; start = start; charge = None } ∷ ps) (cells_placed (suc at) start bytes)

charged_is : {C : Type 0} (paid : C → Charge) (look : LookEntry) (c : C) (at : ℕ) (start : ℤ) (bytes : List ℕ) → charge_of look ≡ paid c
    → charged look (placed_from at start bytes) ≡ spread_one paid (record { at = at; cells = cells_of start bytes; charge = c })
charged_is paid look c at start [] e = refl
charged_is paid look c at start (b ∷ bytes) e = λ i. record { at = at; byte = b; start = start; charge = Some (e i) } ∷ sym (cells_placed (suc at) start bytes) i

pub cells_length : (start : ℤ) (bytes : List ℕ) → length (cells_of start bytes) ≡ length bytes
cells_length start [] = refl
cells_length start (b ∷ bytes) = ap suc (cells_length start bytes)

lengths-append : (rs : List (List Placed)) (r : List Placed) → lengths (rs ++ r ∷ []) ≡ lengths rs + length r
lengths-append [] r = omega arith
lengths-append (q ∷ rs) r = omega (arith, lengths-append rs r)

pub wait_put : {C : Type 0} (low : ℕ) (f : Frag C) (fs : List (Frag C)) (ws : List Wait) → end_of f ≤ low → WaitClear low fs ws → WaitClear low (put f fs) ws
wait_put low f fs [] h c = tt
wait_put low f fs (w ∷ ws) h c = (c.0, c.1, put_clear w.at (w.at + length w.bytes) f fs c.2 (omega (arith, c.0)), wait_put (w.at + length w.bytes) f fs ws (omega (arith, c.0)) c.3)

pub wait_more : {C : Type 0} (low high : ℕ) (fs : List (Frag C)) (ws : List Wait) → low ≤ high → WaitClear high fs ws → WaitClear low fs ws
wait_more low high fs [] h c = tt
wait_more low high fs (w ∷ ws) h c = (omega (arith, c.0), c.1, c.2, c.3)

part_for : {C : Type 0} → ℤ → Wait → C → Frag C
part_for start w c = record { at = w.at; cells = cells_of start w.bytes; charge = c }

pub grant_asking : {C : Type 0} (paid : C → Charge) (t : Terms) (kind : Kind) (d : Direction) (s : Segment) (looks : List LookEntry) (start : ℤ) (fs : List (Frag C)) (w : Wait) (ws : List Wait) (counts : Counts)
    (look : LookEntry) (c : C) → Asking paid t kind d s looks start fs (w ∷ ws) counts → look.granted ≡ true → charge_of look ≡ paid c
    → Asking paid t kind d s (looks ++ look ∷ []) start (put (record { at = w.at; cells = cells_of start w.bytes; charge = c }) fs) ws (counts_taken (length w.bytes) counts)
grant_asking {C = C} paid t kind d s looks start fs w ws counts look c h g e = record {
  live = h.live;
  held =
      ap (λ live. cond live (joined (granted (runs_of kind d s) (looks ++ look ∷ []))) d.view.held) h.live
      ∙ ap joined left.1
      ∙ fold-append (λ held run. put_run run held) settled_held (granted (runs_of kind d s) looks) (charged look (placed_wait start w))
      ∙ (λ i. put_run (charged_is paid look c w.at start w.bytes e i) ((sym (ap (λ live. cond live (joined (granted (runs_of kind d s) looks)) d.view.held) h.live) ∙ h.held) i))
      ∙ sym (put_is paid d.view.front f fs h.ascends some clear);
  ascends = put_ascends d.view.front f fs h.ascends some h.clear.0 clear;
  runs = left.0;
  clear = wait_more d.view.front (w.at + length w.bytes) (put f fs) ws (omega (arith, h.clear.0)) (wait_put (w.at + length w.bytes) f fs ws (omega (arith, cells_length start w.bytes)) h.clear.3);
  counts_are =
      ap counts_at (ap lengths left.1 ∙ lengths-append (granted (runs_of kind d s) looks) (charged look (placed_wait start w)) ∙ ap (λ n. lengths (granted (runs_of kind d s) looks) + n) run_length)
      ∙ one_more (lengths (granted (runs_of kind d s) looks)) (length w.bytes) s.live h.live
      ∙ ap (counts_taken (length w.bytes)) h.counts_are;
}
  where
    counts_for : Bool → ℕ → Counts
    counts_for live n = cond live (record {
      duplicate = how_many (λ p. is_fate Shown (fate_in d s p)) (bytes_of kind d s) + how_many (λ p. is_fate Kept (fate_in d s p)) (bytes_of kind d s);
      late = (length s.payload - length (bytes_of kind d s)) + how_many (λ p. is_fate Late (fate_in d s p)) (bytes_of kind d s);
      cut = how_many (λ p. is_fate Cut (fate_in d s p)) (bytes_of kind d s);
      taken = n;
      shed = how_many (λ p. is_fate Wanted (fate_in d s p)) (bytes_of kind d s) - n;
    }) (record { duplicate = 0; late = length s.payload; cut = 0; taken = 0; shed = 0 })

    counts_at : ℕ → Counts
    counts_at n = counts_for s.live n

    one_more : (n m : ℕ) (live : Bool) → live ≡ true → counts_for live (n + m) ≡ counts_taken m (counts_for live n)
    one_more n m true l = λ i. record (counts_for true (n + m)) { shed = shed_less (how_many (λ p. is_fate Wanted (fate_in d s p)) (bytes_of kind d s)) n m i }
      where
        shed_less : (a n m : ℕ) → a - (n + m) ≡ (a - n) - m
        shed_less a n m = omega arith
    one_more n m false l = absurd (cc)

    f : Frag C
    f = record { at = w.at; cells = cells_of start w.bytes; charge = c }

    run_length : length (charged look (placed_wait start w)) ≡ length w.bytes
    run_length = ap length (charged_is paid look c w.at start w.bytes e) ∙ length_one paid f ∙ cells_length start w.bytes

    settled_held : List Placed
    settled_held = settled t.policy (filter (λ p. is_fate Kept (fate_in d s p)) (bytes_of kind d s)) d.view.held

    joined : List (List Placed) → List Placed
    joined rs = fold (λ held run. put_run run held) settled_held rs

    some : 0 < length f.cells
    some = subst (λ n. 0 < n) (sym (cells_length start w.bytes)) h.clear.1

    clear : IsClear f.at (end_of f) fs
    clear = subst (λ n. IsClear w.at (w.at + n) fs) (sym (cells_length start w.bytes)) h.clear.2

    left : IsLeft (runs_of kind d s) (looks ++ look ∷ []) (map (placed_wait start) ws) × (granted (runs_of kind d s) (looks ++ look ∷ []) ≡ granted (runs_of kind d s) looks ++ charged look (placed_wait start w) ∷ [])
    left = left_granted (runs_of kind d s) looks (placed_wait start w) (map (placed_wait start) ws) look h.runs g

-- all runs that are asked for had their looks
abbrev pub AllAsked : Kind → Direction → Segment → List LookEntry → Type 0
AllAsked kind d s looks = length (run_asks (runs_of kind d s) looks) ≡ length looks

-- where no run is left
pub asked_all : {C : Type 0} (paid : C → Charge) (t : Terms) (kind : Kind) (d : Direction) (s : Segment) (looks : List LookEntry) (start : ℤ) (fs : List (Frag C)) (counts : Counts)
    → Asking paid t kind d s looks start fs [] counts → AllAsked kind d s looks
asked_all paid t kind d s looks start fs counts h = left_none (runs_of kind d s) looks h.runs

-- The entry behind its last run: what is held, and the counts.
pub record Sorted {C : Type 0} (paid : C → Charge) (t : Terms) (kind : Kind) (d : Direction) (s : Segment) (looks : List LookEntry) (fs : List (Frag C)) (counts : Counts) : Type 0 where
  pub live : s.live ≡ true
  pub held : held_with t kind d (Arrives s looks) ≡ spread paid fs
  pub ascends : Ascends d.view.front fs
  pub asked : AllAsked kind d s looks
  pub counts_are : counts_by kind d (Arrives s looks) ≡ counts

pub sorted_all : {C : Type 0} (paid : C → Charge) (t : Terms) (kind : Kind) (d : Direction) (s : Segment) (looks : List LookEntry) (start : ℤ) (fs : List (Frag C)) (counts : Counts)
    → Asking paid t kind d s looks start fs [] counts → Sorted paid t kind d s looks fs counts
sorted_all paid t kind d s looks start fs counts h = record { live = h.live; held = h.held; ascends = h.ascends; asked = left_none (runs_of kind d s) looks h.runs; counts_are = h.counts_are }

-- a run is refused
pub refuse_sorted : {C : Type 0} (paid : C → Charge) (t : Terms) (kind : Kind) (d : Direction) (s : Segment) (looks : List LookEntry) (start : ℤ) (fs : List (Frag C)) (w : Wait) (ws : List Wait) (counts : Counts)
    (look : LookEntry) → Asking paid t kind d s looks start fs (w ∷ ws) counts → look.granted ≡ false → Sorted paid t kind d s (looks ++ look ∷ []) fs counts
refuse_sorted {C = C} paid t kind d s looks start fs w ws counts look h g = record {
  live = h.live;
  held = ap (λ rs. cond s.live (fold (λ held run. put_run run held) (settled t.policy (filter (λ p. is_fate Kept (fate_in d s p)) (bytes_of kind d s)) d.view.held) rs) d.view.held) left.1 ∙ h.held;
  ascends = h.ascends;
  asked = left.0 ∙ sym (length-append looks (look ∷ []) ∙ omega arith);
  counts_are = ap counts_at (ap lengths left.1) ∙ h.counts_are;
}
  where
    counts_at : ℕ → Counts
    counts_at n = cond s.live (record {
      duplicate = how_many (λ p. is_fate Shown (fate_in d s p)) (bytes_of kind d s) + how_many (λ p. is_fate Kept (fate_in d s p)) (bytes_of kind d s);
      late = (length s.payload - length (bytes_of kind d s)) + how_many (λ p. is_fate Late (fate_in d s p)) (bytes_of kind d s);
      cut = how_many (λ p. is_fate Cut (fate_in d s p)) (bytes_of kind d s);
      taken = n;
      shed = how_many (λ p. is_fate Wanted (fate_in d s p)) (bytes_of kind d s) - n;
    }) (record { duplicate = 0; late = length s.payload; cut = 0; taken = 0; shed = 0 })

    left : (length (run_asks (runs_of kind d s) (looks ++ look ∷ [])) ≡ suc (length looks)) × (granted (runs_of kind d s) (looks ++ look ∷ []) ≡ granted (runs_of kind d s) looks)
    left = left_refused (runs_of kind d s) looks (placed_wait start w) (map (placed_wait start) ws) look h.runs g

-- What is passed behind the last run.
pub pass_parts : {C : Type 0} (jumps : ℕ → Bool) (front : ℕ) (fs : List (Frag C)) → fs ≡ pass jumps front fs ++ drop (length (pass jumps front fs)) fs
pass_parts jumps front [] = refl
pass_parts {C = C} jumps front (f ∷ fs) = by ((f.at == front) || jumps (size (f ∷ fs))) (pass_parts jumps (end_of f) fs)
  where
    by : (b : Bool) → fs ≡ pass jumps (end_of f) fs ++ drop (length (pass jumps (end_of f) fs)) fs
        → f ∷ fs ≡ cond b (f ∷ pass jumps (end_of f) fs) [] ++ drop (length (cond b (f ∷ pass jumps (end_of f) fs) [])) (f ∷ fs)
    by true e = ap (λ gs. f ∷ gs) e
    by false e = refl

spread-append : {C : Type 0} (paid : C → Charge) (fs gs : List (Frag C)) → spread paid (fs ++ gs) ≡ spread paid fs ++ spread paid gs
spread-append paid [] gs = refl
spread-append paid (f ∷ fs) gs = ap (λ ps. spread_one paid f ++ ps) (spread-append paid fs gs) ∙ sym (append_assoc (spread_one paid f) (spread paid fs) (spread paid gs))

drop-front : (ps qs : List Placed) → drop (length ps) (ps ++ qs) ≡ qs
drop-front [] qs = refl
drop-front (p ∷ ps) qs = drop-front ps qs

pub left_behind : {C : Type 0} (paid : C → Charge) (jumps : ℕ → Bool) (front : ℕ) (fs : List (Frag C))
    → drop (length (spread paid (pass jumps front fs))) (spread paid fs) ≡ spread paid (drop (length (pass jumps front fs)) fs)
left_behind paid jumps front fs =
    ap (λ gs. drop (length (spread paid (pass jumps front fs))) (spread paid gs)) (pass_parts jumps front fs)
    ∙ ap (drop (length (spread paid (pass jumps front fs)))) (spread-append paid (pass jumps front fs) (drop (length (pass jumps front fs)) fs))
    ∙ drop-front (spread paid (pass jumps front fs)) (spread paid (drop (length (pass jumps front fs)) fs))

ascends_front : {C : Type 0} (low : ℕ) (fs gs : List (Frag C)) → Ascends low (fs ++ gs) → Ascends low fs
ascends_front low [] gs a = tt
ascends_front low (f ∷ fs) gs a = (a.0, a.1, ascends_front (end_of f) fs gs a.2)

pub pass_ascends : {C : Type 0} (jumps : ℕ → Bool) (low front : ℕ) (fs : List (Frag C)) → Ascends low fs → Ascends low (pass jumps front fs)
pass_ascends jumps low front fs a = ascends_front low (pass jumps front fs) (drop (length (pass jumps front fs)) fs) (subst (λ gs. Ascends low gs) (pass_parts jumps front fs) a)

pub after_ascends : {C : Type 0} (moment : ℕ) (lane : Lane C) (ps rest : List (Frag C)) → Ascends lane.front (ps ++ rest) → Ascends (lane_after moment lane ps).front rest
after_ascends moment lane [] rest a = a
after_ascends moment lane (f ∷ ps) rest a = after_ascends moment (lane_with moment lane f) ps rest (subst (λ n. Ascends n (ps ++ rest)) (sym (end_is moment lane f a.0)) a.2)

-- A segment comes.

waits_placed : (lo : ℕ) (start : ℤ) (bytes : List ℕ) (rs : List Range) → map (run_in lo start bytes) rs ≡ map (placed_wait start) (map (wait_in lo bytes) rs)
waits_placed lo start bytes [] = refl
waits_placed lo start bytes (r ∷ rs) = ap (λ qs. run_in lo start bytes r ∷ qs) (waits_placed lo start bytes rs)

wait_length : (lo : ℕ) (bytes : List ℕ) (r : Range) → IsWithin lo (lo + length bytes) r → length (take r.len (drop (r.at - lo) bytes)) ≡ r.len
wait_length lo bytes r w = length-take r.len (drop (r.at - lo) bytes) ∙ ap (min r.len) (length-drop (r.at - lo) bytes) ∙ omega (arith, w.0, w.2)

pub waits_clear : {C : Type 0} (low lo : ℕ) (bytes : List ℕ) (fs : List (Frag C)) (rs : List Range) → Each (IsWithin lo (lo + length bytes)) rs → AreClear low fs rs → WaitClear low fs (map (wait_in lo bytes) rs)
waits_clear low lo bytes fs [] w c = tt
waits_clear low lo bytes fs (r ∷ rs) w c =
    (c.0, subst (λ n. 0 < n) (sym len) c.1, subst (λ n. IsClear r.at (r.at + n) fs) (sym len) c.2, subst (λ n. WaitClear (r.at + n) fs (map (wait_in lo bytes) rs)) (sym len) (waits_clear (r.at + r.len) lo bytes fs rs w.1 c.3))
  where
    len : length (take r.len (drop (r.at - lo) bytes)) ≡ r.len
    len = wait_length lo bytes r w.0

fold_none : (f : List Placed → List Placed → List Placed) (held : List Placed) (rs : List (List Placed)) → fold f held (granted rs []) ≡ held
fold_none f held [] = refl
fold_none f held (r ∷ rs) = refl

begin_at : {C : Type 0} (paid : C → Charge) (t : Terms) (kind : Kind) (d : Direction) (s : Segment) (fs : List (Frag C)) (below : ℕ) (start : ℤ) (at : ℕ) (bytes inner : List ℕ) (rs : List Range)
    → s.live ≡ true → start_of kind d s ≡ start → at_of start ≡ at → bytes_at start s.payload ≡ bytes → inner_of d.view.front s.cutoff at bytes ≡ inner
    → d.view.held ≡ spread paid fs → Ascends d.view.front fs → Rises 0 d.view.flow → front_after 0 d.view.flow ≡ d.view.front → below ≡ length s.payload - length bytes
    → free (max d.view.front at) (max d.view.front at + length inner) fs ≡ rs
    → bytes_of kind d s ≡ placed_from at start bytes → runs_of kind d s ≡ map (run_in (max d.view.front at) start inner) rs
    → counts_by kind d (Arrives s []) ≡ counts_with d.view.front (gaps_from 0 d.view.flow) s.cutoff at (length bytes) below (length inner) (lengths (runs_of kind d s))
    → Asking paid t kind d s [] start (overlaid t.policy start (max d.view.front at) inner fs) (map (wait_in (max d.view.front at) inner) rs)
    (counts_with d.view.front (gaps_from 0 d.view.flow) s.cutoff at (length bytes) below (length inner) (lengths (map (placed_wait start) (map (wait_in (max d.view.front at) inner) rs))))
begin_at {C = C} paid t kind d s fs below start at bytes inner rs l p q b n h a r f u v bs_are rs_are cs_are = record {
  live = l;
  held =
      ap (λ live. cond live (fold (λ held run. put_run run held) (settled t.policy (filter (λ p. is_fate Kept (fate_in d s p)) (bytes_of kind d s)) d.view.held) (granted (runs_of kind d s) [])) d.view.held) l
      ∙ fold_none (λ held run. put_run run held) (settled t.policy (filter (λ p. is_fate Kept (fate_in d s p)) (bytes_of kind d s)) d.view.held) (runs_of kind d s)
      ∙ (λ i. settled t.policy (filter (λ p. is_fate Kept (fate_in d s p)) (bs_are i)) (h i))
      ∙ settle_is paid t.policy d.view s.cutoff at start bytes fs h a
      ∙ ap (λ bs. spread paid (overlaid t.policy start (max d.view.front at) bs fs)) n;
  ascends = overlaid_ascends t.policy start (max d.view.front at) inner d.view.front fs a;
  runs = runs_left;
  clear = wait_more d.view.front (max d.view.front at) (overlaid t.policy start (max d.view.front at) inner fs) (map (wait_in (max d.view.front at) inner) rs) (omega arith)
      (waits_clear (max d.view.front at) (max d.view.front at) inner (overlaid t.policy start (max d.view.front at) inner fs) rs within clear);
  counts_are = cs_are ∙ ap (λ qs. counts_with d.view.front (gaps_from 0 d.view.flow) s.cutoff at (length bytes) below (length inner) (lengths qs)) runs_left;
}
  where
    lo : ℕ
    lo = max d.view.front at

    over : List (Frag C)
    over = overlaid t.policy start lo inner fs

    runs_left : runs_of kind d s ≡ map (placed_wait start) (map (wait_in lo inner) rs)
    runs_left = rs_are ∙ waits_placed lo start inner rs

    same : free lo (lo + length inner) over ≡ rs
    same = overlaid_free t.policy start lo inner lo (lo + length inner) fs ∙ v

    within : Each (IsWithin lo (lo + length inner)) rs
    within = subst (λ qs. Each (IsWithin lo (lo + length inner)) qs) v (free_within lo (lo + length inner) fs)

    clear : AreClear lo over rs
    clear = subst (λ qs. AreClear lo over qs) same (free_clear d.view.front lo (lo + length inner) over (overlaid_ascends t.policy start lo inner d.view.front fs a))

-- The start and the parts of the payload are those that the definition has.
pub record IsCut (kind : Kind) (d : Direction) (s : Segment) (start : ℤ) (at : ℕ) (bytes inner : List ℕ) : Type 0 where
  pub start_is : start ≡ start_of kind d s
  pub at_is : at ≡ at_of start
  pub bytes_is : bytes ≡ bytes_at start s.payload
  pub inner_is : inner ≡ inner_of d.view.front s.cutoff at bytes

pub begin_asking : {C : Type 0} (paid : C → Charge) (t : Terms) (kind : Kind) (d : Direction) (s : Segment) (start : ℤ) (at : ℕ) (bytes inner : List ℕ) (fs : List (Frag C)) (below : ℕ) (rs : List Range)
    → IsCut kind d s start at bytes inner → s.live ≡ true
    → d.view.held ≡ spread paid fs → Ascends d.view.front fs → Rises 0 d.view.flow → front_after 0 d.view.flow ≡ d.view.front → below ≡ length s.payload - length bytes
    → rs ≡ free (max d.view.front at) (max d.view.front at + length inner) fs
    → Asking paid t kind d s [] start (overlaid t.policy start (max d.view.front at) inner fs) (map (wait_in (max d.view.front at) inner) rs)
    (counts_with d.view.front (gaps_from 0 d.view.flow) s.cutoff at (length bytes) below (length inner) (lengths (map (placed_wait start) (map (wait_in (max d.view.front at) inner) rs))))
begin_asking {C = C} paid t kind d s start at bytes inner fs below rs k l h a r f u v =
    begin_at paid t kind d s fs below start at bytes inner rs l (sym k.start_is) (sym k.at_is) (sym k.bytes_is) (sym k.inner_is) h a r f u (sym v) bs_are rs_are cs_are
  where
    S : ℤ
    S = start_of kind d s

    at_same : at_of S ≡ at
    at_same = ap at_of (sym k.start_is) ∙ sym k.at_is

    bytes_same : bytes_at S s.payload ≡ bytes
    bytes_same = ap (λ z. bytes_at z s.payload) (sym k.start_is) ∙ sym k.bytes_is

    inner_same : inner_of d.view.front s.cutoff (at_of S) (bytes_at S s.payload) ≡ inner
    inner_same = (λ i. inner_of d.view.front s.cutoff (at_same i) (bytes_same i)) ∙ sym k.inner_is

    bs_are : bytes_of kind d s ≡ placed_from at start bytes
    bs_are = bytes_are kind d s ∙ (λ i. placed_from (at_same i) (sym k.start_is i) (bytes_same i))

    rs_are : runs_of kind d s ≡ map (run_in (max d.view.front at) start inner) rs
    rs_are =
        ap (λ live. cond live (runs d.view s.cutoff (bytes_of kind d s)) []) l
        ∙ ap (runs d.view s.cutoff) bs_are
        ∙ runs_are paid d.view s.cutoff at start bytes fs h a
        ∙ (λ i. map (run_in (max d.view.front at) start (sym k.inner_is i)) (free (max d.view.front at) (max d.view.front at + length (sym k.inner_is i)) fs))
        ∙ ap (map (run_in (max d.view.front at) start inner)) (sym v)

    cs_are : counts_by kind d (Arrives s []) ≡ counts_with d.view.front (gaps_from 0 d.view.flow) s.cutoff at (length bytes) below (length inner) (lengths (runs_of kind d s))
    cs_are =
        counts_begin kind d s below l r f (u ∙ ap (λ bs. length s.payload - length bs) (sym bytes_same))
        ∙ (λ i. counts_with d.view.front (gaps_from 0 d.view.flow) s.cutoff (at_same i) (length (bytes_same i)) below (length (inner_same i)) (lengths (runs_of kind d s)))
