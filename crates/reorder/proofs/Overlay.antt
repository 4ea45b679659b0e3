-- A later segment's bytes over held parts are those that the definition settles.
use Rattle.std.specs.Prelude.{◌≡◌, refl, ℕ, suc, ◌+◌, ◌-◌, ◌<◌, ◌≤◌, Bool, true, false, not, cond, ◌==◌, ◌&&◌, nat_lt, nat_le, List, [], ◌∷◌, ◌++◌, length, filter, take, drop, min, max, Option, Some, None, ℤ, slice_get}
use Rattle.std.specs.List.{find}
use Rattle.std.proofs.Common.{sym, ◌∙◌, ap, subst, arith}
use Rattle.std.proofs.lemmas.Bool.Decides.{nat_tests}
use Rattle.overpolicy.specs.declared.policy.Policy.{Policy}
use Rattle.overpolicy.specs.Winner.{wins}
use Rattle.streamdefs.specs.Reorder.{Charge, Placed, placed_from, settled, settled_with, stands_in, is_at}
use Rattle.streamdefs.specs.View.{View, fate, is_fate, is_past}
use Rattle.streamdefs.specs.View.Fate.{Late, Shown, Cut, Kept, Wanted}
use Rattle.streamdefs.proofs.Stretches.{is_inside, inside_is}
use Rattle.streamdefs.specs.Ranges.{between, cut_at}
use Rattle.reorder.specs.Frags.{Cell, Frag, end_of, Ascends, cells_from, with_charge, spread_one, spread, byte_at, cell_with, cells_with, overlaid, free}
use Rattle.reorder.proofs.FreeRuns.{is_covered, stands_is, none_covers}

-- a byte that a segment from that start brings to a position
abbrev pub brought : ℤ → ℕ → Option ℕ → Option Placed
brought start at None = None
brought start at (Some byte) = Some (record { at = at; byte = byte; start = start; charge = None })

find_tested : (test : ℕ → Bool) (q : ℕ) (ps : List Placed) → find (is_at q) (filter (λ p. test p.at) ps) ≡ cond (test q) (find (is_at q) ps) None
find_tested test q [] = by (test q)
  where
    by : (b : Bool) → ◌≡◌ {A = Option Placed} None (cond b None None)
    by true = refl
    by false = refl
find_tested test q (p ∷ ps) = by (test p.at) (p.at == q) refl refl (find_tested test q ps)
  where
    same : (p.at == q) ≡ true → p.at ≡ q
    same e = grind (arith, nat_tests)

    by : (b c : Bool) → test p.at ≡ b → (p.at == q) ≡ c → find (is_at q) (filter (λ p. test p.at) ps) ≡ cond (test q) (find (is_at q) ps) None
        → find (is_at q) (cond b (p ∷ filter (λ p. test p.at) ps) (filter (λ p. test p.at) ps)) ≡ cond (test q) (cond c (Some p) (find (is_at q) ps)) None
    by true true e f rest = ap (λ b. cond b (Some p) (find (is_at q) (filter (λ p. test p.at) ps))) f ∙ ap (λ b. cond b (Some p) None) (sym e ∙ ap test (same f))
    by true false e f rest = ap (λ b. cond b (Some p) (find (is_at q) (filter (λ p. test p.at) ps))) f ∙ rest
    by false true e f rest = rest ∙ ap (λ b. cond b (find (is_at q) ps) None) (sym (ap test (same f)) ∙ e) ∙ ap (λ b. cond b (Some p) None) (sym e ∙ ap test (same f))
    by false false e f rest = rest

pub find_placed : (at : ℕ) (start : ℤ) (bytes : List ℕ) (q : ℕ) → find (is_at q) (placed_from at start bytes) ≡ brought start q (byte_at at bytes q)
find_placed at start [] q = by (nat_le at q)
  where
    by : (b : Bool) → ◌≡◌ {A = Option Placed} None (brought start q (cond b (slice_get [] (q - at)) None))
    by true = refl
    by false = refl
find_placed at start (b ∷ bytes) q = by (at == q) (nat_le at q) refl refl (find_placed (suc at) start bytes q)
  where
    p : ℕ → Placed
    p n = record { at = n; byte = b; start = start; charge = None }

    here : (n : ℕ) → n ≡ 0 → slice_get (b ∷ bytes) n ≡ Some b
    here n e = ap (slice_get (b ∷ bytes)) e

    there : (n m : ℕ) → n ≡ suc m → slice_get (b ∷ bytes) n ≡ slice_get bytes m
    there n m e = ap (slice_get (b ∷ bytes)) e

    later : (at == q) ≡ false → nat_le at q ≡ true → nat_le (suc at) q ≡ true
    later e f = grind (arith, nat_tests)

    none : nat_le at q ≡ false → nat_le (suc at) q ≡ false
    none e = grind (arith, nat_tests)

    by : (same below : Bool) → (at == q) ≡ same → nat_le at q ≡ below → find (is_at q) (placed_from (suc at) start bytes) ≡ brought start q (byte_at (suc at) bytes q)
        → cond same (Some (p at)) (find (is_at q) (placed_from (suc at) start bytes)) ≡ brought start q (cond below (slice_get (b ∷ bytes) (q - at)) None)
    by true true e f rest = ap (λ n. Some (p n)) (grind (arith, nat_tests)) ∙ ap (brought start q) (sym (here (q - at) (grind (arith, nat_tests))))
    by true false e f rest = absurd (grind (arith, nat_tests))
    by false true e f rest =
        rest ∙ ap (λ b. brought start q (cond b (slice_get bytes (q - suc at)) None)) (later e f) ∙ ap (brought start q) (sym (there (q - at) (q - suc at) (grind (arith, nat_tests))))
    by false false e f rest = rest ∙ ap (λ b. brought start q (cond b (slice_get bytes (q - suc at)) None)) (none f)

-- a byte at a position is kept, where it is not below the front nor past the cutoff and a byte is held there
kept_is : (view : View) (cutoff : Option ℕ) (q : ℕ) → view.front ≤ q → stands_in view.held q ≡ true → is_fate Kept (fate view cutoff q) ≡ is_inside view.front cutoff q
kept_is view cutoff q l h =
    ap (λ b. is_fate Kept (cond b (cond (stands_in view.flow q) Shown Late) (cond (is_past cutoff q) Cut (cond (stands_in view.held q) Kept Wanted)))) above
    ∙ ap (λ b. is_fate Kept (cond (is_past cutoff q) Cut (cond b Kept Wanted))) h
    ∙ by (is_past cutoff q)
    ∙ ap (λ b. not b && not (is_past cutoff q)) (sym above)
  where
    above : nat_lt q view.front ≡ false
    above = grind (arith, nat_tests)

    by : (b : Bool) → is_fate Kept (cond b Cut Kept) ≡ (not false && not b)
    by true = refl
    by false = refl

-- What the part of the segment from the front up to the cutoff brings to a held position.
pub found_is : (view : View) (cutoff : Option ℕ) (at : ℕ) (start : ℤ) (bytes : List ℕ) (q : ℕ) → view.front ≤ q → stands_in view.held q ≡ true
    → find (is_at q) (filter (λ p. is_fate Kept (fate view cutoff p.at)) (placed_from at start bytes))
    ≡ brought start q (byte_at (max view.front at) (take (cut_at cutoff (at + length bytes) - max view.front at) (drop (view.front - at) bytes)) q)
found_is view cutoff at start bytes q l h =
    find_tested (λ n. is_fate Kept (fate view cutoff n)) q (placed_from at start bytes)
    ∙ ap (λ b. cond b (find (is_at q) (placed_from at start bytes)) None) (kept_is view cutoff q l h)
    ∙ sym (find_tested (is_inside view.front cutoff) q (placed_from at start bytes))
    ∙ ap (find (is_at q)) (inside_is view.front cutoff at start bytes)
    ∙ find_placed (max view.front at) start (take (cut_at cutoff (at + length bytes) - max view.front at) (drop (view.front - at) bytes)) q

-- so each held byte is settled with that
abbrev pub as_placed : ℕ → Option Charge → Cell → Placed
as_placed at charge c = record { at = at; byte = c.byte; start = c.start; charge = charge }

settle_one : (policy : Policy) (start : ℤ) (at : ℕ) (c : Cell) (charge : Option Charge) (byte : Option ℕ)
    → settled_with policy (as_placed at charge c) (brought start at byte) ≡ as_placed at charge (cell_with policy start c byte)
settle_one policy start at c charge None = refl
settle_one policy start at c charge (Some b) = by (wins policy c.start start)
  where
    new : Cell
    new = record { byte = b; start = start }

    by : (w : Bool) → cond w (as_placed at charge new) (as_placed at charge c) ≡ as_placed at charge (cond w new c)
    by true = refl
    by false = refl

settle_cells : (policy : Policy) (start : ℤ) (from : ℕ) (bytes : List ℕ) (later : List Placed) (at : ℕ) (cs : List Cell)
    → ((q : ℕ) → at ≤ q → q < at + length cs → find (is_at q) later ≡ brought start q (byte_at from bytes q))
    → settled policy later (cells_from at cs) ≡ cells_from at (cells_with policy start from bytes at cs)
settle_cells policy start from bytes later at [] h = refl
settle_cells policy start from bytes later at (c ∷ cs) h =
    (λ i. (ap (settled_with policy (record { at = at; byte = c.byte; start = c.start; charge = None })) (h at (omega arith) (omega arith)) ∙ settle_one policy start at c None (byte_at from bytes at)) i
    ∷ settle_cells policy start from bytes later (suc at) cs (λ q l m. h q (omega arith) (omega arith)) i)

settle_part : {C : Type 0} (paid : C → Charge) (policy : Policy) (start : ℤ) (from : ℕ) (bytes : List ℕ) (later : List Placed) (at : ℕ) (cs : List Cell) (charge : C)
    → ((q : ℕ) → at ≤ q → q < at + length cs → find (is_at q) later ≡ brought start q (byte_at from bytes q))
    → settled policy later (with_charge (paid charge) (cells_from at cs)) ≡ with_charge (paid charge) (cells_from at (cells_with policy start from bytes at cs))
settle_part paid policy start from bytes later at [] charge h = refl
settle_part paid policy start from bytes later at (c ∷ cs) charge h =
    (λ i. (ap (settled_with policy (record { at = at; byte = c.byte; start = c.start; charge = Some (paid charge) })) (h at (omega arith) (omega arith)) ∙ settle_one policy start at c (Some (paid charge)) (byte_at from bytes at)) i
    ∷ settle_cells policy start from bytes later (suc at) cs (λ q l m. h q (omega arith) (omega arith)) i)

settled-append : (policy : Policy) (later ps qs : List Placed) → settled policy later (ps ++ qs) ≡ settled policy later ps ++ settled policy later qs
settled-append policy later [] qs = refl
settled-append policy later (p ∷ ps) qs = ap (λ xs. settled_with policy p (find (is_at p.at) later) ∷ xs) (settled-append policy later ps qs)

pub settle_parts : {C : Type 0} (paid : C → Charge) (policy : Policy) (start : ℤ) (from : ℕ) (bytes : List ℕ) (later : List Placed) (fs : List (Frag C))
    → ((q : ℕ) → is_covered fs q ≡ true → find (is_at q) later ≡ brought start q (byte_at from bytes q))
    → settled policy later (spread paid fs) ≡ spread paid (overlaid policy start from bytes fs)
settle_parts paid policy start from bytes later [] h = refl
settle_parts {C = C} paid policy start from bytes later (f ∷ fs) h =
    settled-append policy later (spread_one paid f) (spread paid fs)
    ∙ (λ i. settle_part paid policy start from bytes later f.at f.cells f.charge (λ q l m. h q (first q l m)) i ++ settle_parts paid policy start from bytes later fs (λ q e. h q (others q e)) i)
  where
    first : (q : ℕ) → f.at ≤ q → q < end_of f → is_covered (f ∷ fs) q ≡ true
    first q l m = grind (arith, nat_tests)

    others : (q : ℕ) → is_covered fs q ≡ true → is_covered (f ∷ fs) q ≡ true
    others q e = grind (arith, nat_tests)

-- each held position is settled
pub overlaid_is : {C : Type 0} (paid : C → Charge) (policy : Policy) (start : ℤ) (from : ℕ) (bytes : List ℕ) (fs : List (Frag C))
    → spread paid (overlaid policy start from bytes fs) ≡ settled policy (placed_from from start bytes) (spread paid fs)
overlaid_is paid policy start from bytes fs = sym (settle_parts paid policy start from bytes (placed_from from start bytes) fs (λ q c. find_placed from start bytes q))

-- Overlap is settled part by part.
pub settle_is : {C : Type 0} (paid : C → Charge) (policy : Policy) (view : View) (cutoff : Option ℕ) (at : ℕ) (start : ℤ) (bytes : List ℕ) (fs : List (Frag C)) → view.held ≡ spread paid fs → Ascends view.front fs
    → settled policy (filter (λ p. is_fate Kept (fate view cutoff p.at)) (placed_from at start bytes)) (spread paid fs)
    ≡ spread paid (overlaid policy start (max view.front at) (take (cut_at cutoff (at + length bytes) - max view.front at) (drop (view.front - at) bytes)) fs)
settle_is paid policy view cutoff at start bytes fs e a =
    settle_parts paid policy start (max view.front at) (take (cut_at cutoff (at + length bytes) - max view.front at) (drop (view.front - at) bytes)) (filter (λ p. is_fate Kept (fate view cutoff p.at)) (placed_from at start bytes)) fs
    (λ q c. found_is view cutoff at start bytes q (low q c) (ap (λ ps. stands_in ps q) e ∙ stands_is paid fs q ∙ c))
  where
    low : (q : ℕ) → is_covered fs q ≡ true → view.front ≤ q
    low q c = grind (arith, c, none_covers view.front q fs a)

-- what is overlaid keeps its places
pub cells_with_length : (policy : Policy) (start : ℤ) (from : ℕ) (bytes : List ℕ) (at : ℕ) (cs : List Cell) → length (cells_with policy start from bytes at cs) ≡ length cs
cells_with_length policy start from bytes at [] = refl
cells_with_length policy start from bytes at (c ∷ cs) = ap suc (cells_with_length policy start from bytes (suc at) cs)

pub overlaid_ascends : {C : Type 0} (policy : Policy) (start : ℤ) (from : ℕ) (bytes : List ℕ) (low : ℕ) (fs : List (Frag C)) → Ascends low fs → Ascends low (overlaid policy start from bytes fs)
overlaid_ascends policy start from bytes low [] a = tt
overlaid_ascends {C = C} policy start from bytes low (f ∷ fs) a = (
  a.0,
  subst (λ n. 0 < n) (sym (cells_with_length policy start from bytes f.at f.cells)) a.1,
  subst (λ n. Ascends (f.at + n) (overlaid policy start from bytes fs)) (sym (cells_with_length policy start from bytes f.at f.cells)) (overlaid_ascends policy start from bytes (end_of f) fs a.2),
)

pub overlaid_free : {C : Type 0} (policy : Policy) (start : ℤ) (from : ℕ) (bytes : List ℕ) (lo hi : ℕ) (fs : List (Frag C)) → free lo hi (overlaid policy start from bytes fs) ≡ free lo hi fs
overlaid_free policy start from bytes lo hi [] = refl
overlaid_free policy start from bytes lo hi (f ∷ fs) =
    ap (λ n. between lo (min f.at hi) ++ free (max lo (f.at + n)) hi (overlaid policy start from bytes fs)) (cells_with_length policy start from bytes f.at f.cells)
    ∙ ap (λ rs. between lo (min f.at hi) ++ rs) (overlaid_free policy start from bytes (max lo (end_of f)) hi fs)
