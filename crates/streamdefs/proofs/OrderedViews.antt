-- Each entry keeps a view in order, so each position stands in the flow once.
use Rattle.std.specs.Prelude.{◌≡◌, refl, ⊤, ℕ, suc, ◌+◌, ◌-◌, ◌<◌, ◌≤◌, ◌==◌, ◌⊎◌, Bool, true, false, cond, not, ◌||◌, nat_lt, List, [], ◌∷◌, ◌++◌, length, take, drop, filter, fold, Option, Some, None, ℤ, pos, negsuc, max}
use Rattle.std.proofs.Common.{sym, ◌∙◌, ap, subst, arith, rules, inl, append-nil}
use Rattle.std.specs.List.{find}
use Rattle.histbook.specs.declared.look_entry.LookEntry.{LookEntry}
use Rattle.streamdefs.specs.Terms.{Terms}
use Rattle.overpolicy.specs.declared.policy.Policy.{Policy}
use Rattle.streamdefs.specs.Reorder.{Placed, stretches, beside, put_run, settled, settled_with, placed, placed_from, stands_in, is_at}
use Rattle.streamdefs.specs.View.{View, runs, granted, charged, passed, front_after, after_passing, never, always, least}
use Rattle.overpolicy.specs.Winner.{wins}
use Rattle.streamdefs.specs.View.{is_fate}
use Rattle.streamdefs.specs.View.Fate.{Kept}
use Rattle.streamdefs.specs.Ranges.{cut_at}
use Rattle.streamdefs.specs.Direction.{Kind, Direction, Segment, Deed, start_of, bytes_of, fate_in, runs_of, impatience, is_hole_due, view_after}
use Rattle.streamdefs.specs.Direction.Deed.{Arrives, Falls_due, Ends}
use Rattle.streamdefs.specs.Ordered.{Rises, IsOrdered}
use Rattle.streamdefs.proofs.Stretches.{strict_runs}

-- less from below
weaken : (low high : ℕ) (ps : List Placed) → low ≤ high → Rises high ps → Rises low ps
weaken low high [] h r = tt
weaken low high (p ∷ ps) h r = (omega (arith, r.0), r.1)

joined : (low : ℕ) (ps qs : List Placed) → Rises low ps → Rises (front_after low ps) qs → Rises low (ps ++ qs)
joined low [] qs r s = s
joined low (p ∷ ps) qs r s = (r.0, joined (suc p.at) ps qs r.1 s)

front_joined : (low : ℕ) (ps qs : List Placed) → front_after low (ps ++ qs) ≡ front_after (front_after low ps) qs
front_joined low [] qs = refl
front_joined low (p ∷ ps) qs = front_joined (suc p.at) ps qs

passing_by : (low : ℕ) (h : Placed) (hs gone : List Placed) (b : Bool) → low ≤ h.at → Rises (suc h.at) hs
    → Rises (suc h.at) gone × Rises (front_after (suc h.at) gone) (drop (length gone) hs)
    → Rises low (cond b (h ∷ gone) []) × Rises (front_after low (cond b (h ∷ gone) [])) (drop (length (cond b (h ∷ gone) [])) (h ∷ hs))
passing_by low h hs gone true l r rest = ((l, rest.0), rest.1)
passing_by low h hs gone false l r rest = (tt, (l, r))

-- what is passed, and what is left
passing : (jumps : ℕ → Bool) (from low : ℕ) (hs : List Placed) → Rises low hs
    → Rises low (passed jumps from hs) × Rises (front_after low (passed jumps from hs)) (drop (length (passed jumps from hs)) hs)
passing jumps from low [] r = (tt, tt)
passing jumps from low (h ∷ hs) r = passing_by low h hs (passed jumps (suc h.at) hs) _ r.0 r.1 (passing jumps (suc h.at) (suc h.at) hs r.1)

-- a view stays in order when some of what is held is passed
pub pass_ordered : (view : View) (jumps : ℕ → Bool) (from : ℕ) (held : List Placed) → IsOrdered view → Rises view.front held → IsOrdered (after_passing view held (passed jumps from held))
pass_ordered view jumps from held o r = record {
  held = (passing jumps from view.front held r).1;
  flow = joined 0 view.flow (passed jumps from held) o.flow (subst (λ n. Rises n (passed jumps from held)) (sym o.front) (passing jumps from view.front held r).0);
  front = front_joined 0 view.flow (passed jumps from held) ∙ ap (λ n. front_after n (passed jumps from held)) o.front;
}

-- Runs: neighbours, outside of what is held, one behind the other.

Next : ℕ → List Placed → Type 0
Next at [] = ⊤
Next at (p ∷ ps) = (p.at ≡ at) × Next (suc at) ps

Outside : ℕ → ℕ → List Placed → Type 0
Outside from to [] = ⊤
Outside from to (h ∷ hs) = ((h.at < from) ⊎ (to ≤ h.at)) × Outside from to hs

AreRuns : ℕ → List Placed → List (List Placed) → Type 0
AreRuns low held [] = ⊤
AreRuns low held (r ∷ rs) = (at : ℕ) × (low ≤ at) × Next at r × Outside at (at + length r) held × AreRuns (at + length r) held rs

next_rises : (at : ℕ) (r rest : List Placed) → Next at r → Rises (at + length r) rest → Rises at (r ++ rest)
unfolding Next
next_rises at [] rest n s = weaken at (at + 0) rest (omega arith) s
next_rises at (p ∷ ps) rest n s = (omega (arith, n.0), subst (λ k. Rises (suc k) (ps ++ rest)) (sym n.0) (next_rises (suc at) ps rest n.1 (subst (λ k. Rises k rest) same s)))
  where
    same : at + suc (length ps) ≡ suc at + length ps
    same = omega arith

above_all : (from to : ℕ) (h : Placed) (hs : List Placed) → from ≤ h.at → (h.at < from) ⊎ (to ≤ h.at) → Rises (suc h.at) hs → Rises to (h ∷ hs)
above_all from to h hs l o r = (grind arith, r)

-- a run goes where nothing is held
put_by : (low at : ℕ) (p : Placed) (ps : List Placed) (h : Placed) (hs : List Placed) (b : Bool) → nat_lt h.at p.at ≡ b → low ≤ at → Next at (p ∷ ps)
    → ((h.at < at) ⊎ (at + length (p ∷ ps) ≤ h.at)) → low ≤ h.at → Rises (suc h.at) hs → (suc h.at ≤ at → Rises (suc h.at) (put_run (p ∷ ps) hs))
    → Rises low (cond b (h ∷ put_run (p ∷ ps) hs) (p ∷ ps ++ h ∷ hs))
unfolding Next
put_by low at p ps h hs true e l n o lh r rest = (lh, rest (grind arith))
put_by low at p ps h hs false e l n o lh r rest = weaken low at ((p ∷ ps) ++ (h ∷ hs)) l (next_rises at (p ∷ ps) (h ∷ hs) n (above_all at (at + length (p ∷ ps)) h hs (grind arith) o r))

put_rises : (low at : ℕ) (p : Placed) (ps held : List Placed) → low ≤ at → Next at (p ∷ ps) → Outside at (at + length (p ∷ ps)) held → Rises low held → Rises low (put_run (p ∷ ps) held)
unfolding Next Outside
put_rises low at p ps [] l n o r = subst (λ qs. Rises low qs) append_nothing (weaken low at ((p ∷ ps) ++ []) l (next_rises at (p ∷ ps) [] n tt))
  where
    append_nothing : (p ∷ ps) ++ [] ≡ p ∷ ps
    append_nothing = search rules
put_rises low at p ps (h ∷ hs) l n o r = put_by low at p ps h hs _ refl l n o.0 r.0 r.1 (λ below. put_rises (suc h.at) at p ps hs below n o.1 r.1)

-- what is outside of a range, with a run below the range put in, is outside of it
outside_joined : (from to : ℕ) (ps qs : List Placed) → Outside from to ps → Outside from to qs → Outside from to (ps ++ qs)
unfolding Outside
outside_joined from to [] qs o u = u
outside_joined from to (p ∷ ps) qs o u = (o.0, outside_joined from to ps qs o.1 u)

next_outside : (at from to : ℕ) (r : List Placed) → Next at r → at + length r ≤ from → Outside from to r
unfolding Next Outside
next_outside at from to [] n l = tt
next_outside at from to (p ∷ ps) n l = (inl (omega (arith, n.0)), next_outside (suc at) from to ps n.1 (omega arith))

outside_by : (from to : ℕ) (p : Placed) (ps : List Placed) (h : Placed) (hs : List Placed) (b : Bool) → Outside from to (p ∷ ps) → ((h.at < from) ⊎ (to ≤ h.at)) → Outside from to hs → Outside from to (put_run (p ∷ ps) hs)
    → Outside from to (cond b (h ∷ put_run (p ∷ ps) hs) (p ∷ ps ++ h ∷ hs))
unfolding Outside
outside_by from to p ps h hs true r oh o rest = (oh, rest)
outside_by from to p ps h hs false r oh o rest = outside_joined from to (p ∷ ps) (h ∷ hs) r (oh, o)

outside_put : (from to : ℕ) (r held : List Placed) → Outside from to r → Outside from to held → Outside from to (put_run r held)
unfolding Outside
outside_put from to [] held r o = o
outside_put from to (p ∷ ps) [] r o = r
outside_put from to (p ∷ ps) (h ∷ hs) r o = outside_by from to p ps h hs (nat_lt h.at p.at) r o.0 o.1 (outside_put from to (p ∷ ps) hs r o.1)

runs_put : (at low : ℕ) (r held : List Placed) (rs : List (List Placed)) → Next at r → at + length r ≤ low → AreRuns low held rs → AreRuns low (put_run r held) rs
unfolding AreRuns
runs_put at low r held [] n l h = tt
runs_put at low r held (q ∷ rs) n l h = (
  h.0,
  h.1,
  h.2,
  outside_put h.0 (h.0 + length q) r held (next_outside at h.0 (h.0 + length q) r n (omega (arith, h.1))) h.3,
  runs_put at (h.0 + length q) r held rs n (omega (arith, h.1)) h.4,
)

-- all runs go where nothing is held
all_put : (low runs_low : ℕ) (held : List Placed) (rs : List (List Placed)) → low ≤ runs_low → AreRuns runs_low held rs → Rises low held → Rises low (fold (λ h r. put_run r h) held rs)
unfolding AreRuns
all_put low runs_low held [] l h r = r
all_put low runs_low held ([] ∷ rs) l h r = all_put low (h.0 + 0) held rs (omega (arith, h.1)) h.4 r
all_put low runs_low held ((p ∷ ps) ∷ rs) l h r =
    all_put low (h.0 + suc (length ps)) (put_run (p ∷ ps) held) rs (omega (arith, h.1)) (runs_put h.0 (h.0 + suc (length ps)) (p ∷ ps) held rs h.2 (omega arith) h.4)
    (put_rises low h.0 p ps held (omega (arith, h.1)) h.2 h.3 r)

-- The granted runs are runs.

next_charged : (look : LookEntry) (at : ℕ) (r : List Placed) → Next at r → Next at (charged look r)
unfolding Next
next_charged look at [] n = n
next_charged look at (p ∷ ps) n = n

length_charged : (look : LookEntry) (r : List Placed) → length (charged look r) ≡ length r
length_charged look [] = refl
length_charged look (p ∷ ps) = refl

granted_by : (low : ℕ) (held r : List Placed) (rs gone : List (List Placed)) (look : LookEntry) (b : Bool) → AreRuns low held (r ∷ rs)
    → ((at : ℕ) → AreRuns at held rs → AreRuns at held gone) → AreRuns low held (cond b (charged look r ∷ gone) [])
unfolding AreRuns
granted_by low held r rs gone look true h rest = (
  h.0,
  h.1,
  next_charged look h.0 r h.2,
  subst (λ n. Outside h.0 (h.0 + n) held) (sym (length_charged look r)) h.3,
  subst (λ n. AreRuns (h.0 + n) held gone) (sym (length_charged look r)) (rest (h.0 + length r) h.4),
)
granted_by low held r rs gone look false h rest = tt

granted_runs : (low : ℕ) (held : List Placed) (rs : List (List Placed)) (looks : List LookEntry) → AreRuns low held rs → AreRuns low held (granted rs looks)
unfolding AreRuns
granted_runs low held [] looks h = tt
granted_runs low held (r ∷ rs) [] h = tt
granted_runs low held (r ∷ rs) (look ∷ looks) h = granted_by low held r rs (granted rs looks) look look.granted h (λ at g. granted_runs at held rs looks g)

-- The stretches of bytes that are not held are runs.

Free : List Placed → List Placed → Type 0
Free held [] = ⊤
Free held (p ∷ ps) = (stands_in held p.at ≡ false) × Free held ps

neither : (a b : Bool) → (a || b) ≡ false → (a ≡ false) × (b ≡ false)
neither true b e = absurd (grind arith)
neither false b e = (refl, e)

apart : (at position : ℕ) → (at == position) ≡ false → (at < position) ⊎ (position + 1 ≤ at)
apart at position e = grind arith

out_one : (held : List Placed) (position : ℕ) → stands_in held position ≡ false → Outside position (position + 1) held
unfolding Outside
out_one [] position e = tt
out_one (h ∷ hs) position e = (apart h.at position (neither (h.at == position) (stands_in hs position) e).0, out_one hs position (neither (h.at == position) (stands_in hs position) e).1)

out_both : (held : List Placed) (at n : ℕ) → Outside at (at + 1) held → Outside (suc at) (suc at + n) held → Outside at (at + suc n) held
unfolding Outside
out_both [] at n a b = tt
out_both (h ∷ hs) at n a b = (one h.at a.0 b.0, out_both hs at n a.1 b.1)
  where
    one : (x : ℕ) → ((x < at) ⊎ (at + 1 ≤ x)) → ((x < suc at) ⊎ (suc at + n ≤ x)) → ((x < at) ⊎ (at + suc n ≤ x))
    one x a b = grind arith

lower_runs : (low high : ℕ) (held : List Placed) (rs : List (List Placed)) → low ≤ high → AreRuns high held rs → AreRuns low held rs
unfolding AreRuns
lower_runs low high held [] l h = tt
lower_runs low high held (r ∷ rs) l h = (h.0, omega (arith, h.1), h.2, h.3, h.4)

beside_by : (low : ℕ) (held : List Placed) (p q : Placed) (qs : List Placed) (rest : List (List Placed)) (b : Bool) → (q.at == suc p.at) ≡ b → low ≤ p.at → stands_in held p.at ≡ false
    → AreRuns (suc p.at) held ((q ∷ qs) ∷ rest) → AreRuns low held (cond b ((p ∷ q ∷ qs) ∷ rest) ((p ∷ []) ∷ (q ∷ qs) ∷ rest))
unfolding AreRuns Next
beside_by low held p q qs rest true e l free h = (
  p.at,
  l,
  (refl, (same, subst (λ n. Next (suc n) qs) begins h.2.1)),
  out_both held p.at (suc (length qs)) (out_one held p.at free) (subst (λ n. Outside n (n + suc (length qs)) held) begins h.3),
  subst (λ n. AreRuns n held rest) ends h.4,
)
  where
    same : q.at ≡ suc p.at
    same = grind arith

    begins : h.0 ≡ suc p.at
    begins = sym h.2.0 ∙ same

    ends : h.0 + suc (length qs) ≡ p.at + suc (suc (length qs))
    ends = omega (arith, begins)
beside_by low held p q qs rest false e l free h =
    (p.at, l, (refl, tt), out_one held p.at free, lower_runs (p.at + 1) (suc p.at) held ((q ∷ qs) ∷ rest) (omega arith) h)

beside_runs : (low : ℕ) (held : List Placed) (p : Placed) (rest : List (List Placed)) → low ≤ p.at → stands_in held p.at ≡ false → AreRuns (suc p.at) held rest → AreRuns low held (beside p rest)
unfolding AreRuns Next
beside_runs low held p [] l free h = (p.at, l, (refl, tt), out_one held p.at free, tt)
beside_runs low held p ([] ∷ rest) l free h = (p.at, l, (refl, tt), out_one held p.at free, lower_runs (p.at + 1) (h.0 + 0) held rest (omega (arith, h.1)) h.4)
beside_runs low held p ((q ∷ qs) ∷ rest) l free h = beside_by low held p q qs rest (q.at == suc p.at) refl l free h

stretch_runs : (low : ℕ) (held ps : List Placed) → Rises low ps → Free held ps → AreRuns low held (stretches ps)
unfolding AreRuns Free
stretch_runs low held [] r f = tt
stretch_runs low held (p ∷ ps) r f = beside_runs low held p (stretches ps) r.0 f.0 (stretch_runs (suc p.at) held ps r.1 f.1)

-- A segment's runs are runs, behind the front and outside of what is held.

rises_from : (at : ℕ) (start : ℤ) (bytes : List ℕ) → Rises at (placed_from at start bytes)
rises_from at start [] = tt
rises_from at start (b ∷ bytes) = (omega arith, rises_from (suc at) start bytes)

rises_by : (low : ℕ) (p : Placed) (ps : List Placed) (b : Bool) → low ≤ p.at → Rises (suc p.at) ps → Rises low (cond b (p ∷ ps) ps)
rises_by low p ps true l r = (l, r)
rises_by low p ps false l r = weaken low (suc p.at) ps (omega arith) r

rises_filter : (test : Placed → Bool) (low : ℕ) (ps : List Placed) → Rises low ps → Rises low (filter test ps)
rises_filter test low [] r = tt
rises_filter test low (p ∷ ps) r = rises_by low p (filter test ps) (test p) r.0 (rises_filter test (suc p.at) ps r.1)

free_by : (held : List Placed) (p : Placed) (ps : List Placed) (b : Bool) → stands_in held p.at ≡ b → Free held ps → Free held (cond (not b) (p ∷ ps) ps)
unfolding Free
free_by held p ps true e f = f
free_by held p ps false e f = (e, f)

free_filter : (held ps : List Placed) → Free held (filter (λ p. not (stands_in held p.at)) ps)
unfolding Free
free_filter held [] = tt
free_filter held (p ∷ ps) = free_by held p (filter (λ q. not (stands_in held q.at)) ps) (stands_in held p.at) refl (free_filter held ps)

runs_from : (view : View) (cutoff : Option ℕ) (at : ℕ) (start : ℤ) (bytes : List ℕ) → AreRuns view.front view.held (runs view cutoff (placed_from at start bytes))
runs_from view cutoff at start bytes =
    subst (AreRuns view.front view.held) (sym (strict_runs view cutoff at start bytes))
    (stretch_runs view.front view.held (filter (λ p. not (stands_in view.held p.at)) inner)
    (rises_filter (λ p. not (stands_in view.held p.at)) view.front inner (weaken view.front (max view.front at) inner (omega arith) (rises_from (max view.front at) start _)))
    (free_filter view.held inner))
  where
    inner : List Placed
    inner = placed_from (max view.front at) start (take (cut_at cutoff (at + length bytes) - max view.front at) (drop (view.front - at) bytes))

runs_are : (view : View) (cutoff : Option ℕ) (start : ℤ) (bytes : List ℕ) → AreRuns view.front view.held (runs view cutoff (placed start bytes))
runs_are view cutoff (pos n) bytes = runs_from view cutoff n (pos n) bytes
runs_are view cutoff (negsuc n) bytes = runs_from view cutoff 0 (negsuc n) (drop (suc n) bytes)

-- Overlap changes no position.

at_by : (b : Bool) (h q : Placed) → h.at ≡ q.at → (cond b q h).at ≡ h.at
at_by true h q e = sym e
at_by false h q e = refl

at_settled : (policy : Policy) (h : Placed) (o : Option Placed) → (settled_with policy h o).at ≡ h.at
at_settled policy h None = refl
at_settled policy h (Some p) = at_by (wins policy h.start p.start) h (record h { byte = p.byte; start = p.start }) refl

settled_rises : (policy : Policy) (later : List Placed) (low : ℕ) (held : List Placed) → Rises low held → Rises low (settled policy later held)
settled_rises policy later low [] r = tt
settled_rises policy later low (h ∷ hs) r =
    let e = at_settled policy h (find (is_at h.at) later) in
    (subst (λ n. low ≤ n) (sym e) r.0, subst (λ n. Rises (suc n) (settled policy later hs)) (sym e) (settled_rises policy later (suc h.at) hs r.1))

settled_outside : (policy : Policy) (later : List Placed) (from to : ℕ) (held : List Placed) → Outside from to held → Outside from to (settled policy later held)
unfolding Outside
settled_outside policy later from to [] o = tt
settled_outside policy later from to (h ∷ hs) o =
    (subst (λ n. (n < from) ⊎ (to ≤ n)) (sym (at_settled policy h (find (is_at h.at) later))) o.0, settled_outside policy later from to hs o.1)

settled_runs : (policy : Policy) (later : List Placed) (low : ℕ) (held : List Placed) (rs : List (List Placed)) → AreRuns low held rs → AreRuns low (settled policy later held) rs
unfolding AreRuns
settled_runs policy later low held [] h = tt
settled_runs policy later low held (r ∷ rs) h = (h.0, h.1, h.2, settled_outside policy later h.0 (h.0 + length r) held h.3, settled_runs policy later (h.0 + length r) held rs h.4)

-- Each entry keeps the order.

unmoved : (view : View) → IsOrdered view → IsOrdered (after_passing view view.held [])
unmoved view o = record {
  held = o.held;
  flow = subst (Rises 0) (sym (append-nil view.flow)) o.flow;
  front = ap (front_after 0) (append-nil view.flow) ∙ o.front;
}

arrived : (terms : Terms) (kind : Kind) (d : Direction) (s : Segment) (looks : List LookEntry) (live : Bool) → IsOrdered d.view
    → IsOrdered (view_after terms kind d (Arrives (record s { live = live }) looks))
arrived terms kind d s looks true o =
    pass_ordered d.view (impatience terms kind) d.view.front _ o
    (all_put d.view.front d.view.front (settled terms.policy later d.view.held) (granted rs looks) (omega arith)
    (settled_runs terms.policy later d.view.front d.view.held (granted rs looks) (granted_runs d.view.front d.view.held rs looks (runs_are d.view s.cutoff (start_of kind d alive) s.payload)))
    (settled_rises terms.policy later d.view.front d.view.held o.held))
  where
    alive : Segment
    alive = record s { live = true }

    later : List Placed
    later = filter (λ p. is_fate Kept (fate_in d alive p)) (bytes_of kind d alive)

    rs : List (List Placed)
    rs = runs_of kind d alive
arrived terms kind d s looks false o = unmoved d.view o

fell_due : (d : Direction) (due : Bool) → IsOrdered d.view → IsOrdered (after_passing d.view d.view.held (cond due (passed never (least d.view.front d.view.held) d.view.held) []))
fell_due d true o = pass_ordered d.view never (least d.view.front d.view.held) d.view.held o o.held
fell_due d false o = unmoved d.view o

-- each entry keeps the view in order
pub ordered_after : (terms : Terms) (kind : Kind) (d : Direction) (deed : Deed) → IsOrdered d.view → IsOrdered (view_after terms kind d deed)
ordered_after terms kind d (Arrives s looks) o = arrived terms kind d s looks s.live o
ordered_after terms kind d (Falls_due at looks) o = fell_due d (is_hole_due terms at d.hole) o
ordered_after terms kind d (Ends at) o = pass_ordered d.view always d.view.front d.view.held o o.held
