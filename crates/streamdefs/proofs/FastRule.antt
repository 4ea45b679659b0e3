-- What a live segment does to a direction that waits for nothing: granted, its one run is passed; refused, nothing moves.
use Rattle.std.specs.Prelude.{◌≡◌, refl, ℕ, suc, ◌+◌, ◌-◌, max, take, Bool, true, false, cond, List, [], ◌∷◌, ◌++◌, length, drop, filter, fold, flat_map, ℤ, pos, negsuc, Option}
use Rattle.std.proofs.Common.{sym, ◌∙◌, ap, arith, subst, append-nil}
use Rattle.histbook.specs.declared.look_entry.LookEntry.{LookEntry}
use Rattle.streamdefs.specs.Terms.{Terms}
use Rattle.streamdefs.specs.Reorder.{Placed, stretches, beside, placed, placed_from, put_run}
use Rattle.streamdefs.specs.View.{View, runs, fate, is_fate, granted, charged, passed, always, front_after, after_passing, least}
use Rattle.streamdefs.specs.View.Fate.{Wanted}
use Rattle.streamdefs.specs.Pending.{blocks, behind_gaps}
use Rattle.streamdefs.specs.Direction.{Kind, Segment, Direction, runs_of, view_after, gone_by, start_of, bytes_of, impatience}
use Rattle.streamdefs.specs.Direction.Kind.{Strict, Fast, Datagrams}
use Rattle.streamdefs.specs.Direction.Deed.{Arrives}
use Rattle.streamdefs.specs.Ranges.{cut_at}
use Rattle.streamdefs.specs.FastMode.{WaitsForNothing, IsOneAtMost, ComesFast, block_behind}
use Rattle.streamdefs.proofs.Stretches.{one_stretch, stretches_flat, strict_runs}

-- all that is held is passed
pub passed_always : (front : ℕ) (hs : List Placed) → passed always front hs ≡ hs
passed_always front [] = refl
passed_always front (h ∷ hs) = grind (arith, passed_always (suc h.at) hs)

pub drop_all : {X : Type 0} (xs : List X) → drop (length xs) xs ≡ []
drop_all [] = refl
drop_all (x ∷ xs) = drop_all xs

put_first : (r : List Placed) → put_run r [] ≡ r
put_first [] = refl
put_first (p ∷ ps) = refl

front_charged : (look : LookEntry) (front : ℕ) (r : List Placed) → front_after front (charged look r) ≡ front_after front r
front_charged look front [] = refl
front_charged look front (p ∷ ps) = refl

least_charged : (look : LookEntry) (front : ℕ) (r : List Placed) → least front (charged look r) ≡ least front r
least_charged look front [] = refl
least_charged look front (p ∷ ps) = refl

all_free : (ps : List Placed) → filter (λ p. true) ps ≡ ps
all_free [] = refl
all_free (p ∷ ps) = ap (λ qs. p ∷ qs) (all_free ps)

-- neighbours are one run at most
at_most_one : (at : ℕ) (start : ℤ) (bytes : List ℕ) → IsOneAtMost (stretches (placed_from at start bytes))
at_most_one at start [] = tt
at_most_one at start (b ∷ bytes) = subst IsOneAtMost (sym (one_stretch at start b bytes)) tt

one_from : (front : ℕ) (flow : List Placed) (cutoff : Option ℕ) (at : ℕ) (start : ℤ) (bytes : List ℕ)
    → IsOneAtMost (runs (record { front = front; held = []; flow = flow }) cutoff (placed_from at start bytes))
one_from front flow cutoff at start bytes =
    subst IsOneAtMost (sym (strict_runs (record { front = front; held = []; flow = flow }) cutoff at start bytes ∙ ap {A = List Placed} (λ ps. stretches ps) (all_free (placed_from from start inner)))) (at_most_one from start inner)
  where
    from : ℕ
    from = max front at

    inner : List ℕ
    inner = take (cut_at cutoff (at + length bytes) - max front at) (drop (front - at) bytes)

one_of : (front : ℕ) (flow : List Placed) (cutoff : Option ℕ) (start : ℤ) (bytes : List ℕ)
    → IsOneAtMost (runs (record { front = front; held = []; flow = flow }) cutoff (placed start bytes))
one_of front flow cutoff (pos n) bytes = one_from front flow cutoff n (pos n) bytes
one_of front flow cutoff (negsuc n) bytes = one_from front flow cutoff 0 (negsuc n) (drop (suc n) bytes)

-- the direction with nothing held, and the segment alive
abbrev bare : Direction → List Placed → Direction
bare d held = record d { view = record { front = d.view.front; held = held; flow = d.view.flow } }

abbrev alive : Segment → Bool → Segment
alive s live = record s { live = live }

pub one_run : (kind : Kind) (d : Direction) (s : Segment) → ComesFast kind d s → IsOneAtMost (runs_of kind d s)
one_run kind d s c =
    subst (λ held. IsOneAtMost (runs_of kind (bare d held) s)) (sym c.held)
    (subst (λ live. IsOneAtMost (runs_of kind (bare d []) (alive s live))) (sym c.live) (one_of d.view.front d.view.flow s.cutoff (start_of kind (bare d []) (alive s true)) s.payload))

-- what is passed of the granted runs
gone : Terms → Kind → Direction → List (List Placed) → List Placed
gone terms kind d rs = passed (impatience terms kind) d.view.front (fold (λ h r. put_run r h) [] rs)

viewed : Terms → Kind → Direction → List (List Placed) → View
viewed terms kind d rs = after_passing d.view (fold (λ h r. put_run r h) [] rs) (gone terms kind d rs)

all_passed : (terms : Terms) (kind : Kind) (front : ℕ) (hs : List Placed) → WaitsForNothing kind → passed (impatience terms kind) front hs ≡ hs
all_passed terms Strict front hs w = absurd w
all_passed terms Fast front hs w = passed_always front hs
all_passed terms Datagrams front hs w = passed_always front hs

-- what is passed, and the view, by the looks
gone_is : (terms : Terms) (kind : Kind) (d : Direction) (s : Segment) (looks : List LookEntry) → ComesFast kind d s
    → gone_by terms kind d (Arrives s looks) ≡ gone terms kind d (granted (runs_of kind d s) looks)
unfolding gone
gone_is terms kind d s looks c =
    subst (λ held. gone_by terms kind (bare d held) (Arrives s looks) ≡ gone terms kind (bare d held) (granted (runs_of kind (bare d held) s) looks)) (sym c.held)
    (subst (λ live. gone_by terms kind (bare d []) (Arrives (alive s live) looks) ≡ gone terms kind (bare d []) (granted (runs_of kind (bare d []) (alive s live)) looks)) (sym c.live) refl)

view_is : (terms : Terms) (kind : Kind) (d : Direction) (s : Segment) (looks : List LookEntry) → ComesFast kind d s
    → view_after terms kind d (Arrives s looks) ≡ viewed terms kind d (granted (runs_of kind d s) looks)
unfolding gone viewed
view_is terms kind d s looks c =
    subst (λ held. view_after terms kind (bare d held) (Arrives s looks) ≡ viewed terms kind (bare d held) (granted (runs_of kind (bare d held) s) looks)) (sym c.held)
    (subst (λ live. view_after terms kind (bare d []) (Arrives (alive s live) looks) ≡ viewed terms kind (bare d []) (granted (runs_of kind (bare d []) (alive s live)) looks)) (sym c.live) refl)

-- nothing is granted: nothing moves
unmoved : (terms : Terms) (kind : Kind) (d : Direction) → d.view.held ≡ [] → viewed terms kind d [] ≡ d.view
unfolding gone viewed
unmoved terms kind d e = λ i. record { front = d.view.front; held = sym e i; flow = append-nil d.view.flow i }

pub none_view : (terms : Terms) (kind : Kind) (d : Direction) (s : Segment) (looks : List LookEntry) → ComesFast kind d s → runs_of kind d s ≡ []
    → view_after terms kind d (Arrives s looks) ≡ d.view
none_view terms kind d s looks c none = view_is terms kind d s looks c ∙ ap (λ rs. viewed terms kind d (granted rs looks)) none ∙ unmoved terms kind d c.held

pub refused_view : (terms : Terms) (kind : Kind) (d : Direction) (s : Segment) (look : LookEntry) (run : List Placed) → ComesFast kind d s → runs_of kind d s ≡ run ∷ [] → look.granted ≡ false
    → view_after terms kind d (Arrives s (look ∷ [])) ≡ d.view
refused_view terms kind d s look run c one is_refused =
    view_is terms kind d s (look ∷ []) c ∙ ap (λ rs. viewed terms kind d (granted rs (look ∷ []))) one ∙ ap (λ answer. viewed terms kind d (cond answer (charged look run ∷ []) [])) is_refused
    ∙ unmoved terms kind d c.held

-- the run is granted: it is passed
joined_is : (terms : Terms) (kind : Kind) (d : Direction) (look : LookEntry) (run : List Placed) → WaitsForNothing kind → gone terms kind d (charged look run ∷ []) ≡ charged look run
unfolding gone
joined_is terms kind d look run w = ap (passed (impatience terms kind) d.view.front) (put_first (charged look run)) ∙ all_passed terms kind d.view.front (charged look run) w

moved : (terms : Terms) (kind : Kind) (d : Direction) (look : LookEntry) (run : List Placed) → WaitsForNothing kind
    → viewed terms kind d (charged look run ∷ []) ≡ record { front = front_after d.view.front run; held = []; flow = d.view.flow ++ charged look run }
unfolding viewed
moved terms kind d look run w =
    ap (λ hs. after_passing d.view hs (gone terms kind d (charged look run ∷ []))) (put_first (charged look run)) ∙ ap (after_passing d.view (charged look run)) (joined_is terms kind d look run w)
    ∙ (λ i. record { front = front_charged look d.view.front run i; held = drop_all (charged look run) i; flow = d.view.flow ++ charged look run })

granted_is : (terms : Terms) (kind : Kind) (d : Direction) (s : Segment) (look : LookEntry) (run : List Placed) → runs_of kind d s ≡ run ∷ [] → look.granted ≡ true
    → granted (runs_of kind d s) (look ∷ []) ≡ charged look run ∷ []
granted_is terms kind d s look run one is_granted = ap (λ rs. granted rs (look ∷ [])) one ∙ ap (λ answer. cond answer (charged look run ∷ []) []) is_granted

pub granted_view : (terms : Terms) (kind : Kind) (d : Direction) (s : Segment) (look : LookEntry) (run : List Placed) → ComesFast kind d s → runs_of kind d s ≡ run ∷ [] → look.granted ≡ true
    → view_after terms kind d (Arrives s (look ∷ [])) ≡ record { front = front_after d.view.front run; held = []; flow = d.view.flow ++ charged look run }
granted_view terms kind d s look run c one is_granted =
    view_is terms kind d s (look ∷ []) c ∙ ap (viewed terms kind d) (granted_is terms kind d s look run one is_granted) ∙ moved terms kind d look run c.waits

-- the gap before it

same_stretch : (p q : Placed) (ps : List Placed) (rest : List (List Placed)) → p.at ≡ q.at → beside p rest ≡ (p ∷ ps) ∷ [] → beside q rest ≡ (q ∷ ps) ∷ []
same_stretch p q ps [] e h = grind (arith, h)
same_stretch p q ps ([] ∷ rest) e h = grind (arith, h)
same_stretch p q ps ((x ∷ xs) ∷ rest) e h = grind (arith, h, e)

charged_stretch : (look : LookEntry) (run : List Placed) → stretches run ≡ run ∷ [] → stretches (charged look run) ≡ charged look run ∷ []
charged_stretch look [] h = h
charged_stretch look (p ∷ ps) h = same_stretch p _ ps (stretches ps) refl h

is_stretch : (ps run : List Placed) → stretches ps ≡ run ∷ [] → stretches run ≡ run ∷ []
is_stretch ps run h = ap stretches (sym (append-nil run) ∙ ap (flat_map (λ qs. qs)) (sym h) ∙ stretches_flat ps) ∙ h

run_is_stretch : (kind : Kind) (d : Direction) (s : Segment) (run : List Placed) (live : Bool) → runs_of kind d (alive s live) ≡ run ∷ [] → stretches run ≡ run ∷ []
run_is_stretch kind d s run true h = is_stretch (filter (λ p. is_fate Wanted (fate d.view s.cutoff p.at)) (bytes_of kind d (alive s true))) run h
run_is_stretch kind d s run false h = absurd (grind (arith, h))

one_block : (front : ℕ) (run : List Placed) → stretches run ≡ run ∷ [] → blocks front run ≡ block_behind front run ∷ []
one_block front [] h = absurd (grind (arith, h))
one_block front (p ∷ ps) h = ap (behind_gaps front) h

pub granted_gap : (terms : Terms) (kind : Kind) (d : Direction) (s : Segment) (look : LookEntry) (run : List Placed) → ComesFast kind d s → runs_of kind d s ≡ run ∷ [] → look.granted ≡ true
    → blocks d.view.front (gone_by terms kind d (Arrives s (look ∷ []))) ≡ block_behind d.view.front (charged look run) ∷ []
granted_gap terms kind d s look run c one is_granted =
    ap (blocks d.view.front) (gone_is terms kind d s (look ∷ []) c ∙ ap (gone terms kind d) (granted_is terms kind d s look run one is_granted) ∙ joined_is terms kind d look run c.waits)
    ∙ one_block d.view.front (charged look run) (charged_stretch look run (run_is_stretch kind d s run s.live one))
