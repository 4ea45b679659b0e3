-- What is taken is held or passed.
use Rattle.std.specs.Prelude.{◌≡◌, refl, ℕ, suc, ◌+◌, ◌≤◌, Bool, true, false, cond, nat_lt, List, [], ◌∷◌, ◌++◌, length, drop, filter, fold}
use Rattle.std.proofs.Common.{◌∙◌, ap, arith}
use Rattle.std.proofs.Math.ListN.{length-drop, length-append}
use Rattle.histbook.specs.declared.look_entry.LookEntry.{LookEntry}
use Rattle.streamdefs.specs.Terms.{Terms}
use Rattle.overpolicy.specs.declared.policy.Policy.{Policy}
use Rattle.streamdefs.specs.Reorder.{Placed, put_run, settled}
use Rattle.streamdefs.specs.View.{granted, passed, never, always, least, is_fate}
use Rattle.streamdefs.specs.View.Fate.{Kept}
use Rattle.streamdefs.specs.Direction.{Kind, Direction, Segment, Deed, lengths, counts_by, view_after, gone_by, held_with, runs_of, bytes_of, fate_in, impatience, is_hole_due}
use Rattle.streamdefs.specs.Direction.Deed.{Arrives, Falls_due, Ends}

put_by : (p : Placed) (ps : List Placed) (h : Placed) (hs : List Placed) (b : Bool) → length (put_run (p ∷ ps) hs) ≡ length (p ∷ ps) + length hs
    → length (cond b (h ∷ put_run (p ∷ ps) hs) (p ∷ ps ++ h ∷ hs)) ≡ length (p ∷ ps) + length (h ∷ hs)
put_by p ps h hs true e = omega (arith, e)
put_by p ps h hs false e = omega (arith, length-append (p ∷ ps) (h ∷ hs))

length_put : (r held : List Placed) → length (put_run r held) ≡ length r + length held
length_put [] held = omega arith
length_put (p ∷ ps) [] = omega arith
length_put (p ∷ ps) (h ∷ hs) = put_by p ps h hs (nat_lt h.at p.at) (length_put (p ∷ ps) hs)

length_all : (held : List Placed) (rs : List (List Placed)) → length (fold (λ h r. put_run r h) held rs) ≡ lengths rs + length held
length_all held [] = omega arith
length_all held (r ∷ rs) = length_all (put_run r held) rs ∙ omega (arith, length_put r held)

length_settled : (policy : Policy) (later held : List Placed) → length (settled policy later held) ≡ length held
length_settled policy later [] = refl
length_settled policy later (h ∷ hs) = ap suc (length_settled policy later hs)

passed_by : (h : Placed) (gone hs : List Placed) (b : Bool) → length gone ≤ length hs → length (cond b (h ∷ gone) []) ≤ length (h ∷ hs)
passed_by h gone hs true l = omega (arith, l)
passed_by h gone hs false l = omega arith

passed-le : (jumps : ℕ → Bool) (from : ℕ) (hs : List Placed) → length (passed jumps from hs) ≤ length hs
passed-le jumps from [] = omega arith
passed-le jumps from (h ∷ hs) = passed_by h (passed jumps (suc h.at) hs) hs _ (passed-le jumps (suc h.at) hs)

split : (gone hs : List Placed) → length gone ≤ length hs → length (drop (length gone) hs) + length gone ≡ length hs
split gone hs l = omega (arith, length-drop (length gone) hs)

-- the bytes that the entry takes
abbrev pub taken_by : Kind → Direction → Deed → ℕ
taken_by kind d deed = (counts_by kind d deed).taken

due_split : (d : Direction) (due : Bool) → length (drop (length (cond due (passed never (least d.view.front d.view.held) d.view.held) [])) d.view.held) + length (cond due (passed never (least d.view.front d.view.held) d.view.held) []) ≡ length d.view.held + 0
due_split d true = split _ d.view.held (passed-le never (least d.view.front d.view.held) d.view.held) ∙ omega arith
due_split d false = omega arith

arrived : (terms : Terms) (kind : Kind) (d : Direction) (s : Segment) (looks : List LookEntry) (live : Bool)
    → length (view_after terms kind d (Arrives (record s { live = live }) looks)).held + length (gone_by terms kind d (Arrives (record s { live = live }) looks)) ≡ length d.view.held + taken_by kind d (Arrives (record s { live = live }) looks)
arrived terms kind d s looks true =
    split _ held (passed-le (impatience terms kind) d.view.front held) ∙ length_all (settled terms.policy later d.view.held) (granted rs looks)
    ∙ omega (arith, length_settled terms.policy later d.view.held)
  where
    alive : Segment
    alive = record s { live = true }

    later : List Placed
    later = filter (λ p. is_fate Kept (fate_in d alive p)) (bytes_of kind d alive)

    rs : List (List Placed)
    rs = runs_of kind d alive

    held : List Placed
    held = held_with terms kind d (Arrives alive looks)
arrived terms kind d s looks false = omega arith

-- held after + passed = held before + taken
pub conserved : (terms : Terms) (kind : Kind) (d : Direction) (deed : Deed) → length (view_after terms kind d deed).held + length (gone_by terms kind d deed) ≡ length d.view.held + taken_by kind d deed
conserved terms kind d (Arrives s looks) = arrived terms kind d s looks s.live
conserved terms kind d (Falls_due at looks) = due_split d (is_hole_due terms at d.hole)
conserved terms kind d (Ends at) = split _ d.view.held (passed-le always d.view.front d.view.held) ∙ omega arith
