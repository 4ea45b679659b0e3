-- No charge is lost or made: what a direction had and was granted is what it has and gave away.
use Rattle.std.specs.Prelude.{◌≡◌, refl, ℕ, suc, ◌+◌, ◌==◌, ◌||◌, ◌&&◌, Bool, true, false, cond, nat_lt, List, [], ◌∷◌, ◌++◌, length, drop, flat_map, filter, fold, Option, Some, None}
use Rattle.std.proofs.Common.{sym, ◌∙◌, ap, arith}
use Rattle.std.specs.List.{find}
use Rattle.histbook.specs.declared.look_entry.LookEntry.{LookEntry}
use Rattle.streamdefs.specs.Terms.{Terms}
use Rattle.overpolicy.specs.declared.policy.Policy.{Policy}
use Rattle.streamdefs.specs.Reorder.{Charge, Placed, put_run, settled, settled_with, is_at, stretches}
use Rattle.streamdefs.specs.View.{granted, passed, never, always, least, is_fate, front_after, charge_of}
use Rattle.overpolicy.specs.Winner.{wins}
use Rattle.streamdefs.specs.Pending.{Copy, Pending, Piece, Block, piece_of, spare_of, blocks, behind_gaps, grown, begun, closed_by_gaps, pending_after, pending_behind, nothing_pending, last_bytes, is_pending, is_full, is_flush_due, run_charges, copy_charge}
use Rattle.streamdefs.specs.Direction.{Kind, Direction, Segment, Deed, is_cut, last_pending, looks_left, blocks_of, pieces_by, spares_by, pending_by, gone_by, held_with, view_after, direction_after, runs_of, bytes_of, fate_in, impatience, is_hole_due}
use Rattle.streamdefs.specs.Direction.Deed.{Arrives, Falls_due, Ends}
use Rattle.streamdefs.specs.View.Fate.{Kept}
use Rattle.streamdefs.specs.Amounts.{amount, amount_of, amount_pending, amount_in, amount_pieces, joined_runs, amount_granted}
use Rattle.streamdefs.proofs.Stretches.{stretches_flat}

of_append : (ps qs : List Placed) → amount_of (ps ++ qs) ≡ amount_of ps + amount_of qs
of_append [] qs = omega arith
of_append (p ∷ ps) qs = omega (arith, of_append ps qs)

append_amount : (cs ds : List Charge) → amount (cs ++ ds) ≡ amount cs + amount ds
append_amount [] ds = omega arith
append_amount (c ∷ cs) ds = omega (arith, append_amount cs ds)

pieces_append : (ps qs : List Piece) → amount_pieces (ps ++ qs) ≡ amount_pieces ps + amount_pieces qs
pieces_append [] qs = omega arith
pieces_append (p ∷ ps) qs = omega (arith, pieces_append ps qs)

one_charge : (o : Option Charge) (ps : List Placed) → amount (run_charges ps) ≡ amount_of ps → (p : Placed) → p.charge ≡ o → amount (run_charges (p ∷ ps)) ≡ amount_of (p ∷ ps)
one_charge None ps h p e = rw (e, h) (omega arith)
one_charge (Some c) ps h p e = rw (e, h) refl

run_amount : (ps : List Placed) → amount (run_charges ps) ≡ amount_of ps
run_amount [] = refl
run_amount (p ∷ ps) = one_charge p.charge ps (run_amount ps) p refl

-- putting runs, settling, passing

put_by : (p : Placed) (ps : List Placed) (h : Placed) (hs : List Placed) (b : Bool) → amount_of (put_run (p ∷ ps) hs) ≡ amount_of (p ∷ ps) + amount_of hs
    → amount_of (cond b (h ∷ put_run (p ∷ ps) hs) (p ∷ ps ++ h ∷ hs)) ≡ amount_of (p ∷ ps) + amount_of (h ∷ hs)
put_by p ps h hs true e = omega (arith, e)
put_by p ps h hs false e = of_append (p ∷ ps) (h ∷ hs)

put_amount : (r held : List Placed) → amount_of (put_run r held) ≡ amount_of r + amount_of held
put_amount [] held = omega arith
put_amount (p ∷ ps) [] = omega arith
put_amount (p ∷ ps) (h ∷ hs) = put_by p ps h hs (nat_lt h.at p.at) (put_amount (p ∷ ps) hs)

all_amount : (held : List Placed) (rs : List (List Placed)) → amount_of (fold (λ h r. put_run r h) held rs) ≡ amount_of (joined_runs rs) + amount_of held
all_amount held [] = omega arith
all_amount held (r ∷ rs) = all_amount (put_run r held) rs ∙ omega (arith, put_amount r held, of_append r (joined_runs rs))

charge_by : (b : Bool) (h q : Placed) → h.charge ≡ q.charge → (cond b q h).charge ≡ h.charge
charge_by true h q e = sym e
charge_by false h q e = refl

charge_settled : (policy : Policy) (h : Placed) (o : Option Placed) → (settled_with policy h o).charge ≡ h.charge
charge_settled policy h None = refl
charge_settled policy h (Some p) = charge_by (wins policy h.start p.start) h (record h { byte = p.byte; start = p.start }) refl

settled_amount : (policy : Policy) (later held : List Placed) → amount_of (settled policy later held) ≡ amount_of held
settled_amount policy later [] = refl
settled_amount policy later (h ∷ hs) = rw (charge_settled policy h (find (is_at h.at) later), settled_amount policy later hs) refl

passed_by : (h : Placed) (gone hs : List Placed) (b : Bool) → amount_of gone + amount_of (drop (length gone) hs) ≡ amount_of hs
    → amount_of (cond b (h ∷ gone) []) + amount_of (drop (length (cond b (h ∷ gone) [])) (h ∷ hs)) ≡ amount_of (h ∷ hs)
passed_by h gone hs true e = omega (arith, e)
passed_by h gone hs false e = omega arith

passed_amount : (jumps : ℕ → Bool) (from : ℕ) (hs : List Placed) → amount_of (passed jumps from hs) + amount_of (drop (length (passed jumps from hs)) hs) ≡ amount_of hs
passed_amount jumps from [] = refl
passed_amount jumps from (h ∷ hs) = passed_by h (passed jumps (suc h.at) hs) hs _ (passed_amount jumps (suc h.at) hs)

-- cutting

in_blocks : List Block → List Placed
in_blocks bs = flat_map (λ b. b.bytes) bs

in_behind : (front : ℕ) (pss : List (List Placed)) → in_blocks (behind_gaps front pss) ≡ flat_map (λ ps. ps) pss
unfolding in_blocks
in_behind front [] = refl
in_behind front ([] ∷ rest) = in_behind front rest
in_behind front ((p ∷ ps) ∷ rest) = ap (λ qs. p ∷ ps ++ qs) (in_behind (front_after front (p ∷ ps)) rest)

in_blocks_of : (front : ℕ) (ps : List Placed) → in_blocks (blocks front ps) ≡ ps
in_blocks_of front ps = in_behind front (stretches ps) ∙ stretches_flat ps

-- a pending part is handed over, or its copy given back
handed_by : (gap since : ℕ) (ps : List Placed) (copy : Option Copy)
    → amount_pieces (piece_of (record { gap = gap; since = since; bytes = ps; copy = copy })) + amount (spare_of (record { gap = gap; since = since; bytes = ps; copy = copy })) ≡ amount_of ps + amount (copy_charge copy)
handed_by gap since [] copy = omega arith
handed_by gap since (p ∷ ps) copy = omega (arith, append_amount (copy_charge copy) (run_charges (p ∷ ps)), run_amount (p ∷ ps))

handed : (o : Pending) → amount_pieces (piece_of o) + amount (spare_of o) ≡ amount_pending o
handed o = handed_by o.gap o.since o.bytes o.copy

grown_by : (moment gap since : ℕ) (ps : List Placed) (copy : Option Copy) (more : List Placed)
    → amount_pending (grown moment (record { gap = gap; since = since; bytes = ps; copy = copy }) more) ≡ amount_of ps + amount (copy_charge copy) + amount_of more
grown_by moment gap since [] copy more = omega arith
grown_by moment gap since (p ∷ ps) copy more = omega (arith, of_append (p ∷ ps) more)

grown_amount : (moment : ℕ) (o : Pending) (more : List Placed) → amount_pending (grown moment o more) ≡ amount_pending o + amount_of more
grown_amount moment o more = grown_by moment o.gap o.since o.bytes o.copy more

-- what the gaps close is handed over or given back, and the rest stays pending
balance : ℕ → Pending → List Block → ℕ
balance moment o bs = amount_pieces (flat_map piece_of (closed_by_gaps moment o bs)) + amount (flat_map spare_of (closed_by_gaps moment o bs)) + amount_pending (pending_after moment o bs)

closed_step : (moment : ℕ) (o : Pending) (b : Block) (bs : List Block) (joins : Bool)
    → ((p : Pending) → balance moment p bs ≡ amount_pending p + amount_of (in_blocks bs))
    → amount_pieces (flat_map piece_of (cond joins (closed_by_gaps moment (grown moment o b.bytes) bs) (o ∷ closed_by_gaps moment (begun moment b) bs)))
    + amount (flat_map spare_of (cond joins (closed_by_gaps moment (grown moment o b.bytes) bs) (o ∷ closed_by_gaps moment (begun moment b) bs)))
    + amount_pending (cond joins (pending_after moment (grown moment o b.bytes) bs) (pending_after moment (begun moment b) bs))
    ≡ amount_pending o + amount_of (b.bytes ++ in_blocks bs)
unfolding balance
closed_step moment o b bs true rest = rest (grown moment o b.bytes) ∙ omega (arith, grown_amount moment o b.bytes, of_append b.bytes (in_blocks bs))
closed_step moment o b bs false rest =
    omega (
      arith,
      rest (begun moment b),
      handed o,
      pieces_append (piece_of o) (flat_map piece_of (closed_by_gaps moment (begun moment b) bs)),
      append_amount (spare_of o) (flat_map spare_of (closed_by_gaps moment (begun moment b) bs)),
      of_append b.bytes (in_blocks bs),
    )

closed : (moment : ℕ) (o : Pending) (bs : List Block) → balance moment o bs ≡ amount_pending o + amount_of (in_blocks bs)
unfolding balance in_blocks
closed moment o [] = omega arith
closed moment o (b ∷ bs) = closed_step moment o b bs (b.gap == 0) (λ p. closed moment p bs)

-- the last cut

left : (a b : Bool) → (a && b) ≡ true → a ≡ true
left true b e = refl
left false b e = e

either : (a b c : Bool) → (a ≡ true → c ≡ true) → (b ≡ true → c ≡ true) → (a || b) ≡ true → c ≡ true
either true b c f g e = f refl
either false b c f g e = g e

cut_is_pending : (terms : Terms) (deed : Deed) (o : Pending) → is_cut terms deed o ≡ true → is_pending o ≡ true
cut_is_pending terms (Arrives s looks) o e = left (is_pending o) _ e
cut_is_pending terms (Falls_due at looks) o e =
    either (is_full terms o) (is_flush_due terms at o) (is_pending o) (λ f. left (is_pending o) _ f) (λ f. left (is_pending o) _ (left (is_pending o && nat_lt 0 terms.flush) _ f)) e
cut_is_pending terms (Ends at) o e = e

no_spare_by : (gap since : ℕ) (ps : List Placed) (copy : Option Copy) → is_pending (record { gap = gap; since = since; bytes = ps; copy = copy }) ≡ true → amount (spare_of (record { gap = gap; since = since; bytes = ps; copy = copy })) ≡ 0
no_spare_by gap since [] copy e = absurd (grind arith)
no_spare_by gap since (p ∷ ps) copy e = refl

no_spare : (o : Pending) → is_pending o ≡ true → amount (spare_of o) ≡ 0
no_spare o e = no_spare_by o.gap o.since o.bytes o.copy e

behind_by : (p : Pending) (look : LookEntry) (b : Bool)
    → (cond b (record nothing_pending { copy = Some (record { bytes = last_bytes look.asked p.bytes; charge = charge_of look }) }) nothing_pending).bytes ≡ []
behind_by p look true = refl
behind_by p look false = refl

behind_bytes : (terms : Terms) (p : Pending) (looks : List LookEntry) → (pending_behind terms p looks).bytes ≡ []
behind_bytes terms p [] = grind arith
behind_bytes terms p (look ∷ looks) = grind (arith, behind_by p look look.granted)

cut_or_not : (terms : Terms) (last : Pending) (looks : List LookEntry) (b : Bool) → (b ≡ true → is_pending last ≡ true)
    → amount_pieces (cond b (piece_of last) []) + amount_pending (cond b (pending_behind terms last looks) last)
    ≡ amount_pending last + cond b (amount (copy_charge (pending_behind terms last looks).copy)) 0
cut_or_not terms last looks true h = omega (arith, handed last, no_spare last (h refl), ap amount_of (behind_bytes terms last looks))
cut_or_not terms last looks false h = omega arith

at_end : (last : Pending) (b : Bool) → is_pending last ≡ b → amount_pieces (cond b (piece_of last) []) + amount (spare_of last) ≡ amount_pending last
at_end last true e = handed last
at_end last false e = omega (arith, handed last, no_piece last.gap last.since last.bytes last.copy e)
  where
    no_piece : (gap since : ℕ) (ps : List Placed) (copy : Option Copy) → is_pending (record { gap = gap; since = since; bytes = ps; copy = copy }) ≡ false → amount_pieces (piece_of (record { gap = gap; since = since; bytes = ps; copy = copy })) ≡ 0
    no_piece gap since [] copy e = refl
    no_piece gap since (p ∷ ps) copy e = absurd (grind arith)

-- of the flow: what was pending, passed and reserved for a copy is handed over, given back or pending
copy_of : Terms → Kind → Direction → Deed → ℕ
copy_of terms kind d (Ends at) = 0
copy_of terms kind d deed = cond (is_cut terms deed (last_pending terms kind d deed)) (amount (copy_charge (pending_behind terms (last_pending terms kind d deed) (looks_left kind d deed)).copy)) 0

cuts : (terms : Terms) (kind : Kind) (d : Direction) (deed : Deed)
    → amount_pieces (pieces_by terms kind d deed) + amount (spares_by terms kind d deed) + amount_pending (pending_by terms kind d deed) ≡ amount_pending d.pending + amount_of (gone_by terms kind d deed) + copy_of terms kind d deed
unfolding balance copy_of in_blocks
cuts terms kind d (Arrives s looks) =
    let deed = Arrives s looks in
    let last = last_pending terms kind d deed in
    omega (
      arith,
      closed s.moment d.pending (blocks d.view.front (gone_by terms kind d deed)),
      ap amount_of (in_blocks_of d.view.front (gone_by terms kind d deed)),
      pieces_append (flat_map piece_of (blocks_of terms kind d deed)) (cond (is_cut terms deed last) (piece_of last) []),
      append_amount (flat_map spare_of (blocks_of terms kind d deed)) [],
      cut_or_not terms last (looks_left kind d deed) (is_cut terms deed last) (cut_is_pending terms deed last),
    )
cuts terms kind d (Falls_due at looks) =
    let deed = Falls_due at looks in
    let last = last_pending terms kind d deed in
    omega (
      arith,
      closed at d.pending (blocks d.view.front (gone_by terms kind d deed)),
      ap amount_of (in_blocks_of d.view.front (gone_by terms kind d deed)),
      pieces_append (flat_map piece_of (blocks_of terms kind d deed)) (cond (is_cut terms deed last) (piece_of last) []),
      append_amount (flat_map spare_of (blocks_of terms kind d deed)) [],
      cut_or_not terms last (looks_left kind d deed) (is_cut terms deed last) (cut_is_pending terms deed last),
    )
cuts terms kind d (Ends at) =
    let deed = Ends at in
    let last = last_pending terms kind d deed in
    omega (
      arith,
      closed at d.pending (blocks d.view.front (gone_by terms kind d deed)),
      ap amount_of (in_blocks_of d.view.front (gone_by terms kind d deed)),
      pieces_append (flat_map piece_of (blocks_of terms kind d deed)) (cond (is_pending last) (piece_of last) []),
      append_amount (flat_map spare_of (blocks_of terms kind d deed)) (spare_of last),
      at_end last (is_pending last) refl,
    )

-- of the movement: what was held and reserved for runs is held or passed
runs_amount : Kind → Direction → Deed → ℕ
runs_amount kind d (Arrives s looks) = amount_of (joined_runs (granted (runs_of kind d s) looks))
runs_amount kind d _ = 0

arrived : (terms : Terms) (kind : Kind) (d : Direction) (s : Segment) (looks : List LookEntry) (live : Bool)
    → amount_of (gone_by terms kind d (Arrives (record s { live = live }) looks)) + amount_of (view_after terms kind d (Arrives (record s { live = live }) looks)).held
    ≡ amount_of d.view.held + amount_of (joined_runs (granted (runs_of kind d (record s { live = live })) looks))
arrived terms kind d s looks true =
    passed_amount (impatience terms kind) d.view.front held ∙ all_amount (settled terms.policy later d.view.held) (granted (runs_of kind d alive) looks)
    ∙ omega (arith, settled_amount terms.policy later d.view.held)
  where
    alive : Segment
    alive = record s { live = true }

    later : List Placed
    later = filter (λ p. is_fate Kept (fate_in d alive p)) (bytes_of kind d alive)

    held : List Placed
    held = held_with terms kind d (Arrives alive looks)
arrived terms kind d s looks false = none_granted looks
  where
    none_granted : (ls : List LookEntry) → 0 + amount_of d.view.held ≡ amount_of d.view.held + amount_of (joined_runs (granted [] ls))
    none_granted [] = omega arith
    none_granted (l ∷ ls) = omega arith

fell_due : (d : Direction) (due : Bool)
    → amount_of (cond due (passed never (least d.view.front d.view.held) d.view.held) []) + amount_of (drop (length (cond due (passed never (least d.view.front d.view.held) d.view.held) [])) d.view.held) ≡ amount_of d.view.held + 0
fell_due d true = passed_amount never (least d.view.front d.view.held) d.view.held ∙ omega arith
fell_due d false = omega arith

moves : (terms : Terms) (kind : Kind) (d : Direction) (deed : Deed)
    → amount_of (gone_by terms kind d deed) + amount_of (view_after terms kind d deed).held ≡ amount_of d.view.held + runs_amount kind d deed
unfolding runs_amount
moves terms kind d (Arrives s looks) = arrived terms kind d s looks s.live
moves terms kind d (Falls_due at looks) = fell_due d (is_hole_due terms at d.hole)
moves terms kind d (Ends at) = passed_amount always d.view.front d.view.held ∙ omega arith

granted_is : (terms : Terms) (kind : Kind) (d : Direction) (deed : Deed) → amount_granted terms kind d deed ≡ runs_amount kind d deed + copy_of terms kind d deed
unfolding runs_amount copy_of
granted_is terms kind d (Arrives s looks) = refl
granted_is terms kind d (Falls_due at looks) = omega arith
granted_is terms kind d (Ends at) = refl

-- what a direction had and was granted is what it has, handed over and gave back
pub balanced : (terms : Terms) (kind : Kind) (d : Direction) (deed : Deed)
    → amount_in (direction_after terms kind d deed) + amount_pieces (pieces_by terms kind d deed) + amount (spares_by terms kind d deed) ≡ amount_in d + amount_granted terms kind d deed
balanced terms kind d deed = omega (arith, cuts terms kind d deed, moves terms kind d deed, granted_is terms kind d deed)
