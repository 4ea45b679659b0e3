-- What is delivered is what was passed: each passed byte once, in order.
use Rattle.std.specs.Prelude.{◌≡◌, refl, ℕ, ◌==◌, Bool, true, false, cond, List, [], ◌∷◌, ◌++◌, flat_map, Option, Some}
use Rattle.std.proofs.Common.{sym, ◌∙◌, ap, arith, append-nil}
use mathlib.Core.List.{append_assoc}
use Rattle.histbook.specs.declared.look_entry.LookEntry.{LookEntry}
use Rattle.streamdefs.specs.Terms.{Terms}
use Rattle.streamdefs.specs.Reorder.{Placed, stretches}
use Rattle.streamdefs.specs.View.{charge_of, front_after}
use Rattle.streamdefs.proofs.Stretches.{stretches_flat}
use Rattle.streamdefs.specs.Pending.{bytes_in, fresh_in, Copy, Pending, Piece, Block, piece_of, blocks, behind_gaps, grown, begun, closed_by_gaps, pending_after, pending_behind, nothing_pending, last_bytes, is_pending}
use Rattle.streamdefs.specs.Direction.{Kind, Direction, Deed, pieces_by, gone_by, pending_by, blocks_of, last_pending, is_cut, moment_of, looks_left}
use Rattle.streamdefs.specs.Direction.Deed.{Arrives, Falls_due, Ends}

bytes_append : (ps qs : List Placed) → bytes_in (ps ++ qs) ≡ bytes_in ps ++ bytes_in qs
bytes_append [] qs = refl
bytes_append (p ∷ ps) qs = ap (λ xs. p.byte ∷ xs) (bytes_append ps qs)

fresh_append : (ps qs : List Piece) → fresh_in (ps ++ qs) ≡ fresh_in ps ++ fresh_in qs
fresh_append [] qs = refl
fresh_append (p ∷ ps) qs = ap (λ xs. p.fresh ++ xs) (fresh_append ps qs) ∙ sym (append_assoc p.fresh _ _)

in_blocks : List Block → List Placed
in_blocks bs = flat_map (λ b. b.bytes) bs

in_behind : (front : ℕ) (pss : List (List Placed)) → in_blocks (behind_gaps front pss) ≡ flat_map (λ ps. ps) pss
unfolding in_blocks
in_behind front [] = refl
in_behind front ([] ∷ rest) = in_behind front rest
in_behind front ((p ∷ ps) ∷ rest) = ap (λ qs. p ∷ ps ++ qs) (in_behind (front_after front (p ∷ ps)) rest)

in_blocks_of : (front : ℕ) (ps : List Placed) → in_blocks (blocks front ps) ≡ ps
in_blocks_of front ps = in_behind front (stretches ps) ∙ stretches_flat ps

fresh_by : (gap since : ℕ) (ps : List Placed) (copy : Option Copy) → fresh_in (piece_of (record { gap = gap; since = since; bytes = ps; copy = copy })) ≡ bytes_in ps
fresh_by gap since [] copy = refl
fresh_by gap since (p ∷ ps) copy = append-nil _

fresh_of : (o : Pending) → fresh_in (piece_of o) ≡ bytes_in o.bytes
fresh_of o = fresh_by o.gap o.since o.bytes o.copy

grown_by : (moment gap since : ℕ) (ps : List Placed) (copy : Option Copy) (more : List Placed) → (grown moment (record { gap = gap; since = since; bytes = ps; copy = copy }) more).bytes ≡ ps ++ more
grown_by moment gap since [] copy more = refl
grown_by moment gap since (p ∷ ps) copy more = refl

grown_bytes : (moment : ℕ) (o : Pending) (more : List Placed) → (grown moment o more).bytes ≡ o.bytes ++ more
grown_bytes moment o more = grown_by moment o.gap o.since o.bytes o.copy more

-- what the gaps close, with what stays pending, is what was pending with the blocks
closed_step : (moment : ℕ) (o : Pending) (b : Block) (bs : List Block) (joins : Bool)
    → ((p : Pending) → fresh_in (flat_map piece_of (closed_by_gaps moment p bs)) ++ bytes_in (pending_after moment p bs).bytes ≡ bytes_in p.bytes ++ bytes_in (in_blocks bs))
    → fresh_in (flat_map piece_of (cond joins (closed_by_gaps moment (grown moment o b.bytes) bs) (o ∷ closed_by_gaps moment (begun moment b) bs)))
    ++ bytes_in (cond joins (pending_after moment (grown moment o b.bytes) bs) (pending_after moment (begun moment b) bs)).bytes
    ≡ bytes_in o.bytes ++ bytes_in (b.bytes ++ in_blocks bs)
closed_step moment o b bs true rest =
    rest (grown moment o b.bytes) ∙ ap (λ ps. bytes_in ps ++ bytes_in (in_blocks bs)) (grown_bytes moment o b.bytes)
    ∙ ap (λ xs. xs ++ bytes_in (in_blocks bs)) (bytes_append o.bytes b.bytes) ∙ append_assoc (bytes_in o.bytes) (bytes_in b.bytes) (bytes_in (in_blocks bs))
    ∙ ap (λ xs. bytes_in o.bytes ++ xs) (sym (bytes_append b.bytes (in_blocks bs)))
closed_step moment o b bs false rest =
    ap (λ xs. xs ++ bytes_in (pending_after moment (begun moment b) bs).bytes) (fresh_append (piece_of o) (flat_map piece_of (closed_by_gaps moment (begun moment b) bs)))
    ∙ ap (λ xs. (xs ++ fresh_in (flat_map piece_of (closed_by_gaps moment (begun moment b) bs))) ++ bytes_in (pending_after moment (begun moment b) bs).bytes) (fresh_of o)
    ∙ append_assoc (bytes_in o.bytes) _ _
    ∙ ap (λ xs. bytes_in o.bytes ++ xs) (rest (begun moment b) ∙ sym (bytes_append b.bytes (in_blocks bs)))

closed : (moment : ℕ) (o : Pending) (bs : List Block)
    → fresh_in (flat_map piece_of (closed_by_gaps moment o bs)) ++ bytes_in (pending_after moment o bs).bytes ≡ bytes_in o.bytes ++ bytes_in (in_blocks bs)
unfolding in_blocks
closed moment o [] = sym (append-nil _)
closed moment o (b ∷ bs) = closed_step moment o b bs (b.gap == 0) (λ p. closed moment p bs)

behind_by : (overlap : Bool) (p : Pending) (look : LookEntry) (granted : Bool)
    → (cond granted (record nothing_pending { copy = Some (record { bytes = last_bytes look.asked p.bytes; charge = charge_of look }) }) nothing_pending).bytes ≡ []
behind_by overlap p look true = refl
behind_by overlap p look false = refl

pub behind_bytes : (terms : Terms) (p : Pending) (looks : List LookEntry) → (pending_behind terms p looks).bytes ≡ []
behind_bytes terms p [] = grind arith
behind_bytes terms p (look ∷ looks) = grind (arith, behind_by true p look look.granted)

cut_or_not : (terms : Terms) (last : Pending) (looks : List LookEntry) (b : Bool)
    → fresh_in (cond b (piece_of last) []) ++ bytes_in (cond b (pending_behind terms last looks) last).bytes ≡ bytes_in last.bytes
cut_or_not terms last looks true = ap (λ ps. fresh_in (piece_of last) ++ bytes_in ps) (behind_bytes terms last looks) ∙ append-nil _ ∙ fresh_of last
cut_or_not terms last looks false = refl

all_cut : (gap since : ℕ) (ps : List Placed) (copy : Option Copy)
    → fresh_in (cond (is_pending (record { gap = gap; since = since; bytes = ps; copy = copy })) (piece_of (record { gap = gap; since = since; bytes = ps; copy = copy })) []) ++ [] ≡ bytes_in ps
all_cut gap since [] copy = refl
all_cut gap since (p ∷ ps) copy = append-nil _ ∙ append-nil _

-- the pieces of an entry with what it leaves pending are what was pending with what it passed
pub delivered : (terms : Terms) (kind : Kind) (d : Direction) (deed : Deed)
    → fresh_in (pieces_by terms kind d deed) ++ bytes_in (pending_by terms kind d deed).bytes ≡ bytes_in d.pending.bytes ++ bytes_in (gone_by terms kind d deed)
delivered terms kind d deed =
    ap (λ xs. xs ++ bytes_in (pending_by terms kind d deed).bytes) (fresh_append (flat_map piece_of (blocks_of terms kind d deed)) _)
    ∙ append_assoc (fresh_in (flat_map piece_of (blocks_of terms kind d deed))) _ _
    ∙ ap (λ xs. fresh_in (flat_map piece_of (blocks_of terms kind d deed)) ++ xs) (at_last deed)
    ∙ closed (moment_of deed) d.pending (blocks d.view.front (gone_by terms kind d deed))
    ∙ ap (λ ps. bytes_in d.pending.bytes ++ bytes_in ps) (in_blocks_of d.view.front (gone_by terms kind d deed))
  where
    at_last : (e : Deed) → fresh_in (cond (is_cut terms e (last_pending terms kind d e)) (piece_of (last_pending terms kind d e)) []) ++ bytes_in (pending_by terms kind d e).bytes
        ≡ bytes_in (last_pending terms kind d e).bytes
    at_last (Arrives s looks) = cut_or_not terms (last_pending terms kind d (Arrives s looks)) (looks_left kind d (Arrives s looks)) _
    at_last (Falls_due at looks) = cut_or_not terms (last_pending terms kind d (Falls_due at looks)) (looks_left kind d (Falls_due at looks)) _
    at_last (Ends at) = let p = last_pending terms kind d (Ends at) in all_cut p.gap p.since p.bytes p.copy
