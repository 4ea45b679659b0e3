-- What an entry passes, by what is kept.
use Rattle.std.specs.Prelude.{◌≡◌, refl, ℕ, ◌<◌, true, cond, List, [], ◌∷◌, ◌++◌, length, flat_map, drop}
use Rattle.std.proofs.Common.{sym, ◌∙◌, ap, subst, arith}
use Rattle.histbook.specs.declared.look_entry.LookEntry.{LookEntry}
use Rattle.streamdefs.specs.Terms.{Terms}
use Rattle.streamdefs.specs.Reorder.{Charge}
use Rattle.streamdefs.specs.View.{never, passed, front_after, least}
use Rattle.streamdefs.specs.Pending.{Piece, piece_of, spare_of, blocks, closed_by_gaps, pending_after}
use Rattle.streamdefs.specs.Direction.{Kind, Direction, Segment, Deed, Counts, held_with, gone_by, moment_of, last_pending, blocks_of, is_hole_due, impatience}
use Rattle.streamdefs.specs.Direction.Deed.{Arrives, Falls_due}
use Rattle.reorder.specs.Frags.{Cell, Frag, Ascends, spread, with_charge, cells_from, pass}
use Rattle.reorder.proofs.Spread.{pass_is}
use Rattle.flowdir.specs.Lane.{Lane, LaneStands, lane_after}
use Rattle.flowdir.specs.Passing.{Passes, Advances, jumps_by, taken_by}
use Rattle.flowdir.specs.Asking.{HasPassed}
use Rattle.flowdir.specs.Kept.{first_at}
use Rattle.flowdir.specs.declared.rule.Rule.{Rule}
use Rattle.flowdir.specs.declared.advance.Advance.{Advance}
use Rattle.flowdir.specs.declared.advance.Advance.TheVariants.{Stay, From}
use Rattle.flowdir.proofs.Lanes.{lanes_on, front_joined}
use Rattle.flowdir.proofs.Asked.{Sorted, pass_parts, pass_ascends, left_behind, after_ascends}

pub advances_none : {C : Type 0} (moment : ℕ) (lane : Lane C) (fs : List (Frag C)) → Advances Stay moment lane fs lane fs
advances_none moment lane fs = record { lane_is = refl; rest_is = refl }

pub advances_on : {C : Type 0} (at : ℕ) (rule : Rule) (moment : ℕ) (lane : Lane C) (fs : List (Frag C)) (lane' : Lane C) (rest : List (Frag C)) → Passes (jumps_by rule) moment at lane fs lane' rest → Advances (From at rule) moment lane fs lane' rest
advances_on at rule moment lane fs lane' rest p = record { lane_is = p.lane_is; rest_is = p.rest_is }

pub taken_parts : {C : Type 0} (way : Advance) (fs : List (Frag C)) → fs ≡ taken_by way fs ++ drop (length (taken_by way fs)) fs
taken_parts Stay fs = refl
taken_parts (From at rule) fs = pass_parts (jumps_by rule) at fs

taken_ascends : {C : Type 0} (way : Advance) (low : ℕ) (fs : List (Frag C)) → Ascends low fs → Ascends low (taken_by way fs)
taken_ascends Stay low fs a = tt
taken_ascends (From at rule) low fs a = pass_ascends (jumps_by rule) low at fs a

taken_left : {C : Type 0} (paid : C → Charge) (way : Advance) (fs : List (Frag C)) → drop (length (spread paid (taken_by way fs))) (spread paid fs) ≡ spread paid (drop (length (taken_by way fs)) fs)
taken_left paid Stay fs = refl
taken_left paid (From at rule) fs = left_behind paid (jumps_by rule) at fs

-- What the entry passes is what its parts are.
pub passed_entry : {C : Type 0} (paid : C → Charge) (t : Terms) (kind : Kind) (d : Direction) (deed : Deed) (way : Advance) (moment : ℕ) (lane : Lane C) (fs : List (Frag C)) (pieces : List Piece)
    → moment_of deed ≡ moment → held_with t kind d deed ≡ spread paid fs → gone_by t kind d deed ≡ spread paid (taken_by way fs) → Ascends lane.front fs → d.view.front ≡ lane.front
    → LaneStands paid lane d.view.flow d.pending pieces []
    → HasPassed paid t kind d deed (lane_after moment lane (taken_by way fs)) (drop (length (taken_by way fs)) fs) pieces
passed_entry {C = C} paid t kind d deed way moment lane fs pieces mo h gone a e l = record {
  lane_is = lane_is;
  held = (λ i. drop (length (gone i)) (h i)) ∙ taken_left paid way fs;
  ascends = after_ascends moment lane parts (drop (length parts) fs) (subst (λ gs. Ascends lane.front gs) (taken_parts way fs) a);
  front = ap (λ n. front_after n (gone_by t kind d deed)) (e ∙ sym l.flows.front_is) ∙ sym (front_joined 0 d.view.flow (gone_by t kind d deed)) ∙ lane_is.flows.front_is;
}
  where
    parts : List (Frag C)
    parts = taken_by way fs

    lane_is : LaneStands paid (lane_after moment lane parts) (d.view.flow ++ gone_by t kind d deed) (last_pending t kind d deed) (pieces ++ flat_map piece_of (blocks_of t kind d deed)) (flat_map spare_of (blocks_of t kind d deed))
    lane_is =
        subst (λ m. LaneStands paid (lane_after moment lane parts) (d.view.flow ++ gone_by t kind d deed) (pending_after m d.pending (blocks d.view.front (gone_by t kind d deed))) (pieces ++ flat_map piece_of (closed_by_gaps m d.pending (blocks d.view.front (gone_by t kind d deed)))) (flat_map spare_of (closed_by_gaps m d.pending (blocks d.view.front (gone_by t kind d deed))))) (sym mo)
        (subst (λ ps. LaneStands paid (lane_after moment lane parts) (d.view.flow ++ ps) (pending_after moment d.pending (blocks d.view.front ps)) (pieces ++ flat_map piece_of (closed_by_gaps moment d.pending (blocks d.view.front ps))) (flat_map spare_of (closed_by_gaps moment d.pending (blocks d.view.front ps)))) (sym gone)
        (subst (λ n. LaneStands paid (lane_after moment lane parts) (d.view.flow ++ spread paid parts) (pending_after moment d.pending (blocks n (spread paid parts))) (pieces ++ flat_map piece_of (closed_by_gaps moment d.pending (blocks n (spread paid parts)))) (flat_map spare_of (closed_by_gaps moment d.pending (blocks n (spread paid parts))))) (sym e)
        (lanes_on paid moment lane d.view.flow d.pending pieces [] parts l (taken_ascends way lane.front fs a))))

-- a live segment
pub gone_live : {C : Type 0} (paid : C → Charge) (t : Terms) (kind : Kind) (d : Direction) (s : Segment) (looks : List LookEntry) (fs : List (Frag C)) (counts : Counts) (front : ℕ)
    → Sorted paid t kind d s looks fs counts → d.view.front ≡ front → Ascends front fs → gone_by t kind d (Arrives s looks) ≡ spread paid (pass (impatience t kind) front fs)
gone_live paid t kind d s looks fs counts front h e a =
    ap (λ live. cond live (passed (impatience t kind) d.view.front (held_with t kind d (Arrives s looks))) []) h.live
    ∙ (λ i. passed (impatience t kind) (e i) (h.held i))
    ∙ pass_is paid (impatience t kind) front front fs a

-- a hole falls due
least_is : {C : Type 0} (paid : C → Charge) (low front : ℕ) (fs : List (Frag C)) → Ascends low fs → least front (spread paid fs) ≡ first_at front fs
least_is paid low front [] a = refl
least_is {C = C} paid low front (f ∷ fs) a = by f.cells a.1
  where
    by : (cells : List Cell) → 0 < length cells → least front (with_charge (paid f.charge) (cells_from f.at cells) ++ spread paid fs) ≡ f.at
    by [] n = absurd (omega arith)
    by (c ∷ cells) n = refl

pub gone_due : {C : Type 0} (paid : C → Charge) (t : Terms) (kind : Kind) (d : Direction) (at : ℕ) (looks : List LookEntry) (fs : List (Frag C)) (front : ℕ) → is_hole_due t at d.hole ≡ true → d.view.held ≡ spread paid fs → d.view.front ≡ front → Ascends front fs
    → gone_by t kind d (Falls_due at looks) ≡ spread paid (pass never (first_at front fs) fs)
gone_due paid t kind d at looks fs front due h e a =
    ap (λ b. cond b (passed never (least d.view.front d.view.held) d.view.held) []) due
    ∙ (λ i. passed never (least (e i) (h i)) (h i))
    ∙ ap (λ n. passed never n (spread paid fs)) (least_is paid front front fs a)
    ∙ pass_is paid never front (first_at front fs) fs a
