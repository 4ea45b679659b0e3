-- A segment comes to a direction at rest.
use Rattle.std.specs.Prelude.{◌≡◌, refl, ℕ, ◌<◌, Bool, true, false, List, [], ◌∷◌, ◌++◌, length, Option, Some, None, MatchOption, ℤ, is_none, is_some, not}
use Rattle.std.proofs.Common.{sym, ◌∙◌, ap, arith}
use Rattle.streamdefs.specs.Lists.{is_empty}
use Rattle.streamdefs.specs.Reorder.{Charge}
use Rattle.streamdefs.specs.Terms.{Terms}
use Rattle.streamdefs.specs.Pending.{Piece}
use Rattle.streamdefs.specs.Direction.{Direction, Segment}
use Rattle.reorder.specs.Frags.{Frag, Ascends, BeginsAt, spread, with_charge, cells_from, Cell}
use Rattle.flowdir.specs.Lane.{LaneStands}
use Rattle.flowdir.specs.Asking.{Wait, Asking}
use Rattle.flowdir.specs.Meeting.{Meets}
use Rattle.flowdir.specs.Boundary.{kind_of}
use Rattle.flowdir.specs.Kept.{Kept, Under, HeadIs, RunsFor}
use Rattle.flowdir.specs.Kept.Working.{Runs}

spread_some : {C : Type 0} (paid : C → Charge) (low : ℕ) (f : Frag C) (fs : List (Frag C)) → Ascends low (f ∷ fs) → is_empty (spread paid (f ∷ fs)) ≡ false
spread_some {C = C} paid low f fs a = by f.cells a.1
  where
    by : (cells : List Cell) → 0 < length cells → is_empty (with_charge (paid f.charge) (cells_from f.at cells) ++ spread paid fs) ≡ false
    by [] n = absurd (omega arith)
    by (c ∷ cells) n = refl

bare_is : {C : Type 0} (paid : C → Charge) (low : ℕ) (r : Option ℕ) (fs : List (Frag C)) → Ascends low fs → MatchOption r (fs ≡ []) (λ at. BeginsAt at fs) → is_none r ≡ is_empty (spread paid fs)
bare_is paid low None fs a m = ap (λ gs. is_empty (spread paid gs)) (sym m)
bare_is paid low (Some at) [] a m = absurd m
bare_is paid low (Some at) (f ∷ fs) a m = sym (spread_some paid low f fs a)

flip : (r : Option ℕ) (bare : Bool) → is_some r ≡ not bare → bare ≡ is_none r
flip None true e = refl
flip None false e = absurd (cc)
flip (Some at) true e = absurd (cc)
flip (Some at) false e = refl

pub enters : {C : Type 0} (paid : C → Charge) (k : Kept C) (t : Terms) (d : Direction) (s : Segment) (pieces : List Piece) (start : ℤ) (fs : List (Frag C)) (ws : List Wait) (under : Under) (least : Option ℕ)
    → Asking paid t (kind_of k.mode) d s [] start fs ws under.counts → HeadIs k (kind_of k.mode) d s → d.hole ≡ k.hole → Meets paid k.lane k.frags d → LaneStands paid k.lane d.view.flow d.pending pieces []
    → Ascends k.lane.front k.frags → MatchOption least (k.frags ≡ []) (λ at. BeginsAt at k.frags) → under.moment ≡ s.moment → under.front ≡ k.lane.front → is_some least ≡ not under.bare
    → RunsFor paid (record k { frags = fs; under = under; work = Runs start ws }) start ws t (kind_of k.mode) d s [] 0 pieces
enters paid k t d s pieces start fs ws under least q hd h m l a e mo f b = record {
  asking = q;
  stays = record {
    lane = l;
    front = m.front;
    head = record { base = hd.base; sent = hd.sent; fin = hd.fin };
    hole = h;
    moment = mo;
    before = f ∙ sym m.front;
    bare = flip least under.bare b ∙ bare_is paid k.lane.front least k.frags a e ∙ ap is_empty (sym m.held);
  };
  none = refl;
}

-- nothing is held where no part is first
pub bare_none : {C : Type 0} (fs : List (Frag C)) (r : Option ℕ) → MatchOption r (fs ≡ []) (λ at. BeginsAt at fs) → is_none r ≡ is_empty fs
bare_none fs None m = ap is_empty (sym m)
bare_none [] (Some at) m = absurd m
bare_none (f ∷ fs) (Some at) m = refl
