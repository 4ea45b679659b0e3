-- An end's steps.
use Rattle.std.specs.Prelude.{◌≡◌, refl, ℕ, Bool, true, false, cond, ◌||◌, ◌==◌, List, [], ◌∷◌, length, drop, None}
use Rattle.std.proofs.Common.{◌∙◌, ap}
use Rattle.streamdefs.specs.Terms.{Terms}
use Rattle.streamdefs.specs.Reorder.{Charge}
use Rattle.streamdefs.specs.View.{always}
use Rattle.streamdefs.specs.Pending.{Piece}
use Rattle.streamdefs.specs.Direction.{Direction, Deed, next_by, gives_at, pieces_by, direction_after, hole_after, view_after}
use Rattle.streamdefs.specs.Direction.Deed.{Ends}
use Rattle.reorder.specs.Frags.{Frag, end_of, Ascends, spread, pass}
use Rattle.flowdir.specs.Closing.{Closing}
use Rattle.flowdir.specs.Boundary.{IsStep, kind_of}
use Rattle.flowdir.specs.Boundary.Phase.{Rests}
use Rattle.flowdir.specs.declared.step.Step.{Step}
use Rattle.flowdir.specs.Kept.{Kept, RestsFor, StandsFor, GivesNext, ended_on}
use Rattle.flowdir.specs.Kept.Working.{Idle}
use Rattle.flowdir.proofs.Ending.{end_entry}
use Rattle.flowdir.proofs.EntrySteps.{rests_of, gives_step}

-- an end passes all
pass_all : {C : Type 0} (front : ℕ) (fs : List (Frag C)) → drop (length (pass always front fs)) fs ≡ []
pass_all front [] = refl
pass_all front (f ∷ fs) = by (f.at == front) (pass_all (end_of f) fs)
  where
    by : (b : Bool) → drop (length (pass always (end_of f) fs)) fs ≡ [] → drop (length (cond (b || true) (f ∷ pass always (end_of f) fs) [])) (f ∷ fs) ≡ []
    by true e = e
    by false e = e

pub end_step : {C : Type 0} (paid : C → Charge) (k k' : Kept C) (step : Step C) (t : Terms) (d : Direction) (at : ℕ) (pieces : List Piece)
    → k.work ≡ Idle → StandsFor paid k d Rests pieces → Ascends k.lane.front k.frags → GivesNext (ended_on at k) k' step → IsStep paid (StandsFor paid k') t (kind_of k.mode) d (Ends at) 0 pieces step
end_step {C = C} paid k k' step t d at pieces w h a g = gives_step paid (ended_on at k) k' step t d (Ends at) 0 pieces closing (record { base = rests.base; sent = rests.sent; fin = rests.fin; hole = hole }) refl g
  where
    rests : RestsFor paid k d pieces
    rests = rests_of paid k d pieces w h

    closing : Closing paid t (kind_of k.mode) d (Ends at) 0 (ended_on at k).lane (ended_on at k).frags Rattle.streamdefs.specs.Direction.no_counts pieces
    closing = end_entry paid t (kind_of k.mode) d at k.lane k.frags pieces rests.meets a rests.lane

    hole : hole_after at d.hole d.view (view_after t (kind_of k.mode) d (Ends at)) ≡ None
    hole = ap (λ ps. hole_after at d.hole d.view (record (view_after t (kind_of k.mode) d (Ends at)) { held = ps })) (closing.held ∙ ap (spread paid) (pass_all k.lane.front k.frags))
