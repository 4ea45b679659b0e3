-- A direction of a conversation is at work, and what is kept beside it stays.
use Rattle.convo.specs.Directions.{DirStands, dir_kind}
use Rattle.flowdir.specs.Kept.{Kept as DirKept}
use Rattle.std.proofs.Common.{◌≡◌, sym, ◌∙◌, ap, ℕ, Bool, not, cond, [], Option, is_none}
use Rattle.std.specs.Prelude.{◌&&◌}
use Rattle.convo.specs.declared.convo_set.ConvoSet.{ConvoSet}
use Rattle.evring.specs.declared.way.Way.{Way}
use Rattle.evring.specs.declared.way.Way.TheVariants.{Fore, Back}
use Rattle.streamdefs.specs.Both.{of_way}
use Rattle.streamdefs.specs.Terms.{Terms}
use Rattle.streamdefs.specs.Packet.{Packet as Accepted, has_rst, has_syn, has_fin, same_toward}
use Rattle.streamdefs.specs.Reorder.{Charge}
use Rattle.streamdefs.specs.Direction.{Segment}
use Rattle.streamdefs.specs.Convo.{Convo as Made, kind_of, way_of, segment_of, cutoff_in_force}
use Rattle.flowdir.specs.Boundary.Phase.{Rests as DirRests}
use Rattle.convo.specs.Talk.{Talk, SetsUp}
use Rattle.convo.specs.Standing.{HasOrigin, IsSoon, IsResting, IsMidway, HasKind, arrival, half_of, own_of, with_dir, way_by}
use Rattle.convo.specs.declared.talk.Convo.{Convo}
use Rattle.convo.specs.declared.origin.Origin.{Origin}
use Rattle.convo.specs.declared.stage.Stage.{Stage}
use Rattle.convo.proofs.OwedSteps.{cutoff_is}

pub way_is : (t : Terms) (origin : Origin) (c : Made) (p : Accepted) → HasOrigin t origin c.first → way_by origin.toward p.toward ≡ way_of c p
way_is t origin c p f = ap (λ toward. cond (same_toward toward p.toward) Fore Back) (sym f.toward)

pub arrival_is : {C : Type 0} (t : Terms) (set : ConvoSet) (x : Convo C) (c : Made) (p : Accepted) (way : Way) → SetsUp set t → HasOrigin t x.origin c.first → c.own ≡ own_of x → c.ended ≡ x.ended → way ≡ way_of c p
    → arrival x set way p ≡ segment_of t c p p.now
arrival_is t set x c p way s f o e w =
    let made : Option ℕ → Bool → Segment = λ cutoff live. record { seq = p.seq; syn = has_syn p; fin = has_fin p; declared = p.declared; payload = p.payload; moment = p.now; cutoff = cutoff; live = live } in
    ap (λ cutoff. made cutoff (is_none x.ended && not (has_rst p))) (sym (cutoff_is t set x.origin (own_of x) c way s f o))
    ∙ ap (λ ended. made (cutoff_in_force t c way) (is_none ended && not (has_rst p))) (sym e)
    ∙ ap (λ way. made (cutoff_in_force t c way) (is_none c.ended && not (has_rst p))) w

module _ {C : Type 0} (paid : C → Charge) (t : Terms) where
  pub rests_at : (k : Talk) (w : Way) (x : Convo C) (stage : Stage) → IsResting paid t x k → DirStands paid (half_of w (record x { stage = stage })).dir (of_way w k.convo.directions) DirRests []
  rests_at k Fore x stage r = r.fore
  rests_at k Back x stage r = r.back

  pub kind_with : (k : Talk) (w : Way) (x : Convo C) (stage : Stage) → HasKind (kind_of t k.convo) x.fore.dir x.back.dir → dir_kind (half_of w (record x { stage = stage })).dir ≡ kind_of t k.convo
  kind_with k Fore x stage h = h.fore_is
  kind_with k Back x stage h = h.back_is

  pub kind_at : (k : Talk) (w : Way) (x : Convo C) → HasKind (kind_of t k.convo) x.fore.dir x.back.dir → dir_kind (half_of w x).dir ≡ kind_of t k.convo
  kind_at k Fore x h = h.fore_is
  kind_at k Back x h = h.back_is

  -- a direction begins to work
  pub midway_of : (k : Talk) (w : Way) (x : Convo C) (dir : DirKept C) (stage : Stage) → IsSoon stage → IsResting paid t x k → dir_kind dir ≡ dir_kind (half_of w (record x { stage = stage })).dir
      → IsMidway paid t (with_dir w dir (record x { stage = stage })) k w
  midway_of k Fore x dir stage n r e = record {
    quiet = record { plain = r.quiet.plain; kept = r.quiet.kept; begun = r.quiet.begun; opens = r.quiet.opens; over = r.quiet.over; fore_first = r.quiet.fore_first; back_first = r.quiet.back_first; gone = r.quiet.gone; fore_sums = r.quiet.fore_sums; back_sums = r.quiet.back_sums };
    kinds = record { fore_is = e ∙ r.kinds.fore_is; back_is = r.kinds.back_is };
    there = r.back;
    soon = n;
  }
  midway_of k Back x dir stage n r e = record {
    quiet = record { plain = r.quiet.plain; kept = r.quiet.kept; begun = r.quiet.begun; opens = r.quiet.opens; over = r.quiet.over; fore_first = r.quiet.fore_first; back_first = r.quiet.back_first; gone = r.quiet.gone; fore_sums = r.quiet.fore_sums; back_sums = r.quiet.back_sums };
    kinds = record { fore_is = r.kinds.fore_is; back_is = e ∙ r.kinds.back_is };
    there = r.fore;
    soon = n;
  }

  -- it goes on
  pub midway_on : (k : Talk) (w : Way) (x : Convo C) (dir : DirKept C) → IsMidway paid t x k w → dir_kind dir ≡ dir_kind (half_of w x).dir → IsMidway paid t (with_dir w dir x) k w
  midway_on k Fore x dir m e = record {
    quiet = record { plain = m.quiet.plain; kept = m.quiet.kept; begun = m.quiet.begun; opens = m.quiet.opens; over = m.quiet.over; fore_first = m.quiet.fore_first; back_first = m.quiet.back_first; gone = m.quiet.gone; fore_sums = m.quiet.fore_sums; back_sums = m.quiet.back_sums };
    kinds = record { fore_is = e ∙ m.kinds.fore_is; back_is = m.kinds.back_is };
    there = m.there;
    soon = m.soon;
  }
  midway_on k Back x dir m e = record {
    quiet = record { plain = m.quiet.plain; kept = m.quiet.kept; begun = m.quiet.begun; opens = m.quiet.opens; over = m.quiet.over; fore_first = m.quiet.fore_first; back_first = m.quiet.back_first; gone = m.quiet.gone; fore_sums = m.quiet.fore_sums; back_sums = m.quiet.back_sums };
    kinds = record { fore_is = m.kinds.fore_is; back_is = e ∙ m.kinds.back_is };
    there = m.there;
    soon = m.soon;
  }
