-- A segment goes on.
use Rattle.convo.specs.Directions.{DirStands, dir_kind}
use Rattle.std.proofs.Common.{◌≡◌, sym, ◌∙◌, ap, subst, ℕ, suc, Bool, List, [], ◌∷◌, ◌++◌, length, length-append, Option, arith}
use Rattle.convo.specs.declared.convo_set.ConvoSet.{ConvoSet}
use Rattle.evring.specs.declared.way.Way.{Way}
use Rattle.histbook.specs.declared.look_entry.LookEntry.{LookEntry}
use Rattle.prio_budget.specs.declared.free.Free.{Free}
use Rattle.streamdefs.specs.Both.{of_way}
use Rattle.streamdefs.specs.Terms.{Terms}
use Rattle.streamdefs.specs.Packet.{Packet as Accepted, has_rst}
use Rattle.streamdefs.specs.Reorder.{Charge}
use Rattle.streamdefs.specs.View.{Ask as Request}
use Rattle.streamdefs.specs.Pending.{Piece}
use Rattle.streamdefs.specs.Direction.{Direction, Deed, next_by, with_one_look}
use Rattle.streamdefs.specs.Direction.Deed.{Arrives}
use Rattle.streamdefs.specs.Direction.Next.{Asks, Gives}
use Rattle.streamdefs.specs.Convo.{Act, kind_of, way_of, segment_of}
use Rattle.streamdefs.specs.Convo.Act.{Seg}
use Rattle.streamdefs.specs.Want.{want, with_look, with_free}
use Rattle.streamdefs.specs.Want.Want.{Reserve, Release}
use Rattle.flowdir.specs.Boundary.{IsStep, IsLookOf}
use Rattle.flowdir.specs.Boundary.Phase.{Works}
use Rattle.convo.specs.Talk.{Talk, IsWantOf}
use Rattle.convo.specs.Talk.Phase.{Under}
use Rattle.convo.specs.Standing.{IsMidway, half_of, with_dir}
use Rattle.convo.specs.Stands.{Stands}
use Rattle.convo.specs.declared.talk.Convo.{Convo}
use Rattle.convo.specs.declared.stage.Stage.TheVariants as at
use Rattle.convo.specs.declared.want.Want.{Want}
use Rattle.flowdir.specs.declared.step.Step.{Step}
use Rattle.convo.proofs.DefSteps.{seg_move, want_reserve, want_release}
use Rattle.convo.proofs.Dirs.{kind_at, midway_on}
use Rattle.convo.proofs.Found.{FoundSegment, found_segment}

module _ {C : Type 0} (paid : C → Charge) (t : Terms) where
  -- what a segment's direction wants
  next_here : (x : Convo C) (k : Talk) (way : Way) (p : Accepted) (now : ℕ) (looks : List LookEntry) (frees : List Free) → way ≡ way_of k.convo p → IsMidway paid t x k way
      → next_by t (dir_kind (half_of way x).dir) (of_way way k.convo.directions) (Arrives (segment_of t k.convo p now) looks) (length frees)
      ≡ next_by t (kind_of t k.convo) (of_way (way_of k.convo p) k.convo.directions) (Arrives (segment_of t k.convo p now) looks) (length frees)
  next_here x k way p now looks frees w m =
      ap (λ kd. next_by t kd (of_way way k.convo.directions) (Arrives (segment_of t k.convo p now) looks) (length frees)) (kind_at paid t k way x m.kinds)
      ∙ ap (λ way. next_by t (kind_of t k.convo) (of_way way k.convo.directions) (Arrives (segment_of t k.convo p now) looks) (length frees)) w

  pub told_at : (x x1 y : Convo C) (k : Talk) (act : Act) (emitted : ℕ) (look : LookEntry) (request : Request) (mark : ℕ) (way : Way) (now : ℕ) (reset : Bool) (granted : Option C) (step : Step C) (out : Want C) (set : ConvoSet)
      → Stands paid x t k (Under act emitted) → x.stage ≡ at.Segment way now reset → want t k.convo act emitted ≡ Reserve request mark → IsLookOf paid granted look
      → x1 ≡ with_dir way (half_of way x1).dir x → dir_kind (half_of way x1).dir ≡ dir_kind (half_of way x).dir
      → ((d : Direction) (deed : Deed) (given : ℕ) (pieces : List Piece) → DirStands paid (half_of way x).dir d (Works t deed given) pieces → next_by t (dir_kind (half_of way x).dir) d deed given ≡ Asks request
      → IsLookOf paid granted look → IsStep paid (DirStands paid (half_of way x1).dir) t (dir_kind (half_of way x).dir) d (with_one_look look deed) given pieces step)
      → ((p : Accepted) (looks : List LookEntry) (frees : List Free) → IsMidway paid t x1 k way → way ≡ way_of k.convo p → reset ≡ has_rst p
      → IsStep paid (DirStands paid (half_of way x1).dir) t (kind_of t k.convo) (of_way way k.convo.directions) (Arrives (segment_of t k.convo p now) looks) (length frees) [] step
      → IsWantOf paid (Stands paid y t) t k (Seg p now looks frees) 0 out)
      → IsWantOf paid (Stands paid y t) t k (with_look look act) emitted out
  told_at x x1 y k act emitted look request mark way now reset granted step out set st stage wants looked same kind_is steps goes =
      let f : FoundSegment paid t x k act emitted way now reset = found_segment paid t x k act emitted way now reset st stage in
      let asks = next_here x k way f.p now f.looks f.frees f.way_is f.midway ∙ sym (seg_move t k.convo f.p now f.looks f.frees)
      ∙ want_reserve t k.convo (Seg f.p now f.looks f.frees) emitted request mark (ap (λ act. want t k.convo act emitted) (sym f.act_is) ∙ wants) in
      let h = steps (of_way way k.convo.directions) (Arrives (segment_of t k.convo f.p now) f.looks) (length f.frees) [] f.here asks looked in
      let h2 = subst (λ kd. IsStep paid (DirStands paid (half_of way x1).dir) t kd (of_way way k.convo.directions) (Arrives (segment_of t k.convo f.p now) (f.looks ++ look ∷ [])) (length f.frees) [] step) (kind_at paid t k way x f.midway.kinds) h in
      let mid = subst (λ x. IsMidway paid t x k way) (sym same) (midway_on paid t k way x (half_of way x1).dir f.midway kind_is) in
      subst (λ e. IsWantOf paid (Stands paid y t) t k (with_look look act) e out) (sym f.first)
      (subst (λ act. IsWantOf paid (Stands paid y t) t k (with_look look act) 0 out) (sym f.act_is)
      (goes f.p (f.looks ++ look ∷ []) f.frees mid f.way_is f.reset_is h2))

  pub freed_at : (x x1 y : Convo C) (k : Talk) (act : Act) (emitted : ℕ) (free : Free) (charge : Charge) (way : Way) (now : ℕ) (reset : Bool) (step : Step C) (out : Want C)
      → Stands paid x t k (Under act emitted) → x.stage ≡ at.Segment way now reset → want t k.convo act emitted ≡ Release charge
      → x1 ≡ with_dir way (half_of way x1).dir x → dir_kind (half_of way x1).dir ≡ dir_kind (half_of way x).dir
      → ((d : Direction) (deed : Deed) (given : ℕ) (pieces : List Piece) → DirStands paid (half_of way x).dir d (Works t deed given) pieces → next_by t (dir_kind (half_of way x).dir) d deed given ≡ Gives charge
      → IsStep paid (DirStands paid (half_of way x1).dir) t (dir_kind (half_of way x).dir) d deed (suc given) pieces step)
      → ((p : Accepted) (looks : List LookEntry) (frees : List Free) → IsMidway paid t x1 k way → way ≡ way_of k.convo p → reset ≡ has_rst p
      → IsStep paid (DirStands paid (half_of way x1).dir) t (kind_of t k.convo) (of_way way k.convo.directions) (Arrives (segment_of t k.convo p now) looks) (length frees) [] step
      → IsWantOf paid (Stands paid y t) t k (Seg p now looks frees) 0 out)
      → IsWantOf paid (Stands paid y t) t k (with_free free act) emitted out
  freed_at x x1 y k act emitted free charge way now reset step out st stage wants same kind_is steps goes =
      let f : FoundSegment paid t x k act emitted way now reset = found_segment paid t x k act emitted way now reset st stage in
      let gives = next_here x k way f.p now f.looks f.frees f.way_is f.midway ∙ sym (seg_move t k.convo f.p now f.looks f.frees)
      ∙ want_release t k.convo (Seg f.p now f.looks f.frees) emitted charge (ap (λ act. want t k.convo act emitted) (sym f.act_is) ∙ wants) in
      let h = steps (of_way way k.convo.directions) (Arrives (segment_of t k.convo f.p now) f.looks) (length f.frees) [] f.here gives in
      let h2 = subst (λ kd. IsStep paid (DirStands paid (half_of way x1).dir) t kd (of_way way k.convo.directions) (Arrives (segment_of t k.convo f.p now) f.looks) (suc (length f.frees)) [] step) (kind_at paid t k way x f.midway.kinds) h in
      let one_more : suc (length f.frees) ≡ length (f.frees ++ free ∷ []) = omega (arith, length-append f.frees (free ∷ [])) in
      let h3 = subst (λ n. IsStep paid (DirStands paid (half_of way x1).dir) t (kind_of t k.convo) (of_way way k.convo.directions) (Arrives (segment_of t k.convo f.p now) f.looks) n [] step) one_more h2 in
      let mid = subst (λ x. IsMidway paid t x k way) (sym same) (midway_on paid t k way x (half_of way x1).dir f.midway kind_is) in
      subst (λ e. IsWantOf paid (Stands paid y t) t k (with_free free act) e out) (sym f.first)
      (subst (λ act. IsWantOf paid (Stands paid y t) t k (with_free free act) 0 out) (sym f.act_is)
      (goes f.p f.looks (f.frees ++ free ∷ []) mid f.way_is f.reset_is h3))
