-- What is under way, by how far it has come.
use Rattle.convo.specs.Directions.{DirStands}
use Rattle.std.proofs.Common.{◌≡◌, refl, sym, ◌∙◌, ap, subst, ℕ, suc, ◌+◌, Bool, List, [], length, inl, inr}
use Rattle.std.specs.Prelude.{⊤, ◌<◌}
use Rattle.evring.specs.declared.way.Way.{Way}
use Rattle.evring.specs.declared.way.Way.TheVariants.{Fore, Back}
use Rattle.evring.specs.declared.reason.Reason.{Reason}
use Rattle.histbook.specs.declared.look_entry.LookEntry.{LookEntry}
use Rattle.prio_budget.specs.declared.free.Free.{Free}
use Rattle.streamdefs.specs.Both.{of_way}
use Rattle.streamdefs.specs.Terms.{Terms}
use Rattle.streamdefs.specs.Packet.{Packet as Accepted, has_rst}
use Rattle.streamdefs.specs.Reorder.{Charge}
use Rattle.streamdefs.specs.Direction.Deed.{Arrives}
use Rattle.streamdefs.specs.Convo.{Act, way_of, segment_of}
use Rattle.streamdefs.specs.Convo.Act.{Seg, Answer, Time, End}
use Rattle.flowdir.specs.Boundary.Phase.{Works}
use Rattle.convo.specs.Talk.{Talk}
use Rattle.convo.specs.Talk.Phase.{Under}
use Rattle.convo.specs.Standing.{IsMidway, half_of}
use Rattle.convo.specs.Stands.{Stands}
use Rattle.convo.specs.Timings.{IsTiming}
use Rattle.convo.specs.Timings.IsTiming.{Times_fore, Times_back}
use Rattle.convo.specs.Endings.{IsEnding, EndsFore, LeavesFore, EndsBack, LeavesBack, spares_fore, spares_back, unshown_fore, unshown_back}
use Rattle.convo.specs.declared.moment.Moment.{Moment}
use Rattle.convo.specs.Endings.IsEnding.{Ends_fore, Leaves_fore, Ends_back, Leaves_back}
use Rattle.convo.specs.declared.talk.Convo.{Convo}
use Rattle.convo.specs.declared.stage.Stage.{Stage}
use Rattle.convo.specs.declared.stage.Stage.TheVariants as at

-- a segment that is under way
pub record FoundSegment {C : Type 0} (paid : C → Charge) (t : Terms) (x : Convo C) (k : Talk) (act : Act) (emitted : ℕ) (way : Way) (now : ℕ) (reset : Bool) : Type 0 where
  pub p : Accepted
  pub looks : List LookEntry
  pub frees : List Free
  pub act_is : act ≡ Seg p now looks frees
  pub first : emitted ≡ 0
  pub way_is : way ≡ way_of k.convo p
  pub reset_is : reset ≡ has_rst p
  pub midway : IsMidway paid t x k way
  pub here : DirStands paid (half_of way x).dir (of_way way k.convo.directions) (Works t (Arrives (segment_of t k.convo p now) looks) (length frees)) []

-- the parts of equal stages of a segment
pub record SameSegment (way way2 : Way) (now now2 : ℕ) (reset reset2 : Bool) : Type 0 where
  pub way_is : way2 ≡ way
  pub now_is : now ≡ now2
  pub reset_is : reset2 ≡ reset

same_segment : (way way2 : Way) (now now2 : ℕ) (reset reset2 : Bool) → ◌≡◌ {A = Stage} (at.Segment way now reset) (at.Segment way2 now2 reset2) → SameSegment way way2 now now2 reset reset2
same_segment way way2 now now2 reset reset2 e = record { way_is = cc; now_is = cc; reset_is = cc }

module _ {C : Type 0} (paid : C → Charge) (t : Terms) where
  at_end : (m : ℕ) (reason : Reason) (given : ℕ) (way : Way) (now : ℕ) (reset : Bool) (x : Convo C) (k : Talk) → IsEnding paid t x k m reason given → x.stage ≡ at.Segment way now reset → ⊥
  at_end m reason given way now reset x k (Ends_fore moment a b c d) st = cc
  at_end m reason given way now reset x k (Leaves_fore moment more a b c d e) st = cc
  at_end m reason given way now reset x k (Ends_back moment more a b c d e) st = cc
  at_end m reason given way now reset x k (Leaves_back moment more a b c d e) st = cc

  at_time : (m : ℕ) (looks : List LookEntry) (given : ℕ) (way : Way) (now : ℕ) (reset : Bool) (x : Convo C) (k : Talk) → IsTiming paid t x k m looks given → x.stage ≡ at.Segment way now reset → ⊥
  at_time m looks given way now reset x k (Times_fore moment a b c d e f z) st = cc
  at_time m looks given way now reset x k (Times_back moment first more back a b c d e f) st = cc

  pub found_segment : (x : Convo C) (k : Talk) (act : Act) (emitted : ℕ) (way : Way) (now : ℕ) (reset : Bool) → Stands paid x t k (Under act emitted) → x.stage ≡ at.Segment way now reset
      → FoundSegment paid t x k act emitted way now reset
  found_segment x k (Seg p now2 looks frees) emitted way now reset (inl w) st =
      let same : SameSegment (way_of k.convo p) way now2 now (has_rst p) reset = same_segment (way_of k.convo p) way now2 now (has_rst p) reset (sym w.2.2 ∙ st) in
      record {
        p = p;
        looks = looks;
        frees = frees;
        act_is = ap (λ n. Seg p n looks frees) same.now_is;
        first = w.1;
        way_is = same.way_is;
        reset_is = same.reset_is;
        midway = subst (λ w. IsMidway paid t x k w) (sym same.way_is) w.2.0;
        here = subst (λ n. DirStands paid (half_of way x).dir (of_way way k.convo.directions) (Works t (Arrives (segment_of t k.convo p n) looks) (length frees)) []) same.now_is
            (subst (λ w. DirStands paid (half_of w x).dir (of_way w k.convo.directions) (Works t (Arrives (segment_of t k.convo p now2) looks) (length frees)) []) (sym same.way_is) w.2.1);
      }
  found_segment x k (Answer event advice frees) emitted way now reset (inl w) st = let e = w.2.stage in absurd (cc)
  found_segment x k (Time moment looks frees) emitted way now reset (inl w) st = absurd (at_time moment looks (length frees) way now reset x k w.2 st)
  found_segment x k (End moment reason looks frees) emitted way now reset (inl w) st = absurd (at_end moment reason (length frees) way now reset x k w.2 st)
  found_segment x k act emitted way now reset (inr w) st = let e = w.left.handing.stage in absurd (cc)

-- an End that is under way
pub record FoundEnd {C : Type 0} (paid : C → Charge) (t : Terms) (x : Convo C) (k : Talk) (act : Act) (emitted : ℕ) : Type 0 where
  pub m : ℕ
  pub reason : Reason
  pub looks : List LookEntry
  pub frees : List Free
  pub act_is : act ≡ End m reason looks frees
  pub first : emitted ≡ 0
  pub ending : IsEnding paid t x k m reason (length frees)

-- a stage of an End
abbrev pub IsEndStage : Stage → Type 0
IsEndStage (at.End moment reason way) = ⊤
IsEndStage (at.Unshown moment reason way) = ⊤
IsEndStage _ = ⊥

module _ {C : Type 0} (paid : C → Charge) (t : Terms) where
  not_end : (m : ℕ) (looks : List LookEntry) (given : ℕ) (x : Convo C) (k : Talk) → IsTiming paid t x k m looks given → IsEndStage x.stage → ⊥
  not_end m looks given x k (Times_fore moment a b c d e f z) st = subst IsEndStage b st
  not_end m looks given x k (Times_back moment first more back a b c d e f) st = subst IsEndStage b st

  pub found_end : (x : Convo C) (k : Talk) (act : Act) (emitted : ℕ) → Stands paid x t k (Under act emitted) → IsEndStage x.stage → FoundEnd paid t x k act emitted
  found_end x k (Seg p now looks frees) emitted (inl w) st = absurd (subst IsEndStage w.2.2 st)
  found_end x k (Answer event advice frees) emitted (inl w) st = absurd (subst IsEndStage w.2.stage st)
  found_end x k (Time moment looks frees) emitted (inl w) st = absurd (not_end moment looks (length frees) x k w.2 st)
  found_end x k (End m reason looks frees) emitted (inl w) st = record { m = m; reason = reason; looks = looks; frees = frees; act_is = refl; first = w.1; ending = w.2 }
  found_end x k act emitted (inr w) st = absurd (subst IsEndStage w.left.handing.stage st)

  same_end : (a b : Moment) (r s : Reason) (v w : Way) → ◌≡◌ {A = Stage} (at.End a r v) (at.End b s w) → (a ≡ b) × (r ≡ s) × (v ≡ w)
  same_end a b r s v w e = (cc, cc, cc)

  same_unshown : (a b : Moment) (r s : Reason) (v w : Way) → ◌≡◌ {A = Stage} (at.Unshown a r v) (at.Unshown b s w) → (a ≡ b) × (r ≡ s) × (v ≡ w)
  same_unshown a b r s v w e = (cc, cc, cc)

  pub ends_fore : (x : Convo C) (k : Talk) (m : ℕ) (reason why : Reason) (given : ℕ) (moment : Moment) → IsEnding paid t x k m reason given → x.stage ≡ at.End moment why Fore
      → (m ≡ moment.at) × (reason ≡ why) × (given < length (spares_fore t k.convo m)) × EndsFore paid t x k m given
  ends_fore x k m reason why given moment (Ends_fore moment2 e st few w) stage =
      let h = same_end moment2 moment reason why Fore Fore (sym st ∙ stage) in (sym e ∙ ap (λ m. m.at) h.0, h.1, few, w)
  ends_fore x k m reason why given moment (Leaves_fore moment2 more e st n few w) stage = absurd (cc)
  ends_fore x k m reason why given moment (Ends_back moment2 more e st n few w) stage = absurd (cc)
  ends_fore x k m reason why given moment (Leaves_back moment2 more e st n few w) stage = absurd (cc)

  pub leaves_fore : (x : Convo C) (k : Talk) (m : ℕ) (reason why : Reason) (given : ℕ) (moment : Moment) → IsEnding paid t x k m reason given → x.stage ≡ at.Unshown moment why Fore
      → (m ≡ moment.at) × (reason ≡ why)
      × ((more : ℕ) × (given ≡ length (spares_fore t k.convo m) + more) × (more < length (unshown_fore t k.convo m)) × LeavesFore paid t x k m (suc more))
  leaves_fore x k m reason why given moment (Ends_fore moment2 e st few w) stage = absurd (cc)
  leaves_fore x k m reason why given moment (Leaves_fore moment2 more e st n few w) stage =
      let h = same_unshown moment2 moment reason why Fore Fore (sym st ∙ stage) in (sym e ∙ ap (λ m. m.at) h.0, h.1, (more, n, few, w))
  leaves_fore x k m reason why given moment (Ends_back moment2 more e st n few w) stage = absurd (cc)
  leaves_fore x k m reason why given moment (Leaves_back moment2 more e st n few w) stage = absurd (cc)

  pub ends_back : (x : Convo C) (k : Talk) (m : ℕ) (reason why : Reason) (given : ℕ) (moment : Moment) → IsEnding paid t x k m reason given → x.stage ≡ at.End moment why Back
      → (m ≡ moment.at) × (reason ≡ why)
      × ((more : ℕ) × (given ≡ length (spares_fore t k.convo m) + length (unshown_fore t k.convo m) + more) × (more < length (spares_back t k.convo m)) × EndsBack paid t x k m more)
  ends_back x k m reason why given moment (Ends_fore moment2 e st few w) stage = absurd (cc)
  ends_back x k m reason why given moment (Leaves_fore moment2 more e st n few w) stage = absurd (cc)
  ends_back x k m reason why given moment (Ends_back moment2 more e st n few w) stage =
      let h = same_end moment2 moment reason why Back Back (sym st ∙ stage) in (sym e ∙ ap (λ m. m.at) h.0, h.1, (more, n, few, w))
  ends_back x k m reason why given moment (Leaves_back moment2 more e st n few w) stage = absurd (cc)

  pub leaves_back : (x : Convo C) (k : Talk) (m : ℕ) (reason why : Reason) (given : ℕ) (moment : Moment) → IsEnding paid t x k m reason given → x.stage ≡ at.Unshown moment why Back
      → (m ≡ moment.at) × (reason ≡ why)
      × ((more : ℕ) × (given ≡ length (spares_fore t k.convo m) + length (unshown_fore t k.convo m) + length (spares_back t k.convo m) + more) × (more < length (unshown_back t k.convo m))
      × LeavesBack paid t x k m (suc more))
  leaves_back x k m reason why given moment (Ends_fore moment2 e st few w) stage = absurd (cc)
  leaves_back x k m reason why given moment (Leaves_fore moment2 more e st n few w) stage = absurd (cc)
  leaves_back x k m reason why given moment (Ends_back moment2 more e st n few w) stage = absurd (cc)
  leaves_back x k m reason why given moment (Leaves_back moment2 more e st n few w) stage =
      let h = same_unshown moment2 moment reason why Back Back (sym st ∙ stage) in (sym e ∙ ap (λ m. m.at) h.0, h.1, (more, n, few, w))
