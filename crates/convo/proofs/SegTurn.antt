-- What a segment's step makes of its entry.
use Rattle.convo.specs.Directions.{DirStands}
use Rattle.std.specs.Prelude.{◌^◌}
use Rattle.std.proofs.Common.{◌≡◌, refl, sym, ◌∙◌, ap, subst, ℕ, Bool, List, [], length, Option, is_none, unwrap_or, inl, ◌≤◌}
use Rattle.prio_budget.specs.Marks.{mark_of}
use Rattle.convo.specs.declared.convo_set.ConvoSet.{ConvoSet}
use Rattle.evring.specs.declared.way.Way.{Way}
use Rattle.evring.specs.declared.way.Way.TheVariants.{Fore, Back}
use Rattle.evring.specs.declared.reason.Reason.{Reason}
use Rattle.histbook.specs.declared.look_entry.LookEntry.{LookEntry}
use Rattle.prio_budget.specs.declared.free.Free.{Free}
use Rattle.streamdefs.specs.Both.{of_way, with_way}
use Rattle.streamdefs.specs.Terms.{Terms}
use Rattle.streamdefs.specs.Packet.{Packet as Accepted, has_rst}
use Rattle.streamdefs.specs.Reorder.{Charge}
use Rattle.streamdefs.specs.Pending.{Piece}
use Rattle.streamdefs.specs.Direction.{Direction, direction_after, pieces_by}
use Rattle.streamdefs.specs.Direction.Deed.{Arrives}
use Rattle.streamdefs.specs.Convo.{Act, Event as EventMade, kind_of, way_of, segment_of, is_live, after, events_in, ending}
use Rattle.streamdefs.specs.Convo.Act.{Seg}
use Rattle.streamdefs.specs.Want.{want}
use Rattle.flowdir.specs.Boundary.{IsStep}
use Rattle.flowdir.specs.Boundary.Phase.{Rests as DirRests}
use Rattle.convo.specs.Seen.{IsWant}
use Rattle.convo.specs.Talk.{Talk, IsWantOf, SetsUp, talk_after}
use Rattle.convo.specs.Standing.{IsSoon, HandsOver, HasOrigin, IsResting, IsLeft, IsMidway, closing_by, counts_with, done_of, finished_segment, half_of, own_of, owed_by_segment, with_counts}
use Rattle.convo.specs.Stands.{IsMoving, Stands}
use Rattle.convo.specs.declared.talk.Convo.{Convo}
use Rattle.convo.specs.declared.stage.Stage.TheVariants as at
use Rattle.flowdir.specs.declared.counts.Counts.{Counts}
use Rattle.convo.specs.declared.want.Want.{Want}
use Rattle.convo.specs.declared.want.Want.TheVariants.{Ask, Free as FreeWant}
use Rattle.flowdir.specs.declared.step.Step.TheVariants.{Ask as AskStep, Free as FreeStep, Done as DoneStep}
use Rattle.convo.proofs.DefSteps.{seg_move, want_asks, want_gives}
use Rattle.convo.proofs.OwedSteps.{closing_is, mark_is}
use Rattle.convo.proofs.SegSteps.{seg_left}
use Rattle.convo.proofs.SumSteps.{sums_seg_is}
use Rattle.convo.proofs.TurnSteps.{hands_turn}

-- the End that is due behind a segment
owed_is : {C : Type 0} (t : Terms) (set : ConvoSet) (x : Convo C) (k : Talk) (p : Accepted) (now : ℕ) (looks : List LookEntry) (frees : List Free) → SetsUp set t → HasOrigin t x.origin k.convo.first
    → k.convo.own ≡ own_of x → k.convo.ended ≡ x.ended
    → ending t k.convo (Seg p now looks frees) ≡ owed_by_segment (is_none x.ended) (has_rst p) now
    (closing_by (done_of x set Fore (after t k.convo (Seg p now looks frees)).directions.fore) (done_of x set Back (after t k.convo (Seg p now looks frees)).directions.back) now)
owed_is t set x k p now looks frees s f o e =
    ap (λ closed. owed_by_segment (is_live k.convo) (has_rst p) now closed) (closing_is t set x (after t k.convo (Seg p now looks frees)) now s f o)
    ∙ ap (λ ended. owed_by_segment (is_none ended) (has_rst p) now (closing_by (done_of x set Fore (after t k.convo (Seg p now looks frees)).directions.fore) (done_of x set Back (after t k.convo (Seg p now looks frees)).directions.back) now)) e

-- the End that is due behind a segment's moves
abbrev IsOwed : {C : Type 0} → (C → Charge) → Convo C → ConvoSet → Bool → ℕ → Option (Reason × ℕ) → Type 0
IsOwed paid x set reset now owed =
    (fore back : Direction) (a b : List Piece) → DirStands paid x.fore.dir fore DirRests a → DirStands paid x.back.dir back DirRests b
    → owed ≡ owed_by_segment (is_none x.ended) reset now (closing_by (done_of x set Fore fore) (done_of x set Back back) now)

module _ {C : Type 0} (paid : C → Charge) (t : Terms) where
  -- an ask, or a release
  seg_asks : (k : Talk) (x : Convo C) (set : ConvoSet) (p : Accepted) (now : ℕ) (looks : List LookEntry) (frees : List Free) (bytes : ℕ) → SetsUp set t → IsMidway paid t x k (way_of k.convo p)
      → x.stage ≡ at.Segment (way_of k.convo p) now (has_rst p)
      → IsStep paid (DirStands paid (half_of (way_of k.convo p) x).dir) t (kind_of t k.convo) (of_way (way_of k.convo p) k.convo.directions) (Arrives (segment_of t k.convo p now) looks) (length frees) [] (AskStep bytes)
      → IsWantOf paid (Stands paid x t) t k (Seg p now looks frees) 0 (Ask bytes (mark_of set.marks (unwrap_or x.advised x.origin.priority)))
  seg_asks k x set p now looks frees bytes s m st h =
      let upto : ℕ = mark_of set.marks (unwrap_or x.advised x.origin.priority) in (
        subst (λ wanted. IsWant paid k.convo.first wanted (Ask bytes upto)) (sym (want_asks t k.convo (Seg p now looks frees) 0 h.0.0 (seg_move t k.convo p now looks frees ∙ h.0.1)))
            (sym h.0.2, mark_is t set k x.origin (own_of x) x.advised x.clock x.ended x.owed h.0.0 s m.quiet.plain),
        inl (subst (λ n. IsMoving n) (sym (seg_move t k.convo p now looks frees ∙ h.0.1)) tt, refl, (m, h.1, st)),
      )

  seg_gives : (k : Talk) (x : Convo C) (p : Accepted) (now : ℕ) (looks : List LookEntry) (frees : List Free) (charge : C) → IsMidway paid t x k (way_of k.convo p)
      → x.stage ≡ at.Segment (way_of k.convo p) now (has_rst p)
      → IsStep paid (DirStands paid (half_of (way_of k.convo p) x).dir) t (kind_of t k.convo) (of_way (way_of k.convo p) k.convo.directions) (Arrives (segment_of t k.convo p now) looks) (length frees) [] (FreeStep charge)
      → IsWantOf paid (Stands paid x t) t k (Seg p now looks frees) 0 (FreeWant charge)
  seg_gives k x p now looks frees charge m st h = (
    subst (λ wanted. IsWant paid k.convo.first wanted (FreeWant charge)) (sym (want_gives t k.convo (Seg p now looks frees) 0 (paid charge) (seg_move t k.convo p now looks frees ∙ h.0))) refl,
    inl (subst (λ n. IsMoving n) (sym (seg_move t k.convo p now looks frees ∙ h.0)) tt, refl, (m, h.1, st)),
  )

  -- both directions rest behind a segment's moves
  rests_fore : (k : Talk) (w : Way) (x : Convo C) (d : Direction) (pieces : List Piece) → IsMidway paid t x k w → DirStands paid (half_of w x).dir d DirRests pieces
      → (a : List Piece) × DirStands paid x.fore.dir (with_way w d k.convo.directions).fore DirRests a
  rests_fore k Fore x d pieces m here = (pieces, here)
  rests_fore k Back x d pieces m here = ([], m.there)

  rests_back : (k : Talk) (w : Way) (x : Convo C) (d : Direction) (pieces : List Piece) → IsMidway paid t x k w → DirStands paid (half_of w x).dir d DirRests pieces
      → (a : List Piece) × DirStands paid x.back.dir (with_way w d k.convo.directions).back DirRests a
  rests_back k Fore x d pieces m here = ([], m.there)
  rests_back k Back x d pieces m here = (pieces, here)

  -- its moves are made, and the first event goes out
  seg_done : (k : Talk) (x y : Convo C) (set : ConvoSet) (p : Accepted) (now : ℕ) (looks : List LookEntry) (frees : List Free) (counts : Counts) (owed : Option (Reason × ℕ)) (want : Want C) → SetsUp set t
      → now ≤ 2 ^ 62 → IsMidway paid t x k (way_of k.convo p)
      → IsStep paid (DirStands paid (half_of (way_of k.convo p) x).dir) t (kind_of t k.convo) (of_way (way_of k.convo p) k.convo.directions) (Arrives (segment_of t k.convo p now) looks) (length frees) [] (DoneStep counts)
      → ((fore back : Direction) (a b : List Piece) → DirStands paid x.fore.dir fore DirRests a → DirStands paid x.back.dir back DirRests b
      → owed ≡ owed_by_segment (is_none x.ended) (has_rst p) now (closing_by (done_of x set Fore fore) (done_of x set Back back) now))
      → ((k' : Talk) (events : List EventMade) → IsLeft paid t (finished_segment owed now (with_counts (way_of k.convo p) (counts_with (half_of (way_of k.convo p) x).counts counts) x)) k' events → HandsOver paid k'.convo.first (IsResting paid t y k') (IsLeft paid t y k') events want)
      → IsWantOf paid (Stands paid y t) t k (Seg p now looks frees) 0 want
  seg_done k x y set p now looks frees counts owed want s soon m h o hand =
      let act : Act = Seg p now looks frees in
      let d : Direction = direction_after t (kind_of t k.convo) (of_way (way_of k.convo p) k.convo.directions) (Arrives (segment_of t k.convo p now) looks) in
      let pieces : List Piece = pieces_by t (kind_of t k.convo) (of_way (way_of k.convo p) k.convo.directions) (Arrives (segment_of t k.convo p now) looks) in
      let a = rests_fore k (way_of k.convo p) x d pieces m h.2 in
      let b = rests_back k (way_of k.convo p) x d pieces m h.2 in
      let due = owed_is t set x k p now looks frees s m.quiet.plain.origin_is m.quiet.plain.own_is m.quiet.plain.ended_is
      ∙ sym (o (with_way (way_of k.convo p) d k.convo.directions).fore (with_way (way_of k.convo p) d k.convo.directions).back a.0 b.0 a.1 b.1) in
      let left = seg_left paid t k x (way_of k.convo p) (segment_of t k.convo p now) now looks counts owed (ending t k.convo act) (talk_after t k act).sums soon m h.2 h.1
      (sums_seg_is t k.convo p now looks frees Fore k.sums.fore) (sums_seg_is t k.convo p now looks frees Back k.sums.back) due in
      hands_turn paid t k y act 0 k.convo.first want refl (seg_move t k.convo p now looks frees ∙ h.0) (hand (talk_after t k act) (events_in t k.convo act) left)

  -- the same, where way and reset are known by an equation
  pub asks_at : (k : Talk) (x : Convo C) (set : ConvoSet) (way : Way) (reset : Bool) (p : Accepted) (now : ℕ) (looks : List LookEntry) (frees : List Free) (bytes : ℕ) → x.stage ≡ at.Segment way now reset
      → SetsUp set t → IsMidway paid t x k way → way ≡ way_of k.convo p → reset ≡ has_rst p
      → IsStep paid (DirStands paid (half_of way x).dir) t (kind_of t k.convo) (of_way way k.convo.directions) (Arrives (segment_of t k.convo p now) looks) (length frees) [] (AskStep bytes)
      → IsWantOf paid (Stands paid x t) t k (Seg p now looks frees) 0 (Ask bytes (mark_of set.marks (unwrap_or x.advised x.origin.priority)))
  asks_at k x set way reset p now looks frees bytes st s m w r h =
      seg_asks k x set p now looks frees bytes s (subst (λ w. IsMidway paid t x k w) w m) (st ∙ ap (λ w. at.Segment w now reset) w ∙ ap (λ r. at.Segment (way_of k.convo p) now r) r)
      (subst (λ w. IsStep paid (DirStands paid (half_of w x).dir) t (kind_of t k.convo) (of_way w k.convo.directions) (Arrives (segment_of t k.convo p now) looks) (length frees) [] (AskStep bytes)) w h)

  pub gives_at : (k : Talk) (x : Convo C) (way : Way) (reset : Bool) (p : Accepted) (now : ℕ) (looks : List LookEntry) (frees : List Free) (charge : C) → x.stage ≡ at.Segment way now reset
      → IsMidway paid t x k way → way ≡ way_of k.convo p → reset ≡ has_rst p
      → IsStep paid (DirStands paid (half_of way x).dir) t (kind_of t k.convo) (of_way way k.convo.directions) (Arrives (segment_of t k.convo p now) looks) (length frees) [] (FreeStep charge)
      → IsWantOf paid (Stands paid x t) t k (Seg p now looks frees) 0 (FreeWant charge)
  gives_at k x way reset p now looks frees charge st m w r h =
      seg_gives k x p now looks frees charge (subst (λ w. IsMidway paid t x k w) w m) (st ∙ ap (λ w. at.Segment w now reset) w ∙ ap (λ r. at.Segment (way_of k.convo p) now r) r)
      (subst (λ w. IsStep paid (DirStands paid (half_of w x).dir) t (kind_of t k.convo) (of_way w k.convo.directions) (Arrives (segment_of t k.convo p now) looks) (length frees) [] (FreeStep charge)) w h)

  -- counts make no difference to the End that is due
  owed_counts : (w : Way) (more : Counts) (x : Convo C) (set : ConvoSet) (reset : Bool) (now : ℕ) (owed : Option (Reason × ℕ)) → IsOwed paid (with_counts w more x) set reset now owed → IsOwed paid x set reset now owed
  owed_counts Fore more x set reset now owed o = o
  owed_counts Back more x set reset now owed o = o

  pub done_at : (k : Talk) (x x1 x2 y : Convo C) (set : ConvoSet) (way : Way) (reset : Bool) (p : Accepted) (now : ℕ) (looks : List LookEntry) (frees : List Free) (counts : Counts) (want : Want C)
      → x.stage ≡ at.Segment way now reset → SetsUp set t → IsMidway paid t x k way → way ≡ way_of k.convo p → reset ≡ has_rst p
      → IsStep paid (DirStands paid (half_of way x).dir) t (kind_of t k.convo) (of_way way k.convo.directions) (Arrives (segment_of t k.convo p now) looks) (length frees) [] (DoneStep counts)
      → x1 ≡ with_counts way (counts_with (half_of way x).counts counts) x → x2 ≡ finished_segment x2.owed now x1 → IsOwed paid x1 set reset now x2.owed
      → ((k' : Talk) (events : List EventMade) → IsLeft paid t x2 k' events → HandsOver paid k'.convo.first (IsResting paid t y k') (IsLeft paid t y k') events want)
      → IsWantOf paid (Stands paid y t) t k (Seg p now looks frees) 0 want
  done_at k x x1 x2 y set way reset p now looks frees counts want st s m w r h e1 e2 o hand =
      let o2 : IsOwed paid x set reset now x2.owed =
      owed_counts way (counts_with (half_of way x).counts counts) x set reset now x2.owed (subst (λ x. IsOwed paid x set reset now x2.owed) e1 o) in
      seg_done k x y set p now looks frees counts x2.owed want s (subst IsSoon st m.soon)
      (subst (λ w. IsMidway paid t x k w) w m)
      (subst (λ w. IsStep paid (DirStands paid (half_of w x).dir) t (kind_of t k.convo) (of_way w k.convo.directions) (Arrives (segment_of t k.convo p now) looks) (length frees) [] (DoneStep counts)) w h)
      (λ fore back a b sf sb. o2 fore back a b sf sb ∙ ap (λ r. owed_by_segment (is_none x.ended) r now (closing_by (done_of x set Fore fore) (done_of x set Back back) now)) r)
      (λ k' events left. hand k' events (subst (λ x. IsLeft paid t x k' events) (sym e2)
      (subst (λ x. IsLeft paid t (finished_segment x2.owed now x) k' events) (sym e1)
      (subst (λ w. IsLeft paid t (finished_segment x2.owed now (with_counts w (counts_with (half_of w x).counts counts) x)) k' events) (sym w) left))))
