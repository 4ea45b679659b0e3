-- A segment's moves are made.
use Rattle.convo.specs.Directions.{DirStands}
use Rattle.std.proofs.Common.{◌≡◌, refl, sym, ◌∙◌, ap, subst, ℕ, Bool, true, false, not, cond, List, [], ◌∷◌, ◌++◌, map, Option, is_none}
use Rattle.std.specs.Prelude.{◌&&◌, ◌≤◌, ◌^◌}
use mathlib.Core.List.{append-nil}
use Rattle.evring.specs.declared.way.Way.{Way}
use Rattle.evring.specs.declared.way.Way.TheVariants.{Fore, Back}
use Rattle.evring.specs.declared.reason.Reason.{Reason}
use Rattle.histbook.specs.declared.look_entry.LookEntry.{LookEntry}
use Rattle.prio_budget.specs.declared.free.Free.{Free}
use Rattle.streamdefs.specs.Both.{Both, of_way, with_way}
use Rattle.streamdefs.specs.Lists.{is_empty}
use Rattle.streamdefs.specs.Terms.{Terms}
use Rattle.streamdefs.specs.Packet.{Packet as Accepted}
use Rattle.streamdefs.specs.Reorder.{Charge}
use Rattle.streamdefs.specs.Pending.{Piece}
use Rattle.streamdefs.specs.Direction.{Segment, counts_by, direction_after, pieces_by}
use Rattle.streamdefs.specs.Direction.Deed.{Arrives}
use Rattle.streamdefs.specs.Convo.{Convo as Made, Event as EventMade, kind_of, way_of, segment_of, carrying, is_live, after, events_in}
use Rattle.streamdefs.specs.Convo.Event.{New as NewMade, Chunk as ChunkMade}
use Rattle.streamdefs.specs.Convo.Act.{Seg}
use Rattle.flowdir.specs.Boundary.Phase.{Rests as DirRests}
use Rattle.flowdir.specs.Counting.{classes_of}
use Rattle.flowdir.specs.declared.counts.Counts.{Counts}
use Rattle.convo.specs.Seen.{kept_for}
use Rattle.convo.specs.Halves.{HandsBy}
use Rattle.convo.specs.Talk.{Talk, Sums}
use Rattle.convo.specs.Standing.{IsLeft, IsMidway, IsQuiet, counts_with, finished_segment, half_of, news, ends, with_counts}
use Rattle.convo.specs.declared.talk.Convo.{Convo}
use Rattle.convo.proofs.Settling.{settled_after}
use Rattle.convo.proofs.SumSteps.{counts_more, counts_on, gaps_only_back, gaps_only_fore, no_gaps_back, no_gaps_fore, sums_at, sums_seg}

-- the events of a segment of a direction
abbrev pub events_seg : Made → Way → List Piece → List EventMade
events_seg c w pieces = (cond (is_empty c.events) (NewMade ∷ []) [] ++ map ChunkMade (carrying w (of_way w c.kept) pieces ++ [])) ++ []

-- a conversation behind a segment of a direction
abbrev pub after_seg : Terms → Made → Way → Segment → ℕ → List LookEntry → Made
after_seg t c w s now looks =
    let pieces = pieces_by t (kind_of t c) (of_way w c.directions) (Arrives s looks) in
    record c {
      directions = with_way w (direction_after t (kind_of t c) (of_way w c.directions) (Arrives s looks)) c.directions;
      kept = cond (is_empty pieces) c.kept (with_way w [] c.kept);
      events = c.events ++ events_seg c w pieces;
      clock = cond (is_live c) now c.clock;
    }

pub after_seg_is : (t : Terms) (c : Made) (p : Accepted) (now : ℕ) (looks : List LookEntry) (frees : List Free)
    → after t c (Seg p now looks frees) ≡ after_seg t c (way_of c p) (segment_of t c p now) now looks
after_seg_is t c p now looks frees = refl

pub events_seg_is : (t : Terms) (c : Made) (p : Accepted) (now : ℕ) (looks : List LookEntry) (frees : List Free)
    → events_in t c (Seg p now looks frees) ≡ events_seg c (way_of c p) (pieces_by t (kind_of t c) (of_way (way_of c p) c.directions) (Arrives (segment_of t c p now) looks))
events_seg_is t c p now looks frees = refl

pub is_empty_append : {X : Type 0} (xs ys : List X) → is_empty (xs ++ ys) ≡ (is_empty xs && is_empty ys)
is_empty_append [] ys = refl
is_empty_append (x ∷ xs) ys = refl

kept_fore : {X : Type 0} (b : Bool) (kept : Both (List X)) → cond b kept (record { fore = []; back = kept.back }) ≡ record { fore = cond b kept.fore []; back = kept.back }
kept_fore true kept = refl
kept_fore false kept = refl

kept_back : {X : Type 0} (b : Bool) (kept : Both (List X)) → cond b kept (record { fore = kept.fore; back = [] }) ≡ record { fore = kept.fore; back = cond b kept.back [] }
kept_back true kept = refl
kept_back false kept = refl

in_line : (b : Bool) (xs : List EventMade) → (cond b (NewMade ∷ []) [] ++ xs) ++ [] ≡ news b ++ (xs ++ [])
in_line true xs = refl
in_line false xs = refl

early_by : (b : Bool) (m n : ℕ) → m ≤ 2 ^ 62 → n ≤ 2 ^ 62 → cond b m n ≤ 2 ^ 62
early_by true m n a b = a
early_by false m n a b = b

module _ {C : Type 0} (paid : C → Charge) (t : Terms) where
  pub seg_left : (k : Talk) (x : Convo C) (w : Way) (s : Segment) (now : ℕ) (looks : List LookEntry) (counts : Counts) (owed due : Option (Reason × ℕ)) (sums : Both Sums)
      → now ≤ 2 ^ 62 → IsMidway paid t x k w
      → DirStands paid (half_of w x).dir (direction_after t (kind_of t k.convo) (of_way w k.convo.directions) (Arrives s looks)) DirRests (pieces_by t (kind_of t k.convo) (of_way w k.convo.directions) (Arrives s looks))
      → classes_of counts ≡ counts_by (kind_of t k.convo) (of_way w k.convo.directions) (Arrives s looks)
      → sums.fore ≡ sums_seg t k.convo w s looks Fore k.sums.fore → sums.back ≡ sums_seg t k.convo w s looks Back k.sums.back
      → due ≡ owed
      → IsLeft paid t (finished_segment owed now (with_counts w (counts_with (half_of w x).counts counts) x)) (record { convo = after_seg t k.convo w s now looks; owed = due; sums = sums })
      (events_seg k.convo w (pieces_by t (kind_of t k.convo) (of_way w k.convo.directions) (Arrives s looks)))
  seg_left k x Fore s now looks counts owed due sums soon m here counted fs bs owed_is =
      let q : IsQuiet paid t x k = m.quiet in
      let d = direction_after t (kind_of t k.convo) k.convo.directions.fore (Arrives s looks) in
      let pieces : List Piece = pieces_by t (kind_of t k.convo) k.convo.directions.fore (Arrives s looks) in
      record {
        fore = pieces;
        back = [];
        handing = record {
          plain = record {
            origin_is = q.plain.origin_is;
            own_is = q.plain.own_is;
            advised_is = q.plain.advised_is;
            clock_is = ap (λ e. cond (is_none e) now k.convo.clock) q.plain.ended_is ∙ ap (λ n. cond (is_none x.ended) now n) q.plain.clock_is;
            ended_is = q.plain.ended_is;
            owed_is = owed_is;
            early = early_by (is_none x.ended) now x.clock soon q.plain.early;
            settled = record { fore = settled_after t (kind_of t k.convo) k.convo.directions.fore (Arrives s looks); back = q.plain.settled.back };
          };
          kinds = m.kinds;
          fore_hands = subst (λ f. HandsBy paid (DirStands paid x.fore.dir d DirRests) f pieces) (sym q.fore_first) here;
          back_hands = subst (λ f. HandsBy paid (DirStands paid x.back.dir k.convo.directions.back DirRests) f []) (sym q.back_first) m.there;
          kept = kept_fore (is_empty pieces) k.convo.kept ∙ ap (λ kept. record { fore = cond (is_empty pieces) kept.fore []; back = kept.back }) q.kept;
          events_are = in_line (is_empty k.convo.events) (map ChunkMade (carrying Fore k.convo.kept.fore pieces ++ []))
              ∙ ap (λ b. news b ++ (map ChunkMade (carrying Fore k.convo.kept.fore pieces ++ []) ++ [])) q.begun
              ∙ ap (λ kept. news (not x.begun) ++ (map ChunkMade (carrying Fore kept.fore pieces ++ []) ++ [])) q.kept
              ∙ ap (λ o. news (not x.begun) ++ (map ChunkMade (carrying Fore (map (kept_for paid) x.fore.kept) pieces ++ []) ++ ends o)) (sym q.over);
          begun = is_empty_append k.convo.events (events_seg k.convo Fore pieces) ∙ ap (λ b. b && is_empty (events_seg k.convo Fore pieces)) q.begun;
          gone = q.gone;
          fore_sums = sums_at fs (counts_more counts q.fore_sums (sym counted) (gaps_only_fore k.convo.kept.fore pieces));
          back_sums = sums_at bs (counts_on q.back_sums (no_gaps_back k.convo.kept.fore pieces));
          stage = refl;
        };
      }
  seg_left k x Back s now looks counts owed due sums soon m here counted fs bs owed_is =
      let q : IsQuiet paid t x k = m.quiet in
      let d = direction_after t (kind_of t k.convo) k.convo.directions.back (Arrives s looks) in
      let pieces : List Piece = pieces_by t (kind_of t k.convo) k.convo.directions.back (Arrives s looks) in
      record {
        fore = [];
        back = pieces;
        handing = record {
          plain = record {
            origin_is = q.plain.origin_is;
            own_is = q.plain.own_is;
            advised_is = q.plain.advised_is;
            clock_is = ap (λ e. cond (is_none e) now k.convo.clock) q.plain.ended_is ∙ ap (λ n. cond (is_none x.ended) now n) q.plain.clock_is;
            ended_is = q.plain.ended_is;
            owed_is = owed_is;
            early = early_by (is_none x.ended) now x.clock soon q.plain.early;
            settled = record { fore = q.plain.settled.fore; back = settled_after t (kind_of t k.convo) k.convo.directions.back (Arrives s looks) };
          };
          kinds = m.kinds;
          fore_hands = subst (λ f. HandsBy paid (DirStands paid x.fore.dir k.convo.directions.fore DirRests) f []) (sym q.fore_first) m.there;
          back_hands = subst (λ f. HandsBy paid (DirStands paid x.back.dir d DirRests) f pieces) (sym q.back_first) here;
          kept = kept_back (is_empty pieces) k.convo.kept ∙ ap (λ kept. record { fore = kept.fore; back = cond (is_empty pieces) kept.back [] }) q.kept;
          events_are = in_line (is_empty k.convo.events) (map ChunkMade (carrying Back k.convo.kept.back pieces ++ []))
              ∙ ap (λ b. news b ++ (map ChunkMade (carrying Back k.convo.kept.back pieces ++ []) ++ [])) q.begun
              ∙ ap (λ kept. news (not x.begun) ++ (map ChunkMade (carrying Back kept.back pieces ++ []) ++ [])) q.kept
              ∙ ap (λ ds. news (not x.begun) ++ (map ChunkMade ds ++ [])) (append-nil (carrying Back (map (kept_for paid) x.back.kept) pieces))
              ∙ ap (λ o. news (not x.begun) ++ (map ChunkMade (carrying Back (map (kept_for paid) x.back.kept) pieces) ++ ends o)) (sym q.over);
          begun = is_empty_append k.convo.events (events_seg k.convo Back pieces) ∙ ap (λ b. b && is_empty (events_seg k.convo Back pieces)) q.begun;
          gone = q.gone;
          fore_sums = sums_at fs (counts_on q.fore_sums (no_gaps_fore k.convo.kept.back pieces));
          back_sums = sums_at bs (counts_more counts q.back_sums (sym counted) (gaps_only_back k.convo.kept.back pieces));
          stage = refl;
        };
      }
