-- An End goes on.
use Rattle.evring.specs.Charges.{charges_of_all}
use Rattle.convo.specs.Directions.{DirStands, dir_kind}
use Rattle.flowdir.specs.Kept.{Kept as DirKept}
use Rattle.std.proofs.Common.{◌≡◌, refl, sym, ◌∙◌, ap, subst, ℕ, ◌+◌, ◌≤◌, Bool, true, false, cond, List, [], ◌∷◌, ◌++◌, map, length, length-append, Option, Some, None, arith, inl}
use Rattle.std.specs.Prelude.{◌&&◌}
use mathlib.Core.List.{append-nil}
use Rattle.evring.specs.declared.way.Way.{Way}
use Rattle.evring.specs.declared.way.Way.TheVariants.{Fore, Back}
use Rattle.evring.specs.declared.reason.Reason.{Reason}
use Rattle.histbook.specs.declared.look_entry.LookEntry.{LookEntry}
use Rattle.prio_budget.specs.declared.free.Free.{Free}
use Rattle.streamdefs.specs.Lists.{is_empty}
use Rattle.streamdefs.specs.Terms.{Terms}
use Rattle.streamdefs.specs.Reorder.{Charge}
use Rattle.streamdefs.specs.Pending.{Piece}
use Rattle.streamdefs.specs.Direction.{Direction, direction_after}
use Rattle.streamdefs.specs.Direction.Next.{Gives, Rests as Wants_nothing}
use Rattle.streamdefs.specs.Direction.Deed.{Ends}
use Rattle.streamdefs.specs.Convo.{Act, Event as EventMade, Kept as KeptPiece, carrying, kind_of, is_live, events_in, charges_of}
use Rattle.streamdefs.specs.Convo.Event.{Chunk as ChunkMade, Ended as EndedMade}
use Rattle.streamdefs.specs.Convo.Act.{End}
use Rattle.streamdefs.specs.Want.{next_move}
use Rattle.flowdir.specs.Boundary.{IsStep}
use Rattle.flowdir.specs.Boundary.Phase.{Rests as DirRests}
use Rattle.convo.specs.Seen.{kept_for, IsWant}
use Rattle.convo.specs.Going.{charges_going}
use Rattle.convo.specs.Counted.{IsUncounted}
use Rattle.convo.specs.Halves.{Hands, HandsBy}
use Rattle.convo.specs.Talk.{Talk, IsWantOf, talk_after}
use Rattle.convo.specs.Standing.{IsLeft, HandsOver, IsMidway, IsPlain, IsQuiet, IsResting, left_by, news}
use Rattle.convo.specs.Stands.{Stands, IsMoving}
use Rattle.convo.specs.Endings.{IsBetween, LeavesFore, LeavesBack, IsBeside, pieces_fore, pieces_back, spares_fore, spares_back, unshown_fore, unshown_back}
use Rattle.convo.specs.Endings.IsEnding.{Ends_fore, Leaves_fore, Ends_back, Leaves_back}
use Rattle.convo.specs.declared.talk.Convo.{Convo}
use Rattle.convo.specs.declared.stage.Stage.TheVariants as at
use Rattle.convo.specs.declared.going.Going.{Going}
use Rattle.chunkpart.specs.ChunkParts.{ChunkParts}
use Rattle.convo.specs.declared.moment.Moment.{Moment}
use Rattle.convo.specs.declared.want.Want.{Want}
use Rattle.convo.specs.declared.want.Want.TheVariants.{Free as FreeWant}
use Rattle.flowdir.specs.declared.step.Step.TheVariants.{Free as FreeStep}
use Rattle.convo.proofs.DefSteps.{want_gives}
use Rattle.convo.proofs.GivesSteps.{gives_front, gives_behind, gives_in, gives_past, gives_head, gives_end, end_move}
use Rattle.convo.proofs.GoingSteps.{charges_all}
use Rattle.convo.proofs.SegSteps.{is_empty_append}
use Rattle.convo.proofs.Settling.{settled_after}
use Rattle.convo.proofs.SumSteps.{counts_on, gaps_of_back, gaps_of_fore, sums_kept}
use Rattle.convo.proofs.TurnSteps.{hands_turn}

left_cut : (pieces : List Piece) (kept : List KeptPiece) → left_by pieces (cond (is_empty pieces) [] kept) ≡ []
left_cut [] kept = refl
left_cut (p ∷ ps) kept = refl

carrying_cut : (w : Way) (pieces : List Piece) (kept : List KeptPiece) → carrying w (cond (is_empty pieces) [] kept) pieces ≡ carrying w kept pieces
carrying_cut w [] kept = refl
carrying_cut w (p ∷ ps) kept = refl

none_due : (b : Bool) → ◌≡◌ {A = Option (Reason × ℕ)} (cond b None None) None
none_due true = refl
none_due false = refl

module _ {C : Type 0} (paid : C → Charge) (t : Terms) where
  -- the moves of an End are made
  pub end_left : (k : Talk) (x : Convo C) (m : ℕ) (reason : Reason) (looks : List LookEntry) (frees : List Free) (given : ℕ)
      → LeavesBack paid t x k m given → charges_going x.going ≡ []
      → IsLeft paid t (record x { ended = Some reason; owed = None; over = Some reason; stage = at.Events }) (talk_after t k (End m reason looks frees)) (events_in t k.convo (End m reason looks frees))
  end_left k x m reason looks frees given l gone =
      let c = k.convo in
      let pf : List Piece = pieces_fore t c m in
      let pb : List Piece = pieces_back t c m in
      let act : Act = End m reason looks frees in
      record {
        fore = pf;
        back = pb;
        handing = record {
          plain = record {
            origin_is = l.beside.plain.origin_is;
            own_is = l.beside.plain.own_is;
            advised_is = l.beside.plain.advised_is;
            clock_is = l.beside.plain.clock_is;
            ended_is = refl;
            owed_is = none_due (is_live c);
            early = l.beside.plain.early;
            settled = record { fore = settled_after t (kind_of t c) c.directions.fore (Ends m); back = settled_after t (kind_of t c) c.directions.back (Ends m) };
          };
          kinds = l.beside.kinds;
          fore_hands = l.fore.hands;
          back_hands = l.back.hands;
          kept = sym (ap (λ ks. record { fore = left_by pf ks; back = left_by pb (map (kept_for paid) x.back.kept) }) l.fore.kept_is
              ∙ ap (λ ks. record { fore = left_by pf (cond (is_empty pf) [] c.kept.fore); back = left_by pb ks }) l.back.kept_is
              ∙ ap (λ ks. record { fore = ks; back = left_by pb (cond (is_empty pb) [] c.kept.back) }) (left_cut pf c.kept.fore)
              ∙ ap (λ ks. record { fore = []; back = ks }) (left_cut pb c.kept.back));
          events_are = ap (λ ds. map ChunkMade (carrying Fore c.kept.fore pf ++ ds) ++ EndedMade reason ∷ []) (append-nil (carrying Back c.kept.back pb))
              ∙ ap (λ ds. map ChunkMade (ds ++ carrying Back c.kept.back pb) ++ EndedMade reason ∷ []) (sym (carrying_cut Fore pf c.kept.fore) ∙ ap (λ ks. carrying Fore ks pf) (sym l.fore.kept_is))
              ∙ ap (λ ds. map ChunkMade (carrying Fore (map (kept_for paid) x.fore.kept) pf ++ ds) ++ EndedMade reason ∷ []) (sym (carrying_cut Back pb c.kept.back) ∙ ap (λ ks. carrying Back ks pb) (sym l.back.kept_is))
              ∙ ap (λ b. news b ++ (map ChunkMade (carrying Fore (map (kept_for paid) x.fore.kept) pf ++ carrying Back (map (kept_for paid) x.back.kept) pb) ++ EndedMade reason ∷ [])) (sym l.beside.opens);
          begun = is_empty_append c.events (events_in t c act) ∙ ap (λ b. b && is_empty (events_in t c act)) l.beside.begun;
          gone = gone;
          fore_sums = counts_on l.beside.fore_sums (gaps_of_fore c.kept.fore c.kept.back pf pb);
          back_sums = counts_on l.beside.back_sums (gaps_of_back c.kept.fore c.kept.back pf pb);
          stage = refl;
        };
      }

  beside_going : (x : Convo C) (going : Going C) (k : Talk) → IsBeside t x k → IsBeside t (record x { going = going }) k
  beside_going x going k b = record { plain = b.plain; kinds = b.kinds; begun = b.begun; opens = b.opens; over = b.over; fore_sums = b.fore_sums; back_sums = b.back_sums }

  -- a charge of what is kept in the other direction goes out
  pub leaves_back : (k : Talk) (x : Convo C) (going : Going C) (c : C) (moment : Moment) (reason : Reason) (looks : List LookEntry) (frees : List Free) (more : ℕ)
      → x.stage ≡ at.Unshown moment reason Back → LeavesBack paid t x k moment.at more → charges_going x.going ≡ c ∷ charges_going going
      → length frees ≡ length (spares_fore t k.convo moment.at) + length (unshown_fore t k.convo moment.at) + length (spares_back t k.convo moment.at) + more
      → IsWantOf paid (Stands paid (record x { going = going }) t) t k (End moment.at reason looks frees) 0 (FreeWant c)
  leaves_back k x going c moment reason looks frees more st l e n =
      let sf : List Charge = spares_fore t k.convo moment.at in
      let uf : List Charge = unshown_fore t k.convo moment.at in
      let sb : List Charge = spares_back t k.convo moment.at in
      let ub : List Charge = unshown_back t k.convo moment.at in
      let h = gives_head more ub (paid c) (map paid (charges_going going)) (sym l.going ∙ ap (map paid) e) in
      let len : length (sf ++ uf) ≡ length sf + length uf = length-append sf uf in
      let moves : next_move t k.convo (End moment.at reason looks frees) ≡ Gives (paid c) =
      end_move t k.convo moment.at reason looks frees
      ∙ gives_behind (sf ++ uf) (sb ++ ub) (length frees) (length sb + more) (omega arith)
      ∙ gives_behind sb ub (length sb + more) more refl ∙ h.0 in (
        subst (λ wanted. IsWant paid k.convo.first wanted (FreeWant c)) (sym (want_gives t k.convo (End moment.at reason looks frees) 0 (paid c) moves)) refl,
        inl (
          subst (λ n. IsMoving n) (sym moves) tt,
          refl,
          Leaves_back moment more refl st n (gives_in ub more (paid c) h.0) (record { beside = beside_going x going k l.beside; fore = l.fore; back = l.back; going = sym h.1 }),
        ),
      )

  -- none is left: its end is told
  pub ends_told : (k : Talk) (x y : Convo C) (going : Going C) (m : ℕ) (reason : Reason) (looks : List LookEntry) (frees : List Free) (more : ℕ) (out : Want C)
      → LeavesBack paid t x k m more → charges_going x.going ≡ [] → charges_going going ≡ []
      → length frees ≡ length (spares_fore t k.convo m) + length (unshown_fore t k.convo m) + length (spares_back t k.convo m) + more
      → ((k' : Talk) (events : List EventMade) → IsLeft paid t (record x { going = going; ended = Some reason; owed = None; over = Some reason; stage = at.Events }) k' events
      → HandsOver paid k'.convo.first (IsResting paid t y k') (IsLeft paid t y k') events out)
      → IsWantOf paid (Stands paid y t) t k (End m reason looks frees) 0 out
  ends_told k x y going m reason looks frees more out l e gone n hand =
      let sf : List Charge = spares_fore t k.convo m in
      let uf : List Charge = unshown_fore t k.convo m in
      let sb : List Charge = spares_back t k.convo m in
      let ub : List Charge = unshown_back t k.convo m in
      let len : length (sf ++ uf) ≡ length sf + length uf = length-append sf uf in
      let moved : next_move t k.convo (End m reason looks frees) ≡ Wants_nothing =
      end_move t k.convo m reason looks frees
      ∙ gives_behind (sf ++ uf) (sb ++ ub) (length frees) (length sb + more) (omega arith)
      ∙ gives_behind sb ub (length sb + more) more refl ∙ gives_end more ub (sym l.going ∙ ap (map paid) e) in
      let l2 : LeavesBack paid t (record x { going = going }) k m more =
      record { beside = beside_going x going k l.beside; fore = l.fore; back = l.back; going = ap (map paid) (gone ∙ sym e) ∙ l.going } in
      hands_turn paid t k y (End m reason looks frees) 0 k.convo.first out refl moved
      (hand (talk_after t k (End m reason looks frees)) (events_in t k.convo (End m reason looks frees)) (end_left k (record x { going = going }) m reason looks frees more l2 gone))

  pub between_going : (x : Convo C) (going : Going C) (k : Talk) (m : ℕ) → charges_going going ≡ [] → IsBetween paid t x k m → IsBetween paid t (record x { going = going }) k m
  between_going x going k m e b = record { beside = beside_going x going k b.beside; fore = b.fore; ahead = record { first = b.ahead.first; kept_is = b.ahead.kept_is }; gone = e }

  -- what is kept in a direction is left to go back
  left_kept_is : (b : Bool) (kept after : List (ChunkParts C)) (was : List KeptPiece) → after ≡ cond b [] kept → map (kept_for paid) kept ≡ was → map (kept_for paid) after ≡ cond b [] was
  left_kept_is true kept after was e w = ap (map (kept_for paid)) e
  left_kept_is false kept after was e w = ap (map (kept_for paid)) e ∙ w

  left_going_is : (b : Bool) (kept : List (ChunkParts C)) (going : List C) (was : List KeptPiece) → going ≡ charges_of_all (cond b kept []) → map (kept_for paid) kept ≡ was → map paid going ≡ cond b (charges_of was) []
  left_going_is true kept going was e w = ap (map paid) e ∙ charges_all paid kept ∙ ap charges_of w
  left_going_is false kept going was e w = ap (map paid) e

  pub leaves_at_back : (k : Talk) (x y : Convo C) (moment : Moment) (reason : Reason) → IsBetween paid t x k moment.at
      → DirStands paid x.back.dir (direction_after t (kind_of t k.convo) k.convo.directions.back (Ends moment.at)) DirRests (pieces_back t k.convo moment.at)
      → y ≡ record x { back = y.back; going = y.going; stage = at.Unshown moment reason Back }
      → ((d : Direction) (pieces : List Piece) → Hands paid x.back d pieces
      → Hands paid y.back d pieces × (charges_going y.going ≡ charges_of_all (cond (is_empty pieces) x.back.kept [])) × (y.back.kept ≡ cond (is_empty pieces) [] x.back.kept))
      → y.back.own ≡ x.back.own → dir_kind y.back.dir ≡ dir_kind x.back.dir → IsUncounted x.back y.back
      → LeavesBack paid t y k moment.at 0
  leaves_at_back k x y moment reason b here same hands own kind_is uncounted =
      let d : Direction = direction_after t (kind_of t k.convo) k.convo.directions.back (Ends moment.at) in
      let pb : List Piece = pieces_back t k.convo moment.at in
      let h = hands d pb (subst (λ f. HandsBy paid (DirStands paid x.back.dir d DirRests) f pb) (sym b.ahead.first) here) in
      let z : Convo C = record x { back = y.back; going = y.going; stage = at.Unshown moment reason Back } in
      let l : LeavesBack paid t z k moment.at 0 = record {
        beside = record {
          plain = subst (λ o. IsPlain t x.origin (record { fore = x.fore.own; back = o }) x.advised x.clock x.ended x.owed k) (sym own) b.beside.plain;
          kinds = record { fore_is = b.beside.kinds.fore_is; back_is = kind_is ∙ b.beside.kinds.back_is };
          begun = b.beside.begun;
          opens = b.beside.opens;
          over = b.beside.over;
          fore_sums = b.beside.fore_sums;
          back_sums = sums_kept x.back y.back uncounted b.beside.back_sums;
        };
        fore = b.fore;
        back = record { hands = h.0; kept_is = left_kept_is (is_empty pb) x.back.kept y.back.kept k.convo.kept.back h.2 b.ahead.kept_is };
        going = left_going_is (is_empty pb) x.back.kept (charges_going y.going) k.convo.kept.back h.1 b.ahead.kept_is;
      } in
      subst (λ y. LeavesBack paid t y k moment.at 0) (sym same) l

  -- the other direction gives back a charge
  pub gives_back : (k : Talk) (x : Convo C) (c : C) (moment : Moment) (reason : Reason) (looks : List LookEntry) (frees : List Free) (more : ℕ)
      → x.stage ≡ at.End moment reason Back → IsBetween paid t x k moment.at
      → IsStep paid (DirStands paid x.back.dir) t (kind_of t k.convo) k.convo.directions.back (Ends moment.at) more [] (FreeStep c)
      → length frees ≡ length (spares_fore t k.convo moment.at) + length (unshown_fore t k.convo moment.at) + more
      → IsWantOf paid (Stands paid x t) t k (End moment.at reason looks frees) 0 (FreeWant c)
  gives_back k x c moment reason looks frees more st b h n =
      let sf : List Charge = spares_fore t k.convo moment.at in
      let uf : List Charge = unshown_fore t k.convo moment.at in
      let sb : List Charge = spares_back t k.convo moment.at in
      let ub : List Charge = unshown_back t k.convo moment.at in
      let len : length (sf ++ uf) ≡ length sf + length uf = length-append sf uf in
      let moves : next_move t k.convo (End moment.at reason looks frees) ≡ Gives (paid c) =
      end_move t k.convo moment.at reason looks frees ∙ gives_behind (sf ++ uf) (sb ++ ub) (length frees) more (omega arith) ∙ gives_front sb ub more (paid c) h.0 in (
        subst (λ wanted. IsWant paid k.convo.first wanted (FreeWant c)) (sym (want_gives t k.convo (End moment.at reason looks frees) 0 (paid c) moves)) refl,
        inl (subst (λ n. IsMoving n) (sym moves) tt, refl, Ends_back moment more refl st n (gives_in sb more (paid c) h.0) (record { between = b; here = h.1 })),
      )

  -- the other direction ends
  pub between_dir : (x : Convo C) (dir : DirKept C) (moment : Moment) (reason : Reason) (k : Talk) (m : ℕ) → dir_kind dir ≡ dir_kind x.back.dir → IsBetween paid t x k m
      → IsBetween paid t (record x { back = record x.back { dir = dir }; stage = at.End moment reason Back }) k m
  between_dir x dir moment reason k m e b = record {
    beside = record { plain = b.beside.plain; kinds = record { fore_is = b.beside.kinds.fore_is; back_is = e ∙ b.beside.kinds.back_is }; begun = b.beside.begun; opens = b.beside.opens; over = b.beside.over; fore_sums = b.beside.fore_sums; back_sums = b.beside.back_sums };
    fore = b.fore;
    ahead = record { first = b.ahead.first; kept_is = b.ahead.kept_is };
    gone = b.gone;
  }

  -- a charge of what is kept in the first direction goes out
  pub leaves_fore : (k : Talk) (x : Convo C) (going : Going C) (c : C) (moment : Moment) (reason : Reason) (looks : List LookEntry) (frees : List Free) (more : ℕ)
      → x.stage ≡ at.Unshown moment reason Fore → LeavesFore paid t x k moment.at more → charges_going x.going ≡ c ∷ charges_going going
      → length frees ≡ length (spares_fore t k.convo moment.at) + more
      → IsWantOf paid (Stands paid (record x { going = going }) t) t k (End moment.at reason looks frees) 0 (FreeWant c)
  leaves_fore k x going c moment reason looks frees more st l e n =
      let sf : List Charge = spares_fore t k.convo moment.at in
      let uf : List Charge = unshown_fore t k.convo moment.at in
      let sb : List Charge = spares_back t k.convo moment.at in
      let ub : List Charge = unshown_back t k.convo moment.at in
      let h = gives_head more uf (paid c) (map paid (charges_going going)) (sym l.going ∙ ap (map paid) e) in
      let moves : next_move t k.convo (End moment.at reason looks frees) ≡ Gives (paid c) =
      end_move t k.convo moment.at reason looks frees
      ∙ gives_front (sf ++ uf) (sb ++ ub) (length frees) (paid c) (gives_behind sf uf (length frees) more n ∙ h.0) in (
        subst (λ wanted. IsWant paid k.convo.first wanted (FreeWant c)) (sym (want_gives t k.convo (End moment.at reason looks frees) 0 (paid c) moves)) refl,
        inl (
          subst (λ n. IsMoving n) (sym moves) tt,
          refl,
          Leaves_fore moment more refl st n (gives_in uf more (paid c) h.0)
              (record { beside = beside_going x going k l.beside; fore = l.fore; ahead = record { first = l.ahead.first; kept_is = l.ahead.kept_is }; there = l.there; going = sym h.1 }),
        ),
      )

  -- none is left
  pub between_left : (k : Talk) (x : Convo C) (going : Going C) (m more : ℕ) → LeavesFore paid t x k m more → charges_going x.going ≡ [] → charges_going going ≡ []
      → IsBetween paid t (record x { going = going }) k m × (length (unshown_fore t k.convo m) ≤ more)
  between_left k x going m more l e gone = (
    record { beside = beside_going x going k l.beside; fore = l.fore; ahead = record { first = l.ahead.first; kept_is = l.ahead.kept_is }; gone = gone },
    gives_past (unshown_fore t k.convo m) more (gives_end more (unshown_fore t k.convo m) (sym l.going ∙ ap (map paid) e)),
  )

  pub leaves_at_fore : (k : Talk) (x y : Convo C) (moment : Moment) (reason : Reason) → IsMidway paid t x k Fore
      → DirStands paid x.fore.dir (direction_after t (kind_of t k.convo) k.convo.directions.fore (Ends moment.at)) DirRests (pieces_fore t k.convo moment.at)
      → y ≡ record x { fore = y.fore; going = y.going; stage = at.Unshown moment reason Fore }
      → ((d : Direction) (pieces : List Piece) → Hands paid x.fore d pieces
      → Hands paid y.fore d pieces × (charges_going y.going ≡ charges_of_all (cond (is_empty pieces) x.fore.kept [])) × (y.fore.kept ≡ cond (is_empty pieces) [] x.fore.kept))
      → y.fore.own ≡ x.fore.own → dir_kind y.fore.dir ≡ dir_kind x.fore.dir → IsUncounted x.fore y.fore
      → LeavesFore paid t y k moment.at 0
  leaves_at_fore k x y moment reason m here same hands own kind_is uncounted =
      let d : Direction = direction_after t (kind_of t k.convo) k.convo.directions.fore (Ends moment.at) in
      let pf : List Piece = pieces_fore t k.convo moment.at in
      let q : IsQuiet paid t x k = m.quiet in
      let h = hands d pf (subst (λ f. HandsBy paid (DirStands paid x.fore.dir d DirRests) f pf) (sym q.fore_first) here) in
      let z : Convo C = record x { fore = y.fore; going = y.going; stage = at.Unshown moment reason Fore } in
      let l : LeavesFore paid t z k moment.at 0 = record {
        beside = record {
          plain = subst (λ o. IsPlain t x.origin (record { fore = o; back = x.back.own }) x.advised x.clock x.ended x.owed k) (sym own) q.plain;
          kinds = record { fore_is = kind_is ∙ m.kinds.fore_is; back_is = m.kinds.back_is };
          begun = q.begun;
          opens = q.opens;
          over = q.over;
          fore_sums = sums_kept x.fore y.fore uncounted q.fore_sums;
          back_sums = q.back_sums;
        };
        fore = record { hands = h.0; kept_is = left_kept_is (is_empty pf) x.fore.kept y.fore.kept k.convo.kept.fore h.2 (sym (ap (λ kept. kept.fore) q.kept)) };
        ahead = record { first = q.back_first; kept_is = sym (ap (λ kept. kept.back) q.kept) };
        there = m.there;
        going = left_going_is (is_empty pf) x.fore.kept (charges_going y.going) k.convo.kept.fore h.1 (sym (ap (λ kept. kept.fore) q.kept));
      } in
      subst (λ y. LeavesFore paid t y k moment.at 0) (sym same) l

  -- the first direction gives back a charge
  pub gives_fore : (k : Talk) (x : Convo C) (c : C) (moment : Moment) (reason : Reason) (looks : List LookEntry) (frees : List Free)
      → x.stage ≡ at.End moment reason Fore → IsMidway paid t x k Fore
      → IsStep paid (DirStands paid x.fore.dir) t (kind_of t k.convo) k.convo.directions.fore (Ends moment.at) (length frees) [] (FreeStep c)
      → IsWantOf paid (Stands paid x t) t k (End moment.at reason looks frees) 0 (FreeWant c)
  gives_fore k x c moment reason looks frees st m h =
      let sf : List Charge = spares_fore t k.convo moment.at in
      let uf : List Charge = unshown_fore t k.convo moment.at in
      let sb : List Charge = spares_back t k.convo moment.at in
      let ub : List Charge = unshown_back t k.convo moment.at in
      let moves : next_move t k.convo (End moment.at reason looks frees) ≡ Gives (paid c) =
      end_move t k.convo moment.at reason looks frees ∙ gives_front (sf ++ uf) (sb ++ ub) (length frees) (paid c) (gives_front sf uf (length frees) (paid c) h.0) in (
        subst (λ wanted. IsWant paid k.convo.first wanted (FreeWant c)) (sym (want_gives t k.convo (End moment.at reason looks frees) 0 (paid c) moves)) refl,
        inl (subst (λ n. IsMoving n) (sym moves) tt, refl, Ends_fore moment refl st (gives_in sf (length frees) (paid c) h.0) (record { midway = m; here = h.1 })),
      )

  pub midway_going : (x : Convo C) (going : Going C) (k : Talk) → charges_going going ≡ [] → IsMidway paid t x k Fore → IsMidway paid t (record x { going = going }) k Fore
  midway_going x going k e m = record {
    quiet = record { plain = m.quiet.plain; kept = m.quiet.kept; begun = m.quiet.begun; opens = m.quiet.opens; over = m.quiet.over; fore_first = m.quiet.fore_first; back_first = m.quiet.back_first; gone = e; fore_sums = m.quiet.fore_sums; back_sums = m.quiet.back_sums };
    kinds = m.kinds;
    there = m.there;
    soon = m.soon;
  }

  pub between_on : (x : Convo C) (dir : DirKept C) (k : Talk) (m : ℕ) → dir_kind dir ≡ dir_kind x.back.dir → IsBetween paid t x k m
      → IsBetween paid t (record x { back = record x.back { dir = dir } }) k m
  between_on x dir k m e b = record {
    beside = record { plain = b.beside.plain; kinds = record { fore_is = b.beside.kinds.fore_is; back_is = e ∙ b.beside.kinds.back_is }; begun = b.beside.begun; opens = b.beside.opens; over = b.beside.over; fore_sums = b.beside.fore_sums; back_sums = b.beside.back_sums };
    fore = b.fore;
    ahead = record { first = b.ahead.first; kept_is = b.ahead.kept_is };
    gone = b.gone;
  }
