-- What a moment's step makes of its entry.
use Rattle.convo.specs.Directions.{DirStands, dir_kind}
use Rattle.flowdir.specs.Kept.{Kept as DirKept}
use Rattle.std.proofs.Common.{◌≡◌, refl, sym, ◌∙◌, ap, subst, ℕ, ◌+◌, ◌-◌, ◌≤◌, Bool, true, false, cond, List, [], ◌∷◌, ◌++◌, map, drop, length, Option, Some, None, is_none, unwrap_or, min, arith, inl}
use Rattle.std.specs.Prelude.{◌&&◌, nat_lt}
use mathlib.Core.List.{append-nil}
use Rattle.prio_budget.specs.Marks.{mark_of}
use Rattle.convo.specs.declared.convo_set.ConvoSet.{ConvoSet}
use Rattle.evring.specs.declared.way.Way.TheVariants.{Fore, Back}
use Rattle.evring.specs.declared.reason.Reason.{Reason}
use Rattle.histbook.specs.declared.look_entry.LookEntry.{LookEntry}
use Rattle.prio_budget.specs.declared.free.Free.{Free}
use Rattle.streamdefs.specs.Both.{Both}
use Rattle.streamdefs.specs.Lists.{is_empty}
use Rattle.streamdefs.specs.Terms.{Terms}
use Rattle.streamdefs.specs.Reorder.{Charge}
use Rattle.streamdefs.specs.View.{charge_of}
use Rattle.streamdefs.specs.Pending.{Piece, Pending, nothing_pending, last_bytes}
use Rattle.streamdefs.specs.Direction.{Direction, Kind, Next, direction_after, next_by, is_cut, last_pending, view_after, hole_after, asks_by}
use Rattle.streamdefs.specs.Direction.Next.{Asks, Gives, Rests as Wants_nothing}
use Rattle.streamdefs.specs.Direction.Deed.{Falls_due}
use Rattle.streamdefs.specs.Convo.{Act, Event as EventMade, carrying, kind_of, is_live, after, events_in}
use Rattle.streamdefs.specs.Convo.Event.{Chunk as ChunkMade}
use Rattle.streamdefs.specs.Convo.Act.{Time}
use Rattle.streamdefs.specs.Want.{next_move, or_next}
use Rattle.flowdir.specs.Boundary.{IsStep}
use Rattle.flowdir.specs.Boundary.Phase.{Rests as DirRests}
use Rattle.convo.specs.Seen.{kept_for, IsWant}
use Rattle.convo.specs.Halves.{HandsBy}
use Rattle.convo.specs.Talk.{Talk, IsWantOf, SetsUp, talk_after}
use Rattle.convo.specs.Standing.{HandsOver, IsLeft, IsMidway, IsQuiet, IsResting, closing_by, done_of, left_by, news, ends, own_of}
use Rattle.convo.specs.Stands.{Stands, IsMoving}
use Rattle.convo.specs.Timings.{IsTimeDone, IsUnfinished, asks_due, pieces_due, spares_due, finished_time, owed_by_time}
use Rattle.convo.specs.Timings.IsTiming.{Times_fore, Times_back}
use Rattle.convo.specs.declared.talk.Convo.{Convo}
use Rattle.convo.specs.declared.stage.Stage.TheVariants as at
use Rattle.convo.specs.declared.moment.Moment.{Moment}
use Rattle.convo.specs.declared.want.Want.{Want}
use Rattle.convo.specs.declared.want.Want.TheVariants.{Ask, Free as FreeWant}
use Rattle.flowdir.specs.declared.step.Step.TheVariants.{Ask as AskStep, Free as FreeStep, Done as DoneStep}
use Rattle.flowdir.specs.declared.counts.Counts.{Counts}
use Rattle.convo.proofs.DefSteps.{want_asks, want_gives}
use Rattle.convo.proofs.OwedSteps.{closing_is, mark_is}
use Rattle.convo.proofs.SegSteps.{is_empty_append}
use Rattle.convo.proofs.Settling.{settled_after}
use Rattle.convo.proofs.SumSteps.{counts_on, gaps_of_back, gaps_of_fore}
use Rattle.convo.proofs.TimeSteps.{back_move, cut_same, own_looks, rest_behind, time_move}
use Rattle.convo.proofs.TurnSteps.{hands_turn}

-- a direction behind its moves, whatever looks follow its own
pub direction_same : (t : Terms) (kind : Kind) (d : Direction) (m : ℕ) (first more : List LookEntry) → length (asks_due t kind d m) ≤ length first
    → direction_after t kind d (Falls_due m (first ++ more)) ≡ direction_after t kind d (Falls_due m first)
direction_same t kind d m (l ∷ ls) more h = refl
direction_same t kind d m [] [] h = refl
direction_same t kind d m [] (l ∷ ls) h =
    let last : Pending = last_pending t kind d (Falls_due m []) in
    ap (λ p. record {
      base = d.base;
      sent = d.sent;
      fin = d.fin;
      view = view_after t kind d (Falls_due m []);
      hole = hole_after m d.hole d.view (view_after t kind d (Falls_due m []));
      pending = p;
    }) (cut_same (is_cut t (Falls_due m []) last) (nat_lt 0 t.overlap) (record { bytes = min t.overlap (length last.bytes); from = None })
    (behind l last) nothing_pending nothing_pending last (omega arith))
  where
    behind : LookEntry → Pending → Pending
    behind look p = cond look.granted (record nothing_pending { copy = Some (record { bytes = last_bytes look.asked p.bytes; charge = charge_of look }) }) nothing_pending

kept_two : {X : Type 0} (a b : Bool) (kept : Both (List X))
    → cond b (cond a kept (record { fore = []; back = kept.back })) (record { fore = (cond a kept (record { fore = []; back = kept.back })).fore; back = [] })
    ≡ record { fore = cond a kept.fore []; back = cond b kept.back [] }
kept_two true true kept = refl
kept_two true false kept = refl
kept_two false true kept = refl
kept_two false false kept = refl

module _ {C : Type 0} (paid : C → Charge) (t : Terms) where
  -- the moves of a moment are made
  time_left : (k : Talk) (x : Convo C) (set : ConvoSet) (m : ℕ) (first more : List LookEntry) (frees : List Free) (owed : Option (Reason × ℕ)) → SetsUp set t → IsTimeDone paid t x k m first
      → DirStands paid x.back.dir (direction_after t (kind_of t k.convo) k.convo.directions.back (Falls_due m more)) DirRests (pieces_due t (kind_of t k.convo) k.convo.directions.back m)
      → ((fore back : Direction) (a b : List Piece) → DirStands paid x.fore.dir fore DirRests a → DirStands paid x.back.dir back DirRests b
      → owed ≡ owed_by_time (is_none x.ended) (closing_by (done_of x set Fore fore) (done_of x set Back back) m))
      → IsLeft paid t (finished_time owed x) (talk_after t k (Time m (first ++ more) frees)) (events_in t k.convo (Time m (first ++ more) frees))
  time_left k x set m first more frees owed s d here o =
      let c = k.convo in
      let kd : Kind = kind_of t c in
      let looks : List LookEntry = first ++ more in
      let act : Act = Time m looks frees in
      let pf : List Piece = pieces_due t kd c.directions.fore m in
      let pb : List Piece = pieces_due t kd c.directions.back m in
      let q : IsQuiet paid t x k = d.quiet in
      let few : length (asks_due t kd c.directions.fore m) ≤ length first = let e = d.asked in omega arith in
      let df : Direction = direction_after t kd c.directions.fore (Falls_due m looks) in
      let db : Direction = direction_after t kd c.directions.back (Falls_due m (drop (length (asks_by t kd c.directions.fore (Falls_due m looks))) looks)) in
      let fore_is = subst (λ d. DirStands paid x.fore.dir d DirRests pf) (sym (direction_same t kd c.directions.fore m first more few)) d.fore in
      let back_is = subst (λ l. DirStands paid x.back.dir (direction_after t kd c.directions.back (Falls_due m l)) DirRests pb) (sym (own_looks t c m first more d.asked)) here in
      record {
        fore = pf;
        back = pb;
        handing = record {
          plain = record {
            origin_is = q.plain.origin_is;
            own_is = q.plain.own_is;
            advised_is = q.plain.advised_is;
            clock_is = q.plain.clock_is;
            ended_is = q.plain.ended_is;
            owed_is = ap (λ closed. owed_by_time (is_live c) closed) (closing_is t set x (after t c act) m s q.plain.origin_is q.plain.own_is)
                ∙ ap (λ e. owed_by_time (is_none e) (closing_by (done_of x set Fore df) (done_of x set Back db) m)) q.plain.ended_is ∙ sym (o df db pf pb fore_is back_is);
            early = q.plain.early;
            settled = record { fore = settled_after t kd c.directions.fore (Falls_due m looks); back = settled_after t kd c.directions.back (Falls_due m (drop (length (asks_by t kd c.directions.fore (Falls_due m looks))) looks)) };
          };
          kinds = d.kinds;
          fore_hands = subst (λ f. HandsBy paid (DirStands paid x.fore.dir df DirRests) f pf) (sym q.fore_first) fore_is;
          back_hands = subst (λ f. HandsBy paid (DirStands paid x.back.dir db DirRests) f pb) (sym q.back_first) back_is;
          kept = kept_two (is_empty pf) (is_empty pb) c.kept ∙ ap (λ kept. record { fore = left_by pf kept.fore; back = left_by pb kept.back }) q.kept;
          events_are = append-nil (map ChunkMade (carrying Fore c.kept.fore pf ++ (carrying Back c.kept.back pb ++ [])))
              ∙ ap (λ ds. map ChunkMade (carrying Fore c.kept.fore pf ++ ds)) (append-nil (carrying Back c.kept.back pb))
              ∙ ap (λ kept. map ChunkMade (carrying Fore kept.fore pf ++ carrying Back kept.back pb)) q.kept
              ∙ sym (append-nil (map ChunkMade (carrying Fore (map (kept_for paid) x.fore.kept) pf ++ carrying Back (map (kept_for paid) x.back.kept) pb)))
              ∙ ap (λ o. map ChunkMade (carrying Fore (map (kept_for paid) x.fore.kept) pf ++ carrying Back (map (kept_for paid) x.back.kept) pb) ++ ends o) (sym q.over)
              ∙ ap (λ b. news b ++ (map ChunkMade (carrying Fore (map (kept_for paid) x.fore.kept) pf ++ carrying Back (map (kept_for paid) x.back.kept) pb) ++ ends x.over)) (sym q.opens);
          begun = is_empty_append c.events (events_in t c act) ∙ ap (λ b. b && is_empty (events_in t c act)) q.begun;
          gone = q.gone;
          fore_sums = counts_on q.fore_sums (gaps_of_fore c.kept.fore c.kept.back pf pb);
          back_sums = counts_on q.back_sums (gaps_of_back c.kept.fore c.kept.back pf pb);
          stage = refl;
        };
      }

  pub time_done : (k : Talk) (x x1 y : Convo C) (set : ConvoSet) (m : ℕ) (first more : List LookEntry) (frees : List Free) (back : ℕ) (counts : Counts) (out : Want C) → SetsUp set t
      → IsTimeDone paid t x k m first → length frees ≡ length (spares_due t (kind_of t k.convo) k.convo.directions.fore m) + back
      → IsStep paid (DirStands paid x.back.dir) t (kind_of t k.convo) k.convo.directions.back (Falls_due m more) back [] (DoneStep counts)
      → x1 ≡ finished_time x1.owed x
      → ((fore back : Direction) (a b : List Piece) → DirStands paid x.fore.dir fore DirRests a → DirStands paid x.back.dir back DirRests b
      → x1.owed ≡ owed_by_time (is_none x.ended) (closing_by (done_of x set Fore fore) (done_of x set Back back) m))
      → ((k' : Talk) (events : List EventMade) → IsLeft paid t x1 k' events → HandsOver paid k'.convo.first (IsResting paid t y k') (IsLeft paid t y k') events out)
      → IsWantOf paid (Stands paid y t) t k (Time m (first ++ more) frees) 0 out
  time_done k x x1 y set m first more frees back counts out s d n h same o hand =
      let act : Act = Time m (first ++ more) frees in
      let left = time_left k x set m first more frees x1.owed s d h.2 o in
      hands_turn paid t k y act 0 k.convo.first out refl (back_move t k.convo m first more frees back d.asked n ∙ h.0)
      (hand (talk_after t k act) (events_in t k.convo act) (subst (λ x. IsLeft paid t x (talk_after t k act) (events_in t k.convo act)) (sym same) left))

  -- the other direction asks, or gives back
  pub back_asks : (k : Talk) (x : Convo C) (set : ConvoSet) (moment : Moment) (first more : List LookEntry) (frees : List Free) (back bytes : ℕ) → SetsUp set t → x.stage ≡ at.Time moment Back
      → IsTimeDone paid t x k moment.at first → length frees ≡ length (spares_due t (kind_of t k.convo) k.convo.directions.fore moment.at) + back
      → IsStep paid (DirStands paid x.back.dir) t (kind_of t k.convo) k.convo.directions.back (Falls_due moment.at more) back [] (AskStep bytes)
      → IsWantOf paid (Stands paid x t) t k (Time moment.at (first ++ more) frees) 0 (Ask bytes (mark_of set.marks (unwrap_or x.advised x.origin.priority)))
  back_asks k x set moment first more frees back bytes s st d n h =
      let act : Act = Time moment.at (first ++ more) frees in
      let upto : ℕ = mark_of set.marks (unwrap_or x.advised x.origin.priority) in
      let moves = back_move t k.convo moment.at first more frees back d.asked n ∙ h.0.1 in (
        subst (λ wanted. IsWant paid k.convo.first wanted (Ask bytes upto)) (sym (want_asks t k.convo act 0 h.0.0 moves))
            (sym h.0.2, mark_is t set k x.origin (own_of x) x.advised x.clock x.ended x.owed h.0.0 s d.quiet.plain),
        inl (subst (λ n. IsMoving n) (sym moves) tt, refl, Times_back moment first more back refl st refl n d h.1),
      )

  pub back_gives : (k : Talk) (x : Convo C) (moment : Moment) (first more : List LookEntry) (frees : List Free) (back : ℕ) (c : C) → x.stage ≡ at.Time moment Back
      → IsTimeDone paid t x k moment.at first → length frees ≡ length (spares_due t (kind_of t k.convo) k.convo.directions.fore moment.at) + back
      → IsStep paid (DirStands paid x.back.dir) t (kind_of t k.convo) k.convo.directions.back (Falls_due moment.at more) back [] (FreeStep c)
      → IsWantOf paid (Stands paid x t) t k (Time moment.at (first ++ more) frees) 0 (FreeWant c)
  back_gives k x moment first more frees back c st d n h =
      let act : Act = Time moment.at (first ++ more) frees in
      let moves = back_move t k.convo moment.at first more frees back d.asked n ∙ h.0 in (
        subst (λ wanted. IsWant paid k.convo.first wanted (FreeWant c)) (sym (want_gives t k.convo act 0 (paid c) moves)) refl,
        inl (subst (λ n. IsMoving n) (sym moves) tt, refl, Times_back moment first more back refl st refl n d h.1),
      )

  -- the first direction asks, or gives back
  fore_move : (k : Talk) (m : ℕ) (looks : List LookEntry) (frees : List Free) (n : Next) → next_by t (kind_of t k.convo) k.convo.directions.fore (Falls_due m looks) (length frees) ≡ n → IsMoving n
      → next_move t k.convo (Time m looks frees) ≡ n
  fore_move k m looks frees (Asks a) e mv =
      time_move t k.convo m looks frees
      ∙ ap (λ x. or_next x (next_by t (kind_of t k.convo) k.convo.directions.back (Falls_due m (drop (length (asks_by t (kind_of t k.convo) k.convo.directions.fore (Falls_due m looks))) looks)) (length frees - length (spares_due t (kind_of t k.convo) k.convo.directions.fore m ++ [])))) e
  fore_move k m looks frees (Gives c) e mv =
      time_move t k.convo m looks frees
      ∙ ap (λ x. or_next x (next_by t (kind_of t k.convo) k.convo.directions.back (Falls_due m (drop (length (asks_by t (kind_of t k.convo) k.convo.directions.fore (Falls_due m looks))) looks)) (length frees - length (spares_due t (kind_of t k.convo) k.convo.directions.fore m ++ [])))) e
  fore_move k m looks frees Wants_nothing e mv = absurd mv

  pub fore_asks : (k : Talk) (x : Convo C) (set : ConvoSet) (moment : Moment) (looks : List LookEntry) (frees : List Free) (bytes : ℕ) → SetsUp set t → x.stage ≡ at.Time moment Fore → IsMidway paid t x k Fore
      → IsStep paid (DirStands paid x.fore.dir) t (kind_of t k.convo) k.convo.directions.fore (Falls_due moment.at looks) (length frees) [] (AskStep bytes)
      → length looks ≤ length (asks_due t (kind_of t k.convo) k.convo.directions.fore moment.at) → length frees ≤ length (spares_due t (kind_of t k.convo) k.convo.directions.fore moment.at)
      → IsWantOf paid (Stands paid x t) t k (Time moment.at looks frees) 0 (Ask bytes (mark_of set.marks (unwrap_or x.advised x.origin.priority)))
  fore_asks k x set moment looks frees bytes s st m h a b =
      let act : Act = Time moment.at looks frees in
      let upto : ℕ = mark_of set.marks (unwrap_or x.advised x.origin.priority) in
      let moves = fore_move k moment.at looks frees (Asks h.0.0) h.0.1 tt in (
        subst (λ wanted. IsWant paid k.convo.first wanted (Ask bytes upto)) (sym (want_asks t k.convo act 0 h.0.0 moves))
            (sym h.0.2, mark_is t set k x.origin (own_of x) x.advised x.clock x.ended x.owed h.0.0 s m.quiet.plain),
        inl (subst (λ n. IsMoving n) (sym moves) tt, refl, Times_fore moment refl st m h.1 a b (subst (λ n. IsUnfinished n) (sym h.0.1) tt)),
      )

  pub fore_gives : (k : Talk) (x : Convo C) (moment : Moment) (looks : List LookEntry) (frees : List Free) (c : C) → x.stage ≡ at.Time moment Fore → IsMidway paid t x k Fore
      → IsStep paid (DirStands paid x.fore.dir) t (kind_of t k.convo) k.convo.directions.fore (Falls_due moment.at looks) (length frees) [] (FreeStep c)
      → length looks ≤ length (asks_due t (kind_of t k.convo) k.convo.directions.fore moment.at) → length frees ≤ length (spares_due t (kind_of t k.convo) k.convo.directions.fore moment.at)
      → IsWantOf paid (Stands paid x t) t k (Time moment.at looks frees) 0 (FreeWant c)
  fore_gives k x moment looks frees c st m h a b =
      let act : Act = Time moment.at looks frees in
      let moves = fore_move k moment.at looks frees (Gives (paid c)) h.0 tt in (
        subst (λ wanted. IsWant paid k.convo.first wanted (FreeWant c)) (sym (want_gives t k.convo act 0 (paid c) moves)) refl,
        inl (subst (λ n. IsMoving n) (sym moves) tt, refl, Times_fore moment refl st m h.1 a b (subst (λ n. IsUnfinished n) (sym h.0) tt)),
      )

  -- the first direction is done
  pub fore_done : (k : Talk) (x : Convo C) (m : ℕ) (looks : List LookEntry) (frees : List Free) (counts : Counts) → IsMidway paid t x k Fore
      → IsStep paid (DirStands paid x.fore.dir) t (kind_of t k.convo) k.convo.directions.fore (Falls_due m looks) (length frees) [] (DoneStep counts)
      → length looks ≤ length (asks_due t (kind_of t k.convo) k.convo.directions.fore m) → length frees ≤ length (spares_due t (kind_of t k.convo) k.convo.directions.fore m)
      → IsTimeDone paid t x k m looks × (length frees ≡ length (spares_due t (kind_of t k.convo) k.convo.directions.fore m))
  fore_done k x m looks frees counts w h a b =
      let r = rest_behind t (kind_of t k.convo) k.convo.directions.fore m looks (length frees) h.0 in
      let ra = r.0 in
      let rb = r.1 in
      (record { quiet = w.quiet; kinds = w.kinds; fore = h.2; asked = omega arith }, omega arith)

  -- the other one begins
  pub done_dir : (x : Convo C) (dir : DirKept C) (moment : Moment) (k : Talk) (m : ℕ) (looks : List LookEntry) → dir_kind dir ≡ dir_kind x.back.dir → IsTimeDone paid t x k m looks
      → IsTimeDone paid t (record x { back = record x.back { dir = dir }; stage = at.Time moment Back }) k m looks
  done_dir x dir moment k m looks e d = record {
    quiet = record { plain = d.quiet.plain; kept = d.quiet.kept; begun = d.quiet.begun; opens = d.quiet.opens; over = d.quiet.over; fore_first = d.quiet.fore_first; back_first = d.quiet.back_first; gone = d.quiet.gone; fore_sums = d.quiet.fore_sums; back_sums = d.quiet.back_sums };
    kinds = record { fore_is = d.kinds.fore_is; back_is = e ∙ d.kinds.back_is };
    fore = d.fore;
    asked = d.asked;
  }

  pub done_on : (x : Convo C) (dir : DirKept C) (k : Talk) (m : ℕ) (looks : List LookEntry) → dir_kind dir ≡ dir_kind x.back.dir → IsTimeDone paid t x k m looks
      → IsTimeDone paid t (record x { back = record x.back { dir = dir } }) k m looks
  done_on x dir k m looks e d = record {
    quiet = record { plain = d.quiet.plain; kept = d.quiet.kept; begun = d.quiet.begun; opens = d.quiet.opens; over = d.quiet.over; fore_first = d.quiet.fore_first; back_first = d.quiet.back_first; gone = d.quiet.gone; fore_sums = d.quiet.fore_sums; back_sums = d.quiet.back_sums };
    kinds = record { fore_is = d.kinds.fore_is; back_is = e ∙ d.kinds.back_is };
    fore = d.fore;
    asked = d.asked;
  }

-- what the first direction wants is what the entry wants
pub fore_next : (t : Terms) (k : Talk) (m : ℕ) (looks : List LookEntry) (frees : List Free) → IsUnfinished (next_by t (kind_of t k.convo) k.convo.directions.fore (Falls_due m looks) (length frees))
    → next_move t k.convo (Time m looks frees) ≡ next_by t (kind_of t k.convo) k.convo.directions.fore (Falls_due m looks) (length frees)
fore_next t k m looks frees u = by (next_by t (kind_of t k.convo) k.convo.directions.fore (Falls_due m looks) (length frees)) refl u
  where
    by : (n : Next) → next_by t (kind_of t k.convo) k.convo.directions.fore (Falls_due m looks) (length frees) ≡ n → IsUnfinished n → next_move t k.convo (Time m looks frees) ≡ n
    by (Asks a) e u = fore_move {C = ℕ} (λ c. record { bytes = c; stamp = 0 }) t k m looks frees (Asks a) e tt
    by (Gives c) e u = fore_move {C = ℕ} (λ c. record { bytes = c; stamp = 0 }) t k m looks frees (Gives c) e tt
    by Wants_nothing e u = absurd u
