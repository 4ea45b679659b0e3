-- What an entry wants next, and what a direction stands for behind it.
use Rattle.std.specs.Prelude.{◌≡◌, refl, ℕ, suc, ◌+◌, ◌<◌, Bool, true, false, not, cond, ◌||◌, ◌==◌, List, [], ◌∷◌, ◌++◌, length, map, drop, Option, Some, None, IfSome, ℤ, option_map, option_to_list, IsNone, unwrap_or}
use Rattle.std.proofs.Common.{sym, ◌∙◌, ap, subst, arith}
use Rattle.histbook.specs.declared.look_entry.LookEntry.{LookEntry}
use Rattle.streamdefs.specs.Terms.{Terms}
use Rattle.streamdefs.specs.Lists.{is_empty}
use Rattle.streamdefs.specs.Reorder.{Charge, placed_from}
use Rattle.streamdefs.specs.View.{View, Ask as Request, ask_for_run, charge_of, run_asks, never, passed, least}
use Rattle.streamdefs.specs.Pending.{Pending, Piece, pending_behind, last_bytes, nothing_pending}
use Rattle.streamdefs.specs.Direction.{Kind, Direction, Segment, Deed, Counts, gives_at, pieces_by, view_after, last_pending, hole_after, impatience, direction_after, untouched, start_of, moment_of, asks_for_runs, looks_of, counts_by, held_with, gone_by, with_one_look, is_hole_due, no_counts}
use Rattle.streamdefs.specs.Direction.Deed.{Arrives, Falls_due, Ends}
use Rattle.reorder.specs.Frags.{Frag, Ascends, spread, with_charge as charged_cells, cells_from, pass, Cell}
use Rattle.flowdir.specs.Lane.{Lane, LaneStands, lane_after, new_lane, piece_in, bundle_for}
use Rattle.chunkpart.specs.ChunkParts.{ChunkParts}
use Rattle.flowdir.specs.Passing.{jumps_by, taken_by}
use Rattle.flowdir.specs.Asking.{Wait, placed_wait, HasPassed}
use Rattle.flowdir.specs.Closing.{Closing, CutsFor, shut_lane, copy_at}
use Rattle.flowdir.specs.Meeting.{Meets, IsFor}
use Rattle.overpolicy.specs.declared.policy.Policy.{Policy}
use Rattle.flowdir.specs.declared.aim.Aim.{Aim}
use Rattle.flowdir.specs.declared.cuts.Cuts.{Cuts}
use Rattle.flowdir.specs.declared.rule.Rule.TheVariants.{Never}
use Rattle.flowdir.specs.declared.advance.Advance.{Advance}
use Rattle.flowdir.specs.declared.advance.Advance.TheVariants.{Stay, From}
use Rattle.flowdir.specs.Heading.{Tells, AimsAt}
use Rattle.flowdir.specs.Boundary.{IsStep, IsLookOf, IsFirst, IsPaidBy, kind_of}
use Rattle.flowdir.specs.Boundary.Phase.{Works, Rests}
use Rattle.flowdir.specs.declared.dir_mode.DirMode.{DirMode}
use Rattle.flowdir.specs.declared.dir_mode.DirMode.TheVariants.{Strict, Fast, Udp}
use Rattle.flowdir.specs.declared.step.Step.{Step}
use Rattle.flowdir.specs.declared.step.Step.TheVariants.{Ask, Free, Done}
use Rattle.flowdir.specs.Kept.{Kept, Working, HeadIs, RestsFor, Stays, Settles, RunsFor, GivesFor, StandsFor, ShutFor, IsCopying, IsRunning, hole_now, rule_for, bytes_next, GivesNext, GoesOn, AsksOrGives, advanced, way_for, cuts_for, copying, AsksNext, AsksBy, with_charge, with_none, with_answer, Enters, entered, late_of, is_due, due_way, due_cuts, first_at}
use Rattle.flowdir.specs.Kept.Working.{Idle, Runs, Copies, Giving, Failed}
use Rattle.flowdir.proofs.Asked.{Sorted, sorted_all, next_asks, grant_asking, refuse_sorted}
use Rattle.flowdir.proofs.Advancing.{passed_entry, gone_live, gone_due}
use Rattle.flowdir.proofs.Shutting.{Shut, shut_stands, next_of, give_one}
use Rattle.flowdir.proofs.Copying.{IsAsBefore, as_before, asks_copy, heard_copy, behind_granted, behind_refused, no_chunk, own_bytes}

-- the holes that are jumped
impatience_is : (t : Terms) (mode : DirMode) (most : ℕ) → t.reorder ≡ most → impatience t (kind_of mode) ≡ jumps_by (rule_for mode most)
impatience_is t Strict most e = ap (λ n. Rattle.streamdefs.specs.View.above n) e
impatience_is t Fast most e = refl
impatience_is t Udp most e = refl

-- since when a hole stands
hole_is : {C : Type 0} (paid : C → Charge) (moment front front' low : ℕ) (bare : Bool) (since : Option ℕ) (before after : View) (fs : List (Frag C)) → Ascends low fs → after.held ≡ spread paid fs
    → before.front ≡ front → after.front ≡ front' → bare ≡ is_empty before.held → hole_after moment since before after ≡ hole_now moment front front' bare since fs
hole_is {C = C} paid moment front front' low bare since before after fs a h e f b = ap (λ ps. hole_after moment since before (record after { held = ps })) h ∙ by fs a
  where
    by : (gs : List (Frag C)) → Ascends low gs → hole_after moment since before (record after { held = spread paid gs }) ≡ hole_now moment front front' bare since gs
    by [] r = refl
    by (g ∷ gs) r = some g.cells r.1
      where
        some : (cells : List Cell) → 0 < length cells → hole_after moment since before (record after { held = charged_cells (paid g.charge) (cells_from g.at cells) ++ spread paid gs }) ≡ cond (not (front == front') || bare) (Some moment) since
        some [] n = absurd (omega arith)
        some (c ∷ cells) n = λ i. cond (not (e i == f i) || sym b i) (Some moment) since

-- What is kept behind what an entry passed, and behind its cut, stands for the entry.
shut_for : {C : Type 0} (paid : C → Charge) (k : Kept C) (cuts : Cuts) (way : Advance) (t : Terms) (d : Direction) (deed : Deed) (pieces : List Piece) → CutsFor t deed cuts
    → length (asks_for_runs (kind_of k.mode) d deed) ≡ length (looks_of deed) → counts_by (kind_of k.mode) d deed ≡ k.under.counts
    → HasPassed paid t (kind_of k.mode) d deed (lane_after k.under.moment k.lane (taken_by way k.frags)) (drop (length (taken_by way k.frags)) k.frags) pieces
    → moment_of deed ≡ k.under.moment → d.hole ≡ k.hole → d.view.front ≡ k.under.front → k.under.bare ≡ is_empty d.view.held
    → (direction_after t (kind_of k.mode) d deed).base ≡ k.base → (direction_after t (kind_of k.mode) d deed).sent ≡ k.sent → (direction_after t (kind_of k.mode) d deed).fin ≡ k.fin
    → ShutFor paid (advanced way cuts k) t d deed pieces
shut_for {C = C} paid k cuts way t d deed pieces c a n has mo ho fr ba e1 e2 e3 = split (copy_at cuts lane) (shut_stands paid t (kind_of k.mode) d deed cuts lane rest k.under.counts pieces c a n has)
  where
    lane : Lane C
    lane = lane_after k.under.moment k.lane (taken_by way k.frags)

    rest : List (Frag C)
    rest = drop (length (taken_by way k.frags)) k.frags

    hole : hole_after (moment_of deed) d.hole d.view (view_after t (kind_of k.mode) d deed) ≡ hole_now k.under.moment k.under.front lane.front k.under.bare k.hole rest
    hole =
        (λ i. hole_after (mo i) (ho i) d.view (view_after t (kind_of k.mode) d deed))
        ∙ hole_is paid k.under.moment k.under.front lane.front lane.front k.under.bare k.hole d.view (view_after t (kind_of k.mode) d deed) rest has.ascends has.held fr has.front ba

    split : (bytes : List ℕ) → Shut paid t (kind_of k.mode) d deed rest k.under.counts pieces (shut_lane cuts lane) bytes → ShutFor paid (record (advanced way cuts k) { work = copying bytes }) t d deed pieces
    split [] s = record { closing = s; behind = record { base = e1; sent = e2; fin = e3; hole = hole } }
    split (b ∷ bs) s = record { copying = s; behind = record { base = e1; sent = e2; fin = e3; hole = hole }; none = refl }

-- the next spare charge, or the end
pub gives_step : {C : Type 0} (paid : C → Charge) (k k' : Kept C) (step : Step C) (t : Terms) (d : Direction) (deed : Deed) (given : ℕ) (pieces : List Piece)
    → Closing paid t (kind_of k.mode) d deed given k.lane k.frags k.under.counts pieces → Settles k t (kind_of k.mode) d deed → k.work ≡ Giving
    → GivesNext k k' step → IsStep paid (StandsFor paid k') t (kind_of k.mode) d deed given pieces step
gives_step paid k k' (Ask bytes) t d deed given pieces h q w g = absurd g
gives_step {C = C} paid k k' (Free c) t d deed given pieces h q w g = (
  next_of paid t (kind_of k.mode) d deed given k.lane k.frags k.under.counts pieces h ∙ ap (λ cs. gives_at (map paid cs) 0) g.0,
  subst (λ x. StandsFor paid x d (Works t deed given) pieces) (sym g.1)
      (subst (λ v. StandsFor paid (record k { lane = record k.lane { spares = k'.lane.spares }; work = v }) d (Works t deed given) pieces) (sym w)
      (record { closing = give_one paid t (kind_of k.mode) d deed given k.lane k.frags k.under.counts pieces c k'.lane.spares h g.0; behind = record { base = q.base; sent = q.sent; fin = q.fin; hole = q.hole } })),
)
gives_step {C = C} paid k k' (Done counts) t d deed given pieces h q w g = (
  next_of paid t (kind_of k.mode) d deed given k.lane k.frags k.under.counts pieces h ∙ ap (λ cs. gives_at (map paid cs) 0) g.0,
  g.1 ∙ sym h.counts_are,
  subst (λ x. StandsFor paid x (direction_after t (kind_of k.mode) d deed) Rests (pieces ++ pieces_by t (kind_of k.mode) d deed)) (sym g.2) rests,
)
  where
    rests : RestsFor paid (record k { work = Idle }) (direction_after t (kind_of k.mode) d deed) (pieces ++ pieces_by t (kind_of k.mode) d deed)
    rests = record {
      meets = record { held = h.held; front = h.front; flows = h.lane_is.flows };
      lane = record { flows = h.lane_is.flows; pends = h.lane_is.pends; pieces_are = h.lane_is.pieces_are; spares_are = ap (map paid) g.0 };
      base = q.base;
      sent = q.sent;
      fin = q.fin;
      hole = q.hole;
    }

-- What follows behind the cut.
pub go_on_step : {C : Type 0} (paid : C → Charge) (k k' : Kept C) (step : Step C) (t : Terms) (d : Direction) (deed : Deed) (pieces : List Piece)
    → ShutFor paid k t d deed pieces → GoesOn k k' step → IsStep paid (StandsFor paid k') t (kind_of k.mode) d deed 0 pieces step
go_on_step {C = C} paid k k' step t d deed pieces h n = by k.work refl h
  where
    by : (work : Working) → k.work ≡ work → ShutFor paid (record k { work = work }) t d deed pieces → IsStep paid (StandsFor paid k') t (kind_of k.mode) d deed 0 pieces step
    by Idle e h = absurd h
    by Failed e h = absurd h
    by (Runs start ws) e h = absurd h
    by Giving e h = gives_step paid k k' step t d deed 0 pieces h.closing (record { base = h.behind.base; sent = h.behind.sent; fin = h.behind.fin; hole = h.behind.hole }) e (subst (λ b. AsksOrGives b k k' step) (ap bytes_next e) n)
    by (Copies bytes) e h =
        subst (λ (x : Step C × Kept C). IsStep paid (StandsFor paid x.1) t (kind_of k.mode) d deed 0 pieces x.0) (λ i. (sym asks.0 i, sym asks.1 i)) (
          asks_copy paid t (kind_of k.mode) d deed 0 bytes k.lane k.frags k.under.counts pieces h.copying,
          subst (λ v. StandsFor paid (record k { work = v }) d (Works t deed 0) pieces) (sym e)
              (record { copying = h.copying; behind = record { base = h.behind.base; sent = h.behind.sent; fin = h.behind.fin; hole = h.behind.hole }; none = refl }),
        )
      where
        asks : (step ≡ Ask (length bytes)) × (k' ≡ k) × (0 < length bytes)
        asks = subst (λ b. AsksOrGives b k k' step) (ap bytes_next e) n

-- Behind the last run parts are passed and cut.
pub closes_step : {C : Type 0} (paid : C → Charge) (k k' : Kept C) (step : Step C) (least overlap most : ℕ) (t : Terms) (d : Direction) (s : Segment) (looks : List LookEntry) (pieces : List Piece)
    → t.chunk ≡ least → t.overlap ≡ overlap → t.reorder ≡ most → bytes_next k.work ≡ None
    → Sorted paid t (kind_of k.mode) d s looks k.frags k.under.counts → Stays paid k (kind_of k.mode) d s pieces → AsksNext (cuts_for least overlap) most k k' step
    → IsStep paid (StandsFor paid k') t (kind_of k.mode) d (Arrives s looks) 0 pieces step
closes_step {C = C} paid k k' step least overlap most t d s looks pieces c o r e h y n =
    go_on_step paid (advanced way (cuts_for least overlap) k) k' step t d (Arrives s looks) pieces
    (shut_for paid k (cuts_for least overlap) way t d (Arrives s looks) pieces (record { chunk = c; overlap = o; times = refl }) h.asked h.counts_are has (sym y.moment) y.hole (sym y.before) y.bare
    (sym y.head.base) (sym y.head.sent) (sym y.head.fin))
    (subst (λ b. AsksBy b (cuts_for least overlap) most k k' step) e n)
  where
    way : Advance
    way = way_for k.mode most k.lane.front

    ascends : Ascends k.lane.front k.frags
    ascends = subst (λ m. Ascends m k.frags) y.front h.ascends

    has : HasPassed paid t (kind_of k.mode) d (Arrives s looks) (lane_after k.under.moment k.lane (taken_by way k.frags)) (drop (length (taken_by way k.frags)) k.frags) pieces
    has = passed_entry paid t (kind_of k.mode) d (Arrives s looks) way k.under.moment k.lane k.frags pieces (sym y.moment) h.held
        (gone_live paid t (kind_of k.mode) d s looks k.frags k.under.counts k.lane.front h y.front ascends ∙ ap (λ jumps. spread paid (pass jumps k.lane.front k.frags)) (impatience_is t k.mode most r)) ascends y.front y.lane

request_of : (start : ℤ) (w : Wait) → 0 < length w.bytes → (ask_for_run (placed_wait start w)).bytes ≡ length w.bytes
request_of start w n = by w.bytes n
  where
    length_placed : (at : ℕ) (bs : List ℕ) → length (placed_from at start bs) ≡ length bs
    length_placed at [] = refl
    length_placed at (b ∷ bs) = ap suc (length_placed (suc at) bs)

    by : (bs : List ℕ) → 0 < length bs → (ask_for_run (placed_from w.at start bs)).bytes ≡ length bs
    by [] m = absurd (omega arith)
    by (b ∷ bs) m = ap suc (length_placed (suc w.at) bs)

same_stays : {C : Type 0} (paid : C → Charge) (k : Kept C) (fs : List (Frag C)) (counts : Counts) (work : Working) (kind : Kind) (d : Direction) (s : Segment) (pieces : List Piece) → Stays paid k kind d s pieces
    → Stays paid (record k { frags = fs; under = record k.under { counts = counts }; work = work }) kind d s pieces
same_stays paid k fs counts work kind d s pieces y = record { lane = y.lane; front = y.front; head = record { base = y.head.base; sent = y.head.sent; fin = y.head.fin }; hole = y.hole; moment = y.moment; before = y.before; bare = y.bare }

-- While a run waits it is asked for.
pub asks_step : {C : Type 0} (paid : C → Charge) (k k' : Kept C) (step : Step C) (least overlap most : ℕ) (t : Terms) (d : Direction) (s : Segment) (looks : List LookEntry) (pieces : List Piece) (start : ℤ) (ws : List Wait)
    → t.chunk ≡ least → t.overlap ≡ overlap → t.reorder ≡ most → k.work ≡ Runs start ws
    → RunsFor paid k start ws t (kind_of k.mode) d s looks 0 pieces → AsksNext (cuts_for least overlap) most k k' step
    → IsStep paid (StandsFor paid k') t (kind_of k.mode) d (Arrives s looks) 0 pieces step
asks_step {C = C} paid k k' step least overlap most t d s looks pieces start [] c o r e h n =
    closes_step paid k k' step least overlap most t d s looks pieces c o r (ap bytes_next e) (sorted_all paid t (kind_of k.mode) d s looks start k.frags k.under.counts h.asking) h.stays n
asks_step {C = C} paid k k' step least overlap most t d s looks pieces start (w ∷ ws) c o r e h n =
    subst (λ (x : Step C × Kept C). IsStep paid (StandsFor paid x.1) t (kind_of k.mode) d (Arrives s looks) 0 pieces x.0) (λ i. (sym asks.0 i, sym asks.1 i)) (
      (ask_for_run (placed_wait start w), next_asks t (kind_of k.mode) d s looks 0 (placed_wait start w) (map (placed_wait start) ws) h.asking.runs, request_of start w h.asking.clear.1),
      subst (λ v. StandsFor paid (record k { work = v }) d (Works t (Arrives s looks) 0) pieces) (sym e)
          (record { asking = h.asking; stays = same_stays paid k k.frags k.under.counts (Runs start (w ∷ ws)) (kind_of k.mode) d s pieces h.stays; none = refl }),
    )
  where
    asks : (step ≡ Ask (length w.bytes)) × (k' ≡ k) × (0 < length w.bytes)
    asks = subst (λ b. AsksBy b (cuts_for least overlap) most k k' step) (ap bytes_next e) n

-- The ask is answered by a charge.
pub granted_step : {C : Type 0} (paid : C → Charge) (k k' : Kept C) (step : Step C) (least overlap most : ℕ) (t : Terms) (d : Direction) (s : Segment) (looks : List LookEntry) (given : ℕ) (pieces : List Piece) (start : ℤ) (w : Wait) (ws : List Wait)
    (look : LookEntry) (charge : C) → t.chunk ≡ least → t.overlap ≡ overlap → t.reorder ≡ most → k.work ≡ Runs start (w ∷ ws) → RunsFor paid k start (w ∷ ws) t (kind_of k.mode) d s looks given pieces
    → look.granted ≡ true → charge_of look ≡ paid charge → AsksNext (cuts_for least overlap) most (with_charge charge k) k' step
    → IsStep paid (StandsFor paid k') t (kind_of k.mode) d (Arrives s (looks ++ look ∷ [])) given pieces step
granted_step {C = C} paid k k' step least overlap most t d s looks given pieces start w ws look charge c o r e h g p n =
    subst (λ m. IsStep paid (StandsFor paid k') t (kind_of k.mode) d (Arrives s (looks ++ look ∷ [])) m pieces step) (sym h.none)
    (asks_step paid next k' step least overlap most t d s (looks ++ look ∷ []) pieces start ws c o r refl runs (subst (λ v. AsksNext (cuts_for least overlap) most (with_charge charge (record k { work = v })) k' step) e n))
  where
    next : Kept C
    next = with_charge charge (record k { work = Runs start (w ∷ ws) })

    runs : RunsFor paid next start ws t (kind_of k.mode) d s (looks ++ look ∷ []) 0 pieces
    runs = record {
      asking = grant_asking paid t (kind_of k.mode) d s looks start k.frags w ws k.under.counts look charge h.asking g p;
      stays = record { lane = h.stays.lane; front = h.stays.front; head = record { base = h.stays.head.base; sent = h.stays.head.sent; fin = h.stays.head.fin }; hole = h.stays.hole; moment = h.stays.moment; before = h.stays.before; bare = h.stays.bare };
      none = refl;
    }

-- It is refused.
pub refused_step : {C : Type 0} (paid : C → Charge) (k k' : Kept C) (step : Step C) (least overlap most : ℕ) (t : Terms) (d : Direction) (s : Segment) (looks : List LookEntry) (given : ℕ) (pieces : List Piece) (start : ℤ) (w : Wait) (ws : List Wait)
    (look : LookEntry) → t.chunk ≡ least → t.overlap ≡ overlap → t.reorder ≡ most → k.work ≡ Runs start (w ∷ ws) → RunsFor paid k start (w ∷ ws) t (kind_of k.mode) d s looks given pieces
    → look.granted ≡ false → AsksNext (cuts_for least overlap) most (with_none k) k' step
    → IsStep paid (StandsFor paid k') t (kind_of k.mode) d (Arrives s (looks ++ look ∷ [])) given pieces step
refused_step {C = C} paid k k' step least overlap most t d s looks given pieces start w ws look c o r e h g n =
    subst (λ m. IsStep paid (StandsFor paid k') t (kind_of k.mode) d (Arrives s (looks ++ look ∷ [])) m pieces step) (sym h.none)
    (closes_step paid (record k { work = Runs start [] }) k' step least overlap most t d s (looks ++ look ∷ []) pieces c o r refl
    (refuse_sorted paid t (kind_of k.mode) d s looks start k.frags w ws k.under.counts look h.asking g)
    (record { lane = h.stays.lane; front = h.stays.front; head = record { base = h.stays.head.base; sent = h.stays.head.sent; fin = h.stays.head.fin }; hole = h.stays.hole; moment = h.stays.moment; before = h.stays.before; bare = h.stays.bare })
    (subst (λ v. AsksNext (cuts_for least overlap) most (with_none (record k { work = v })) k' step) e n))

-- The ask for a run is answered.
pub told_run : {C : Type 0} (paid : C → Charge) (k k' : Kept C) (step : Step C) (least overlap most : ℕ) (t : Terms) (d : Direction) (deed : Deed) (given : ℕ) (pieces : List Piece) (look : LookEntry)
    (granted : Option C) → t.chunk ≡ least → t.overlap ≡ overlap → t.reorder ≡ most → IsRunning k.work → StandsFor paid k d (Works t deed given) pieces
    → IsLookOf paid granted look → AsksNext (cuts_for least overlap) most (with_answer granted k) k' step
    → IsStep paid (StandsFor paid k') t (kind_of k.mode) d (with_one_look look deed) given pieces step
told_run {C = C} paid k k' step least overlap most t d deed given pieces look granted c o r u h l n = by k.work deed refl u h
  where
    runs : (s : Segment) (looks : List LookEntry) (start : ℤ) (w : Wait) (ws : List Wait) → k.work ≡ Runs start (w ∷ ws) → RunsFor paid k start (w ∷ ws) t (kind_of k.mode) d s looks given pieces
        → (g : Option C) → IsLookOf paid g look → AsksNext (cuts_for least overlap) most (with_answer g k) k' step → IsStep paid (StandsFor paid k') t (kind_of k.mode) d (Arrives s (looks ++ look ∷ [])) given pieces step
    runs s looks start w ws e h None l n = refused_step paid k k' step least overlap most t d s looks given pieces start w ws look c o r e h l n
    runs s looks start w ws e h (Some charge) l n = granted_step paid k k' step least overlap most t d s looks given pieces start w ws look charge c o r e h l.0 l.1 n

    by : (work : Working) (deed : Deed) → k.work ≡ work → IsRunning work → StandsFor paid (record k { work = work }) d (Works t deed given) pieces → IsStep paid (StandsFor paid k') t (kind_of k.mode) d (with_one_look look deed) given pieces step
    by Idle deed e u h = absurd u
    by Failed deed e u h = absurd u
    by Giving deed e u h = absurd u
    by (Copies bytes) deed e u h = absurd u
    by (Runs start []) deed e u h = absurd h
    by (Runs start (w ∷ ws)) (Ends at) e u h = absurd h
    by (Runs start (w ∷ ws)) (Falls_due at looks) e u h = absurd h
    by (Runs start (w ∷ ws)) (Arrives s looks) e u h = runs s looks start w ws e (record { asking = h.asking; stays = record { lane = h.stays.lane; front = h.stays.front; head = record { base = h.stays.head.base; sent = h.stays.head.sent; fin = h.stays.head.fin }; hole = h.stays.hole; moment = h.stays.moment; before = h.stays.before; bare = h.stays.bare }; none = h.none }) granted l n

-- The ask for a copy is answered.
pub told_copy : {C : Type 0} (amount : C → ℕ) (paid : C → Charge) (k k' : Kept C) (step : Step C) (t : Terms) (d : Direction) (deed : Deed) (given : ℕ) (pieces : List Piece) (look : LookEntry) (granted : Option C)
    → IsCopying k.work → IfSome granted (λ charge. bytes_next k.work ≡ Some (amount charge)) → IsPaidBy amount paid → StandsFor paid k d (Works t deed given) pieces → IsLookOf paid granted look
    → GivesNext (with_answer granted k) k' step → IsStep paid (StandsFor paid k') t (kind_of k.mode) d (with_one_look look deed) given pieces step
told_copy {C = C} amount paid k k' step t d deed given pieces look granted u g p h l n = by k.work refl u h
  where
    by : (work : Working) → k.work ≡ work → IsCopying work → StandsFor paid (record k { work = work }) d (Works t deed given) pieces → IsStep paid (StandsFor paid k') t (kind_of k.mode) d (with_one_look look deed) given pieces step
    by Idle e u h = absurd u
    by Failed e u h = absurd u
    by Giving e u h = absurd u
    by (Runs start ws) e u h = absurd u
    by (Copies bytes) e u h = subst (λ m. IsStep paid (StandsFor paid k') t (kind_of k.mode) d (with_one_look look deed) m pieces step) (sym h.none)
        (heard granted l (subst (λ w. IfSome granted (λ charge. bytes_next w ≡ Some (amount charge))) e g) (subst (λ w. GivesNext (with_answer granted (record k { work = w })) k' step) e n))
      where
        kind : Kind
        kind = kind_of k.mode

        last : Pending
        last = last_pending t kind d deed

        b : IsAsBefore t kind d deed (with_one_look look deed) look
        b = as_before t kind d deed look h.copying.is_open h.copying.asked

        bare : (k.lane.chunk ≡ None) × (k.lane.copy ≡ None)
        bare = no_chunk paid k.lane.since k.lane.copy k.lane.chunk h.copying.lane_is.pends

        settles : (lane : Lane C) → Settles (record k { lane = lane; work = Giving }) t kind d (with_one_look look deed)
        settles lane = record {
          base = b.base ∙ h.behind.base;
          sent = b.sent ∙ h.behind.sent;
          fin = b.fin ∙ h.behind.fin;
          hole = (λ i. hole_after (b.moment i) d.hole d.view (b.view i)) ∙ h.behind.hole;
        }

        heard : (g : Option C) → IsLookOf paid g look → IfSome g (λ charge. Some (length bytes) ≡ Some (amount charge)) → GivesNext (with_answer g (record k { work = Copies bytes })) k' step
            → IsStep paid (StandsFor paid k') t kind d (with_one_look look deed) 0 pieces step
        heard None l a n = gives_step paid (record k { work = Giving }) k' step t d (with_one_look look deed) 0 pieces
            (subst (λ c. Closing paid t kind d (with_one_look look deed) 0 (record k.lane { copy = c }) k.frags k.under.counts pieces) (sym bare.1)
            (heard_copy paid t kind d deed (with_one_look look deed) look bytes None k.lane k.frags k.under.counts pieces h.copying b bare.0 (ap (λ x. x.copy) none) (ap (λ x. x.bytes) none) (ap (λ x. x.gap) none)))
            (settles k.lane) refl n
          where
            none : pending_behind t last (look ∷ []) ≡ nothing_pending
            none = behind_refused t last look h.copying.some l
        heard (Some charge) l a n = gives_step paid (record k { lane = record k.lane { copy = Some (bytes, charge) }; work = Giving }) k' step t d (with_one_look look deed) 0 pieces
            (heard_copy paid t kind d deed (with_one_look look deed) look bytes (Some (bytes, charge)) k.lane k.frags k.under.counts pieces h.copying b bare.0
            (ap (λ x. x.copy) some ∙ (λ i. Some (record { bytes = own i; charge = l.1 i }))) (ap (λ x. x.bytes) some) (ap (λ x. x.gap) some))
            (settles (record k.lane { copy = Some (bytes, charge) })) refl n
          where
            some : pending_behind t last (look ∷ []) ≡ record nothing_pending { copy = Some (record { bytes = last_bytes look.asked last.bytes; charge = charge_of look }) }
            some = behind_granted t last look h.copying.some l.0

            asked : look.asked ≡ length bytes
            asked = ap (λ x. x.bytes) l.1 ∙ p charge ∙ sym (ap (λ x. unwrap_or x 0) a)

            own : last_bytes look.asked last.bytes ≡ bytes
            own = ap (λ m. last_bytes m last.bytes) asked ∙ own_bytes paid t kind d deed bytes k.lane k.frags k.under.counts pieces h.copying

-- A charge was given back.
pub freed_step : {C : Type 0} (paid : C → Charge) (k k' : Kept C) (step : Step C) (t : Terms) (d : Direction) (deed : Deed) (given : ℕ) (pieces : List Piece)
    → StandsFor paid k d (Works t deed given) pieces → k.work ≡ Giving → GivesNext k k' step
    → IsStep paid (StandsFor paid k') t (kind_of k.mode) d deed (suc given) pieces step
freed_step {C = C} paid k k' step t d deed given pieces h w n = by (subst (λ v. StandsFor paid (record k { work = v }) d (Works t deed given) pieces) w h)
  where
    by : GivesFor paid (record k { work = Giving }) t (kind_of k.mode) d deed (suc given) pieces → IsStep paid (StandsFor paid k') t (kind_of k.mode) d deed (suc given) pieces step
    by g = gives_step paid k k' step t d deed (suc given) pieces g.closing (record { base = g.behind.base; sent = g.behind.sent; fin = g.behind.fin; hole = g.behind.hole }) w n

-- Before any segment.
pub new_rests : {C : Type 0} (paid : C → Charge) (k : Kept C) → k.base ≡ None → k.sent ≡ 0 → k.fin ≡ None → k.hole ≡ None → k.lane ≡ new_lane → k.frags ≡ [] → k.work ≡ Idle → StandsFor paid k untouched Rests []
new_rests {C = C} paid k b n f h l g w = subst (λ (x : Kept C). StandsFor paid x untouched Rests []) (λ i. record k { base = sym b i; sent = sym n i; fin = sym f i; hole = sym h i; lane = sym l i; frags = sym g i; work = sym w i }) made
  where
    made : RestsFor paid (record k { base = None; sent = 0; fin = None; hole = None; lane = new_lane; frags = []; work = Idle }) untouched []
    made = record {
      meets = record { held = refl; front = refl; flows = record { front_is = refl; gaps_are = refl; rises = tt } };
      lane = record { flows = record { front_is = refl; gaps_are = refl; rises = tt }; pends = (refl, refl, refl); pieces_are = refl; spares_are = refl };
      base = refl;
      sent = refl;
      fin = refl;
      hole = refl;
    }

-- A segment comes to a direction at rest.
pub rests_of : {C : Type 0} (paid : C → Charge) (k : Kept C) (d : Direction) (pieces : List Piece) → k.work ≡ Idle → StandsFor paid k d Rests pieces → RestsFor paid k d pieces
rests_of {C = C} paid k d pieces w h = by (subst (λ v. StandsFor paid (record k { work = v }) d Rests pieces) w h)
  where
    by : RestsFor paid (record k { work = Idle }) d pieces → RestsFor paid k d pieces
    by r = record { meets = r.meets; lane = r.lane; base = r.base; sent = r.sent; fin = r.fin; hole = r.hole }

pub begin_step : {C : Type 0} (paid : C → Charge) (k k' k'' : Kept C) (aim : Aim) (step : Step C) (least overlap most : ℕ) (policy : Policy) (moment : ℕ) (payload : List ℕ) (cutoff : Option ℕ) (t : Terms) (d : Direction) (s : Segment) (pieces : List Piece)
    → t.policy ≡ policy → t.chunk ≡ least → t.overlap ≡ overlap → t.reorder ≡ most → s.live ≡ true → s.moment ≡ moment → IsFor s payload cutoff → k.work ≡ Idle → StandsFor paid k d Rests pieces
    → (Tells k.base k.sent k.lane.front k.fin d → AimsAt aim (kind_of k.mode) d s)
    → ((pieces : List Piece) → t.policy ≡ policy → s.live ≡ true → s.moment ≡ moment → IsFor s payload cutoff → aim.start ≡ start_of (kind_of k.mode) d s
    → HeadIs (record k { base = Some aim.head.base.0; sent = aim.head.sent; fin = aim.head.fin; last = aim.head.last }) (kind_of k.mode) d s → d.hole ≡ k.hole
    → Meets paid k.lane k.frags d → LaneStands paid k.lane d.view.flow d.pending pieces [] → Enters paid k' t d s pieces)
    → k'.mode ≡ k.mode → AsksNext (cuts_for least overlap) most k' k'' step → IsStep paid (StandsFor paid k'') t (kind_of k.mode) d (Arrives s []) 0 pieces step
begin_step {C = C} paid k k' k'' aim step least overlap most policy moment payload cutoff t d s pieces p c o r l mo f w h a e m n =
    subst (λ x. IsStep paid (StandsFor paid k'') t (kind_of x) d (Arrives s []) 0 pieces step) m (by k'.work refl come)
  where
    rests : RestsFor paid k d pieces
    rests = rests_of paid k d pieces w h

    aims : AimsAt aim (kind_of k.mode) d s
    aims = a (record { base_is = rests.base; sent_is = rests.sent; front_is = rests.meets.front; fin_is = rests.fin })

    come : Enters paid k' t d s pieces
    come = e pieces p l mo f aims.start_is (record { base = ap (λ n. Some n) aims.base_is; sent = aims.sent_is; fin = aims.fin_is }) rests.hole rests.meets rests.lane

    by : (work : Working) → k'.work ≡ work → Enters paid (record k' { work = work }) t d s pieces → IsStep paid (StandsFor paid k'') t (kind_of k'.mode) d (Arrives s []) 0 pieces step
    by Idle q g = absurd g
    by Giving q g = absurd g
    by Failed q g = absurd g
    by (Copies bytes) q g = absurd g
    by (Runs start ws) q g = asks_step paid k' k'' step least overlap most t d s [] pieces start ws c o r q
        (record { asking = g.asking; stays = record { lane = g.stays.lane; front = g.stays.front; head = record { base = g.stays.head.base; sent = g.stays.head.sent; fin = g.stays.head.fin }; hole = g.stays.hole; moment = g.stays.moment; before = g.stays.before; bare = g.stays.bare }; none = refl }) n

-- an entry that brings nothing to be kept passes what it does
rest_step : {C : Type 0} (paid : C → Charge) (k k' : Kept C) (step : Step C) (cuts : Cuts) (way : Advance) (moment : ℕ) (counts : Counts) (t : Terms) (d : Direction) (deed : Deed) (pieces : List Piece)
    → CutsFor t deed cuts → length (asks_for_runs (kind_of k.mode) d deed) ≡ length (looks_of deed) → counts_by (kind_of k.mode) d deed ≡ counts → moment_of deed ≡ moment
    → held_with t (kind_of k.mode) d deed ≡ spread paid k.frags → gone_by t (kind_of k.mode) d deed ≡ spread paid (taken_by way k.frags)
    → Meets paid k.lane k.frags d → LaneStands paid k.lane d.view.flow d.pending pieces [] → Ascends k.lane.front k.frags → d.hole ≡ k.hole
    → (direction_after t (kind_of k.mode) d deed).base ≡ k.base → (direction_after t (kind_of k.mode) d deed).sent ≡ k.sent → (direction_after t (kind_of k.mode) d deed).fin ≡ k.fin
    → GoesOn (advanced way cuts (entered moment counts k)) k' step → IsStep paid (StandsFor paid k') t (kind_of k.mode) d deed 0 pieces step
rest_step {C = C} paid k k' step cuts way moment counts t d deed pieces c a n mo held gone m l asc ho e1 e2 e3 g =
    go_on_step paid (advanced way cuts (entered moment counts k)) k' step t d deed pieces
    (shut_for paid (entered moment counts k) cuts way t d deed pieces c a n
    (passed_entry paid t (kind_of k.mode) d deed way moment k.lane k.frags pieces mo held gone asc m.front l)
    mo ho m.front (bare k.lane.front k.frags asc ∙ ap is_empty (sym m.held)) e1 e2 e3) g
  where
    bare : (low : ℕ) (fs : List (Frag C)) → Ascends low fs → is_empty fs ≡ is_empty (spread paid fs)
    bare low [] q = refl
    bare low (f ∷ fs) q = some f.cells q.1
      where
        some : (cells : List Cell) → 0 < length cells → false ≡ is_empty (charged_cells (paid f.charge) (cells_from f.at cells) ++ spread paid fs)
        some [] n = absurd (omega arith)
        some (x ∷ cells) n = refl

-- A segment comes that is not live.
pub dead_step : {C : Type 0} (paid : C → Charge) (k k' : Kept C) (aim : Aim) (step : Step C) (least overlap : ℕ) (t : Terms) (d : Direction) (s : Segment) (pieces : List Piece)
    → t.chunk ≡ least → t.overlap ≡ overlap → s.live ≡ false → k.work ≡ Idle → StandsFor paid k d Rests pieces
    → (Tells k.base k.sent k.lane.front k.fin d → AimsAt aim (kind_of k.mode) d s) → Ascends k.lane.front k.frags
    → GoesOn (advanced Stay (cuts_for least overlap) (entered s.moment (late_of (length s.payload)) (record k { base = Some aim.head.base.0; sent = aim.head.sent; fin = aim.head.fin; last = aim.head.last }))) k' step
    → IsStep paid (StandsFor paid k') t (kind_of k.mode) d (Arrives s []) 0 pieces step
dead_step {C = C} paid k k' aim step least overlap t d s pieces c o l w h a asc n =
    rest_step paid (record k { base = Some aim.head.base.0; sent = aim.head.sent; fin = aim.head.fin; last = aim.head.last }) k' step (cuts_for least overlap) Stay s.moment (late_of (length s.payload)) t d (Arrives s []) pieces
    (record { chunk = c; overlap = o; times = refl }) (asks s.live l) (counts s.live l) refl (held s.live l ∙ rests.meets.held) (gone s.live l) rests.meets rests.lane asc rests.hole
    (ap (λ n. Some n) (sym aims.base_is)) (sym aims.sent_is) (sym aims.fin_is) n
  where
    rests : RestsFor paid k d pieces
    rests = rests_of paid k d pieces w h

    aims : AimsAt aim (kind_of k.mode) d s
    aims = a (record { base_is = rests.base; sent_is = rests.sent; front_is = rests.meets.front; fin_is = rests.fin })

    kind : Kind
    kind = kind_of k.mode

    asks : (b : Bool) → b ≡ false → length (asks_for_runs kind d (Arrives (record s { live = b }) [])) ≡ 0
    asks true e = absurd (cc)
    asks false e = refl

    counts : (b : Bool) → b ≡ false → counts_by kind d (Arrives (record s { live = b }) []) ≡ late_of (length s.payload)
    counts true e = absurd (cc)
    counts false e = refl

    held : (b : Bool) → b ≡ false → held_with t kind d (Arrives (record s { live = b }) []) ≡ d.view.held
    held true e = absurd (cc)
    held false e = refl

    gone : (b : Bool) → b ≡ false → gone_by t kind d (Arrives (record s { live = b }) []) ≡ []
    gone true e = absurd (cc)
    gone false e = refl

-- A hole or a flush falls due.
due_is : (t : Terms) (hole at : ℕ) (since : Option ℕ) → t.hole ≡ hole → is_hole_due t at since ≡ is_due hole at since
due_is t hole at None e = refl
due_is t hole at (Some since) e = ap (λ h. since + h == at) e

pub due_step : {C : Type 0} (paid : C → Charge) (k k' : Kept C) (step : Step C) (size overlap flush hole at : ℕ) (t : Terms) (d : Direction) (pieces : List Piece)
    → t.chunk ≡ size → t.overlap ≡ overlap → t.flush ≡ flush → t.hole ≡ hole → k.work ≡ Idle → StandsFor paid k d Rests pieces → Ascends k.lane.front k.frags
    → GoesOn (advanced (due_way hole at k) (due_cuts size overlap flush at) (entered at no_counts k)) k' step
    → IsStep paid (StandsFor paid k') t (kind_of k.mode) d (Falls_due at []) 0 pieces step
due_step {C = C} paid k k' step size overlap flush hole at t d pieces c o f q w h asc n =
    rest_step paid k k' step (due_cuts size overlap flush at) (due_way hole at k) at no_counts t d (Falls_due at []) pieces
    (record { chunk = c; overlap = o; times = (f, refl) }) refl refl refl rests.meets.held (gone (is_due hole at k.hole) refl) rests.meets rests.lane asc rests.hole rests.base rests.sent rests.fin n
  where
    rests : RestsFor paid k d pieces
    rests = rests_of paid k d pieces w h

    due : is_hole_due t at d.hole ≡ is_due hole at k.hole
    due = due_is t hole at d.hole q ∙ ap (is_due hole at) rests.hole

    gone : (b : Bool) → is_due hole at k.hole ≡ b → gone_by t (kind_of k.mode) d (Falls_due at []) ≡ spread paid (taken_by (cond b (From (first_at k.lane.front k.frags) Never) Stay) k.frags)
    gone true e = gone_due paid t (kind_of k.mode) d at [] k.frags k.lane.front (due ∙ e) rests.meets.held rests.meets.front asc
    gone false e = ap (λ b. cond b (passed never (least d.view.front d.view.held) d.view.held) []) (due ∙ e)

-- The first of the pieces that are to be taken.
pub takes_first : {C : Type 0} (paid : C → Charge) (k k' : Kept C) (d : Direction) (pieces : List Piece) (result : Option (ChunkParts C)) → k.work ≡ Idle → StandsFor paid k d Rests pieces
    → k' ≡ record k { lane = record k.lane { closed = k'.lane.closed } } → k.lane.closed ≡ option_to_list (option_map bundle_for result) ++ k'.lane.closed → (IsNone result → k'.lane.closed ≡ [])
    → IsFirst paid (StandsFor paid k' d Rests) pieces result
takes_first {C = C} paid k k' d pieces result w h e q n = by result q n
  where
    rests : RestsFor paid k d pieces
    rests = rests_of paid k d pieces w h

    left : StandsFor paid k' d Rests (map (piece_in paid) k'.lane.closed)
    left =
        subst (λ (x : Kept C). StandsFor paid x d Rests (map (piece_in paid) k'.lane.closed)) (sym e)
        (subst (λ v. StandsFor paid (record k { lane = record k.lane { closed = k'.lane.closed }; work = v }) d Rests (map (piece_in paid) k'.lane.closed)) (sym w)
        (record {
          meets = record { held = rests.meets.held; front = rests.meets.front; flows = rests.meets.flows };
          lane = record { flows = rests.lane.flows; pends = rests.lane.pends; pieces_are = refl; spares_are = rests.lane.spares_are };
          base = rests.base;
          sent = rests.sent;
          fin = rests.fin;
          hole = rests.hole;
        }))

    by : (result : Option (ChunkParts C)) → k.lane.closed ≡ option_to_list (option_map bundle_for result) ++ k'.lane.closed → (IsNone result → k'.lane.closed ≡ []) → IsFirst paid (StandsFor paid k' d Rests) pieces result
    by None q n = (none, subst (λ ps. StandsFor paid k' d Rests ps) (ap (map (piece_in paid)) (n refl)) left)
      where
        none : pieces ≡ []
        none = sym rests.lane.pieces_are ∙ ap (map (piece_in paid)) (q ∙ n refl)
    by (Some chunk) q n = (map (piece_in paid) k'.lane.closed, sym rests.lane.pieces_are ∙ ap (map (piece_in paid)) q, left)

-- what it tells of itself at rest
pub front_stands : {C : Type 0} (paid : C → Charge) (k : Kept C) (d : Direction) (pieces : List Piece) (front : ℕ) → front ≡ k.lane.front → StandsFor paid k d Rests pieces → front ≡ d.view.front
front_stands {C = C} paid k d pieces front e h = by k.work h
  where
    by : (work : Working) → StandsFor paid (record k { work = work }) d Rests pieces → front ≡ d.view.front
    by Idle h = e ∙ sym h.meets.front
    by Giving h = absurd h
    by Failed h = absurd h
    by (Copies bytes) h = absurd h
    by (Runs start []) h = absurd h
    by (Runs start (w ∷ ws)) h = absurd h

pub fin_stands : {C : Type 0} (paid : C → Charge) (k : Kept C) (d : Direction) (pieces : List Piece) (fin : Option ℕ) → fin ≡ k.fin → StandsFor paid k d Rests pieces → fin ≡ d.fin
fin_stands {C = C} paid k d pieces fin e h = by k.work h
  where
    by : (work : Working) → StandsFor paid (record k { work = work }) d Rests pieces → fin ≡ d.fin
    by Idle h = e ∙ sym h.fin
    by Giving h = absurd h
    by Failed h = absurd h
    by (Copies bytes) h = absurd h
    by (Runs start []) h = absurd h
    by (Runs start (w ∷ ws)) h = absurd h

pub base_stands : {C : Type 0} (paid : C → Charge) (k : Kept C) (d : Direction) (pieces : List Piece) (base : Option ℕ) → base ≡ k.base → StandsFor paid k d Rests pieces → base ≡ d.base
base_stands {C = C} paid k d pieces base e h = by k.work h
  where
    by : (work : Working) → StandsFor paid (record k { work = work }) d Rests pieces → base ≡ d.base
    by Idle h = e ∙ sym h.base
    by Giving h = absurd h
    by Failed h = absurd h
    by (Copies bytes) h = absurd h
    by (Runs start []) h = absurd h
    by (Runs start (w ∷ ws)) h = absurd h

-- what rests is idle
pub rests_idle : {C : Type 0} (paid : C → Charge) (k : Kept C) (d : Direction) (pieces : List Piece) → (k.work ≡ Idle → ⊥) → StandsFor paid k d Rests pieces → IsFirst paid (StandsFor paid k d Rests) pieces None
rests_idle {C = C} paid k d pieces f h = by k.work refl f h
  where
    by : (work : Working) → k.work ≡ work → (work ≡ Idle → ⊥) → StandsFor paid (record k { work = work }) d Rests pieces → IsFirst paid (StandsFor paid k d Rests) pieces None
    by Idle e f h = absurd (f refl)
    by Giving e f h = absurd h
    by (Copies bytes) e f h = absurd h
    by Failed e f h = absurd h
    by (Runs start []) e f h = absurd h
    by (Runs start (w ∷ ws)) e f h = absurd h
