-- What is left behind each step.
use Rattle.std.specs.Prelude.{◌≡◌, refl, ℤ, ℕ, suc, ◌+◌, ◌*◌, ◌<◌, ◌≤◌, Bool, true, false, cond, not, ◌&&◌, ◌||◌, ◌==◌, nat_lt, nat_le, List, [], ◌∷◌, ◌++◌, length, drop, Option, Some, None, is_some, option_map, option_to_list, IsSome}
use Rattle.std.proofs.Common.{sym, ◌∙◌, ap, subst, arith}
use Rattle.std.proofs.lemmas.Bool.Decides.{nat_tests}
use Rattle.std.proofs.lemmas.List.{length-append}
use Rattle.streamdefs.specs.View.{always}
use Rattle.streamdefs.specs.Lists.{is_empty}
use Rattle.streamdefs.specs.Direction.{Counts}
use Rattle.chunkpart.specs.ChunkParts.{ChunkParts}
use Rattle.reorder.specs.Frags.{Frag, put, pass, size, end_of, cells_of}
use Rattle.flowdir.specs.declared.cuts.Cuts.{Cuts}
use Rattle.flowdir.specs.declared.advance.Advance.{Advance}
use Rattle.flowdir.specs.declared.advance.Advance.TheVariants.{Stay, From}
use Rattle.flowdir.specs.declared.step.Step.{Step}
use Rattle.flowdir.specs.declared.step.Step.TheVariants.{Ask, Free, Done}
use Rattle.flowdir.specs.Lane.{Bundle, Lane, part_of, charge_in, chunk_at, since_at, behind_gap, opened, with_part, lane_with, lane_after, cut_lane, bundle_for}
use Rattle.flowdir.specs.Passing.{taken_by, jumps_by}
use Rattle.flowdir.specs.Asking.{Wait}
use Rattle.flowdir.specs.Boundary.{least_of}
use Rattle.flowdir.specs.declared.rule.Rule.{Rule}
use Rattle.flowdir.specs.declared.rule.Rule.TheVariants.{Never}
use Rattle.flowdir.specs.Closing.{is_ready, is_flushed, is_shut, shut_lane, last_fresh, copy_at, flush_at}
use Rattle.flowdir.specs.Kept.{Kept, Working, IsRunning, IsCopying, IsShut, bytes_next, copying, advanced, entered, ended_on, hole_now, is_due, first_at, due_way, due_cuts, way_for, with_answer, GivesNext, GoesOn, AsksNext}
use Rattle.flowdir.specs.Kept.Working.{Idle, Runs, Copies, Giving, Failed}
use Rattle.flowdir.specs.Left.{count_of, grants_held, grants_with, grants_left, work_held, work_with, work_left, Adds, Lowers, due_at}
use Rattle.flowdir.proofs.Advancing.{taken_parts}
use Rattle.flowdir.proofs.Asked.{pass_parts}

pub count_few : {A : Type 0} (x : Option A) → count_of x ≤ 1
count_few None = omega arith
count_few (Some x) = omega arith

list_count : {A : Type 0} (x : Option A) → length (option_to_list x) ≡ count_of x
list_count None = refl
list_count (Some x) = refl

charge_count : {C : Type 0} (x : Option (List ℕ × C)) → length (charge_in x) ≡ count_of x
charge_count None = refl
charge_count (Some x) = refl

-- Parts that are passed open a chunk each at most, and close one each at most.
record Shifts {C : Type 0} (m : ℕ) (lane lane' : Lane C) : Type 0 where
  closed : length lane'.closed + count_of lane'.chunk ≤ length lane.closed + count_of lane.chunk + m
  grows : length lane.closed ≤ length lane'.closed
  spares : length lane'.spares + count_of lane'.copy ≤ length lane.spares + count_of lane.copy

opened_shifts : {C : Type 0} (moment at : ℕ) (part : List ℕ × C) (lane : Lane C) → Shifts 1 lane (with_part part (opened moment at lane))
opened_shifts {C = C} moment at part lane = by (at == lane.front)
  where
    by : (b : Bool) → Shifts 1 lane (with_part part (cond b (record lane { chunk = Some (chunk_at at lane.copy lane.chunk); copy = None; since = since_at moment lane.since lane.chunk }) (behind_gap moment at lane)))
    by true = record { closed = omega arith; grows = omega arith; spares = omega arith }
    by false = record {
      closed = omega (arith, length-append lane.closed (option_to_list lane.chunk), list_count lane.chunk);
      grows = omega (arith, length-append lane.closed (option_to_list lane.chunk));
      spares = omega (arith, length-append lane.spares (charge_in lane.copy), charge_count lane.copy);
    }

shifts_none : {C : Type 0} (lane : Lane C) → Shifts 0 lane lane
shifts_none lane = record { closed = omega arith; grows = omega arith; spares = omega arith }

shifts_on : {C : Type 0} (n : ℕ) (lane mid lane' : Lane C) → Shifts 1 lane mid → Shifts n mid lane' → Shifts (suc n) lane lane'
shifts_on n lane mid lane' a b = record { closed = omega (arith, a.closed, b.closed); grows = omega (arith, a.grows, b.grows); spares = omega (arith, a.spares, b.spares) }

after_shifts : {C : Type 0} (moment : ℕ) (lane : Lane C) (fs : List (Frag C)) → Shifts (length fs) lane (lane_after moment lane fs)
after_shifts moment lane [] = shifts_none lane
after_shifts moment lane (f ∷ fs) = shifts_on (length fs) lane (lane_with moment lane f) (lane_after moment (lane_with moment lane f) fs) (opened_shifts moment f.at (part_of f) lane) (after_shifts moment (lane_with moment lane f) fs)

-- what is under way behind a cut
abbrev shut_work : List ℕ → ℕ
shut_work [] = 1
shut_work (b ∷ bs) = 3

abbrev shut_grants : List ℕ → ℕ
shut_grants [] = 0
shut_grants (b ∷ bs) = 1

work_shut : (bytes : List ℕ) (n : ℕ) → work_with (copying bytes) n ≡ shut_work bytes + n
work_shut [] n = omega arith
work_shut (b ∷ bs) n = omega arith

grants_shut : (bytes : List ℕ) (n : ℕ) → grants_with (copying bytes) n ≡ shut_grants bytes + n
grants_shut [] n = omega arith
grants_shut (b ∷ bs) n = omega arith

shut_few : (bytes : List ℕ) → (shut_work bytes ≤ 3) × (shut_grants bytes ≤ 1)
shut_few [] = (omega arith, omega arith)
shut_few (b ∷ bs) = (omega arith, omega arith)

-- a cut hands a chunk over, for which a copy may be asked for
record Shuts {C : Type 0} (b : Bool) (bytes : List ℕ) (lane lane' : Lane C) : Type 0 where
  grants : shut_grants bytes + count_of lane'.chunk ≤ count_of lane.chunk
  work : shut_work bytes + (6 * count_of lane'.chunk + length lane'.closed) + cond b 2 0 ≤ 6 * count_of lane.chunk + length lane.closed + cond b 0 1
  copy : count_of lane'.copy ≡ count_of lane.copy
  spares : length lane'.spares ≡ length lane.spares

cut_shuts : {C : Type 0} (cuts : Cuts) (lane : Lane C) → Shuts (is_shut cuts lane) (copy_at cuts lane) lane (shut_lane cuts lane)
cut_shuts {C = C} cuts lane = by lane.chunk
  where
    made : (chunk : Bundle C) (b : Bool) → Shuts b (cond b (last_fresh cuts.overlap (Some chunk)) []) (record lane { chunk = Some chunk }) (cond b (cut_lane (record lane { chunk = Some chunk })) (record lane { chunk = Some chunk }))
    made chunk true = record {
      grants = omega (arith, (shut_few (last_fresh cuts.overlap (Some chunk))).1);
      work = omega (arith, (shut_few (last_fresh cuts.overlap (Some chunk))).0, length-append lane.closed (chunk ∷ []));
      copy = refl;
      spares = refl;
    }
    made chunk false = record { grants = omega arith; work = omega arith; copy = refl; spares = refl }

    by : (chunk : Option (Bundle C)) → Shuts (is_shut cuts (record lane { chunk = chunk })) (copy_at cuts (record lane { chunk = chunk })) (record lane { chunk = chunk }) (shut_lane cuts (record lane { chunk = chunk }))
    by None = record { grants = omega arith; work = omega arith; copy = refl; spares = refl }
    by (Some chunk) = made chunk (is_shut cuts (record lane { chunk = Some chunk }))

-- behind what an entry passes and cuts
taken_count : {C : Type 0} (way : Advance) (fs : List (Frag C)) → length fs ≡ length (taken_by way fs) + length (drop (length (taken_by way fs)) fs)
taken_count way fs = ap length (taken_parts way fs) ∙ length-append (taken_by way fs) (drop (length (taken_by way fs)) fs)

least_work : (b : Bool) (x y : ℕ) → x + cond b 2 0 ≤ y + cond b 0 1 → x ≤ y + 1
least_work true x y h = omega (arith, h)
least_work false x y h = omega (arith, h)

pub finished_left : {C : Type 0} (way : Advance) (cuts : Cuts) (k : Kept C) → (grants_left (advanced way cuts k) ≤ grants_held k) × (work_left (advanced way cuts k) ≤ work_held k + 3)
finished_left {C = C} way cuts k = (
  omega (arith, grants_shut bytes (grants_held (advanced way cuts k)), shut.grants, shift.closed, shift.grows, taken_count way k.frags, count_few k.lane.chunk, count_few lane.chunk),
  omega (arith, work_shut bytes (work_held (advanced way cuts k)), work, shut.copy, shut.spares, shift.closed, shift.grows, shift.spares, taken_count way k.frags, count_few k.lane.chunk, count_few lane.chunk, count_few (advanced way cuts k).hole),
)
  where
    lane : Lane C
    lane = lane_after k.under.moment k.lane (taken_by way k.frags)

    bytes : List ℕ
    bytes = copy_at cuts lane

    shift : Shifts (length (taken_by way k.frags)) k.lane lane
    shift = after_shifts k.under.moment k.lane (taken_by way k.frags)

    shut : Shuts (is_shut cuts lane) bytes lane (shut_lane cuts lane)
    shut = cut_shuts cuts lane

    work : shut_work bytes + (6 * count_of (shut_lane cuts lane).chunk + length (shut_lane cuts lane).closed) ≤ 6 * count_of lane.chunk + length lane.closed + 1
    work = least_work (is_shut cuts lane) _ _ shut.work

-- An answer.
put_count : {C : Type 0} (f : Frag C) (fs : List (Frag C)) → length (put f fs) ≡ suc (length fs)
put_count f [] = refl
put_count {C = C} f (g ∷ gs) = by (nat_lt g.at f.at) (put_count f gs)
  where
    by : (b : Bool) → length (put f gs) ≡ suc (length gs) → length (cond b (g ∷ put f gs) (f ∷ g ∷ gs)) ≡ suc (suc (length gs))
    by true h = ap suc h
    by false h = refl

pub answer_left : {C : Type 0} (granted : Option C) (k : Kept C) → IsRunning k.work → IsSome (bytes_next k.work) → (grants_left (with_answer granted k) + count_of granted ≤ grants_left k) × (work_left (with_answer granted k) + 4 ≤ work_left k)
answer_left {C = C} granted k r s = by granted k.work r s
  where
    by : (granted : Option C) (work : Working) → IsRunning work → IsSome (bytes_next work)
        → (grants_left (with_answer granted (record k { work = work })) + count_of granted ≤ grants_left (record k { work = work })) × (work_left (with_answer granted (record k { work = work })) + 4 ≤ work_left (record k { work = work }))
    by (Some c) (Runs start (w ∷ ws)) r s =
        let f : Frag C = record { at = w.at; cells = cells_of start w.bytes; charge = c } in
        (omega (arith, put_count f k.frags), omega (arith, put_count f k.frags))
    by None (Runs start (w ∷ ws)) r s = (omega arith, omega arith)
    by granted (Runs start []) r s = absurd (cc)
    by granted (Copies bytes) r s = absurd r
    by granted Idle r s = absurd r
    by granted Giving r s = absurd r
    by granted Failed r s = absurd r

pub copy_left : {C : Type 0} (granted : Option C) (k : Kept C) → IsCopying k.work → (grants_left (with_answer granted k) + count_of granted ≤ grants_left k) × (work_left (with_answer granted k) + 1 ≤ work_left k)
copy_left {C = C} granted k r = by granted k.work r
  where
    by : (granted : Option C) (work : Working) → IsCopying work
        → (grants_left (with_answer granted (record k { work = work })) + count_of granted ≤ grants_left (record k { work = work })) × (work_left (with_answer granted (record k { work = work })) + 1 ≤ work_left (record k { work = work }))
    by (Some c) (Copies bytes) r = (omega arith, omega arith)
    by None (Copies bytes) r = (omega arith, omega arith)
    by granted (Runs start ws) r = absurd r
    by granted Idle r = absurd r
    by granted Giving r = absurd r
    by granted Failed r = absurd r

-- The next charge, or the end of the entry.
pub gives_left : {C : Type 0} (k k' : Kept C) (step : Step C) → k.work ≡ Giving → GivesNext k k' step → (grants_left k' ≤ grants_left k) × (work_left k' + 1 ≤ work_left k)
gives_left {C = C} k k' (Ask bytes) w g = absurd g
gives_left {C = C} k k' (Free c) w g = (
  omega (arith, ap grants_left g.1, ap (λ v. grants_with v (grants_held k)) w),
  omega (arith, ap work_left g.1, ap (λ v. work_with v (work_held k)) w, ap (λ v. work_with v (work_held (record k { lane = record k.lane { spares = k'.lane.spares } }))) w, ap length g.0),
)
gives_left {C = C} k k' (Done counts) w g = (
  omega (arith, ap grants_left g.2, ap (λ v. grants_with v (grants_held k)) w),
  omega (arith, ap work_left g.2, ap (λ v. work_with v (work_held k)) w),
)

pub goes_left : {C : Type 0} (k k' : Kept C) (step : Step C) → IsShut k.work → GoesOn k k' step → (grants_left k' ≤ grants_left k) × (work_left k' ≤ work_left k)
goes_left {C = C} k k' step s g = by k.work refl s g
  where
    by : (work : Working) → k.work ≡ work → IsShut work → GoesOn (record k { work = work }) k' step → (grants_left k' ≤ grants_left k) × (work_left k' ≤ work_left k)
    by (Copies bytes) e s g = (omega (arith, ap grants_left g.1, ap (λ v. grants_with v (grants_held k)) e), omega (arith, ap work_left g.1, ap (λ v. work_with v (work_held k)) e))
    by Giving e s g = let h = gives_left (record k { work = Giving }) k' step refl g in (omega (arith, h.0, ap (λ v. grants_with v (grants_held k)) e), omega (arith, h.1, ap (λ v. work_with v (work_held k)) e))
    by Idle e s g = absurd s
    by (Runs start ws) e s g = absurd s
    by Failed e s g = absurd s

shut_copying : (bytes : List ℕ) → IsShut (copying bytes)
shut_copying [] = tt
shut_copying (b ∷ bs) = tt

advanced_shut : {C : Type 0} (way : Advance) (cuts : Cuts) (k : Kept C) → IsShut (advanced way cuts k).work
advanced_shut way cuts k = shut_copying (copy_at cuts (lane_after k.under.moment k.lane (taken_by way k.frags)))

-- Behind an answer to the ask for a run the next run is asked for, or the entry passes and cuts.
pub asks_left : {C : Type 0} (cuts : Cuts) (most : ℕ) (k k' : Kept C) (step : Step C) → IsRunning k.work → AsksNext cuts most k k' step → (grants_left k' ≤ grants_left k) × (work_left k' ≤ work_left k + 3)
asks_left {C = C} cuts most k k' step r a = by k.work refl r a
  where
    by : (work : Working) → k.work ≡ work → IsRunning work → AsksNext cuts most (record k { work = work }) k' step → (grants_left k' ≤ grants_left k) × (work_left k' ≤ work_left k + 3)
    by (Runs start (w ∷ ws)) e r a = (omega (arith, ap grants_left a.1, ap (λ v. grants_with v (grants_held k)) e), omega (arith, ap work_left a.1, ap (λ v. work_with v (work_held k)) e))
    by (Runs start []) e r a =
        let way = way_for k.mode most k.lane.front in
        let h = goes_left (advanced way cuts k) k' step (advanced_shut way cuts k) a in
        let f = finished_left way cuts k in
        (omega (arith, h.0, f.0, ap (λ v. grants_with v (grants_held k)) e), omega (arith, h.1, f.1, ap (λ v. work_with v (work_held k)) e))
    by (Copies bytes) e r a = absurd r
    by Idle e r a = absurd r
    by Giving e r a = absurd r
    by Failed e r a = absurd r

pub run_lowers : {C : Type 0} (granted : Option C) (cuts : Cuts) (most : ℕ) (k k' : Kept C) (step : Step C) → IsRunning k.work → IsRunning (with_answer granted k).work → IsSome (bytes_next k.work) → AsksNext cuts most (with_answer granted k) k' step → Lowers granted k k'
run_lowers granted cuts most k k' step r r' s a =
    let h = answer_left granted k r s in
    let g = asks_left cuts most (with_answer granted k) k' step r' a in
    record { grants_less = omega (arith, h.0, g.0); work_less = omega (arith, h.1, g.1) }

pub copy_lowers : {C : Type 0} (granted : Option C) (k k' : Kept C) (step : Step C) → IsCopying k.work → (with_answer granted k).work ≡ Giving → GivesNext (with_answer granted k) k' step → Lowers granted k k'
copy_lowers granted k k' step r w g =
    let h = copy_left granted k r in
    let f = gives_left (with_answer granted k) k' step w g in
    record { grants_less = omega (arith, h.0, f.0); work_less = omega (arith, h.1, f.1) }

pub free_lowers : {C : Type 0} (k k' : Kept C) (step : Step C) → k.work ≡ Giving → GivesNext k k' step → Lowers {C = C} None k k'
free_lowers k k' step w g = let h = gives_left k k' step w g in record { grants_less = omega (arith, h.0); work_less = omega (arith, h.1) }

-- at rest what is left is what is held
idle_left : {C : Type 0} (k : Kept C) → k.work ≡ Idle → (grants_left k ≡ grants_held k) × (work_left k ≡ work_held k)
idle_left k e = (ap (λ v. grants_with v (grants_held k)) e, ap (λ v. work_with v (work_held k)) e)

-- An entry that brings no byte to be kept.
pub entry_adds : {C : Type 0} (way : Advance) (cuts : Cuts) (moment : ℕ) (counts : Counts) (k k' : Kept C) (step : Step C) → k.work ≡ Idle → GoesOn (advanced way cuts (entered moment counts k)) k' step → Adds 0 3 k k'
entry_adds way cuts moment counts k k' step e g =
    let h = goes_left (advanced way cuts (entered moment counts k)) k' step (advanced_shut way cuts (entered moment counts k)) g in
    let f = finished_left way cuts (entered moment counts k) in
    let i = idle_left k e in
    record { grants_most = omega (arith, h.0, f.0, i.0); work_most = omega (arith, h.1, f.1, i.1) }

-- A direction ends.
pub end_adds : {C : Type 0} (at : ℕ) (k k' : Kept C) (step : Step C) → k.work ≡ Idle → GivesNext (ended_on at k) k' step → Adds 0 0 k k'
end_adds {C = C} at k k' step e g =
    let h = gives_left (ended_on at k) k' step refl g in
    let i = idle_left k e in
    record {
      grants_most = omega (arith, h.0, i.0, shift.closed, shift.grows, counted, count_few k.lane.chunk, count_few lane.chunk);
      work_most = omega (arith, h.1, i.1, shift.closed, shift.grows, shift.spares, counted, count_few k.lane.chunk, count_few lane.chunk, length-append lane.closed (option_to_list lane.chunk), list_count lane.chunk, length-append lane.spares (charge_in lane.copy), charge_count lane.copy);
    }
  where
    parts : List (Frag C)
    parts = pass always k.lane.front k.frags

    lane : Lane C
    lane = lane_after at k.lane parts

    shift : Shifts (length parts) k.lane lane
    shift = after_shifts at k.lane parts

    counted : length k.frags ≡ length parts + length (drop (length parts) k.frags)
    counted = ap length (pass_parts always k.lane.front k.frags) ∙ length-append parts (drop (length parts) k.frags)

-- A segment's runs wait.
pub enter_adds : {C : Type 0} (n : ℕ) (start : ℤ) (ws : List Wait) (k k' : Kept C) → k.work ≡ Idle → k'.work ≡ Runs start ws → length ws ≤ n → length k'.frags ≡ length k.frags → k'.lane ≡ k.lane → k'.hole ≡ k.hole → Adds (2 * n) (14 * n) k k'
enter_adds {C = C} n start ws k k' e e' w f l h =
    record { grants_most = omega (arith, grants, w, (idle_left k e).0, ap (λ v. grants_with v (grants_held k')) e'); work_most = omega (arith, held, w, (idle_left k e).1, ap (λ v. work_with v (work_held k')) e') }
  where
    held : work_held k' ≡ work_held k
    held = λ i. 10 * f i + 6 * count_of (l i).chunk + count_of (l i).copy + length (l i).closed + length (l i).spares + 2 * count_of (h i)

    grants : grants_held k' ≡ grants_held k
    grants = λ i. f i + count_of (l i).chunk

-- A live segment: what its header says is kept, its runs wait, and the first one is asked for.
pub live_adds : {C : Type 0} (n : ℕ) (cuts : Cuts) (most : ℕ) (k noted mid k' : Kept C) (step : Step C) → (grants_left noted ≡ grants_left k) × (work_left noted ≡ work_left k) → Adds (2 * n) (14 * n) noted mid → IsRunning mid.work → AsksNext cuts most mid k' step → Adds (2 * n) (14 * n + 3) k k'
live_adds n cuts most k noted mid k' step s m r a =
    let h = asks_left cuts most mid k' step r a in
    record { grants_most = omega (arith, s.0, m.grants_most, h.0); work_most = omega (arith, s.1, m.work_most, h.1) }

-- What falls due lowers what is left: a hole passes a part, or is none; a flush hands a chunk over.
equal_self : (n : ℕ) → (n == n) ≡ true
equal_self n = grind (arith, nat_tests)

first_taken : {C : Type 0} (jumps : ℕ → Bool) (at : ℕ) (f : Frag C) (fs : List (Frag C)) → at ≡ f.at → 0 < length (pass jumps at (f ∷ fs))
first_taken {C = C} jumps at f fs e = by (f.at == at) refl
  where
    by : (b : Bool) → (f.at == at) ≡ b → 0 < length (cond (b || jumps (size (f ∷ fs))) (f ∷ pass jumps (end_of f) fs) [])
    by true h = omega arith
    by false h = absurd (cc (h, sym (ap (λ n. f.at == n) e), equal_self f.at))

jumped_lowers : {C : Type 0} (at : ℕ) (rule : Rule) (cuts : Cuts) (k : Kept C) → count_of k.hole ≡ 1 → at ≡ first_at k.lane.front k.frags → work_left (advanced (From at rule) cuts k) < work_held k
jumped_lowers {C = C} at rule cuts k h e = by k.frags e
  where
    by : (fs : List (Frag C)) → at ≡ first_at k.lane.front fs → work_left (advanced (From at rule) cuts (record k { frags = fs })) < work_held (record k { frags = fs })
    by [] e =
        let shut = cut_shuts cuts k.lane in
        omega (arith, work_shut (copy_at cuts k.lane) (work_held (advanced (From at rule) cuts (record k { frags = [] }))), least_work (is_shut cuts k.lane) _ _ shut.work, shut.copy, shut.spares, h)
    by (f ∷ fs) e =
        let parts = pass (jumps_by rule) at (f ∷ fs) in
        let lane = lane_after k.under.moment k.lane parts in
        let shift = after_shifts k.under.moment k.lane parts in
        let shut = cut_shuts cuts lane in
        omega (
          arith,
          work_shut (copy_at cuts lane) (work_held (advanced (From at rule) cuts (record k { frags = f ∷ fs }))),
          least_work (is_shut cuts lane) _ _ shut.work,
          shut.copy,
          shut.spares,
          shift.closed,
          shift.grows,
          shift.spares,
          taken_count (From at rule) (f ∷ fs),
          first_taken (jumps_by rule) at f fs e,
          count_few k.lane.chunk,
          count_few lane.chunk,
          count_few (advanced (From at rule) cuts (record k { frags = f ∷ fs })).hole,
        )

hole_count : {C : Type 0} (moment front : ℕ) (since : Option ℕ) (fs : List (Frag C)) → count_of (hole_now moment front front (is_empty fs) since fs) ≤ count_of since
hole_count moment front since [] = omega arith
hole_count {C = C} moment front since (f ∷ fs) = subst (λ b. count_of (cond (not b || false) (Some moment) since) ≤ count_of since) (sym (equal_self front)) (omega arith)

stays_lowers : {C : Type 0} (cuts : Cuts) (moment : ℕ) (counts : Counts) (k : Kept C) → is_shut cuts k.lane ≡ true → work_left (advanced Stay cuts (entered moment counts k)) < work_held k
stays_lowers {C = C} cuts moment counts k e =
    omega (arith, work_shut (copy_at cuts k.lane) (work_held (advanced Stay cuts (entered moment counts k))), strict, shut.copy, shut.spares, hole_count moment k.lane.front k.hole k.frags)
  where
    shut : Shuts (is_shut cuts k.lane) (copy_at cuts k.lane) k.lane (shut_lane cuts k.lane)
    shut = cut_shuts cuts k.lane

    strict : shut_work (copy_at cuts k.lane) + (6 * count_of (shut_lane cuts k.lane).chunk + length (shut_lane cuts k.lane).closed) + 2 ≤ 6 * count_of k.lane.chunk + length k.lane.closed + 0
    strict = subst (λ b. shut_work (copy_at cuts k.lane) + (6 * count_of (shut_lane cuts k.lane).chunk + length (shut_lane cuts k.lane).closed) + cond b 2 0 ≤ 6 * count_of k.lane.chunk + length k.lane.closed + cond b 0 1) e shut.work

flushed : {C : Type 0} (flush at : ℕ) (lane : Lane C) → flush_at flush lane ≡ Some at → is_flushed flush at lane ≡ true
flushed {C = C} flush at lane = by lane.chunk (nat_lt 0 flush)
  where
    by : (chunk : Option (Bundle C)) (b : Bool) → cond (is_some chunk && b) (Some (lane.since + flush)) None ≡ Some at → (is_some chunk && (b && (lane.since + flush == at))) ≡ true
    by None b e = absurd (cc)
    by (Some c) false e = absurd (cc)
    by (Some c) true e = same (cc)
      where
        same : lane.since + flush ≡ at → (lane.since + flush == at) ≡ true
        same h = ap (λ n. lane.since + flush == n) (sym h) ∙ equal_self (lane.since + flush)

true_false : true ≡ false → ⊥
true_false e = cc

due_flush : (hole at : ℕ) (since fl : Option ℕ) → is_due hole at since ≡ false → least_of (option_to_list (option_map (λ s. s + hole) since) ++ option_to_list fl) ≡ Some at → fl ≡ Some at
due_flush hole at None None d e = absurd (cc)
due_flush hole at None (Some m) d e = e
due_flush hole at (Some s) None d e = absurd (true_false (not_now (cc)))
  where
    not_now : s + hole ≡ at → true ≡ false
    not_now h = sym (ap (λ n. s + hole == n) (sym h) ∙ equal_self (s + hole)) ∙ d
due_flush hole at (Some s) (Some m) d e = by (nat_le (s + hole) m) e
  where
    not_now : s + hole ≡ at → true ≡ false
    not_now h = sym (ap (λ n. s + hole == n) (sym h) ∙ equal_self (s + hole)) ∙ d

    by : (b : Bool) → Some (cond b (s + hole) m) ≡ Some at → Some m ≡ Some at
    by true h = absurd (true_false (not_now (cc)))
    by false h = h

shut_or : (a b : Bool) → b ≡ true → (a || b) ≡ true
shut_or true b e = refl
shut_or false b e = e

due_work : {C : Type 0} (hole flush least overlap at : ℕ) (counts : Counts) (k : Kept C) → due_at hole flush k ≡ Some at → work_left (advanced (due_way hole at k) (due_cuts least overlap flush at) (entered at counts k)) < work_held k
due_work {C = C} hole flush least overlap at counts k d = by (is_due hole at k.hole) refl
  where
    cuts : Cuts
    cuts = due_cuts least overlap flush at

    some_hole : (since : Option ℕ) → is_due hole at since ≡ true → count_of since ≡ 1
    some_hole None e = absurd (cc)
    some_hole (Some s) e = refl

    by : (b : Bool) → is_due hole at k.hole ≡ b → work_left (advanced (cond b (From (first_at k.lane.front k.frags) Never) Stay) cuts (entered at counts k)) < work_held k
    by true e = jumped_lowers (first_at k.lane.front k.frags) Never cuts (entered at counts k) (some_hole k.hole e) refl
    by false e = stays_lowers cuts at counts k (shut_or (is_ready least k.lane.chunk) (is_flushed flush at k.lane) (flushed flush at k.lane (due_flush hole at k.hole (flush_at flush k.lane) e d)))

pub due_lowers : {C : Type 0} (hole flush least overlap at : ℕ) (counts : Counts) (k k' : Kept C) (step : Step C) → k.work ≡ Idle → GoesOn (advanced (due_way hole at k) (due_cuts least overlap flush at) (entered at counts k)) k' step → due_at hole flush k ≡ Some at
    → Lowers {C = C} None k k'
due_lowers hole flush least overlap at counts k k' step e g d =
    let way = due_way hole at k in
    let cuts = due_cuts least overlap flush at in
    let h = goes_left (advanced way cuts (entered at counts k)) k' step (advanced_shut way cuts (entered at counts k)) g in
    let f = finished_left way cuts (entered at counts k) in
    let i = idle_left k e in
    record { grants_less = omega (arith, h.0, f.0, i.0); work_less = omega (arith, h.1, due_work hole flush least overlap at counts k d, i.1) }

-- Steps of these, as the code makes them.
pub adds_wider : {C : Type 0} (g w g' w' : ℕ) (k k' : Kept C) → Adds g w k k' → g ≤ g' → w ≤ w' → Adds g' w' k k'
adds_wider g w g' w' k k' a l m = record { grants_most = omega (arith, a.grants_most, l); work_most = omega (arith, a.work_most, m) }

-- a segment that is not live
pub dead_adds : {C : Type 0} (n : ℕ) (cuts : Cuts) (moment : ℕ) (counts : Counts) (k noted k' : Kept C) (step : Step C) → (grants_left noted ≡ grants_left k) × (work_left noted ≡ work_left k) → noted.work ≡ Idle
    → GoesOn (advanced Stay cuts (entered moment counts noted)) k' step → Adds (2 * n) (14 * n + 3) k k'
dead_adds n cuts moment counts k noted k' step s e g = let h = entry_adds Stay cuts moment counts noted k' step e g in record { grants_most = omega (arith, h.grants_most, s.0); work_most = omega (arith, h.work_most, s.1) }

-- the first delivery is taken
pub taken_left : {C : Type 0} (k k' : Kept C) (result : Option (ChunkParts C)) → k.work ≡ Idle → k' ≡ record k { lane = record k.lane { closed = k'.lane.closed } } → k.lane.closed ≡ option_to_list (option_map bundle_for result) ++ k'.lane.closed
    → (grants_left k' ≡ grants_left k) × (work_left k' + count_of result ≡ work_left k)
taken_left {C = C} k k' result i e q = by result q
  where
    idle : k'.work ≡ Idle
    idle = ap (λ x. x.work) e ∙ i

    by : (result : Option (ChunkParts C)) → k.lane.closed ≡ option_to_list (option_map bundle_for result) ++ k'.lane.closed → (grants_left k' ≡ grants_left k) × (work_left k' + count_of result ≡ work_left k)
    by None q = (omega (arith, ap grants_held e, (idle_left k i).0, (idle_left k' idle).0), omega (arith, ap work_held e, ap length q, (idle_left k i).1, (idle_left k' idle).1))
    by (Some chunk) q = (omega (arith, ap grants_held e, (idle_left k i).0, (idle_left k' idle).0), omega (arith, ap work_held e, ap length q, (idle_left k i).1, (idle_left k' idle).1))
