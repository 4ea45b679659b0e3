-- A table and the course that it stands for.
use Rattle.std.specs.Prelude.{◌≡◌, refl, ℕ, zero, suc, ◌+◌, ◌<◌, ◌≤◌, ◌^◌, Bool, true, false, ◌&&◌, nat_le, is_none, cond, List, [], slice_get, Option, Some, None}
use Rattle.std.specs.FinMap.{get as moment_in, get-empty}
use Rattle.std.specs.Ordering.{nat_cmp}
use Rattle.std.specs.Map.{lookup}
use Rattle.indexmap.specs.IndexMap.{IsEmpty}
use Rattle.streamkey.specs.declared.key.Key.{Key}
use Rattle.streamkey.specs.contracts.key.KeyPartialEq.TheImpl as key_eq
use Rattle.streamdefs.specs.Core.{Open}
use Rattle.prio_budget.specs.declared.answered.Answered.{Answered}
use Rattle.prio_budget.specs.declared.answered.Answered.TheVariants as A
use Rattle.coretable.specs.declared.pause.Pause.{Pause}
use Rattle.coretable.specs.declared.pause.Pause.TheVariants.{Asked}
use Rattle.std.proofs.Common.{◌∙◌, ap, sym, subst, arith}
use Rattle.std.proofs.lemmas.Bool.Decides.{nat_tests}
use Rattle.chunkpart.specs.ChunkParts.{ChunkParts}
use Rattle.histbook.specs.declared.look_entry.LookEntry.{LookEntry}
use Rattle.prio_budget.specs.declared.free.Free.{Free}
use Rattle.prio_budget.specs.declared.look.Look.{Look}
use Rattle.streamdefs.specs.Terms.{Terms}
use Rattle.streamdefs.specs.Reorder.{Charge}
use Rattle.streamdefs.specs.View.{Ask as Request}
use Rattle.streamdefs.specs.Convo.{Act, Convo as Made, mark_for}
use Rattle.streamdefs.specs.Want.{Want, want}
use Rattle.streamdefs.specs.Want.Want.{Reserve, Release, Emit, Rest}
use Rattle.streamdefs.specs.Direction.Next.{Asks}
use Rattle.streamdefs.specs.Core.{Line, Core, Due, Owed, found_by}
use Rattle.streamdefs.specs.Lawful.{Handler, IsLookFor}
use Rattle.convo.specs.declared.talk.Convo.{Convo}
use Rattle.coretable.specs.Course.{Course, Job, no_course, Under, Choice, begun, step, under_step, choice_step, choice, job_choice, closing_choice, due_first, due_by, first_live, has_room, is_answered, core_of, want_of, looked, freed}
use Rattle.coretable.specs.Course.Job.{Nothing, Takes, Closes}
use Rattle.coretable.specs.Course.Choice.{Begins, Waits, Closed as Done}
use Rattle.coretable.specs.Course.Step.{Goes, Stops}
use Rattle.coretable.specs.Course.Stop.{Fills, Finishes, Rests}
use Rattle.coretable.specs.Held.{StandsFor, weight_of_some}
use Rattle.coretable.specs.Lawfully.{IsSound}
use Rattle.coretable.specs.Standing.{Recalls, AreSlots, AreUnanswered, IsDueIn, IsIndexed, IsOwedAt, Keeps, job_of, place_of}
use Rattle.coretable.specs.Table.{IsAtState, IsAwaited, IsReleasedAt, KeepsNothing, changed, is_empty, look_of, pause_by, told_course, under_way}
use Rattle.coretable.specs.Turns.{AtEvent, AtFree, AtLook, AtWant}
use Rattle.coretable.specs.Weighed.{weight_of_desk, weight_of_hand, weight_of_slots, weight_of_talk}
use Rattle.flowdir.specs.Boundary.{weight_of, weight_of_chunk}
use Rattle.coretable.specs.declared.active.Active.{Active}
use Rattle.coretable.specs.declared.desk.Desk.{Desk}
use Rattle.coretable.specs.declared.hand.Hand.{Hand}
use Rattle.coretable.specs.declared.stage.Stage.TheVariants as S
use Rattle.coretable.specs.declared.state.State.{State}
use Rattle.coretable.specs.declared.state.State.TheVariants as M
use Rattle.coretable.proofs.Soundness.{by_owed, free_is_sound, look_is_sound, step_by}
use Rattle.coretable.proofs.Wants.{asked_next, move_of}

-- An empty hand weighs nothing.
empty_parts : {C : Type 0} (w : C → ℕ) (a : Option (Convo C)) (b : Option C) (c : Option (List (ChunkParts C))) (d : Option (ChunkParts C))
    → (is_none a && (is_none b && (is_none c && is_none d))) ≡ true → weight_of_talk w a + (weight_of w b + (weight_of_some w c + weight_of_chunk w d)) ≡ 0
empty_parts w None None None None e = refl
empty_parts w None None None (Some z) e = absurd cc
empty_parts w None None (Some y) d e = absurd cc
empty_parts w None (Some x) c d e = absurd cc
empty_parts w (Some talk) b c d e = absurd cc

pub empty_weighs_nothing : {C : Type 0} (w : C → ℕ) (hand : Hand C) → is_empty hand ≡ true → weight_of_hand w hand ≡ 0
empty_weighs_nothing w hand e = empty_parts w hand.talk hand.charge hand.kept hand.chunk e

-- Nothing that is kept weighs nothing.
pub new_weighs_nothing : {C : Type 0} (w : C → ℕ) (desk : Desk (Convo C)) → KeepsNothing desk → weight_of_desk w desk + 0 ≡ 0
new_weighs_nothing w desk n = ap (λ slots. weight_of_slots w slots + 0) n.slots

-- A table that has seen nothing stands for no course.
no_slice : (n : ℕ) → slice_get {X = Open} [] n ≡ None
no_slice zero = refl
no_slice (suc n) = refl

not_in : {C : Type 0} (desk : Desk (Convo C)) (key : Key) → IsEmpty desk.index → place_of desk key ≡ None
not_in desk key e = ap (lookup (key_eq.eq-value.it key)) e

none_due : (t : Terms) {C : Type 0} (desk : Desk (Convo C)) (place : ℕ) → KeepsNothing desk → IsDueIn t None desk.dues place None
none_due t desk place n = ap (λ dues. moment_in dues place) n.dues ∙ get-empty nat_cmp place

pub nothing_kept : {C : Type 0} (paid : C → Charge) (t : Terms) (desk : Desk (Convo C)) → KeepsNothing desk → Keeps (StandsFor paid t) t no_course desk
nothing_kept paid t desk n = record {
  slots = subst (AreSlots (Recalls (StandsFor paid t) t []) None []) (sym n.slots) tt;
  index = λ key. subst (λ place. IsIndexed [] place None) (sym (not_in desk key n.index)) tt;
  dues = λ place. subst (IsDueIn t None desk.dues place) (sym (no_slice place)) (none_due t desk place n);
  queue = subst (λ waits. AreUnanswered [] waits []) (sym n.unanswered) tt;
  book = n.book;
  answered = n.answered;
  owed = subst (λ owed. IsOwedAt [] owed None) (sym n.owed) tt;
  job = ap job_of n.job;
  cursor = λ k o below at. absurd (no_open k o at);
}
  where
    no_open : (k : ℕ) (o : Open) → slice_get {X = Open} [] k ≡ Some o → ⊥
    no_open k o at = absurd cc

-- Where no entry is under way, a table is at rest.
pub record AtRest {C : Type 0} (paid : C → Charge) (t : Terms) (m : Course) (desk : Desk (Convo C)) (state : State C (Convo C)) : Type 0 where
  pub is : state ≡ M.Works S.Rests
  pub keeps : Keeps (StandsFor paid t) t m desk

some_is_none : {A : Type 0} (o : Option A) (a : A) → o ≡ None → o ≡ Some a → ⊥
some_is_none None a e f = absurd cc
some_is_none (Some x) a e f = absurd cc

at_want : {C : Type 0} (paid : C → Charge) (t : Terms) (m : Course) (desk : Desk (Convo C)) (active : Active (Convo C)) (w : Want) → m.under ≡ None → AtWant (StandsFor paid t) t m desk active w → ⊥
at_want paid t m desk active w e at = some_is_none m.under at.u e at.works.active.under

at_look : {C : Type 0} (paid : C → Charge) (t : Terms) (m : Course) (desk : Desk (Convo C)) (active : Active (Convo C)) (look : LookEntry) (granted : Option C) → m.under ≡ None
    → AtLook paid (StandsFor paid t) t m desk active look granted → ⊥
at_look paid t m desk active look granted e at = some_is_none m.under _ e (ap (λ (c : Course). c.under) at.is)

at_free : {C : Type 0} (paid : C → Charge) (t : Terms) (m : Course) (desk : Desk (Convo C)) (active : Active (Convo C)) (free : Free) → m.under ≡ None → AtFree (StandsFor paid t) t m desk active free → ⊥
at_free paid t m desk active free e at = some_is_none m.under _ e (ap (λ (c : Course). c.under) at.is)

at_event : {C : Type 0} (paid : C → Charge) (t : Terms) (m : Course) (desk : Desk (Convo C)) (active : Active (Convo C)) → m.under ≡ None → AtEvent (StandsFor paid t) t m desk active → ⊥
at_event paid t m desk active e at = some_is_none m.under _ e (ap (λ (c : Course). c.under) at.is)

pub idle_rests : {C : Type 0} (paid : C → Charge) (t : Terms) (m : Course) (desk : Desk (Convo C)) (state : State C (Convo C)) → m.under ≡ None → IsAtState paid t m desk state → AtRest paid t m desk state
idle_rests paid t m desk (M.Works S.Rests) e at = record { is = refl; keeps = at.1 }
idle_rests paid t m desk (M.Works (S.Returned active of advice kept)) e at = absurd (some_is_none m.under at.u e at.active.under)
idle_rests paid t m desk (M.Works (S.Asked active bytes mark)) e at = absurd (at_want paid t m desk active (Reserve at.0 mark) e at.2)
idle_rests paid t m desk (M.Works (S.Again active bytes mark)) e at = absurd (at_want paid t m desk active (Reserve at.0 mark) e at.2)
idle_rests paid t m desk (M.Works (S.Told active look granted)) e at = absurd (at_look paid t m desk active look granted e at)
idle_rests paid t m desk (M.Works (S.Freeing active bytes stamp)) e at = absurd (at_want paid t m desk active (Release at.0) e at.2)
idle_rests paid t m desk (M.Works (S.Freed active free)) e at = absurd (at_free paid t m desk active free e at)
idle_rests paid t m desk (M.Works (S.Emitted active)) e at = absurd (at_event paid t m desk active e at)
idle_rests paid t m desk (M.Drains hand freeing) e at = absurd at

-- The mark of an ask is that of its conversation.
mark_of_move : (t : Terms) (c : Made) (act : Act) (n : ℕ) (request : Request) (mark : ℕ) → move_of t c act n (Asks request) ≡ Reserve request mark → mark ≡ mark_for t c request
mark_of_move t c act n request mark e = cc

pub mark_is : (t : Terms) (c : Made) (act : Act) (n : ℕ) (request : Request) (mark : ℕ) → want t c act n ≡ Reserve request mark → mark ≡ mark_for t c request
mark_is t c act n request mark e = mark_of_move t c act n request mark (subst (λ x. move_of t c act n x ≡ Reserve request mark) (asked_next t c act n request mark e) e)

-- What an entry under way makes of a course.
pub under_is : (change : Course → Under → Course) (m : Course) (u : Under) → m.under ≡ Some u → under_way change m ≡ change m u
under_is change m u e = ap (changed change m) e

-- The look that an ask is answered by is for it.
pub look_fits : (t : Terms) (m : Course) (u : Under) (request : Request) (mark bytes : ℕ) (granted : Bool) (look : Look) → want_of t m u ≡ Reserve request mark → request.bytes ≡ bytes → look.stamp < 2 ^ 31
    → granted ≡ nat_le (look.found + bytes) mark → IsLookFor t (found_by (core_of t m) u.line) (record { asked = bytes; granted = granted; look = look }) request
look_fits t m u request mark bytes granted look e b s g = (sym b, g ∙ ap (nat_le (look.found + bytes)) (mark_is t (found_by (core_of t m) u.line) u.line.act u.emitted request mark e), s)

-- What is used and asked lets an ask in, or keeps it out.
lets_in : (found bytes mark : ℕ) → found + bytes ≤ mark → true ≡ nat_le (found + bytes) mark
lets_in found bytes mark h = grind (arith, nat_tests)

keeps_out : (found bytes mark : ℕ) → mark < found + bytes → false ≡ nat_le (found + bytes) mark
keeps_out found bytes mark h = grind (arith, nat_tests)

module _ {C : Type 0} (paid : C → Charge) (t : Terms) (last : ℕ) (handler : Handler) (desk : Desk (Convo C)) where
  -- a stage behind the answer to an ask
  pub answered_stands : (m : Course) (state : State C (Convo C)) (request : Request) (mark bytes : ℕ) (granted : Bool) (look : Look) (active : Active (Convo C))
      (at : AtWant (StandsFor paid t) t m desk active (Reserve request mark)) → request.bytes ≡ bytes → look.stamp < 2 ^ 31 → granted ≡ nat_le (look.found + bytes) mark → IsSound t last handler m
      → IsAtState paid t (looked m at.u (record { asked = bytes; granted = granted; look = look })) desk state
      → IsSound t last handler (told_course (Some (record { asked = bytes; granted = granted; look = look })) m)
      × IsAtState paid t (told_course (Some (record { asked = bytes; granted = granted; look = look })) m) desk state
  answered_stands m state request mark bytes granted look active at b s g sound there =
      let is = sym (under_is (λ m u. looked m u (record { asked = bytes; granted = granted; look = look })) m at.u at.works.active.under) in (
        subst (IsSound t last handler) is (look_is_sound t last handler m at.u request mark (record { asked = bytes; granted = granted; look = look }) sound at.works.active.under at.wants
            (look_fits t m at.u request mark bytes granted look at.wants b s g)),
        subst (λ x. IsAtState paid t x desk state) is there,
      )

  -- a state behind an answer
  by_answer : (m : Course) (state : State C (Convo C)) (pause : Pause) (answered other : Answered C) → answered ≡ other
      → IsSound t last handler (told_course (look_of pause other) m) × IsAtState paid t (told_course (look_of pause other) m) desk state
      → IsSound t last handler (told_course (look_of pause answered) m) × IsAtState paid t (told_course (look_of pause answered) m) desk state
  by_answer m state pause answered other e h =
      subst (λ a. IsSound t last handler (told_course (look_of pause a) m) × IsAtState paid t (told_course (look_of pause a) m) desk state) (sym e) h

  pub granted_stands : (m : Course) (state : State C (Convo C)) (bytes mark : ℕ) (charge : C) (look : Look) (active : Active (Convo C)) (answered : Answered C) → answered ≡ A.Granted charge look
      → IsAwaited paid (Asked bytes mark) answered → IsSound t last handler m → IsAtState paid t m desk (M.Works (S.Asked active bytes mark))
      → ((request : Request) (at : AtWant (StandsFor paid t) t m desk active (Reserve request mark)) → (paid charge).bytes ≡ bytes → (paid charge).stamp ≡ look.stamp
      → IsAtState paid t (looked m at.u (record { asked = bytes; granted = true; look = look })) desk state)
      → IsSound t last handler (told_course (look_of (Asked bytes mark) answered) m) × IsAtState paid t (told_course (look_of (Asked bytes mark) answered) m) desk state
  granted_stands m state bytes mark charge look active answered is awaited sound at there =
      let w = subst (IsAwaited paid (Asked bytes mark)) is awaited in
      by_answer m state (Asked bytes mark) answered (A.Granted charge look) is
      (answered_stands m state at.0 mark bytes true look active at.2 at.1 w.0.0 (lets_in look.found bytes mark w.0.1) sound (there at.0 at.2 w.1.0 w.1.1))

  pub refused_stands : (m : Course) (state : State C (Convo C)) (bytes mark : ℕ) (look : Look) (active : Active (Convo C)) (answered : Answered C) → answered ≡ A.Past look
      → IsAwaited paid (Asked bytes mark) answered → IsSound t last handler m → IsAtState paid t m desk (M.Works (S.Asked active bytes mark))
      → ((request : Request) (at : AtWant (StandsFor paid t) t m desk active (Reserve request mark)) → IsAtState paid t (looked m at.u (record { asked = bytes; granted = false; look = look })) desk state)
      → IsSound t last handler (told_course (look_of (Asked bytes mark) answered) m) × IsAtState paid t (told_course (look_of (Asked bytes mark) answered) m) desk state
  refused_stands m state bytes mark look active answered is awaited sound at there =
      let w = subst (IsAwaited paid (Asked bytes mark)) is awaited in
      by_answer m state (Asked bytes mark) answered (A.Past look) is
      (answered_stands m state at.0 mark bytes false look active at.2 at.1 w.0.0 (keeps_out look.found bytes mark w.0.1) sound (there at.0 at.2))

  -- a stage behind a release
  pub freed_stands : (m : Course) (state : State C (Convo C)) (charge : Charge) (free : Free) (active : Active (Convo C)) (at : AtWant (StandsFor paid t) t m desk active (Release charge)) → free.bytes ≡ charge.bytes
      → IsSound t last handler m → IsAtState paid t (freed m at.u free) desk state
      → IsSound t last handler (under_way (λ m u. freed m u free) m) × IsAtState paid t (under_way (λ m u. freed m u free) m) desk state
  freed_stands m state charge free active at b sound there =
      let is = sym (under_is (λ m u. freed m u free) m at.u at.works.active.under) in (
        subst (IsSound t last handler) is (free_is_sound t last handler m at.u charge free sound at.works.active.under at.wants b),
        subst (λ x. IsAtState paid t x desk state) is there,
      )

  pub released_stands : (m : Course) (before state : State C (Convo C)) (bytes stamp : ℕ) (free : Free) (active : Active (Convo C)) → before ≡ M.Works (S.Freeing active bytes stamp)
      → IsReleasedAt (pause_by before) free.bytes free.stamp → IsSound t last handler m → IsAtState paid t m desk before
      → ((charge : Charge) (at : AtWant (StandsFor paid t) t m desk active (Release charge)) → IsAtState paid t (freed m at.u free) desk state)
      → IsSound t last handler (under_way (λ m u. freed m u free) m) × IsAtState paid t (under_way (λ m u. freed m u free) m) desk state
  released_stands m before state bytes stamp free active is released sound at there =
      let w = subst (λ s. IsReleasedAt (pause_by s) free.bytes free.stamp) is released in
      let h = subst (IsAtState paid t m desk) is at in
      freed_stands m state h.0 free active h.2 (w.0 ∙ sym h.1) sound (there h.0 h.2)

-- Where a core stops for an input, none waits and no entry is under way.
pub record IsIdle (m : Course) : Type 0 where
  pub rests : m.under ≡ None
  pub nothing : m.job ≡ Nothing

under_goes_on : (m : Course) (u : Under) (w : Want) → under_step m u w ≡ Stops Rests → ⊥
under_goes_on m u (Reserve ask mark) g = cc
under_goes_on m u (Release charge) g = cc
under_goes_on m u (Emit event) g = cc
under_goes_on m u Rest g = cc

first_begins : (due : Option Due) (next : Choice) → due_first due next ≡ Waits → next ≡ Waits
first_begins None next h = h
first_begins (Some d) next h = absurd cc

begun_waits : (line : Line) → Begins line ≡ Waits → ⊥
begun_waits line h = cc

closing_waits : (at : ℕ) (first : Option Open) → closing_choice at first ≡ Waits → ⊥
closing_waits at None h = cc
closing_waits at (Some o) h = cc

job_waits : (t : Terms) (core : Core) (job : Job) → job_choice t core job ≡ Waits → job ≡ Nothing
job_waits t core Nothing h = refl
job_waits t core (Takes p) h = absurd (begun_waits _ (first_begins (due_by t core p.now) _ h))
job_waits t core (Closes at) h = absurd (closing_waits at (first_live core.convos) (first_begins (due_by t core at) _ h))

owed_waits : (t : Terms) (core : Core) (job : Job) (owed : Option Owed) → by_owed t core job owed ≡ Waits → job ≡ Nothing
owed_waits t core job None h = job_waits t core job h
owed_waits t core job (Some owed) h = absurd cc

room_rests : (m : Course) (line : Line) (b : Bool) → cond b (Goes (begun m line)) (Stops Fills) ≡ Stops Rests → ⊥
room_rests m line true g = cc
room_rests m line false g = cc

answered_rests : (b : Bool) → cond b (Stops Finishes) (Stops Fills) ≡ Stops Rests → ⊥
answered_rests true g = cc
answered_rests false g = cc

choice_waits : (core : Core) (m : Course) (x : Choice) → choice_step core m x ≡ Stops Rests → x ≡ Waits
choice_waits core m (Begins line) g = absurd (room_rests m line (has_room core) g)
choice_waits core m Waits g = refl
choice_waits core m Done g = absurd (answered_rests (is_answered core) g)

step_waits : (t : Terms) (m : Course) (o : Option Under) → m.under ≡ o → step_by t m o ≡ Stops Rests → IsIdle m
step_waits t m (Some u) e g = absurd (under_goes_on m u (want_of t m u) g)
step_waits t m None e g = record { rests = e; nothing = owed_waits t (core_of t m) m.job (core_of t m).owed (choice_waits (core_of t m) m (choice t (core_of t m) m.job) g) }

pub idle_where_it_rests : (t : Terms) (m : Course) → step t m ≡ Stops Rests → IsIdle m
idle_where_it_rests t m g = step_waits t m m.under refl g
