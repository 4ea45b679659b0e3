-- A table comes to a turn.
use Rattle.std.specs.Prelude.{◌≡◌, refl, ℕ, true, false, Option, Some, None}
use Rattle.std.proofs.Common.{◌∙◌, sym, subst}
use Rattle.evring.specs.declared.event.Event.{Event}
use Rattle.streamdefs.specs.Terms.{Terms}
use Rattle.streamdefs.specs.Reorder.{Charge}
use Rattle.streamdefs.specs.Lawful.{Handler}
use Rattle.streamdefs.specs.Want.Want.{Reserve, Release, Emit as EmitWanted, Rest}
use Rattle.convo.specs.Talk.{SetsUp}
use Rattle.convo.specs.declared.talk.Convo.{Convo}
use Rattle.coretable.specs.Course.{Course, Stop, Under, step}
use Rattle.coretable.specs.Course.Job.{Nothing}
use Rattle.coretable.specs.Course.Step.{Stops}
use Rattle.coretable.specs.Course.Stop.{Wants, Fills, Rests, Finishes}
use Rattle.coretable.specs.Held.{StandsFor}
use Rattle.coretable.specs.Lawfully.{IsSound}
use Rattle.coretable.specs.Table.{Arrived, ComesTo, Going, IsAtState, Stands, Stepped, calm, calm_by, finishes, readies}
use Rattle.coretable.specs.Turns.{IsAt, IsTurnAt, Moves, behind_turn}
use Rattle.coretable.specs.declared.stage.Stage.{Stage}
use Rattle.coretable.specs.declared.state.State.{State}
use Rattle.coretable.specs.declared.state.State.TheVariants as M
use Rattle.coretable.specs.declared.table.CoreTable.{CoreTable}
use Rattle.coretable.specs.declared.turn.Turn.{Turn}
use Rattle.coretable.specs.declared.turn.Turn.TheVariants as T
use Rattle.coretable.proofs.ComeLemmas.{add, joined, one_more, sound_after}
use Rattle.coretable.proofs.Soundness.{emit_is_sound}
use Rattle.coretable.proofs.TableLemmas.{idle_where_it_rests}

-- The course behind an event is as lawful.
sound_emitted : {C : Type 0} (t : Terms) (last : ℕ) (handler : Handler) (m : Course) (u : Under) (event : Event C) → m.under ≡ Some u → IsSound t last handler m → IsSound t last handler (behind_turn m (T.Emit event))
sound_emitted t last handler m u event e s =
    let same : m ≡ record m { under = Some u } = (λ i. record m { under = e i }) in
    subst (λ c. IsSound t last handler (behind_turn c (T.Emit event))) (sym same) (emit_is_sound t last handler (record m { under = Some u }) u (subst (IsSound t last handler) same s) refl)

sound_by_stop : {C : Type 0} (paid : C → Charge) (t : Terms) (last : ℕ) (handler : Handler) (m : Course) (event : Event C) (stop : Stop) → IsTurnAt paid t m stop (T.Emit event) → IsSound t last handler m
    → IsSound t last handler (behind_turn m (T.Emit event))
sound_by_stop paid t last handler m event (Wants (Reserve request mark)) h s = absurd h
sound_by_stop paid t last handler m event (Wants (Release charge)) h s = absurd h
sound_by_stop paid t last handler m event (Wants (EmitWanted made)) h s = sound_emitted t last handler m h.0 event h.1 s
sound_by_stop paid t last handler m event (Wants Rest) h s = absurd h
sound_by_stop paid t last handler m event Fills h s = absurd h
sound_by_stop paid t last handler m event Rests h s = absurd h
sound_by_stop paid t last handler m event Finishes h s = absurd h

sound_behind : {C : Type 0} (paid : C → Charge) (t : Terms) (last : ℕ) (handler : Handler) (m : Course) (turn : Turn C) (stop : Stop) → IsTurnAt paid t m stop turn → IsSound t last handler m
    → IsSound t last handler (behind_turn m turn)
sound_behind paid t last handler m (T.Ask bytes mark) stop h s = s
sound_behind paid t last handler m (T.Free charge) stop h s = s
sound_behind paid t last handler m (T.Emit event) stop h s = sound_by_stop paid t last handler m event stop h s
sound_behind paid t last handler m T.Full stop h s = s
sound_behind paid t last handler m T.Ready stop h s = s
sound_behind paid t last handler m T.Over stop h s = s

-- What a turn says of the course behind it.
ready_stop : {C : Type 0} (paid : C → Charge) (t : Terms) (m : Course) (stop : Stop) → step t m ≡ Stops stop → IsTurnAt {C = C} paid t m stop T.Ready → (m.under ≡ None) × (m.job ≡ Nothing)
ready_stop paid t m (Wants (Reserve request mark)) e h = absurd h
ready_stop paid t m (Wants (Release charge)) e h = absurd h
ready_stop paid t m (Wants (EmitWanted made)) e h = absurd h
ready_stop paid t m (Wants Rest) e h = absurd h
ready_stop paid t m Fills e h = absurd h
ready_stop paid t m Rests e h = let idle = idle_where_it_rests t m e in (idle.rests, idle.nothing)
ready_stop paid t m Finishes e h = absurd h

over_stop : {C : Type 0} (paid : C → Charge) (t : Terms) (m : Course) (stop : Stop) → step t m ≡ Stops stop → IsTurnAt {C = C} paid t m stop T.Over → step t m ≡ Stops Finishes
over_stop paid t m (Wants (Reserve request mark)) e h = absurd h
over_stop paid t m (Wants (Release charge)) e h = absurd h
over_stop paid t m (Wants (EmitWanted made)) e h = absurd h
over_stop paid t m (Wants Rest) e h = absurd h
over_stop paid t m Fills e h = absurd h
over_stop paid t m Rests e h = absurd h
over_stop paid t m Finishes e h = e

waits_behind : {C : Type 0} (paid : C → Charge) (t : Terms) (m : Course) (turn : Turn C) (stop : Stop) → step t m ≡ Stops stop → IsTurnAt paid t m stop turn → readies turn ≡ true
    → ((behind_turn m turn).under ≡ None) × ((behind_turn m turn).job ≡ Nothing)
waits_behind paid t m (T.Ask bytes mark) stop e h r = absurd cc
waits_behind paid t m (T.Free charge) stop e h r = absurd cc
waits_behind paid t m (T.Emit event) stop e h r = absurd cc
waits_behind paid t m T.Full stop e h r = absurd cc
waits_behind paid t m T.Ready stop e h r = ready_stop paid t m stop e h
waits_behind paid t m T.Over stop e h r = absurd cc

ends_behind : {C : Type 0} (paid : C → Charge) (t : Terms) (m : Course) (turn : Turn C) (stop : Stop) → step t m ≡ Stops stop → IsTurnAt paid t m stop turn → finishes turn ≡ true
    → step t (behind_turn m turn) ≡ Stops Finishes
ends_behind paid t m (T.Ask bytes mark) stop e h r = absurd cc
ends_behind paid t m (T.Free charge) stop e h r = absurd cc
ends_behind paid t m (T.Emit event) stop e h r = absurd cc
ends_behind paid t m T.Full stop e h r = absurd cc
ends_behind paid t m T.Ready stop e h r = absurd cc
ends_behind paid t m T.Over stop e h r = over_stop paid t m stop e h

module _ {C : Type 0} (paid : C → Charge) (t : Terms) (last : ℕ) (handler : Handler) (m : Course) where
  at_works : (x : CoreTable C) (stage : Stage C (Convo C)) (n : Course) → x.state ≡ M.Works stage → IsAt paid (StandsFor paid t) t n x.desk stage → IsAtState paid t n x.desk x.state
  at_works x stage n e h = subst (IsAtState paid t n x.desk) (sym e) h

  -- A table that has arrived, with the turn noted.
  pub comes_by : (x y : CoreTable C) (turn : Turn C) → SetsUp x.set t → IsSound t last handler m → Arrived paid t m x turn
      → y.set ≡ x.set → y.desk ≡ x.desk → y.state ≡ x.state → y.ready ≡ readies turn → y.over ≡ finishes turn → ComesTo paid t last handler m y turn
  comes_by x y turn set sound a e_set e_desk e_state e_ready e_over =
      let c = a.comes in
      record {
        turns = c.0;
        there = c.1;
        stop = c.2;
        comes = c.3;
        is_turn = c.4;
        stands = record {
          sets = subst (λ s. SetsUp s t) (sym e_set) set;
          sound = sound_behind paid t last handler c.1 turn c.2 c.4 (sound_after t last handler c.0 m c.1 c.3.0 sound);
          at = subst (λ d. IsAtState paid t (behind_turn c.1 turn) d y.state) (sym e_desk) (subst (IsAtState paid t (behind_turn c.1 turn) x.desk) (sym (e_state ∙ a.works)) c.5);
          waits = λ r. waits_behind paid t c.1 turn c.2 c.3.1 c.4 (sym e_ready ∙ r);
          ends = λ r. ends_behind paid t c.1 turn c.2 c.3.1 c.4 (sym e_over ∙ r);
        };
      }

  -- The same course, where nothing is noted.
  pub stands_unnoted : (x y : CoreTable C) → y ≡ record x { ready = false; over = false } → Stands paid t last handler m x → Stands paid t last handler m y
  stands_unnoted x y e h = subst (Stands paid t last handler m) (sym e) (record { sets = h.sets; sound = h.sound; at = h.at; waits = λ r. absurd cc; ends = λ r. absurd cc })

  -- where a calm table is
  pub stage_of : (x : CoreTable C) (stage : Stage C (Convo C)) → x.state ≡ M.Works stage → Stands paid t last handler m x → IsAt paid (StandsFor paid t) t m x.desk stage
  stage_of x stage e h = subst (IsAtState paid t m x.desk) e h.at

  going_first : (x : CoreTable C) (state : State C (Convo C)) → x.state ≡ state → calm_by state ≡ true → SetsUp x.set t → IsSound t last handler m → IsAtState paid t m x.desk state → Going paid t last handler m x
  going_first x (M.Works stage) e c set sound at = record { stage = stage; works = e; comes = (0, m, refl, sound, at) }
  going_first x (M.Drains hand freeing) e c set sound at = absurd at

  -- No step is made yet.
  pub goes_first : (x : CoreTable C) → calm x ≡ true → Stands paid t last handler m x → Going paid t last handler m x
  goes_first x c h = going_first x x.state refl c h.sets h.sound h.at

  -- A step more is made, without a turn.
  pub goes_further : (x y : CoreTable C) (turn : Option (Turn C)) → turn ≡ None → (g : Going paid t last handler m x) → Stepped paid t g.comes.1 y turn → Going paid t last handler m y
  goes_further x y turn none g s =
      let h = g.comes in
      let z = subst (Moves paid (StandsFor paid t) t h.1 y.desk s.stage) none s.moves in
      let far = joined t z.0 1 h.1 z.1 z.3.0 z.2 (one_more t z.1 z.3.0 z.3.1) in
      record {
        stage = s.stage;
        works = s.works;
        comes = (add h.0 (add z.0 1), z.3.0, joined t h.0 (add z.0 1) m h.1 z.3.0 h.2 far, sound_after t last handler (add z.0 1) h.1 z.3.0 far h.3, z.3.2);
      }

  -- A step more comes to a turn.
  pub arrives : (x y : CoreTable C) (some : Option (Turn C)) (turn : Turn C) → some ≡ Some turn → (g : Going paid t last handler m x) → Stepped paid t g.comes.1 y some → Arrived paid t m y turn
  arrives x y some turn is g s =
      let h = g.comes in
      let z = subst (Moves paid (StandsFor paid t) t h.1 y.desk s.stage) is s.moves in
      record {
        stage = s.stage;
        works = s.works;
        comes = (add h.0 z.0, z.1, z.3.0, (joined t h.0 z.0 m h.1 z.1 h.2 z.2, z.3.1), z.3.2, z.3.3);
      }
