-- A table that is given something stands for the course behind it.
use Rattle.std.specs.Prelude.{◌≡◌, refl, ℕ, ◌≤◌, ◌<◌, ◌+◌, Bool, true, false, ◌&&◌, is_none, Option, Some, None}
use Rattle.std.proofs.Common.{◌∙◌, sym, subst, arith}
use Rattle.streamkey.specs.declared.packet.Packet.{Packet as Packet_}
use Rattle.streamkey.specs.declared.input.Input.TheVariants as I
use Rattle.streamdefs.specs.Packet.{Packet}
use Rattle.streamdefs.specs.Terms.{Terms}
use Rattle.streamdefs.specs.Reorder.{Charge}
use Rattle.streamdefs.specs.Lawful.{Handler}
use Rattle.convo.specs.Talk.{SetsUp}
use Rattle.convo.specs.declared.talk.Convo.{Convo}
use Rattle.coretable.specs.Course.{Course, closing, loaded}
use Rattle.coretable.specs.Held.{StandsFor}
use Rattle.coretable.specs.Lawfully.{IsSound}
use Rattle.coretable.specs.Standing.{Keeps}
use Rattle.coretable.specs.Table.{IsAtState, Stands, calm_by, is_empty, rests_by, weight_by}
use Rattle.coretable.specs.declared.desk.Desk.{Desk}
use Rattle.coretable.specs.declared.hand.Hand.{Hand}
use Rattle.coretable.specs.declared.stage.Stage.TheVariants as S
use Rattle.coretable.specs.declared.state.State.{State}
use Rattle.coretable.specs.declared.state.State.TheVariants as M
use Rattle.coretable.specs.declared.table.CoreTable.{CoreTable}
use Rattle.coretable.proofs.Soundness.{closing_is_sound, load_is_sound}
use Rattle.coretable.proofs.TableLemmas.{AtRest, empty_weighs_nothing, idle_rests}

pub not_true : (b : Bool) → b ≡ false → b ≡ true → ⊥
not_true b f t = cc

pub same_packet : (p q : Packet_) → I.Packet p ≡ I.Packet q → p ≡ q
same_packet p q e = cc

pub same_moment : (a b : ℕ) → I.Finish a ≡ I.Finish b → a ≡ b
same_moment a b e = cc

-- What comes to nothing is all.
pub onto_nothing : (now before more : ℕ) → now ≡ more → before ≡ 0 → now ≡ before + more
onto_nothing now before more e z = omega (arith, e, z)

pub with_nothing : (now before none : ℕ) → now ≡ before → none ≡ 0 → now ≡ before + none
with_nothing now before none e z = omega (arith, e, z)

-- A table in drain mode that has nothing in hand and waits for no release.
empty_in_hand : {C : Type 0} (hand : Hand C) (freeing : Option (ℕ × ℕ)) → (is_none freeing && is_empty hand) ≡ true → is_empty hand ≡ true
empty_in_hand hand None e = e
empty_in_hand hand (Some x) e = absurd cc

pub resting_weighs_nothing : {C : Type 0} (w : C → ℕ) (state : State C (Convo C)) → rests_by state ≡ true → weight_by w state ≡ 0
resting_weighs_nothing w (M.Works S.Rests) r = refl
resting_weighs_nothing w (M.Works (S.Returned active of advice kept)) r = absurd cc
resting_weighs_nothing w (M.Works (S.Asked active bytes mark)) r = absurd cc
resting_weighs_nothing w (M.Works (S.Again active bytes mark)) r = absurd cc
resting_weighs_nothing w (M.Works (S.Told active look granted)) r = absurd cc
resting_weighs_nothing w (M.Works (S.Freeing active bytes stamp)) r = absurd cc
resting_weighs_nothing w (M.Works (S.Freed active free)) r = absurd cc
resting_weighs_nothing w (M.Works (S.Emitted active)) r = absurd cc
resting_weighs_nothing w (M.Drains hand freeing) r = empty_weighs_nothing w hand (empty_in_hand hand freeing r)

-- An answer begins where nothing is in hand.
pub begun_weighs : (desk' begun desk chunks stage state' state : ℕ) → desk' + begun ≡ desk + chunks → begun ≡ stage → state' ≡ stage → state ≡ 0 → desk' + state' ≡ desk + state + chunks
begun_weighs desk' begun desk chunks stage state' state e b s z = omega (arith, e, b, s, z)

module _ {C : Type 0} (paid : C → Charge) (t : Terms) where
  -- A calm table at rest has no entry under way.
  pub rests_idle : (m : Course) (desk : Desk (Convo C)) (state : State C (Convo C)) → rests_by state ≡ true → IsAtState paid t m desk state → (m.under ≡ None) × AtRest paid t m desk state
  rests_idle m desk (M.Works S.Rests) r at = (at.0, record { is = refl; keeps = at.1 })
  rests_idle m desk (M.Works (S.Returned active of advice kept)) r at = absurd cc
  rests_idle m desk (M.Works (S.Asked active bytes mark)) r at = absurd cc
  rests_idle m desk (M.Works (S.Again active bytes mark)) r at = absurd cc
  rests_idle m desk (M.Works (S.Told active look granted)) r at = absurd cc
  rests_idle m desk (M.Works (S.Freeing active bytes stamp)) r at = absurd cc
  rests_idle m desk (M.Works (S.Freed active free)) r at = absurd cc
  rests_idle m desk (M.Works (S.Emitted active)) r at = absurd cc
  rests_idle m desk (M.Drains hand freeing) r at = absurd at

  pub draining_stands_not : (m : Course) (desk : Desk (Convo C)) (state : State C (Convo C)) → calm_by state ≡ false → IsAtState paid t m desk state → ⊥
  draining_stands_not m desk (M.Works stage) c at = cc
  draining_stands_not m desk (M.Drains hand freeing) c at = at

  module _ (last : ℕ) (handler : Handler) where
    pub stands_at : (x y : CoreTable C) (m n : Course) → Stands paid t last handler m x → IsSound t last handler n → IsAtState paid t n y.desk y.state → y.set ≡ x.set → y.ready ≡ false → y.over ≡ false
        → Stands paid t last handler n y
    stands_at x y m n h sound at set ready over = record {
      sets = subst (λ s. SetsUp s t) (sym set) h.sets;
      sound = sound;
      at = at;
      waits = λ r. absurd (not_true y.ready ready r);
      ends = λ r. absurd (not_true y.over over r);
    }

    pub takes_packet : (x y : CoreTable C) (m : Course) (p : Packet) → Stands paid t last handler m x → x.ready ≡ true → m.number < p.number → m.clock ≤ p.now
        → y.set ≡ x.set → y.state ≡ x.state → y.ready ≡ false → y.over ≡ false
        → (m.under ≡ None → Keeps (StandsFor paid t) t m x.desk → Keeps (StandsFor paid t) t (loaded m p) y.desk) → Stands paid t last handler (loaded m p) y
    takes_packet x y m p h ready number clock set state no_ready no_over keeps =
        let w = h.waits ready in
        let r = idle_rests paid t m x.desk x.state w.0 h.at in
        stands_at x y m (loaded m p) h (load_is_sound t last handler m p h.sound w.0 w.1 number clock)
        (subst (IsAtState paid t (loaded m p) y.desk) (sym (state ∙ r.is)) (w.0, keeps w.0 r.keeps)) set no_ready no_over

    pub takes_end : (x y : CoreTable C) (m : Course) (at : ℕ) → Stands paid t last handler m x → x.ready ≡ true → at ≡ last → m.clock ≤ at
        → y.set ≡ x.set → y.state ≡ x.state → y.ready ≡ false → y.over ≡ false
        → (m.under ≡ None → Keeps (StandsFor paid t) t m x.desk → Keeps (StandsFor paid t) t (closing m at) y.desk) → Stands paid t last handler (closing m at) y
    takes_end x y m at h ready is clock set state no_ready no_over keeps =
        let w = h.waits ready in
        let r = idle_rests paid t m x.desk x.state w.0 h.at in
        stands_at x y m (closing m at) h (closing_is_sound t last handler m at h.sound w.0 w.1 is clock)
        (subst (IsAtState paid t (closing m at) y.desk) (sym (state ∙ r.is)) (w.0, keeps w.0 r.keeps)) set no_ready no_over
