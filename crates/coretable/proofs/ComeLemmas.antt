-- Silent steps in a row.
use Rattle.std.specs.Prelude.{◌≡◌, refl, ℕ, zero, suc, Option, None, Some}
use Rattle.std.proofs.Common.{sym, subst}
use Rattle.streamdefs.specs.Terms.{Terms}
use Rattle.streamdefs.specs.Lawful.{Handler}
use Rattle.streamdefs.specs.Reorder.{Charge}
use Rattle.coretable.specs.Course.{Course, Step, GoesOn, After, step}
use Rattle.coretable.specs.Course.Step.{Goes, Stops}
use Rattle.coretable.specs.Lawfully.{IsSound}
use Rattle.coretable.proofs.Soundness.{step_is_sound}
use Rattle.convo.specs.Talk.{Talk, Phase}
use Rattle.coretable.specs.declared.desk.Desk.{Desk}
use Rattle.coretable.specs.declared.stage.Stage.{Stage}
use Rattle.coretable.specs.declared.turn.Turn.{Turn}
use Rattle.coretable.specs.Turns.{IsAt, Moves, HasCome, ComesTo}

on_step : (P Q : Course → Type 0) (s : Step) → ((c : Course) → s ≡ Goes c → P c → Q c) → GoesOn P s → GoesOn Q s
on_step P Q (Goes c) f h = f c refl h
on_step P Q (Stops x) f h = h

pub add : ℕ → ℕ → ℕ
add zero k = k
add (suc n) k = suc (add n k)

pub joined : (t : Terms) (n k : ℕ) (m there next : Course) → After t n m there → After t k there next → After t (add n k) m next
unfolding add
joined t zero k m there next a b = subst (λ x. After t k x next) (sym a) b
joined t (suc n) k m there next a b = on_step (λ c. After t n c there) (λ c. After t (add n k) c next) (step t m) (λ c e h. joined t n k c there next h b) a

sound_one : (t : Terms) (last : ℕ) (handler : Handler) (n : ℕ) (m there : Course) (s : Step) → step t m ≡ s → IsSound t last handler m → GoesOn (λ c. After t n c there) s
    → ((c : Course) → After t n c there → IsSound t last handler c → IsSound t last handler there) → IsSound t last handler there
sound_one t last handler n m there (Goes c) e sound a rest = rest c a (step_is_sound t last handler m c sound e)
sound_one t last handler n m there (Stops x) e sound a rest = absurd a

pub sound_after : (t : Terms) (last : ℕ) (handler : Handler) (n : ℕ) (m there : Course) → After t n m there → IsSound t last handler m → IsSound t last handler there
sound_after t last handler zero m there a sound = subst (IsSound t last handler) a sound
sound_after t last handler (suc n) m there a sound = sound_one t last handler n m there (step t m) refl sound a (λ c h s. sound_after t last handler n c there h s)

pub one_more : (t : Terms) (m next : Course) → step t m ≡ Goes next → After t 1 m next
one_more t m next e = subst (GoesOn (λ c. c ≡ next)) (sym e) refl

module _ {C D : Type 0} (paid : C → Charge) (Stands : D → Talk → Phase → Type 0) where
  pub come_on : (t : Terms) (last : ℕ) (handler : Handler) (m : Course) (d0 d1 : Desk D) (s0 s1 : Stage C D) (turn : Option (Turn C)) → turn ≡ None → HasCome paid Stands t last handler m d0 s0
      → ((there : Course) → IsSound t last handler there → IsAt paid Stands t there d0 s0 → Moves paid Stands t there d1 s1 turn) → HasCome paid Stands t last handler m d1 s1
  come_on t last handler m d0 d1 s0 s1 turn none h moves =
      let x = subst (Moves paid Stands t h.1 d1 s1) none (moves h.1 h.3 h.4) in
      let far = joined t x.0 1 h.1 x.1 x.3.0 x.2 (one_more t x.1 x.3.0 x.3.1) in
      (add h.0 (add x.0 1), x.3.0, joined t h.0 (add x.0 1) m h.1 x.3.0 h.2 far, sound_after t last handler (add x.0 1) h.1 x.3.0 far h.3, x.3.2)

  pub come_to : (t : Terms) (last : ℕ) (handler : Handler) (m : Course) (d0 d1 : Desk D) (s0 s1 : Stage C D) (some : Option (Turn C)) (turn : Turn C) → some ≡ Some turn → HasCome paid Stands t last handler m d0 s0
      → ((there : Course) → IsSound t last handler there → IsAt paid Stands t there d0 s0 → Moves paid Stands t there d1 s1 some) → ComesTo paid Stands t m d1 s1 turn
  come_to t last handler m d0 d1 s0 s1 some turn is h moves =
      let x = subst (Moves paid Stands t h.1 d1 s1) is (moves h.1 h.3 h.4) in
      (add h.0 x.0, x.1, x.3.0, (joined t h.0 x.0 m h.1 x.1 h.2 x.2, x.3.1), x.3.2, x.3.3)
