-- A step of a table, whatever course it stands for.
use Rattle.std.specs.Prelude.{◌≡◌, ℕ, ◌+◌, Option, Result, Ok, Err, IfOk, OnErr}
use Rattle.streamdefs.specs.Reorder.{Charge}
use Rattle.convo.specs.declared.talk.Convo.{Convo}
use Rattle.coretable.specs.Fits.{Fits, IsLeft, is_closing, unanswered_of}
use Rattle.coretable.specs.Weighed.{weight_of_desk, weight_of_step}
use Rattle.coretable.specs.declared.desk.Desk.{Desk}
use Rattle.coretable.specs.declared.hand.Hand.{Hand}
use Rattle.coretable.specs.declared.stage.Stage.{Stage}
use Rattle.coretable.specs.declared.turn.Turn.{Turn}

-- no charges
abbrev pub nothing : {C : Type 0} → (C → ℕ) → ℕ
nothing w = 0

-- what is taken out, where it is there
abbrev pub size_if_ok : {T X : Type 0} → (T → ℕ) → Result T X → ℕ
size_if_ok size (Ok x) = size x
size_if_ok size (Err e) = 0

-- what comes back, where it isn't taken
abbrev pub size_if_err : {T X : Type 0} → (T → ℕ) → Result X T → ℕ
size_if_err size (Ok x) = 0
size_if_err size (Err back) = size back

-- What waits stays as it is; of the charges so much goes in, and so much comes out.
pub record IsMoved {C : Type 0} (old new : Desk (Convo C)) (put taken : (C → ℕ) → ℕ) : Type 0 where
  pub closing : is_closing new.job ≡ is_closing old.job
  pub unanswered : unanswered_of new ≡ unanswered_of old
  pub weight : (w : C → ℕ) → weight_of_desk w new + taken w ≡ weight_of_desk w old + put w

-- A step fits its turn, or found no memory and left what waits; the charges that it is given are kept, given out or in hand.
pub record IsStep {C : Type 0} (paid : C → Charge) (limit : ℕ) (old new : Desk (Convo C)) (put : (C → ℕ) → ℕ) (result : Result (Stage C (Convo C) × Option (Turn C)) (Hand C)) : Type 0 where
  pub fits : IfOk result (λ r. Fits paid limit old new r.0 r.1)
  pub left : OnErr result (IsLeft old new)
  pub weight : (w : C → ℕ) → weight_of_desk w new + weight_of_step w result ≡ weight_of_desk w old + put w
