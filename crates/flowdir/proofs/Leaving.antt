-- What is under way behind a step.
use Rattle.std.specs.Prelude.{◌≡◌, refl, ℕ, Option, Some, None, IfSome, Result, Ok, Err, IfOk}
use Rattle.std.proofs.Common.{◌∙◌, ap}
use Rattle.flowdir.specs.Boundary.{asked_by, AsksSome, weight_of}
use Rattle.flowdir.specs.declared.step.Step.{Step}
use Rattle.flowdir.specs.declared.step.Step.TheVariants.{Ask, Free, Done}
use Rattle.flowdir.specs.Kept.{Kept, Working, IsShut, bytes_next, GivesNext, Leaves}
use Rattle.flowdir.specs.Kept.Working.{Idle, Runs, Copies, Giving, Failed}

pub gives_leaves : {C : Type 0} (k k' : Kept C) (step : Step C) → k.work ≡ Giving → GivesNext k k' step → Leaves step k'.work
gives_leaves k k' (Ask bytes) w g = absurd g
gives_leaves k k' (Free c) w g = ap (λ x. x.work) g.1 ∙ w
gives_leaves k k' (Done counts) w g = ap (λ x. x.work) g.2

-- behind the cut, where no copy is asked for, charges are given back
pub shut_gives : (work : Working) → IsShut work → bytes_next work ≡ None → work ≡ Giving
shut_gives Giving s e = refl
shut_gives (Copies bytes) s e = absurd (cc)
shut_gives Idle s e = absurd s
shut_gives Failed s e = absurd s
shut_gives (Runs start ws) s e = absurd s

-- what is asked for behind an answer
left_asked : {C : Type 0} (step : Step C) (work : Working) → Leaves step work → bytes_next work ≡ asked_by step
left_asked (Ask bytes) work l = l.0
left_asked (Free c) work l = ap bytes_next l
left_asked (Done counts) work l = ap bytes_next l

left_some : {C : Type 0} (step : Step C) (work : Working) → Leaves step work → AsksSome step
left_some (Ask bytes) work l = l.1
left_some (Free c) work l = tt
left_some (Done counts) work l = tt

pub asked_left : {C E : Type 0} (result : Result (Step C) E) (work : Working) → IfOk result (λ step. Leaves step work) → IfOk result (λ step. bytes_next work ≡ asked_by step)
asked_left (Ok step) work l = left_asked step work l
asked_left (Err e) work l = tt

pub some_left : {C E : Type 0} (result : Result (Step C) E) (work : Working) → IfOk result (λ step. Leaves step work) → IfOk result AsksSome
some_left (Ok step) work l = left_some step work l
some_left (Err e) work l = tt

-- where nothing is asked for nothing was granted
pub none_granted : {C : Type 0} (w amount : C → ℕ) (granted : Option C) (asked : Option ℕ) → IfSome granted (λ charge. asked ≡ Some (amount charge)) → asked ≡ None → weight_of w granted ≡ 0
none_granted w amount None asked g e = refl
none_granted w amount (Some c) asked g e = absurd (cc)
