-- Which answer an ask has.
use Rattle.std.specs.Prelude.{◌≡◌, ◌≢◌, ℕ, ◌+◌, ◌<◌, ◌≤◌, List, [], ◌∷◌}
use Rattle.prio_budget.specs.declared.look.Look.{Look}
use Rattle.prio_budget.specs.declared.answered.TheConstants.{SPENT_STAMP}
use Rattle.prio_budget.specs.declared.answered.Answered.{Answered}
use Rattle.prio_budget.specs.declared.answered.Answered.TheVariants.{Granted, Past, Spent, Moved}
use Rattle.prio_budget.specs.ChargeParts.{ChargeParts}
use Rattle.prio_budget.specs.BudgetParts.{BudgetParts}

-- a look lets the asked bytes in: its stamp still grants (below 2^31), and what was found and is asked doesn't pass the mark
abbrev pub LetsIn : ℕ → ℕ → Look → Type 0
LetsIn asked mark look = (look.stamp < SPENT_STAMP) × (look.found + asked ≤ mark)

-- an answer is the one that its look decides: spent from stamp 2^31 on, else past above the mark, else granted, or moved where two looks of one ask differ
abbrev pub IsDecided : {C : Type 0} → ℕ → ℕ → Answered C → Type 0
IsDecided asked mark (Granted charge look) = LetsIn asked mark look
IsDecided asked mark (Past look) = (look.stamp < SPENT_STAMP) × (mark < look.found + asked)
IsDecided asked mark (Spent look) = SPENT_STAMP ≤ look.stamp
IsDecided asked mark (Moved first look) = LetsIn asked mark look × (first ≢ look)

-- the stamp and the used number of a budget
abbrev pub look_at : BudgetParts → Look
look_at budget = record { stamp = budget.stamp; found = budget.used }

-- the answer of a budget of one thread, and the budget afterwards: the look is what the budget was; a grant gives a charge of the asked bytes
-- with the look's stamp, and takes this stamp and these bytes; a refusal takes nothing
abbrev pub IsPlainAnswer : ℕ → BudgetParts → BudgetParts → Answered ChargeParts → Type 0
IsPlainAnswer asked before after (Granted charge look) =
    (look ≡ look_at before) × (charge ≡ record { amount = asked; stamp = before.stamp })
    × (after ≡ record { limit = before.limit; stamp = before.stamp + 1; used = before.used + asked })
IsPlainAnswer asked before after (Past look) = (look ≡ look_at before) × (after ≡ before)
IsPlainAnswer asked before after (Spent look) = (look ≡ look_at before) × (after ≡ before)
IsPlainAnswer asked before after (Moved first look) = ⊥

-- the charges that an answer gives out
abbrev pub granted_of : Answered ChargeParts → List ChargeParts
granted_of (Granted charge look) = charge ∷ []
granted_of (Past look) = []
granted_of (Spent look) = []
granted_of (Moved first look) = []
