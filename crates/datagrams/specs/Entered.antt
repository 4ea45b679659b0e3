-- What a datagram does to its direction and to the budget.
use Rattle.std.specs.Prelude.{◌≡◌, ℕ, suc, ◌+◌, true, false, cond, nat_le, List, [], ◌∷◌, ◌++◌, length, Option, Some, None}
use Rattle.prio_budget.specs.BudgetParts.{BudgetParts}
use Rattle.prio_budget.specs.ChargeParts.{ChargeParts}
use Rattle.histbook.specs.declared.look_entry.LookEntry.{LookEntry}
use Rattle.datagrams.specs.Flow.{Flow, OpenChunk, closed_by_gap, granted_to, handed_over, left_open, part_of, refused_to}

-- the look of an ask for so many bytes
abbrev pub look_for : (mark : ℕ) → BudgetParts → (asked : ℕ) → LookEntry
look_for mark budget asked = record { asked = asked; granted = nat_le (budget.used + asked) mark; look = record { stamp = budget.stamp; found = budget.used } }

-- the budget behind it
abbrev pub budget_behind : LookEntry → BudgetParts → BudgetParts
budget_behind look budget = cond look.granted (record budget { stamp = budget.stamp + 1; used = budget.used + look.asked }) budget

-- the charge that it gives
abbrev pub IsChargeOf : LookEntry → Option ChargeParts → Type 0
IsChargeOf look None = look.granted ≡ false
IsChargeOf look (Some charge) = (look.granted ≡ true) × (charge ≡ record { amount = look.asked; stamp = look.look.stamp })

-- a datagram's looks, the chunks that it hands over, and the direction and the budget behind it
pub record Entry : Type 0 where
  pub looks : List LookEntry
  pub over : List OpenChunk
  pub flow : Flow
  pub budget : BudgetParts

-- one that was granted
abbrev pub granted_entry : (least : ℕ) → BudgetParts → Flow → List ℕ → LookEntry → Entry
granted_entry least budget f payload look = record {
  looks = look ∷ [];
  over = closed_by_gap f ++ handed_over least (granted_to f (part_of payload look));
  flow = left_open least (granted_to f (part_of payload look));
  budget = budget_behind look budget;
}

-- one that was refused, or is empty
abbrev pub still_entry : (least : ℕ) → BudgetParts → Flow → (bytes : ℕ) → List LookEntry → Entry
still_entry least budget f bytes looks = record {
  looks = looks;
  over = handed_over least (refused_to f bytes);
  flow = left_open least (refused_to f bytes);
  budget = budget;
}

-- a datagram with at least a byte, by its look
abbrev pub asked_entry : (least : ℕ) → BudgetParts → Flow → List ℕ → LookEntry → Entry
asked_entry least budget f payload look = cond look.granted (granted_entry least budget f payload look) (still_entry least budget f (length payload) (look ∷ []))

-- any datagram
abbrev pub entered : (mark least : ℕ) → BudgetParts → Flow → List ℕ → Entry
entered mark least budget f [] = still_entry least budget f 0 []
entered mark least budget f (b ∷ bytes) = asked_entry least budget f (b ∷ bytes) (look_for mark budget (suc (length bytes)))
