-- The history of a memory budget over plain lists: docs/RULES.md, "The budget's history".
use Rattle.std.specs.Prelude.{◌≡◌, ℕ, ◌+◌, ◌<◌, ◌≤◌, ◌&&◌, nat_eq, nat_lt, nat_le, if◌then◌else◌, List, [], ◌∷◌, length}
use Rattle.prio_budget.specs.declared.look.Look.{Look}
use Rattle.prio_budget.specs.declared.budget_move.BudgetMove.{BudgetMove}
use Rattle.prio_budget.specs.declared.budget_move.BudgetMove.TheVariants.{Grant, Release}

-- the stamp that a move found
abbrev pub stamp_of : BudgetMove → ℕ
stamp_of (Grant look bytes) = look.stamp
stamp_of (Release free) = free.stamp

-- the bytes that it grants, and that it frees
abbrev pub granted : BudgetMove → ℕ
granted (Grant look bytes) = bytes
granted (Release free) = 0

abbrev pub freed : BudgetMove → ℕ
freed (Grant look bytes) = 0
freed (Release free) = free.bytes

-- 1 for a grant, and for a release
abbrev pub is_grant : BudgetMove → ℕ
is_grant (Grant look bytes) = 1
is_grant (Release free) = 0

abbrev pub is_release : BudgetMove → ℕ
is_release (Grant look bytes) = 0
is_release (Release free) = 1

-- the sum of a weight over a list
abbrev pub total : {A : Type 0} → (A → ℕ) → List A → ℕ
total f [] = 0
total f (x ∷ xs) = f x + total f xs

-- a weight that counts only below a stamp
abbrev pub below : (BudgetMove → ℕ) → ℕ → BudgetMove → ℕ
below weight stamp move = if nat_lt (stamp_of move) stamp then weight move else 0

-- 1 for a move at a stamp
abbrev pub at_stamp : ℕ → BudgetMove → ℕ
at_stamp stamp move = if nat_eq (stamp_of move) stamp then 1 else 0

-- the bytes granted, and freed, below a stamp
abbrev pub granted_below : ℕ → List BudgetMove → ℕ
granted_below stamp moves = total (below granted stamp) moves

abbrev pub freed_below : ℕ → List BudgetMove → ℕ
freed_below stamp moves = total (below freed stamp) moves

-- 1 for a number from the first one up to the end, and else 0
abbrev pub once_between : ℕ → ℕ → ℕ → ℕ
once_between first end n = if nat_le first n && nat_lt n end then 1 else 0

-- P of each element
abbrev pub Each : {A : Type 0} → (A → Type 0) → List A → Type 0
Each P [] = Unit {0}
Each P (x ∷ xs) = P x × Each P xs

-- the used number before a stamp: what is granted below it less what is freed below it
abbrev pub IsUsedBefore : (grants frees : ℕ → ℕ) → (stamp used : ℕ) → Type 0
IsUsedBefore grants frees stamp used = used + frees stamp ≡ grants stamp

-- a look found the used number before its stamp, which isn't above the end
abbrev pub IsTrueLook : (grants frees : ℕ → ℕ) → (end : ℕ) → Look → Type 0
IsTrueLook grants frees end look = (look.stamp ≤ end) × IsUsedBefore grants frees look.stamp look.found

-- a move has a stamp below the end, and a grant found the used number and room for its bytes
abbrev pub IsFairMove : (grants frees : ℕ → ℕ) → (limit end : ℕ) → BudgetMove → Type 0
IsFairMove grants frees limit end (Grant look bytes) = (look.stamp < end) × IsUsedBefore grants frees look.stamp look.found × (look.found + bytes ≤ limit)
IsFairMove grants frees limit end (Release free) = free.stamp < end

-- the stamps of the moves are the numbers from the first one on, each once
abbrev pub HasEachStampOnce : ℕ → List BudgetMove → Type 0
HasEachStampOnce first moves = (n : ℕ) → total (at_stamp n) moves ≡ once_between first (first + length moves) n

-- each look found the used number before its stamp
abbrev pub FoundTheUsed : ℕ → List BudgetMove → List Look → Type 0
FoundTheUsed first moves looks = Each (IsTrueLook (λ n. granted_below n moves) (λ n. freed_below n moves) (first + length moves)) looks

-- each grant found room for its bytes
abbrev pub HadRoom : (limit first : ℕ) → List BudgetMove → Type 0
HadRoom limit first moves = Each (IsFairMove (λ n. granted_below n moves) (λ n. freed_below n moves) limit (first + length moves)) moves

-- before no stamp is the used number above the limit
abbrev pub StaysWithin : ℕ → List BudgetMove → Type 0
StaysWithin limit moves = (n : ℕ) → granted_below n moves ≤ limit + freed_below n moves

-- all that was granted was freed
abbrev pub IsSettled : List BudgetMove → Type 0
IsSettled moves = total freed moves ≡ total granted moves

-- moves and looks are all those of one budget with that limit, whose first stamp is given
pub record IsOneHistory (limit first : ℕ) (moves : List BudgetMove) (looks : List Look) : Type 0 where
  pub once : HasEachStampOnce first moves
  pub found : FoundTheUsed first moves looks
  pub fair : HadRoom limit first moves
  pub within : StaysWithin limit moves
  pub settled : IsSettled moves
