-- What is written of a chunk that is handed over, and what releasing its charges one after the other does.
use Rattle.std.specs.Prelude.{◌≡◌, ℕ, ◌+◌, ◌-◌, List, [], ◌∷◌, ◌++◌, length}
use Rattle.prio_budget.specs.declared.free.Free.{Free}
use Rattle.prio_budget.specs.BudgetParts.{BudgetParts}
use Rattle.evring.specs.declared.way.Way.{Way}
use Rattle.streamdefs.specs.Handler.{data_line}
use Rattle.datagrams.specs.Flow.{OpenChunk, Paid, joined, size}

-- the line of a chunk of datagrams, which has no copy and no kept bytes
abbrev pub chunk_line : ℕ → Way → OpenChunk → List ℕ
chunk_line conv way o = data_line conv way o.start o.gap 0 0 (joined o.parts)

-- the releases of these parts, from a stamp on
abbrev pub frees_from : ℕ → List Paid → List Free
frees_from stamp [] = []
frees_from stamp (part ∷ parts) = record { stamp = stamp; bytes = length part.bytes } ∷ frees_from (stamp + 1) parts

-- the budget behind them
abbrev pub freed_of : List Paid → BudgetParts → BudgetParts
freed_of parts budget = record { limit = budget.limit; stamp = budget.stamp + length parts; used = budget.used - size parts }

-- of these parts some are released, and the others are left
pub record IsMidway (parts left : List Paid) (before now : BudgetParts) (frees : List Free) : Type 0 where
  pub done : List Paid
  pub all : parts ≡ done ++ left
  pub limit : now.limit ≡ before.limit
  pub stamp : now.stamp ≡ before.stamp + length done
  pub used : now.used + size done ≡ before.used
  pub frees_are : frees ≡ frees_from before.stamp done
