-- Marks, looks and a budget written out by hand.
use Rattle.prio_budget.specs.declared.look.Look.{Look}
use Rattle.prio_budget.specs.ChargeParts.{ChargeParts}
use Rattle.prio_budget.specs.BudgetParts.{BudgetParts}
use Rattle.prio_budget.specs.MarkParts.{MarkParts}

-- three priorities between 4,000 and 10,000 bytes
abbrev pub three : MarkParts
three = record { limit = 10000; base = 4000; count = 3 }

-- seven priorities over 10,000 bytes, which 7 doesn't divide
abbrev pub seven : MarkParts
seven = record { limit = 10000; base = 0; count = 7 }

-- 5,000 bytes are in use at stamp 9
abbrev pub half_full : Look
half_full = record { stamp = 9; found = 5000 }

-- the last stamp at which bytes are granted, with nothing in use
abbrev pub last : Look
last = record { stamp = 2147483647; found = 0 }

-- the first stamp at which nothing is granted, with nothing in use
abbrev pub spent : Look
spent = record { stamp = 2147483648; found = 0 }

-- two charges are out
abbrev pub two_out : BudgetParts
two_out = record { limit = 10000; stamp = 3; used = 2460 }

abbrev pub first_charge : ChargeParts
first_charge = record { amount = 1460; stamp = 0 }

abbrev pub last_charge : ChargeParts
last_charge = record { amount = 1000; stamp = 2 }
