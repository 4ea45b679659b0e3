-- The charges that are out, with one fewer or in another order.
use Rattle.std.proofs.Common.{◌≡◌, ◌+◌, ◌-◌, ◌<◌, ◌≤◌, List, ◌∷◌, ◌++◌, IsPermutation, arith, ◌∙◌, sym, ap}
use Rattle.std.proofs.lemmas.List.Elements.{All-head, All-tail, All-weaker}
use Rattle.std.proofs.lemmas.List.Sorted.{IsPermutation-middle, All-permutation, sum_by-IsPermutation}
use Rattle.std.proofs.lemmas.List.Sums.{sum_by-cons}
use Rattle.prio_budget.specs.ChargeParts.{ChargeParts}
use Rattle.prio_budget.specs.BudgetParts.{BudgetParts}
use Rattle.prio_budget.specs.Out.{HasOut, bytes_of}

pub reordered : (budget : BudgetParts) (out other : List ChargeParts) → IsPermutation out other → HasOut budget out → HasOut budget other
reordered budget out other moved has =
    record {
      used = has.used ∙ sym (sum_by-IsPermutation (λ (c : ChargeParts). c.amount) out other moved);
      earlier = All-permutation (λ (c : ChargeParts). c.stamp < budget.stamp) out other moved has.earlier;
    }

to_front : (budget : BudgetParts) (left right : List ChargeParts) (charge : ChargeParts)
    → HasOut budget (left ++ charge ∷ right) → HasOut budget (charge ∷ (left ++ right))
to_front budget left right charge has =
    reordered budget (left ++ charge ∷ right) (charge ∷ (left ++ right)) (IsPermutation-middle left charge right) has

-- the bytes of the charge and of the others are the used number
bytes-front : (budget : BudgetParts) (charge : ChargeParts) (rest : List ChargeParts)
    → HasOut budget (charge ∷ rest) → budget.used ≡ charge.amount + bytes_of rest
bytes-front budget charge rest has = has.used ∙ sum_by-cons (λ (c : ChargeParts). c.amount) charge rest

pub releasable : (budget : BudgetParts) (left right : List ChargeParts) (charge : ChargeParts)
    → HasOut budget (left ++ charge ∷ right) → (charge.amount ≤ budget.used) × (charge.stamp < budget.stamp)
releasable budget left right charge has =
    let front : HasOut budget (charge ∷ (left ++ right)) = to_front budget left right charge has in (
      omega (arith, bytes-front budget charge (left ++ right) front),
      All-head (λ (c : ChargeParts). c.stamp < budget.stamp) charge (left ++ right) front.earlier,
    )

pub without :
    (before after : BudgetParts) (charge : ChargeParts) (left right : List ChargeParts)
    → after ≡ record { limit = before.limit; stamp = before.stamp + 1; used = before.used - charge.amount }
    → HasOut before (left ++ charge ∷ right) → HasOut after (left ++ right)
without before after charge left right released has =
    let front : HasOut before (charge ∷ (left ++ right)) = to_front before left right charge has in
    let bytes : before.used ≡ charge.amount + bytes_of (left ++ right) = bytes-front before charge (left ++ right) front in
    let used : after.used ≡ before.used - charge.amount = ap (λ (b : BudgetParts). b.used) released in
    let stamp : after.stamp ≡ before.stamp + 1 = ap (λ (b : BudgetParts). b.stamp) released in
    record {
      used = omega (arith, bytes, used);
      earlier = All-weaker (λ (c : ChargeParts). c.stamp < before.stamp) (λ (c : ChargeParts). c.stamp < after.stamp)
          (λ (c : ChargeParts) h. omega (arith, stamp, h))
          (left ++ right) (All-tail (λ (c : ChargeParts). c.stamp < before.stamp) charge (left ++ right) front.earlier);
    }
