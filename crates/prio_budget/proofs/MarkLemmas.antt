-- The mark of the last priority.
use Rattle.std.proofs.Common.{◌≡◌, ◌+◌, ◌-◌, ◌*◌, ◌/◌, ◌<◌, min, arith}
use Rattle.std.proofs.Math.Nat.{mul-div_cancel}
use Rattle.prio_budget.specs.MarkParts.{MarkParts, AreMarks}
use Rattle.prio_budget.specs.Laws.{EndAtTheLimit}

pub last-mark : (m : MarkParts) → AreMarks m.limit m.base m.count → EndAtTheLimit m
last-mark m lawful i last =
    let some : 0 < m.count = omega arith in
    let all : min i (m.count - 1) + 1 ≡ m.count = omega arith in
    let whole : (m.limit - m.base) * m.count / m.count ≡ m.limit - m.base = mul-div_cancel (m.limit - m.base) some in
    rw all (omega (arith, whole))
