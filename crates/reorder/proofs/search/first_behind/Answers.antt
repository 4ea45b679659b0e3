use Rattle.std.proofs.Common.{◌+◌, ◌-◌, ◌/◌, ◌<◌, ℕ, length, arith, rules}
use Rattle.reorder.proofs.Places.{ends_at}
use Rattle.reorder.proofs.search.first_behind.Goals as goal

pub halves-preserved-then-end-position : goal.halves-preserved-then-end-position
halves-preserved-then-end-position g c =
    let middle : ℕ = c.halves.low + (c.halves.high - c.halves.low) / 2 in
    let within : middle < length c.args.parts.now.items = search rules in (
      omega arith,
      c.halves.invariant.1,
      ends_at c.args.position c.args.parts.now.items middle (middle + 1) c.index.result.now (omega arith) c.requires within c.index.ensures (search rules),
      c.halves.invariant.3,
    )
