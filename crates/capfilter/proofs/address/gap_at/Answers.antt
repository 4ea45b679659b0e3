use Rattle.std.proofs.Common.{arith}
use Rattle.capfilter.proofs.AddressLemmas.{gap_later, gap_nowhere}
use Rattle.capfilter.proofs.address.gap_at.Goals as goal

pub loop-at-preserved : goal.loop-at-preserved
loop-at-preserved c = gap_later c.args.text.now c.loop-at.at (omega arith) c.loop-at.invariant (λ a b. grind arith)

pub returns : goal.returns
returns c = gap_nowhere c.args.text.now c.loop-at.at (omega arith) c.loop-at.invariant
