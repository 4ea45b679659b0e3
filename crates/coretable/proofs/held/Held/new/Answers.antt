use Rattle.std.proofs.Common.{arith}
use Rattle.coretable.proofs.held.Held.new.Goals as goal

pub invariant_of-result : goal.invariant_of-result
invariant_of-result g c e = record { below = omega (arith, c.new.ensures.last); asks = c.new.ensures.asked; idle = λ e'. c.new.ensures.idle }

pub returns-clause-stands : goal.returns-clause-stands
returns-clause-stands g c t s = record { is = c.new.ensures.stands t s }
