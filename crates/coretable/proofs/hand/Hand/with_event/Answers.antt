use Rattle.std.proofs.Common.{arith}
use Rattle.coretable.proofs.StepLemmas.{no_chunk}
use Rattle.coretable.proofs.hand.Hand.with_event.Goals as goal

pub returns-in-New : goal.returns-in-New
returns-in-New g c = λ w. omega (arith, c.of.ensures.weight w, no_chunk w c.args.event c.in-New.is)
