use Rattle.std.proofs.Common.{ap, arith}
use Rattle.coretable.specs.Weighed.{weight_of_stage}
use Rattle.coretable.proofs.hand.Hand.of_stage.Goals as goal

pub returns-in-Returned : goal.returns-in-Returned
returns-in-Returned g c = record { weight = λ w. omega (arith, c.with_kept.ensures w, ap (weight_of_stage w) c.in-Returned.is) }

pub returns-in-Asked : goal.returns-in-Asked
returns-in-Asked g c = record { weight = λ w. omega (arith, c.of.ensures.weight w, ap (weight_of_stage w) c.in-Asked.is) }

pub returns-in-Again : goal.returns-in-Again
returns-in-Again g c = record { weight = λ w. omega (arith, c.of-in-Again.ensures.weight w, ap (weight_of_stage w) c.in-Again.is) }

pub returns-in-Told : goal.returns-in-Told
returns-in-Told g c = record { weight = λ w. omega (arith, c.with_charge.ensures w, ap (weight_of_stage w) c.in-Told.is) }

pub returns-in-Freeing : goal.returns-in-Freeing
returns-in-Freeing g c = record { weight = λ w. omega (arith, c.of-in-Freeing.ensures.weight w, ap (weight_of_stage w) c.in-Freeing.is) }

pub returns-in-Freed : goal.returns-in-Freed
returns-in-Freed g c = record { weight = λ w. omega (arith, c.of-in-Freed.ensures.weight w, ap (weight_of_stage w) c.in-Freed.is) }

pub returns-in-Emitted : goal.returns-in-Emitted
returns-in-Emitted g c = record { weight = λ w. omega (arith, c.of-in-Emitted.ensures.weight w, ap (weight_of_stage w) c.in-Emitted.is) }
