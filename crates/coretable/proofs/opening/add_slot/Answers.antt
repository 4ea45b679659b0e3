use Rattle.std.proofs.Common.{◌∙◌, ap, refl}
use Rattle.coretable.specs.Weighed.{size_of_slots}
use Rattle.coretable.proofs.StepLemmas.{size_added}
use Rattle.coretable.proofs.opening.add_slot.Goals as goal

pub returns-clause-size : goal.returns-clause-size
returns-clause-size g c = λ size. ap (size_of_slots size) c.in_ok-push.ensures.items ∙ size_added size c.args.desk.now.slots.items _ refl
