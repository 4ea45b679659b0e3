use Rattle.std.proofs.Common.{arith}
use Rattle.std.proofs.lemmas.Grind.{common_steps}
use Rattle.pcapfile.proofs.FedLemmas.{is_fed}
use Rattle.pcapfile.proofs.frames.Frames.feed.Goals as goal

pub returns-clause-fed : goal.returns-clause-fed
returns-clause-fed c = is_fed _ _ _ (grind (arith, common_steps))
