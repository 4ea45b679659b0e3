use Rattle.std.proofs.Common.{arith}
use Rattle.std.proofs.lemmas.Grind.{common_steps}
use Rattle.std.proofs.lemmas.List.Edits.{map_over_more}
use Rattle.scap_world.specs.Plans.{after}
use Rattle.scap_world.proofs.in_memory.plans.pass_all.Goals as goal

pub loop-plan-preserved : goal.loop-plan-preserved
loop-plan-preserved c = grind (arith, common_steps, map_over_more (after c.args.times c.args.name.now c.args.call))
