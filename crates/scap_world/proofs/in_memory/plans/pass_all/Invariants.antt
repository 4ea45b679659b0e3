use Rattle.std.proofs.Common.{◌≡◌, ◌++◌, map, take, drop}
use Rattle.scap_world.specs.Plans.{after}
use Rattle.scap_world.proofs.in_memory.plans.pass_all.Given as goal

abbrev pub invariant-loop-plan : goal.invariant-loop-plan
invariant-loop-plan l = l.plans ≡ map (after l.times l.name l.call) (take l.plan-index l.initial.plans) ++ drop l.plan-index l.initial.plans
