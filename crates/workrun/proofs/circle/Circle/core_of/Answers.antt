use Rattle.std.proofs.Common.{◌+◌, ◌*◌, ◌<◌, arith}
use Rattle.workrun.proofs.CircleLemmas.{step_within, step_mod}
use Rattle.workrun.proofs.circle.Circle.core_of.Goals as goal

pub overflow_mul-result : goal.overflow_mul-result
overflow_mul-result c =
    let within : c.args.self.now.first + c.args.self.now.step * c.args.place < c.args.self.now.cores =
    step_within c.args.self.now.first c.args.self.now.step c.args.self.now.cores c.args.place c.args.self.now.begins c.args.self.now.steps c.requires in
    let few = c.args.self.now.few in
    omega arith

pub overflow_add-result : goal.overflow_add-result
overflow_add-result c =
    let within : c.args.self.now.first + c.args.self.now.step * c.args.place < c.args.self.now.cores =
    step_within c.args.self.now.first c.args.self.now.step c.args.self.now.cores c.args.place c.args.self.now.begins c.args.self.now.steps c.requires in
    let few = c.args.self.now.few in
    omega arith

pub returns-clause-own : goal.returns-clause-own
returns-clause-own c = (
  step_mod c.args.self.now.first c.args.self.now.step c.args.place c.args.self.now.begins,
  step_within c.args.self.now.first c.args.self.now.step c.args.self.now.cores c.args.place c.args.self.now.begins c.args.self.now.steps c.requires,
)
