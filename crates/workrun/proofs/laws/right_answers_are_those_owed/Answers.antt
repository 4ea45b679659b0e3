use Rattle.workrun.proofs.MeantLemmas.{answer_meant}
use Rattle.workrun.proofs.laws.right_answers_are_those_owed.Goals as goal

pub returns : goal.returns
returns g c = λ paid first made handler same m right. answer_meant paid g.C.Charge.amount first made c.args.event.now c.args.answer.now handler same m right
