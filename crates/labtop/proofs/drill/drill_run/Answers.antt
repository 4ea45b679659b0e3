use Rattle.labtop.proofs.AnswerLemmas.{complete_run}
use Rattle.labtop.proofs.drill.drill_run.Goals as goal

pub returns-clause-complete : goal.returns-clause-complete
returns-clause-complete g c = λ read writing. complete_run c.args.settings _ _ _ c.drill_with.ensures.verdict
    (λ e. read (c.drill_with.ensures.read e).0) (λ e. writing (c.drill_with.ensures.write e))
