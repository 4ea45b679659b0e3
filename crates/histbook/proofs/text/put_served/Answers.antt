use Rattle.std.proofs.Common.{List, ℕ, ◌++◌, ◌∙◌, ap}
use Rattle.std.proofs.lemmas.Result.{on_ok_weaker}
use Rattle.histbook.proofs.TextLemmas.{runs_written}
use Rattle.histbook.proofs.text.put_served.Goals as goal

pub returns-clause-ok : goal.returns-clause-ok
returns-clause-ok c = on_ok_weaker c.put_runs.result (λ put. put ∙ ap (λ (l : List ℕ). c.args.out.now.items ++ l) (runs_written _ _ c.runs.ensures c.requires)) c.put_runs.ensures.ok
