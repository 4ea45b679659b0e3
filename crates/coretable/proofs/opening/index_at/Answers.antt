use Rattle.std.proofs.Common.{◌∙◌, ap, Some, cond}
use Rattle.coretable.specs.Standing.{place_of}
use Rattle.coretable.proofs.Keys.{same_eq}
use Rattle.coretable.proofs.opening.index_at.Goals as goal

pub returns-clause-index : goal.returns-clause-index
returns-clause-index g c = λ other. c.in_ok-insert.ensures.updates.0 other ∙ ap (λ b. cond b (Some c.args.place) (place_of c.args.desk.now other)) (same_eq c.args.key other)
