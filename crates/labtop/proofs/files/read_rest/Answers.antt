use Rattle.std.proofs.Common.{◌+◌, arith, ◌∙◌}
use Rattle.labtop.proofs.ReadLemmas.{read_all, read_most}
use Rattle.labtop.proofs.files.read_rest.Goals as goal

pub returns-then-n-eq0-clause-bytes : goal.returns-then-n-eq0-clause-bytes
returns-then-n-eq0-clause-bytes g c = read_all _ _ _ (c.args.most + 1) (c.rest.invariant.same ∙ c.in_ok-n.ensures.same)
    (omega (arith, c.in_ok-n.ensures.grows, c.in_ok-n.ensures.bound)) (c.in_ok-n.ensures.end c.if-n-eq0.true)

pub returns-clause-bytes : goal.returns-clause-bytes
returns-clause-bytes g c = read_most _ _ _ (c.args.most + 1) c.rest.invariant.same (omega arith)
