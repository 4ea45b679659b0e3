use Rattle.std.proofs.Common.{arith}
use Rattle.handler.proofs.BeginsLemmas.{second_decides, first_refuses}
use Rattle.handler.proofs.condition.begins.Goals as goal

pub returns-then-eq : goal.returns-then-eq
returns-then-eq c =
    second_decides c.args.first.now c.args.second.now c.args.front.now _ _ _ (omega arith) c.split_at.ensures.front c.eq.ensures _ c.if-eq.true c.split_at.ensures.back
    c.starts_with-then-eq.ensures.value

pub returns-else-eq : goal.returns-else-eq
returns-else-eq c =
    first_refuses c.args.first.now c.args.second.now c.args.front.now c.split_at.result.0.now c.split_at.result.1.now _ (omega arith) c.split_at.ensures.front c.eq.ensures c.if-eq.false
