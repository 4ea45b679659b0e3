use Rattle.std.proofs.Common.{sym, subst}
use Rattle.datagrams.specs.Stands.{Stands}
use Rattle.datagrams.proofs.StandsSteps.{stands_many}
use Rattle.datagrams.proofs.course.end_all.Goals as goal

pub returns-clause-stands : goal.returns-clause-stands
returns-clause-stands c t first packets done stands until =
    c.end_each.ensures.stands t first packets done
    (subst (Stands t c.args.last first packets done 0) (sym c.in_ok-answer_many.ensures) (stands_many t c.args.last first packets done 0 c.waiting_len-waiting.result c.args.replay.now stands))
    until
