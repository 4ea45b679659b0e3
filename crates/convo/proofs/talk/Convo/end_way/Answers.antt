use Rattle.std.proofs.Common.{arith}
use Rattle.convo.proofs.Lefts.{adds_back, adds_fore}
use Rattle.convo.proofs.Results.{if_ok_map}
use Rattle.convo.proofs.talk.Convo.end_way.Goals as goal

pub returns-in-Fore-clause-left : goal.returns-in-Fore-clause-left
returns-in-Fore-clause-left g c = if_ok_map c.end.result c.end.ensures.left (λ step a. adds_fore _ _ _ c.args.self.now c.end.new.dir (omega arith) a)

pub returns-in-Back-clause-left : goal.returns-in-Back-clause-left
returns-in-Back-clause-left g c = if_ok_map c.end-in-Back.result c.end-in-Back.ensures.left (λ step a. adds_back _ _ _ c.args.self.now c.end-in-Back.new.dir (omega arith) a)
