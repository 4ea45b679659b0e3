use Rattle.convo.proofs.Lefts.{lowers_back, lowers_fore}
use Rattle.convo.proofs.Results.{if_ok_map}
use Rattle.convo.proofs.talk.Convo.freed_way.Goals as goal

pub returns-in-Fore-clause-step : goal.returns-in-Fore-clause-step
returns-in-Fore-clause-step g c = rw c.in-Fore.is c.freed.ensures.step

pub returns-in-Back-clause-step : goal.returns-in-Back-clause-step
returns-in-Back-clause-step g c = rw c.in-Back.is c.freed-in-Back.ensures.step

pub returns-in-Fore-clause-left : goal.returns-in-Fore-clause-left
returns-in-Fore-clause-left g c = if_ok_map c.freed.result c.freed.ensures.left (λ step a. lowers_fore _ c.args.self.now c.freed.new.dir a)

pub returns-in-Back-clause-left : goal.returns-in-Back-clause-left
returns-in-Back-clause-left g c = if_ok_map c.freed-in-Back.result c.freed-in-Back.ensures.left (λ step a. lowers_back _ c.args.self.now c.freed-in-Back.new.dir a)
