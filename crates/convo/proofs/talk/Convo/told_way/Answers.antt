use Rattle.convo.proofs.Lefts.{lowers_back, lowers_fore}
use Rattle.convo.proofs.Results.{if_ok_map}
use Rattle.convo.proofs.talk.Convo.told_way.Goals as goal

pub returns-in-Fore-clause-step : goal.returns-in-Fore-clause-step
returns-in-Fore-clause-step g c = rw c.in-Fore.is c.told.ensures.step

pub returns-in-Back-clause-step : goal.returns-in-Back-clause-step
returns-in-Back-clause-step g c = rw c.in-Back.is c.told-in-Back.ensures.step

pub returns-in-Fore-clause-left : goal.returns-in-Fore-clause-left
returns-in-Fore-clause-left g c = if_ok_map c.told.result c.told.ensures.left (λ step a. lowers_fore _ c.args.self.now c.told.new.dir a)

pub returns-in-Back-clause-left : goal.returns-in-Back-clause-left
returns-in-Back-clause-left g c = if_ok_map c.told-in-Back.result c.told-in-Back.ensures.left (λ step a. lowers_back _ c.args.self.now c.told-in-Back.new.dir a)
