use Rattle.linkip.proofs.ChainLaws.{chain-found}
use Rattle.linkip.proofs.laws.what_is_passed_is_a_chain.Goals as goal

pub returns : goal.returns
returns c = λ next bytes. chain-found next bytes
