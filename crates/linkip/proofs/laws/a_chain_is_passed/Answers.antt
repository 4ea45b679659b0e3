use Rattle.linkip.proofs.ChainLaws.{chain-passed}
use Rattle.linkip.proofs.laws.a_chain_is_passed.Goals as goal

pub returns : goal.returns
returns c = λ first headers last rest. chain-passed first headers last rest
