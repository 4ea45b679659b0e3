use Rattle.capfilter.proofs.LawLemmas.{parsed_fit}
use Rattle.capfilter.proofs.filter.Filter.read.Goals as goal

pub of_nodes-requires-clause-fit : goal.of_nodes-requires-clause-fit
of_nodes-requires-clause-fit c = parsed_fit c.as_bytes.result.now _ c.in_ok-nodes.ensures.read
