use Rattle.capfilter.proofs.CanonicalLemmas.{canonical_reads}
use Rattle.capfilter.proofs.laws.canonical_texts_read_back.Goals as goal

pub returns : goal.returns
returns c = canonical_reads c.args.filter.now c.known.ensures
