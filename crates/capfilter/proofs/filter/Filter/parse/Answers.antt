use Rattle.capfilter.proofs.ParseLemmas.{gave_parsed, gave_only, gave_refused, gave_least}
use Rattle.capfilter.proofs.filter.Filter.parse.Goals as goal

pub returns : goal.returns
returns c =
    record {
      parsed = gave_parsed c.args.text.now c.read.result c.read.ensures;
      only = gave_only c.args.text.now c.read.result c.read.ensures;
      refused = gave_refused c.args.text.now c.read.result c.read.ensures;
      least = gave_least c.args.text.now c.read.result c.read.ensures;
    }
