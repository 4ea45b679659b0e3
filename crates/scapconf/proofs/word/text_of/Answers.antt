use Rattle.scapconf.proofs.WordLemmas.{line_utf8}
use Rattle.scapconf.proofs.word.text_of.Goals as goal

pub unreachable-requires : goal.unreachable-requires
unreachable-requires c = c.in-Err.ensures.cases.0 (line_utf8 c.args.line.now c.requires)
