use Rattle.std.proofs.lemmas.Bool.{false≢true}
use Rattle.linewords.specs.Words.{words}
use Rattle.scapconf.proofs.WordLemmas.{joined_utf8}
use Rattle.scapconf.proofs.word.expression.Goals as goal

pub unreachable-requires : goal.unreachable-requires
unreachable-requires c =
    false≢true (c.in-Err.ensures.succeeds (joined_utf8 c.args.line.now c.in_ok-text.text.items c.args.behind (words c.skip_words.result.now) c.requires c.skip_words.ensures c.in_ok-text.ensures))
