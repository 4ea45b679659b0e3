use Rattle.std.proofs.Common.{sym, ◌∙◌, arith}
use Rattle.linewords.specs.Words.{words}
use Rattle.linewords.proofs.WordLemmas.{drop_next, drop_none}
use Rattle.linewords.proofs.words.skip_words.Goals as goal

pub loop-passed-preserved : goal.loop-passed-preserved
loop-passed-preserved c =
    sym (drop_next (words c.args.line.now) c.loop-passed.passed _ _ (sym c.loop-passed.invariant ∙ c.in-Some.ensures.word))

pub returns-in-None : goal.returns-in-None
returns-in-None c =
    let ended = sym c.loop-passed.invariant ∙ c.in-None.ensures.word in
    c.in-None.ensures.word ∙ sym (drop_none (words c.args.line.now) c.loop-passed.passed c.args.count ended (omega arith))
