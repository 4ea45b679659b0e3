use Rattle.std.proofs.Common.{sym}
use Rattle.linewords.proofs.SplitLemmas.{words_last, words_first, shorter_behind}
use Rattle.linewords.proofs.words.split_word.Goals as goal

pub returns-in-None-clause-word : goal.returns-in-None-clause-word
returns-in-None-clause-word c = words_last c.args.text.now c.requires.some (sym c.in-None.ensures)

pub returns-in-Some-clause-word : goal.returns-in-Some-clause-word
returns-in-Some-clause-word c = words_first c.args.text.now c.in-Some.at c.requires.begins (sym c.in-Some.ensures)

pub returns-in-Some-clause-shorter : goal.returns-in-Some-clause-shorter
returns-in-Some-clause-shorter c = shorter_behind c.args.text.now c.in-Some.at c.requires.begins (sym c.in-Some.ensures)
