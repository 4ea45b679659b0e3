use Rattle.std.proofs.Common.{sym, ◌∙◌}
use Rattle.linewords.proofs.SplitLemmas.{no_words, words_behind_blanks, word_begins}
use Rattle.linewords.proofs.words.next_word.Goals as goal

pub returns-in_err-at-clause-word : goal.returns-in_err-at-clause-word
returns-in_err-at-clause-word c =
    let none = no_words c.args.line.now (sym c.in_err-at.ensures) in
    rw c.from_residual.ensures none

pub split_word-requires-clause-begins : goal.split_word-requires-clause-begins
split_word-requires-clause-begins c = word_begins c.args.line.now c.in_ok-at.at (sym c.in_ok-at.ensures)

pub returns-clause-word : goal.returns-clause-word
returns-clause-word c = words_behind_blanks c.args.line.now c.in_ok-at.at (sym c.in_ok-at.ensures) ∙ c.split_word.ensures.word
