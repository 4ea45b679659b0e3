use Rattle.std.proofs.Common.{refl}
use Rattle.linewords.specs.Words.{words}
use Rattle.scapconf.proofs.rows.lines_have_words.Goals as goal

pub returns-clause-blanks : goal.returns-clause-blanks
unfolding words
returns-clause-blanks c = refl

pub returns-clause-tab : goal.returns-clause-tab
unfolding words
returns-clause-tab c = refl

pub returns-clause-empty : goal.returns-clause-empty
unfolding words
returns-clause-empty c = refl

pub returns-clause-remark : goal.returns-clause-remark
unfolding words
returns-clause-remark c = refl

pub returns-clause-no_remark : goal.returns-clause-no_remark
unfolding words
returns-clause-no_remark c = refl
