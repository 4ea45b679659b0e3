use Rattle.std.proofs.Common.{refl}
use Rattle.std.specs.Fmt.{digits}
use Rattle.scapconf.proofs.rows.texts_tell_numbers.Goals as goal

pub returns-clause-settings : goal.returns-clause-settings
unfolding digits
returns-clause-settings c = refl

pub returns-clause-whole_text : goal.returns-clause-whole_text
unfolding digits
returns-clause-whole_text c = refl

pub returns-clause-record : goal.returns-clause-record
unfolding digits
returns-clause-record c = refl

pub returns-clause-cut : goal.returns-clause-cut
unfolding digits
returns-clause-cut c = refl
