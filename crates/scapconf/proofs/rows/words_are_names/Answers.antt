use Rattle.std.proofs.Common.{refl}
use Rattle.scapconf.specs.Names.{name, place}
use Rattle.scapconf.specs.Values.{mode, policy}
use Rattle.scapconf.proofs.rows.words_are_names.Goals as goal

pub returns-clause-strict : goal.returns-clause-strict
unfolding mode policy name place
returns-clause-strict c = refl

pub returns-clause-fast : goal.returns-clause-fast
unfolding mode policy name place
returns-clause-fast c = refl

pub returns-clause-no_mode : goal.returns-clause-no_mode
unfolding mode policy name place
returns-clause-no_mode c = refl

pub returns-clause-first : goal.returns-clause-first
unfolding mode policy name place
returns-clause-first c = refl

pub returns-clause-last : goal.returns-clause-last
unfolding mode policy name place
returns-clause-last c = refl

pub returns-clause-bsd : goal.returns-clause-bsd
unfolding mode policy name place
returns-clause-bsd c = refl

pub returns-clause-linux : goal.returns-clause-linux
unfolding mode policy name place
returns-clause-linux c = refl

pub returns-clause-no_policy : goal.returns-clause-no_policy
unfolding mode policy name place
returns-clause-no_policy c = refl

pub returns-clause-chunk : goal.returns-clause-chunk
unfolding mode policy name place
returns-clause-chunk c = refl

pub returns-clause-idle : goal.returns-clause-idle
unfolding mode policy name place
returns-clause-idle c = refl

pub returns-clause-rule : goal.returns-clause-rule
unfolding mode policy name place
returns-clause-rule c = refl

pub returns-clause-longer : goal.returns-clause-longer
unfolding mode policy name place
returns-clause-longer c = refl

pub returns-clause-upper : goal.returns-clause-upper
unfolding mode policy name place
returns-clause-upper c = refl

pub returns-clause-default : goal.returns-clause-default
unfolding mode policy name place
returns-clause-default c = refl

pub returns-clause-fore : goal.returns-clause-fore
unfolding mode policy name place
returns-clause-fore c = refl

pub returns-clause-back : goal.returns-clause-back
unfolding mode policy name place
returns-clause-back c = refl

pub returns-clause-no_place : goal.returns-clause-no_place
unfolding mode policy name place
returns-clause-no_place c = refl
