use Rattle.std.proofs.Common.{refl}
use Rattle.capfilter.specs.Addresses.{version_4, version_6, address}
use Rattle.capfilter.proofs.rows.addresses_are_read.Goals as goal

pub returns-clause-leading : goal.returns-clause-leading
unfolding version_4 version_6 address
returns-clause-leading c = refl

pub returns-clause-high : goal.returns-clause-high
unfolding version_4 version_6 address
returns-clause-high c = refl

pub returns-clause-gap : goal.returns-clause-gap
unfolding version_4 version_6 address
returns-clause-gap c = refl

pub returns-clause-whole : goal.returns-clause-whole
unfolding version_4 version_6 address
returns-clause-whole c = refl

pub returns-clause-no_zeros : goal.returns-clause-no_zeros
unfolding version_4 version_6 address
returns-clause-no_zeros c = refl

pub returns-clause-two_gaps : goal.returns-clause-two_gaps
unfolding version_4 version_6 address
returns-clause-two_gaps c = refl

pub returns-clause-dotted : goal.returns-clause-dotted
unfolding version_4 version_6 address
returns-clause-dotted c = refl
