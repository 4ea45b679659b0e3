use Rattle.std.proofs.Common.{refl}
use Rattle.std.specs.Fmt.{digits}
use Rattle.hex.specs.Hex.{encode_with}
use Rattle.textout.specs.Addresses.{dotted, grouped}
use Rattle.textout.proofs.rows.addresses_are_written.Goals as goal

pub returns-clause-version_4 : goal.returns-clause-version_4
unfolding digits dotted
returns-clause-version_4 c = refl

pub returns-clause-version_6 : goal.returns-clause-version_6
unfolding encode_with grouped
returns-clause-version_6 c = refl
