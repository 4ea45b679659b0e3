use Rattle.std.proofs.Common.{refl}
use Rattle.std.specs.Fmt.{digits}
use Rattle.capfilter.specs.Addresses.{version_4, version_6, address}
use Rattle.capfilter.specs.Canonical.{test_text}
use Rattle.capfilter.specs.Ends.{end_test}
use Rattle.capfilter.specs.Rows.{dns_text, dns}
use Rattle.capfilter.specs.Words.{word}
use Rattle.capfilter.proofs.FaultLemmas.{parsed_reads}
use Rattle.capfilter.proofs.rows.joins_bind_alike.Goals as goal

pub returns-clause-read : goal.returns-clause-read
unfolding version_4 version_6 address end_test word
returns-clause-read c = parsed_reads dns_text dns refl

pub returns-clause-shown : goal.returns-clause-shown
unfolding digits test_text
returns-clause-shown c = refl
