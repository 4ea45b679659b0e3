use Rattle.std.proofs.Common.{refl, codes, []}
use Rattle.capfilter.specs.declared.filter_error.FilterKind.TheVariants as kinds
use Rattle.capfilter.specs.Addresses.{version_4, version_6, address}
use Rattle.capfilter.specs.Ends.{end_test, is_end_test}
use Rattle.capfilter.specs.Words.{word}
use Rattle.capfilter.proofs.FaultLemmas.{refused_fault}
use Rattle.capfilter.proofs.rows.faults_are_told.Goals as goal

pub returns-clause-end : goal.returns-clause-end
unfolding version_4 version_6 address end_test is_end_test word
returns-clause-end c = refused_fault (codes "port") 4 kinds.End refl

pub returns-clause-value : goal.returns-clause-value
unfolding version_4 version_6 address end_test is_end_test word
returns-clause-value c = refused_fault (codes "port x") 5 kinds.Value refl

pub returns-clause-unexpected : goal.returns-clause-unexpected
unfolding version_4 version_6 address end_test is_end_test word
returns-clause-unexpected c = refused_fault (codes "tcp udp") 4 kinds.Unexpected refl

pub returns-clause-number : goal.returns-clause-number
unfolding version_4 version_6 address end_test is_end_test word
returns-clause-number c = refused_fault (codes "tcp 80") 4 kinds.Unexpected refl

pub returns-clause-token : goal.returns-clause-token
unfolding version_4 version_6 address end_test is_end_test word
returns-clause-token c = refused_fault (codes "tcp 65536") 4 kinds.Token refl

pub returns-clause-empty : goal.returns-clause-empty
unfolding version_4 version_6 address end_test is_end_test word
returns-clause-empty c = refused_fault ([]) 0 kinds.End refl
