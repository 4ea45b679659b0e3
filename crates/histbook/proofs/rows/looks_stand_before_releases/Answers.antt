use Rattle.std.proofs.Common.{refl, rules}
use Rattle.histbook.specs.Rows.{release_first}
use Rattle.histbook.proofs.MovesLemmas.{checked_journal}
use Rattle.histbook.proofs.rows.looks_stand_before_releases.Goals as goal

pub returns-clause-history : goal.returns-clause-history
returns-clause-history c = checked_journal 5 release_first (record { once = search rules; found = search rules; within = search rules; settled = refl })
