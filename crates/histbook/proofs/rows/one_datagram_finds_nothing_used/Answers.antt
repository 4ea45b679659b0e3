use Rattle.std.proofs.Common.{◌≡◌, ◌+◌, rules, arith}
use Rattle.histbook.specs.Moves.{journal_moves}
use Rattle.histbook.specs.Rows.{one_datagram}
use Rattle.histbook.proofs.BudgetLemmas.{each_stamp_once, stays_within}
use Rattle.histbook.proofs.rows.one_datagram_finds_nothing_used.Goals as goal

pub returns-clause-once : goal.returns-clause-once
returns-clause-once c = each_stamp_once (journal_moves (one_datagram 1)) (search rules)

pub returns-clause-found : goal.returns-clause-found
returns-clause-found c = λ h. let e : 1 + 0 ≡ 0 = h.0.1 in absurd (omega arith)

pub returns-clause-within : goal.returns-clause-within
returns-clause-within c = stays_within 4096 2 (journal_moves (one_datagram 1)) (search rules) (search rules)
