use Rattle.std.proofs.Common.{refl, rules}
use Rattle.std.specs.Fmt.{digits}
use Rattle.histbook.specs.JournalText.{look_word, free_word, line_end, line_of, advice_word, from_line, journal_text}
use Rattle.histbook.specs.Rows.{one_datagram}
use Rattle.histbook.proofs.MovesLemmas.{checked_journal}
use Rattle.histbook.proofs.rows.one_datagram_is_a_history.Goals as goal

pub returns-clause-text : goal.returns-clause-text
unfolding digits look_word free_word line_end line_of advice_word from_line journal_text
returns-clause-text c = refl

pub returns-clause-history : goal.returns-clause-history
returns-clause-history c = checked_journal 4096 (one_datagram 0) (record { once = search rules; found = search rules; within = search rules; settled = refl })

pub returns-clause-tight : goal.returns-clause-tight
returns-clause-tight c = checked_journal 2 (one_datagram 0) (record { once = search rules; found = search rules; within = search rules; settled = refl })
