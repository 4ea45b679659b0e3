use Rattle.std.proofs.Common.{refl}
use Rattle.std.specs.Fmt.{digits}
use Rattle.histbook.specs.JournalText.{look_word, free_word, line_end, advice_word, line_of, from_line, journal_text}
use Rattle.hex.specs.Hex.{encode_with}
use Rattle.textout.specs.Addresses.{dotted, grouped}
use Rattle.streamdefs.specs.Handler.{end_text, new_line, data_line, end_line}
use Rattle.streamdefs.specs.Report.{head_lines, dir_line, records_line, bytes_line, budget_line, status_line, report_text}
use Rattle.streamdefs.proofs.LawfulRuns.{one_run-lawful, one_run-history}
use Rattle.streamdefs.proofs.rows_runs.one_datagram_is_delivered.Goals as goal

pub returns-clause-lawful : goal.returns-clause-lawful
returns-clause-lawful c = one_run-lawful

pub returns-clause-history : goal.returns-clause-history
returns-clause-history c = one_run-history

pub returns-clause-delivery : goal.returns-clause-delivery
unfolding look_word free_word line_end advice_word line_of from_line journal_text digits encode_with dotted grouped end_text new_line data_line end_line head_lines dir_line records_line bytes_line budget_line status_line report_text
returns-clause-delivery c = refl

pub returns-clause-report : goal.returns-clause-report
unfolding look_word free_word line_end advice_word line_of from_line journal_text digits encode_with dotted grouped end_text new_line data_line end_line head_lines dir_line records_line bytes_line budget_line status_line report_text
returns-clause-report c = refl
