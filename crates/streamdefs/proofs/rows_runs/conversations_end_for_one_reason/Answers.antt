use Rattle.std.proofs.Common.{refl}
use Rattle.std.specs.Fmt.{digits}
use Rattle.hex.specs.Hex.{encode_with}
use Rattle.textout.specs.Addresses.{dotted, grouped}
use Rattle.streamdefs.specs.Handler.{end_text, new_line, data_line, end_line}
use Rattle.streamdefs.specs.Report.{head_lines, dir_line, records_line, bytes_line, budget_line, status_line, report_text}
use Rattle.streamdefs.proofs.LawfulRuns.{replaced_run-lawful, replaced_run-history, reset_run-lawful, reset_run-history, closed_run-lawful, closed_run-history}
use Rattle.streamdefs.proofs.rows_runs.conversations_end_for_one_reason.Goals as goal

pub returns-clause-lawful : goal.returns-clause-lawful
returns-clause-lawful c = (replaced_run-lawful, reset_run-lawful, closed_run-lawful)

pub returns-clause-history : goal.returns-clause-history
returns-clause-history c = (replaced_run-history, reset_run-history, closed_run-history)

pub returns-clause-replaced : goal.returns-clause-replaced
unfolding digits encode_with dotted grouped end_text new_line data_line end_line head_lines dir_line records_line bytes_line budget_line status_line report_text
returns-clause-replaced c = refl

pub returns-clause-reset : goal.returns-clause-reset
unfolding digits encode_with dotted grouped end_text new_line data_line end_line head_lines dir_line records_line bytes_line budget_line status_line report_text
returns-clause-reset c = refl

pub returns-clause-late : goal.returns-clause-late
unfolding digits encode_with dotted grouped end_text new_line data_line end_line head_lines dir_line records_line bytes_line budget_line status_line report_text
returns-clause-late c = refl

pub returns-clause-closed : goal.returns-clause-closed
unfolding digits encode_with dotted grouped end_text new_line data_line end_line head_lines dir_line records_line bytes_line budget_line status_line report_text
returns-clause-closed c = refl
