use Rattle.std.proofs.Common.{refl}
use Rattle.std.specs.Fmt.{digits}
use Rattle.hex.specs.Hex.{encode_with}
use Rattle.textout.specs.Addresses.{dotted, grouped}
use Rattle.streamdefs.specs.Handler.{end_text, new_line, data_line, end_line}
use Rattle.streamdefs.specs.Report.{head_lines, dir_line, records_line, bytes_line, budget_line, status_line, report_text}
use Rattle.streamdefs.proofs.LawfulRuns.{copy_run-lawful, copy_run-history, uncopied_run-lawful, uncopied_run-history, spare_run-lawful, spare_run-history}
use Rattle.streamdefs.proofs.rows_runs.copies_are_shown_again.Goals as goal

pub returns-clause-lawful : goal.returns-clause-lawful
returns-clause-lawful c = (copy_run-lawful, uncopied_run-lawful, spare_run-lawful)

pub returns-clause-history : goal.returns-clause-history
returns-clause-history c = (copy_run-history, uncopied_run-history, spare_run-history)

pub returns-clause-copied : goal.returns-clause-copied
unfolding digits encode_with dotted grouped end_text new_line data_line end_line head_lines dir_line records_line bytes_line budget_line status_line report_text
returns-clause-copied c = refl

pub returns-clause-refused : goal.returns-clause-refused
unfolding digits encode_with dotted grouped end_text new_line data_line end_line head_lines dir_line records_line bytes_line budget_line status_line report_text
returns-clause-refused c = refl

pub returns-clause-spare : goal.returns-clause-spare
unfolding digits encode_with dotted grouped end_text new_line data_line end_line head_lines dir_line records_line bytes_line budget_line status_line report_text
returns-clause-spare c = refl
