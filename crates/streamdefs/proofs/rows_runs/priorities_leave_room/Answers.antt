use Rattle.std.proofs.Common.{refl}
use Rattle.std.specs.Fmt.{digits}
use Rattle.hex.specs.Hex.{encode_with}
use Rattle.textout.specs.Addresses.{dotted, grouped}
use Rattle.streamdefs.specs.Handler.{end_text, new_line, data_line, end_line}
use Rattle.streamdefs.specs.Report.{head_lines, dir_line, records_line, bytes_line, budget_line, status_line, report_text}
use Rattle.streamdefs.proofs.LawfulRuns.{priorities_run-lawful, priorities_run-history}
use Rattle.streamdefs.proofs.rows_runs.priorities_leave_room.Goals as goal

pub returns-clause-lawful : goal.returns-clause-lawful
returns-clause-lawful c = priorities_run-lawful

pub returns-clause-history : goal.returns-clause-history
returns-clause-history c = priorities_run-history

pub returns-clause-totals : goal.returns-clause-totals
unfolding digits encode_with dotted grouped end_text new_line data_line end_line head_lines dir_line records_line bytes_line budget_line status_line report_text
returns-clause-totals c = refl
