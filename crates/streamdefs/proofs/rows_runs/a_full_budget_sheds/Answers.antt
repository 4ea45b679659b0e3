use Rattle.std.proofs.Common.{refl}
use Rattle.std.specs.Fmt.{digits}
use Rattle.hex.specs.Hex.{encode_with}
use Rattle.textout.specs.Addresses.{dotted, grouped}
use Rattle.streamdefs.specs.Handler.{end_text, new_line, data_line, end_line}
use Rattle.streamdefs.specs.Report.{head_lines, dir_line, records_line, bytes_line, budget_line, status_line, report_text}
use Rattle.streamdefs.proofs.LawfulRuns.{four_run-lawful, four_run-history}
use Rattle.streamdefs.proofs.rows_runs.a_full_budget_sheds.Goals as goal

pub returns-clause-lawful : goal.returns-clause-lawful
returns-clause-lawful c = four_run-lawful

pub returns-clause-history : goal.returns-clause-history
returns-clause-history c = four_run-history

pub returns-clause-seen : goal.returns-clause-seen
unfolding digits encode_with dotted grouped end_text new_line data_line end_line head_lines dir_line records_line bytes_line budget_line status_line report_text
returns-clause-seen c = refl

pub returns-clause-totals : goal.returns-clause-totals
unfolding digits encode_with dotted grouped end_text new_line data_line end_line head_lines dir_line records_line bytes_line budget_line status_line report_text
returns-clause-totals c = refl
