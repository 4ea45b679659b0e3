use Rattle.std.proofs.Common.{refl}
use Rattle.std.specs.Fmt.{digits}
use Rattle.hex.specs.Hex.{encode_with}
use Rattle.textout.specs.Addresses.{dotted, grouped}
use Rattle.streamdefs.specs.Handler.{end_text, new_line, data_line, end_line}
use Rattle.streamdefs.specs.Report.{head_lines, dir_line, records_line, bytes_line, budget_line, status_line, report_text}
use Rattle.streamdefs.proofs.LawfulRuns.{two_run-lawful, two_run-history}
use Rattle.streamdefs.proofs.rows_runs.two_cores_share_one_budget.Goals as goal

pub returns-clause-lawful : goal.returns-clause-lawful
returns-clause-lawful c = two_run-lawful

pub returns-clause-history : goal.returns-clause-history
returns-clause-history c = two_run-history

pub returns-clause-first : goal.returns-clause-first
unfolding digits encode_with dotted grouped end_text new_line data_line end_line head_lines dir_line records_line bytes_line budget_line status_line report_text
returns-clause-first c = refl

pub returns-clause-second : goal.returns-clause-second
unfolding digits encode_with dotted grouped end_text new_line data_line end_line head_lines dir_line records_line bytes_line budget_line status_line report_text
returns-clause-second c = refl

pub returns-clause-both : goal.returns-clause-both
unfolding digits encode_with dotted grouped end_text new_line data_line end_line head_lines dir_line records_line bytes_line budget_line status_line report_text
returns-clause-both c = refl

pub returns-clause-totals : goal.returns-clause-totals
unfolding digits encode_with dotted grouped end_text new_line data_line end_line head_lines dir_line records_line bytes_line budget_line status_line report_text
returns-clause-totals c = refl
