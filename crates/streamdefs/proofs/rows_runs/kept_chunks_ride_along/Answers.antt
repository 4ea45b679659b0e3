use Rattle.std.proofs.Common.{refl}
use Rattle.std.specs.Fmt.{digits}
use Rattle.hex.specs.Hex.{encode_with}
use Rattle.textout.specs.Addresses.{dotted, grouped}
use Rattle.streamdefs.specs.Handler.{end_text, new_line, data_line, end_line}
use Rattle.streamdefs.specs.Report.{head_lines, dir_line, records_line, bytes_line, budget_line, status_line, report_text}
use Rattle.streamdefs.proofs.LawfulRuns.{keep_run-lawful, keep_run-history, late_keep_run-lawful, late_keep_run-history, unshown_run-lawful, unshown_run-history}
use Rattle.streamdefs.proofs.rows_runs.kept_chunks_ride_along.Goals as goal

pub returns-clause-lawful : goal.returns-clause-lawful
returns-clause-lawful c = (keep_run-lawful, late_keep_run-lawful, unshown_run-lawful)

pub returns-clause-history : goal.returns-clause-history
returns-clause-history c = (keep_run-history, late_keep_run-history, unshown_run-history)

pub returns-clause-kept : goal.returns-clause-kept
unfolding digits encode_with dotted grouped end_text new_line data_line end_line head_lines dir_line records_line bytes_line budget_line status_line report_text
returns-clause-kept c = refl
