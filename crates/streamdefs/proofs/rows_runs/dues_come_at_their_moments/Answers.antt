use Rattle.std.proofs.Common.{refl}
use Rattle.std.specs.Fmt.{digits}
use Rattle.hex.specs.Hex.{encode_with}
use Rattle.textout.specs.Addresses.{dotted, grouped}
use Rattle.streamdefs.specs.Handler.{end_text, new_line, data_line, end_line}
use Rattle.streamdefs.specs.Report.{head_lines, dir_line, records_line, bytes_line, budget_line, status_line, report_text}
use Rattle.streamdefs.proofs.LawfulRuns.{flush_run-lawful, flush_run-history, hole_run-lawful, hole_run-history, idle_run-lawful, idle_run-history}
use Rattle.streamdefs.proofs.rows_runs.dues_come_at_their_moments.Goals as goal

pub returns-clause-lawful : goal.returns-clause-lawful
returns-clause-lawful c = (flush_run-lawful, hole_run-lawful, idle_run-lawful)

pub returns-clause-history : goal.returns-clause-history
returns-clause-history c = (flush_run-history, hole_run-history, idle_run-history)

pub returns-clause-flushed : goal.returns-clause-flushed
unfolding digits encode_with dotted grouped end_text new_line data_line end_line head_lines dir_line records_line bytes_line budget_line status_line report_text
returns-clause-flushed c = refl

pub returns-clause-hole : goal.returns-clause-hole
unfolding digits encode_with dotted grouped end_text new_line data_line end_line head_lines dir_line records_line bytes_line budget_line status_line report_text
returns-clause-hole c = refl

pub returns-clause-idle : goal.returns-clause-idle
unfolding digits encode_with dotted grouped end_text new_line data_line end_line head_lines dir_line records_line bytes_line budget_line status_line report_text
returns-clause-idle c = refl
