use Rattle.std.proofs.Common.{refl}
use Rattle.std.specs.Fmt.{digits}
use Rattle.hex.specs.Hex.{encode_with}
use Rattle.textout.specs.Addresses.{dotted, grouped}
use Rattle.streamdefs.specs.Handler.{end_text, new_line, data_line, end_line}
use Rattle.streamdefs.specs.Report.{head_lines, dir_line, records_line, bytes_line, budget_line, status_line, report_text}
use Rattle.streamdefs.proofs.LawfulRuns.{rule_run-lawful, rule_run-history}
use Rattle.streamdefs.proofs.rows_runs.advice_sets_a_cutoff.Goals as goal

pub returns-clause-lawful : goal.returns-clause-lawful
returns-clause-lawful c = rule_run-lawful

pub returns-clause-history : goal.returns-clause-history
returns-clause-history c = rule_run-history

pub returns-clause-delivery : goal.returns-clause-delivery
unfolding digits encode_with dotted grouped end_text new_line data_line end_line head_lines dir_line records_line bytes_line budget_line status_line report_text
returns-clause-delivery c = refl

pub returns-clause-totals : goal.returns-clause-totals
unfolding digits encode_with dotted grouped end_text new_line data_line end_line head_lines dir_line records_line bytes_line budget_line status_line report_text
returns-clause-totals c = refl
