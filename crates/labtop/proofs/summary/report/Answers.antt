use Rattle.labtop.proofs.TotalsLemmas.{report_joined}
use Rattle.labtop.proofs.summary.report.Goals as goal

pub returns : goal.returns
returns c =
    report_joined c.args.whole.now.journal c.args.whole.now.table c.args.counts.now c.args.whole.now.stamps c.args.whole.now.peak c.args.whole.now.refused
    c.sum_up.result.payload c.sum_up.result.delivered c.sum_up.result.shed
    c.new-out.result.items c.put_head_lines.new.out.items c.put_journal.new.out.items c.put_conversations.new.out.items c.put_records_line.new.out.items c.put_bytes_line.new.out.items c.put_budget_line.new.out.items c.put_status_line.new.out.items
    (rw c.as_slice-table.ensures at c.sum_up.ensures.payload) (rw c.as_slice-table.ensures at c.sum_up.ensures.delivered) (rw c.as_slice-table.ensures at c.sum_up.ensures.shed)
    c.new-out.ensures.items c.in_ok-put_head_lines.ensures c.in_ok-put_journal.ensures.ok (rw c.as_slice-table.ensures at c.in_ok-put_conversations.ensures) c.in_ok-put_records_line.ensures c.in_ok-put_bytes_line.ensures
    c.in_ok-put_budget_line.ensures c.in_ok-put_status_line.ensures
