use Rattle.std.proofs.Common.{◌≡◌, take}
use Rattle.labtop.specs.ReportLines.{over_all}
use Rattle.labtop.proofs.totals.sum_up.Given as goal

abbrev pub invariant-loop-conversation : goal.invariant-loop-conversation
invariant-loop-conversation l = record {
  payload : l.totals.payload ≡ over_all (λ s. s.payload) (take l.conversation-index l.table);
  delivered : l.totals.delivered ≡ over_all (λ s. s.delivered) (take l.conversation-index l.table);
  shed : l.totals.shed ≡ over_all (λ s. s.shed) (take l.conversation-index l.table);
}
