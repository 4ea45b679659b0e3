use Rattle.std.proofs.Common.{arith, add-one}
use Rattle.labtop.proofs.TotalsLemmas.{delivered_within, fits_more, over_more, payload_within, shed_within}
use Rattle.labtop.proofs.totals.sum_up.Goals as goal

pub count-requires-clause-payload : goal.count-requires-clause-payload
count-requires-clause-payload c =
    omega (arith, c.requires.came, c.loop-conversation.invariant.payload, fits_more (λ s. s.payload) payload_within c.args.table.now c.loop-conversation.conversation-index c.conversation-item.result c.requires.even c.loop-conversation-test.true c.conversation-item.is)

pub count-requires-clause-delivered : goal.count-requires-clause-delivered
count-requires-clause-delivered c =
    omega (arith, c.requires.came, c.loop-conversation.invariant.delivered, fits_more (λ s. s.delivered) delivered_within c.args.table.now c.loop-conversation.conversation-index c.conversation-item.result c.requires.even c.loop-conversation-test.true c.conversation-item.is)

pub count-requires-clause-shed : goal.count-requires-clause-shed
count-requires-clause-shed c =
    omega (arith, c.requires.came, c.loop-conversation.invariant.shed, fits_more (λ s. s.shed) shed_within c.args.table.now c.loop-conversation.conversation-index c.conversation-item.result c.requires.even c.loop-conversation-test.true c.conversation-item.is)

pub loop-conversation-preserved : goal.loop-conversation-preserved
loop-conversation-preserved c = record {
  payload = rw add-one (omega (arith, c.count.ensures.payload, c.loop-conversation.invariant.payload, over_more (λ s. s.payload) c.args.table.now c.loop-conversation.conversation-index c.conversation-item.result c.loop-conversation-test.true c.conversation-item.is));
  delivered = rw add-one (omega (arith, c.count.ensures.delivered, c.loop-conversation.invariant.delivered, over_more (λ s. s.delivered) c.args.table.now c.loop-conversation.conversation-index c.conversation-item.result c.loop-conversation-test.true c.conversation-item.is));
  shed = rw add-one (omega (arith, c.count.ensures.shed, c.loop-conversation.invariant.shed, over_more (λ s. s.shed) c.args.table.now c.loop-conversation.conversation-index c.conversation-item.result c.loop-conversation-test.true c.conversation-item.is));
}
