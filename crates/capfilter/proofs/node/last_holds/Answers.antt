use Rattle.std.proofs.Common.{◌∙◌, arith}
use Rattle.std.proofs.Math.ListN.{length-set}
use Rattle.capfilter.proofs.NodeLemmas.{values_more}
use Rattle.capfilter.proofs.node.last_holds.Goals as goal

pub loop-i-preserved : goal.loop-i-preserved
loop-i-preserved c =
    let values = c.loop-i.values in
    record {
      room = length-set values c.loop-i.i c.value_of.result ∙ c.loop-i.invariant.room;
      so_far =
          values_more c.args.nodes.now values c.loop-i.i _ c.value_of.result c.args.key.now c.args.toward
          (omega arith) (omega arith) c.requires.below c.loop-i.invariant.so_far c.value_of.ensures;
    }
