use Rattle.std.proofs.Common.{arith}
use Rattle.tally.specs.Totals.{payload_of}
use Rattle.tally.proofs.SumLemmas.{all_within, cut_within, duplicate_within, fits, grown, late_within, shed_within, taken_within}
use Rattle.tally.proofs.sums.sum_up.Goals as goal

pub count-requires-clause-payload : goal.count-requires-clause-payload
count-requires-clause-payload c = fits payload_of all_within c.args.dirs.now c.loop-dir.dir-index _ c.loop-dir.sums.payload (omega arith) c.loop-dir.invariant.payload c.requires

pub count-requires-clause-taken : goal.count-requires-clause-taken
count-requires-clause-taken c = fits (λ d. d.counts.taken) taken_within c.args.dirs.now c.loop-dir.dir-index _ c.loop-dir.sums.taken (omega arith) c.loop-dir.invariant.taken c.requires

pub count-requires-clause-duplicate : goal.count-requires-clause-duplicate
count-requires-clause-duplicate c = fits (λ d. d.counts.duplicate) duplicate_within c.args.dirs.now c.loop-dir.dir-index _ c.loop-dir.sums.duplicate (omega arith) c.loop-dir.invariant.duplicate c.requires

pub count-requires-clause-late : goal.count-requires-clause-late
count-requires-clause-late c = fits (λ d. d.counts.late) late_within c.args.dirs.now c.loop-dir.dir-index _ c.loop-dir.sums.late (omega arith) c.loop-dir.invariant.late c.requires

pub count-requires-clause-cut : goal.count-requires-clause-cut
count-requires-clause-cut c = fits (λ d. d.counts.cut) cut_within c.args.dirs.now c.loop-dir.dir-index _ c.loop-dir.sums.cut (omega arith) c.loop-dir.invariant.cut c.requires

pub count-requires-clause-shed : goal.count-requires-clause-shed
count-requires-clause-shed c = fits (λ d. d.counts.shed) shed_within c.args.dirs.now c.loop-dir.dir-index _ c.loop-dir.sums.shed (omega arith) c.loop-dir.invariant.shed c.requires

pub loop-dir-preserved : goal.loop-dir-preserved
loop-dir-preserved c = record {
  payload = grown payload_of c.args.dirs.now c.loop-dir.dir-index _ _ _ (omega arith) c.loop-dir.invariant.payload c.count.ensures.payload;
  taken = grown (λ d. d.counts.taken) c.args.dirs.now c.loop-dir.dir-index _ _ _ (omega arith) c.loop-dir.invariant.taken c.count.ensures.taken;
  duplicate = grown (λ d. d.counts.duplicate) c.args.dirs.now c.loop-dir.dir-index _ _ _ (omega arith) c.loop-dir.invariant.duplicate c.count.ensures.duplicate;
  late = grown (λ d. d.counts.late) c.args.dirs.now c.loop-dir.dir-index _ _ _ (omega arith) c.loop-dir.invariant.late c.count.ensures.late;
  cut = grown (λ d. d.counts.cut) c.args.dirs.now c.loop-dir.dir-index _ _ _ (omega arith) c.loop-dir.invariant.cut c.count.ensures.cut;
  shed = grown (λ d. d.counts.shed) c.args.dirs.now c.loop-dir.dir-index _ _ _ (omega arith) c.loop-dir.invariant.shed c.count.ensures.shed;
}
