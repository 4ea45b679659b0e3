use Rattle.std.proofs.Common.{◌≡◌, take}
use Rattle.streamdefs.specs.Lists.{total}
use Rattle.tally.specs.Totals.{payload_of}
use Rattle.tally.proofs.sums.sum_up.Given as goal

abbrev pub invariant-loop-dir : goal.invariant-loop-dir
invariant-loop-dir l = record {
  payload : l.sums.payload ≡ total payload_of (take l.dir-index l.dirs);
  taken : l.sums.taken ≡ total (λ d. d.counts.taken) (take l.dir-index l.dirs);
  duplicate : l.sums.duplicate ≡ total (λ d. d.counts.duplicate) (take l.dir-index l.dirs);
  late : l.sums.late ≡ total (λ d. d.counts.late) (take l.dir-index l.dirs);
  cut : l.sums.cut ≡ total (λ d. d.counts.cut) (take l.dir-index l.dirs);
  shed : l.sums.shed ≡ total (λ d. d.counts.shed) (take l.dir-index l.dirs);
}
