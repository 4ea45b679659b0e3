use Rattle.std.proofs.Common.{sym, subst, arith, ◌∙◌}
use Rattle.tally.specs.Dirs.{Ascend, merged}
use Rattle.tally.proofs.MergeLemmas.{next_ascends, next_same}
use Rattle.tally.proofs.merge.all_dirs.Goals as goal

pub loop-dirs-preserved : goal.loop-dirs-preserved
loop-dirs-preserved c =
    let next = c.in_ok-all.ensures ∙ (λ i. merged (c.deref.ensures.value i) ((c.as_slice.ensures ∙ c.dirs-item.is) i)) in
    record {
      ascend = next_ascends c.args.cores.now c.loop-dirs.dirs-index _ _ _ (omega arith) next c.loop-dirs.invariant.ascend;
      same = next_same c.args.cores.now c.loop-dirs.dirs-index _ _ _ (omega arith) next c.loop-dirs.invariant.same;
    }

pub returns-clause-ascend : goal.returns-clause-ascend
returns-clause-ascend c = λ each. subst Ascend (sym c.of.ensures) (c.loop-dirs.invariant.ascend each)
