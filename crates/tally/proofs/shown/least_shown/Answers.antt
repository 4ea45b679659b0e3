use Rattle.std.proofs.Common.{◌∙◌, ap, arith}
use Rattle.tally.specs.Walk.{shown_by, earlier_of}
use Rattle.tally.proofs.ShownLemmas.{least_step, least_all, shown_stands}
use Rattle.tally.proofs.shown.least_shown.Goals as goal

pub loop-look-preserved : goal.loop-look-preserved
loop-look-preserved c =
    let shown = shown_by c.args.before.now c.args.count in
    least_step shown c.args.looks.now (shown_stands c.args.before.now c.args.count) c.loop-look.look-index _ c.loop-look.first _ (omega arith)
    (c.earlier_of-first.ensures ∙ ap (earlier_of c.loop-look.first) c.shown_by.ensures) c.loop-look.invariant

pub returns : goal.returns
returns c = least_all (shown_by c.args.before.now c.args.count) c.args.looks.now c.loop-look.look-index c.loop-look.first (omega arith) c.loop-look.invariant
