use Rattle.std.proofs.Common.{ap, sym, refl, rules}
use Rattle.tally.specs.Walk.{WalkParts}
use Rattle.tally.proofs.TableLemmas.{row_differs}
use Rattle.tally.proofs.ReplayLemmas.{made_first, replayed_is, told, all_made}
use Rattle.tally.proofs.HistoryLemmas.{replayed, peak_all, refuses}
use Rattle.tally.proofs.replay.outcome.Goals as goal

pub over-requires : goal.over-requires
over-requires c = made_first _ _ _ _ (search rules) c.new-walk.ensures

pub returns-in-Some : goal.returns-in-Some
returns-in-Some c =
    let r =
    replayed_is c.args.limit c.new-walk.result.limit c.len-count.result c.args.moves.now c.deref.result.now c.args.looks.now c.args.looks.now c.in_ok-stopped.stopped c.least_shown-shown.result _ _
    (ap (λ (w : WalkParts). w.limit) c.new-walk.ensures) (search rules) refl (search rules) c.before-2.ensures c.in_ok-stopped.ensures c.least_shown-shown.ensures in
    let first = told _ _ _ _ _ _ c.in-Some.first r (sym c.in-Some.ensures) in
    (first, refuses _ _ _ c.in-Some.first first, row_differs c.args.limit c.args.moves.now c.args.looks.now c.in-Some.first.stamp c.in-Some.first first.0)

pub returns : goal.returns
returns c =
    let r =
    replayed_is c.args.limit c.new-walk.result.limit c.len-count.result c.args.moves.now c.deref.result.now c.args.looks.now c.args.looks.now c.in_ok-stopped.stopped c.least_shown-shown.result _ _
    (ap (λ (w : WalkParts). w.limit) c.new-walk.ensures) (search rules) refl (search rules) c.before-2.ensures c.in_ok-stopped.ensures c.least_shown-shown.ensures in
    let all = all_made _ _ _ _ _ _ r (sym c.in-None.ensures) in
    (replayed _ _ _ _ all.0 all.1, peak_all _ _ c.args.looks.now _ all.0 _ c.peak.ensures.stamps c.peak.ensures.peak)
