use Rattle.std.proofs.Common.{◌++◌, ◌∙◌, ap, arith, rules, map, drop, List}
use Rattle.reorder.specs.declared.run.Run.{Run}
use Rattle.reorder.specs.Frags.{range_for, free}
use Rattle.reorder.specs.Search.{BeginsFrom}
use Rattle.reorder.proofs.Places.{free_behind, free_done}
use Rattle.reorder.proofs.gaps.free_runs.Goals as goal

pub loop-held-init : goal.loop-held-init
loop-held-init g c = (
  ap (λ (rs : List Run). map range_for rs ++ free c.args.from c.args.to (drop c.args.first c.args.parts.now.items)) c.new-runs.ensures.items
      ∙ free_behind c.args.from c.args.to c.args.parts.now.items c.args.first c.requires.before,
  omega arith,
)

pub returns : goal.returns
returns g c =
    let above : BeginsFrom c.args.to (drop c.loop-held.place c.args.parts.now.items) = search rules in
    free_done c.loop-held.next c.args.to (map range_for c.loop-held.runs.items) (map range_for c.put_between-2.new.runs.items) (free c.args.from c.args.to c.args.parts.now.items) (drop c.loop-held.place c.args.parts.now.items)
    above c.in_ok-put_between-2.ensures c.loop-held.invariant.0
