use Rattle.std.proofs.Common.{◌≡◌, ◌+◌, ◌∷◌, ◌≤◌, sym, ◌∙◌, arith, drop, length, get_or, pos}
use Rattle.std.proofs.lemmas.List.{drop_more}
use Rattle.reorder.specs.declared.start_run.StartRun.{StartRun}
use Rattle.reorder.specs.Starts.{bytes_with}
use Rattle.reorder.proofs.Settling.{bytes_first, bytes_more, count_more, run_fits}
use Rattle.reorder.proofs.settlement.write_runs.Goals as goal

pub loop-run-init : goal.loop-run-init
loop-run-init g c =
    let fits : c.args.first.len ≤ length c.args.part.now.0 = omega (arith, c.requires.whole) in
    let step = bytes_first c.args.over c.args.bytes.now c.args.at c.args.first c.args.more.now c.args.part.now.0 c.write_run.new.part.0 c.requires.ordered fits c.write_run.ensures.bytes in
    (c.write_run.ensures.charge, step.0, c.requires.whole ∙ sym step.1, step.1)

pub loop-run-preserved : goal.loop-run-preserved
loop-run-preserved g c =
    let run : StartRun = get_or c.args.more.now c.loop-run.run-index (record { len = 0; start = pos 0 }) in
    let left : drop c.loop-run.run-index c.args.more.now ≡ run ∷ drop (c.loop-run.run-index + 1) c.args.more.now =
    drop_more c.args.more.now c.loop-run.run-index (record { len = 0; start = pos 0 }) (omega arith) in
    let fits : c.loop-run.place + run.len ≤ length c.loop-run.part.0 =
    run_fits c.loop-run.place (length c.loop-run.part.0) run (drop c.loop-run.run-index c.args.more.now) (drop (c.loop-run.run-index + 1) c.args.more.now) left c.loop-run.invariant.2 in
    let step =
    bytes_more c.args.over c.args.bytes.now c.args.at c.loop-run.place run (drop c.loop-run.run-index c.args.more.now) (drop (c.loop-run.run-index + 1) c.args.more.now) c.loop-run.part.0 c.write_run-in-loop-run.new.part.0
    (bytes_with c.args.over c.args.bytes.now c.args.at (c.args.first ∷ c.args.more.now) c.args.part.now.0) c.requires.ordered fits left c.write_run-in-loop-run.ensures.bytes c.loop-run.invariant.1 in (
      c.write_run-in-loop-run.ensures.charge ∙ c.loop-run.invariant.0,
      step.0,
      count_more c.loop-run.place (length c.loop-run.part.0) run (drop c.loop-run.run-index c.args.more.now) (drop (c.loop-run.run-index + 1) c.args.more.now) left c.loop-run.invariant.2 ∙ sym step.1,
      step.1 ∙ c.loop-run.invariant.3,
    )
