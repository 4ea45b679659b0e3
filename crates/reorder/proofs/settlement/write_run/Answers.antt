use Rattle.std.proofs.Common.{ℕ, ◌+◌, ◌-◌, ◌<◌, ◌≤◌, subst, drop}
use Rattle.reorder.specs.Starts.{first_taken}
use Rattle.reorder.proofs.Settling.{write_start, write_step}
use Rattle.reorder.proofs.settlement.write_run.Goals as goal

pub loop-i-init : goal.loop-i-init
loop-i-init g c =
    write_start c.args.part.now (drop (c.args.at + first_taken c.args.over c.args.at c.args.run - c.args.over.from) c.args.bytes.now) (c.args.place + first_taken c.args.over c.args.at c.args.run)
    c.taken-taken.result.low (first_taken c.args.over c.args.at c.args.run) c.taken-taken.ensures.low

pub loop-i-preserved : goal.loop-i-preserved
loop-i-preserved g c =
    write_step c.args.over c.args.part.now.0 c.args.part.now.1 c.args.bytes.now c.args.at c.args.place c.loop-i.i c.args.run c.loop-i.part c.set.new.self c.requires.ordered c.requires.within
    (subst (λ (k : ℕ). k ≤ c.loop-i.i) c.taken-taken.ensures.low c.loop-i.auto.i)
    (subst (λ (k : ℕ). c.loop-i.i < k) c.taken-taken.ensures.high c.loop-i-test.true)
    c.set.ensures c.loop-i.invariant.0 c.loop-i.invariant.1 c.loop-i.invariant.2
