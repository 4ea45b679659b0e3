use Rattle.std.proofs.Common.{◌≡◌, ◌+◌, ◌∙◌, ◌++◌, ap, sym, subst, length, arith, List, ℕ}
use Rattle.capfilter.specs.Nodes.{trees}
use Rattle.capfilter.specs.Tasks.{to_print, task_text, total_size, task_size, AreTasksOf}
use Rattle.capfilter.proofs.ShownLemmas.{AreTasksOf-last, total_size-last, to_print-last}
use Rattle.capfilter.proofs.printer.shown_of.Goals as goal

pub put_step-requires-clause-within : goal.put_step-requires-clause-within
put_step-requires-clause-within c =
    (AreTasksOf-last (length c.args.nodes.now) c.pop.new.self.items c.in-Some.task (subst (AreTasksOf (length c.args.nodes.now)) c.in-Some.ensures.items c.loop-task.invariant.within)).1

pub put_step-requires-clause-others : goal.put_step-requires-clause-others
put_step-requires-clause-others c =
    (AreTasksOf-last (length c.args.nodes.now) c.pop.new.self.items c.in-Some.task (subst (AreTasksOf (length c.args.nodes.now)) c.in-Some.ensures.items c.loop-task.invariant.within)).0

pub loop-task-smaller : goal.loop-task-smaller
loop-task-smaller c =
    let ts = trees c.args.nodes.now in
    let all : total_size ts c.loop-task.tasks.items ≡ task_size ts c.in-Some.task + total_size ts c.pop.new.self.items =
    ap (total_size ts) c.in-Some.ensures.items ∙ total_size-last ts c.pop.new.self.items c.in-Some.task in
    omega (arith, all, c.in_ok-put_step.ensures.less)

pub loop-task-preserved : goal.loop-task-preserved
loop-task-preserved c =
    let ts = trees c.args.nodes.now in
    let all : to_print ts c.loop-task.tasks.items ≡ task_text ts c.in-Some.task ++ to_print ts c.pop.new.self.items =
    ap (to_print ts) c.in-Some.ensures.items ∙ to_print-last ts c.pop.new.self.items c.in-Some.task in
    record {
      text = c.in_ok-put_step.ensures.text ∙ ap (λ (l : List ℕ). c.loop-task.out.items ++ l) (sym all) ∙ c.loop-task.invariant.text;
      within = c.in_ok-put_step.ensures.within;
    }
