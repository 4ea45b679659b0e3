use Rattle.std.proofs.Common.{◌≡◌, ◌++◌, length}
use Rattle.capfilter.specs.Canonical.{canonical}
use Rattle.capfilter.specs.Nodes.{trees, root}
use Rattle.capfilter.specs.Tasks.{to_print, total_size, AreTasksOf}
use Rattle.capfilter.proofs.printer.shown_of.Given as goal

-- what is printed, and what is left, are the whole text
abbrev pub invariant-loop-task : goal.invariant-loop-task
invariant-loop-task l =
    record {
      text : l.out.items ++ to_print (trees l.nodes) l.tasks.items ≡ canonical (root l.nodes);
      within : AreTasksOf (length l.nodes) l.tasks.items;
    }

abbrev pub decreases-loop-task : goal.decreases-loop-task
decreases-loop-task l = total_size (trees l.nodes) l.tasks.items
