use Rattle.std.proofs.Common.{◌≤◌}
use Rattle.prio_budget.specs.WordTests.{IsBalanced}
use Rattle.prio_budget.proofs.word_tests.ask_and_release.Given as goal

abbrev pub invariant-loop-turn : goal.invariant-loop-turn
invariant-loop-turn g l = (l.grants ≤ l.turn) × IsBalanced l.initial.home l.home
