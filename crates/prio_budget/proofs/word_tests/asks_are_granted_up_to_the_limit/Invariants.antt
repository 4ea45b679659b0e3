use Rattle.prio_budget.proofs.word_tests.asks_are_granted_up_to_the_limit.Given as goal

abbrev pub ghosts-fill : goal.ghosts-fill
ghosts-fill g a = record { table = a.budget.table; limit = a.budget.limit; first = a.budget.first }
