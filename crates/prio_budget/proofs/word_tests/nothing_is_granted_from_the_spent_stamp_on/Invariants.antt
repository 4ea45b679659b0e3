use Rattle.prio_budget.proofs.word_tests.nothing_is_granted_from_the_spent_stamp_on.Given as goal

abbrev pub ghosts-is_spent : goal.ghosts-is_spent
ghosts-is_spent g a = record { table = a.budget.table; limit = a.budget.limit; first = a.budget.first }
