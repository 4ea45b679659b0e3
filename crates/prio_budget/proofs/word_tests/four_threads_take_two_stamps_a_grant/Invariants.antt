use Rattle.prio_budget.proofs.word_tests.four_threads_take_two_stamps_a_grant.Given as goal

abbrev pub ghosts-ask_in_four_threads : goal.ghosts-ask_in_four_threads
ghosts-ask_in_four_threads g a = record { table = a.budget.table; limit = a.budget.limit; first = a.budget.first }
