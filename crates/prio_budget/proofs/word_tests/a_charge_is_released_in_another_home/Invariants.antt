use Rattle.prio_budget.proofs.word_tests.a_charge_is_released_in_another_home.Given as goal

abbrev pub ghosts-hand_over : goal.ghosts-hand_over
ghosts-hand_over g a = record { table = a.budget.table; limit = a.budget.limit; first = a.budget.first }
