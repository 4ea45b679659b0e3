use Rattle.layerbench.proofs.budgets.word.Given as goal

abbrev pub ghosts-ask_in_threads : goal.ghosts-ask_in_threads
ghosts-ask_in_threads g a = record { table = a.budget.table; limit = a.budget.limit; first = a.budget.first }
