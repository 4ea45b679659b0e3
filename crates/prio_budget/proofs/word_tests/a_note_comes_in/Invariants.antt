use Rattle.prio_budget.proofs.word_tests.a_note_comes_in.Given as goal

abbrev pub ghosts-pass_a_note : goal.ghosts-pass_a_note
ghosts-pass_a_note g a = record { table = a.budget.table; limit = a.budget.limit; first = a.budget.first }
