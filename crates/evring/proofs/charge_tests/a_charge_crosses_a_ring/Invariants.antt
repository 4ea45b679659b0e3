use Rattle.evring.proofs.charge_tests.a_charge_crosses_a_ring.Given as goal

abbrev pub ghosts-pass_charge : goal.ghosts-pass_charge
ghosts-pass_charge g a = record { table = a.budget.table; limit = a.budget.limit; first = a.budget.first }
