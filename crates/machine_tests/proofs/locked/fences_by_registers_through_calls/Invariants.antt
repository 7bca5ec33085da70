use Rattle.machine_tests.proofs.locked.fences_by_registers_through_calls.Given as goal

abbrev pub ghosts-both_find_until_fenced : goal.ghosts-both_find_until_fenced
ghosts-both_find_until_fenced g a = record { config = a.config.now; lists = a.blank }
