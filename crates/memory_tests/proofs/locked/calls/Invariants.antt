use Rattle.memory_tests.proofs.locked.calls.Given as goal

abbrev pub ghosts-called : goal.ghosts-called
ghosts-called g a = record { config = a.config.now; lists = a.blank }
