use Rattle.machine_tests.proofs.first_threads.locked_counts.Given as goal

abbrev pub ghosts-by_two : goal.ghosts-by_two
ghosts-by_two g a = record { config = a.config.now; lists = a.blank }
