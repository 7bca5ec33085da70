use Rattle.machine_tests.proofs.locked.superpage_shootdown_through_calls.Given as goal

abbrev pub ghosts-answers : goal.ghosts-answers
ghosts-answers g a = record { config = a.config.now; lists = a.blank }
