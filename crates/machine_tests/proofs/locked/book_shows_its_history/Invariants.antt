use Rattle.std.proofs.Common.{[]}
use Rattle.machine_tests.proofs.locked.book_shows_its_history.Given as goal

abbrev pub ghosts-book_shows : goal.ghosts-book_shows
ghosts-book_shows g a = record { config = a.config.now; lists = [] }
