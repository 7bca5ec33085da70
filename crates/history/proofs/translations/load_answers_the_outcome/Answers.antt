use Rattle.std.specs.Prelude.{Ok, Err}
use Rattle.history.proofs.Answering.{load_goes_on, load_ends, load_without_walk}
use Rattle.history.proofs.translations.load_answers_the_outcome.Goals as goal

pub returns-clause-more : goal.returns-clause-more
returns-clause-more c = load_goes_on

pub returns-clause-found : goal.returns-clause-found
returns-clause-found c = λ C H hart walk found l w. load_ends C H hart walk (Ok found) l w

pub returns-clause-trap : goal.returns-clause-trap
returns-clause-trap c = λ C H hart walk trap l w. load_ends C H hart walk (Err trap) l w

pub returns-clause-no_walk : goal.returns-clause-no_walk
returns-clause-no_walk c = load_without_walk
