use Rattle.history.proofs.Answering.{hit, trapped, walks, not_canonical}
use Rattle.history.proofs.translations.begin_answers_as_the_first_match.Goals as goal

pub returns-clause-hit : goal.returns-clause-hit
returns-clause-hit c = λ C H hart va access ctx e pa may canonical f a. hit C H hart va access ctx may e pa canonical f a

pub returns-clause-trap : goal.returns-clause-trap
returns-clause-trap c = λ C H hart va access ctx e trap may canonical f a. trapped C H hart va access ctx may e trap canonical f a

pub returns-clause-more : goal.returns-clause-more
returns-clause-more c = λ C H hart va access ctx may canonical n. walks C H hart va access ctx may canonical n

pub returns-clause-not_canonical : goal.returns-clause-not_canonical
returns-clause-not_canonical c = λ C H hart va access ctx may n. not_canonical C H hart va access ctx may n
