use Rattle.spaces.proofs.Given.{words-emptied}
use Rattle.spaces.proofs.laws.giving_back_empties_the_words.Goals as goal

pub returns : goal.returns
returns c = words-emptied
