use Rattle.files.proofs.StepLemmas.{not_two}
use Rattle.files.proofs.settings.space_in.Goals as goal

pub returns-then-words-ne2 : goal.returns-then-words-ne2
returns-then-words-ne2 c = not_two c.args.words.now c.if-words-ne2.true
