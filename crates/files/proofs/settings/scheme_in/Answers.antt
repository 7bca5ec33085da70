use Rattle.std.proofs.Common.{sym}
use Rattle.files.proofs.StepLemmas.{not_one}
use Rattle.files.proofs.settings.scheme_in.Goals as goal

pub returns-then-words-ne1 : goal.returns-then-words-ne1
returns-then-words-ne1 c = rw (sym (not_one c.args.words.now c.if-words-ne1.true))
