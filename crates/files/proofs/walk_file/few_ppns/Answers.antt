use Rattle.std.proofs.Common.{◌≤◌, length, arith}
use Rattle.files.specs.declared.limits.TheConstants.{MOST_FRAMES}
use Rattle.files.proofs.PpnLemmas.{few_fit}
use Rattle.files.proofs.walk_file.few_ppns.Goals as goal

pub returns-clause-value : goal.returns-clause-value
returns-clause-value c = let fits : length c.args.texts.now ≤ MOST_FRAMES = omega arith in rw (few_fit c.args.texts.now fits) c.ppns.ensures.value
