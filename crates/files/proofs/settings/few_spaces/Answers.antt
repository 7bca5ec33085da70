use Rattle.std.proofs.Common.{◌≤◌, length, arith}
use Rattle.spaces.specs.declared.configuration.TheConstants.{MAX_SPACES}
use Rattle.files.proofs.EachLemmas.{spaces_fit}
use Rattle.files.proofs.settings.few_spaces.Goals as goal

pub returns : goal.returns
returns c = let fits : length c.args.texts.now ≤ MAX_SPACES = omega arith in rw (spaces_fit c.args.texts.now fits) c.spaces_of.ensures
