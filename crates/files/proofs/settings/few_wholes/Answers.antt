use Rattle.std.proofs.Common.{◌≤◌, ◌∙◌, sym, length, arith}
use Rattle.pte.specs.declared.TheConstants.{MAX_HARTS}
use Rattle.files.proofs.EachLemmas.{wholes_fit}
use Rattle.files.proofs.settings.few_wholes.Goals as goal

pub returns : goal.returns
returns c = let fits : length c.args.values.now ≤ MAX_HARTS = omega arith in c.wholes.ensures ∙ sym (wholes_fit c.args.values.now fits)
