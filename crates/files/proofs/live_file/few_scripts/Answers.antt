use Rattle.std.proofs.Common.{◌≤◌, length, arith}
use Rattle.files.proofs.ScriptLemmas.{scripts_fit}
use Rattle.files.proofs.live_file.few_scripts.Goals as goal

pub returns-clause-read : goal.returns-clause-read
returns-clause-read c = let fits : length c.args.values.now ≤ c.args.harts = omega arith in rw (scripts_fit c.args.harts c.args.values.now fits) c.scripts.ensures.read
