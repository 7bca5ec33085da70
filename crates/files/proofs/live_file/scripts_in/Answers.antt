use Rattle.std.proofs.Common.{rules}
use Rattle.files.proofs.ScriptLemmas.{scripts_of_array}
use Rattle.files.proofs.live_file.scripts_in.Goals as goal

pub returns-in-Some-clause-read : goal.returns-in-Some-clause-read
returns-in-Some-clause-read c = rw (← scripts_of_array c.args.harts c.in-Some.values.now _ c.in-Some.ensures) (search rules)
