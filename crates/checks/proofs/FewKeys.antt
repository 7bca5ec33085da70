-- How many keys a command knows at most.
use Rattle.std.proofs.Common.{◌≤◌, length, arith}
use Rattle.files.specs.KeyTable.{keys_of}
use Rattle.files.specs.declared.key_table.Command.{Command}
use Rattle.files.specs.declared.key_table.Command.TheVariants.{Walk, Run, Live}
use Rattle.files.specs.declared.key_table.TheConstants.{MOST_KEYS}

pub few_keys : (command : Command) → length (keys_of command) ≤ MOST_KEYS
few_keys Walk = omega arith
few_keys Run = omega arith
few_keys Live = omega arith
