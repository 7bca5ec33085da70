use Rattle.std.proofs.Common.{length}
use Rattle.files.proofs.key_table.+has_name.Given as goal

abbrev pub decreases-has_name : goal.decreases-has_name
decreases-has_name l = length l.keys.now
