use Rattle.std.proofs.Common.{length}
use Rattle.steps.proofs.parts.Parts.+read_each.Given as goal

abbrev pub decreases-read_each : goal.decreases-read_each
decreases-read_each l = length l.fields.now
