use Rattle.history.proofs.Lasting.{held}
use Rattle.history.proofs.occurrences.frame_is_held_since_its_new_table.Goals as goal

pub returns : goal.returns
returns c = held
