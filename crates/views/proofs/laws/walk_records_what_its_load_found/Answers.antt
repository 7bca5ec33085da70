use Rattle.views.proofs.OwnLoads.{walk_records_what_its_load_found}
use Rattle.views.proofs.laws.walk_records_what_its_load_found.Goals as goal

pub returns : goal.returns
returns c = walk_records_what_its_load_found
