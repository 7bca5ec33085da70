use Rattle.laws.proofs.MapsKept.{stays_mapped}
use Rattle.laws.proofs.laws.mapped_page_stays_mapped.Goals as goal

pub returns : goal.returns
returns c = stays_mapped
