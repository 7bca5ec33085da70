use Rattle.laws.proofs.MapsKept.{stays_unmapped}
use Rattle.laws.proofs.laws.unmapped_page_stays_unmapped.Goals as goal

pub returns : goal.returns
returns c = stays_unmapped
