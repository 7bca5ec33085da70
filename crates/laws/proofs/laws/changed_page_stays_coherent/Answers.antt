use Rattle.laws.proofs.Cohering.{coherent}
use Rattle.laws.proofs.MapsKept.{stays_mapped, user_plain, window_shared}
use Rattle.laws.proofs.laws.changed_page_stays_coherent.Goals as goal

pub returns : goal.returns
returns c = λ C setup. coherent C setup (user_plain C setup) (stays_mapped C setup) (window_shared C setup)
