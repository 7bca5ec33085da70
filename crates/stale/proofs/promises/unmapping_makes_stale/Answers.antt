use Rattle.stale.proofs.Unmapping.{makes_stale}
use Rattle.stale.proofs.promises.unmapping_makes_stale.Goals as goal

pub returns : goal.returns
returns c = λ C setup H hart place page named ticket h m l pages. makes_stale C setup H hart place page named ticket h m l pages
