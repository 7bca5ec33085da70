use Rattle.spaces.proofs.Given.{frame-taken}
use Rattle.spaces.proofs.laws.store_takes_its_frame.Goals as goal

pub returns : goal.returns
returns c = frame-taken
