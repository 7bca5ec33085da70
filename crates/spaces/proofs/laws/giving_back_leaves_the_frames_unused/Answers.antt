use Rattle.spaces.proofs.Given.{frames-left}
use Rattle.spaces.proofs.laws.giving_back_leaves_the_frames_unused.Goals as goal

pub returns : goal.returns
returns c = frames-left
