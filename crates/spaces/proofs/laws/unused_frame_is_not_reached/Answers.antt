use Rattle.spaces.proofs.Reaching.{unreached}
use Rattle.spaces.proofs.laws.unused_frame_is_not_reached.Goals as goal

pub returns : goal.returns
returns c = λ l words holders fits tree h k frame less is unused. unreached l fits words holders tree h k frame less is unused
