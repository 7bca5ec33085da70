use Rattle.spaces.proofs.Marks.{all_marked}
use Rattle.spaces.proofs.unused_frames.UnusedFrames.new.Goals as goal

pub returns : goal.returns
returns c = all_marked
