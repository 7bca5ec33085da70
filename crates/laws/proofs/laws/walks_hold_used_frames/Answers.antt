use Rattle.laws.proofs.Walkers.{walks_used}
use Rattle.laws.proofs.laws.walks_hold_used_frames.Goals as goal

pub returns : goal.returns
returns c = λ C setup H h. walks_used C setup H h
