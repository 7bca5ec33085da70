use Rattle.board.proofs.Together.{collected_is_gone, collected_since, done_is_gone}
use Rattle.board.proofs.laws.done_is_gone_from_tlbs.Goals as goal

pub returns : goal.returns
returns c = record { named = done_is_gone; collected = collected_is_gone; since = collected_since }
