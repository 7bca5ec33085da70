use Rattle.board.proofs.Calls.{each_call_keeps_unmapping}
use Rattle.board.proofs.Unmapping.{calls_keep_unmapping, done_unmapping_is_gone, unmapping_opens}
use Rattle.board.proofs.laws.unmapping_stays_open.Goals as goal

pub returns : goal.returns
returns c = record { opens = unmapping_opens; stays = calls_keep_unmapping; through_calls = each_call_keeps_unmapping; done = done_unmapping_is_gone }
