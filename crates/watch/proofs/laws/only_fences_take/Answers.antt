use Rattle.watch.proofs.Held.{not_taken, nothing_added}
use Rattle.watch.proofs.laws.only_fences_take.Goals as goal

pub returns-clause-kept : goal.returns-clause-kept
returns-clause-kept c = not_taken

pub returns-clause-same : goal.returns-clause-same
returns-clause-same c = λ scheme newest trace hart x other none fence. (nothing_added scheme newest trace hart x other none, not_taken scheme newest trace hart x fence)
