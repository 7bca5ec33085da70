use Rattle.stale.proofs.NoEdit.{nothing_becomes}
use Rattle.stale.proofs.promises.only_edits_make_stale.Goals as goal

pub returns : goal.returns
returns c = λ C setup turn H h m l pages plain. nothing_becomes C setup turn H l pages plain h m
