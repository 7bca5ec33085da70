use Rattle.melissaledge.specs.Calls.{progress_of, progress_reply}
use Rattle.melissaledge.proofs.Making.{due-progress, made}
use Rattle.melissaledge.proofs.results.collect_of.Goals as goal

pub returns : goal.returns
returns c =
    made progress_of progress_reply _ _ _ _ _ c.progress.ensures (λ setup history. due-progress setup history _ c.requires) c.step.ensures.stands c.step.ensures.follows c.step.ensures.due c.step.ensures.refused
    c.step.ensures.promises
