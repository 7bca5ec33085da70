use Rattle.melissaledge.specs.Calls.{taken_of, taking_reply}
use Rattle.melissaledge.proofs.Making.{due-taking, made}
use Rattle.melissaledge.proofs.results.take_one.Goals as goal

pub returns : goal.returns
returns c =
    made taken_of taking_reply _ _ _ _ _ c.taken.ensures (λ setup history. due-taking setup history _ c.requires) c.step.ensures.stands c.step.ensures.follows c.step.ensures.due c.step.ensures.refused
    c.step.ensures.promises
