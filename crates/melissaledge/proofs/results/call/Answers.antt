use Rattle.melissaledge.specs.Calls.{called_of, call_reply}
use Rattle.melissaledge.proofs.Making.{due-call, made}
use Rattle.melissaledge.proofs.results.call.Goals as goal

pub returns : goal.returns
returns c =
    made called_of call_reply _ _ _ _ _ c.called.ensures (λ setup history. due-call setup history _ c.requires) c.step.ensures.stands c.step.ensures.follows c.step.ensures.due c.step.ensures.refused
    c.step.ensures.promises
