use Rattle.melissaledge.specs.Calls.{opened_of, opening_reply}
use Rattle.melissaledge.proofs.Making.{due-opening, made}
use Rattle.melissaledge.proofs.results.open.Goals as goal

pub returns : goal.returns
returns c =
    made opened_of opening_reply _ _ _ _ _ c.opened.ensures (λ setup history. due-opening setup history _ c.requires) c.step.ensures.stands c.step.ensures.follows c.step.ensures.due c.step.ensures.refused
    c.step.ensures.promises
