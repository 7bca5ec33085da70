use Rattle.melissaledge.specs.Calls.{mapped_of, map_reply}
use Rattle.melissaledge.proofs.Making.{due-map, made}
use Rattle.melissaledge.proofs.results.map_step.Goals as goal

pub returns : goal.returns
returns c =
    made mapped_of map_reply _ _ _ _ _ c.mapped.ensures (λ setup history. due-map setup history _ c.requires) c.step.ensures.stands c.step.ensures.follows c.step.ensures.due c.step.ensures.refused
    c.step.ensures.promises
