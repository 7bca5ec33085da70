use Rattle.scenario.specs.Commands.{live}
use Rattle.scenario.proofs.FileLemmas.{silent}
use Rattle.scenario.proofs.OutcomeLemmas.{ends_answered}
use Rattle.scenario.proofs.live_program.live_command.Goals as goal

pub returns-clause-ends : goal.returns-clause-ends
returns-clause-ends g c = ends_answered live c.args.file.now _ c.answer_live-answered.result _ _ _ _ _ c.answer_live-answered.ensures.answered c.end.ensures

pub returns-clause-silent : goal.returns-clause-silent
returns-clause-silent g c refused_so =
    silent live (λ it. it) c.args.file.now _ _ _ _ _ _ (ends_answered live c.args.file.now _ c.answer_live-answered.result _ _ _ _ _ c.answer_live-answered.ensures.answered c.end.ensures) refused_so
