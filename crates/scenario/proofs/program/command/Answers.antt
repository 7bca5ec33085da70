use Rattle.scenario.specs.Commands.{meaning_of}
use Rattle.scenario.proofs.FileLemmas.{silent}
use Rattle.scenario.proofs.OutcomeLemmas.{ends_answered}
use Rattle.scenario.proofs.program.command.Goals as goal

pub returns-clause-ends : goal.returns-clause-ends
returns-clause-ends g c = ends_answered (meaning_of c.args.file.now c.args.which) c.args.file.now _ c.answer-answered.result _ _ _ _ _ c.answer-answered.ensures.answered c.end.ensures

pub returns-clause-silent : goal.returns-clause-silent
returns-clause-silent g c quiet refused_so =
    silent (meaning_of c.args.file.now c.args.which) quiet c.args.file.now _ _ _ _ _ _ (ends_answered (meaning_of c.args.file.now c.args.which) c.args.file.now _ c.answer-answered.result _ _ _ _ _ c.answer-answered.ensures.answered c.end.ensures) refused_so
