use Rattle.files.proofs.TextLemmas.{ScriptSoFar}
use Rattle.files.proofs.live_file.script_steps.Given as goal

abbrev pub invariant-loop-index : goal.invariant-loop-index
invariant-loop-index l = ScriptSoFar l.scheme l.harts l.texts l.index l.steps.items
