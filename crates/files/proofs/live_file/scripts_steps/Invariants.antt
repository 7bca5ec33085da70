use Rattle.std.proofs.Common.{◌≡◌, length}
use Rattle.files.specs.LiveFile.{scripts_view}
use Rattle.files.proofs.ScriptLemmas.{ScriptsSoFar}
use Rattle.files.proofs.live_file.scripts_steps.Given as goal

abbrev pub invariant-loop-hart : goal.invariant-loop-hart
invariant-loop-hart l = record {
  read : ScriptsSoFar l.scheme l.harts l.scripts l.hart (scripts_view l.all);
  count : length l.all.items ≡ l.hart;
}
