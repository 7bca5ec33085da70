use Rattle.std.proofs.Common.{string_bytes}
use Rattle.scenario.proofs.LiveLemmas.{ScriptsWritten}
use Rattle.scenario.proofs.live_texts.push_scripts.Given as goal

abbrev pub invariant-loop-hart : goal.invariant-loop-hart
invariant-loop-hart l = ScriptsWritten l.scripts l.hart (string_bytes l.fn.text) (string_bytes l.text)
