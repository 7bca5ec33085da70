use Rattle.one_hart.proofs.CallRuns.{each_call_is_a_run}
use Rattle.one_hart.proofs.both.each_call_is_a_run.Goals as goal

pub returns : goal.returns
returns c = each_call_is_a_run
