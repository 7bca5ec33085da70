use Rattle.steps.proofs.StepTexts.{of_all-writes, one_run_step, run-writes, writes-of_all, writes-run}
use Rattle.steps.proofs.laws.run_step_is_written.Goals as goal

pub returns : goal.returns
returns c =
    record {
      one = one_run_step;
      found = λ scheme harts text event. (run-writes scheme harts text event, writes-run scheme harts text event);
      found_of_all = λ scheme text event. (of_all-writes scheme text event, writes-of_all scheme text event);
    }
