use Rattle.std.proofs.Common.{ap}
use Rattle.steps.specs.LiveSteps.{live_step_in, setup_step_in}
use Rattle.steps.specs.RunStep.{step_among}
use Rattle.files.specs.StepTexts.{in_script, walk_step_in}
use Rattle.files.proofs.TextLemmas.{are_read, first_wrong, read_so, script_ok, told_wrong}
use Rattle.files.proofs.format_laws.first_wrong_step.Goals as goal

pub returns : goal.returns
returns c = record {
  walk = λ texts steps. (are_read walk_step_in 1 texts steps, read_so walk_step_in 1 texts steps);
  walk_wrong = λ texts n fault. (first_wrong walk_step_in texts n fault, told_wrong walk_step_in texts n fault);
  run = λ scheme harts texts events. (are_read (step_among scheme harts) 1 texts events, read_so (step_among scheme harts) 1 texts events);
  setup = λ scheme harts texts steps. (are_read (setup_step_in scheme harts) 1 texts steps, read_so (setup_step_in scheme harts) 1 texts steps);
  setup_wrong = λ scheme harts texts n fault. (first_wrong (setup_step_in scheme harts) texts n fault, told_wrong (setup_step_in scheme harts) texts n fault);
  script = λ scheme harts hart texts steps. (
    (λ h. are_read (live_step_in scheme harts) 1 texts steps (script_ok hart _ steps h)),
    (λ h. ap (in_script hart) (read_so (live_step_in scheme harts) 1 texts steps h)),
  );
  script_wrong = λ scheme harts hart texts n fault h. ap (in_script hart) (told_wrong (live_step_in scheme harts) texts n fault h);
  run_wrong = λ scheme harts texts n fault. (first_wrong (step_among scheme harts) texts n fault, told_wrong (step_among scheme harts) texts n fault);
}
