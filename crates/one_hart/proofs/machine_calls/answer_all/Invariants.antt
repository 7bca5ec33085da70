use Rattle.std.proofs.Common.{◌≡◌, ◌≤◌, length}
use Rattle.std.specs.Prelude.{vec_capacity, vec_len}
use Rattle.history.specs.Setup.{Setup}
use Rattle.history.specs.Turns.{History}
use Rattle.stepcore.specs.Stands.{Stands}
use Rattle.one_hart.proofs.Lists.{SoFar}
use Rattle.one_hart.proofs.machine_calls.answer_all.Given as goal

abbrev pub invariant-loop-call : goal.invariant-loop-call
invariant-loop-call l = record {
  count : vec_len l.answers ≡ l.call-index;
  room : length l.calls ≤ vec_capacity l.answers;
  so_far : (setup : Setup) (history : History) → Stands setup l.fn.machine history → SoFar setup history l.calls l.call-index l.answers.items (λ (H : History). Stands setup l.machine H);
}
