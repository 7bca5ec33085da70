use Rattle.std.proofs.Common.{◌≡◌, ◌≤◌, ◌+◌, length, take, vec_len}
use Rattle.std.specs.Vec.{vec_capacity}
use Rattle.history.specs.Setup.{Setup}
use Rattle.history.specs.Turns.{History}
use Rattle.stepcore.specs.Stands.{Stands}
use Rattle.stepcore.specs.Runs.{after_run, appended, AreDue}
use Rattle.stepcore.proofs.machine.Machine.run.Given as goal

abbrev pub invariant-loop-event : goal.invariant-loop-event
invariant-loop-event l = record {
  room : vec_len l.replies + length l.events ≤ vec_capacity l.replies + l.event-index;
  more : length l.fn.replies.items ≤ length l.replies.items;
  kept : take (length l.fn.replies.items) l.replies.items ≡ l.fn.replies.items;
  count : length (appended l.fn.replies.items l.replies.items) ≡ l.event-index;
  due : (C : Setup) (H : History) → Stands C l.fn.self H → AreDue C H l.events (appended l.fn.replies.items l.replies.items);
  stands : (C : Setup) (H : History) → Stands C l.fn.self H → Stands C l.self (after_run l.events l.fn.replies.items l.replies.items H);
}
