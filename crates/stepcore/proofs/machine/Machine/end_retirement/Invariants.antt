use Rattle.std.proofs.Common.{◌≡◌, ℕ, ◌<◌, cond, length}
use Rattle.std.specs.Prelude.{nat_lt}
use Rattle.history.specs.declared.event.Event.TheVariants.{Finish}
use Rattle.history.specs.declared.reply.Reply.TheVariants as reply
use Rattle.stepcore.specs.State.{space_at}
use Rattle.stepcore.specs.Changes.{space_after}
use Rattle.stepcore.proofs.machine.Machine.end_retirement.Given as goal

abbrev pub invariant-loop-space : goal.invariant-loop-space
invariant-loop-space l = record {
  others : l.self ≡ record l.fn.self { spaces = l.self.spaces };
  count : length l.self.spaces ≡ length l.fn.self.spaces;
  spaces : (s : ℕ) → s < length l.fn.self.spaces
      → space_at l.self s ≡ cond (nat_lt s l.space) (space_after l.fn.self (Finish l.hart l.ticket) reply.Ok s (space_at l.fn.self s)) (space_at l.fn.self s);
}
