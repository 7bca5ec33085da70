use Rattle.std.proofs.Common.{length}
use Rattle.stale.specs.Told.{AddsOnce, HoldOnce, InOrderTo, IsOfHarts}
use Rattle.stale.proofs.Adding.{ToldHarts}
use Rattle.stale.proofs.report.tell_tlbs.Given as goal

abbrev pub invariant-loop-hart : goal.invariant-loop-hart
invariant-loop-hart l = record {
  told : ToldHarts l.opening l.fn.items.items l.machine l.hart l.items.items;
  once : HoldOnce l.machine → AddsOnce (λ item. IsOfHarts l.machine l.opening (length l.machine.harts) item) l.fn.items.items l.items.items;
  in_order : InOrderTo l.fn.items.items l.opening.step → InOrderTo l.items.items l.opening.step;
}
