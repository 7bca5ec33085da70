use Rattle.std.proofs.Common.{length}
use Rattle.stale.specs.Told.{AddsOnce, AreDifferent, InOrderTo, IsOfEntries}
use Rattle.stale.proofs.Adding.{ToldEntries}
use Rattle.stale.proofs.report.tell_tlb.Given as goal

abbrev pub invariant-loop-age : goal.invariant-loop-age
invariant-loop-age l = record {
  told : ToldEntries l.opening l.fn.items.items l.hart l.tlb.entries l.age l.items.items;
  once : AreDifferent l.tlb.entries → AddsOnce (λ item. IsOfEntries l.opening l.hart l.tlb.entries (length l.tlb.entries) item) l.fn.items.items l.items.items;
  in_order : InOrderTo l.fn.items.items l.opening.step → InOrderTo l.items.items l.opening.step;
}
