use Rattle.std.proofs.Common.{◌⊎◌, List, ◌∙◌, ap, subst, length, arith}
use Rattle.std.specs.Prelude.{◌↔◌, Contains}
use Rattle.tlb.specs.declared.store.Entry.{Entry}
use Rattle.tlb.specs.Entries.{TlbState}
use Rattle.stepcore.specs.State.{HartState}
use Rattle.stale.specs.Told.{AddsOnce, AreDifferent, IsOfEntries}
use Rattle.stale.proofs.Adding.{ToldHarts, next_hart}
use Rattle.stale.proofs.Once.{next_hart_once}
use Rattle.stale.proofs.report.tell_tlbs.Goals as goal

pub loop-hart-preserved : goal.loop-hart-preserved
loop-hart-preserved c = record {
  told = next_hart c.args.opening.now c.args.items.now.items c.args.machine.now c.loop-hart.hart c.loop-hart.items.items c.tell_tlb.new.items.items c.loop-hart.invariant.told
      (λ item. subst (λ (es : List Entry). Contains c.tell_tlb.new.items.items item ↔ (Contains c.loop-hart.items.items item ⊎ IsOfEntries c.args.opening.now c.loop-hart.hart es (length es) item))
      (ap (λ (t : TlbState). t.entries) c.tlb.ensures ∙ ap (λ (h : HartState). h.entries) c.hart.ensures)
      (c.in_ok-tell_tlb.ensures.told item));
  once = next_hart_once c.args.opening.now c.args.items.now.items c.args.machine.now c.loop-hart.hart c.loop-hart.items.items c.tell_tlb.new.items.items
      (let within = c.loop-hart-test.true in let end = c.harts-hart-end.ensures in omega (arith, within, end)) c.loop-hart.invariant.told c.loop-hart.invariant.once
      (subst (λ (es : List Entry). AreDifferent es → AddsOnce (λ item. IsOfEntries c.args.opening.now c.loop-hart.hart es (length es) item) c.loop-hart.items.items c.tell_tlb.new.items.items)
      (ap (λ (t : TlbState). t.entries) c.tlb.ensures ∙ ap (λ (h : HartState). h.entries) c.hart.ensures)
      c.in_ok-tell_tlb.ensures.once);
  in_order = λ old. c.in_ok-tell_tlb.ensures.in_order (c.loop-hart.invariant.in_order old);
}

pub returns-clause-told : goal.returns-clause-told
returns-clause-told c = subst (λ n. ToldHarts c.args.opening.now c.args.items.now.items c.args.machine.now n c.loop-hart.items.items) (let past = c.loop-hart-test.false in let to = c.loop-hart.auto.hart-end in let end = c.harts-hart-end.ensures in omega (arith, past, to, end)) c.loop-hart.invariant.told
