use Rattle.std.proofs.Common.{◌⊎◌, Option, subst, arith}
use Rattle.std.specs.Prelude.{◌↔◌, Contains}
use Rattle.tlb.specs.declared.store.Entry.{Entry}
use Rattle.stale.specs.Told.{AddsOnce, IsOfEntry}
use Rattle.stale.proofs.Adding.{all_entries, next_entry}
use Rattle.stale.proofs.Once.{next_entry_once}
use Rattle.stale.proofs.report.tell_tlb.Goals as goal

pub loop-age-preserved : goal.loop-age-preserved
loop-age-preserved c = record {
  told = next_entry c.args.opening.now c.args.items.now.items c.args.hart c.args.tlb.now.entries c.loop-age.age c.loop-age.items.items c.tell_entry.new.items.items c.loop-age.invariant.told
      (λ item. subst (λ (o : Option Entry). Contains c.tell_entry.new.items.items item ↔ (Contains c.loop-age.items.items item ⊎ IsOfEntry c.args.opening.now c.args.hart o item)) c.entry.ensures
      (c.in_ok-tell_entry.ensures.told item));
  once = next_entry_once c.args.opening.now c.args.items.now.items c.args.hart c.args.tlb.now.entries c.loop-age.age c.loop-age.items.items c.tell_entry.new.items.items c.loop-age.invariant.told c.loop-age.invariant.once
      (subst (λ (o : Option Entry). AddsOnce (λ item. IsOfEntry c.args.opening.now c.args.hart o item) c.loop-age.items.items c.tell_entry.new.items.items) c.entry.ensures c.in_ok-tell_entry.ensures.once);
  in_order = λ old. c.in_ok-tell_entry.ensures.in_order (c.loop-age.invariant.in_order old);
}

pub returns-clause-told : goal.returns-clause-told
returns-clause-told c =
    all_entries c.args.opening.now c.args.items.now.items c.args.hart c.args.tlb.now.entries c.loop-age.age c.loop-age.items.items (let past = c.loop-age-test.false in let end = c.len-age-end.ensures in omega (arith, past, end)) c.loop-age.invariant.told
