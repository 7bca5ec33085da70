use Rattle.std.proofs.Common.{ap, refl}
use Rattle.pte.specs.Address.{Span}
use Rattle.stale.specs.declared.items.StaleAt.{StaleAt}
use Rattle.stale.specs.declared.items.StaleItem.TheVariants.{Became}
use Rattle.stale.specs.Told.{IsOfEntry}
use Rattle.stale.proofs.Adding.{with_entry}
use Rattle.stale.proofs.Ordering.{in_order_push}
use Rattle.stale.proofs.Once.{of_entry, once_push}
use Rattle.stale.proofs.report.tell_entry.Goals as goal

pub returns-in_ok-push-clause-told : goal.returns-in_ok-push-clause-told
returns-in_ok-push-clause-told c = λ item.
    let opening = c.args.opening.now in
    let e = c.in-Some.entry in
    let made : Span → StaleAt = λ page. record { step = opening.step; item = Became (record { hart = c.args.hart; entry = e; page = page; home = opening.home; ticket = opening.ticket }) } in
    with_entry opening c.args.hart e c.args.entry c.args.items.now.items c.push.new.self.items (made c.smaller.result) c.in-Some.is (c.is_held.ensures.0 c.if-is_held.true) (ap made c.smaller.ensures)
    c.in_ok-push.ensures.items item

pub returns-in_ok-push-clause-in_order : goal.returns-in_ok-push-clause-in_order
returns-in_ok-push-clause-in_order c = in_order_push _ _ _ _ c.in_ok-push.ensures.items refl

pub returns-in_ok-push-clause-once : goal.returns-in_ok-push-clause-once
returns-in_ok-push-clause-once c =
    let opening = c.args.opening.now in
    let e = c.in-Some.entry in
    let made : Span → StaleAt = λ page. record { step = opening.step; item = Became (record { hart = c.args.hart; entry = e; page = page; home = opening.home; ticket = opening.ticket }) } in
    once_push (λ item. IsOfEntry opening c.args.hart c.args.entry item) c.args.items.now.items c.push.new.self.items (made c.smaller.result) c.in_ok-push.ensures.items
    (of_entry opening c.args.hart e c.args.entry (made c.smaller.result) c.in-Some.is (c.is_held.ensures.0 c.if-is_held.true) (ap made c.smaller.ensures))
