use Rattle.std.proofs.lemmas.List.Sorted.{answers_always}
use Rattle.watch_report.specs.Orders.{order_key}
use Rattle.watch_report.proofs.order.put_in_order.Goals as goal

pub returns-then-len-gt1-clause-order : goal.returns-then-len-gt1-clause-order
returns-then-len-gt1-clause-order c = c.sort_unstable_by_key.ensures.sorted order_key (answers_always _ _ _ (λ f a r g called. called.met))
