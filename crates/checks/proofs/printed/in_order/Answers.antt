use Rattle.std.proofs.Common.{◌≡◌, rules}
use Rattle.std.proofs.lemmas.List.Sorted.{answers_always}
use Rattle.checks.specs.Lines.{order_of}
use Rattle.checks.proofs.printed.in_order.Goals as goal

pub returns-clause-sorted : goal.returns-clause-sorted
returns-clause-sorted c = c.in_ok-sort_by_key.ensures.sorted order_of (answers_always _ (λ a r. r ≡ order_of a.0.now) _ (λ f a r q k. search rules))
