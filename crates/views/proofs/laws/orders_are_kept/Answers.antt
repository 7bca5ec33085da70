use Rattle.views.proofs.Lasting.{edits_keep_orders, steps_keep_orders}
use Rattle.views.proofs.laws.orders_are_kept.Goals as goal

pub returns-clause-steps : goal.returns-clause-steps
returns-clause-steps c = steps_keep_orders

pub returns-clause-edits : goal.returns-clause-edits
returns-clause-edits c = edits_keep_orders
