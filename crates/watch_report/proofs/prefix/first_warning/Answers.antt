use Rattle.std.proofs.Common.{◌∙◌, ap, subst}
use Rattle.watch.specs.Trace.{Trace}
use Rattle.watch_causes.specs.Stories.{AreLast}
use Rattle.watch_report.specs.Prefix.{first_of}
use Rattle.watch_report.proofs.PrefixLemmas.{first_is}
use Rattle.watch_report.proofs.prefix.first_warning.Goals as goal

pub returns-clause-ok : goal.returns-clause-ok
returns-clause-ok c = λ newest trace e.
    let are = subst (λ (t : Trace). AreLast c.args.scheme t c.in_ok-warnings.warnings.items) e c.in_ok-warnings.ensures in
    first_is c.args.filter c.args.scheme newest trace c.in_ok-warnings.warnings.items _ _ c.first_of.result are c.put_in_order.ensures.permutation c.put_in_order.ensures.order c.retain.ensures
    (c.first_of.ensures ∙ ap first_of c.as_slice.ensures.value)
