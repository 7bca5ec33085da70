use Rattle.std.proofs.Common.{◌≡◌, ◌∷◌, ◌∙◌, List, ap, subst}
use Rattle.std.specs.List.{filter as kept_by}
use Rattle.pte.specs.declared.scheme.Scheme.{Scheme}
use Rattle.watch_causes.specs.Causes.{HasSeen}
use Rattle.watch_engine.specs.declared.warning.Warning.{Warning}
use Rattle.watch_engine.specs.Warnings.{AreWarnings}
use Rattle.watch_report.specs.declared.filter.Filter.{Filter}
use Rattle.watch_report.specs.Filters.{takes}
use Rattle.watch_report.specs.TraceText.{Noted, trace_of}
use Rattle.watch_report.proofs.OrderLemmas.{warnings_in_order}
use Rattle.watch_report.proofs.VerdictLemmas.{taken_more}
use Rattle.watch_report.proofs.judging.Judging.take_record.Goals as goal

pub returns-clause-ok : goal.returns-clause-ok
returns-clause-ok c = λ filter records taken by line has.
    let newest : Noted = record { made = c.args.newest; by = by; line = line } in
    let ordered = c.put_in_order.new.warnings.items in
    let kept = c.retain.new.warnings.items in
    let all = subst (λ (s : Scheme). AreWarnings s newest.made (trace_of records) ordered) has.scheme
    (warnings_in_order _ newest.made (trace_of records) c.in_ok-warnings.warnings.items ordered c.put_in_order.ensures.permutation (c.in_ok-warnings.ensures.warnings (trace_of records) has.follows)) in
    let is : kept ≡ kept_by (takes filter) ordered = c.retain.ensures ∙ ap (λ (f : Filter). kept_by (takes f) ordered) has.filter_is in (
      kept,
      record {
        filter_is = has.filter_is;
        follows = c.in_ok-warnings.ensures.ok (trace_of records) has.follows;
        scheme = c.record.ensures.scheme ∙ has.scheme;
        causes_scheme = c.record-2.ensures.scheme ∙ has.causes_scheme;
        are = taken_more filter c.args.self.now.header.scheme newest records taken kept ordered all is c.put_in_order.ensures.order has.are;
        seen = subst (λ (w : List Warning). HasSeen (newest.made ∷ trace_of records) (w ∷ taken) c.record-2.new.self) c.as_slice.ensures.value (c.in_ok-record.ensures.ok (trace_of records) taken has.seen);
      },
    )
