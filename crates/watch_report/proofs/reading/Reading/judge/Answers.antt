use Rattle.std.proofs.Common.{true, false, ◌≡◌, ◌∷◌, refl, List, ap, subst, ◌∙◌}
use Rattle.std.specs.List.{filter as kept_by}
use Rattle.pte.specs.declared.scheme.Scheme.{Scheme}
use Rattle.watch_causes.specs.KnownFindings.{Sourced}
use Rattle.watch_engine.specs.declared.warning.Warning.{Warning}
use Rattle.watch_engine.specs.Warnings.{AreWarnings}
use Rattle.watch_report.specs.declared.options.Options.{Options}
use Rattle.watch_report.specs.Filters.{takes}
use Rattle.watch_report.specs.KnownVerdicts.{unknown_at, verdicts_so_far}
use Rattle.watch_report.specs.Reports.{told_at, told_of, told_of_taken}
use Rattle.watch_report.specs.Telling.{IsTelling}
use Rattle.watch_report.specs.TraceText.{trace_of}
use Rattle.watch_report.specs.VerdictLines.{counts_after, noted_by}
use Rattle.watch_report.proofs.OrderLemmas.{warnings_in_order}
use Rattle.watch_report.proofs.VerdictLemmas.{seen_more, taken_more}
use Rattle.watch_report.proofs.reading.Reading.judge.Goals as goal

pub returns-clause-ok : goal.returns-clause-ok
returns-clause-ok c = λ options known records taken has.
    let file = c.args.file.now in
    let about = told_of options known file in
    let scheme = c.args.self.now.header.scheme in
    let newest = noted_by c.args.newest.now in
    let warnings = c.retain.new.warnings.items in
    let before : List Sourced = verdicts_so_far scheme records taken in
    let given : List (List Warning) = told_of_taken about scheme records taken in
    let unknown = c.drop_known.new.warnings.items in
    let dropped = c.in_ok-drop_known.ensures known.entries scheme records before has.past has.has_known in
    let trigger = c.trigger_of-trigger.ensures records has.follows has.past in
    let text : c.in_ok-text.text.items ≡ told_at options file scheme newest records (unknown_at known.entries scheme newest records warnings before) given =
    c.in_ok-text.ensures.text options scheme records given trigger has.past has.telling
    ∙ ap (λ (w : List Warning). told_at options file scheme newest records w given) (c.as_slice-2.ensures.value ∙ dropped.0) in
    let telling = subst (λ (w : List Warning). IsTelling options scheme (newest ∷ records) (w ∷ given) c.at_record.new.self) c.as_slice-2.ensures.value (c.in_ok-text.ensures.telling options scheme records given has.telling) in
    let ordered = c.put_in_order.new.warnings.items in
    let all = subst (λ (s : Scheme). AreWarnings s newest.made (trace_of records) ordered) has.scheme
    (warnings_in_order _ newest.made (trace_of records) c.in_ok-warnings.warnings.items ordered c.put_in_order.ensures.permutation (c.in_ok-warnings.ensures.warnings (trace_of records) has.follows)) in
    let kept : warnings ≡ kept_by (takes options.filter) ordered =
    c.retain.ensures ∙ ap (λ (o : Options). kept_by (takes o.filter) ordered) has.options_are in
    let seen = seen_more about c.args.self.now _ records taken newest warnings unknown has refl refl c.record.ensures.scheme
    (c.in_ok-warnings.ensures.ok (trace_of records) has.follows)
    (taken_more options.filter scheme newest records taken warnings _ all kept c.put_in_order.ensures.order has.are)
    c.in_ok-number.ensures.ok
    (c.in_ok-add.ensures records newest has.past refl refl)
    dropped.0
    dropped.1
    telling
    (c.in_ok-count_warnings.ensures.user ∙ ap (λ (w : List Warning). counts_after false c.args.self.now.user w) c.as_slice.ensures.value)
    (c.in_ok-count_warnings.ensures.kernel ∙ ap (λ (w : List Warning). counts_after true c.args.self.now.kernel w) c.as_slice.ensures.value) in
    record { warnings = warnings; seen = seen; is_told = text }
