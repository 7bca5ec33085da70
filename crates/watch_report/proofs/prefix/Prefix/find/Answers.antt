use Rattle.std.proofs.Common.{◌≡◌, ◌∙◌, ◌∷◌, ◌++◌, [], List, Some, ap, subst, sym}
use Rattle.watch.specs.declared.trace.Record.{Record}
use Rattle.watch.specs.Trace.{Trace}
use Rattle.watch.specs.WorkedTraces.{trace_of as made_from}
use Rattle.watch_causes.specs.declared.stories.Part.{Part}
use Rattle.watch_causes.specs.Stories.{IsDueAt, IsStory}
use Rattle.watch_engine.specs.declared.warning.Warning.{Warning}
use Rattle.watch_report.specs.Explaining.{made_in}
use Rattle.watch_report.specs.Prefix.{IsFirst}
use Rattle.watch_report.specs.TraceText.{Noted, trace_of}
use Rattle.watch_report.specs.VerdictLines.{trigger_of}
use Rattle.watch_report.proofs.PrefixLemmas.{due_first, made_more, none_at, trace_made, trace_more}
use Rattle.watch_report.proofs.prefix.Prefix.find.Goals as goal

pub returns-in_default-clause-ok : goal.returns-in_default-clause-ok
returns-in_default-clause-ok c = λ newest records is are.
    let same : made_from c.as_slice.result.now ≡ trace_of records = ap made_from (c.as_slice.ensures.value ∙ are.made) ∙ trace_made records in
    let acts = sym (c.trigger_among.ensures records same are.past) ∙ c.in_default.is in
    none_at c.args.filter c.args.scheme newest.made records (ap (trigger_of records) is ∙ acts)

pub returns-in_default-2-clause-ok : goal.returns-in_default-2-clause-ok
returns-in_default-2-clause-ok c = λ newest records is are.
    let made : made_from c.as_slice-records.result.now ≡ trace_of (newest ∷ records) =
    trace_more records newest _ (c.as_slice-records.ensures.value ∙ c.push_reserved.ensures.items ∙ ap (λ (l : List Record). l ++ c.args.made ∷ []) (c.in_ok-reserve.ensures.items ∙ are.made) ∙ ap (λ (made : Record). made_in records ++ made ∷ []) (sym is)) in
    subst (IsFirst c.args.filter c.args.scheme newest.made (trace_of records)) c.in_default-2.is (c.in_ok-first.ensures.ok newest.made (trace_of records) made)

pub returns-clause-ok : goal.returns-clause-ok
returns-clause-ok c = λ newest records is are.
    let scheme = c.args.scheme in
    let first : Warning = c.in-Some-2.first in
    let parts : List Part = c.in_ok-parts.parts.items in
    let same : made_from c.as_slice.result.now ≡ trace_of records = ap made_from (c.as_slice.ensures.value ∙ are.made) ∙ trace_made records in
    let acts : trigger_of records newest.made ≡ Some c.in-Some.trigger = ap (trigger_of records) is ∙ sym (c.trigger_among.ensures records same are.past) ∙ c.in-Some.is in
    let all : c.as_slice-records.result.now ≡ made_in (newest ∷ records) =
    c.as_slice-records.ensures.value ∙ c.push_reserved.ensures.items ∙ ap (λ (l : List Record). l ++ c.args.made ∷ []) (c.in_ok-reserve.ensures.items ∙ are.made) ∙ ap (λ (made : Record). made_in records ++ made ∷ []) (sym is) ∙ made_more records newest in
    let made : made_from c.as_slice-records.result.now ≡ trace_of (newest ∷ records) = ap made_from all ∙ trace_made (newest ∷ records) in
    let is_first : IsFirst c.args.filter scheme newest.made (trace_of records) (Some first) =
    subst (IsFirst c.args.filter scheme newest.made (trace_of records)) c.in-Some-2.is (c.in_ok-first.ensures.ok newest.made (trace_of records) made) in
    let due : IsDueAt scheme (made_from c.as_slice-records.result.now) first =
    subst (λ (t : Trace). IsDueAt scheme t first) (sym made) (due_first c.args.filter scheme newest records first is_first) in
    let story : IsStory scheme (made_in (newest ∷ records)) first parts =
    subst (λ (l : List Record). IsStory scheme l first parts) all (c.in_ok-parts.ensures due) in
    record { acts = acts; first = is_first; story = story }
