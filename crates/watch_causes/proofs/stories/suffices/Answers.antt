use Rattle.std.proofs.Common.{◌∙◌, List, ap, subst}
use Rattle.std.specs.List.{list_any}
use Rattle.watch.specs.declared.trace.Record.{Record}
use Rattle.watch.specs.WorkedTraces.{trace_of}
use Rattle.watch_engine.specs.declared.warning.Warning.{Warning}
use Rattle.watch_causes.specs.Stories.{AreLast, is_same}
use Rattle.watch_causes.proofs.stories.suffices.Goals as goal

pub returns : goal.returns
returns c =
    let parts = c.args.parts.now in
    let w = c.args.warning.now in
    let alone = c.in_ok-alone.alone.items in
    record {
      alone = alone;
      last = subst (λ (rs : List Record). AreLast c.args.scheme (trace_of rs) alone) (c.as_slice.ensures.value ∙ c.in_ok-records.ensures) c.in_ok-alone.ensures;
      is = c.has_same.ensures ∙ ap (list_any (λ (v : Warning). is_same parts v w)) c.as_slice-2.ensures.value;
    }
