use Rattle.std.proofs.Common.{◌≡◌, ◌==◌, ◌∙◌, length, sym, true}
use Rattle.watch_report.specs.TraceText.{Noted, trace_of}
use Rattle.watch_report.specs.VerdictLines.{noted_by}
use Rattle.watch_report.proofs.KnownLemmas.{all_unknown, still_none}
use Rattle.watch_report.proofs.known_stage.drop_known.Goals as goal

pub returns-then-is_empty : goal.returns-then-is_empty
returns-then-is_empty c = λ entries scheme records before past has.
    let newest : Noted = noted_by c.args.newest.now in
    let none : (length entries == 0) ≡ true = sym (c.is_empty.ensures entries scheme (trace_of records) before has) ∙ c.if-is_empty.true in (
      all_unknown entries scheme newest records c.args.warnings.now.items before none,
      still_none entries scheme (trace_of records) newest.made before _ c.args.known.now none has,
    )
