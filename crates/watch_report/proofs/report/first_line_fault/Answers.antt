use Rattle.std.proofs.Common.{◌≡◌, None, is_none, is_some, sym, ap, ◌∙◌}
use Rattle.std.proofs.lemmas.Bool.{false≢true}
use Rattle.watch_report.specs.LineFaults.{header_fault}
use Rattle.watch_report.proofs.FaultLaws.{header_law}
use Rattle.watch_report.proofs.report.first_line_fault.Goals as goal

pub unreachable-requires : goal.unreachable-requires
unreachable-requires c =
    let none : header_fault c.args.line.now ≡ None = sym c.find_header_fault.ensures ∙ c.in_default.is in
    false≢true (sym (ap is_some none) ∙ header_law c.args.line.now ∙ ap is_none c.requires)
