use Rattle.std.proofs.Common.{◌≡◌, None, is_some, sym, ap, ◌∙◌}
use Rattle.std.proofs.lemmas.Bool.{false≢true}
use Rattle.watch_report.specs.LineFaults.{fault_of}
use Rattle.watch_report.proofs.FaultLaws.{fault_law}
use Rattle.watch_report.proofs.report.fault_of_line.Goals as goal

pub unreachable-requires : goal.unreachable-requires
unreachable-requires c =
    let none : fault_of c.args.header c.args.line.now ≡ None = sym c.find_line_fault.ensures ∙ c.in_default.is in
    false≢true (sym (ap is_some none) ∙ fault_law c.args.header c.args.line.now ∙ c.requires)
