use Rattle.std.proofs.Common.{◌≡◌, take}
use Rattle.std.specs.List.{sum_by}
use Rattle.watch_report.proofs.note_lines.findings_of.Given as goal

abbrev pub invariant-loop-group : goal.invariant-loop-group
invariant-loop-group l = l.n ≡ sum_by (λ g. g.findings) (take l.group-index l.groups)
