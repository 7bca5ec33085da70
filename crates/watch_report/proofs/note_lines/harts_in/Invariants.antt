use Rattle.std.proofs.Common.{◌≡◌}
use Rattle.watch_report.specs.NoteLines.{harts_below}
use Rattle.watch_report.proofs.note_lines.harts_in.Given as goal

abbrev pub invariant-loop-hart : goal.invariant-loop-hart
invariant-loop-hart l = l.harts.items ≡ harts_below l.mask l.hart
