use Rattle.std.proofs.Common.{◌≡◌, ◌++◌, string_bytes}
use Rattle.lines.specs.Marks.{is_marked}
use Rattle.lines.specs.Rows.{marks_text}
use Rattle.lines.proofs.order_rows.push_marked.Given as goal

abbrev pub invariant-loop-hart : goal.invariant-loop-hart
invariant-loop-hart l = string_bytes l.line ≡ string_bytes l.fn.line ++ marks_text l.hart-counter (is_marked l.tickets l.ticket l.mark)
