use Rattle.std.proofs.Common.{◌≡◌, ◌++◌, drop, string_bytes}
use Rattle.draw.specs.Shapes.{escape}
use Rattle.draw.proofs.shapes.push_bytes.Given as goal

abbrev pub invariant-loop-byte : goal.invariant-loop-byte
invariant-loop-byte l = string_bytes l.svg ++ escape (drop l.byte-index l.byte-items) ≡ string_bytes l.fn.svg ++ escape l.byte-items
