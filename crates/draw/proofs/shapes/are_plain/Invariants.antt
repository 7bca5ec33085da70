use Rattle.std.proofs.Common.{◌≡◌, IsTrue, drop}
use Rattle.draw.specs.Shapes.{escape}
use Rattle.draw.proofs.shapes.are_plain.Given as goal

abbrev pub invariant-loop-byte : goal.invariant-loop-byte
invariant-loop-byte l =
    escape (drop l.byte-index l.byte-items) ≡ drop l.byte-index l.byte-items → IsTrue l.plain → escape l.byte-items ≡ l.byte-items
