use Rattle.std.proofs.Common.{◌∙◌, ◌++◌, ◌≤◌, List, ℕ, length, ap, arith, string_bytes}
use Rattle.draw.specs.Shapes.{escape}
use Rattle.draw.proofs.Escaping.{byte_more, bytes_end}
use Rattle.draw.proofs.shapes.push_bytes.Goals as goal

pub loop-byte-preserved : goal.loop-byte-preserved
loop-byte-preserved c =
    byte_more c.as_bytes-byte-items.result.now _ _ _ c.loop-byte.byte-index _ c.loop-byte-test.true c.loop-byte.invariant
    c.in_ok-push_byte.ensures.ok

pub returns : goal.returns
returns c =
    let past : length c.as_bytes-byte-items.result.now ≤ c.loop-byte.byte-index = omega (arith, c.loop-byte-test.false) in
    record {
      ok = bytes_end c.as_bytes-byte-items.result.now _ _ c.loop-byte.byte-index past c.loop-byte.invariant
          ∙ ap (λ (words : List ℕ). string_bytes c.args.svg.now ++ escape words) c.as_bytes-byte-items.ensures.value;
    }
