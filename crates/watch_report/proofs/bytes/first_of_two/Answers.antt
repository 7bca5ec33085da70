use Rattle.std.proofs.Common.{◌-◌, ◌≤◌, length, arith}
use Rattle.watch_report.specs.Bytes.{is_either}
use Rattle.watch_report.proofs.FirstBytes.{first_in_block, none_in_block}
use Rattle.watch_report.proofs.bytes.first_of_two.Goals as goal

pub returns-then-before-lt-BLOCK : goal.returns-then-before-lt-BLOCK
returns-then-before-lt-BLOCK c =
    first_in_block (is_either c.args.a c.args.b) c.args.text.now c.vectors.at c.before_in_block-before.result (omega arith) c.before_in_block-before.ensures c.vectors.invariant (λ _. c.if-before-lt-BLOCK.true)

pub vectors-preserved : goal.vectors-preserved
vectors-preserved c =
    none_in_block (is_either c.args.a c.args.b) c.args.text.now c.vectors.at c.before_in_block-before.result (omega arith) c.before_in_block-before.ensures c.vectors.invariant (omega (arith, c.if-before-lt-BLOCK.false))

pub returns : goal.returns
returns c =
    let last = length c.args.text.now - 16 in
    let within : 16 ≤ length c.args.text.now = omega (arith, c.if-text-lt-BLOCK.false) in
    first_in_block (is_either c.args.a c.args.b) c.args.text.now last c.before_in_block.result (omega (arith, within)) c.before_in_block.ensures
    (λ k below. c.vectors.invariant k (omega (arith, below, c.vectors-test.false)))
    (λ less. omega (arith, less, within))
