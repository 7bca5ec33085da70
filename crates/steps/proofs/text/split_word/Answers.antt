use Rattle.std.proofs.Common.{◌≡◌, true, get_or, length, ap, arith, length-drop}
use Rattle.steps.specs.Words.{is_blank}
use Rattle.steps.proofs.NextWord.{word_before_blank, word_to_end}
use Rattle.steps.proofs.text.split_word.Goals as goal

pub returns-then-is_blank-clause-words : goal.returns-then-is_blank-clause-words
returns-then-is_blank-clause-words c =
    let text = c.args.text.now in
    let end = c.loop-end.end in
    let blank : is_blank (get_or text end 0) ≡ true = cc in
    rw (c.split_at.ensures.front, c.split_at.ensures.back) (word_before_blank text end c.requires.some c.requires.plain c.loop-end-test.true c.loop-end.invariant.plain blank)

pub returns-then-is_blank-clause-shorter : goal.returns-then-is_blank-clause-shorter
returns-then-is_blank-clause-shorter c =
    omega (arith, c.loop-end.invariant.some, c.loop-end-test.true, ap length c.split_at.ensures.back, length-drop c.loop-end.end c.args.text.now)

pub returns-clause-words : goal.returns-clause-words
returns-clause-words c = word_to_end c.args.text.now c.requires.some c.requires.plain (λ k less. c.loop-end.invariant.plain k (omega (arith, less, c.loop-end-test.false)))
