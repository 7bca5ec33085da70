use Rattle.std.proofs.Common.{◌≡◌, ◌<◌, ◌≤◌, ◌∙◌, ap, drop, length, sym, arith, length-drop}
use Rattle.std.proofs.lemmas.Bool.Decides.{nat_tests}
use Rattle.std.proofs.lemmas.List.Sums.{prefix_len-le-length}
use Rattle.steps.specs.Words.{words_of}
use Rattle.steps.proofs.NextWord.{blank_len, no_word, plain_front, words_of-past_blanks}
use Rattle.steps.proofs.text.next_word.Goals as goal

pub split_at-requires : goal.split_at-requires
split_at-requires c = rw c.blank_len.ensures (prefix_len-le-length _ c.args.text.now)

pub split_word-requires-clause-plain : goal.split_word-requires-clause-plain
split_word-requires-clause-plain c =
    let some : blank_len c.args.text.now < length c.args.text.now = grind (arith, nat_tests) in
    rw (c.split_at.ensures.back, c.blank_len.ensures) (plain_front c.args.text.now some)

pub returns-clause-words : goal.returns-clause-words
returns-clause-words c =
    let back : c.split_at.result.1.now ≡ drop (blank_len c.args.text.now) c.args.text.now = rw (c.split_at.ensures.back, c.blank_len.ensures) in
    sym (words_of-past_blanks c.args.text.now) ∙ ap words_of (sym back) ∙ c.split_word.ensures.words

pub returns-clause-shorter : goal.returns-clause-shorter
returns-clause-shorter c = omega (arith, c.split_word.ensures.shorter, simp length-drop at (ap length c.split_at.ensures.back))

pub returns-then-is_empty : goal.returns-then-is_empty
returns-then-is_empty c =
    let none : length c.args.text.now ≤ blank_len c.args.text.now = grind (arith, nat_tests) in
    record { words = no_word c.args.text.now none; shorter = tt }
