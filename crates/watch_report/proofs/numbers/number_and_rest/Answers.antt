use Rattle.std.proofs.Common.{◌≡◌, ◌<◌, true, false, get_or, length, sym, ◌∙◌, inl, inr, arith}
use Rattle.watch_report.specs.Fields.{is_separator}
use Rattle.watch_report.proofs.FieldLemmas.{next_is, no_next, no_next_at_end}
use Rattle.watch_report.proofs.numbers.number_and_rest.Goals as goal

pub returns-then-count-eq0 : goal.returns-then-count-eq0
returns-then-count-eq0 c = λ radix most begins. no_next _ _ _ _ most begins (inl c.if-count-eq0.true)

pub returns-then-count-text : goal.returns-then-count-text
returns-then-count-text c = λ radix most begins. no_next_at_end _ _ _ _ most begins c.if-count-text.true

pub returns-then-is_separator : goal.returns-then-is_separator
returns-then-is_separator c = λ radix most begins.
    let space : is_separator (get_or c.args.text.now c.args.count 0) ≡ true = sym c.is_separator.ensures ∙ c.if-is_separator.true in
    let less : c.args.count < length c.args.text.now = omega arith in
    next_is _ _ _ _ most begins (omega arith) less space

pub returns-else-is_separator : goal.returns-else-is_separator
returns-else-is_separator c = λ radix most begins.
    let other : is_separator (get_or c.args.text.now c.args.count 0) ≡ false = sym c.is_separator.ensures ∙ c.if-is_separator.false in
    no_next _ _ _ _ most begins (inr other)
