use Rattle.std.proofs.Common.{sym, inl, inr, arith}
use Rattle.watch_report.proofs.FieldLemmas as fields
use Rattle.watch_report.proofs.numbers.whole_number.Goals as goal

pub returns-then-count-eq0 : goal.returns-then-count-eq0
returns-then-count-eq0 c = λ radix begins. sym (fields.no_whole_number _ _ _ _ begins (inl c.if-count-eq0.true))

pub returns-then-count-field : goal.returns-then-count-field
returns-then-count-field c = λ radix begins. sym (fields.no_whole_number _ _ _ _ begins (inr c.if-count-field.true))

pub returns : goal.returns
returns c = λ radix begins. sym (fields.whole_number _ _ _ _ begins (omega arith) c.if-count-field.false)
