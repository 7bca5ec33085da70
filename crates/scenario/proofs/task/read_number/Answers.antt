use Rattle.std.proofs.Common.{◌∙◌, sym}
use Rattle.scenario.proofs.NumberLemmas.{too_large}
use Rattle.scenario.proofs.task.read_number.Goals as goal

pub returns-in_default : goal.returns-in_default
returns-in_default c = sym (too_large c.args.text.now c.from_str_radix.result c.from_str_radix.ensures.value (sym c.is_decimal.ensures ∙ c.if-not-is_decimal.false) c.in_default.field-0 c.in_default.is)
