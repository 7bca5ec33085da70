use Rattle.lines.proofs.LineLemmas.{one_lines, some_lines}
use Rattle.lines.proofs.answer_laws.one_text.Goals as goal

pub returns : goal.returns
returns c = record { one = one_lines; some = some_lines }
