use Rattle.walk.proofs.Paths.{same_table, same_word}
use Rattle.walk.proofs.laws.one_word_leads_at_a_level.Goals as goal

pub returns : goal.returns
returns c = λ scheme words root va i t u v w p q. (same_table scheme words root va i t u v w p q, same_word scheme words root va i t u v w p q)
