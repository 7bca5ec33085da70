use Rattle.views.proofs.Tables.{as-said}
use Rattle.views.proofs.laws.each_table_word_is_as_its_home_says.Goals as goal

pub returns : goal.returns
returns c k s b = as-said k s b.tables
