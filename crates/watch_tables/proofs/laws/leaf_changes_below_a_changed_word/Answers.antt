use Rattle.watch_tables.proofs.PathWords.{leaf-changes, leaf-unchanged, mapped-changes}
use Rattle.watch_tables.proofs.laws.leaf_changes_below_a_changed_word.Goals as goal

pub returns : goal.returns
returns c = record {
  none = λ scheme words others is_in root e agree. leaf-unchanged scheme words others is_in agree root e;
  leaf = λ scheme words others is_in root e agree. leaf-changes scheme words others is_in agree root e;
  mapped = λ scheme words others is_in x agree. mapped-changes scheme words others is_in agree x;
}
