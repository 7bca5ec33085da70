use Rattle.watch_tables.proofs.WaysBelow.{passes-by, way-of}
use Rattle.watch_tables.proofs.laws.path_through_a_word_has_a_way.Goals as goal

pub returns : goal.returns
returns c = record {
  way = λ scheme words since root table index ways page are. way-of scheme words since table index ways page are root;
  passes = λ scheme words since table index ways page way are. passes-by scheme words since table index ways page are way;
}
