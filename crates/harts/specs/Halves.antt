-- What the two halves of a list own: the two halves of one ghost name, at the list.
use Rattle.std.specs.Prelude.{ℕ, List}
use base.Stored.{Coded, coded_list}
use base.Fml.{Fml, fauth, fobs}

abbrev pub inner_owns : {E : Type 0} → Coded E → ℕ → List E → Fml
inner_owns c name list = fauth name ((coded_list c).code list)

abbrev pub outer_owns : {E : Type 0} → Coded E → ℕ → List E → Fml
outer_owns c name list = fobs name ((coded_list c).code list)
