use Rattle.std.proofs.Common.{refl}
use Rattle.files.specs.Keys.{one_number}
use Rattle.files.proofs.DefaultLemmas.{each_base}
use Rattle.files.proofs.TableLemmas.{turns_within}
use Rattle.files.proofs.key_laws.limits_are_those_of_the_table.Goals as goal

pub returns : goal.returns
returns c = record { harts = λ n. refl; window = λ n. refl; capacity = λ n. refl; turns = turns_within; root = λ n. refl; base = λ text. each_base (one_number text) }
