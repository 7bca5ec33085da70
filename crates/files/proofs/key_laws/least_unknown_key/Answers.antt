use Rattle.files.proofs.KeyLemmas.{found_is_least, none_unknown}
use Rattle.files.proofs.key_laws.least_unknown_key.Goals as goal

pub returns : goal.returns
returns c = record { least = found_is_least; none = none_unknown }
