use Rattle.files.proofs.DefaultLemmas.{base_default, capacity_default, harts_default, no_key, root_default, turns_default, window_default}
use Rattle.files.proofs.key_laws.defaults_are_those_of_the_table.Goals as goal

pub returns : goal.returns
returns c = record { no_key = no_key; harts = harts_default; window = window_default; base = base_default; capacity = capacity_default; turns = turns_default; root = root_default }
