use Rattle.files.proofs.TableLemmas.{own_by_command}
use Rattle.files.proofs.key_laws.own_keys_are_of_one_command.Goals as goal

pub returns : goal.returns
returns c = own_by_command
