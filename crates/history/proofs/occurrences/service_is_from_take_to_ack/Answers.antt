use Rattle.history.proofs.Lasting.{serves}
use Rattle.history.proofs.occurrences.service_is_from_take_to_ack.Goals as goal

pub returns : goal.returns
returns c = serves
