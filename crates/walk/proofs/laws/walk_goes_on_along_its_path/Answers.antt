use Rattle.std.proofs.Common.{refl}
use Rattle.walk.specs.Leads.{word_at}
use Rattle.walk.proofs.Ending.{goes-on}
use Rattle.walk.proofs.laws.walk_goes_on_along_its_path.Goals as goal

pub returns : goal.returns
returns c = λ scheme words root s on. goes-on scheme words root s (word_at words s.va s.level s.table) on refl
