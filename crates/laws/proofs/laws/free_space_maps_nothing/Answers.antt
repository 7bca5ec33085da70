use Rattle.laws.proofs.MapsKept.{free_maps_nothing}
use Rattle.laws.proofs.laws.free_space_maps_nothing.Goals as goal

pub returns : goal.returns
returns c = λ C setup. free_maps_nothing C setup
