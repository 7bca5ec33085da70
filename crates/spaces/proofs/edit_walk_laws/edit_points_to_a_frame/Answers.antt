use Rattle.spaces.proofs.HomeReads.{points-to-frame, points-to-spare}
use Rattle.spaces.proofs.edit_walk_laws.edit_points_to_a_frame.Goals as goal

pub returns-clause-spare : goal.returns-clause-spare
returns-clause-spare c l words holders hart w store ppn e points = points-to-spare l e.layout words holders e.tree hart w e.has store e.is ppn points

pub returns-clause-frame : goal.returns-clause-frame
returns-clause-frame c l words holders hart w store ppn e points = points-to-frame l e.layout words holders e.tree hart w e.has store e.is ppn points
