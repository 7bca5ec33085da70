use Rattle.spaces.proofs.HomeReads.{index-below, was-no-pointer}
use Rattle.spaces.proofs.edit_walk_laws.edit_replaces_no_pointer.Goals as goal

pub returns-clause-pointer : goal.returns-clause-pointer
returns-clause-pointer c l words holders hart w store e = was-no-pointer l e.layout words holders e.tree hart w e.has store e.is

pub returns-clause-index : goal.returns-clause-index
returns-clause-index c l words holders hart w store e = index-below l e.layout words holders e.tree hart w e.has store e.is
