-- The worked runs of refusals, computed from the definitions alone.
use Rattle.std.proofs.Common.{◌≡◌, map, refl}
use Rattle.std.specs.List.{range_with_len}
use Rattle.pte.specs.Entry.{kind_of}
use Rattle.spaces.specs.Edits.{wish_fault, path_end, edit_of}
use Rattle.shoot.specs.HartSet.{byte_of, difference}
use Rattle.counterexamples.specs.WorkedRuns.{IsRun, two_harts}
use Rattle.history.specs.Numbers.{code_of}
use Rattle.counterexamples.specs.RefusalRuns as run
use Rattle.counterexamples.specs.ShootdownRuns.{spaces_of_one_home}

pub refusals_in_order : IsRun two_harts run.refusals_in_order
unfolding IsRun kind_of wish_fault path_end edit_of byte_of difference
refusals_in_order = refl

pub numbered : map code_of run.numbered_refusals ≡ range_with_len 1 33
numbered = refl

pub no_such_hart : IsRun spaces_of_one_home run.no_such_hart
unfolding IsRun kind_of wish_fault path_end edit_of byte_of difference
no_such_hart = refl
