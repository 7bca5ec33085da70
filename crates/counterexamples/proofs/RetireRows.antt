-- The worked runs of retired spaces, computed from the definitions alone.
use Rattle.std.proofs.Common.{refl}
use Rattle.pte.specs.Entry.{kind_of}
use Rattle.spaces.specs.Edits.{wish_fault, path_end, edit_of}
use Rattle.shoot.specs.HartSet.{byte_of, difference}
use Rattle.counterexamples.specs.WorkedRuns.{IsRun}
use Rattle.counterexamples.specs.ShootdownRuns.{spaces_of_one_home}
use Rattle.counterexamples.specs.RetireRuns as run

pub retired_and_created_anew : IsRun spaces_of_one_home run.retired_and_created_anew
unfolding IsRun kind_of wish_fault path_end edit_of byte_of difference
retired_and_created_anew = refl

pub orders_of_the_new_asid : IsRun spaces_of_one_home run.orders_of_the_new_asid
unfolding IsRun kind_of wish_fault path_end edit_of byte_of difference
orders_of_the_new_asid = refl

pub orders_keep_their_asid : IsRun spaces_of_one_home run.orders_keep_their_asid
unfolding IsRun kind_of wish_fault path_end edit_of byte_of difference
orders_keep_their_asid = refl

pub retired_until_acknowledged : IsRun spaces_of_one_home run.retired_until_acknowledged
unfolding IsRun kind_of wish_fault path_end edit_of byte_of difference
retired_until_acknowledged = refl

pub unmapped_by_the_new_asid : IsRun spaces_of_one_home run.unmapped_by_the_new_asid
unfolding IsRun kind_of wish_fault path_end edit_of byte_of difference
unmapped_by_the_new_asid = refl
