-- The worked runs of what a service and an own acknowledgement leave, computed from the definitions
-- alone.
use Rattle.std.proofs.Common.{refl}
use Rattle.pte.specs.Entry.{kind_of}
use Rattle.spaces.specs.Edits.{wish_fault, path_end, edit_of}
use Rattle.shoot.specs.HartSet.{byte_of, difference}
use Rattle.counterexamples.specs.WorkedRuns.{IsRun, three_harts, two_harts}
use Rattle.counterexamples.specs.ServiceRuns.{spaces_of_other_asids}
use Rattle.counterexamples.specs.ServiceRuns as run

pub service_of_a_page : IsRun spaces_of_other_asids run.service_of_a_page
unfolding IsRun kind_of wish_fault path_end edit_of byte_of difference
service_of_a_page = refl

pub service_of_a_kernel_page : IsRun spaces_of_other_asids run.service_of_a_kernel_page
unfolding IsRun kind_of wish_fault path_end edit_of byte_of difference
service_of_a_kernel_page = refl

pub service_of_a_space : IsRun spaces_of_other_asids run.service_of_a_space
unfolding IsRun kind_of wish_fault path_end edit_of byte_of difference
service_of_a_space = refl

pub service_of_all : IsRun spaces_of_other_asids run.service_of_all
unfolding IsRun kind_of wish_fault path_end edit_of byte_of difference
service_of_all = refl

pub own_acknowledgement_of_a_page : IsRun spaces_of_other_asids run.own_acknowledgement_of_a_page
unfolding IsRun kind_of wish_fault path_end edit_of byte_of difference
own_acknowledgement_of_a_page = refl

pub own_acknowledgement_of_a_kernel_page : IsRun spaces_of_other_asids run.own_acknowledgement_of_a_kernel_page
unfolding IsRun kind_of wish_fault path_end edit_of byte_of difference
own_acknowledgement_of_a_kernel_page = refl

pub own_acknowledgement_of_a_space : IsRun spaces_of_other_asids run.own_acknowledgement_of_a_space
unfolding IsRun kind_of wish_fault path_end edit_of byte_of difference
own_acknowledgement_of_a_space = refl

pub own_acknowledgement_of_all : IsRun spaces_of_other_asids run.own_acknowledgement_of_all
unfolding IsRun kind_of wish_fault path_end edit_of byte_of difference
own_acknowledgement_of_all = refl

pub two_harts_serve : IsRun three_harts run.two_harts_serve
unfolding IsRun kind_of wish_fault path_end edit_of byte_of difference
two_harts_serve = refl

pub refused_unmapping : IsRun two_harts run.refused_unmapping
unfolding IsRun kind_of wish_fault path_end edit_of byte_of difference
refused_unmapping = refl
