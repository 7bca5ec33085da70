-- The worked runs of harts that still translate a page, computed from the definitions alone.
use Rattle.std.proofs.Common.{refl}
use Rattle.pte.specs.Entry.{kind_of}
use Rattle.spaces.specs.Edits.{wish_fault, path_end, edit_of}
use Rattle.shoot.specs.HartSet.{byte_of, difference}
use Rattle.counterexamples.specs.WorkedRuns.{IsRun, two_harts}
use Rattle.counterexamples.specs.ShootdownRuns.{spaces_of_one_home}
use Rattle.counterexamples.specs.StalenessRuns as run

pub unnamed_hart : IsRun two_harts run.unnamed_hart
unfolding IsRun kind_of wish_fault path_end edit_of byte_of difference
unnamed_hart = refl

pub small_page_mapped_anew : IsRun two_harts run.small_page_mapped_anew
unfolding IsRun kind_of wish_fault path_end edit_of byte_of difference
small_page_mapped_anew = refl

pub same_page_of_another_space : IsRun spaces_of_one_home run.same_page_of_another_space
unfolding IsRun kind_of wish_fault path_end edit_of byte_of difference
same_page_of_another_space = refl

pub protected_once_more : IsRun two_harts run.protected_once_more
unfolding IsRun kind_of wish_fault path_end edit_of byte_of difference
protected_once_more = refl

pub unmapped_once_more : IsRun two_harts run.unmapped_once_more
unfolding IsRun kind_of wish_fault path_end edit_of byte_of difference
unmapped_once_more = refl

pub refused_changes : IsRun two_harts run.refused_changes
unfolding IsRun kind_of wish_fault path_end edit_of byte_of difference
refused_changes = refl
