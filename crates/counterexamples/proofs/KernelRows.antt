-- The worked runs of kernel pages, computed from the definitions alone.
use Rattle.std.proofs.Common.{refl}
use Rattle.pte.specs.Entry.{kind_of}
use Rattle.spaces.specs.Edits.{wish_fault, path_end, edit_of}
use Rattle.shoot.specs.HartSet.{byte_of, difference}
use Rattle.counterexamples.specs.WorkedRuns.{IsRun}
use Rattle.counterexamples.specs.KernelRuns as run

pub kernel_page_outlives_an_asid_fence : IsRun run.spaces_of_two_homes run.kernel_page_outlives_an_asid_fence
unfolding IsRun kind_of wish_fault path_end edit_of byte_of difference
kernel_page_outlives_an_asid_fence = refl
