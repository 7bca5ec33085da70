-- The worked runs of accesses, computed from the definitions alone.
use Rattle.std.proofs.Common.{refl}
use Rattle.pte.specs.Entry.{kind_of}
use Rattle.spaces.specs.Edits.{wish_fault, path_end, edit_of}
use Rattle.shoot.specs.HartSet.{byte_of, difference}
use Rattle.counterexamples.specs.WorkedRuns.{IsRun, one_hart, two_harts}
use Rattle.counterexamples.specs.ShootdownRuns.{spaces_of_one_home}
use Rattle.counterexamples.specs.TranslationRuns as run

pub page_of_one_gib : IsRun two_harts run.page_of_one_gib
unfolding IsRun kind_of wish_fault path_end edit_of byte_of difference
page_of_one_gib = refl

pub code_fetched : IsRun two_harts run.code_fetched
unfolding IsRun kind_of wish_fault path_end edit_of byte_of difference
code_fetched = refl

pub code_loaded : IsRun one_hart run.code_loaded
unfolding IsRun kind_of wish_fault path_end edit_of byte_of difference
code_loaded = refl

pub user_data_by_supervisor : IsRun two_harts run.user_data_by_supervisor
unfolding IsRun kind_of wish_fault path_end edit_of byte_of difference
user_data_by_supervisor = refl

pub page_not_accessed : IsRun one_hart run.page_not_accessed
unfolding IsRun kind_of wish_fault path_end edit_of byte_of difference
page_not_accessed = refl

pub pages_of_sv48 : IsRun run.one_hart_of_sv48 run.pages_of_sv48
unfolding IsRun kind_of wish_fault path_end edit_of byte_of difference
pages_of_sv48 = refl

pub spaces_of_each_hart : IsRun spaces_of_one_home run.spaces_of_each_hart
unfolding IsRun kind_of wish_fault path_end edit_of byte_of difference
spaces_of_each_hart = refl

pub walks_of_two_harts : IsRun two_harts run.walks_of_two_harts
unfolding IsRun kind_of wish_fault path_end edit_of byte_of difference
walks_of_two_harts = refl
