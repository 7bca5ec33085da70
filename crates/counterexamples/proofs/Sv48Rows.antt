-- The worked runs with Sv48, computed from the definitions alone.
use Rattle.std.proofs.Common.{refl}
use Rattle.pte.specs.Entry.{kind_of}
use Rattle.spaces.specs.Edits.{wish_fault, path_end, edit_of}
use Rattle.shoot.specs.HartSet.{byte_of, difference}
use Rattle.counterexamples.specs.WorkedRuns.{IsRun, two_harts}
use Rattle.counterexamples.specs.Sv48Runs as run

pub terapage_shootdown : IsRun run.two_harts_in_sv48 run.terapage_shootdown
unfolding IsRun kind_of wish_fault path_end edit_of byte_of difference
terapage_shootdown = refl

pub shootdown_over_four_levels : IsRun run.two_harts_in_sv48 run.shootdown_over_four_levels
unfolding IsRun kind_of wish_fault path_end edit_of byte_of difference
shootdown_over_four_levels = refl

pub pages_that_do_not_fit : IsRun two_harts run.pages_that_do_not_fit
unfolding IsRun kind_of wish_fault path_end edit_of byte_of difference
pages_that_do_not_fit = refl

pub page_that_does_not_fit_sv48 : IsRun run.two_harts_in_sv48 run.page_that_does_not_fit_sv48
unfolding IsRun kind_of wish_fault path_end edit_of byte_of difference
page_that_does_not_fit_sv48 = refl
