-- The worked runs of shootdowns, computed from the definitions alone.
use Rattle.std.proofs.Common.{refl}
use Rattle.pte.specs.Entry.{kind_of}
use Rattle.spaces.specs.Edits.{wish_fault, path_end, edit_of}
use Rattle.shoot.specs.HartSet.{byte_of, difference}
use Rattle.counterexamples.specs.WorkedRuns.{IsRun, two_harts, three_harts}
use Rattle.counterexamples.specs.ShootdownRuns as run

pub superpage_shootdown : IsRun two_harts run.superpage_shootdown
unfolding IsRun kind_of wish_fault path_end edit_of byte_of difference
superpage_shootdown = refl

pub ticket_used_again : IsRun two_harts run.ticket_used_again
unfolding IsRun kind_of wish_fault path_end edit_of byte_of difference
ticket_used_again = refl

pub unmapped_in_mid_walk : IsRun two_harts run.unmapped_in_mid_walk
unfolding IsRun kind_of wish_fault path_end edit_of byte_of difference
unmapped_in_mid_walk = refl

pub mapped_anew_before_service : IsRun three_harts run.mapped_anew_before_service
unfolding IsRun kind_of wish_fault path_end edit_of byte_of difference
mapped_anew_before_service = refl

pub superpage_made_read_only : IsRun two_harts run.superpage_made_read_only
unfolding IsRun kind_of wish_fault path_end edit_of byte_of difference
superpage_made_read_only = refl

pub space_flush : IsRun run.spaces_of_one_home run.space_flush
unfolding IsRun kind_of wish_fault path_end edit_of byte_of difference
space_flush = refl
