-- What is false of runs in which spaces do what no lawful run has, computed from their histories.
use Rattle.pte.specs.declared.scheme.Scheme.TheVariants.{Sv39}
use Rattle.std.proofs.Common.{◌≡◌, ◌+◌, false, Ok, refl, arith, inl}
use Rattle.pte.specs.declared.permission.Access.TheVariants as access
use Rattle.pte.specs.Entry.{kind_of}
use Rattle.walk.specs.declared.found_or_trap.Found.{Found}
use Rattle.walk.specs.Maps.{Maps}
use Rattle.walk.proofs.FoundMembers.{found_member}
use Rattle.walk.proofs.Unique.{level_count_loads}
use Rattle.spaces.specs.Edits.{wish_fault, path_end, edit_of}
use Rattle.history.specs.Tables.{words_of}
use Rattle.counterexamples.specs.WorkedRuns.{history_of, small_page, flags, R, U, A, D, user}
use Rattle.counterexamples.specs.ShootdownRuns.{spaces_of_one_home}
use Rattle.counterexamples.specs.UnlawfulRuns.{created_with_a_used_asid, mapped_in_a_free_space}
use Rattle.laws.specs.Kept.{AsidsDiffer, FreeMapsNothing}

pub used_asid : ¬ AsidsDiffer spaces_of_one_home (history_of created_with_a_used_asid)
used_asid differ = let same : 0 ≡ 1 = differ 0 1 (omega arith) (omega arith) refl refl refl in omega (arith, same)

-- the page of space 1 that was mapped while it is free
abbrev found : Found
found = record { pa = 0x100000; page = small_page 0x1000; ppn = 0x100; flags = flags (R + U + A + D); global = false }

maps : Maps Sv39 (words_of spaces_of_one_home (history_of mapped_in_a_free_space)) 0x80002 1 0x100 (flags (R + U + A + D)) false
unfolding kind_of wish_fault path_end edit_of
maps =
    found_member Sv39 (words_of spaces_of_one_home (history_of mapped_in_a_free_space)) 0x80002 0x1000 access.Load user found
    ((level_count_loads Sv39 (words_of spaces_of_one_home (history_of mapped_in_a_free_space)) 0x80002 0x1000 access.Load user (Ok found) (inl (omega arith))).1 refl)

pub mapped_while_free : ¬ FreeMapsNothing spaces_of_one_home (history_of mapped_in_a_free_space)
mapped_while_free nothing =
    nothing 1 (small_page 0x1000) 1 0x100 (flags (R + U + A + D)) false (omega arith) refl (record { canonical = inl (omega arith); aligned = refl }) refl
    (record { from = omega arith; to = omega arith }) maps
