-- Worked runs after which hart 1 still translates an address, though the page was unmapped or
-- changed.
use Rattle.std.proofs.Common.{◌≡◌, [], ◌∷◌, refl, arith, inl}
use Rattle.pte.specs.Entry.{kind_of}
use Rattle.spaces.specs.Edits.{wish_fault, path_end, edit_of}
use Rattle.tlb.specs.Mappings.{IsMappedBy, Translates}
use Rattle.history.specs.Harts.{entries_of}
use Rattle.counterexamples.specs.WorkedRuns.{history_of, large_page, small_page, two_harts}
use Rattle.counterexamples.specs.ShootdownRuns as shootdowns
use Rattle.counterexamples.specs.StalenessRuns as staleness
use Rattle.counterexamples.specs.WorkedEntries.{entry, read_only_entry}
use Rattle.counterexamples.proofs.Promises.{one_translates}

unnamed_held : entries_of two_harts (history_of staleness.unnamed_hart) 1 ≡ entry 1 (large_page 0x400000) 0x200 ∷ []
unfolding kind_of wish_fault path_end edit_of
unnamed_held = refl

pub unnamed : Translates (IsMappedBy (entries_of two_harts (history_of staleness.unnamed_hart) 1)) 1 0x400000
unnamed =
    one_translates (entries_of two_harts (history_of staleness.unnamed_hart) 1) (entry 1 (large_page 0x400000) 0x200) 1 0x400000 unnamed_held
    (record { canonical = inl (omega arith); aligned = refl }) refl

mapped_anew_held : entries_of two_harts (history_of staleness.small_page_mapped_anew) 1 ≡ read_only_entry 1 (small_page 0x401000) 0x100 ∷ []
unfolding kind_of wish_fault path_end edit_of
mapped_anew_held = refl

pub mapped_anew : Translates (IsMappedBy (entries_of two_harts (history_of staleness.small_page_mapped_anew) 1)) 1 0x401004
mapped_anew =
    one_translates (entries_of two_harts (history_of staleness.small_page_mapped_anew) 1) (read_only_entry 1 (small_page 0x401000) 0x100) 1 0x401004 mapped_anew_held
    (record { canonical = inl (omega arith); aligned = refl }) refl

of_another_space_held : entries_of shootdowns.spaces_of_one_home (history_of staleness.same_page_of_another_space) 1 ≡ read_only_entry 2 (small_page 0x1000) 0x101 ∷ []
unfolding kind_of wish_fault path_end edit_of
of_another_space_held = refl

pub of_another_space : Translates (IsMappedBy (entries_of shootdowns.spaces_of_one_home (history_of staleness.same_page_of_another_space) 1)) 2 0x1004
of_another_space =
    one_translates (entries_of shootdowns.spaces_of_one_home (history_of staleness.same_page_of_another_space) 1) (read_only_entry 2 (small_page 0x1000) 0x101) 2 0x1004 of_another_space_held
    (record { canonical = inl (omega arith); aligned = refl }) refl

protected_held : entries_of two_harts (history_of staleness.held_read_only) 1 ≡ read_only_entry 1 (large_page 0x400000) 0x200 ∷ []
unfolding kind_of wish_fault path_end edit_of
protected_held = refl

pub protected : Translates (IsMappedBy (entries_of two_harts (history_of staleness.held_read_only) 1)) 1 0x400000
protected =
    one_translates (entries_of two_harts (history_of staleness.held_read_only) 1) (read_only_entry 1 (large_page 0x400000) 0x200) 1 0x400000 protected_held
    (record { canonical = inl (omega arith); aligned = refl }) refl

unacknowledged_held : entries_of two_harts (history_of shootdowns.read_only_until_service) 1 ≡ entry 1 (large_page 0x400000) 0x200 ∷ []
unfolding kind_of wish_fault path_end edit_of
unacknowledged_held = refl

pub unacknowledged : Translates (IsMappedBy (entries_of two_harts (history_of shootdowns.read_only_until_service) 1)) 1 0x400000
unacknowledged =
    one_translates (entries_of two_harts (history_of shootdowns.read_only_until_service) 1) (entry 1 (large_page 0x400000) 0x200) 1 0x400000 unacknowledged_held
    (record { canonical = inl (omega arith); aligned = refl }) refl

protected_once_more_held : entries_of two_harts (history_of staleness.protected_once_more) 1 ≡ read_only_entry 1 (large_page 0x400000) 0x200 ∷ []
unfolding kind_of wish_fault path_end edit_of
protected_once_more_held = refl

pub protected_once_more : Translates (IsMappedBy (entries_of two_harts (history_of staleness.protected_once_more) 1)) 1 0x400000
protected_once_more =
    one_translates (entries_of two_harts (history_of staleness.protected_once_more) 1) (read_only_entry 1 (large_page 0x400000) 0x200) 1 0x400000 protected_once_more_held
    (record { canonical = inl (omega arith); aligned = refl }) refl

unmapped_once_more_held : entries_of two_harts (history_of staleness.unmapped_once_more) 1 ≡ read_only_entry 1 (large_page 0x400000) 0x200 ∷ []
unfolding kind_of wish_fault path_end edit_of
unmapped_once_more_held = refl

pub unmapped_once_more : Translates (IsMappedBy (entries_of two_harts (history_of staleness.unmapped_once_more) 1)) 1 0x400000
unmapped_once_more =
    one_translates (entries_of two_harts (history_of staleness.unmapped_once_more) 1) (read_only_entry 1 (large_page 0x400000) 0x200) 1 0x400000 unmapped_once_more_held
    (record { canonical = inl (omega arith); aligned = refl }) refl
