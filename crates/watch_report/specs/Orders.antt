-- The order of the verdicts at a record.
use Rattle.std.specs.Prelude.{ℕ, List, [], ◌∷◌}
use Rattle.std.specs.Int.{from_bool}
use Rattle.std.specs.Cmp.Lexicographic.{slice_cmp}
use Rattle.std.specs.Ordering.{nat_cmp}
use Rattle.std.specs.List.Sorted.{IsSortedByKey}
use Rattle.pte.specs.Address.{level_of}
use Rattle.pte.specs.Entry.{is_user, may_execute, may_read, may_write}
use Rattle.watch_causes.specs.Findings.{verdict_number}
use Rattle.watch_engine.specs.declared.warning.Warning.{Warning}

-- what it goes by: the hart, the page's first address and its size, PPN, rights (U, X, W, R), owner, kind,
-- root and ASID
unfoldable pub order_key : Warning → List ℕ
order_key w =
    w.hart ∷ w.entry.page.base ∷ level_of w.entry.page.size ∷ w.entry.ppn
    ∷ from_bool (is_user w.entry.flags.0) ∷ from_bool (may_execute w.entry.flags.0)
    ∷ from_bool (may_write w.entry.flags.0) ∷ from_bool (may_read w.entry.flags.0)
    ∷ from_bool w.entry.global ∷ verdict_number w.verdict ∷ w.root ∷ w.entry.asid ∷ []

-- none has less than the one before it
abbrev pub IsInOrder : List Warning → Type 0
IsInOrder warnings = IsSortedByKey order_key (slice_cmp nat_cmp) warnings
