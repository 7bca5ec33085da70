use Rattle.std.proofs.Common.{◌≡◌, Some, ℕ, drop, false}
use Rattle.std.specs.List.{list_any}
use Rattle.pte.specs.Address.{top_level, vpn_of}
use Rattle.watch.specs.Computed.{is_mapped}
use Rattle.watch_tables.specs.Words.{words}
use Rattle.watch_tables.proofs.tables.PageTables.is_mapped_in_any.Given as goal

abbrev pub invariant-loop-root : goal.invariant-loop-root
invariant-loop-root l =
    (list_any (λ root. is_mapped l.scheme (words l.self) (record { root = root; entry = l.entry })) (drop l.root-index l.roots)
    ≡ list_any (λ root. is_mapped l.scheme (words l.self) (record { root = root; entry = l.entry })) l.roots)
    × (l.index ≡ vpn_of l.entry.page.base (top_level l.scheme))
    × ((other : ℕ) → words l.self other (vpn_of l.entry.page.base (top_level l.scheme)) ≡ Some l.walked → is_mapped l.scheme (words l.self) (record { root = other; entry = l.entry }) ≡ false)
