use Rattle.std.proofs.Common.{◌≡◌, drop}
use Rattle.std.specs.List.{list_any}
use Rattle.watch.specs.Computed.{is_mapped}
use Rattle.watch_engine.proofs.tables.Tables.is_mapped_in_any.Given as goal

abbrev pub invariant-loop-root : goal.invariant-loop-root
invariant-loop-root g l =
    list_any (λ root. is_mapped l.scheme (g.Self.Tables.words l.self) (record { root = root; entry = l.entry })) (drop l.root-index l.roots)
    ≡ list_any (λ root. is_mapped l.scheme (g.Self.Tables.words l.self) (record { root = root; entry = l.entry })) l.roots
