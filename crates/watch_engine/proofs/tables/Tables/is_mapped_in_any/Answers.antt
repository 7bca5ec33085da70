use Rattle.std.proofs.Common.{◌≡◌, ◌∙◌, ℕ, false, get_or, sym}
use Rattle.std.proofs.lemmas.List.Folds.{list_any_at}
use Rattle.watch.specs.Computed.{is_mapped}
use Rattle.watch.proofs.Computed.{mapped_iff}
use Rattle.watch_tables.proofs.RootWords.{any_past}
use Rattle.watch_engine.proofs.Lists.{same_truth}
use Rattle.watch_engine.proofs.tables.Tables.is_mapped_in_any.Goals as goal

pub returns-then-is_mapped : goal.returns-then-is_mapped
returns-then-is_mapped g c =
    let root : ℕ = get_or c.args.roots.now c.loop-root.root-index 0 in
    let test = mapped_iff c.args.scheme (g.Self.Tables.words c.args.self.now) (record { root = root; entry = c.args.entry.now }) in
    sym (list_any_at _ c.args.roots.now c.loop-root.root-index 0 c.loop-root-test.true (test.1 (c.is_mapped.ensures.0 c.if-is_mapped.true)))

pub loop-root-preserved : goal.loop-root-preserved
loop-root-preserved g c =
    let root : ℕ = get_or c.args.roots.now c.loop-root.root-index 0 in
    let test = mapped_iff c.args.scheme (g.Self.Tables.words c.args.self.now) (record { root = root; entry = c.args.entry.now }) in
    let none : is_mapped c.args.scheme (g.Self.Tables.words c.args.self.now) (record { root = root; entry = c.args.entry.now }) ≡ false = sym (same_truth _ _ _ c.is_mapped.ensures test) ∙ c.if-is_mapped.false in
    sym (any_past _ c.args.roots.now c.loop-root.root-index 0 c.loop-root-test.true none) ∙ c.loop-root.invariant
