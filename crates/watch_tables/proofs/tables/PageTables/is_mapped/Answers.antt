use Rattle.std.proofs.Common.{◌≡◌, subst}
use Rattle.watch_tables.specs.declared.leaf.Leaf.{Leaf}
use Rattle.watch_tables.specs.Words.{words}
use Rattle.watch_tables.specs.Paths.{IsAtLeast}
use Rattle.watch_tables.proofs.Paths.{leaf-mapped, mapped-leaf}
use Rattle.watch_tables.proofs.tables.PageTables.is_mapped.Goals as goal

pub returns-in-Some : goal.returns-in-Some
returns-in-Some c = (
  (λ yes. mapped-leaf c.args.scheme (words c.args.self.now) c.args.root c.args.entry.now c.leaf_at.result c.leaf_at.ensures c.in-Some.leaf c.in-Some.is (c.is_at_least.ensures.0 yes)),
  (λ m.
      let found = leaf-mapped c.args.scheme (words c.args.self.now) c.args.root c.args.entry.now c.leaf_at.result c.leaf_at.ensures m in
      let same : found.0 ≡ c.in-Some.leaf = (let e = found.1 in let f = c.in-Some.is in cc) in
      c.is_at_least.ensures.1 (subst (λ (l : Leaf). IsAtLeast l c.args.entry.now) same found.2)),
)

pub returns-in-None : goal.returns-in-None
returns-in-None c = (
  (λ never. cc),
  (λ m. let found = leaf-mapped c.args.scheme (words c.args.self.now) c.args.root c.args.entry.now c.leaf_at.result c.leaf_at.ensures m in let e = found.1 in let f = c.in-None.is in cc),
)
