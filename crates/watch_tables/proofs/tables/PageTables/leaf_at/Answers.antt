use Rattle.std.proofs.Common.{◌∙◌, ap}
use Rattle.pte.specs.Address.{level_of, pages_of}
use Rattle.watch_tables.specs.Words.{words}
use Rattle.watch_tables.proofs.Paths.{leaf-iff, no-leaf}
use Rattle.watch_tables.proofs.tables.PageTables.leaf_at.Goals as goal

pub returns-in_default : goal.returns-in_default
returns-in_default c = λ e same. (
  (λ leaf. absurd (no-leaf c.args.scheme (words c.args.self.now) c.args.root c.args.page c.base-base.result c.level-level.result c.base-base.ensures.value (c.level-level.ensures.level ∙ ap level_of c.size-size.ensures) (c.table_at.ensures.none c.in_default.is) e same leaf)),
  (λ is. cc),
)

pub returns : goal.returns
returns c =
    leaf-iff c.args.scheme (words c.args.self.now) c.args.root c.args.page c.base-base.result c.level-level.result c.vpn.result (pages_of c.size-size.result) c.in-Some.at c.kind.result c.from_kind.result
    c.base-base.ensures.value (c.level-level.ensures.level ∙ ap level_of c.size-size.ensures) (ap pages_of c.size-size.ensures) (c.fits.ensures.page.0 c.if-not-fits.false)
    c.in-Some.ensures.some c.from_kind.ensures c.kind.ensures c.vpn.ensures
