use Rattle.std.proofs.Common.{◌∙◌, ap, refl, Some}
use Rattle.watch_tables.proofs.tables.PageTables.has_leaf.Goals as goal

pub returns-in-Some : goal.returns-in-Some
returns-in-Some c =
    let exact = c.leaf_at.ensures c.args.entry.now refl in (
      (λ yes. exact.1 (c.in-Some.is ∙ ap Some (c.is_of.ensures.0 yes))),
      (λ leaf. c.is_of.ensures.1 (let found = exact.0 leaf in let is = c.in-Some.is in cc)),
    )

pub returns-in-None : goal.returns-in-None
returns-in-None c = ((λ never. cc), (λ leaf. let found = (c.leaf_at.ensures c.args.entry.now refl).0 leaf in let is = c.in-None.is in cc))
