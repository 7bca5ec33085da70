use Rattle.std.proofs.Common.{ℕ, ◌≡◌, ◌∙◌, ap, sym, subst, Option, Some}
use Rattle.std.proofs.lemmas.Bool.{not-true}
use Rattle.walk.specs.Leads.{PointsTo}
use Rattle.walk.specs.Maps.{page_number}
use Rattle.watch.specs.Trace.{index_of}
use Rattle.watch_tables.specs.Words.{since, words}
use Rattle.watch_tables.proofs.SameWays.{keeps-ways}
use Rattle.watch_tables.proofs.tables.PageTables.keeps_ways.Goals as goal

pub returns : goal.returns
returns c = λ keeps.
    let address : ℕ = c.args.address in
    let is : words c.args.self.now (page_number address) (index_of address) ≡ Some c.word.result = ap (words c.args.self.now (page_number address)) (sym c.index_of.ensures.index) ∙ c.word.ensures in
    keeps-ways (words c.args.self.now) (since c.args.self.now) address c.args.word
    (λ next point. c.is_pointer-2.ensures (not-true c.is_pointer-2.result keeps) next (subst (λ (o : Option ℕ). PointsTo o next) is point))
    (c.is_pointer.ensures c.if-is_pointer.false)
