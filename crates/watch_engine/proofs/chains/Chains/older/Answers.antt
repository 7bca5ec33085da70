use Rattle.std.proofs.Common.{◌≡◌, ◌<◌, ◌-◌, ◌∙◌, ℕ, List, get_or, length, arith}
use Rattle.std.proofs.lemmas.Grind.{get_or_default_zero}
use Rattle.watch_engine.proofs.LastPlaces.{next}
use Rattle.watch_engine.proofs.chains.Chains.older.Goals as goal

pub returns : goal.returns
returns c =
    let links : List ℕ = c.args.self.now.links.items in
    let linked : c.args.at - 1 < length links = omega (arith, c.args.self.now.chains.linked) in
    let is : c.index.result.now ≡ get_or links (c.args.at - 1) 0 = c.index.ensures ∙ get_or_default_zero links (c.args.at - 1) _ linked in
    next _ links _ c.args.self.now.chains c.args.at c.index.result.now c.requires.some c.requires.within is
