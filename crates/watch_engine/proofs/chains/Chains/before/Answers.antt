use Rattle.std.proofs.Common.{◌≡◌, ◌<◌, ◌-◌, ◌∙◌, ℕ, List, ap, get_or, length, refl, sym, take, arith}
use Rattle.std.proofs.lemmas.Grind.{get_or_default_zero}
use Rattle.watch_engine.specs.Chains.{bucket_of, last_place}
use Rattle.watch_engine.proofs.LastPlaces.{next}
use Rattle.watch_engine.proofs.chains.Chains.before.Goals as goal

pub follow-requires-clause-within : goal.follow-requires-clause-within
follow-requires-clause-within c =
    let links : List ℕ = c.args.self.now.links.items in
    let linked : c.args.place - 1 < length links = omega (arith, c.args.self.now.chains.linked) in
    let is : c.index-2.result.now ≡ get_or links (c.args.place - 1) 0 = c.index-2.ensures ∙ get_or_default_zero links (c.args.place - 1) _ linked in
    (next _ links _ c.args.self.now.chains c.args.place c.index-2.result.now c.requires.some c.requires.within is).within

pub follow-requires-clause-bucket : goal.follow-requires-clause-bucket
follow-requires-clause-bucket c =
    let keys : List ℕ = c.args.self.now.keys.items in
    let links : List ℕ = c.args.self.now.links.items in
    let linked : c.args.place - 1 < length links = omega (arith, c.args.self.now.chains.linked) in
    let is : c.index-2.result.now ≡ get_or links (c.args.place - 1) 0 = c.index-2.ensures ∙ get_or_default_zero links (c.args.place - 1) _ linked in
    let key : c.index.result.now ≡ get_or keys (c.args.place - 1) 0 = c.index.ensures ∙ get_or_default_zero keys (c.args.place - 1) _ (omega arith) in
    λ some. (next _ links _ c.args.self.now.chains c.args.place c.index-2.result.now c.requires.some c.requires.within is).bucket some
    ∙ ap (bucket_of (length c.args.self.now.heads.items)) (sym key)

pub returns-clause-found : goal.returns-clause-found
returns-clause-found c =
    let keys : List ℕ = c.args.self.now.keys.items in
    let links : List ℕ = c.args.self.now.links.items in
    let linked : c.args.place - 1 < length links = omega (arith, c.args.self.now.chains.linked) in
    let is : c.index-2.result.now ≡ get_or links (c.args.place - 1) 0 = c.index-2.ensures ∙ get_or_default_zero links (c.args.place - 1) _ linked in
    let key : c.index.result.now ≡ get_or keys (c.args.place - 1) 0 = c.index.ensures ∙ get_or_default_zero keys (c.args.place - 1) _ (omega arith) in
    λ at is_at. c.follow.ensures.found at is_at ∙ (ap (λ (k : ℕ). last_place k (take c.index-2.result.now keys)) key
    ∙ sym ((next _ links _ c.args.self.now.chains c.args.place c.index-2.result.now c.requires.some c.requires.within is).same (get_or keys (c.args.place - 1) 0) refl))
