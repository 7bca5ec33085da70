use Rattle.std.proofs.Common.{◌≡◌, ◌<◌, ◌∙◌, ℕ, List, ap, get_or, length, arith, rules}
use Rattle.std.proofs.lemmas.Grind.{get_or_default_zero}
use Rattle.watch_engine.specs.Chains.{bucket_of}
use Rattle.watch_engine.proofs.LastPlaces.{first}
use Rattle.watch_engine.proofs.chains.Chains.head.Goals as goal

pub returns : goal.returns
returns c =
    let heads : List ℕ = c.args.self.now.heads.items in
    let b : ℕ = c.bucket_of.result in
    let size : c.len.result ≡ length heads = search rules in
    let room : b < length heads = omega (arith, c.bucket_of.ensures.within) in
    let is : c.index.result.now ≡ get_or heads b 0 = c.index.ensures ∙ get_or_default_zero heads b _ room in
    first _ _ heads c.args.self.now.chains c.args.key c.index.result.now b room (c.bucket_of.ensures.is ∙ ap (λ (n : ℕ). bucket_of n c.args.key) size) is
