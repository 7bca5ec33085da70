use Rattle.std.proofs.Common.{◌≡◌, ◌<◌, ◌∙◌, ℕ, List, ap, get_or, length, arith, rules}
use Rattle.std.proofs.lemmas.Grind.{get_or_default_zero}
use Rattle.watch_engine.specs.Chains.{bucket_of}
use Rattle.watch_engine.proofs.LastPlaces.{first}
use Rattle.watch_engine.proofs.chains.Chains.newest.Goals as goal

pub follow-requires-clause-within : goal.follow-requires-clause-within
follow-requires-clause-within c =
    let heads : List ℕ = c.args.self.now.heads.items in
    let b : ℕ = c.bucket_of-bucket.result in
    let size : c.len.result ≡ length heads = search rules in
    let room : b < length heads = omega (arith, c.bucket_of-bucket.ensures.within) in
    let is : c.index.result.now ≡ get_or heads b 0 = c.index.ensures ∙ get_or_default_zero heads b _ room in
    (first _ _ heads c.args.self.now.chains c.args.key c.index.result.now b room (c.bucket_of-bucket.ensures.is ∙ ap (λ (n : ℕ). bucket_of n c.args.key) size) is).within

pub follow-requires-clause-bucket : goal.follow-requires-clause-bucket
follow-requires-clause-bucket c =
    let heads : List ℕ = c.args.self.now.heads.items in
    let b : ℕ = c.bucket_of-bucket.result in
    let size : c.len.result ≡ length heads = search rules in
    let room : b < length heads = omega (arith, c.bucket_of-bucket.ensures.within) in
    let is : c.index.result.now ≡ get_or heads b 0 = c.index.ensures ∙ get_or_default_zero heads b _ room in
    (first _ _ heads c.args.self.now.chains c.args.key c.index.result.now b room (c.bucket_of-bucket.ensures.is ∙ ap (λ (n : ℕ). bucket_of n c.args.key) size) is).bucket

pub returns-clause-found : goal.returns-clause-found
returns-clause-found c =
    let heads : List ℕ = c.args.self.now.heads.items in
    let b : ℕ = c.bucket_of-bucket.result in
    let size : c.len.result ≡ length heads = search rules in
    let room : b < length heads = omega (arith, c.bucket_of-bucket.ensures.within) in
    let is : c.index.result.now ≡ get_or heads b 0 = c.index.ensures ∙ get_or_default_zero heads b _ room in
    λ at is_at. c.follow.ensures.found at is_at ∙ (first _ _ heads c.args.self.now.chains c.args.key c.index.result.now b room (c.bucket_of-bucket.ensures.is ∙ ap (λ (n : ℕ). bucket_of n c.args.key) size) is).same
