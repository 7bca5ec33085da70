use Rattle.std.proofs.Common.{◌≡◌, ◌<◌, ◌-◌, ◌∙◌, ℕ, List, get_or, length, sym, arith}
use Rattle.std.proofs.lemmas.Grind.{get_or_default_zero}
use Rattle.watch_engine.proofs.LastPlaces.{last_below, last_here, next}
use Rattle.watch_engine.proofs.chains.Chains.follow.Goals as goal

pub returns-then-index-key-clause-found : goal.returns-then-index-key-clause-found
returns-then-index-key-clause-found c =
    let keys : List ℕ = c.args.self.now.keys.items in
    let at : ℕ = c.loop-at.at in
    let within : at - 1 < length keys = omega arith in
    let here : get_or keys (at - 1) 0 ≡ c.args.key = sym (c.index.ensures ∙ get_or_default_zero keys (at - 1) _ within) ∙ c.if-index-key.true in
    λ found is. let same : at ≡ found = cc in
    sym same ∙ (sym (last_here c.args.key keys at (omega arith) c.loop-at.invariant.within here) ∙ c.loop-at.invariant.same)

pub loop-at-smaller : goal.loop-at-smaller
loop-at-smaller c =
    let links : List ℕ = c.args.self.now.links.items in
    let within : c.loop-at.at - 1 < length links = omega (arith, c.args.self.now.chains.linked) in
    let is : c.index-at.result.now ≡ get_or links (c.loop-at.at - 1) 0 = c.index-at.ensures ∙ get_or_default_zero links (c.loop-at.at - 1) _ within in
    (next _ links _ c.args.self.now.chains c.loop-at.at c.index-at.result.now (omega arith) c.loop-at.invariant.within is).smaller

pub loop-at-preserved : goal.loop-at-preserved
loop-at-preserved c =
    let keys : List ℕ = c.args.self.now.keys.items in
    let links : List ℕ = c.args.self.now.links.items in
    let at : ℕ = c.loop-at.at in
    let linked : at - 1 < length links = omega (arith, c.args.self.now.chains.linked) in
    let is : c.index-at.result.now ≡ get_or links (at - 1) 0 = c.index-at.ensures ∙ get_or_default_zero links (at - 1) _ linked in
    let older = next keys links c.args.self.now.heads.items c.args.self.now.chains at c.index-at.result.now (omega arith) c.loop-at.invariant.within is in
    let key_at : c.index.result.now ≡ get_or keys (at - 1) 0 = c.index.ensures ∙ get_or_default_zero keys (at - 1) _ (omega arith) in
    let bucket = c.loop-at.invariant.bucket (omega arith) in
    record {
      within = older.within;
      bucket = λ some. older.bucket some ∙ bucket;
      same =
          sym (last_below c.args.key keys at (omega arith) c.loop-at.invariant.within (λ e. c.if-index-key.false (key_at ∙ e))
          ∙ older.same c.args.key (sym bucket))
          ∙ c.loop-at.invariant.same;
      paid = omega (arith, c.loop-at.invariant.paid);
    }
