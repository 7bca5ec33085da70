use Rattle.std.proofs.Common.{◌≡◌, ◌-◌, ◌∙◌, ℕ, List, ap, get_or, length, subst, suc, sym, take, arith}
use Rattle.watch_engine.specs.Chains.{AreChained, bucket_of}
use Rattle.watch_engine.proofs.Unlinking.{unlinked}
use Rattle.watch_engine.proofs.relinked.unlink_from.Goals as goal

pub loop-place-preserved : goal.loop-place-preserved
loop-place-preserved c =
    let keys : List ℕ = c.args.keys.now in
    let n : ℕ = length c.args.heads.now in
    let at : ℕ = c.loop-place.place in
    let many : length c.loop-place.heads ≡ n = c.loop-place.auto.heads in
    let back : suc (at - 1) ≡ at = omega arith in
    let before : AreChained n (take (suc (at - 1)) keys) c.args.links.now c.loop-place.heads = subst (λ (m : ℕ). AreChained n (take m keys) c.args.links.now c.loop-place.heads) (sym back) c.loop-place.invariant.chained in
    record {
      from = omega arith;
      within = omega arith;
      chained = unlinked n keys c.args.links.now c.loop-place.heads (at - 1) c.bucket_of-bucket.result (omega arith) many (omega arith) (c.bucket_of-bucket.ensures.is ∙ ap (λ (m : ℕ). bucket_of m (get_or keys (at - 1) 0)) many) before;
    }
