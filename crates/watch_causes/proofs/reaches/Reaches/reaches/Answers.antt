use Rattle.std.proofs.Common.{◌≡◌, ◌∙◌, ◌++◌, ◌∷◌, ◌<◌, ◌≤◌, None, Option, [], ap, arith, get_or, length, map, subst, sym, take, take_all, ℕ}
use Rattle.std.specs.BTreeMap.{get}
use Rattle.std.specs.Prelude.{is_some}
use Rattle.watch_causes.specs.declared.begun.Begun.{Begun}
use Rattle.watch_causes.specs.declared.reach.Reach.{Reach}
use Rattle.watch_causes.specs.Concerned.{AreListed}
use Rattle.watch_causes.specs.Decisions.{comes_from}
use Rattle.watch_causes.specs.Findings.{finding_cmp, finding_of}
use Rattle.watch_causes.specs.Reaches.{reach_among, reach_by}
use Rattle.watch_causes.specs.Returns.{AreLast}
use Rattle.watch_causes.proofs.Reaching.{next-item, reach-from}
use Rattle.watch_causes.proofs.reaches.Reaches.reaches.Goals as goal

pub returns : goal.returns
returns c = λ trace verdicts begun has same.
    let all : length begun ≤ c.loop-at.at = omega (arith, c.loop-at-test.false, ap length c.deref-begun-items.ensures.value, ap length has.findings) in
    c.loop-at.invariant trace verdicts begun has same ∙ ap (map (reach_among c.args.scheme trace verdicts)) (take_all c.loop-at.at begun all)

pub loop-at-preserved : goal.loop-at-preserved
loop-at-preserved c = λ trace verdicts begun has same.
    let at : ℕ = c.loop-at.at in
    let scheme = c.args.scheme in
    let self = c.args.self.now in
    let b : Begun = c.begun-item.result in
    let items : c.deref-begun-items.result.now ≡ begun = c.deref-begun-items.ensures.value ∙ has.findings in
    let low : at < length begun = omega (arith, c.loop-at-test.true, ap length items) in
    let own : b ≡ get_or begun at b = c.begun-item.is ∙ ap (λ bs. get_or bs at b) items in
    let start : c.start_at-start.result ≡ get_or self.starts.items at None =
    c.start_at-start.ensures ∙ ap (λ ss. get_or ss at None) c.as_slice-in-loop-at.ensures.value in
    let made : (k : Begun) → (s : Option ℕ) → Reach = λ k s.
    reach_by (is_some (get finding_cmp self.used (finding_of k.warning))) (comes_from scheme c.args.fences.now self.moves.kept.items k.warning s) in
    let reach : c.reach-reach.result ≡ reach_among scheme trace verdicts (get_or begun at b) =
    c.reach-reach.ensures (subst (λ ms. AreLast ms c.in_ok-lasts.lasts) c.behind-moves.ensures c.in_ok-lasts.ensures)
    (subst (λ ms. AreListed c.args.fences.now ms c.in_ok-lists.lists) c.behind-moves.ensures c.in_ok-lists.ensures.listed)
    ∙ (ap (made b) start
    ∙ (ap (λ k. made k (get_or self.starts.items at None)) own
    ∙ reach-from scheme trace verdicts self.moves.kept.items (get_or begun at b) (get_or self.starts.items at None) c.args.fences.now same _ (has.used _) (has.starts at b low))) in
    c.in_ok-push.ensures.items
    ∙ (ap (λ rs. rs ++ c.reach-reach.result ∷ []) (c.loop-at.invariant trace verdicts begun has same)
    ∙ (ap (λ r. map (reach_among scheme trace verdicts) (take at begun) ++ r ∷ []) reach
    ∙ sym (next-item (reach_among scheme trace verdicts) begun at b low)))
